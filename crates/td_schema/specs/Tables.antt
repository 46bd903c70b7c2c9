-- The tables, as SQLite understands their texts; where their rows stand is settled as they are made.
use Rattle.std.specs.Prelude.{ℕ, pos, true, false, List, [], ◌∷◌, Some, None, codes, ◌≡◌}
use Rattle.sqlite_value.specs.declared.keys.Collation.TheVariants.{Binary}
use Rattle.sqlite_value.specs.declared.keys.Order.{Order}
use Rattle.sqlite_value.specs.declared.value.Value.{Value}
use Rattle.sqlite_value.specs.declared.value.Value.TheVariants.{Null, Int, Text}
use Rattle.sqlite_sql.specs.Term.{Term, lit, col, op2}
use Rattle.sqlite_sql.specs.declared.ops.BinaryOp.TheVariants.{Compare, And, Or}
use Rattle.sqlite_sql.specs.declared.ops.CompareOp.TheVariants.{Eq, Le, Ge}
use Rattle.sqlite_schema.specs.declared.schema.Table.{Table}
use Rattle.sqlite_schema.specs.declared.schema.Column.{Column}
use Rattle.sqlite_schema.specs.declared.schema.Schema.{Schema}
use Rattle.sqlite_schema.specs.declared.schema.Reference.{Reference}
use Rattle.sqlite_schema.specs.declared.schema.Stamps.{Stamps}
use Rattle.sqlite_schema.specs.declared.schema.Action.TheVariants.{NoAction}
use Rattle.sqlite_schema.specs.declared.schema.Kind.{Kind}
use Rattle.sqlite_schema.specs.declared.schema.Kind.TheVariants as kind
use Rattle.sqlite.specs.Effect.{Database}
use Rattle.std.specs.List.{AllByRecursion}

-- a column that is never NULL, and one that may be
abbrev pub always : Kind → List ℕ → Column
always k name = record { name = name; kind = k; is_strict = true; not_null = true; default = Null; collation = Binary }

abbrev pub optional : Kind → List ℕ → Column
optional k name = record { name = name; kind = k; is_strict = true; not_null = false; default = Null; collation = Binary }

-- an index whose entries ascend
abbrev pub plain : Order
plain = record { digits = 0 }

-- no default reads the time
abbrev pub no_stamps : Stamps
no_stamps = record { places = []; terms = []; formats = [] }

-- the value at a place of a row is this one; lies between two
abbrev pub equals : ℕ → Value → Term
equals at v = op2 (Compare Eq Binary) (col 1 at) (lit v)

abbrev pub between : ℕ → ℕ → ℕ → Term
between at low high = op2 And (op2 (Compare Ge Binary) (col 1 at) (lit (Int (pos low)))) (op2 (Compare Le Binary) (col 1 at) (lit (Int (pos high))))

-- the value at a place of a row is from 0 to the one at another
abbrev pub up_to : ℕ → ℕ → Term
up_to at most = op2 And (op2 (Compare Ge Binary) (col 1 at) (lit (Int (pos 0)))) (op2 (Compare Le Binary) (col 1 at) (col 1 most))

-- the columns at these places name a row of the parent by its primary key; what a row refers to isn't taken away
abbrev pub refers : List ℕ → List ℕ → Reference
refers places parent = record { columns = places; parent = parent; parent_columns = []; on_delete = NoAction; on_update = NoAction; is_deferred = false }

abbrev pub meta : Table
meta = record {
  name = codes "meta";
  tree = 0;
  columns = optional kind.Integer (codes "one") ∷ always kind.Integer (codes "version") ∷ always kind.Text (codes "country") ∷ [];
  key = Some 0;
  primary = 0 ∷ [];
  uniques = [];
  orders = [];
  checks = equals 0 (Int (pos 1)) ∷ [];
  references = [];
  computed = [];
  stamps = no_stamps;
  is_counted = false;
}

abbrev pub holders : Table
holders = record {
  name = codes "holders";
  tree = 0;
  columns = optional kind.Integer (codes "holder") ∷ always kind.Text (codes "eori") ∷ always kind.Integer (codes "last_at")
      ∷ always kind.Integer (codes "grn_count") ∷ always kind.Integer (codes "mrn_count") ∷ [];
  key = Some 0;
  primary = 0 ∷ [];
  uniques = [];
  orders = [];
  checks = between 0 1 999999 ∷ [];
  references = [];
  computed = [];
  stamps = no_stamps;
  is_counted = false;
}

abbrev pub codes_table : Table
codes_table = record {
  name = codes "codes";
  tree = 0;
  columns = always kind.Integer (codes "holder") ∷ always kind.Integer (codes "serial") ∷ always kind.Text (codes "code") ∷ [];
  key = None;
  primary = 1 ∷ 2 ∷ 3 ∷ [];
  uniques = (1 ∷ 2 ∷ 3 ∷ []) ∷ [];
  orders = plain ∷ [];
  checks = [];
  references = refers (1 ∷ []) (codes "holders") ∷ [];
  computed = [];
  stamps = no_stamps;
  is_counted = false;
}

-- the state is one of the eight names
abbrev pub is_state : Term
is_state =
    op2 Or
    (op2 Or (op2 Or (equals 8 (Text (codes "accepted"))) (equals 8 (Text (codes "cancelled")))) (op2 Or (equals 8 (Text (codes "released"))) (equals 8 (Text (codes "enquired")))))
    (op2 Or (op2 Or (equals 8 (Text (codes "arrived"))) (equals 8 (Text (codes "discrepant")))) (op2 Or (equals 8 (Text (codes "cleared"))) (equals 8 (Text (codes "written-off")))))

abbrev pub movements : Table
movements = record {
  name = codes "movements";
  tree = 0;
  columns = always kind.Integer (codes "holder") ∷ always kind.Integer (codes "serial") ∷ always kind.Text (codes "mrn")
      ∷ always kind.Text (codes "lrn") ∷ always kind.Text (codes "departure") ∷ always kind.Text (codes "destination")
      ∷ always kind.Integer (codes "accepted") ∷ always kind.Text (codes "state") ∷ optional kind.Integer (codes "limit_day")
      ∷ optional kind.Integer (codes "arrival") ∷ optional kind.Text (codes "actual") ∷ [];
  key = None;
  primary = 1 ∷ 2 ∷ [];
  uniques = (3 ∷ []) ∷ (1 ∷ 2 ∷ []) ∷ (1 ∷ 4 ∷ []) ∷ [];
  orders = plain ∷ plain ∷ plain ∷ [];
  checks = is_state ∷ [];
  references = refers (1 ∷ []) (codes "holders") ∷ [];
  computed = [];
  stamps = no_stamps;
  is_counted = false;
}

-- the cover is one of the four
abbrev pub is_cover : Term
is_cover = op2 Or (op2 Or (equals 5 (Int (pos 0))) (equals 5 (Int (pos 30)))) (op2 Or (equals 5 (Int (pos 50))) (equals 5 (Int (pos 100))))

abbrev pub guarantees : Table
guarantees = record {
  name = codes "guarantees1";
  tree = 0;
  columns = always kind.Integer (codes "holder") ∷ always kind.Integer (codes "serial") ∷ always kind.Text (codes "grn")
      ∷ always kind.Integer (codes "reference") ∷ always kind.Integer (codes "cover") ∷ optional kind.Integer (codes "ends") ∷ [];
  key = None;
  primary = 1 ∷ 2 ∷ [];
  uniques = (3 ∷ []) ∷ (1 ∷ 2 ∷ []) ∷ [];
  orders = plain ∷ plain ∷ [];
  checks = between 4 1 1000000000000000 ∷ is_cover ∷ [];
  references = refers (1 ∷ []) (codes "holders") ∷ [];
  computed = [];
  stamps = no_stamps;
  is_counted = false;
}

-- from version 2 on: the same with the amount in use, which is from 0 to the reference amount
abbrev pub guarantees2 : Table
guarantees2 = record guarantees {
  name = codes "guarantees2";
  columns = always kind.Integer (codes "holder") ∷ always kind.Integer (codes "serial") ∷ always kind.Text (codes "grn")
      ∷ always kind.Integer (codes "reference") ∷ always kind.Integer (codes "cover") ∷ optional kind.Integer (codes "ends")
      ∷ always kind.Integer (codes "used") ∷ [];
  checks = between 4 1 1000000000000000 ∷ is_cover ∷ up_to 7 4 ∷ [];
}

abbrev pub lines : Table
lines = record {
  name = codes "lines1";
  tree = 0;
  columns = always kind.Integer (codes "holder") ∷ always kind.Integer (codes "serial") ∷ always kind.Integer (codes "no")
      ∷ always kind.Integer (codes "guarantee") ∷ always kind.Integer (codes "cents") ∷ [];
  key = None;
  primary = 1 ∷ 2 ∷ 3 ∷ [];
  uniques = (1 ∷ 2 ∷ 3 ∷ []) ∷ (1 ∷ 2 ∷ 4 ∷ []) ∷ [];
  orders = plain ∷ plain ∷ [];
  checks = between 3 1 9 ∷ between 5 1 1000000000000 ∷ [];
  references = refers (1 ∷ 2 ∷ []) (codes "movements") ∷ [];
  computed = [];
  stamps = no_stamps;
  is_counted = false;
}

-- from version 3 on: the same with up to 99 lines of a movement
abbrev pub lines3 : Table
lines3 = record lines { name = codes "lines3"; checks = between 3 1 99 ∷ between 5 1 1000000000000 ∷ [] }

-- no table
abbrev pub no_schema : Schema
no_schema = record { tables = []; indexes = []; views = [] }

-- the database has these tables, and no row in any
pub record IsEmptyOf (s : Schema) (db : Database) : Type 0 where
  pub schema : db.schema ≡ s
  pub empty : AllByRecursion (λ t. db.trees t.tree ≡ []) s.tables
