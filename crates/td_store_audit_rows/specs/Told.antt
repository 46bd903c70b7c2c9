-- What the fields and the scans of rows tell of the rules.
use Rattle.std.specs.Prelude.{◌≡◌, ◌↔◌, ℕ, ◌<◌, ◌^◌, IfSome, IsSome}
use Rattle.std.specs.List.{AllByRecursion}
use Rattle.sqlite_value.specs.Order.{Row}
use Rattle.sqlite_trees.specs.Tree.{Trees}
use Rattle.td_model.specs.declared.holder_row.HolderRow.{HolderRow}
use Rattle.td_base.specs.Codes.{IsCountry, IsHolderNumber}
use Rattle.td_table_model.specs.declared.rule.Rule.TheVariants.{S2, S3, S4, S5, S6}
use Rattle.td_table_model.specs.Rules.{Keeps, IsHolderInRange}
use Rattle.td_table_model.specs.Gathering.{IsApart, no_of, of_key, part, place}
use Rattle.td_table_model.specs.Stored.{AreOfHolders}
use Rattle.td_table_model.specs.Tables.{Tables}
use Rattle.typed_sql.specs.Typed.{row_of}
use Rattle.td_schema.specs.declared.layout.Layout.{Layout}
use Rattle.td_store_rows.specs.Columns.{holder_typing, guarantee_typing, code_typing, movement_typing, line_typing}
use Rattle.td_store_rows.specs.StoreTables.{tables_in}
use Rattle.td_store_audit_rows.specs.Fields.{AreCodeFields, AreGuaranteeFields, AreLineFields, AreMovementFields}
use Rattle.td_store_audit_rows.specs.Holders.{fields_of}
use Rattle.td_store_audit_rows.specs.Untyped.{AllRows, HasGrnCount, HasIdentity, HasMrnCount, HasNumber, KeepsUntyped}
use Rattle.td_store_audit_rows.specs.Scans.{IsReadRow}

-- the fields of a holder's row are there exactly where its columns are of their kinds and in range: a count has 32 bits
pub record FieldsTell (r : Row) : Type 0 where
  pub holder : IsSome (fields_of r).holder ↔ (HasNumber r × IsHolderNumber (row_of holder_typing r).holder)
  pub identity : (IsSome (fields_of r).eori × IsSome (fields_of r).last_at) ↔ (HasIdentity r × IsHolderInRange (row_of holder_typing r))
  pub grn_count : IsSome (fields_of r).grn_count ↔ (HasGrnCount r × ((row_of holder_typing r).grn_count < 2 ^ 32))
  pub mrn_count : IsSome (fields_of r).mrn_count ↔ (HasMrnCount r × ((row_of holder_typing r).mrn_count < 2 ^ 32))

-- and they are those of the typed row
pub record FieldsAreThose (r : Row) : Type 0 where
  pub holder : IfSome (fields_of r).holder (λ n. n ≡ (row_of holder_typing r).holder)
  pub eori : IfSome (fields_of r).eori (λ text. text ≡ (row_of holder_typing r).eori)
  pub last_at : IfSome (fields_of r).last_at (λ n. n ≡ (row_of holder_typing r).last_at)
  pub grn_count : IfSome (fields_of r).grn_count (λ n. n ≡ (row_of holder_typing r).grn_count)
  pub mrn_count : IfSome (fields_of r).mrn_count (λ n. n ≡ (row_of holder_typing r).mrn_count)

abbrev pub HolderFieldsTell : Type 0
HolderFieldsTell = (r : Row) → FieldsTell r × FieldsAreThose r

-- so S2 is kept exactly where each holder's EORI and moment are there
abbrev pub HoldersTellS2 : Type 0
HoldersTellS2 =
    (l : Layout) (trees : Trees) → KeepsUntyped l trees S2
    ↔ AllRows holder_typing (λ r. IsSome (fields_of r).eori × IsSome (fields_of r).last_at) trees

-- what a rule is asked after: the holders' numbers are in range, and the country is one
pub record HaveOwners (t : Tables) : Type 0 where
  pub numbers : AllByRecursion (λ (h : HolderRow). IsHolderNumber h.holder) t.holders
  pub country : IsCountry t.country

-- where S3 is kept each row of guarantees is read, if each is of a holder that is there, and no two of one have one serial
abbrev pub GuaranteesAreRead : Type 0
GuaranteesAreRead =
    (l : Layout) (trees : Trees) → HaveOwners (tables_in l trees) → AreOfHolders (tables_in l trees).holders (tables_in l trees).guarantees
    → ((H : ℕ) → IsApart place (part H (tables_in l trees).guarantees)) → KeepsUntyped l trees S3
    → AllRows (guarantee_typing l) (IsReadRow (guarantee_typing l) AreGuaranteeFields) trees

-- where S4 is kept, and S3 was, each row of codes is read
abbrev pub CodesAreRead : Type 0
CodesAreRead =
    (l : Layout) (trees : Trees) → HaveOwners (tables_in l trees) → AreOfHolders (tables_in l trees).holders (tables_in l trees).codes
    → Keeps (tables_in l trees) S3 → KeepsUntyped l trees S4 → AllRows code_typing (IsReadRow code_typing AreCodeFields) trees

-- where S5 is kept each row of movements is read, if each is of a holder that is there, and no two of one have one serial
abbrev pub MovementsAreRead : Type 0
MovementsAreRead =
    (l : Layout) (trees : Trees) → HaveOwners (tables_in l trees) → AreOfHolders (tables_in l trees).holders (tables_in l trees).movements
    → ((H : ℕ) → IsApart place (part H (tables_in l trees).movements)) → KeepsUntyped l trees S5
    → AllRows movement_typing (IsReadRow movement_typing AreMovementFields) trees

-- where S6 is kept, and S3 and S5 were, each row of lines is read, if no two lines of a movement have one number
abbrev pub LinesAreRead : Type 0
LinesAreRead =
    (l : Layout) (trees : Trees) → HaveOwners (tables_in l trees) → AreOfHolders (tables_in l trees).holders (tables_in l trees).lines
    → ((H n : ℕ) → IsApart no_of (of_key place n (part H (tables_in l trees).lines)))
    → Keeps (tables_in l trees) S3 → Keeps (tables_in l trees) S5 → KeepsUntyped l trees S6
    → AllRows (line_typing l) (IsReadRow (line_typing l) AreLineFields) trees
