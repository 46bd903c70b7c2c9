-- Where the rules before them are kept, S4 and S6 are kept exactly where the rows are read, and each holder's are in their places;
-- and what is told of one holder.
use Rattle.std.proofs.Common.{ℕ, List, arith}
use Rattle.std.specs.Prelude.{◌↔◌, ◌==◌}
use Rattle.std.specs.List.{AllByRecursion}
use Rattle.sqlite_trees.specs.Tree.{Trees}
use Rattle.sqlite_trees.proofs.ListLemmas.{all-filter, all-map, all_weaker}
use Rattle.td_base.specs.Codes.{IsAccessCode}
use Rattle.typed_sql.specs.Typed.{IsTypedRow, row_of, typed_rows}
use Rattle.td_table_model.specs.declared.rule.Rule.TheVariants.{S1, S3, S4, S5, S6}
use Rattle.td_table_model.specs.Gathering.{owner}
use Rattle.td_table_model.specs.Tables.{Keyed}
use Rattle.td_schema.specs.declared.layout.Layout.{Layout}
use Rattle.td_store_rows.specs.Columns.{code_typing, line_typing}
use Rattle.td_store_audit_rows.specs.Fields.{AreCodeFields, AreLineFields}
use Rattle.td_store_audit_rows.specs.Untyped.{AllRows, KeepsUntyped}
use Rattle.td_store_audit_rows.specs.Scans.{IsReadRow}
use Rattle.td_store_audit_rows.specs.declared.holders.RawHolder.{RawHolder}
use Rattle.td_store_audit_rows.proofs.FoundHolders.{found_tell}
use Rattle.td_store_audit_rows.proofs.Identities.{fields_tell}
use Rattle.td_store_audit_rows.proofs.ReadByRules as read
use Rattle.td_store_audit.specs.Auditable.{IsAuditable, KeepsBefore}
use Rattle.td_store_audit.specs.Premises.{HasCodesInPlace, HasLinesInPlace}
use Rattle.td_store_audit.proofs.HoldersTold.{owners}
use Rattle.td_store_audit.proofs.PartsOfHolders.{codes_told, lines_told}

module _ (layout : Layout) (trees : Trees) (country : List ℕ) (holders : List RawHolder) (known : IsAuditable layout trees country holders) where
  -- codes that keep their rule are read
  module _ (before : KeepsBefore layout trees S4) where
    pub codes_read : KeepsUntyped layout trees S4 → AllRows code_typing (IsReadRow code_typing AreCodeFields) trees
    codes_read keeps =
        read.codes_read layout trees (owners found_tell layout trees country holders known (before S1 (omega arith))) (known.kept.codes keeps.0).owned
        (before S3 (omega arith)).1 keeps

    -- codes that are read keep it exactly where those of each holder are in their places
    pub codes_rule : AllRows code_typing (IsReadRow code_typing AreCodeFields) trees → KeepsUntyped layout trees S4 ↔ AllByRecursion (HasCodesInPlace trees) holders
    codes_rule each =
        let rows = trees code_typing.table.tree in
        let forms : AllByRecursion (λ (c : Keyed (List ℕ)). IsAccessCode c.row) (typed_rows code_typing trees) =
        all-map (λ (c : Keyed (List ℕ)). IsAccessCode c.row) (row_of code_typing) rows
        (all_weaker (IsReadRow code_typing AreCodeFields) (λ r. IsAccessCode (row_of code_typing r).row) (λ r is. is.1.code) rows each) in
        let guarantees = before S3 (omega arith) in
        let told = codes_told layout trees holders known.holders_are fields_tell guarantees.0.0 guarantees.1
        (λ H. all-filter (λ (c : Keyed (List ℕ)). IsAccessCode c.row) (λ c. owner c == H) (typed_rows code_typing trees) forms) in (
          λ keeps. told.1 keeps.1,
          λ all. (all_weaker (IsReadRow code_typing AreCodeFields) (IsTypedRow code_typing) (λ r is. is.0) rows each, told.0 all),
        )

  -- lines that keep their rule are read
  module _ (before : KeepsBefore layout trees S6) where
    pub lines_read : KeepsUntyped layout trees S6 → AllRows (line_typing layout) (IsReadRow (line_typing layout) AreLineFields) trees
    lines_read keeps =
        let kept = known.kept.lines keeps.0 in
        read.lines_read layout trees (owners found_tell layout trees country holders known (before S1 (omega arith))) kept.owned kept.apart
        (before S3 (omega arith)).1 (before S5 (omega arith)).1 keeps

    -- lines that are read keep it exactly where those of each holder are in their places
    pub lines_rule : AllRows (line_typing layout) (IsReadRow (line_typing layout) AreLineFields) trees
        → KeepsUntyped layout trees S6 ↔ AllByRecursion (HasLinesInPlace layout trees) holders
    lines_rule each =
        let guarantees = before S3 (omega arith) in
        let movements = before S5 (omega arith) in
        let told = lines_told layout trees holders known.holders_are fields_tell guarantees.0.0 guarantees.1 movements.0.0 movements.1 in (
          λ keeps. told.1 keeps.1,
          λ all. (
            all_weaker (IsReadRow (line_typing layout) AreLineFields) (IsTypedRow (line_typing layout)) (λ r is. is.0) (trees (line_typing layout).table.tree) each,
            told.0 all,
          ),
        )
