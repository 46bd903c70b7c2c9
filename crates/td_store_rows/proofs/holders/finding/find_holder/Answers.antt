use Rattle.std.proofs.Common.{refl, rules, IsPermutation, Ok, map, subst, sym, ◌≡◌}
use Rattle.std.specs.Prelude.{[], ◌∷◌, ◌==◌, filter}
use Rattle.std.specs.Option.{option_to_list}
use Rattle.sqlite.specs.Held.{state}
use Rattle.td_schema.specs.Layouts.{schema_of}
use Rattle.typed_sql.proofs.Fetched.{one_fetched}
use Rattle.typed_sql.proofs.Leaving.{stays}
use Rattle.typed_sql.proofs.OnlyRead.{one_read}
use Rattle.typed_sql.specs.Typed.{typed_rows}
use Rattle.typed_sql.specs.Values.{number_value}
use Rattle.td_store_rows.proofs.HolderMeanings.{all_columns, by_number_means, number_tests}
use Rattle.td_store_rows.proofs.HolderStatements.{passes_number}
use Rattle.td_store_rows.specs.Columns.{holder_typing}
use Rattle.td_store_rows.specs.declared.holders.stored.StoredHolder.{StoredHolder}
use Rattle.td_store_rows.specs.declared.holders.texts.TheConstants.{BY_NUMBER}
use Rattle.td_store_rows.proofs.holders.finding.find_holder.Goals as goal

pub returns-clause-found : goal.returns-clause-found
returns-clause-found g c clean l has typed =
    let same : option_to_list c.map.result ≡ map (λ (h : StoredHolder). h.row) (option_to_list c.in_ok-found.found) = search rules in
    subst (IsPermutation (filter (λ h. h.holder == c.args.holder) (typed_rows holder_typing (state g.S.Store c.args.tx.now.conn.now).now.trees)))
    (sym same)
    (one_fetched holder_typing (schema_of l) (λ (h : StoredHolder). h.row) BY_NUMBER.now number_tests all_columns []
    (λ h. h.holder == c.args.holder) (number_value c.args.holder ∷ []) _ c.holder_key.ensures (by_number_means l)
    (passes_number c.args.holder []) (λ r. refl) (state g.S.Store c.args.tx.now.conn.now) (Ok c.in_ok-found.found)
    (c.in_ok-found.ensures.found clean) has typed)

pub returns-clause-reads : goal.returns-clause-reads
returns-clause-reads g c = record {
  still = λ clean well l any. one_read _ _ (stays (schema_of l) BY_NUMBER.now (by_number_means l).plain _ _ (c.in_ok-found.ensures.still clean));
  within = c.in_ok-found.ensures.within;
}
