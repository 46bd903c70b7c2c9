use Rattle.std.specs.Prelude.{◌==◌, find}
use Rattle.std.proofs.Common.{◌≡◌, [], ◌∷◌, ◌++◌, Some, ap, arith, map, refl, subst, sym, true, ◌∙◌}
use Rattle.sqlite.specs.Held.{state}
use Rattle.sqlite.specs.State.{State, HasCleanDisk}
use Rattle.std.proofs.lemmas.List.{take_all}
use Rattle.td_store_rows.specs.StoreTables.{HoldsContent, tables_in}
use Rattle.td_store_rows.specs.StoreReads.{ReadsNewest}
use Rattle.td_store_rows.proofs.StoreReads.{none_newest, reads_on, reads_well}
use Rattle.td_store_rows.specs.LineTable.{line_row_of}
use Rattle.td_movement.specs.declared.line.Line.{Line}
use Rattle.td_store_load.specs.Loaded.{line_of}
use Rattle.td_guarantee.specs.Terms.{without_codes}
use Rattle.td_model.specs.Content.{Content, account_in}
use Rattle.td_table_model.specs.Gathering.{grn_by}
use Rattle.td_store_rows.specs.declared.guarantees.stored.KeptGuarantee.{KeptGuarantee}
use Rattle.td_store_load.specs.Needed.{AreKeptIn, AreTermsOf, terms_in}
use Rattle.td_store_load.proofs.Found.{next_of}
use Rattle.td_store_load.proofs.Reading.{held_after}
use Rattle.td_store_load.proofs.ReadOnce.{kept_after, kept_before, kept_with_serial, terms_more}
use Rattle.td_store_load.proofs.releases.lines_with_terms.Goals as goal

pub rows-preserved : goal.rows-preserved
rows-preserved g c = (
  c.kept_near.ensures.same_reference ∙ c.rows.invariant.0,
  more,
  λ clean content holds.
      pushed
      ∙ next_of (λ t r. line_of c.args.holder t (line_row_of r)) a a c.args.rows.now c.rows.at _ c.index-rows-at.result c.rows.lines.items line c.rows-test.true c.index-rows-at.is
      (none_newest a) (c.rows.invariant.2 (clean_b clean))
      (λ content holds. ap (λ grn. record { grn = grn; cents = c.index-rows-at.result.cents }) (named clean content holds).0) content holds,
  λ clean.
      subst (λ lines. AreTermsOf c.args.holder a lines c.push-in-rows.new.self.items) (sym pushed)
      (terms_more a a c.args.holder (none_newest a) c.rows.lines.items c.rows.terms.items (c.rows.invariant.3 (clean_b clean))
      line c.terms_in_row.result (λ content holds. ap Some c.terms_in_row.ensures ∙ (named clean content holds).1) _ c.in_ok-push-2.ensures.items),
  said,
)
  where
    a : State
    a = state g.S.Store c.args.tx.now.conn.now

    b : State
    b = state g.S.Store c.rows.tx.conn.now

    d : State
    d = state g.S.Store c.kept_near.new.tx.conn.now

    k : KeptGuarantee
    k = c.in-Some.kept.now

    line : Line
    line = record { grn = k.guarantee.grn; cents = c.index-rows-at.result.cents }

    pushed : c.push.new.self.items ≡ c.rows.lines.items ++ line ∷ []
    pushed = c.in_ok-push.ensures.items ∙ ap (λ l. c.rows.lines.items ++ l ∷ []) c.line_on_kept.ensures

    more : ReadsNewest true a d
    more = reads_on c.rows.invariant.1 c.in_ok-near.ensures.reads

    clean_b : HasCleanDisk d → HasCleanDisk b
    clean_b clean = omega (arith, clean, c.kept_near.ensures.reads.within.survives.clean)

    said : HasCleanDisk d → (content : Content) (holds : HoldsContent content a) → AreKeptIn c.args.holder content holds c.in_ok-near.near.items
    said clean content holds =
        let read = c.rows.invariant.1.still (clean_b clean) refl in
        kept_before a b c.args.holder c.in_ok-near.near.items read content holds
        (c.in_ok-near.ensures.kept clean content (held_after content a b read holds)
        (kept_after a b c.args.holder c.rows.near.items read content holds (c.rows.invariant.4 (clean_b clean) content holds)))

    named : HasCleanDisk d → (content : Content) (holds : HoldsContent content a)
        → (k.guarantee.grn ≡ grn_by c.args.holder c.index-rows-at.result.guarantee (tables_in holds.trees.layout a.now.trees))
        × (Some (without_codes k.guarantee, k.used) ≡ terms_in (account_in c.args.holder content) k.guarantee.grn)
    named clean content holds =
        kept_with_serial c.args.holder (tables_in holds.trees.layout a.now.trees) (account_in c.args.holder content) c.in_ok-near.near.items (said clean content holds)
        c.index-rows-at.result.guarantee k (ap (find (λ k. k.serial == c.index-rows-at.result.guarantee)) (sym c.deref.ensures.value) ∙ sym c.in-Some.ensures)

pub returns-in_err-push-clause-reads : goal.returns-in_err-push-clause-reads
returns-in_err-push-clause-reads g c = reads_well (reads_on c.rows.invariant.1 c.in_ok-near.ensures.reads)

pub returns-in_err-push-2-clause-reads : goal.returns-in_err-push-2-clause-reads
returns-in_err-push-2-clause-reads g c = reads_well (reads_on c.rows.invariant.1 c.in_ok-near.ensures.reads)

pub returns-clause-lines : goal.returns-clause-lines
returns-clause-lines g c clean content holds =
    c.rows.invariant.2 clean content holds
    ∙ ap (map (λ r. line_of c.args.holder (tables_in holds.trees.layout (state g.S.Store c.args.tx.now.conn.now).now.trees) (line_row_of r)))
    (take_all c.rows.at c.args.rows.now c.rows-test.false)
