use Rattle.std.proofs.Common.{◌≡◌, ◌∷◌, [], ◌++◌, ◌+◌, ◌<◌, ◌≤◌, ℕ, List, None, Option, Some, length, take, get_or, sym, ◌∙◌, ap, subst, arith, refl, true}
use Rattle.std.specs.Prelude.{filter_map}
use Rattle.std.proofs.lemmas.List.{take_all, take_more, append-nil}
use Rattle.sqlite.specs.Held.{state}
use Rattle.sqlite.specs.State.{State, HasCleanDisk}
use Rattle.td_movement.specs.declared.line.Line.{Line}
use Rattle.td_guarantee.specs.declared.guarantee.Guarantee.{Guarantee}
use Rattle.td_model.specs.Account.{entry_in}
use Rattle.td_model.specs.Content.{Content, account_in}
use Rattle.td_holder_memory.proofs.Loading.{one_more}
use Rattle.td_store_rows.specs.StoreReads.{ReadsNewest}
use Rattle.td_store_rows.proofs.StoreReads.{reads_on, reads_well}
use Rattle.td_store_load.specs.Loaded.{IsOfContent}
use Rattle.td_store_load.proofs.Reading.{content_before}
use Rattle.td_store_load.proofs.entries.load_declared_on.Goals as goal
use Rattle.td_store_load.proofs.entries.load_declared_on.Goals.{in-Some+in_ok-push, in_default}

pub lines-preserved : goal.lines-preserved
lines-preserved g c = (c.load_entry.ensures.same_reference ∙ c.lines.invariant.0, more, next)
  where
    a : State
    a = state g.S.Store c.args.tx.now.conn.now

    b : State
    b = state g.S.Store c.lines.tx.conn.now

    d : State
    d = state g.S.Store c.load_entry.new.tx.conn.now

    more : ReadsNewest true a d
    more = reads_on c.lines.invariant.1 c.in_ok-entry.ensures.reads

    seek : Content → Line × List ℕ → Option (Guarantee × ℕ)
    seek content line = entry_in (account_in c.args.holder content) line.0.grn

    items : List (Line × List ℕ)
    items = c.args.lines.now

    line : Line × List ℕ
    line = c.lines-item.result

    n : ℕ
    n = c.lines.declared-index

    within : n < length items
    within = subst (λ (l : List (Line × List ℕ)). n < length l) c.as_slice-declared-items.ensures.value c.lines-test.true

    at_n : line ≡ get_or items n line
    at_n = subst (λ (l : List (Line × List ℕ)). line ≡ get_or l n line) c.as_slice-declared-items.ensures.value c.lines-item.is

    one_line : take (n + 1) items ≡ take n items ++ line ∷ []
    one_line = take_more items n line within ∙ ap (λ s. take n items ++ s ∷ []) (sym at_n)

    clean_b : HasCleanDisk d → HasCleanDisk b
    clean_b clean = omega (arith, clean, c.load_entry.ensures.reads.within.survives.clean)

    told : HasCleanDisk d → IsOfContent c.args.country (λ content. seek content line) a c.in_ok-entry.field-0
    told clean = content_before c.args.country (λ content. seek content line) a b c.in_ok-entry.field-0 (c.lines.invariant.1.still (clean_b clean) refl) (c.in_ok-entry.ensures.found clean)

    next : HasCleanDisk d → IsOfContent c.args.country (λ content. filter_map (seek content) (take (n + 1) items)) a c.match-branch-2.found.items
    next clean content holds at =
        subst (λ l. c.match-branch-2.found.items ≡ filter_map (seek content) l) (sym one_line) (elim c.match-branch-2.branch [
          | in-Some+in_ok-push w ↦
              one_more (seek content) (take n items) line (Some w.in-Some.entry) c.lines.found.items c.match-branch-2.found.items
              (sym (told clean content holds at) ∙ w.in-Some.is) (c.lines.invariant.2 (clean_b clean) content holds at)
              (ap (λ v. v.items) w.found-is ∙ w.in_ok-push.ensures.items)
          | in_default w ↦
              one_more (seek content) (take n items) line None c.lines.found.items c.match-branch-2.found.items
              (sym (told clean content holds at) ∙ w.in_default.is) (c.lines.invariant.2 (clean_b clean) content holds at)
              (ap (λ v. v.items) w.found-is ∙ sym (append-nil c.lines.found.items))
        ])

pub returns-clause-found : goal.returns-clause-found
returns-clause-found g c clean content holds at =
    c.lines.invariant.2 clean content holds at
    ∙ ap (filter_map (λ l. entry_in (account_in c.args.holder content) l.0.grn))
    (take_all c.lines.declared-index c.args.lines.now (subst (λ (l : List (Line × List ℕ)). length l ≤ c.lines.declared-index) c.as_slice-declared-items.ensures.value c.lines-test.false))

pub returns-in_err-push-clause-reads : goal.returns-in_err-push-clause-reads
returns-in_err-push-clause-reads g c = reads_well (reads_on c.lines.invariant.1 c.in_ok-entry.ensures.reads)
