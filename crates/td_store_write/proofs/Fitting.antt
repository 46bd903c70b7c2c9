-- What is decided on fits the amounts in use that tables of sound content keep.
use Rattle.std.proofs.Common.{◌≡◌, ◌∙◌, ℕ, ◌≤◌, Bool, true, false, cond, List, [], ◌∷◌, flat_map, Option, Some, None, IsSome, refl, sym, ap, ap₂, subst, arith}
use Rattle.std.specs.Prelude.{filter, if◌then◌else◌, unwrap_or}
use Rattle.std.specs.List.{AllByRecursion}
use Rattle.sqlite_trees.proofs.ListLemmas.{all-flat_map, all-map, all-permutation, all_both, all_from_map, all_weaker}
use Rattle.keyed_rows.proofs.Putting.{All-row_at}
use Rattle.td_base.specs.Money.{most_cents}
use Rattle.td_base.specs.References.{serial_of}
use Rattle.td_guarantee.specs.declared.guarantee.Guarantee.{Guarantee}
use Rattle.td_guarantee.specs.Usage.{lines_on, movement_on, used_on}
use Rattle.td_movement.specs.States.{is_counting}
use Rattle.td_movement.specs.declared.state.State.{State}
use Rattle.td_movement.specs.declared.state.State.TheVariants.{Accepted, Cancelled, Released, Enquired, Arrived, Discrepant, Cleared, WrittenOff}
use Rattle.td_model.specs.Account.{HolderRows, account_with, guarantee_by_grn, holder_key}
use Rattle.td_model.specs.Sound.{AreHolderRows, IsCovered, IsGuaranteeRow}
use Rattle.td_model.specs.declared.holder_row.HolderRow.{HolderRow}
use Rattle.td_model.proofs.Differing.{differ_with}
use Rattle.td_model.proofs.Steps.{used_moved}
use Rattle.td_model.specs.Changes.{with_status}
use Rattle.td_model.specs.declared.change.Change.{Change}
use Rattle.td_model.specs.declared.change.Change.TheVariants.{Nothing, Registered, Opened, Declared, Moved, TermsSet, CodeAdded, CodeRemoved}
use Rattle.td_model.specs.declared.change.NewStatus.{NewStatus}
use Rattle.td_acts.specs.declared.rows.Verdict.{Verdict}
use Rattle.td_model.specs.Content.{Content, IsSound, content_after, rows_of}
use Rattle.td_acts.specs.Weighing.{IsDecision}
use Rattle.td_acts.proofs.Carrying.{carries}
use Rattle.td_table_model.specs.Tables.{AreTablesOf, KeepAmounts, Keyed, Kept, Tables, guarantee_no, guarantee_row, guarantees_in, kept_in, numbered, with_amount, with_use, without_amount}
use Rattle.td_table_model.specs.Changes.{CanBeWritten, ComesByMove, FollowsMoves, tables_after, used_after, with_use_after}
use Rattle.td_table_model.specs.Gathering.{part}
use Rattle.td_table_model.specs.Looking.{amount_between, movement_no}
use Rattle.td_table_model.proofs.Amounts.{counted_as, counted_before}
use Rattle.td_table_model.proofs.Changing.{each_known, number, own}
use Rattle.td_store_write.proofs.Decided.{decided, decisions_are_written}
use Rattle.td_table_model.proofs.Gathered.{HasParts, have_parts}
use Rattle.td_table_model.proofs.Joining.{amount_of}
use Rattle.td_table_model.proofs.Numbered.{all_numbered, all_with_numbers}
use Rattle.td_table_model.proofs.Told.{grns_placed}
use Rattle.td_store_rows.proofs.Chained.{same_rows}
use Rattle.td_store_write.specs.InUse.{FitsChange, FitsMovement, MayFollow, is_of}

-- what is decided on over sound content leaves sound content
pub sound_after : (c : Content) (v : Verdict) → IsSound c → IsDecision c v → IsSound (content_after v.change c)
sound_after c v sound (at, command, proper, weighed) =
    subst (λ change. IsSound (content_after change c)) (sym weighed.written)
    (carries c (record { at = at; command = command }) sound proper).sound

-- what holds of those that pass
all_passing : {X : Type 0} (p : X → Bool) (P : X → Type 0) (xs : List X) → AllByRecursion P (filter p xs) → AllByRecursion (λ x. p x ≡ true → P x) xs
all_passing p P [] all = tt
all_passing {X} p P (x ∷ xs) all = by_test (p x) all (all_passing p P xs)
  where
    by_test : (b : Bool) → AllByRecursion P (cond b (x ∷ filter p xs) (filter p xs)) → (AllByRecursion P (filter p xs) → AllByRecursion (λ x. p x ≡ true → P x) xs)
        → (b ≡ true → P x) × AllByRecursion (λ x. p x ≡ true → P x) xs
    by_test true all later = (λ passes. all.0, later all.1)
    by_test false all later = (λ passes. cc, later all)

-- a row's amount is at most the greatest reference amount
abbrev InRange : Keyed Kept → Type 0
InRange k = k.row.used ≤ most_cents

holder_in_range : (country : List ℕ) (h : HolderRows) → AreHolderRows country h → AllByRecursion InRange (kept_in h)
holder_in_range country h rules =
    all-map InRange (with_use h.movements) (guarantees_in h)
    (all-map (λ g. InRange (with_use h.movements g)) (guarantee_row h.row.holder) (numbered 0 h.guarantees)
    (all_both (λ (p : ℕ × Guarantee). IsGuaranteeRow country h.row.holder p.0 p.1) (λ (p : ℕ × Guarantee). IsCovered h.movements p.1)
    (λ (p : ℕ × Guarantee). used_on p.1.grn h.movements ≤ most_cents) (λ p row cover. omega (arith, row.reference.1, cover))
    (numbered 0 h.guarantees) (all_numbered (IsGuaranteeRow country h.row.holder) 0 h.guarantees rules.guarantees)
    (all_with_numbers (IsCovered h.movements) 0 h.guarantees rules.cover)))

-- as they are in tables of sound content
in_range : (t : Tables) (c : Content) → IsSound c → AreTablesOf t c → KeepAmounts t → AllByRecursion InRange t.kept
in_range t c sound are keep =
    all-permutation InRange (flat_map kept_in c.holders) t.kept (are.kept keep)
    (all-flat_map InRange kept_in c.holders (all_weaker (AreHolderRows c.country) (λ h. AllByRecursion InRange (kept_in h)) (λ h rules. holder_in_range c.country h rules) c.holders sound.holders))

-- an amount that is in range before and after fits, where no more is given back than is in use
fit_one : (state : State) (cents used : ℕ) → used ≤ most_cents → used_after state cents used ≤ most_cents → (state ≡ WrittenOff → cents ≤ used) → MayFollow state cents used
fit_one Accepted cents used before after off = tt
fit_one Cancelled cents used before after off = tt
fit_one Released cents used before after off = omega (arith, after)
fit_one Enquired cents used before after off = tt
fit_one Arrived cents used before after off = tt
fit_one Discrepant cents used before after off = tt
fit_one Cleared cents used before after off = tt
fit_one WrittenOff cents used before after off = (off refl, omega (arith, before))

module _ (t : Tables) (c : Content) (sound : IsSound c) (are : AreTablesOf t c) (keep : KeepAmounts t) (row : HolderRow) (status : NewStatus) where
  abbrev H : ℕ
  H = row.holder

  abbrev m : ℕ
  m = movement_no t.country status.mrn

  -- no more is given back than is in use
  abbrev IsEnough : Keyed Kept → Type 0
  IsEnough k = status.state ≡ WrittenOff → amount_between H m k.serial t ≤ k.row.used

  module _ (h : HolderRows) (found : rows_of H c ≡ Some h) (comes : ComesByMove h.movements status) where
    parts : HasParts c.country t h
    parts = rw found at (All-row_at holder_key (HasParts c.country t) H c.holders (have_parts t c sound are))

    rules : AreHolderRows c.country h
    rules = own t c sound are row h found

    same_number : h.row.holder ≡ H
    same_number = number t c sound are row h found

    -- of each guarantee
    each_enough : AllByRecursion (λ (p : ℕ × Guarantee). status.state ≡ WrittenOff → amount_between H m p.0 t ≤ used_on p.1.grn h.movements) (numbered 0 h.guarantees)
    each_enough =
        all_both (λ (p : ℕ × Guarantee). serial_of c.country p.1.grn ≡ Some p.0) (λ (p : ℕ × Guarantee). IsSome (guarantee_by_grn p.1.grn h.guarantees))
        (λ (p : ℕ × Guarantee). status.state ≡ WrittenOff → amount_between H m p.0 t ≤ used_on p.1.grn h.movements)
        (λ p placed some off.
        let grn = p.1.grn in
        let movement = comes.movement in
        let no : guarantee_no c.country grn ≡ p.0 = ap (λ o. unwrap_or o 0) placed in
        let amount : amount_between H m p.0 t ≡ lines_on grn movement.lines =
        ap (λ country. amount_between H (movement_no country status.mrn) p.0 t) are.country
        ∙ ap₂ (λ H n. amount_between H (movement_no c.country status.mrn) n t) (sym same_number) (sym no)
        ∙ amount_of t c.country h sound.country rules parts grn some status.mrn movement comes.found in
        let counts : is_counting movement.state ≡ true = counted_as movement.state status.state comes.move comes.leads ∙ ap counted_before off in
        let here : movement_on grn movement ≡ lines_on grn movement.lines = ap (λ b. cond b (lines_on grn movement.lines) 0) counts in
        let none : movement_on grn (with_status status movement) ≡ 0 = ap (λ s. cond (is_counting s) (lines_on grn movement.lines) 0) off in
        let law = used_moved grn status h.movements movement (differ_with c.country (Some h) sound.country rules).mrns comes.found in
        omega (arith, amount, here, none, law))
        (numbered 0 h.guarantees) (grns_placed c.country h sound.country rules) (each_known 0 h.guarantees)

    enough_here : AllByRecursion IsEnough (kept_in h)
    enough_here =
        all-map IsEnough (with_use h.movements) (guarantees_in h)
        (all-map (λ g. IsEnough (with_use h.movements g)) (guarantee_row h.row.holder) (numbered 0 h.guarantees) each_enough)

    -- of each row of the holder's
    enough : AllByRecursion (λ k. is_of H k ≡ true → IsEnough k) t.kept
    enough =
        all_passing (is_of H) IsEnough t.kept
        (subst (λ n. AllByRecursion IsEnough (part n t.kept)) same_number (all-permutation IsEnough (kept_in h) (part h.row.holder t.kept) (parts.kept keep) enough_here))

    fitting : AreTablesOf (tables_after (Moved row status) t) (content_after (Moved row status) c) → IsSound (content_after (Moved row status) c)
        → FitsMovement H m status.state t
    fitting after_are after =
        let now = all_from_map InRange (with_use_after H m status.state t) t.kept (in_range (tables_after (Moved row status) t) (content_after (Moved row status) c) after after_are keep) in
        all_both (λ k. InRange k × InRange (with_use_after H m status.state t k)) (λ k. is_of H k ≡ true → IsEnough k)
        (λ k. is_of H k ≡ true → MayFollow status.state (amount_between H m k.serial t) k.row.used)
        (λ k ranges own_enough own_row.
        let cents = amount_between H m k.serial t in
        let is : (with_use_after H m status.state t k).row.used ≡ used_after status.state cents k.row.used =
        ap (λ b. (if b then with_amount (used_after status.state cents k.row.used) (without_amount k) else k).row.used) own_row in
        fit_one status.state cents k.row.used ranges.0 (subst (λ n. n ≤ most_cents) is ranges.1) (own_enough own_row))
        t.kept (all_both InRange (λ k. InRange (with_use_after H m status.state t k)) (λ k. InRange k × InRange (with_use_after H m status.state t k)) (λ k a b. (a, b)) t.kept (in_range t c sound are keep) now)
        enough

  moves_fit : (o : Option HolderRows) → rows_of H c ≡ o → IsSome o → ComesByMove (account_with c.country o).movements status
      → AreTablesOf (tables_after (Moved row status) t) (content_after (Moved row status) c) → IsSound (content_after (Moved row status) c) → FitsMovement H m status.state t
  moves_fit None found some comes after_are after = cc
  moves_fit (Some h) found some comes after_are after = fitting h found comes after_are after

changes_fit : (change : Change) (t : Tables) (c : Content) → IsSound c → AreTablesOf t c → KeepAmounts t → CanBeWritten c change → FollowsMoves c change
    → AreTablesOf (tables_after change t) (content_after change c) → IsSound (content_after change c) → FitsChange change t
changes_fit Nothing t c sound are keep can follows after_are after = tt
changes_fit (Registered row) t c sound are keep can follows after_are after = tt
changes_fit (Opened row guarantee) t c sound are keep can follows after_are after = tt
changes_fit (Declared row movement) t c sound are keep can follows after_are after = tt
changes_fit (Moved row status) t c sound are keep can follows after_are after = moves_fit t c sound are keep row status (rows_of row.holder c) refl can follows after_are after
changes_fit (TermsSet row terms) t c sound are keep can follows after_are after = tt
changes_fit (CodeAdded row grn code) t c sound are keep can follows after_are after = tt
changes_fit (CodeRemoved row grn code) t c sound are keep can follows after_are after = tt

pub decisions_fit : (v : Verdict) (t : Tables) (c : Content) → IsSound c → IsDecision c v → AreTablesOf t c → KeepAmounts t → FitsChange v.change t
decisions_fit v t c sound is are keep =
    let can : CanBeWritten c v.change × FollowsMoves c v.change = subst (λ change. CanBeWritten c change × FollowsMoves c change) (sym is.3.written) (decided c is.0 is.1 is.2) in
    changes_fit v.change t c sound are keep can.0 can.1
    (decisions_are_written v t (tables_after v.change t) c sound is are (same_rows (tables_after v.change t))).0 (sound_after c v sound is)
