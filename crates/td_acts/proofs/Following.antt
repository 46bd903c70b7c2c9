-- Rows that follow on a holder's rows: the account with them, and the rules that they keep.
use Rattle.std.proofs.Common.{◌≡◌, ◌≢◌, ℕ, zero, suc, ◌+◌, ◌<◌, Bool, true, false, List, [], ◌∷◌, ◌++◌, length, map, Option, Some, None, refl, sym, ◌∙◌, ap, subst, arith, get_or}
use Rattle.std.specs.Prelude.{AllPairs, IfSome, IsSome, unwrap_or, if◌then◌else◌}
use Rattle.std.specs.List.{AllByRecursion}
use Rattle.std.specs.Str.{bytes_eq}
use Rattle.std.proofs.lemmas.List.{length-append, length-map}
use Rattle.std.proofs.lemmas.Slice.Eq.{bytes_eq-Decides}
use Rattle.td_base.specs.Codes.{IsCountry}
use Rattle.td_base.specs.Days.{IsMoment, moment_of}
use Rattle.td_movement.specs.declared.state.State.TheVariants.{Accepted}
use Rattle.td_movement.specs.declared.line.Line.{Line}
use Rattle.td_model.specs.declared.holder_row.HolderRow.{HolderRow}
use Rattle.td_guarantee.specs.declared.guarantee.Guarantee.{Guarantee}
use Rattle.td_movement.specs.declared.movement.Movement.{Movement}
use Rattle.td_model.specs.declared.change.Change.{Change}
use Rattle.td_model.specs.declared.change.Change.TheVariants as change
use Rattle.td_model.specs.Account.{HolderRows, account_with, at_grn, coded, uncoded, guarantee_by_grn, movement_by_lrn, movement_by_mrn}
use Rattle.td_model.specs.declared.change.NewStatus.{NewStatus}
use Rattle.td_movement.specs.Status.{IsStatus}
use Rattle.td_model.specs.Changes.{account_after, row_in, rows_after, rows_or_new, with_status, with_terms, moved}
use Rattle.td_model.proofs.Differing.{differ_with}
use Rattle.td_model.proofs.ByKey.{only_found, number_found}
use Rattle.td_acts.proofs.SaidAnew.{found_anew, each_anew, numbered_anew}
use Rattle.td_model.proofs.Steps.{rows_moved, lrn_moved}
use Rattle.td_model.specs.Sound.{IsGuaranteeRow, AreMovementLines, IsMovementRow, IsCovered, AreHolderRows}
use Rattle.td_acts.specs.Deciding.{decision_on}
use Rattle.td_acts.specs.Laws.{KeepsRowsSound}
use Rattle.td_acts.proofs.Accepted.{IsFor, IsSaidOf}
use Rattle.td_acts.proofs.AcceptedRows.{change_in_is_for, moment_is}
use Rattle.td_model.proofs.Cover.{AllByRecursion-append, unused_when_new, covered_with_accepted}
use Rattle.td_model.proofs.Joined.{AllPairs-append, AllPairs-map, AllNumbered-append, AllNumbered-weaker, AllByRecursion-weaker}
use Rattle.td_model.specs.Effects.{greatest_grn_given, greatest_mrn_given}

-- the row of the rows after a change is that of the change
pub row_after : (c : Change) (row : HolderRow) (h : HolderRows) → row_in c ≡ Some row → (rows_after c h).row ≡ row
row_after c row h has = ap (λ o. unwrap_or o h.row) has

-- the account of the rows after a change is the account after the change
pub account_of_rows_after : (country : List ℕ) (o : Option HolderRows) (c : Change) (row : HolderRow) → row_in c ≡ Some row
    → account_with country (Some (rows_after c (rows_or_new row o))) ≡ account_after c (account_with country o)
account_of_rows_after country None c row has = rw has refl
account_of_rows_after country (Some h) c row has = rw has refl

-- a change without a row is none
pub nothing_without_row : (c : Change) → row_in c ≡ None → c ≡ change.Nothing
nothing_without_row change.Nothing none = refl
nothing_without_row (change.Registered row) none = cc
nothing_without_row (change.Opened row g) none = cc
nothing_without_row (change.Declared row m) none = cc
nothing_without_row (change.Moved row status) none = cc
nothing_without_row (change.TermsSet row terms) none = cc
nothing_without_row (change.CodeAdded row grn code) none = cc
nothing_without_row (change.CodeRemoved row grn code) none = cc

-- this one, or another that is there still
some_either : (b : Bool) (f : Guarantee) (o p : Option Guarantee) → (IsSome o → IsSome p) → IsSome (if◌then◌else◌ {A = Option Guarantee} b (Some f) o) → IsSome (if◌then◌else◌ {A = Option Guarantee} b (Some f) p)
some_either true f o p still some = refl
some_either false f o p still some = still some

-- a guarantee is found as before where one more stands behind
found_still : (grn : List ℕ) (gs : List Guarantee) (g : Guarantee) → IsSome (guarantee_by_grn grn gs) → IsSome (guarantee_by_grn grn (gs ++ g ∷ []))
found_still grn [] g some = cc
found_still grn (f ∷ gs) g some = some_either (bytes_eq f.grn grn) f (guarantee_by_grn grn gs) (guarantee_by_grn grn (gs ++ g ∷ [])) (found_still grn gs g) some

-- lines are those of a movement still where the guarantees that were found are found
lines_still : (gs hs : List Guarantee) → ((grn : List ℕ) → IsSome (guarantee_by_grn grn gs) → IsSome (guarantee_by_grn grn hs)) → (lines : List Line) → AreMovementLines gs lines → AreMovementLines hs lines
lines_still gs hs still lines are = record {
  some = are.some;
  most = are.most;
  amounts = are.amounts;
  distinct = are.distinct;
  own = AllByRecursion-weaker (λ l. IsSome (guarantee_by_grn l.grn gs)) (λ l. IsSome (guarantee_by_grn l.grn hs)) (λ l. still l.grn) lines are.own;
}

movement_still : (country : List ℕ) (H : ℕ) (gs hs : List Guarantee) → ((grn : List ℕ) → IsSome (guarantee_by_grn grn gs) → IsSome (guarantee_by_grn grn hs)) → (n : ℕ) (m : Movement) → IsMovementRow country H gs n m → IsMovementRow country H hs n m
movement_still country H gs hs still n m is = record { mrn = is.mrn; lrn = is.lrn; departure = is.departure; destination = is.destination; accepted = is.accepted; status = is.status; lines = lines_still gs hs still m.lines is.lines }

-- where nothing is found, it isn't the first, and not later
not_first : (b : Bool) (m : Movement) (o : Option Movement) → if◌then◌else◌ {A = Option Movement} b (Some m) o ≡ None → (b ≡ false) × (o ≡ None)
not_first true m o none = cc
not_first false m o none = (refl, none)

differs : (a b : List ℕ) → bytes_eq a b ≡ false → a ≢ b
differs a b other = λ same. let yes = (bytes_eq-Decides a b).1 same in cc

-- an LRN that isn't found is none of the movements'
other_lrn : (lrn : List ℕ) (ms : List Movement) → movement_by_lrn lrn ms ≡ None → (k : ℕ) (d : Movement) → k < length ms → (get_or ms k d).lrn ≢ lrn
other_lrn lrn [] none k d within = absurd (omega (arith, within))
other_lrn lrn (m ∷ ms) none zero d within = differs m.lrn lrn (not_first (bytes_eq m.lrn lrn) m (movement_by_lrn lrn ms) none).0
other_lrn lrn (m ∷ ms) none (suc k) d within = other_lrn lrn ms (not_first (bytes_eq m.lrn lrn) m (movement_by_lrn lrn ms) none).1 k d (omega (arith, within))

-- a holder's rows with one more guarantee keep their rules
sound_opened : (country : List ℕ) (h : HolderRows) (g : Guarantee) (t : ℕ) → IsCountry country → IsMoment t → h.row.grn_count < greatest_grn_given → IsGuaranteeRow country h.row.holder (h.row.grn_count + 1) g → AreHolderRows country h
    → AreHolderRows country (record { row = record h.row { last_at = t; grn_count = h.row.grn_count + 1 }; guarantees = h.guarantees ++ g ∷ []; movements = h.movements })
sound_opened country h g t form moment left is sound = record {
  row = record { number = sound.row.number; eori = sound.row.eori; last_at = moment };
  guarantees = AllNumbered-append (IsGuaranteeRow country h.row.holder) 0 h.guarantees g sound.guarantees (subst (λ n. IsGuaranteeRow country h.row.holder n g) (omega (arith, sound.grn_count)) is);
  grn_count = simp length-append (omega (arith, sound.grn_count));
  grn_most = omega (arith, left);
  movements = AllNumbered-weaker (IsMovementRow country h.row.holder h.guarantees) (IsMovementRow country h.row.holder (h.guarantees ++ g ∷ [])) (movement_still country h.row.holder h.guarantees (h.guarantees ++ g ∷ []) (λ grn. found_still grn h.guarantees g)) 0 h.movements sound.movements;
  mrn_count = sound.mrn_count;
  mrn_most = sound.mrn_most;
  lrns = sound.lrns;
  cover = AllByRecursion-append (IsCovered h.movements) h.guarantees g sound.cover (omega (arith, unused_when_new country h g form left is sound));
}

-- and so with one more movement
sound_declared : (country : List ℕ) (h : HolderRows) (m : Movement) (t : ℕ) → IsMoment t → h.row.mrn_count < greatest_mrn_given → IsMovementRow country h.row.holder h.guarantees (h.row.mrn_count + 1) m → movement_by_lrn m.lrn h.movements ≡ None → m.state ≡ Accepted → AreHolderRows country h
    → AreHolderRows country (record { row = record h.row { last_at = t; mrn_count = h.row.mrn_count + 1 }; guarantees = h.guarantees; movements = h.movements ++ m ∷ [] })
sound_declared country h m t moment left is fresh accepted sound = record {
  row = record { number = sound.row.number; eori = sound.row.eori; last_at = moment };
  guarantees = sound.guarantees;
  grn_count = sound.grn_count;
  grn_most = sound.grn_most;
  movements = AllNumbered-append (IsMovementRow country h.row.holder h.guarantees) 0 h.movements m sound.movements (subst (λ n. IsMovementRow country h.row.holder h.guarantees n m) (omega (arith, sound.mrn_count)) is);
  mrn_count = simp length-append (omega (arith, sound.mrn_count));
  mrn_most = omega (arith, left);
  lrns = AllPairs-append (λ (a b : Movement). a.lrn ≢ b.lrn) h.movements m sound.lrns (other_lrn m.lrn h.movements fresh);
  cover = AllByRecursion-weaker (IsCovered h.movements) (IsCovered (h.movements ++ m ∷ [])) (λ g. covered_with_accepted h.movements m g accepted) h.guarantees sound.cover;
}

-- and so with a movement of theirs in a new state
sound_moved : (country : List ℕ) (h : HolderRows) (status : NewStatus) (found : Movement) (t : ℕ) → IsCountry country → IsMoment t → movement_by_mrn status.mrn h.movements ≡ Some found
    → (IsStatus found → IsStatus (with_status status found)) → AllByRecursion (IsCovered (map (moved status) h.movements)) h.guarantees → AreHolderRows country h
    → AreHolderRows country (record { row = record h.row { last_at = t }; guarantees = h.guarantees; movements = map (moved status) h.movements })
sound_moved country h status found t form moment is keeps cover sound = record {
  row = record { number = sound.row.number; eori = sound.row.eori; last_at = moment };
  guarantees = sound.guarantees;
  grn_count = sound.grn_count;
  grn_most = sound.grn_most;
  movements = rows_moved country h.row.holder h.guarantees status h.movements found (differ_with country (Some h) form sound).mrns is keeps sound.movements;
  mrn_count = simp length-map sound.mrn_count;
  mrn_most = sound.mrn_most;
  lrns = AllPairs-map (moved status) (λ (a b : Movement). a.lrn ≢ b.lrn) h.movements (λ m. m)
      (λ i j d less within same. sound.lrns i j d less within (sym (lrn_moved status (get_or h.movements i d)) ∙ same ∙ lrn_moved status (get_or h.movements j d)));
  cover = cover;
}

-- and so with a guarantee of theirs of which something is said anew
sound_said : (country : List ℕ) (h : HolderRows) (grn : List ℕ) (made : Guarantee → Guarantee) (found : Guarantee) (t : ℕ) → IsCountry country → IsMoment t → guarantee_by_grn grn h.guarantees ≡ Some found → ((g : Guarantee) → (made g).grn ≡ g.grn)
    → ((n : ℕ) → IsGuaranteeRow country h.row.holder n found → IsGuaranteeRow country h.row.holder n (made found)) → (IsCovered h.movements found → IsCovered h.movements (made found)) → AreHolderRows country h
    → AreHolderRows country (record { row = record h.row { last_at = t }; guarantees = map (at_grn grn made) h.guarantees; movements = h.movements })
sound_said country h grn made found t form moment is same keeps cover sound =
    let one = only_found (λ (g : Guarantee). g.grn) grn h.guarantees found (differ_with country (Some h) form sound).grns is in
    record {
      row = record { number = sound.row.number; eori = sound.row.eori; last_at = moment };
      guarantees = numbered_anew grn made same (IsGuaranteeRow country h.row.holder) found keeps 0 h.guarantees one sound.guarantees;
      grn_count = simp length-map sound.grn_count;
      grn_most = sound.grn_most;
      movements = AllNumbered-weaker (IsMovementRow country h.row.holder h.guarantees) (IsMovementRow country h.row.holder (map (at_grn grn made) h.guarantees))
          (movement_still country h.row.holder h.guarantees (map (at_grn grn made) h.guarantees) (λ x. found_anew grn made same x h.guarantees)) 0 h.movements sound.movements;
      mrn_count = sound.mrn_count;
      mrn_most = sound.mrn_most;
      lrns = sound.lrns;
      cover = each_anew grn made same (IsCovered h.movements) found cover h.guarantees one sound.cover;
    }

-- the lines of a movement that is found are on guarantees that differ
distinct_lines : (country : List ℕ) (h : HolderRows) (mrn : List ℕ) (found : Movement) → movement_by_mrn mrn h.movements ≡ Some found → AreHolderRows country h → AllPairs (λ (l m : Line). l.grn ≢ m.grn) found.lines
distinct_lines country h mrn found is sound = (number_found (λ (m : Movement). m.mrn) (IsMovementRow country h.row.holder h.guarantees) 0 mrn h.movements found sound.movements is).1.lines.distinct

-- the row that was there
the_row : (r : HolderRow) (old : HolderRow) → Some r ≡ Some old → old ≡ r
the_row r old e = cc

-- the rules where something is said of a guarantee anew
sound_said_of : (country : List ℕ) (H : ℕ) (h : HolderRows) (r : HolderRow) (grn : List ℕ) (made : Guarantee → Guarantee) → IsCountry country → h.row.holder ≡ H → IsSaidOf country H (account_with country (Some h)) r grn made → AreHolderRows country h
    → AreHolderRows country (record { row = r; guarantees = map (at_grn grn made) h.guarantees; movements = h.movements })
sound_said_of country H h r grn made form number is sound =
    let same : is.old ≡ h.row = the_row h.row is.old is.known in
    let next : r ≡ record h.row { last_at = r.last_at } = subst (λ (o : HolderRow). r ≡ record o { last_at = r.last_at }) same is.next in
    let keeps = subst (λ H. (n : ℕ) → IsGuaranteeRow country H n is.guarantee → IsGuaranteeRow country H n (made is.guarantee)) (sym number) is.keeps in
    subst (λ (x : HolderRow). AreHolderRows country (record { row = x; guarantees = map (at_grn grn made) h.guarantees; movements = h.movements })) (sym next)
    (sound_said country h grn made is.guarantee r.last_at form is.moment is.found is.same keeps is.cover sound)

-- a holder's rows keep their rules after a change that follows on them
sound_after : (country : List ℕ) (H : ℕ) (o : Option HolderRows) (c : Change) (row : HolderRow) → IsCountry country → row_in c ≡ Some row → IsFor country H (account_with country o) c → IfSome o (λ h. h.row.holder ≡ H) → IfSome o (AreHolderRows country)
    → AreHolderRows country (rows_after c (rows_or_new row o))
sound_after country H o change.Nothing row form has is number sound = cc
sound_after country H None (change.Registered r) row form has is number sound = record {
  row = is.ranges;
  guarantees = tt;
  grn_count = is.no_grn;
  grn_most = omega (arith, is.no_grn);
  movements = tt;
  mrn_count = is.no_mrn;
  mrn_most = omega (arith, is.no_mrn);
  lrns = λ i j d less within. absurd (omega (arith, within));
  cover = tt;
}
sound_after country H (Some h) (change.Registered r) row form has is number sound = let none = is.new in cc
sound_after country H None (change.Opened r g) row form has is number sound = let some = is.known in cc
sound_after country H (Some h) (change.Opened r g) row form has is number sound =
    let same : is.old ≡ h.row = the_row h.row is.old is.known in
    let next : r ≡ record h.row { last_at = r.last_at; grn_count = h.row.grn_count + 1 } = subst (λ (o : HolderRow). r ≡ record o { last_at = r.last_at; grn_count = o.grn_count + 1 }) same is.next in
    let left : h.row.grn_count < greatest_grn_given = subst (λ (o : HolderRow). o.grn_count < greatest_grn_given) same is.left in
    let guarantee : IsGuaranteeRow country h.row.holder (h.row.grn_count + 1) g = subst (λ n. IsGuaranteeRow country n (h.row.grn_count + 1) g) (sym number) (subst (λ (o : HolderRow). IsGuaranteeRow country H (o.grn_count + 1) g) same is.guarantee) in
    subst (λ (x : HolderRow). AreHolderRows country (record { row = x; guarantees = h.guarantees ++ g ∷ []; movements = h.movements })) (sym next) (sound_opened country h g r.last_at form is.moment left guarantee sound)
sound_after country H None (change.Declared r m) row form has is number sound = let some = is.known in cc
sound_after country H (Some h) (change.Declared r m) row form has is number sound =
    let same : is.old ≡ h.row = the_row h.row is.old is.known in
    let next : r ≡ record h.row { last_at = r.last_at; mrn_count = h.row.mrn_count + 1 } = subst (λ (o : HolderRow). r ≡ record o { last_at = r.last_at; mrn_count = o.mrn_count + 1 }) same is.next in
    let left : h.row.mrn_count < greatest_mrn_given = subst (λ (o : HolderRow). o.mrn_count < greatest_mrn_given) same is.left in
    let movement : IsMovementRow country h.row.holder h.guarantees (h.row.mrn_count + 1) m = subst (λ n. IsMovementRow country n h.guarantees (h.row.mrn_count + 1) m) (sym number) (subst (λ (o : HolderRow). IsMovementRow country H h.guarantees (o.mrn_count + 1) m) same is.movement) in
    subst (λ (x : HolderRow). AreHolderRows country (record { row = x; guarantees = h.guarantees; movements = h.movements ++ m ∷ [] })) (sym next) (sound_declared country h m r.last_at is.moment left movement is.fresh is.accepted sound)
sound_after country H None (change.Moved r status) row form has is number sound = let some = is.known in cc
sound_after country H (Some h) (change.Moved r status) row form has is number sound =
    let same : is.old ≡ h.row = the_row h.row is.old is.known in
    let next : r ≡ record h.row { last_at = r.last_at } = subst (λ (o : HolderRow). r ≡ record o { last_at = r.last_at }) same is.next in
    subst (λ (x : HolderRow). AreHolderRows country (record { row = x; guarantees = h.guarantees; movements = map (moved status) h.movements })) (sym next)
    (sound_moved country h status is.movement r.last_at form is.moment is.found is.keeps (is.cover (differ_with country (Some h) form sound) (distinct_lines country h status.mrn is.movement is.found sound) sound.cover) sound)
sound_after country H None (change.TermsSet r terms) row form has is number sound = let some = is.known in cc
sound_after country H (Some h) (change.TermsSet r terms) row form has is number sound = sound_said_of country H h r terms.grn (with_terms terms) form number is sound
sound_after country H None (change.CodeAdded r grn code) row form has is number sound = let some = is.0.known in cc
sound_after country H (Some h) (change.CodeAdded r grn code) row form has is number sound = sound_said_of country H h r grn (coded code) form number is.0 sound
sound_after country H None (change.CodeRemoved r grn code) row form has is number sound = let some = is.known in cc
sound_after country H (Some h) (change.CodeRemoved r grn code) row form has is number sound = sound_said_of country H h r grn (uncoded code) form number is sound

-- the number of a row that is there
number_of : (H : ℕ) (country : List ℕ) (o : Option HolderRows) (old : HolderRow) → IfSome o (λ h. h.row.holder ≡ H) → (account_with country o).holder ≡ Some old → old.holder ≡ H
number_of H country None old number known = cc
number_of H country (Some h) old number known = ap (λ (r : HolderRow). r.holder) (the_row h.row old known) ∙ number

-- the row of a change that follows on a holder's account has the holder's number
number_after : (country : List ℕ) (H : ℕ) (o : Option HolderRows) (c : Change) (row : HolderRow) → row_in c ≡ Some row → IsFor country H (account_with country o) c → IfSome o (λ h. h.row.holder ≡ H) → row.holder ≡ H
number_after country H o change.Nothing row has is number = cc
number_after country H o (change.Registered r) row has is number = let same : r ≡ row = cc in subst (λ (r : HolderRow). r.holder ≡ H) same is.number
number_after country H o (change.Opened r g) row has is number =
    let same : r ≡ row = cc in
    subst (λ (r : HolderRow). r.holder ≡ H) same (ap (λ (r : HolderRow). r.holder) is.next ∙ number_of H country o is.old number is.known)
number_after country H o (change.Declared r m) row has is number =
    let same : r ≡ row = cc in
    subst (λ (r : HolderRow). r.holder ≡ H) same (ap (λ (r : HolderRow). r.holder) is.next ∙ number_of H country o is.old number is.known)
number_after country H o (change.Moved r status) row has is number =
    let same : r ≡ row = cc in
    subst (λ (r : HolderRow). r.holder ≡ H) same (ap (λ (r : HolderRow). r.holder) is.next ∙ number_of H country o is.old number is.known)
number_after country H o (change.TermsSet r terms) row has is number =
    let same : r ≡ row = cc in
    subst (λ (r : HolderRow). r.holder ≡ H) same (ap (λ (r : HolderRow). r.holder) is.next ∙ number_of H country o is.old number is.known)
number_after country H o (change.CodeAdded r grn code) row has is number =
    let same : r ≡ row = cc in
    subst (λ (r : HolderRow). r.holder ≡ H) same (ap (λ (r : HolderRow). r.holder) is.0.next ∙ number_of H country o is.0.old number is.0.known)
number_after country H o (change.CodeRemoved r grn code) row has is number =
    let same : r ≡ row = cc in
    subst (λ (r : HolderRow). r.holder ≡ H) same (ap (λ (r : HolderRow). r.holder) is.next ∙ number_of H country o is.old number is.known)

-- what an accepted command of H writes into H's rows keeps them sound, and gives the account after it
pub follows_on : KeepsRowsSound
follows_on country H o s form number sound own proper row has =
    let c : Change = (decision_on (account_with country o) s.at s.command).change in
    let is : IsFor country H (account_with country o) c = change_in_is_for H (account_with country o) (moment_of s.at) s.command own proper (moment_is s.at) in
    record {
      number = ap (λ (r : HolderRow). r.holder) (row_after c row (rows_or_new row o) has) ∙ number_after country H o c row has is number;
      account = account_of_rows_after country o c row has;
      sound = sound_after country H o c row form has is number sound;
    }
