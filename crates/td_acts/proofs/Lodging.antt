-- What the table says of a declaration, from what was loaded for it.
use Rattle.std.proofs.Common.{◌≡◌, ℕ, ◌+◌, Bool, true, false, List, [], ◌∷◌, Option, Some, None, refl, ◌∙◌, ap}
use Rattle.std.specs.Prelude.{map, nat_lt, nat_le, if◌then◌else◌}
use Rattle.std.specs.List.{AllByRecursion}
use Rattle.std.specs.Option.{option_map}
use Rattle.std.specs.Str.{bytes_eq}
use Rattle.td_base.specs.Days.{day_of_moment}
use Rattle.td_base.specs.References.{mrn_text}
use Rattle.td_movement.specs.declared.line.Line.{Line}
use Rattle.td_model.specs.declared.holder_row.HolderRow.{HolderRow}
use Rattle.td_guarantee.specs.declared.guarantee.Guarantee.{Guarantee}
use Rattle.td_movement.specs.declared.movement.Movement.{Movement}
use Rattle.td_movement.specs.declared.state.State.TheVariants.{Accepted}
use Rattle.td_model.specs.declared.change.Change.TheVariants as change
use Rattle.td_acts.specs.declared.rows.Verdict.{Verdict}
use Rattle.td_commands.specs.declared.command.Command.TheVariants.{Ie015}
use Rattle.td_commands.specs.declared.said.Answer.TheVariants as answer
use Rattle.td_commands.specs.declared.said.Refusal.{Refusal}
use Rattle.td_commands.specs.declared.said.Said.TheVariants.{Answered, Refused}
use Rattle.td_model.specs.Account.{guarantee_by_grn, movement_by_lrn}
use Rattle.td_model.specs.Effects.{year2_at, next_serial, greatest_mrn_given}
use Rattle.td_model.specs.Declaring.{first_refusal, guarantee_refusal, refusal_or}
use Rattle.td_acts.specs.Deciding.{decision_at, entry_by_grn}
use Rattle.td_commands.specs.Lines.{line_of}

-- a guarantee is found as its entry is
pub named_entry : (grn : List ℕ) (es : List (Guarantee × ℕ)) → guarantee_by_grn grn (map (λ e. e.0) es) ≡ option_map (λ e. e.0) (entry_by_grn grn es)
named_entry grn [] = refl
named_entry grn (e ∷ es) = by_test (bytes_eq e.0.grn grn) (named_entry grn es)
  where
    by_test : (b : Bool) → guarantee_by_grn grn (map (λ e. e.0) es) ≡ option_map (λ e. e.0) (entry_by_grn grn es)
        → if◌then◌else◌ {A = Option Guarantee} b (Some e.0) (guarantee_by_grn grn (map (λ e. e.0) es)) ≡ option_map (λ e. e.0) (if◌then◌else◌ {A = Option (Guarantee × ℕ)} b (Some e) (entry_by_grn grn es))
    by_test true later = refl
    by_test false later = later

-- lines are tested by what is found for them alone
pub same_refusal : (day : ℕ) (es : List (Guarantee × ℕ)) (gs : List Guarantee) (lines : List (Line × List ℕ)) → AllByRecursion (λ l. option_map (λ e. e.0) (entry_by_grn l.0.grn es) ≡ guarantee_by_grn l.0.grn gs) lines
    → first_refusal day (map (λ e. e.0) es) lines ≡ first_refusal day gs lines
same_refusal day es gs [] found = refl
same_refusal day es gs (l ∷ lines) found =
    ap (λ o. refusal_or (guarantee_refusal day l.1 o) (first_refusal day (map (λ e. e.0) es) lines)) (named_entry l.0.grn es ∙ found.0)
    ∙ ap (refusal_or (guarantee_refusal day l.1 (guarantee_by_grn l.0.grn gs))) (same_refusal day es gs lines found.1)

-- the parts of an equal pair
parts : (p q : ℕ × List ℕ) → Some p ≡ Some q → (q.0 ≡ p.0) × (q.1 ≡ p.1)
parts p q e = let same : q ≡ p = cc in (ap (λ r. r.0) same, ap (λ r. r.1) same)

-- a next serial is left where the last one isn't the greatest, and is that one and its text
serial_left : (greatest last serial : ℕ) (text : ℕ → List ℕ) (made : List ℕ) → next_serial greatest last text ≡ Some (serial, made)
    → (nat_le greatest last ≡ false) × (serial ≡ last + 1) × (made ≡ text (last + 1))
serial_left greatest last serial text made next = by_test (nat_le greatest last) refl next
  where
    by_test : (b : Bool) → nat_le greatest last ≡ b → if◌then◌else◌ {A = Option (ℕ × List ℕ)} b None (Some (last + 1, text (last + 1))) ≡ Some (serial, made) → (nat_le greatest last ≡ false) × (serial ≡ last + 1) × (made ≡ text (last + 1))
    by_test true h next = cc
    by_test false h next = let same = parts (last + 1, text (last + 1)) (serial, made) next in (h, same.0, same.1)

-- the verdict on a declaration whose lines are refused, or not
abbrev pub lodged : Option Refusal → ℕ → List ℕ → List ℕ → List ℕ → List ℕ → List Line → ℕ → HolderRow → Verdict
lodged (Some why) t mrn lrn departure destination lines serial row = record { said = Refused why; change = change.Nothing }
lodged None t mrn lrn departure destination lines serial row = record {
  said = Answered (answer.Ie028 lrn mrn);
  change = change.Declared (record row { last_at = t; mrn_count = serial })
      (record { mrn = mrn; lrn = lrn; departure = departure; destination = destination; accepted = day_of_moment t; state = Accepted; limit = None; arrival = None; actual = None; lines = lines });
}

-- the table's verdict where no refusal before the lines comes
pub lodged_at : (country : List ℕ) (o : Option HolderRow) (gs : List Guarantee) (ms : List Movement) (t holder : ℕ) (lrn departure destination : List ℕ) (lines : List (Line × List ℕ)) (row : HolderRow) (serial : ℕ) (mrn : List ℕ) (refusal : Option Refusal)
    → o ≡ Some row → nat_lt t row.last_at ≡ false → movement_by_lrn lrn ms ≡ None
    → next_serial greatest_mrn_given row.mrn_count (mrn_text (year2_at t) country holder) ≡ Some (serial, mrn)
    → first_refusal (day_of_moment t) gs lines ≡ refusal
    → decision_at (record { country = country; holder = o; guarantees = gs; movements = ms }) t (Ie015 holder lrn departure destination lines) ≡ lodged refusal t mrn lrn departure destination (map line_of lines) serial row
lodged_at country o gs ms t holder lrn departure destination lines row serial mrn None own not_back unknown next tested =
    let left = serial_left greatest_mrn_given row.mrn_count serial (mrn_text (year2_at t) country holder) mrn next in
    rw (own, not_back, unknown, left.0, tested, left.1, left.2) refl
lodged_at country o gs ms t holder lrn departure destination lines row serial mrn (Some why) own not_back unknown next tested =
    let left = serial_left greatest_mrn_given row.mrn_count serial (mrn_text (year2_at t) country holder) mrn next in
    rw (own, not_back, unknown, left.0, tested) refl
