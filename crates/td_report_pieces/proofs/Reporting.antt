-- What was written of a report, by the rows that were taken up and by how it was ended.
use Rattle.std.proofs.Common.{◌≡◌, ◌≢◌, ◌⊎◌, ℕ, Bool, true, false, List, [], ◌++◌, length, Option, Some, None, Result, Ok, Err, IsSome, IsTrue, refl, sym, ap, ◌∙◌, subst, append-nil, append_assoc, inl, inr, string_bytes, cond}
use Rattle.std.proofs.lemmas.List.Folds.{concat-append}
use Rattle.std.specs.Io.KnownBytes.{Appends}
use Rattle.std.specs.List.{concat, filter_map}
use Rattle.std.specs.Option.{is_none}
use Rattle.std.specs.Result.{is_ok}
use Rattle.counted_io.specs.declared.counted.Counted.{Counted}
use Rattle.counted_io.specs.Chains.{Wrote}
use Rattle.counted_io.specs.Counted.{calls_of, has_failed, known_bytes, HasCalled}
use Rattle.counted_io.proofs.Chaining.{wrote_appends, wrote_on}
use Rattle.td_desk.specs.declared.fault.Fault.{Fault}
use Rattle.td_desk.specs.declared.fault.Fault.TheVariants as fault
use Rattle.td_report_pieces.specs.declared.fault.ReportFault.{ReportFault}
use Rattle.td_report_pieces.specs.declared.fault.ReportFault.TheVariants.{Write, Store, NoMemory}
use Rattle.td_report_pieces.specs.declared.pieces.Pieces.{Pieces}
use Rattle.td_report_pieces.specs.Pieces.{Ends, left_of}
use Rattle.td_report_pieces.specs.Layout.{report_text, total_line}
use Rattle.td_report_pieces.specs.Written.{EndsBy, HasWritten, IsReported, IsTold, no_write_failed, stop_of}
use Rattle.td_report_pieces.proofs.Chains.{failed_call}
use Rattle.td_report_pieces.proofs.Ending.{append-nil-left}
use Rattle.td_report_pieces.proofs.Folding.{HasTaken}

-- it stopped at nothing: the visit ended well
not_stopped : (visited : Result Bool Fault) (f : Option ReportFault) → stop_of visited f ≡ None → (f ≡ None) × (all : Bool) × (visited ≡ Ok all)
not_stopped (Ok all) f is = (is, all, refl)
not_stopped (Err fault.Store) f is = cc is
not_stopped (Err fault.NoMemory) None is = cc is
not_stopped (Err fault.NoMemory) (Some why) is = cc is

-- it stopped at a write
stopped_at_write : (visited : Result Bool Fault) (f : Option ReportFault) → stop_of visited f ≡ Some Write → f ≡ Some Write
stopped_at_write (Ok all) f is = is
stopped_at_write (Err fault.Store) f is = cc is
stopped_at_write (Err fault.NoMemory) None is = cc is
stopped_at_write (Err fault.NoMemory) (Some why) is = is

-- how it is told where no write had failed before its end
told_then : (visited : Result Bool Fault) (f : Option ReportFault) (well : Bool) (result : Result (Unit {0}) ReportFault) → f ≢ Some Write
    → EndsBy (stop_of visited f) well result → IsTold well result
told_then visited f well (Ok done) other by = by.1
told_then visited f well (Err Write) other (store, inl cut) = cut
told_then visited f well (Err Write) other (store, inr stop) = absurd (other (stopped_at_write visited f stop))
told_then visited f well (Err Store) other by = tt
told_then visited f well (Err NoMemory) other by = by.0

-- and where one had
told_before : (visited : Result Bool Fault) (well : Bool) (result : Result (Unit {0}) ReportFault) → EndsBy (stop_of visited (Some Write)) well result
    → IsTold false result
told_before visited well (Ok done) by = cc (not_stopped visited (Some Write) by.0).0
told_before visited well (Err Write) by = refl
told_before visited well (Err Store) by = tt
told_before (Ok all) well (Err NoMemory) (well_is, inl is) = cc is
told_before (Ok all) well (Err NoMemory) (well_is, inr is) = cc is
told_before (Err fault.Store) well (Err NoMemory) (well_is, inl is) = cc is
told_before (Err fault.Store) well (Err NoMemory) (well_is, inr is) = cc is
told_before (Err fault.NoMemory) well (Err NoMemory) (well_is, inl is) = cc is
told_before (Err fault.NoMemory) well (Err NoMemory) (well_is, inr is) = cc is

at_write : (f : Option ReportFault) → (f ≡ Some Write) ⊎ (f ≢ Some Write)
at_write None = inr (λ e. cc e)
at_write (Some Write) = inl refl
at_write (Some Store) = inr (λ e. cc e)
at_write (Some NoMemory) = inr (λ e. cc e)

unfailed : (f : Option ReportFault) → f ≢ Some Write → no_write_failed f ≡ true
unfailed None other = refl
unfailed (Some Write) other = absurd (other refl)
unfailed (Some Store) other = refl
unfailed (Some NoMemory) other = refl

-- nothing is left where a write failed
none_left : {R : Type 0} (p : Pieces R) (visited : Result Bool Fault) → p.fault ≡ Some Write → string_bytes p.text ≡ [] → left_of p visited ≡ []
none_left p visited stopped none = rw (none, stopped) (by visited)
  where
    by : (v : Result Bool Fault) → cond (is_none (stop_of v (Some Write))) (total_line p.lines) [] ≡ []
    by (Ok all) = refl
    by (Err fault.Store) = refl
    by (Err fault.NoMemory) = refl

some_or_none : {A : Type 0} (o : Option A) → o ≡ None → IsSome o → ⊥
some_or_none None none some = cc some
some_or_none (Some a) none some = cc none

module _ {T R W : Type 0} (contents : W → Option (List ℕ)) (line : R → T → Option (List ℕ)) (header : List ℕ) (report : R) (start : Counted W)
    (rows : List T) (p : Pieces R) (w v : Counted W) (visited : Result Bool Fault) (result : Result (Unit {0}) ReportFault)
    (h : HasTaken contents line header report start rows p w) (e : Ends contents p visited w result v) where
  -- all writes are one chain
  chained : (well : Bool) × Wrote contents start v (h.sent ++ e.sent) well × IsTold well result
  chained = elim (at_write p.fault) [
    | inl failed ↦
        let nothing = none_left p visited failed (h.none failed) in
        let sent : e.sent ≡ [] = append-nil-left e.sent e.rest (e.text ∙ nothing) in (
          false,
          rw (sent, append-nil h.sent, e.still nothing) (subst (λ (f : Option ReportFault). Wrote contents start w h.sent (no_write_failed f)) failed h.wrote),
          told_before visited e.well result (subst (λ (f : Option ReportFault). EndsBy (stop_of visited f) e.well result) failed e.by),
        )
    | inr other ↦ (
      e.well,
      wrote_on contents start w v h.sent e.sent e.well (subst (λ (b : Bool). Wrote contents start w h.sent b) (unfailed p.fault other) h.wrote) e.wrote,
      told_then visited p.fault e.well result other e.by,
    )
  ]

  pub has_written : HasWritten contents start v result
  has_written = record { written = h.sent ++ e.sent; well = chained.0; wrote = chained.1; told = chained.2 }

  -- what was written begins the text of these rows and others
  module _ (lines : List (List ℕ)) (more : List (List ℕ)) (are : filter_map (line report) rows ++ more ≡ lines)
      (all : visited ≡ Ok true → more ≡ []) (stops : visited ≡ Ok false → IsSome p.fault) where
    -- a visit that ended well, and that nothing stopped, showed all rows
    shown_all : p.fault ≡ None → (b : Bool) → visited ≡ Ok b → more ≡ []
    shown_all none true is = all is
    shown_all none false is = absurd (some_or_none p.fault none (stops is))

    -- after a visit that showed all rows it is the whole where nothing is left of what was to be written then
    whole_text : stop_of visited p.fault ≡ None → (h.sent ++ e.sent) ++ e.rest ≡ report_text header lines
    whole_text none =
        let ended = not_stopped visited p.fault none in
        let no_more : more ≡ [] = shown_all ended.0 ended.1 ended.2 in
        let same : filter_map (line report) rows ≡ lines = sym (append-nil (filter_map (line report) rows)) ∙ (rw (sym no_more) are) in
        let total : left_of p visited ≡ string_bytes p.text ++ total_line (length lines) = rw (none, (h.whole ended.0).1, same) refl in
        let before : h.sent ++ string_bytes p.text ≡ header ++ concat lines =
        ap (λ (l : List ℕ). h.sent ++ l) (sym (append-nil (string_bytes p.text)) ∙ ap (λ (l : List ℕ). string_bytes p.text ++ l) (sym (h.whole ended.0).0))
        ∙ (h.text ∙ ap (λ (l : List (List ℕ)). header ++ concat l) same) in
        append_assoc h.sent e.sent e.rest ∙ ap (λ (l : List ℕ). h.sent ++ l) (e.text ∙ total)
        ∙ sym (append_assoc h.sent (string_bytes p.text) (total_line (length lines)))
        ∙ ap (λ (l : List ℕ). l ++ total_line (length lines)) before ∙ append_assoc header (concat lines) (total_line (length lines))

    -- else it is what waited
    part_text : is_none (stop_of visited p.fault) ≡ false → (rest : List ℕ) × ((h.sent ++ e.sent) ++ rest ≡ report_text header lines)
    part_text some =
        let left : left_of p visited ≡ string_bytes p.text = rw some (append-nil (string_bytes p.text)) in
        let tail = concat more ++ total_line (length lines) in
        let split : concat lines ≡ concat (filter_map (line report) rows) ++ concat more =
        ap concat (sym are) ∙ concat-append (filter_map (line report) rows) more in (
          e.rest ++ (h.rest ++ tail),
          append_assoc h.sent e.sent (e.rest ++ (h.rest ++ tail))
              ∙ ap (λ (l : List ℕ). h.sent ++ l) (sym (append_assoc e.sent e.rest (h.rest ++ tail)) ∙ ap (λ (l : List ℕ). l ++ (h.rest ++ tail)) (e.text ∙ left))
              ∙ ap (λ (l : List ℕ). h.sent ++ l) (sym (append_assoc (string_bytes p.text) h.rest tail))
              ∙ sym (append_assoc h.sent (string_bytes p.text ++ h.rest) tail) ∙ ap (λ (l : List ℕ). l ++ tail) h.text
              ∙ append_assoc header (concat (filter_map (line report) rows)) tail
              ∙ ap (λ (l : List ℕ). header ++ l)
              (sym (append_assoc (concat (filter_map (line report) rows)) (concat more) (total_line (length lines)))
              ∙ ap (λ (l : List ℕ). l ++ total_line (length lines)) (sym split)),
        )

    begins : (rest : List ℕ) × ((h.sent ++ e.sent) ++ rest ≡ report_text header lines)
    begins = by (stop_of visited p.fault) refl
      where
        by : (s : Option ReportFault) → stop_of visited p.fault ≡ s → (rest : List ℕ) × ((h.sent ++ e.sent) ++ rest ≡ report_text header lines)
        by None none = (e.rest, whole_text none)
        by (Some why) is = part_text (rw is refl)

    appended : Appends (known_bytes contents start) (known_bytes contents v) (h.sent ++ e.sent)
    appended = wrote_appends contents start v (h.sent ++ e.sent) chained.0 chained.1

    pub reported : IsReported contents start v (report_text header lines) result
    reported = by result refl
      where
        by : (r : Result (Unit {0}) ReportFault) → result ≡ r → IsReported contents start v (report_text header lines) r
        by (Ok done) is =
            let none : stop_of visited p.fault ≡ None = (subst (EndsBy (stop_of visited p.fault) e.well) is e.by).0 in
            let nothing : e.rest ≡ [] = e.whole (rw is refl) in
            subst (λ (l : List ℕ). Appends (known_bytes contents start) (known_bytes contents v) l)
            (sym (append-nil (h.sent ++ e.sent)) ∙ ap (λ (l : List ℕ). (h.sent ++ e.sent) ++ l) (sym nothing) ∙ whole_text none) appended
        by (Err why) is = (h.sent ++ e.sent, begins.0, begins.1, appended)

-- what holds after a visit that ended well, or for want of memory, holds where a failed write is told
pub told_write : (visited : Result Bool Fault) (f : Option ReportFault) (well : Bool) (result : Result (Unit {0}) ReportFault)
    → EndsBy (stop_of visited f) well result → result ≡ Err Write → (P : Type 0) → (IsTrue (is_ok visited) → P) → (visited ≡ Err fault.NoMemory → P) → P
told_write visited f well (Ok done) by is P ok memory = cc is
told_write visited f well (Err Store) by is P ok memory = cc is
told_write visited f well (Err NoMemory) by is P ok memory = cc is
told_write (Ok all) f well (Err Write) by is P ok memory = ok refl
told_write (Err fault.NoMemory) f well (Err Write) by is P ok memory = memory refl
told_write (Err fault.Store) f well (Err Write) by is P ok memory = absurd (by.0 refl)

-- where a failed write is told, the last write failed
pub cause_of : {W : Type 0} (contents : W → Option (List ℕ)) (old new : Counted W) (result : Result (Unit {0}) ReportFault)
    → HasWritten contents old new result → result ≡ Err Write → (has_failed new ≡ true) × HasCalled (calls_of old) (calls_of new)
cause_of contents old new result h is =
    let ill : h.well ≡ false = subst (IsTold h.well) is h.told in
    failed_call contents old new h.written (subst (λ (b : Bool). Wrote contents old new h.written b) ill h.wrote)
