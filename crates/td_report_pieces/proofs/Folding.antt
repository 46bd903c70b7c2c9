-- Rows taken up one after another.
use Rattle.std.proofs.Common.{◌≡◌, ℕ, ◌+◌, List, [], ◌∷◌, ◌++◌, length, Option, Some, None, refl, sym, ap, ◌∙◌, subst, append-nil, append_assoc, string_bytes}
use Rattle.std.proofs.lemmas.List.{length-append}
use Rattle.std.proofs.lemmas.List.Elements.{filter_map-append}
use Rattle.std.proofs.lemmas.List.Folds.{concat-append}
use Rattle.std.specs.List.{FoldsTo, concat, filter_map}
use Rattle.counted_io.specs.declared.counted.Counted.{Counted}
use Rattle.counted_io.specs.Chains.{Wrote}
use Rattle.counted_io.proofs.Chaining.{wrote_on}
use Rattle.td_report_pieces.specs.declared.fault.ReportFault.{ReportFault}
use Rattle.td_report_pieces.specs.declared.fault.ReportFault.TheVariants.{Write}
use Rattle.td_report_pieces.specs.declared.pieces.Pieces.{Pieces}
use Rattle.td_report_pieces.specs.Pieces.{SeesBy, TakesUp, text_in, lines_in}
use Rattle.td_report_pieces.specs.Written.{no_write_failed}

-- a line more, or none
one_text : {T : Type 0} (f : T → Option (List ℕ)) (row : T) → concat (filter_map f (row ∷ [])) ≡ text_in (f row)
one_text f row = by (f row)
  where
    by : (line : Option (List ℕ)) → concat (filter_map (λ (l : Option (List ℕ)). l) (line ∷ [])) ≡ text_in line
    by None = refl
    by (Some text) = append-nil text

one_count : {T : Type 0} (f : T → Option (List ℕ)) (row : T) → length (filter_map f (row ∷ [])) ≡ lines_in (f row)
one_count f row = by (f row)
  where
    by : (line : Option (List ℕ)) → length (filter_map (λ (l : Option (List ℕ)). l) (line ∷ [])) ≡ lines_in line
    by None = refl
    by (Some text) = refl

text_more : {T : Type 0} (f : T → Option (List ℕ)) (rows : List T) (row : T)
    → concat (filter_map f (rows ++ row ∷ [])) ≡ concat (filter_map f rows) ++ text_in (f row)
text_more f rows row =
    ap concat (filter_map-append f rows (row ∷ [])) ∙ concat-append (filter_map f rows) (filter_map f (row ∷ []))
    ∙ ap (λ (t : List ℕ). concat (filter_map f rows) ++ t) (one_text f row)

count_more : {T : Type 0} (f : T → Option (List ℕ)) (rows : List T) (row : T)
    → length (filter_map f (rows ++ row ∷ [])) ≡ length (filter_map f rows) + lines_in (f row)
count_more f rows row =
    ap length (filter_map-append f rows (row ∷ [])) ∙ length-append (filter_map f rows) (filter_map f (row ∷ []))
    ∙ ap (λ (n : ℕ). length (filter_map f rows) + n) (one_count f row)

module _ {T R W : Type 0} (contents : W → Option (List ℕ)) (line : R → T → Option (List ℕ)) (header : List ℕ) (report : R) (start : Counted W) where
  -- Rows were taken up. What was written and what waits begins the header and their lines; without a fault it is that.
  pub record HasTaken (rows : List T) (p : Pieces R) (w : Counted W) : Type 0 where
    pub sent : List ℕ
    pub rest : List ℕ
    pub wrote : Wrote contents start w sent (no_write_failed p.fault)
    pub text : sent ++ (string_bytes p.text ++ rest) ≡ header ++ concat (filter_map (line report) rows)
    pub same : p.report ≡ report
    pub whole : p.fault ≡ None → (rest ≡ []) × (p.lines ≡ length (filter_map (line report) rows))
    pub none : p.fault ≡ Some Write → string_bytes p.text ≡ []

  -- a row more, which is taken up
  step : (rows : List T) (p q : Pieces R) (w v : Counted W) (row : T) → p.fault ≡ None → HasTaken rows p w
      → TakesUp contents (line p.report row) p w q.fault q v → HasTaken (rows ++ row ∷ []) q v
  step rows p q w v row well h s =
      let before : header ++ concat (filter_map (line report) rows) ≡ h.sent ++ string_bytes p.text =
      sym h.text ∙ ap (λ (l : List ℕ). h.sent ++ (string_bytes p.text ++ l)) (h.whole well).0
      ∙ ap (λ (l : List ℕ). h.sent ++ l) (append-nil (string_bytes p.text)) in
      let is : line p.report row ≡ line report row = ap (λ (r : R). line r row) h.same in
      record {
        sent = h.sent ++ s.sent;
        rest = s.rest;
        wrote = wrote_on contents start w v h.sent s.sent (no_write_failed q.fault)
            (subst (λ (f : Option ReportFault). Wrote contents start w h.sent (no_write_failed f)) well h.wrote) s.wrote;
        text =
            append_assoc h.sent s.sent (string_bytes q.text ++ s.rest)
            ∙ ap (λ (l : List ℕ). h.sent ++ l) (s.text ∙ ap (λ (l : Option (List ℕ)). string_bytes p.text ++ text_in l) is)
            ∙ sym (append_assoc h.sent (string_bytes p.text) (text_in (line report row)))
            ∙ ap (λ (l : List ℕ). l ++ text_in (line report row)) (sym before)
            ∙ append_assoc header (concat (filter_map (line report) rows)) (text_in (line report row))
            ∙ ap (λ (l : List ℕ). header ++ l) (sym (text_more (line report) rows row));
        same = s.same ∙ h.same;
        whole = λ none. (
          (s.whole none).0,
          (s.whole none).1 ∙ ap (λ (n : ℕ). n + lines_in (line p.report row)) (h.whole well).1
              ∙ ap (λ (l : Option (List ℕ)). length (filter_map (line report) rows) + lines_in l) is
              ∙ sym (count_more (line report) rows row),
        );
        none = s.none;
      }

  -- a row more, which is not
  skip : (rows : List T) (p : Pieces R) (w : Counted W) (row : T) (why : ReportFault) → p.fault ≡ Some why → HasTaken rows p w
      → HasTaken (rows ++ row ∷ []) p w
  skip rows p w row why stopped h =
      record {
        sent = h.sent;
        rest = h.rest ++ text_in (line report row);
        wrote = h.wrote;
        text =
            ap (λ (l : List ℕ). h.sent ++ l) (sym (append_assoc (string_bytes p.text) h.rest (text_in (line report row))))
            ∙ sym (append_assoc h.sent (string_bytes p.text ++ h.rest) (text_in (line report row)))
            ∙ ap (λ (l : List ℕ). l ++ text_in (line report row)) h.text
            ∙ append_assoc header (concat (filter_map (line report) rows)) (text_in (line report row))
            ∙ ap (λ (l : List ℕ). header ++ l) (sym (text_more (line report) rows row));
        same = h.same;
        whole = λ none. absurd (cc (none, stopped));
        none = h.none;
      }

  taken_more : (rows : List T) (p q : Pieces R) (w v : Counted W) (row : T) → HasTaken rows p w
      → SeesBy contents p.fault (line p.report row) p w q v → HasTaken (rows ++ row ∷ []) q v
  taken_more rows p q w v row h = by p.fault refl
    where
      by : (f : Option ReportFault) → p.fault ≡ f → SeesBy contents f (line p.report row) p w q v → HasTaken (rows ++ row ∷ []) q v
      by None well s = step rows p q w v row well h s
      by (Some why) stopped s = rw (s.0, s.1) (skip rows p w row why stopped h)

  -- rows more
  pub taken_all : (rows more : List T) (p q : Pieces R × Counted W) → HasTaken rows p.0 p.1
      → FoldsTo (λ p row q. SeesBy contents p.0.fault (line p.0.report row) p.0 p.1 q.0 q.1) p more q → HasTaken (rows ++ more) q.0 q.1
  taken_all rows [] p q h folds = rw (append-nil rows) (subst (λ (s : Pieces R × Counted W). HasTaken rows s.0 s.1) folds h)
  taken_all rows (row ∷ more) p q h folds =
      subst (λ (l : List T). HasTaken l q.0 q.1) (append_assoc rows (row ∷ []) more)
      (taken_all (rows ++ row ∷ []) more folds.0 q (taken_more rows p.0 folds.0.0 p.1 folds.0.1 row h folds.1) folds.2)
