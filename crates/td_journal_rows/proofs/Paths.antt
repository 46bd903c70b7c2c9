-- The path of each request leads to its route.
use Rattle.std.proofs.Common.{◌≡◌, Bool, true, false, ◌==◌, ℕ, ◌<◌, List, [], ◌∷◌, ◌++◌, length, map, filter, find, take, All, Ok, Err, Option, Some, Result, codes, refl, ap, ◌∙◌, arith, inl, inr, option_map}
use Rattle.std.proofs.lemmas.Bool.{ne_eqb, not-true}
use Rattle.std.proofs.lemmas.Bool.Decides.{Decides-and, Decides-like, nat_tests}
use Rattle.std.proofs.lemmas.List.Elements.{All-append, All-cons, All-weaker}
use Rattle.std.proofs.lemmas.List.Splits.{slice_split_at, slice_split_none}
use Rattle.std.proofs.lemmas.List.Sums.{position_or_len_is}
use Rattle.std.proofs.lemmas.Str.{is_utf8-from_IsUtf8}
use Rattle.std.proofs.Math.Seq.{take-length}
use Rattle.std.specs.Bool.{Decides}
use Rattle.std.specs.Cmp.Lexicographic.{pointwise}
use Rattle.std.specs.List.{AllByRecursion, list_all, position_or_len, zip}
use Rattle.std.specs.Prelude.{◌&&◌, if◌then◌else◌, nat_le, nat_lt, not, ok_or}
use Rattle.std.specs.Str.{is_utf8}
use Rattle.path_table.specs.Segments.{is_part_name, segment_fits, segments}
use Rattle.ascii_text.specs.Digits.{IsMark}
use Rattle.ascii_text.proofs.Decided.{all_decided, le_decided}
use Rattle.td_base.specs.Codes.{IsHolderNumber, holder_text}
use Rattle.td_base.specs.References.{IsGrn, IsMrn, IsReferenceText, first_fault}
use Rattle.td_commands.specs.Commands.{IsProper}
use Rattle.td_commands.specs.declared.command.Command.{Command}
use Rattle.td_commands.specs.declared.command.Command.TheVariants as command
use Rattle.td_fields.specs.Faults.{◌>>=◌}
use Rattle.td_fields.specs.declared.fault.WebFault.{WebFault}
use Rattle.td_fields.specs.declared.fault.WebFault.TheVariants.{BadGrn, BadHolder, BadMrn, NoRoute, NoMethod}
use Rattle.td_routes.specs.Bodies.{command_at, command_of}
use Rattle.td_routes.specs.Routes.{TableRow, grn_part, holder_in_part, methods_with, mrn_part, path_of, route_of, route_with, row_with, table}
use Rattle.td_routes.specs.declared.table.Route.{Route}
use Rattle.td_routes.specs.declared.table.Route.TheVariants as route
use Rattle.td_journal_rows.specs.Requests.{request_method, request_path}
use Rattle.td_journal_rows.proofs.Plain.{IsShown, holder_marks, reference_marks, utf8_shown}
use Rattle.td_journal_rows.proofs.Readings.{holder_reads, reference_is}

-- ---- the characters of a path's segments

-- a character that is shown, no slash, and begins no query
record IsOfSegment (c : ℕ) : Type 0 where
  shown : IsShown c
  slash : (c == 47) ≡ false
  query : (c == 63) ≡ false

abbrev is_of_segment : ℕ → Bool
is_of_segment c = nat_le 32 c && nat_lt c 128 && not (c == 47) && not (c == 63)

of_segment_decided : (c : ℕ) → Decides (is_of_segment c) (IsOfSegment c)
of_segment_decided c =
    let below : Decides (nat_lt c 128) (c < 128) = (λ h. grind (arith, nat_tests), λ h. grind (arith, nat_tests)) in
    Decides-like (is_of_segment c)
    (λ h. record { shown = record { low = h.0.0.0; high = h.0.0.1 }; slash = not-true _ h.0.1; query = not-true _ h.1 })
    (λ h. (((h.shown.low, h.shown.high), ap not h.slash), ap not h.query))
    (Decides-and _ _ (Decides-and _ _ (Decides-and _ _ (le_decided 32 c) below) (λ h. h, λ h. h)) (λ h. h, λ h. h))

-- a word of the table
word : (text : List ℕ) → list_all is_of_segment text ≡ true → All IsOfSegment text
word text h = (all_decided is_of_segment IsOfSegment of_segment_decided text).0 h

mark_of_segment : (c : ℕ) → IsMark c → IsOfSegment c
mark_of_segment c (inl digit) = record { shown = record { low = omega (arith, digit.0); high = omega (arith, digit.1) }; slash = ne_eqb c 47 (λ e. omega (arith, digit.0)); query = ne_eqb c 63 (λ e. omega (arith, digit.1)) }
mark_of_segment c (inr letter) = record { shown = record { low = omega (arith, letter.0); high = omega (arith, letter.1) }; slash = ne_eqb c 47 (λ e. omega (arith, letter.0)); query = ne_eqb c 63 (λ e. omega (arith, letter.0)) }

-- a holder's number, a GRN and an MRN
holder_part_is : (n : ℕ) → All IsOfSegment (holder_text n)
holder_part_is n = All-weaker IsMark IsOfSegment mark_of_segment (holder_text n) (holder_marks n)

grn_is : (text : List ℕ) → IsGrn text → All IsOfSegment text
grn_is text h = All-weaker IsMark IsOfSegment mark_of_segment text (reference_marks 17 text (omega arith) h)

mrn_is : (text : List ℕ) → IsMrn text → All IsOfSegment text
mrn_is text h = All-weaker IsMark IsOfSegment mark_of_segment text (reference_marks 18 text (omega arith) h)

-- ---- a path and its segments

-- segments behind one, each behind a slash
abbrev joined : List ℕ → List (List ℕ) → List ℕ
joined s [] = s
joined s (u ∷ ss) = s ++ (47 ∷ joined u ss)

abbrev AreOfSegment : List (List ℕ) → Type 0
AreOfSegment = AllByRecursion (All IsOfSegment)

-- they are the path's segments
cut : (s : List ℕ) (ss : List (List ℕ)) → All IsOfSegment s → AreOfSegment ss → segments (joined s ss) ≡ s ∷ ss
cut s [] here rest = slice_split_none (λ c. c == 47) s (All-weaker IsOfSegment (λ c. (c == 47) ≡ false) (λ c h. h.slash) s here)
cut s (u ∷ ss) here rest =
    slice_split_at (λ c. c == 47) s 47 (joined u ss) (All-weaker IsOfSegment (λ c. (c == 47) ≡ false) (λ c h. h.slash) s here) refl
    ∙ ap (λ (us : List (List ℕ)). s ∷ us) (cut u ss rest.0 rest.1)

-- a character that is shown and begins no query
record IsOfPath (c : ℕ) : Type 0 where
  shown : IsShown c
  query : (c == 63) ≡ false

slash_of_path : IsOfPath 47
slash_of_path = record { shown = record { low = omega arith; high = omega arith }; query = refl }

characters : (s : List ℕ) (ss : List (List ℕ)) → All IsOfSegment s → AreOfSegment ss → All IsOfPath (joined s ss)
characters s [] here rest = All-weaker IsOfSegment IsOfPath (λ c h. record { shown = h.shown; query = h.query }) s here
characters s (u ∷ ss) here rest =
    All-append IsOfPath s (47 ∷ joined u ss) (All-weaker IsOfSegment IsOfPath (λ c h. record { shown = h.shown; query = h.query }) s here)
    (All-cons IsOfPath 47 (joined u ss) slash_of_path (characters u ss rest.0 rest.1))

shown_path : (path : List ℕ) → All IsOfPath path → All IsShown path
shown_path path all = All-weaker IsOfPath IsShown (λ c h. h.shown) path all

-- a target of such characters is a path
whole_path : (path : List ℕ) → All IsOfPath path → (is_utf8 path ≡ true) × (path_of path ≡ Some path)
whole_path path all =
    let text = is_utf8-from_IsUtf8 path (utf8_shown path (shown_path path all)) in
    let uncut : position_or_len (λ c. c == 63) path ≡ length path = position_or_len_is (λ c. c == 63) path (length path) 0 (omega arith) (λ k within. (all k 0 within).query) (λ within. absurd (omega (arith, within))) in
    (text, rw text (ap Some (ap (λ n. take n path) uncut ∙ take-length path)))

-- ---- the route of segments

abbrev route_by : List (List ℕ) → List ℕ → Result Route WebFault
route_by ss method =
    ok_or (option_map (λ (row : TableRow). row.path) (find (λ (row : TableRow). pointwise segment_fits (segments row.path) ss) table)) NoRoute >>= λ pattern.
    ok_or (row_with table pattern method) (NoMethod (methods_with table pattern)) >>= λ row.
    route_with (map (λ p. p.1) (filter (λ p. is_part_name p.0) (zip (segments pattern) ss))) row.endpoint

-- a path of such characters, which leads to a route
pub record LeadsTo (method path : List ℕ) (r : Route) : Type 0 where
  pub shown : All IsShown path
  pub read : (body : List ℕ) → command_of method path body ≡ command_at body r

-- by its segments
by_segments : (method s : List ℕ) (ss : List (List ℕ)) (r : Route) → All IsOfSegment s → AreOfSegment ss → route_by ([] ∷ s ∷ ss) method ≡ Ok r
    → LeadsTo method (47 ∷ joined s ss) r
by_segments method s ss r here rest found =
    let path = 47 ∷ joined s ss in
    let all = All-cons IsOfPath 47 (joined s ss) slash_of_path (characters s ss here rest) in
    let whole = whole_path path all in
    let cuts : segments path ≡ [] ∷ s ∷ ss = ap (λ (us : List (List ℕ)). [] ∷ us) (cut s ss here rest) in
    let routed : route_of method path ≡ Ok r = rw whole.0 (ap (λ ss. route_by ss method) cuts ∙ found) in
    record { shown = shown_path path all; read = λ body. rw (whole.1, routed) refl }

-- ---- parts that are read

holder_then : {B : Type 0} (n : ℕ) (next : ℕ → Result B WebFault) → IsHolderNumber n → (holder_in_part (holder_text n) >>= next) ≡ next n
holder_then n next h = ap (λ (o : Option ℕ). ok_or o BadHolder >>= next) (holder_reads n h)

grn_then : {B : Type 0} (text : List ℕ) (next : List ℕ → Result B WebFault) → IsGrn text → (grn_part text >>= next) ≡ next text
grn_then text next h = ap (λ (b : Bool). (if b then Ok text else Err (BadGrn (first_fault 17 text))) >>= next) (reference_is 17 text h)

mrn_then : {B : Type 0} (text : List ℕ) (next : List ℕ → Result B WebFault) → IsMrn text → (mrn_part text >>= next) ≡ next text
mrn_then text next h = ap (λ (b : Bool). (if b then Ok text else Err (BadMrn (first_fault 18 text))) >>= next) (reference_is 18 text h)

-- a holder and a reference
abbrev named : ℕ → List ℕ → Result (ℕ × List ℕ) WebFault
named holder reference = Ok (holder, reference)

holder_grn_then : (n : ℕ) (text : List ℕ) (made : ℕ → List ℕ → Route) → IsHolderNumber n → IsGrn text
    → ((holder_in_part (holder_text n) >>= λ holder. grn_part text >>= λ grn. named holder grn) >>= λ both. Ok (made both.0 both.1)) ≡ Ok (made n text)
holder_grn_then n text made h g =
    ap (λ (r : Result (ℕ × List ℕ) WebFault). r >>= λ both. Ok (made both.0 both.1)) (holder_then n (λ holder. grn_part text >>= λ grn. named holder grn) h ∙ grn_then text (λ grn. named n grn) g)

holder_mrn_then : (n : ℕ) (text : List ℕ) (made : ℕ → List ℕ → Route) → IsHolderNumber n → IsMrn text
    → ((holder_in_part (holder_text n) >>= λ holder. mrn_part text >>= λ mrn. named holder mrn) >>= λ both. Ok (made both.0 both.1)) ≡ Ok (made n text)
holder_mrn_then n text made h m =
    ap (λ (r : Result (ℕ × List ℕ) WebFault). r >>= λ both. Ok (made both.0 both.1)) (holder_then n (λ holder. mrn_part text >>= λ mrn. named holder mrn) h ∙ mrn_then text (λ mrn. named n mrn) m)

-- no reference is an empty text
no_reference : {P : Type 0} (places : ℕ) → 0 < places → IsReferenceText places [] → P
no_reference places some h = absurd (omega (arith, some, h.size))

-- ---- the route of each command

abbrev pub route_for : Command → Route
route_for (command.Register holder eori) = route.Register holder
route_for (command.OpenGuarantee holder reference cover code) = route.OpenGuarantee holder
route_for (command.Amend grn reference cover) = route.Amend grn
route_for (command.Revoke grn) = route.Revoke grn
route_for (command.Ie015 holder lrn departure destination lines) = route.Ie015 holder
route_for (command.Ie014 holder mrn) = route.Ie014 holder mrn
route_for (command.AddCode holder grn code) = route.AddCode holder grn
route_for (command.RemoveCode holder grn code) = route.RemoveCode holder grn
route_for (command.Ie029 mrn limit) = route.Ie029 mrn
route_for (command.Ie007 mrn office) = route.Ie007 mrn
route_for (command.Ie018 mrn result) = route.Ie018 mrn
route_for (command.Ie045 mrn cause) = route.Ie045 mrn
route_for (command.Ie140 mrn) = route.Ie140 mrn
route_for (command.SeeHolder holder) = route.SeeHolder holder
route_for (command.SeeMovement holder mrn) = route.SeeMovement holder mrn
route_for (command.SeeMovements holder) = route.SeeMovements holder
route_for (command.SeeGuarantee holder grn) = route.SeeGuarantee holder grn
route_for (command.SeeGuarantees holder) = route.SeeGuarantees holder

-- the path of a command leads to its route
pub path_leads : (c : Command) → IsProper c → LeadsTo (request_method c) (request_path c) (route_for c)
path_leads (command.Register holder eori) h =
    by_segments (codes "PUT") (codes "office") (codes "holders" ∷ holder_text holder ∷ []) (route.Register holder) (word (codes "office") refl) (word (codes "holders") refl, (holder_part_is holder, tt))
    (holder_then holder (λ n. Ok (route.Register n)) h.0)
path_leads (command.OpenGuarantee holder reference cover code) h =
    by_segments (codes "POST") (codes "office") (codes "holders" ∷ holder_text holder ∷ codes "guarantees" ∷ []) (route.OpenGuarantee holder) (word (codes "office") refl) (word (codes "holders") refl, (holder_part_is holder, (word (codes "guarantees") refl, tt)))
    (holder_then holder (λ n. Ok (route.OpenGuarantee n)) h.0)
path_leads (command.Amend [] reference cover) h = no_reference 17 (omega arith) h.0
path_leads (command.Amend (c ∷ text) reference cover) h =
    by_segments (codes "POST") (codes "office") (codes "guarantees" ∷ (c ∷ text) ∷ codes "amend" ∷ []) (route.Amend (c ∷ text)) (word (codes "office") refl) (word (codes "guarantees") refl, (grn_is (c ∷ text) h.0, (word (codes "amend") refl, tt)))
    (grn_then (c ∷ text) (λ grn. Ok (route.Amend grn)) h.0)
path_leads (command.Revoke []) h = no_reference 17 (omega arith) h
path_leads (command.Revoke (c ∷ text)) h =
    by_segments (codes "POST") (codes "office") (codes "guarantees" ∷ (c ∷ text) ∷ codes "revoke" ∷ []) (route.Revoke (c ∷ text)) (word (codes "office") refl) (word (codes "guarantees") refl, (grn_is (c ∷ text) h, (word (codes "revoke") refl, tt)))
    (grn_then (c ∷ text) (λ grn. Ok (route.Revoke grn)) h)
path_leads (command.Ie015 holder lrn departure destination lines) h =
    by_segments (codes "POST") (codes "holders") (holder_text holder ∷ codes "movements" ∷ []) (route.Ie015 holder) (word (codes "holders") refl) (holder_part_is holder, (word (codes "movements") refl, tt))
    (holder_then holder (λ n. Ok (route.Ie015 n)) h.0)
path_leads (command.Ie014 holder []) h = no_reference 18 (omega arith) h.1
path_leads (command.Ie014 holder (c ∷ text)) h =
    by_segments (codes "POST") (codes "holders") (holder_text holder ∷ codes "movements" ∷ (c ∷ text) ∷ codes "ie014" ∷ []) (route.Ie014 holder (c ∷ text)) (word (codes "holders") refl) (holder_part_is holder, (word (codes "movements") refl, (mrn_is (c ∷ text) h.1, (word (codes "ie014") refl, tt))))
    (holder_mrn_then holder (c ∷ text) route.Ie014 h.0 h.1)
path_leads (command.AddCode holder [] code) h = no_reference 17 (omega arith) h.1
path_leads (command.AddCode holder (c ∷ text) code) h =
    by_segments (codes "POST") (codes "holders") (holder_text holder ∷ codes "guarantees" ∷ (c ∷ text) ∷ codes "codes" ∷ codes "add" ∷ []) (route.AddCode holder (c ∷ text)) (word (codes "holders") refl) (holder_part_is holder, (word (codes "guarantees") refl, (grn_is (c ∷ text) h.1, (word (codes "codes") refl, (word (codes "add") refl, tt)))))
    (holder_grn_then holder (c ∷ text) route.AddCode h.0 h.1)
path_leads (command.RemoveCode holder [] code) h = no_reference 17 (omega arith) h.1
path_leads (command.RemoveCode holder (c ∷ text) code) h =
    by_segments (codes "POST") (codes "holders") (holder_text holder ∷ codes "guarantees" ∷ (c ∷ text) ∷ codes "codes" ∷ codes "remove" ∷ []) (route.RemoveCode holder (c ∷ text)) (word (codes "holders") refl) (holder_part_is holder, (word (codes "guarantees") refl, (grn_is (c ∷ text) h.1, (word (codes "codes") refl, (word (codes "remove") refl, tt)))))
    (holder_grn_then holder (c ∷ text) route.RemoveCode h.0 h.1)
path_leads (command.Ie029 [] limit) h = no_reference 18 (omega arith) h.0
path_leads (command.Ie029 (c ∷ text) limit) h =
    by_segments (codes "POST") (codes "office") (codes "movements" ∷ (c ∷ text) ∷ codes "ie029" ∷ []) (route.Ie029 (c ∷ text)) (word (codes "office") refl) (word (codes "movements") refl, (mrn_is (c ∷ text) h.0, (word (codes "ie029") refl, tt)))
    (mrn_then (c ∷ text) (λ mrn. Ok (route.Ie029 mrn)) h.0)
path_leads (command.Ie007 [] office) h = no_reference 18 (omega arith) h.0
path_leads (command.Ie007 (c ∷ text) office) h =
    by_segments (codes "POST") (codes "office") (codes "movements" ∷ (c ∷ text) ∷ codes "ie007" ∷ []) (route.Ie007 (c ∷ text)) (word (codes "office") refl) (word (codes "movements") refl, (mrn_is (c ∷ text) h.0, (word (codes "ie007") refl, tt)))
    (mrn_then (c ∷ text) (λ mrn. Ok (route.Ie007 mrn)) h.0)
path_leads (command.Ie018 [] result) h = no_reference 18 (omega arith) h
path_leads (command.Ie018 (c ∷ text) result) h =
    by_segments (codes "POST") (codes "office") (codes "movements" ∷ (c ∷ text) ∷ codes "ie018" ∷ []) (route.Ie018 (c ∷ text)) (word (codes "office") refl) (word (codes "movements") refl, (mrn_is (c ∷ text) h, (word (codes "ie018") refl, tt)))
    (mrn_then (c ∷ text) (λ mrn. Ok (route.Ie018 mrn)) h)
path_leads (command.Ie045 [] cause) h = no_reference 18 (omega arith) h
path_leads (command.Ie045 (c ∷ text) cause) h =
    by_segments (codes "POST") (codes "office") (codes "movements" ∷ (c ∷ text) ∷ codes "ie045" ∷ []) (route.Ie045 (c ∷ text)) (word (codes "office") refl) (word (codes "movements") refl, (mrn_is (c ∷ text) h, (word (codes "ie045") refl, tt)))
    (mrn_then (c ∷ text) (λ mrn. Ok (route.Ie045 mrn)) h)
path_leads (command.Ie140 []) h = no_reference 18 (omega arith) h
path_leads (command.Ie140 (c ∷ text)) h =
    by_segments (codes "POST") (codes "office") (codes "movements" ∷ (c ∷ text) ∷ codes "ie140" ∷ []) (route.Ie140 (c ∷ text)) (word (codes "office") refl) (word (codes "movements") refl, (mrn_is (c ∷ text) h, (word (codes "ie140") refl, tt)))
    (mrn_then (c ∷ text) (λ mrn. Ok (route.Ie140 mrn)) h)
path_leads (command.SeeHolder holder) h =
    by_segments (codes "GET") (codes "holders") (holder_text holder ∷ []) (route.SeeHolder holder) (word (codes "holders") refl) (holder_part_is holder, tt)
    (holder_then holder (λ n. Ok (route.SeeHolder n)) h)
path_leads (command.SeeMovement holder []) h = no_reference 18 (omega arith) h.1
path_leads (command.SeeMovement holder (c ∷ text)) h =
    by_segments (codes "GET") (codes "holders") (holder_text holder ∷ codes "movements" ∷ (c ∷ text) ∷ []) (route.SeeMovement holder (c ∷ text)) (word (codes "holders") refl) (holder_part_is holder, (word (codes "movements") refl, (mrn_is (c ∷ text) h.1, tt)))
    (holder_mrn_then holder (c ∷ text) route.SeeMovement h.0 h.1)
path_leads (command.SeeMovements holder) h =
    by_segments (codes "GET") (codes "holders") (holder_text holder ∷ codes "movements" ∷ []) (route.SeeMovements holder) (word (codes "holders") refl) (holder_part_is holder, (word (codes "movements") refl, tt))
    (holder_then holder (λ n. Ok (route.SeeMovements n)) h)
path_leads (command.SeeGuarantee holder []) h = no_reference 17 (omega arith) h.1
path_leads (command.SeeGuarantee holder (c ∷ text)) h =
    by_segments (codes "GET") (codes "holders") (holder_text holder ∷ codes "guarantees" ∷ (c ∷ text) ∷ []) (route.SeeGuarantee holder (c ∷ text)) (word (codes "holders") refl) (holder_part_is holder, (word (codes "guarantees") refl, (grn_is (c ∷ text) h.1, tt)))
    (holder_grn_then holder (c ∷ text) route.SeeGuarantee h.0 h.1)
path_leads (command.SeeGuarantees holder) h =
    by_segments (codes "GET") (codes "holders") (holder_text holder ∷ codes "guarantees" ∷ []) (route.SeeGuarantees holder) (word (codes "holders") refl) (holder_part_is holder, (word (codes "guarantees") refl, tt))
    (holder_then holder (λ n. Ok (route.SeeGuarantees n)) h)
