-- The statements of each change turn tables of a content into tables of the content after it.
use Rattle.std.proofs.Common.{◌≡◌, ◌≢◌, ℕ, ◌+◌, ◌≤◌, Bool, true, false, List, [], ◌∷◌, ◌++◌, length, map, filter, flat_map, Option, Some, None, IsSome, refl, sym, ◌∙◌, ap, ap₂, subst, arith, IsPermutation}
use Rattle.std.specs.Prelude.{◌==◌, if◌then◌else◌, not, ◌&&◌, unwrap_or}
use Rattle.std.specs.List.{AllByRecursion}
use Rattle.std.specs.Option.{option_map_or}
use Rattle.std.specs.Str.{bytes_eq}
use Rattle.std.proofs.lemmas.Bool.Decides.{nat_tests}
use Rattle.std.proofs.lemmas.List.{length-append}
use Rattle.std.proofs.lemmas.List.Concat.{flat_map_single}
use Rattle.std.proofs.lemmas.List.Sorted.{IsPermutation-map, IsPermutation-refl}
use Rattle.std.proofs.lemmas.Slice.Eq.{bytes_eq-Decides}
use Rattle.sqlite_trees.proofs.ListLemmas.{all_both, all_weaker}
use Rattle.keyed_rows.specs.Rows.{put_row}
use Rattle.keyed_rows.proofs.Putting.{row_at-put_row_same, row_at_has, All-row_at}
use Rattle.td_base.specs.Codes.{IsHolderNumber}
use Rattle.td_guarantee.specs.declared.guarantee.Guarantee.{Guarantee}
use Rattle.td_guarantee.specs.Usage.{lines_on, used_on}
use Rattle.td_movement.specs.declared.movement.Movement.{Movement}
use Rattle.td_movement.specs.declared.state.State.{State}
use Rattle.td_movement.specs.declared.state.State.TheVariants.{Accepted}
use Rattle.td_model.proofs.Cover.{unused_when_new}
use Rattle.td_model.proofs.Differing.{differ_with}
use Rattle.td_model.specs.declared.holder_row.HolderRow.{HolderRow}
use Rattle.td_model.specs.declared.change.NewStatus.{NewStatus}
use Rattle.td_model.specs.declared.change.NewTerms.{NewTerms}
use Rattle.td_model.specs.declared.change.Change.{Change}
use Rattle.td_model.specs.declared.change.Change.TheVariants as change
use Rattle.td_model.specs.Account.{HolderRows, at_grn, coded, guarantee_by_grn, holder_key, uncoded}
use Rattle.td_model.specs.Changes.{with_terms, moved, row_in, rows_after, rows_or_new}
use Rattle.td_model.specs.Sound.{AreHolderRows, AllNumbered, IsGuaranteeRow}
use Rattle.td_model.specs.Table.{stands}
use Rattle.td_model.specs.Content.{Content, rows_of, content_after, content_after_row, IsSound}
use Rattle.td_table_model.specs.Tables.{Keyed, Kept, Tables, AreTablesOf, KeepAmounts, numbered, guarantee_row, guarantee_no, with_amount, with_use, without_amount, code_row, code_rows, movement_row, line_rows, guarantees_in, kept_in, code_rows_of, movements_in, line_rows_of}
use Rattle.td_table_model.specs.Looking.{amount_between, movement_no}
use Rattle.td_table_model.specs.Gathering.{owner, holder_no, content_of}
use Rattle.td_table_model.specs.Changes.{with_row, with_status_of, with_terms_of, with_kept_terms_of, with_use_after, used_after, is_code_of, tables_after, HaveSameRows, HasGuarantee, CanBeWritten, ComesByMove, FollowsMoves}
use Rattle.td_table_model.proofs.Amounts.{accepted_takes_nothing, after_move, moved_kept, terms_kept, use_same}
use Rattle.td_table_model.proofs.Joining.{amount_of}
use Rattle.td_table_model.proofs.Numbered.{last_numbered}
use Rattle.td_table_model.proofs.Owned.{owned_guarantees, owned_kept, owned_codes, owned_movements, owned_lines}
use Rattle.td_table_model.proofs.Following.{same_tables, rows_put, rows_stay, rows_set, rows_left}
use Rattle.td_table_model.proofs.OwnRows.{one_more, some_more, moved_rows, moved_lines, terms_rows, codes_stay, guarantees_stay, codes_with, codes_without}
use Rattle.td_table_model.proofs.Gathered.{HasParts, content_is, have_parts}
use Rattle.td_table_model.proofs.Told.{grns_placed}
use Rattle.td_base.specs.References.{greatest_grn_serial, serial_of}

-- a holder's row of a content's rows
abbrev row_of : HolderRows → HolderRow
row_of h = h.row

-- the rows of other holders aren't touched
other_row : (row r : HolderRow) → r.holder ≢ row.holder → with_row row r ≡ r
other_row row r other = by_test (r.holder == row.holder) (grind (arith, nat_tests, other))
  where
    by_test : (b : Bool) → b ≡ false → (if b then row else r) ≡ r
    by_test true is = cc
    by_test false is = refl

this_row : (row r : HolderRow) → r.holder ≡ row.holder → with_row row r ≡ row
this_row row r same = by_test (r.holder == row.holder) (grind (arith, nat_tests, same))
  where
    by_test : (b : Bool) → b ≡ true → (if b then row else r) ≡ row
    by_test true is = refl
    by_test false is = cc

other_movement : (H : ℕ) (status : NewStatus) (r : Keyed Movement) → r.holder ≢ H → with_status_of H status r ≡ r
other_movement H status r other = by_test (r.holder == H) (grind (arith, nat_tests, other))
  where
    by_test : (b : Bool) → b ≡ false → ◌≡◌ {A = Keyed Movement} (if b then record r { row = moved status r.row } else r) r
    by_test true is = cc
    by_test false is = refl

other_guarantee : (H : ℕ) (terms : NewTerms) (r : Keyed Guarantee) → r.holder ≢ H → with_terms_of H terms r ≡ r
other_guarantee H terms r other = by_test (r.holder == H) (grind (arith, nat_tests, other))
  where
    by_test : (b : Bool) → b ≡ false → ◌≡◌ {A = Keyed Guarantee} (if b then record r { row = at_grn terms.grn (with_terms terms) r.row } else r) r
    by_test true is = cc
    by_test false is = refl

other_kept : (H : ℕ) (terms : NewTerms) (k : Keyed Kept) → k.holder ≢ H → with_kept_terms_of H terms k ≡ k
other_kept H terms k other = ap (with_amount k.row.used) (other_guarantee H terms (without_amount k) other)

other_use : (H m : ℕ) (state : State) (t : Tables) (k : Keyed Kept) → k.holder ≢ H → with_use_after H m state t k ≡ k
other_use H m state t k other = by_test (k.holder == H) (grind (arith, nat_tests, other))
  where
    by_test : (b : Bool) → b ≡ false → ◌≡◌ {A = Keyed Kept} (if b then with_amount (used_after state (amount_between H m k.serial t) k.row.used) (without_amount k) else k) k
    by_test true is = cc
    by_test false is = refl

other_code : (H n : ℕ) (code : List ℕ) (r : Keyed (List ℕ)) → r.holder ≢ H → not (is_code_of H n code r) ≡ true
other_code H n code r other = by_test (r.holder == H) (grind (arith, nat_tests, other))
  where
    by_test : (b : Bool) → b ≡ false → not (b && (r.serial == n && bytes_eq r.row code)) ≡ true
    by_test true is = cc
    by_test false is = refl

-- each guarantee of a list is known there by its GRN
pub each_known : (n : ℕ) (gs : List Guarantee) → AllByRecursion (λ (p : ℕ × Guarantee). IsSome (guarantee_by_grn p.1.grn gs)) (numbered n gs)
each_known n [] = tt
each_known n (g ∷ gs) = (
  here (bytes_eq g.grn g.grn) ((bytes_eq-Decides g.grn g.grn).1 refl),
  all_weaker (λ (p : ℕ × Guarantee). IsSome (guarantee_by_grn p.1.grn gs)) (λ (p : ℕ × Guarantee). IsSome (guarantee_by_grn p.1.grn (g ∷ gs))) (λ p is. behind (bytes_eq g.grn p.1.grn) p.1.grn is) (numbered (n + 1) gs) (each_known (n + 1) gs),
)
  where
    here : (b : Bool) → b ≡ true → IsSome (if◌then◌else◌ {A = Option Guarantee} b (Some g) (guarantee_by_grn g.grn gs))
    here true is = refl
    here false is = cc

    behind : (b : Bool) (grn : List ℕ) → IsSome (guarantee_by_grn grn gs) → IsSome (if◌then◌else◌ {A = Option Guarantee} b (Some g) (guarantee_by_grn grn gs))
    behind true grn is = refl
    behind false grn is = is

-- rows in the place of a registered holder's
module _ (old : Tables) (c : Content) (sound : IsSound c) (are : AreTablesOf old c) (row : HolderRow) (h : HolderRows) (found : rows_of row.holder c ≡ Some h) where
  pub number : h.row.holder ≡ row.holder
  number = rw found at (row_at_has holder_key row.holder c.holders)

  pub own : AreHolderRows c.country h
  own = rw found at (All-row_at holder_key (AreHolderRows c.country) row.holder c.holders sound.holders)

  module _ (gs : List Guarantee) (ms : List Movement) where
    abbrev pub new_rows : HolderRows
    new_rows = record { row = row; guarantees = gs; movements = ms }

    abbrev pub put : List HolderRows
    put = put_row holder_key new_rows c.holders

    pub holders_set : IsPermutation (map (λ (h : HolderRows). h.row) put) (map (with_row row) old.holders)
    holders_set =
        let before : IsPermutation (flat_map (λ (h : HolderRows). h.row ∷ []) c.holders) old.holders = rw (flat_map_single row_of c.holders) are.holders in
        let go : IsPermutation (flat_map (λ (h : HolderRows). h.row ∷ []) put) (map (with_row row) old.holders) =
        rows_set holder_no (λ (h : HolderRows). h.row ∷ []) (λ h. (refl, tt)) c.holders sound.order row.holder (Some h) found new_rows refl old.holders before (with_row row) (λ x other. other_row row x other) (ap (λ r. r ∷ []) (this_row row h.row number)) in
        rw (flat_map_single row_of put) at go

    pub guarantees_kept : map (guarantee_row row.holder) (numbered 0 h.guarantees) ≡ map (guarantee_row row.holder) (numbered 0 gs) → IsPermutation (flat_map guarantees_in put) old.guarantees
    guarantees_kept same = rows_stay owner guarantees_in owned_guarantees c.holders sound.order row.holder (Some h) found new_rows refl old.guarantees are.guarantees (ap (λ H. map (guarantee_row H) (numbered 0 h.guarantees)) number ∙ same)

    pub amounts_kept : map (with_use h.movements) (map (guarantee_row row.holder) (numbered 0 h.guarantees)) ≡ map (with_use ms) (map (guarantee_row row.holder) (numbered 0 gs)) → KeepAmounts old → IsPermutation (flat_map kept_in put) old.kept
    amounts_kept same keep = rows_stay owner kept_in owned_kept c.holders sound.order row.holder (Some h) found new_rows refl old.kept (are.kept keep) (ap (λ H. map (with_use h.movements) (map (guarantee_row H) (numbered 0 h.guarantees))) number ∙ same)

    pub codes_kept : flat_map (code_rows row.holder) (numbered 0 h.guarantees) ≡ flat_map (code_rows row.holder) (numbered 0 gs) → IsPermutation (flat_map code_rows_of put) old.codes
    codes_kept same = rows_stay owner code_rows_of owned_codes c.holders sound.order row.holder (Some h) found new_rows refl old.codes are.codes (ap (λ H. flat_map (code_rows H) (numbered 0 h.guarantees)) number ∙ same)

    pub movements_kept : map (movement_row row.holder) (numbered 0 h.movements) ≡ map (movement_row row.holder) (numbered 0 ms) → IsPermutation (flat_map movements_in put) old.movements
    movements_kept same = rows_stay owner movements_in owned_movements c.holders sound.order row.holder (Some h) found new_rows refl old.movements are.movements (ap (λ H. map (movement_row H) (numbered 0 h.movements)) number ∙ same)

    pub lines_kept : flat_map (line_rows c.country row.holder) (numbered 0 h.movements) ≡ flat_map (line_rows c.country row.holder) (numbered 0 ms) → IsPermutation (flat_map (line_rows_of c.country) put) old.lines
    lines_kept same = rows_stay owner (line_rows_of c.country) (owned_lines c.country) c.holders sound.order row.holder (Some h) found new_rows refl old.lines are.lines (ap (λ H. flat_map (line_rows c.country H) (numbered 0 h.movements)) number ∙ same)

    -- the rules of the new rows, from those of the content with them
    pub own_after : IsSound (record c { holders = put }) → AreHolderRows c.country new_rows
    own_after after = rw (row_at-put_row_same holder_key row.holder new_rows c.holders refl) at (All-row_at holder_key (AreHolderRows c.country) row.holder put after.holders)

  -- nothing is in use on a guarantee that is opened
  new_unused : (g : Guarantee) → IsSound (record c { holders = put (h.guarantees ++ g ∷ []) h.movements }) → used_on g.grn h.movements ≡ 0
  new_unused g after =
      let rules = own_after (h.guarantees ++ g ∷ []) h.movements after in
      let many = length-append h.guarantees (g ∷ []) in
      let count : 0 + length h.guarantees + 1 ≡ h.row.grn_count + 1 = omega (arith, own.grn_count) in
      let last : IsGuaranteeRow c.country row.holder (0 + length h.guarantees + 1) g = last_numbered (IsGuaranteeRow c.country row.holder) 0 h.guarantees g rules.guarantees in
      unused_when_new c.country h g sound.country (omega (arith, own.grn_count, rules.grn_count, rules.grn_most, many))
      (subst (λ n. IsGuaranteeRow c.country h.row.holder n g) count (subst (λ H. IsGuaranteeRow c.country H (0 + length h.guarantees + 1) g) (sym number) last)) own

  -- a guarantee is opened
  pub opened : (g : Guarantee) → IsSound (record c { holders = put (h.guarantees ++ g ∷ []) h.movements }) → AreTablesOf (tables_after (change.Opened row g) old) (record c { holders = put (h.guarantees ++ g ∷ []) h.movements })
  opened g after =
      let count : row.grn_count ≡ length h.guarantees + 1 = omega (arith, (own_after (h.guarantees ++ g ∷ []) h.movements after).grn_count, length-append h.guarantees (g ∷ [])) in
      let gs = h.guarantees ++ g ∷ [] in
      let new = guarantee_row row.holder (row.grn_count, g) in
      let more : IsPermutation (new ∷ map (guarantee_row h.row.holder) (numbered 0 h.guarantees)) (map (guarantee_row row.holder) (numbered 0 gs)) =
      subst (λ H. IsPermutation (new ∷ map (guarantee_row H) (numbered 0 h.guarantees)) (map (guarantee_row row.holder) (numbered 0 gs))) (sym number) (one_more (guarantee_row row.holder) h.guarantees g row.grn_count count) in
      let unused : with_use h.movements new ≡ with_amount 0 new = ap (λ used. with_amount used new) (new_unused g after) in
      record {
        country = are.country;
        holders = holders_set gs h.movements;
        guarantees = rows_put owner guarantees_in owned_guarantees c.holders sound.order row.holder (Some h) found (new_rows gs h.movements) refl old.guarantees are.guarantees (new ∷ []) more;
        kept = λ keep. rows_put owner kept_in owned_kept c.holders sound.order row.holder (Some h) found (new_rows gs h.movements) refl old.kept (are.kept keep) (with_amount 0 new ∷ [])
            (subst (λ k. IsPermutation (k ∷ kept_in h) (map (with_use h.movements) (map (guarantee_row row.holder) (numbered 0 gs)))) unused (IsPermutation-map (with_use h.movements) _ _ more));
        codes = rows_put owner code_rows_of owned_codes c.holders sound.order row.holder (Some h) found (new_rows gs h.movements) refl old.codes are.codes (code_rows row.holder (row.grn_count, g))
            (subst (λ H. IsPermutation (code_rows row.holder (row.grn_count, g) ++ flat_map (code_rows H) (numbered 0 h.guarantees)) (flat_map (code_rows row.holder) (numbered 0 gs))) (sym number) (some_more (code_rows row.holder) h.guarantees g row.grn_count count));
        movements = movements_kept gs h.movements refl;
        lines = lines_kept gs h.movements refl;
      }

  -- a movement is declared
  pub declared : (m : Movement) → (KeepAmounts old → m.state ≡ Accepted) → IsSound (record c { holders = put h.guarantees (h.movements ++ m ∷ []) }) → AreTablesOf (tables_after (change.Declared row m) old) (record c { holders = put h.guarantees (h.movements ++ m ∷ []) })
  declared m accepted after =
      let count : row.mrn_count ≡ length h.movements + 1 = omega (arith, (own_after h.guarantees (h.movements ++ m ∷ []) after).mrn_count, length-append h.movements (m ∷ [])) in
      let ms = h.movements ++ m ∷ [] in
      record {
        country = are.country;
        holders = holders_set h.guarantees ms;
        guarantees = guarantees_kept h.guarantees ms refl;
        kept = λ keep. amounts_kept h.guarantees ms (use_same h.movements ms (accepted_takes_nothing h.movements m (accepted keep)) (map (guarantee_row row.holder) (numbered 0 h.guarantees))) keep;
        codes = codes_kept h.guarantees ms refl;
        movements = rows_put owner movements_in owned_movements c.holders sound.order row.holder (Some h) found (new_rows h.guarantees ms) refl old.movements are.movements (movement_row row.holder (row.mrn_count, m) ∷ [])
            (subst (λ H. IsPermutation (movement_row row.holder (row.mrn_count, m) ∷ map (movement_row H) (numbered 0 h.movements)) (map (movement_row row.holder) (numbered 0 ms))) (sym number) (one_more (movement_row row.holder) h.movements m row.mrn_count count));
        lines = subst (λ country. IsPermutation (flat_map (line_rows_of c.country) (put h.guarantees ms)) (line_rows country row.holder (row.mrn_count, m) ++ old.lines)) (sym are.country)
            (rows_put owner (line_rows_of c.country) (owned_lines c.country) c.holders sound.order row.holder (Some h) found (new_rows h.guarantees ms) refl old.lines are.lines (line_rows c.country row.holder (row.mrn_count, m))
            (subst (λ H. IsPermutation (line_rows c.country row.holder (row.mrn_count, m) ++ flat_map (line_rows c.country H) (numbered 0 h.movements)) (flat_map (line_rows c.country row.holder) (numbered 0 ms))) (sym number) (some_more (line_rows c.country row.holder) h.movements m row.mrn_count count)));
      }

  -- what is in use on each guarantee after a movement came into its new state by a move
  used_after_move : (status : NewStatus) → ComesByMove h.movements status → HasParts c.country old h
      → AllByRecursion (λ (p : ℕ × Guarantee). used_after status.state (amount_between row.holder (movement_no old.country status.mrn) p.0 old) (used_on p.1.grn h.movements) ≡ used_on p.1.grn (map (moved status) h.movements)) (numbered 0 h.guarantees)
  used_after_move status comes parts =
      all_both (λ (p : ℕ × Guarantee). serial_of c.country p.1.grn ≡ Some p.0) (λ (p : ℕ × Guarantee). IsSome (guarantee_by_grn p.1.grn h.guarantees))
      (λ (p : ℕ × Guarantee). used_after status.state (amount_between row.holder (movement_no old.country status.mrn) p.0 old) (used_on p.1.grn h.movements) ≡ used_on p.1.grn (map (moved status) h.movements))
      (λ p placed some.
      let no : guarantee_no c.country p.1.grn ≡ p.0 = ap (λ o. unwrap_or o 0) placed in
      let amount : amount_between row.holder (movement_no old.country status.mrn) p.0 old ≡ lines_on p.1.grn comes.movement.lines =
      ap (λ country. amount_between row.holder (movement_no country status.mrn) p.0 old) are.country
      ∙ ap₂ (λ H n. amount_between H (movement_no c.country status.mrn) n old) (sym number) (sym no)
      ∙ amount_of old c.country h sound.country own parts p.1.grn some status.mrn comes.movement comes.found in
      ap (λ cents. used_after status.state cents (used_on p.1.grn h.movements)) amount
      ∙ after_move p.1.grn status h.movements comes.movement comes.move (differ_with c.country (Some h) sound.country own).mrns comes.found comes.leads)
      (numbered 0 h.guarantees) (grns_placed c.country h sound.country own) (each_known 0 h.guarantees)

  -- a movement has moved
  pub has_moved : (status : NewStatus) → (KeepAmounts old → ComesByMove h.movements status) → HasParts c.country old h
      → AreTablesOf (tables_after (change.Moved row status) old) (record c { holders = put h.guarantees (map (moved status) h.movements) })
  has_moved status comes parts =
      let ms = map (moved status) h.movements in
      record {
        country = are.country;
        holders = holders_set h.guarantees ms;
        guarantees = guarantees_kept h.guarantees ms refl;
        kept = λ keep.
            let m = movement_no old.country status.mrn in
            rows_set owner kept_in owned_kept c.holders sound.order row.holder (Some h) found (new_rows h.guarantees ms) refl old.kept (are.kept keep) (with_use_after row.holder m status.state old) (λ x other. other_use row.holder m status.state old x other)
            (ap (λ H. map (with_use_after row.holder m status.state old) (map (with_use h.movements) (map (guarantee_row H) (numbered 0 h.guarantees)))) number
            ∙ moved_kept row.holder m status old h.movements 0 h.guarantees (used_after_move status (comes keep) parts));
        codes = codes_kept h.guarantees ms refl;
        movements = rows_set owner movements_in owned_movements c.holders sound.order row.holder (Some h) found (new_rows h.guarantees ms) refl old.movements are.movements (with_status_of row.holder status) (λ x other. other_movement row.holder status x other)
            (ap (λ H. map (with_status_of row.holder status) (map (movement_row H) (numbered 0 h.movements))) number ∙ moved_rows row.holder status 0 h.movements);
        lines = lines_kept h.guarantees ms (moved_lines c.country row.holder status 0 h.movements);
      }

  -- terms are set
  pub terms_set : (terms : NewTerms) → AreTablesOf (tables_after (change.TermsSet row terms) old) (record c { holders = put (map (at_grn terms.grn (with_terms terms)) h.guarantees) h.movements })
  terms_set terms =
      let gs = map (at_grn terms.grn (with_terms terms)) h.guarantees in
      record {
        country = are.country;
        holders = holders_set gs h.movements;
        guarantees = rows_set owner guarantees_in owned_guarantees c.holders sound.order row.holder (Some h) found (new_rows gs h.movements) refl old.guarantees are.guarantees (with_terms_of row.holder terms) (λ x other. other_guarantee row.holder terms x other)
            (ap (λ H. map (with_terms_of row.holder terms) (map (guarantee_row H) (numbered 0 h.guarantees))) number ∙ terms_rows row.holder terms 0 h.guarantees);
        kept = λ keep.
            let rows = map (guarantee_row row.holder) (numbered 0 h.guarantees) in
            rows_set owner kept_in owned_kept c.holders sound.order row.holder (Some h) found (new_rows gs h.movements) refl old.kept (are.kept keep) (with_kept_terms_of row.holder terms) (λ x other. other_kept row.holder terms x other)
            (ap (λ H. map (with_kept_terms_of row.holder terms) (map (with_use h.movements) (map (guarantee_row H) (numbered 0 h.guarantees)))) number
            ∙ terms_kept row.holder terms h.movements rows ∙ ap (map (with_use h.movements)) (terms_rows row.holder terms 0 h.guarantees));
        codes = codes_kept gs h.movements (codes_stay row.holder terms.grn (with_terms terms) (λ g. refl) 0 h.guarantees);
        movements = movements_kept gs h.movements refl;
        lines = lines_kept gs h.movements refl;
      }

  -- the holder's guarantees, by the number in the change's row
  own_number : IsHolderNumber row.holder
  own_number = subst IsHolderNumber number own.row.number

  own_guarantees : AllNumbered (IsGuaranteeRow c.country row.holder) 0 h.guarantees
  own_guarantees = subst (λ H. AllNumbered (IsGuaranteeRow c.country H) 0 h.guarantees) number own.guarantees

  own_most : 0 + length h.guarantees ≤ greatest_grn_serial
  own_most = omega (arith, own.grn_count, own.grn_most)

  -- a code is added
  pub code_added : (grn code : List ℕ) (g : Guarantee) → guarantee_by_grn grn h.guarantees ≡ Some g → stands code g.codes ≡ false
      → AreTablesOf (tables_after (change.CodeAdded row grn code) old) (record c { holders = put (map (at_grn grn (coded code)) h.guarantees) h.movements })
  code_added grn code g there new =
      let gs = map (at_grn grn (coded code)) h.guarantees in
      record {
        country = are.country;
        holders = holders_set gs h.movements;
        guarantees = guarantees_kept gs h.movements (guarantees_stay row.holder grn (λ g. (coded code g).codes) 0 h.guarantees);
        kept = amounts_kept gs h.movements (ap (map (with_use h.movements)) (guarantees_stay row.holder grn (λ g. (coded code g).codes) 0 h.guarantees));
        codes = subst (λ country. IsPermutation (flat_map code_rows_of (put gs h.movements)) (code_row row.holder (guarantee_no country grn) code ∷ old.codes)) (sym are.country)
            (rows_put owner code_rows_of owned_codes c.holders sound.order row.holder (Some h) found (new_rows gs h.movements) refl old.codes are.codes (code_row row.holder (guarantee_no c.country grn) code ∷ [])
            (subst (λ H. IsPermutation (code_row row.holder (guarantee_no c.country grn) code ∷ flat_map (code_rows H) (numbered 0 h.guarantees)) (flat_map (code_rows row.holder) (numbered 0 gs))) (sym number) (codes_with c.country row.holder sound.country own_number grn code 0 h.guarantees g there new own_most own_guarantees)));
        movements = movements_kept gs h.movements refl;
        lines = lines_kept gs h.movements refl;
      }

  -- a code is removed
  pub code_removed : (grn code : List ℕ) (g : Guarantee) → guarantee_by_grn grn h.guarantees ≡ Some g
      → AreTablesOf (tables_after (change.CodeRemoved row grn code) old) (record c { holders = put (map (at_grn grn (uncoded code)) h.guarantees) h.movements })
  code_removed grn code g there =
      let gs = map (at_grn grn (uncoded code)) h.guarantees in
      record {
        country = are.country;
        holders = holders_set gs h.movements;
        guarantees = guarantees_kept gs h.movements (guarantees_stay row.holder grn (λ g. (uncoded code g).codes) 0 h.guarantees);
        kept = amounts_kept gs h.movements (ap (map (with_use h.movements)) (guarantees_stay row.holder grn (λ g. (uncoded code g).codes) 0 h.guarantees));
        codes = subst (λ country. IsPermutation (flat_map code_rows_of (put gs h.movements)) (filter (λ r. not (is_code_of row.holder (guarantee_no country grn) code r)) old.codes)) (sym are.country)
            (rows_left owner code_rows_of owned_codes c.holders sound.order row.holder (Some h) found (new_rows gs h.movements) refl old.codes are.codes (λ r. not (is_code_of row.holder (guarantee_no c.country grn) code r)) (λ x other. other_code row.holder (guarantee_no c.country grn) code x other)
            (ap (λ H. filter (λ r. not (is_code_of row.holder (guarantee_no c.country grn) code r)) (flat_map (code_rows H) (numbered 0 h.guarantees))) number ∙ codes_without c.country row.holder sound.country own_number grn code 0 h.guarantees g there own_most own_guarantees));
        movements = movements_kept gs h.movements refl;
        lines = lines_kept gs h.movements refl;
      }

-- a holder is registered
registered : (old : Tables) (c : Content) → IsSound c → AreTablesOf old c → (row : HolderRow) → rows_of row.holder c ≡ None
    → AreTablesOf (tables_after (change.Registered row) old) (record c { holders = put_row holder_key (record { row = row; guarantees = []; movements = [] }) c.holders })
registered old c sound are row none =
    let w : HolderRows = record { row = row; guarantees = []; movements = [] } in
    let before : IsPermutation (flat_map (λ (h : HolderRows). h.row ∷ []) c.holders) old.holders = rw (flat_map_single row_of c.holders) are.holders in
    let go : IsPermutation (flat_map (λ (h : HolderRows). h.row ∷ []) (put_row holder_key w c.holders)) (row ∷ old.holders) =
    rows_put holder_no (λ (h : HolderRows). h.row ∷ []) (λ h. (refl, tt)) c.holders sound.order row.holder None none w refl old.holders before (row ∷ []) (IsPermutation-refl (row ∷ [])) in
    record {
      country = are.country;
      holders = rw (flat_map_single row_of (put_row holder_key w c.holders)) at go;
      guarantees = rows_stay owner guarantees_in owned_guarantees c.holders sound.order row.holder None none w refl old.guarantees are.guarantees refl;
      kept = λ keep. rows_stay owner kept_in owned_kept c.holders sound.order row.holder None none w refl old.kept (are.kept keep) refl;
      codes = rows_stay owner code_rows_of owned_codes c.holders sound.order row.holder None none w refl old.codes are.codes refl;
      movements = rows_stay owner movements_in owned_movements c.holders sound.order row.holder None none w refl old.movements are.movements refl;
      lines = rows_stay owner (line_rows_of c.country) (owned_lines c.country) c.holders sound.order row.holder None none w refl old.lines are.lines refl;
    }

-- the content after a change, by what stood there
after_is : (c : Content) (ch : Change) (row : HolderRow) (o : Option HolderRows) → row_in ch ≡ Some row → rows_of row.holder c ≡ o
    → content_after ch c ≡ record c { holders = put_row holder_key (rows_after ch (rows_or_new row o)) c.holders }
after_is c ch row o has found =
    ap (λ r. content_after_row r ch c) has ∙ ap (λ o. record c { holders = put_row holder_key (rows_after ch (rows_or_new row o)) c.holders }) found

-- a registered holder's rows
known : (o : Option HolderRows) → IsSome o → (h : HolderRows) × (o ≡ Some h)
known None some = cc
known (Some h) some = (h, refl)

-- and those of a holder who has a guarantee
has_rows : (c : Content) (H : ℕ) (grn : List ℕ) (P : Guarantee → Type 0) (o : Option HolderRows) → rows_of H c ≡ o → (has : HasGuarantee c H grn P) → (h : HolderRows) × (rows_of H c ≡ Some h) × (guarantee_by_grn grn h.guarantees ≡ Some has.guarantee)
has_rows c H grn P None none has = let never = ap (λ o. guarantee_by_grn grn (option_map_or (λ (h : HolderRows). h.guarantees) o [])) (sym none) ∙ has.found in cc
has_rows c H grn P (Some h) found has = (h, found, ap (λ o. guarantee_by_grn grn (option_map_or (λ (h : HolderRows). h.guarantees) o [])) (sym found) ∙ has.found)

-- each change
pub written : (ch : Change) (old : Tables) (c : Content) → IsSound c → IsSound (content_after ch c) → CanBeWritten c ch → (KeepAmounts old → FollowsMoves c ch) → AreTablesOf old c → AreTablesOf (tables_after ch old) (content_after ch c)
written change.Nothing old c sound after can follows are = are
written (change.Registered row) old c sound after can follows are = subst (AreTablesOf (tables_after (change.Registered row) old)) (sym (after_is c (change.Registered row) row None refl can)) (registered old c sound are row can)
written (change.Opened row g) old c sound after can follows are =
    let k = known (rows_of row.holder c) can in
    let e = after_is c (change.Opened row g) row (Some k.0) refl k.1 in
    subst (AreTablesOf (tables_after (change.Opened row g) old)) (sym e) (opened old c sound are row k.0 k.1 g (subst IsSound e after))
written (change.Declared row m) old c sound after can follows are =
    let k = known (rows_of row.holder c) can in
    let e = after_is c (change.Declared row m) row (Some k.0) refl k.1 in
    subst (AreTablesOf (tables_after (change.Declared row m) old)) (sym e) (declared old c sound are row k.0 k.1 m follows (subst IsSound e after))
written (change.Moved row status) old c sound after can follows are =
    let k = known (rows_of row.holder c) can in
    let parts : HasParts c.country old k.0 = rw k.1 at (All-row_at holder_key (HasParts c.country old) row.holder c.holders (have_parts old c sound are)) in
    subst (AreTablesOf (tables_after (change.Moved row status) old)) (sym (after_is c (change.Moved row status) row (Some k.0) refl k.1))
    (has_moved old c sound are row k.0 k.1 status (λ keep. subst (λ o. ComesByMove (option_map_or (λ (h : HolderRows). h.movements) o []) status) k.1 (follows keep)) parts)
written (change.TermsSet row terms) old c sound after can follows are =
    let k = known (rows_of row.holder c) can in
    subst (AreTablesOf (tables_after (change.TermsSet row terms) old)) (sym (after_is c (change.TermsSet row terms) row (Some k.0) refl k.1)) (terms_set old c sound are row k.0 k.1 terms)
written (change.CodeAdded row grn code) old c sound after can follows are =
    let k = has_rows c row.holder grn (λ g. stands code g.codes ≡ false) (rows_of row.holder c) refl can in
    subst (AreTablesOf (tables_after (change.CodeAdded row grn code) old)) (sym (after_is c (change.CodeAdded row grn code) row (Some k.0) refl k.1)) (code_added old c sound are row k.0 k.1 grn code can.guarantee k.2 can.holds)
written (change.CodeRemoved row grn code) old c sound after can follows are =
    let k = has_rows c row.holder grn (λ g. Unit {0}) (rows_of row.holder c) refl can in
    subst (AreTablesOf (tables_after (change.CodeRemoved row grn code) old)) (sym (after_is c (change.CodeRemoved row grn code) row (Some k.0) refl k.1)) (code_removed old c sound are row k.0 k.1 grn code can.guarantee k.2)

-- and with any tables of these rows
pub changes_are_written : (ch : Change) (old new : Tables) (c : Content) → IsSound c → IsSound (content_after ch c) → CanBeWritten c ch → (KeepAmounts old → FollowsMoves c ch)
    → AreTablesOf old c → HaveSameRows (tables_after ch old) new
    → AreTablesOf new (content_after ch c) × (content_of new ≡ content_after ch c)
changes_are_written ch old new c sound after can follows are same =
    let is = same_tables (tables_after ch old) new (content_after ch c) (written ch old c sound after can follows are) same in
    (is, content_is new (content_after ch c) after is)
