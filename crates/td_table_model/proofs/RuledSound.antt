-- The content of tables that keep the rules is sound.
use Rattle.std.proofs.Common.{◌%◌, ◌≡◌, ◌≢◌, ℕ, ◌≤◌, Bool, true, false, cond, List, [], ◌∷◌, length, map, get_or, Option, Some, IsSome, refl, sym, ◌∙◌, ap, subst, arith}
use Rattle.std.specs.Prelude.{◌==◌, AllPairs}
use Rattle.std.specs.List.{AllByRecursion}
use Rattle.std.specs.Option.{option_map_or}
use Rattle.std.specs.Str.{bytes_eq}
use Rattle.std.proofs.lemmas.List.{length-map}
use Rattle.std.proofs.lemmas.List.Sorted.{length_permutation}
use Rattle.std.proofs.lemmas.Slice.Eq.{bytes_eq-Decides}
use Rattle.sqlite_trees.proofs.ListLemmas.{all_weaker, all_both, all-filter, all-map, all-get_or}
use Rattle.keyed_rows.specs.Rows.{row_at}
use Rattle.std.proofs.lemmas.List.Elements.{All-from_recursion}
use Rattle.td_base.specs.Codes.{IsAccessCode, IsCountry, IsHolderNumber}
use Rattle.td_base.specs.References.{grn_text, IsMrnTextOf}
use Rattle.td_base.specs.Days.{year_of}
use Rattle.td_guarantee.specs.declared.guarantee.Guarantee.{Guarantee}
use Rattle.td_movement.specs.declared.line.Line.{Line}
use Rattle.td_movement.specs.declared.movement.Movement.{Movement}
use Rattle.td_movement.specs.declared.state.State.{State}
use Rattle.td_movement.specs.declared.state.State.TheVariants.{Accepted, Cancelled, Released, Enquired, Arrived, Discrepant, Cleared, WrittenOff}
use Rattle.td_movement.specs.Status.{HasDaysOf, IsStatus}
use Rattle.td_commands.specs.Lines.{IsLineAmount}
use Rattle.td_model.specs.declared.holder_row.HolderRow.{HolderRow}
use Rattle.td_model.specs.Account.{guarantee_by_grn, holder_key}
use Rattle.td_model.specs.Sound.{AreCodes, AreMovementLines, IsGuaranteeRow, IsMovementRow, AreHolderRows}
use Rattle.td_model.proofs.Joined.{AllPairs-map}
use Rattle.td_model.specs.Content.{IsSound}
use Rattle.td_table_model.specs.Tables.{Keyed, LineCells, Tables, guarantee_no}
use Rattle.td_table_model.specs.Gathering.{IsApart, code_rank, codes_by, content_of, gathered, grn_by, guarantees_by, holder_no, in_order, line_from, lines_by, movements_by, no_of, of_key, owner, part, place, text_rank, with_codes, with_lines}
use Rattle.td_table_model.specs.Stored.{AreStored}
use Rattle.td_table_model.specs.Rules.{KeepsRules, KeepRules, IsGuaranteeInRange, IsMovementInRange, AreLinesInRange, count_of_codes, named_by}
use Rattle.td_table_model.proofs.Orders.{in_order_rises, in_order_permutes, rises-map}
use Rattle.td_table_model.proofs.Ranks.{ranks_ascend}
use Rattle.td_table_model.proofs.Grouped.{of_key_has}
use Rattle.td_table_model.proofs.Rebuilt.{all_renumbered, all_in_order}
use Rattle.td_table_model.proofs.Pairs.{apart_pairs, text_apart_pairs, text_apart_permuted}
use Rattle.td_table_model.proofs.Ruled.{are_mine, codes_apart, serial_back, each_keeps}
use Rattle.td_guarantee.specs.Codes.{most_codes}

-- the days and offices of a state don't speak of lines
days_with : (s : State) (m : Movement) (lines : List Line) → HasDaysOf s m → HasDaysOf s (record m { lines = lines })
days_with Accepted m lines has = has
days_with Cancelled m lines has = has
days_with Released m lines has = has
days_with Enquired m lines has = has
days_with Arrived m lines has = has
days_with Discrepant m lines has = has
days_with Cleared m lines has = has
days_with WrittenOff m lines has = has

pub status_with : (m : Movement) (lines : List Line) → IsStatus m → IsStatus (record m { lines = lines })
status_with m lines is = record { days = days_with m.state m lines is.days; limit = is.limit; arrival = is.arrival; actual = is.actual }

-- the GRN of a guarantee that is there is found among the holder's
grn_found : (t : Tables) (k : ℕ) (gs : List (Keyed Guarantee)) → IsSome (row_at place k gs) → IsSome (guarantee_by_grn (option_map_or (λ (r : Keyed Guarantee). r.row.grn) (row_at place k gs) []) (map (with_codes t) gs))
grn_found t k [] some = cc
grn_found t k (g ∷ gs) some = by_test (g.serial == k) some (grn_found t k gs)
  where
    itself : (b : Bool) → bytes_eq g.row.grn g.row.grn ≡ b → IsSome (cond b (Some (with_codes t g)) (guarantee_by_grn g.row.grn (map (with_codes t) gs)))
    itself true is = refl
    itself false is = let yes = (bytes_eq-Decides g.row.grn g.row.grn).1 refl in cc

    either : (b : Bool) (o : Option Guarantee) → IsSome o → IsSome (cond b (Some (with_codes t g)) o)
    either true o some = refl
    either false o some = some

    by_test : (b : Bool) → IsSome (cond b (Some g) (row_at place k gs)) → (IsSome (row_at place k gs) → IsSome (guarantee_by_grn (option_map_or (λ (r : Keyed Guarantee). r.row.grn) (row_at place k gs) []) (map (with_codes t) gs)))
        → IsSome (guarantee_by_grn (option_map_or (λ (r : Keyed Guarantee). r.row.grn) (cond b (Some g) (row_at place k gs)) []) (map (with_codes t) (g ∷ gs)))
    by_test true some later = itself (bytes_eq g.row.grn g.row.grn) refl
    by_test false some later = either (bytes_eq g.row.grn (option_map_or (λ (r : Keyed Guarantee). r.row.grn) (row_at place k gs) [])) _ (later some)

module _ (t : Tables) (stored : AreStored t) (form : IsCountry t.country) (row : HolderRow) (number : IsHolderNumber row.holder) (keeps : KeepsRules t row) where
  abbrev H : ℕ
  H = row.holder

  -- the codes of a guarantee
  codes_are_sound : (n : ℕ) → 1 ≤ length (of_key place n (part H t.codes)) → length (of_key place n (part H t.codes)) ≤ most_codes → AreCodes (map (λ (c : Keyed (List ℕ)). c.row) (codes_by H n t))
  codes_are_sound n some most =
      let long : length (codes_by H n t) ≡ length (of_key place n (part H t.codes)) = length_permutation _ _ (in_order_permutes code_rank (of_key place n (part H t.codes)) (codes_apart t stored form row number keeps n)) in
      let same : length (map (λ (c : Keyed (List ℕ)). c.row) (codes_by H n t)) ≡ length (codes_by H n t) = length-map (codes_by H n t) (λ (c : Keyed (List ℕ)). c.row) in
      let forms : AllByRecursion IsAccessCode (map (λ (c : Keyed (List ℕ)). c.row) (codes_by H n t)) =
      all-map IsAccessCode (λ (c : Keyed (List ℕ)). c.row) (codes_by H n t) (all_in_order code_rank (λ (c : Keyed (List ℕ)). IsAccessCode c.row) (of_key place n (part H t.codes)) (all-filter (λ (c : Keyed (List ℕ)). IsAccessCode c.row) (λ r. place r == n) (part H t.codes) keeps.codes.form)) in
      record {
        some = omega (arith, some, long, same);
        most = omega (arith, most, long, same);
        form = All-from_recursion IsAccessCode (map (λ (c : Keyed (List ℕ)). c.row) (codes_by H n t)) forms;
        order = ranks_ascend 0 (map (λ (c : Keyed (List ℕ)). c.row) (codes_by H n t)) forms (rises-map (λ (c : Keyed (List ℕ)). c.row) text_rank 0 (codes_by H n t) (in_order_rises code_rank (of_key place n (part H t.codes))));
      }

  guarantee_is_sound : (g : Keyed Guarantee) → owner g ≡ H → IsGuaranteeInRange t.country g → (1 ≤ count_of_codes t g) × (count_of_codes t g ≤ most_codes) → IsGuaranteeRow t.country H g.serial (with_codes t g)
  guarantee_is_sound g own is codes = record {
    grn = (is.grn.0, is.grn.1, is.grn.2 ∙ ap (λ h. grn_text is.grn.0 t.country h g.serial) own);
    reference = is.reference;
    cover = is.cover;
    ends = is.ends;
    codes = subst (λ h. AreCodes (map (λ (c : Keyed (List ℕ)). c.row) (codes_by h g.serial t))) (sym own)
        (codes_are_sound g.serial (subst (λ h. 1 ≤ length (of_key place g.serial (part h t.codes))) own codes.0) (subst (λ h. length (of_key place g.serial (part h t.codes)) ≤ most_codes) own codes.1));
  }

  guarantees_are_sound : AllByRecursion (λ (g : Keyed Guarantee). IsGuaranteeRow t.country H (place g) (with_codes t g)) (guarantees_by H t)
  guarantees_are_sound =
      all_both (λ (g : Keyed Guarantee). owner g ≡ H) (λ (g : Keyed Guarantee). IsGuaranteeInRange t.country g × (1 ≤ count_of_codes t g) × (count_of_codes t g ≤ most_codes)) (λ (g : Keyed Guarantee). IsGuaranteeRow t.country H (place g) (with_codes t g))
      (λ g own is. guarantee_is_sound g own is.0 (is.1, is.2)) (guarantees_by H t) (are_mine H t.guarantees)
      (all_both (IsGuaranteeInRange t.country) (λ g. (1 ≤ count_of_codes t g) × (count_of_codes t g ≤ most_codes)) (λ (g : Keyed Guarantee). IsGuaranteeInRange t.country g × (1 ≤ count_of_codes t g) × (count_of_codes t g ≤ most_codes)) (λ g is codes. (is, codes.0, codes.1)) (guarantees_by H t)
      keeps.guarantees.columns (all_both (λ g. 1 ≤ count_of_codes t g) (λ g. count_of_codes t g ≤ most_codes) (λ g. (1 ≤ count_of_codes t g) × (count_of_codes t g ≤ most_codes)) (λ g a b. (a, b)) (guarantees_by H t) keeps.codes.some keeps.codes.most))

  -- lines on different guarantees have different GRNs
  lines_differ : (rows : List (Keyed LineCells)) → AllByRecursion (λ l. owner l ≡ H) rows → AllByRecursion (λ l. IsSome (row_at place (named_by l) (guarantees_by H t))) rows → IsApart named_by rows → AllPairs (λ (l m : Line). l.grn ≢ m.grn) (map (line_from t) rows)
  lines_differ rows mine name apart =
      let pairs = apart_pairs named_by rows apart in
      AllPairs-map (line_from t) (λ (l m : Line). l.grn ≢ m.grn) rows (λ l. record { holder = 0; serial = 0; row = record { no = 0; guarantee = 0; cents = 0 } })
      (λ i j d less within same. pairs i j d less within (
      sym (serial_back t stored form row number keeps (named_by (get_or rows i d)) (all-get_or (λ l. IsSome (row_at place (named_by l) (guarantees_by H t))) rows i d name (omega (arith, less, within))))
      ∙ ap (λ h. guarantee_no t.country (grn_by h (named_by (get_or rows i d)) t)) (sym (all-get_or (λ l. owner l ≡ H) rows i d mine (omega (arith, less, within))))
      ∙ ap (guarantee_no t.country) same
      ∙ ap (λ h. guarantee_no t.country (grn_by h (named_by (get_or rows j d)) t)) (all-get_or (λ l. owner l ≡ H) rows j d mine within)
      ∙ serial_back t stored form row number keeps (named_by (get_or rows j d)) (all-get_or (λ l. IsSome (row_at place (named_by l) (guarantees_by H t))) rows j d name within)))

  -- the lines of a movement
  lines_are_sound : (m : Keyed Movement) → owner m ≡ H → AreLinesInRange t m → AreMovementLines (gathered t row).guarantees (map (line_from t) (lines_by m.holder m.serial t))
  lines_are_sound m own is =
      let long : length (map (line_from t) (lines_by m.holder m.serial t)) ≡ length (lines_by m.holder m.serial t) = length-map (lines_by m.holder m.serial t) (line_from t) in
      let mine : AllByRecursion (λ l. owner l ≡ H) (lines_by m.holder m.serial t) =
      subst (λ h. AllByRecursion (λ l. owner l ≡ H) (lines_by h m.serial t)) (sym own) (all_in_order no_of (λ l. owner l ≡ H) (of_key place m.serial (part H t.lines)) (all-filter (λ l. owner l ≡ H) (λ r. place r == m.serial) (part H t.lines) (of_key_has owner H t.lines))) in
      let name : AllByRecursion (λ l. IsSome (row_at place (named_by l) (guarantees_by H t))) (lines_by m.holder m.serial t) = subst (λ h. AllByRecursion (λ l. IsSome (row_at place (named_by l) (guarantees_by h t))) (lines_by m.holder m.serial t)) own is.name in
      record {
        some = omega (arith, is.some, long);
        most = omega (arith, is.most, long);
        amounts = All-from_recursion (λ (l : Line). IsLineAmount l.cents) (map (line_from t) (lines_by m.holder m.serial t)) (all-map (λ (l : Line). IsLineAmount l.cents) (line_from t) (lines_by m.holder m.serial t) is.amounts);
        distinct = lines_differ (lines_by m.holder m.serial t) mine name is.apart;
        own = all-map (λ (l : Line). IsSome (guarantee_by_grn l.grn (gathered t row).guarantees)) (line_from t) (lines_by m.holder m.serial t)
            (all_both (λ l. owner l ≡ H) (λ l. IsSome (row_at place (named_by l) (guarantees_by H t))) (λ l. IsSome (guarantee_by_grn (line_from t l).grn (gathered t row).guarantees))
            (λ l own some. subst (λ h. IsSome (guarantee_by_grn (grn_by h (named_by l) t) (gathered t row).guarantees)) (sym own) (grn_found t (named_by l) (guarantees_by H t) some)) (lines_by m.holder m.serial t) mine name);
      }

  movement_is_sound : (m : Keyed Movement) → owner m ≡ H → IsMovementInRange t.country m → AreLinesInRange t m → IsMovementRow t.country H (gathered t row).guarantees m.serial (with_lines t m)
  movement_is_sound m own is lines = record {
    mrn = subst (λ h. IsMrnTextOf (year_of m.row.accepted % 100) t.country h m.serial m.row.mrn) own is.mrn;
    lrn = is.lrn;
    departure = is.departure;
    destination = is.destination;
    accepted = is.accepted;
    status = status_with m.row (map (line_from t) (lines_by m.holder m.serial t)) is.status;
    lines = lines_are_sound m own lines;
  }

  movements_are_sound : AllByRecursion (λ (m : Keyed Movement). IsMovementRow t.country H (gathered t row).guarantees (place m) (with_lines t m)) (movements_by H t)
  movements_are_sound =
      all_both (λ (m : Keyed Movement). owner m ≡ H) (λ (m : Keyed Movement). IsMovementInRange t.country m × AreLinesInRange t m) (λ (m : Keyed Movement). IsMovementRow t.country H (gathered t row).guarantees (place m) (with_lines t m))
      (λ m own is. movement_is_sound m own is.0 is.1) (movements_by H t) (are_mine H t.movements)
      (all_both (IsMovementInRange t.country) (AreLinesInRange t) (λ (m : Keyed Movement). IsMovementInRange t.country m × AreLinesInRange t m) (λ m a b. (a, b)) (movements_by H t) keeps.movements.columns keeps.lines.columns)

  -- no two movements have one LRN
  lrns_differ : AllPairs (λ (a b : Movement). a.lrn ≢ b.lrn) (gathered t row).movements
  lrns_differ =
      AllPairs-map (with_lines t) (λ (a b : Movement). a.lrn ≢ b.lrn) (movements_by H t) (λ m. record { holder = 0; serial = 0; row = m })
      (text_apart_pairs (λ (m : Keyed Movement). m.row.lrn) (movements_by H t) (text_apart_permuted (λ (m : Keyed Movement). m.row.lrn) (part H t.movements) (movements_by H t) (in_order_permutes place (part H t.movements) (stored.movements H)) (stored.lrns H)))

  -- the holder's rows
  pub rows_are_sound : AreHolderRows t.country (gathered t row)
  rows_are_sound = record {
    row = record { number = number; eori = keeps.holder.eori; last_at = keeps.holder.last_at };
    guarantees = all_renumbered place (with_codes t) (IsGuaranteeRow t.country H) 0 (guarantees_by H t) keeps.guarantees.serials guarantees_are_sound;
    grn_count = keeps.guarantees.count ∙ sym (length-map (guarantees_by H t) (with_codes t));
    grn_most = keeps.guarantees.most;
    movements = all_renumbered place (with_lines t) (IsMovementRow t.country H (gathered t row).guarantees) 0 (movements_by H t) keeps.movements.serials movements_are_sound;
    mrn_count = keeps.movements.count ∙ sym (length-map (movements_by H t) (with_lines t));
    mrn_most = keeps.movements.most;
    lrns = lrns_differ;
    cover = keeps.cover;
  }

-- the content
pub content_is_sound : (t : Tables) → KeepRules t → IsSound (content_of t)
content_is_sound t keep = record {
  country = keep.country;
  order = rises-map (gathered t) holder_key 0 (in_order holder_no t.holders) (in_order_rises holder_no t.holders);
  holders = all-map (AreHolderRows t.country) (gathered t) (in_order holder_no t.holders) (all_weaker (λ (row : HolderRow). IsHolderNumber row.holder × KeepsRules t row) (λ row. AreHolderRows t.country (gathered t row)) (λ row is. rows_are_sound t keep.stored keep.country row is.0 is.1) (in_order holder_no t.holders) (each_keeps t keep));
}
