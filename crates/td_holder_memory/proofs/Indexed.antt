-- Movements that are found by their LRNs and by their MRNs.
use Rattle.std.proofs.Common.{◌≡◌, ℕ, ◌+◌, List, [], ◌∷◌, ◌++◌, length, map, Some, None, refl, sym, ◌∙◌, ap}
use Rattle.std.specs.Prelude.{if◌then◌else◌}
use Rattle.std.specs.BTreeMap.{BTreeMap, get}
use Rattle.std.specs.Option.{option_or}
use Rattle.std.specs.Str.{bytes_eq}
use Rattle.td_base.specs.References.{serial_of}
use Rattle.td_movement.specs.declared.movement.Movement.{Movement}
use Rattle.td_model.specs.declared.change.NewStatus.{NewStatus}
use Rattle.td_model.specs.Changes.{with_status, moved}
use Rattle.td_holder_memory.specs.Places.{AreIndexed, lrn_cmp, place_by_lrn}
use Rattle.td_holder_memory.proofs.PlaceOfLrn.{place_moved, place_in_more}
use Rattle.td_holder_memory.proofs.BySerial.{placed_made, placed_more, placed_next}

-- movements that move are indexed as before
pub indexed_moved : (country : List ℕ) (status : NewStatus) (ms : List Movement) (places : BTreeMap (List ℕ) ℕ) (placed : ℕ) → AreIndexed country ms places placed → AreIndexed country (map (moved status) ms) places placed
indexed_moved country status ms places placed is = record {
  lrns = λ lrn. is.lrns lrn ∙ sym (place_moved status lrn ms);
  mrns = placed_made (λ m. m.mrn) status.mrn (with_status status) (λ m. refl) country ms placed is.mrns;
}

-- the places where an LRN without one got this place
abbrev pub HasPlaceFor : List ℕ → BTreeMap (List ℕ) ℕ → BTreeMap (List ℕ) ℕ → ℕ → Type 0
HasPlaceFor lrn old new at = (k : List ℕ) → get lrn_cmp new k ≡ option_or (get lrn_cmp old k) (if bytes_eq lrn k then Some at else None)

-- with one more behind them, each LRN has its place
lrns_more : (ms : List Movement) (m : Movement) (old new : BTreeMap (List ℕ) ℕ) → ((lrn : List ℕ) → get lrn_cmp old lrn ≡ place_by_lrn lrn ms) → HasPlaceFor m.lrn old new (length ms)
    → (lrn : List ℕ) → get lrn_cmp new lrn ≡ place_by_lrn lrn (ms ++ m ∷ [])
lrns_more ms m old new are more lrn = more lrn ∙ ap (λ o. option_or o (if bytes_eq m.lrn lrn then Some (length ms) else None)) (are lrn) ∙ sym (place_in_more lrn ms m)

-- with one more behind them, as many stand in their places
pub indexed_more : (country : List ℕ) (ms : List Movement) (m : Movement) (old new : BTreeMap (List ℕ) ℕ) (placed : ℕ) → AreIndexed country ms old placed → HasPlaceFor m.lrn old new (length ms) → AreIndexed country (ms ++ m ∷ []) new placed
indexed_more country ms m old new placed is more = record {
  lrns = lrns_more ms m old new is.lrns more;
  mrns = placed_more (λ m. m.mrn) country ms m placed is.mrns;
}

-- with one more of the next serial behind them, all stand in their places
pub indexed_next : (country : List ℕ) (ms : List Movement) (m : Movement) (old new : BTreeMap (List ℕ) ℕ) (placed : ℕ) → AreIndexed country ms old placed → HasPlaceFor m.lrn old new (length ms) → placed ≡ length ms
    → serial_of country m.mrn ≡ Some (length ms + 1) → AreIndexed country (ms ++ m ∷ []) new (length ms + 1)
indexed_next country ms m old new placed is more all next = record {
  lrns = lrns_more ms m old new is.lrns more;
  mrns = placed_next (λ m. m.mrn) country ms m placed is.mrns all next;
}
