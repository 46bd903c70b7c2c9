-- Places in lists.
use Rattle.std.specs.Prelude.{◌≡◌, ◌≢◌, ℕ, ◌+◌, ◌<◌, ◌≤◌, length, slice_index_or as get_or, List, [], ◌∷◌, take, Option, Some, None, option_map, if◌then◌else◌}
use Rattle.std.specs.declared.cmp.Ordering.{Ordering}
use Rattle.std.specs.BTreeMap.{BTreeMap, get}
use Rattle.std.specs.Str.{bytes_eq}
use Rattle.td_base.specs.contracts.lrn.LrnOrd.TheImpl as lrn_ord
use Rattle.td_base.specs.References.{serial_of}
use Rattle.td_movement.specs.declared.movement.Movement.{Movement}
use Rattle.td_model.specs.Sound.{AllNumbered}

-- how the places by LRN are ordered
abbrev pub lrn_cmp : List ℕ → List ℕ → Ordering
lrn_cmp = (lrn_ord.ghosts).cmp

-- the place of the first movement with an LRN
abbrev pub place_by_lrn : List ℕ → List Movement → Option ℕ
place_by_lrn lrn [] = None
place_by_lrn lrn (m ∷ ms) =
    if bytes_eq m.lrn lrn then Some 0 else option_map (λ at. at + 1) (place_by_lrn lrn ms)

-- each row stands at the place of its reference's serial
abbrev pub HaveSerials : {R : Type 0} → (R → List ℕ) → List ℕ → List R → Type 0
HaveSerials key country rows = AllNumbered (λ n r. serial_of country (key r) ≡ Some n) 0 rows

-- the row with this reference stands at this place, and no other has it
pub record IsOnlyPlace {R : Type 0} (key : R → List ℕ) (reference : List ℕ) (rows : List R)
    (at : ℕ) : Type 0 where
  pub within : at < length rows
  pub there : (d : R) → key (get_or rows at d) ≡ reference
  pub only : (k : ℕ) (d : R) → k < length rows → k ≢ at → key (get_or rows k d) ≢ reference

-- so many rows stand at the places of their references' serials
pub record ArePlaced {R : Type 0} (key : R → List ℕ) (country : List ℕ) (rows : List R)
    (placed : ℕ) : Type 0 where
  pub within : placed ≤ length rows
  pub serials : HaveSerials key country (take placed rows)

-- each LRN has the place of the first movement with it, and so many movements stand at the places of their
-- MRNs' serials
pub record AreIndexed (country : List ℕ) (movements : List Movement) (places : BTreeMap (List ℕ) ℕ)
    (placed : ℕ) : Type 0 where
  pub lrns : (lrn : List ℕ) → get lrn_cmp places lrn ≡ place_by_lrn lrn movements
  pub mrns : ArePlaced (λ m. m.mrn) country movements placed
