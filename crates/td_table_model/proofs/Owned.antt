-- The rows of each holder are the holder's own, in each table.
use Rattle.std.proofs.Common.{◌≡◌, ℕ, List, map, flat_map, refl}
use Rattle.std.specs.List.{AllByRecursion}
use Rattle.sqlite_trees.proofs.ListLemmas.{all_of, all-flat_map, all-map}
use Rattle.keyed_rows.specs.Rows.{Rises}
use Rattle.td_guarantee.specs.declared.guarantee.Guarantee.{Guarantee}
use Rattle.td_movement.specs.declared.movement.Movement.{Movement}
use Rattle.td_model.specs.Account.{HolderRows, holder_key}
use Rattle.td_table_model.specs.Tables.{numbered, guarantee_row, code_row, code_rows, movement_row, line_row, line_rows, guarantees_in, kept_in, with_use, code_rows_of, movements_in, line_rows_of}
use Rattle.td_model.specs.Sound.{AreCodes}
use Rattle.td_base.specs.Codes.{IsAccessCode}
use Rattle.std.proofs.lemmas.List.Elements.{recursion_from_All}
use Rattle.td_table_model.specs.Gathering.{owner, place, no_of, code_rank}
use Rattle.td_table_model.proofs.Orders.{rises-map}
use Rattle.td_table_model.proofs.Ranks.{ranks_rise}
use Rattle.td_table_model.proofs.Numbered.{number, numbered_rises_low}

pub owned_guarantees : (h : HolderRows) → AllByRecursion (λ x. owner x ≡ holder_key h) (guarantees_in h)
owned_guarantees h = all-map (λ x. owner x ≡ holder_key h) (guarantee_row h.row.holder) (numbered 0 h.guarantees) (all_of (λ p. holder_key h ≡ holder_key h) (λ p. refl) (numbered 0 h.guarantees))

pub owned_kept : (h : HolderRows) → AllByRecursion (λ x. owner x ≡ holder_key h) (kept_in h)
owned_kept h = all-map (λ x. owner x ≡ holder_key h) (with_use h.movements) (guarantees_in h) (owned_guarantees h)

pub owned_movements : (h : HolderRows) → AllByRecursion (λ x. owner x ≡ holder_key h) (movements_in h)
owned_movements h = all-map (λ x. owner x ≡ holder_key h) (movement_row h.row.holder) (numbered 0 h.movements) (all_of (λ p. holder_key h ≡ holder_key h) (λ p. refl) (numbered 0 h.movements))

-- rows that are made of elements have what all that are made have
made : {X Y : Type 0} (P : Y → Type 0) (f : X → Y) → ((x : X) → P (f x)) → (xs : List X) → AllByRecursion P (map f xs)
made P f each xs = all-map P f xs (all_of (λ x. P (f x)) each xs)

gathered_of : {X Y : Type 0} (P : Y → Type 0) (f : X → List Y) → ((x : X) → AllByRecursion P (f x)) → (xs : List X) → AllByRecursion P (flat_map f xs)
gathered_of P f each xs = all-flat_map P f xs (all_of (λ x. AllByRecursion P (f x)) each xs)

pub owned_codes : (h : HolderRows) → AllByRecursion (λ x. owner x ≡ holder_key h) (code_rows_of h)
owned_codes h = gathered_of (λ x. owner x ≡ holder_key h) (code_rows h.row.holder) (λ p. made (λ x. owner x ≡ holder_key h) (code_row h.row.holder p.0) (λ c. refl) p.1.codes) (numbered 0 h.guarantees)

pub owned_lines : (country : List ℕ) (h : HolderRows) → AllByRecursion (λ x. owner x ≡ holder_key h) (line_rows_of country h)
owned_lines country h = gathered_of (λ x. owner x ≡ holder_key h) (line_rows country h.row.holder) (λ p. made (λ x. owner x ≡ holder_key h) (line_row country h.row.holder p.0) (λ l. refl) (numbered 0 p.1.lines)) (numbered 0 h.movements)

-- the codes of a guarantee and the lines of a movement have its serial
pub placed_codes : (H : ℕ) (p : ℕ × Guarantee) → AllByRecursion (λ x. place x ≡ number p) (code_rows H p)
placed_codes H p = made (λ x. place x ≡ number p) (code_row H p.0) (λ c. refl) p.1.codes

pub placed_lines : (country : List ℕ) (H : ℕ) (p : ℕ × Movement) → AllByRecursion (λ x. place x ≡ number p) (line_rows country H p)
placed_lines country H p = made (λ x. place x ≡ number p) (line_row country H p.0) (λ l. refl) (numbered 0 p.1.lines)

-- serials rise, and lines by their numbers
pub guarantees_rise : (H : ℕ) (n : ℕ) (gs : List Guarantee) → Rises place 0 (map (guarantee_row H) (numbered n gs))
guarantees_rise H n gs = rises-map (guarantee_row H) place 0 (numbered n gs) (numbered_rises_low n gs)

pub movements_rise : (H : ℕ) (n : ℕ) (ms : List Movement) → Rises place 0 (map (movement_row H) (numbered n ms))
movements_rise H n ms = rises-map (movement_row H) place 0 (numbered n ms) (numbered_rises_low n ms)

pub lines_rise : (country : List ℕ) (H : ℕ) (p : ℕ × Movement) → Rises no_of 0 (line_rows country H p)
lines_rise country H p = rises-map (line_row country H p.0) no_of 0 (numbered 0 p.1.lines) (numbered_rises_low 0 p.1.lines)

-- and codes by their characters
pub codes_rise : (H n : ℕ) (codes : List (List ℕ)) → AreCodes codes → Rises code_rank 0 (map (code_row H n) codes)
codes_rise H n codes are = rises-map (code_row H n) code_rank 0 codes (ranks_rise codes (recursion_from_All IsAccessCode codes are.form) are.order)
