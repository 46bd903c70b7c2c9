-- One holder's codes and lines that keep the rules of sound tables: those of each guarantee, and of each movement.
use Rattle.std.specs.Prelude.{◌≡◌, ◌≢◌, ℕ, ◌≤◌, ◌<◌, List, get_or, length}
use Rattle.std.specs.List.{AllByRecursion}
use Rattle.sqlite_trees.specs.Tree.{IsAscending}
use Rattle.td_table_model.specs.Gathering.{IsApart, in_order, no_of, of_key, place}
use Rattle.td_table_model.specs.Tables.{Keyed, LineCells}
use Rattle.td_store_audit_rows.specs.InPlace.{AreLinesInPlace, BelongTo}
use Rattle.td_guarantee.specs.Codes.{most_codes}

-- the serials of rows don't fall; nor do, among lines of one serial, their numbers
abbrev pub IsBySerial : {R : Type 0} → List (Keyed R) → Type 0
IsBySerial rows = IsAscending (λ a b. place a ≤ place b) rows

abbrev pub IsByNumber : List (Keyed LineCells) → Type 0
IsByNumber rows = IsAscending (λ a b. place a ≡ place b → no_of a ≤ no_of b) rows

-- no two lines of one serial have one number
abbrev pub AreNumbersApart : List (Keyed LineCells) → Type 0
AreNumbersApart rows = (n : ℕ) → IsApart no_of (of_key place n rows)

-- 1 to 20 rows
pub record AreOneToTwenty {R : Type 0} (rows : List R) : Type 0 where
  pub some : 1 ≤ length rows
  pub most : length rows ≤ most_codes

-- the codes of a holder who has so many guarantees: each is of one of them, and each of them has 1 to 20
pub record AreCodesInPlace (guarantees : ℕ) (rows : List (Keyed (List ℕ))) : Type 0 where
  pub belong : BelongTo guarantees rows
  pub each : (n : ℕ) → 1 ≤ n → n ≤ guarantees → AreOneToTwenty (of_key place n rows)

-- the lines of one movement, where the holder has so many guarantees: they are, by their numbers, in their places
abbrev pub AreOfOneMovement : ℕ → List (Keyed LineCells) → Type 0
AreOfOneMovement guarantees lines = AreLinesInPlace guarantees (in_order no_of lines)

-- the lines of a holder who has so many guarantees and movements: each is of one of the movements, and those of each of them are so
pub record AreAllLinesInPlace (guarantees movements : ℕ) (rows : List (Keyed LineCells)) : Type 0 where
  pub belong : BelongTo movements rows
  pub each : (n : ℕ) → 1 ≤ n → n ≤ movements → AreOfOneMovement guarantees (of_key place n rows)

-- the serials of rows are from one on and below another
abbrev pub AreSerialsWithin : {R : Type 0} → ℕ → ℕ → List (Keyed R) → Type 0
AreSerialsWithin first end rows = AllByRecursion (λ r. (first ≤ place r) × (place r < end)) rows

-- those rows of a holder whose serials are from one on and below another: none has the serial 0, which no guarantee and no movement
-- has, and those of each such serial are as they have to be
pub record AreInPlaceWithin {R : Type 0} (AreSo : List (Keyed R) → Type 0) (first end : ℕ) (rows : List (Keyed R)) : Type 0 where
  pub serials : AllByRecursion (λ r. first ≤ place r → place r < end → 1 ≤ place r) rows
  pub each : (n : ℕ) → 1 ≤ n → first ≤ n → n < end → AreSo (of_key place n rows)

-- codes: 1 to 20 of each guarantee
abbrev pub AreCodesInPlaceWithin : ℕ → ℕ → List (Keyed (List ℕ)) → Type 0
AreCodesInPlaceWithin = AreInPlaceWithin AreOneToTwenty

-- lines, where the holder has so many guarantees
abbrev pub AreLinesInPlaceWithin : ℕ → ℕ → ℕ → List (Keyed LineCells) → Type 0
AreLinesInPlaceWithin guarantees = AreInPlaceWithin (AreOfOneMovement guarantees)

-- From one place on, up to another, rows have a key; and the row at the other, if there is one, hasn't.
pub record IsEndOfRun {X : Type 0} (key : X → ℕ) (n start : ℕ) (rows : List X) (end : ℕ) : Type 0 where
  pub first : start ≤ end
  pub last : end ≤ length rows
  pub same : (i : ℕ) (d : X) → start ≤ i → i < end → key (get_or rows i d) ≡ n
  pub next : (d : X) → end < length rows → key (get_or rows end d) ≢ n
