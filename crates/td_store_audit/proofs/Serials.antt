-- The serials of a holder's movements that count.
use Rattle.std.proofs.Common.{◌≡◌, ◌∙◌, ℕ, ◌+◌, ◌<◌, List, [], ◌∷◌, ◌++◌, get_or, length, map, take, sym, ap, subst, arith}
use Rattle.std.specs.Prelude.{filter}
use Rattle.std.proofs.lemmas.List.{map-append, take_more}
use Rattle.std.proofs.lemmas.List.Elements.{filter-append}
use Rattle.keyed_rows.specs.Rows.{Rises}
use Rattle.td_movement.specs.declared.movement.Movement.{Movement}
use Rattle.td_table_model.specs.Gathering.{IsNumbered, place}
use Rattle.td_table_model.specs.Tables.{Keyed}
use Rattle.td_table_model.proofs.Orders.{numbered_rise, rises-filter, rises-map, rises_from_map, rises_lower}
use Rattle.td_store_rows.specs.MovementTable.{movement_row_of, serial_of_stored}
use Rattle.td_store_rows.specs.declared.movements.stored.MovementSerial.{MovementSerial}
use Rattle.td_store_rows.specs.declared.movements.stored.StoredMovement.{StoredMovement}
use Rattle.td_store_audit.specs.Tallies.{is_counting_row}

-- those in rows
abbrev pub serials_in : List StoredMovement → List ℕ
serials_in rows = map place (filter is_counting_row (map movement_row_of rows))

-- one row more
pub serials_more : (rows : List StoredMovement) (i : ℕ) (row : StoredMovement) → i < length rows → row ≡ get_or rows i row
    → serials_in (take (i + 1) rows) ≡ serials_in (take i rows) ++ serials_in (row ∷ [])
serials_more rows i row within is =
    ap serials_in (take_more rows i row within ∙ ap (λ r. take i rows ++ r ∷ []) (sym is))
    ∙ ap (λ l. map place (filter is_counting_row l)) (map-append movement_row_of (take i rows) (row ∷ []))
    ∙ ap (map place) (filter-append is_counting_row (map movement_row_of (take i rows)) (movement_row_of row ∷ []))
    ∙ map-append place (filter is_counting_row (map movement_row_of (take i rows))) (filter is_counting_row (movement_row_of row ∷ []))

-- so the serials that count rise, of movements numbered from 1 on
pub serials_rise : (rows : List (Keyed Movement)) (serials : List MovementSerial) → IsNumbered place 0 rows
    → map serial_of_stored serials ≡ map place (filter is_counting_row rows) → Rises serial_of_stored 0 serials
serials_rise rows serials numbers same =
    rises_from_map serial_of_stored (λ n. n) 0 serials
    (subst (Rises (λ n. n) 0) (sym same) (rises-map place (λ n. n) 0 (filter is_counting_row rows)
    (rises-filter place is_counting_row 0 rows (rises_lower place 0 1 rows (omega arith) (numbered_rise place 0 rows numbers)))))
