-- A router that is filled row by row.
use Rattle.std.proofs.Common.{◌≡◌, ℕ, ◌+◌, ◌<◌, List, [], ◌∷◌, ◌++◌, length, take, drop, get_or, Result, Ok, Err, Bool, cond, sym, ap, ◌∙◌, arith}
use Rattle.std.proofs.lemmas.List.{drop_more, take_more, length-take-le}
use Rattle.std.specs.Prelude.{bytes_eq}
use Rattle.std.specs.List.{list_any}
use Rattle.matchit.specs.Route.{parse_route, Scan}
use Rattle.matchit.specs.Router.{RouteOf, InsertsRead}
use Rattle.matchit.specs.Rows.{RowsOf}
use Rattle.matchit.specs.declared.error.InsertError.{InsertError}
use Rattle.path_table.specs.Routers.{with_read, router_behind}

-- a pattern that was put in is a route more
pub insert_reads : (s : Result Scan InsertError) (place : ℕ) (old new : RowsOf (RouteOf ℕ)) → InsertsRead s place old new (Ok tt) → new ≡ with_read s place old
insert_reads (Ok s) place old new h = h.1
insert_reads (Err e) place old new h = h.0

-- the router with one row more
pub next_router : {R : Type 0} (pattern_of : R → List ℕ) (rows : List R) (i : ℕ) (row : R) (old new : RowsOf (RouteOf ℕ)) → i < length rows → row ≡ get_or rows i row
    → new ≡ cond (list_any (λ r. bytes_eq (pattern_of r) (pattern_of row)) (take i rows)) old (with_read (parse_route (pattern_of row)) i old)
    → router_behind pattern_of (take i rows) (drop i rows) old ≡ router_behind pattern_of (take (i + 1) rows) (drop (i + 1) rows) new
unfolding router_behind
next_router pattern_of rows i row old new within here is =
    let rest : drop i rows ≡ row ∷ drop (i + 1) rows = drop_more rows i row within ∙ ap (λ r. r ∷ drop (i + 1) rows) (sym here) in
    let earlier : take (i + 1) rows ≡ take i rows ++ row ∷ [] = take_more rows i row within ∙ ap (λ r. take i rows ++ r ∷ []) (sym here) in
    let place : length (take i rows) ≡ i = length-take-le i rows (omega (arith, within)) in
    rw (rest, earlier, is) (ap (λ n. router_behind pattern_of (take i rows ++ row ∷ []) (drop (i + 1) rows)
    (cond (list_any (λ r. bytes_eq (pattern_of r) (pattern_of row)) (take i rows)) old (with_read (parse_route (pattern_of row)) n old))) place)

-- what is said of the rows before one
pub earlier_is : {R : Type 0} (pattern_of : R → List ℕ) (rows : List R) (place : ℕ) (row : R) (pattern : List ℕ) (b : Bool)
    → b ≡ list_any (λ r. bytes_eq (pattern_of r) pattern) (take place rows) → pattern ≡ pattern_of row → b ≡ list_any (λ r. bytes_eq (pattern_of r) (pattern_of row)) (take place rows)
earlier_is pattern_of rows place row pattern b is same =
    rw (← same) is
