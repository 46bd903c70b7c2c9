-- The router of `matchit` with the patterns of a table, and what it finds there.
use Rattle.std.specs.Prelude.{◌≡◌, ℕ, ◌<◌, List, [], ◌∷◌, ◌++◌, length, map, find, bytes_eq, get_or, Some, None, MatchOption, Result, Ok, Err, if◌then◌else◌}
use Rattle.std.specs.List.{list_any, slice_get}
use Rattle.matchit.specs.Order.{placed}
use Rattle.matchit.specs.Params.{walk}
use Rattle.matchit.specs.Route.{parse_route, Scan}
use Rattle.matchit.specs.Router.{RouteOf, route_from}
use Rattle.matchit.specs.Rows.{RowsOf}
use Rattle.matchit.specs.Seek.{first}
use Rattle.matchit.specs.declared.error.InsertError.{InsertError}
use Rattle.path_table.specs.Segments.{fits, parts_of}

-- the numbers are bytes
abbrev pub IsBytes : List ℕ → Type 0
IsBytes path = (i : ℕ) → get_or path i 0 < 256

-- one pattern more, as `matchit` reads it, with the place of its row
abbrev pub with_read : Result Scan InsertError → ℕ → RowsOf (RouteOf ℕ) → RowsOf (RouteOf ℕ)
with_read (Ok s) place router = placed (s.pattern, route_from s place) router
with_read (Err e) place router = router

module _ {R : Type 0} (pattern_of : R → List ℕ) where
  -- the pattern of a row put in behind those of earlier rows: each pattern once
  abbrev pub with_row : List R → R → RowsOf (RouteOf ℕ) → RowsOf (RouteOf ℕ)
  with_row earlier row router =
      if list_any (λ r. bytes_eq (pattern_of r) (pattern_of row)) earlier then router
      else with_read (parse_route (pattern_of row)) (length earlier) router

  -- the patterns of these rows put in one after another
  unfoldable pub router_behind : List R → List R → RowsOf (RouteOf ℕ) → RowsOf (RouteOf ℕ)
  router_behind earlier [] router = router
  router_behind earlier (row ∷ rows) router =
      router_behind (earlier ++ row ∷ []) rows (with_row earlier row router)

  -- the router of the rows
  abbrev pub router_for : List R → RowsOf (RouteOf ℕ)
  router_for rows = router_behind [] rows []

  -- A route of it stands for the first row whose pattern the path fits, and its names for the path's parts.
  pub record IsFound (rows : List R) (path : List ℕ) (route : RouteOf ℕ) : Type 0 where
    pub row : R
    pub at : slice_get rows route.value ≡ Some row
    pub found : find (λ r. fits (pattern_of r) path) rows ≡ Some row
    pub parts : map (λ n. n.1) (walk route.pattern route.text path route.names 0 0) ≡ parts_of (pattern_of row) path

  -- What it finds of a path is the first row whose pattern the path fits, and it finds none where no row's does.
  abbrev pub FindsRow : List R → List ℕ → Type 0
  FindsRow rows path =
      MatchOption (first (router_for rows) path) (find (λ r. fits (pattern_of r) path) rows ≡ None) (IsFound rows path)
