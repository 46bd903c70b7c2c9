-- The route of a path by what the table finds.
use Rattle.std.proofs.Common.{rules, ◌≡◌, ℕ, List, Bor, arith, take, map, Bool, true, false, Option, None, Some, option_map, Result, Err, [], ◌∷◌, cond, find, refl, subst, sym, ap, ◌∙◌}
use Rattle.std.proofs.lemmas.Str.{is_utf8-from_IsUtf8, IsUtf8-from_is_utf8}
use Rattle.std.proofs.lemmas.Str.Pattern.{IsSplitOnceResult, split_once_first}
use Rattle.std.proofs.Math.Seq.{take-length}
use Rattle.std.specs.Str.{IsUtf8, is_utf8}
use Rattle.td_fields.specs.declared.fault.Allowed.{Allowed}
use Rattle.td_fields.specs.declared.fault.WebFault.{WebFault}
use Rattle.td_fields.specs.declared.fault.WebFault.TheVariants.{NoRoute}
use Rattle.td_routes.specs.declared.table.Route.{Route}
use Rattle.td_routes.specs.declared.table.Row.{Row}
use Rattle.path_table.specs.Segments.{fits}
use Rattle.std.specs.Cmp.Lexicographic.{bytes_decides}
use Rattle.std.specs.Prelude.{◌&&◌, bytes_eq}
use Rattle.td_routes.specs.Routes.{row_with, verb_text, TableRow, table, row_shown, pattern_in, methods_with, route_in, route_of, methods_of, path_of}

is_utf8_false : (bytes : List ℕ) → ¬ (IsUtf8 bytes) → is_utf8 bytes ≡ false
is_utf8_false bytes h = by (is_utf8 bytes) refl
  where
    by : (v : Bool) → is_utf8 bytes ≡ v → is_utf8 bytes ≡ false
    by true e = absurd (h (IsUtf8-from_is_utf8 bytes e))
    by false e = e

-- the pattern that a path fits, by the row of the code that is found
found_row : (path : List ℕ) (rows : List Row) → find (λ row. fits row.path path) (map row_shown rows) ≡ option_map row_shown (find (λ (row : Row). fits row.path.now path) rows)
found_row path [] = refl
found_row path (row ∷ rows) = by (fits row.path.now path) (found_row path rows)
  where
    by : (v : Bool) → find (λ row. fits row.path path) (map row_shown rows) ≡ option_map row_shown (find (λ (row : Row). fits row.path.now path) rows)
        → cond v (Some (row_shown row)) (find (λ row. fits row.path path) (map row_shown rows)) ≡ option_map row_shown (cond v (Some row) (find (λ (row : Row). fits row.path.now path) rows))
    by true more = refl
    by false more = more

pub pattern_found : (path : List ℕ) (rows : List Row) (o : Option Row) → o ≡ find (λ (row : Row). fits row.path.now path) rows
    → pattern_in (map row_shown rows) path ≡ option_map (λ (row : Row). row.path.now) o
pattern_found path rows o found = ap (option_map (λ (row : TableRow). row.path)) (found_row path rows) ∙ (by (find (λ (row : Row). fits row.path.now path) rows) ∙ ap (option_map (λ (row : Row). row.path.now)) (sym found))
  where
    by : (o : Option Row) → option_map (λ (row : TableRow). row.path) (option_map row_shown o) ≡ option_map (λ (row : Row). row.path.now) o
    by None = refl
    by (Some row) = refl

-- a path that isn't text has no route
pub no_route : (method path : List ℕ) → ¬ (IsUtf8 path) → Err NoRoute ≡ route_of method path
no_route method path h = rw (is_utf8_false path h) refl

-- what was read of a path that is text is its route
pub route_found : (rows : List TableRow) (method path shown : List ℕ) (r : Result Route WebFault) → shown ≡ path → IsUtf8 path → rows ≡ table → r ≡ route_in rows method shown → r ≡ route_of method path
route_found rows method path shown r same text made read = rw (is_utf8-from_IsUtf8 path text) (rw (made, same) at read)

-- what was told of a path that is the same
pub same_told : (told : List ℕ → Type 0) (path shown : List ℕ) → shown ≡ path → told shown → told path
same_told told path shown same h = subst told same h

-- a path that isn't text has no methods
pub no_methods : (path : List ℕ) → ¬ (IsUtf8 path) → None ≡ methods_of path
no_methods path h = rw (is_utf8_false path h) refl

-- the methods that the table has for a path that is text
pub methods_found : (rows : List TableRow) (path shown : List ℕ) (r : Option Allowed) → shown ≡ path → IsUtf8 path → rows ≡ table
    → r ≡ option_map (methods_with rows) (pattern_in rows shown) → r ≡ methods_of path
methods_found rows path shown r same text made read = rw (is_utf8-from_IsUtf8 path text) (rw (made, same) at read)

-- a target that isn't text has no path
pub no_path : (target : List ℕ) → ¬ (IsUtf8 target) → None ≡ path_of target
no_path target h = rw (is_utf8_false target h) refl

-- the path of a target that is text, which has a `?`
pub path_before : (target text : List ℕ) (parts : Bor (List ℕ) × Bor (List ℕ)) → text ≡ target → IsUtf8 target → IsSplitOnceResult 63 text (Some parts)
    → Some parts.0.now ≡ path_of target
path_before target text parts same is_text cut =
    let front = (split_once_first 63 text (Some parts) cut (omega arith)).1 in
    rw (is_utf8-from_IsUtf8 target is_text) (ap Some (rw same at front))

-- the path of a target that is text, which has none
pub path_whole : (target text : List ℕ) → text ≡ target → IsUtf8 target → IsSplitOnceResult 63 text None → Some text ≡ path_of target
path_whole target text same is_text uncut =
    let all = split_once_first 63 text None uncut (omega arith) in
    rw (is_utf8-from_IsUtf8 target is_text) (ap Some (same ∙ sym (rw same at (ap (λ n. take n text) all ∙ take-length text))))

same_bytes : (text : List ℕ) → bytes_eq text text ≡ true
same_bytes text = (bytes_decides text text).1 refl

-- a path fits the row that is found for it
fits_found : (path : List ℕ) (rows : List Row) (row : Row) → Some row ≡ find (λ (row : Row). fits row.path.now path) rows → fits row.path.now path ≡ true
fits_found path [] row found = absurd (search rules)
fits_found path (other ∷ rows) row found = by (fits_found path rows row) (fits other.path.now path) refl found
  where
    by : (Some row ≡ find (λ (row : Row). fits row.path.now path) rows → fits row.path.now path ≡ true)
        → (v : Bool) → fits other.path.now path ≡ v → Some row ≡ cond v (Some other) (find (λ (row : Row). fits row.path.now path) rows) → fits row.path.now path ≡ true
    by more true e found = let same : row ≡ other = search rules in rw same e
    by more false e found = more found

-- the first row that a path fits is the first with its pattern
pub first_with : (path : List ℕ) (rows : List Row) (row : Row) → Some row ≡ find (λ (row : Row). fits row.path.now path) rows
    → find (λ (other : Row). bytes_eq other.path.now row.path.now) rows ≡ Some row
first_with path [] row found = absurd (search rules)
first_with path (other ∷ rows) row found = by (first_with path rows row) (fits other.path.now path) refl found
  where
    apart : (v : Bool) → fits other.path.now path ≡ false → bytes_eq other.path.now row.path.now ≡ v → fits row.path.now path ≡ true
        → find (λ (other : Row). bytes_eq other.path.now row.path.now) rows ≡ Some row
        → cond v (Some other) (find (λ (other : Row). bytes_eq other.path.now row.path.now) rows) ≡ Some row
    apart true e same fit more =
        let paths : other.path.now ≡ row.path.now = (bytes_decides other.path.now row.path.now).0 same in
        let never : false ≡ true = sym e ∙ (ap (λ pattern. fits pattern path) paths ∙ fit) in
        absurd (search rules)
    apart false e same fit more = more

    by : (Some row ≡ find (λ (row : Row). fits row.path.now path) rows → find (λ (other : Row). bytes_eq other.path.now row.path.now) rows ≡ Some row)
        → (v : Bool) → fits other.path.now path ≡ v → Some row ≡ cond v (Some other) (find (λ (row : Row). fits row.path.now path) rows)
        → cond (bytes_eq other.path.now row.path.now) (Some other) (find (λ (other : Row). bytes_eq other.path.now row.path.now) rows) ≡ Some row
    by more true e found =
        let same : row ≡ other = search rules in
        rw (same, same_bytes other.path.now) refl
    by more false e found = apart (bytes_eq other.path.now row.path.now) e refl (fits_found path rows row found) (more found)

-- the first row with its pattern is the one with its method
pub row_first : (rows : List Row) (row : Row) (method : List ℕ) → find (λ (other : Row). bytes_eq other.path.now row.path.now) rows ≡ Some row
    → bytes_eq (verb_text row.method) method ≡ true → Some (row_shown row) ≡ row_with (map row_shown rows) row.path.now method
row_first [] row method found same = absurd (search rules)
row_first (other ∷ rows) row method found same = by (λ found. row_first rows row method found same) (bytes_eq other.path.now row.path.now) found
  where
    by : (find (λ (other : Row). bytes_eq other.path.now row.path.now) rows ≡ Some row → Some (row_shown row) ≡ row_with (map row_shown rows) row.path.now method)
        → (v : Bool) → cond v (Some other) (find (λ (other : Row). bytes_eq other.path.now row.path.now) rows) ≡ Some row
        → Some (row_shown row) ≡ cond (v && bytes_eq (verb_text other.method) method) (Some (row_shown other)) (row_with (map row_shown rows) row.path.now method)
    by more true found =
        let is : other ≡ row = search rules in
        rw (is, same) refl
    by more false found = more found
