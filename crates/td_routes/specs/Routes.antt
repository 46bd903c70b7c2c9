-- The table of paths, what a path and a method stand for in it, and the route of a request.
use Rattle.std.specs.Prelude.{ℕ, ◌&&◌, List, [], ◌∷◌, codes, bytes_eq, find, Option, Some, None, is_some, option_map, ok_or, unwrap_or, Result, Ok, Err, if◌then◌else◌}
use Rattle.std.specs.List.{before_first, slice_get}
use Rattle.std.specs.Prelude.{◌==◌}
use Rattle.std.specs.Str.{is_utf8}
use Rattle.path_table.specs.Segments.{fits, parts_of}
use Rattle.td_fields.specs.Faults.{◌>>=◌}
use Rattle.td_base.specs.Codes.{holder_read}
use Rattle.td_base.specs.References.{is_mrn, is_grn, first_fault}
use Rattle.td_fields.specs.declared.fault.Allowed.{Allowed}
use Rattle.td_fields.specs.declared.fault.WebFault.{WebFault}
use Rattle.td_fields.specs.declared.fault.WebFault.TheVariants.{NoRoute, NoMethod, BadHolder, BadMrn, BadGrn}
use Rattle.td_routes.specs.declared.table.Endpoint.{Endpoint}
use Rattle.td_routes.specs.declared.table.Endpoint.TheVariants as endpoint
use Rattle.td_routes.specs.declared.table.Route.{Route}
use Rattle.td_routes.specs.declared.table.Route.TheVariants as route
use Rattle.td_routes.specs.declared.table.Row.{Row}
use Rattle.td_routes.specs.declared.table.Verb.{Verb}
use Rattle.td_routes.specs.declared.table.Verb.TheVariants.{Get, Post, Put}

-- the name of a method
abbrev pub verb_text : Verb → List ℕ
verb_text Get = codes "GET"
verb_text Post = codes "POST"
verb_text Put = codes "PUT"

-- a row: a method, a pattern of paths, and what they ask for
pub record TableRow : Type 0 where
  pub method : Verb
  pub path : List ℕ
  pub endpoint : Endpoint

abbrev pub table_row : Verb → List ℕ → Endpoint → TableRow
table_row method path endpoint = record { method = method; path = path; endpoint = endpoint }

-- a row of the code
abbrev pub row_shown : Row → TableRow
row_shown row = table_row row.method row.path.now row.endpoint

-- the rows, in the table's order
abbrev pub table : List TableRow
table =
    table_row Put (codes "/office/holders/{h}") endpoint.Register
    ∷ table_row Post (codes "/office/holders/{h}/guarantees") endpoint.OpenGuarantee
    ∷ table_row Post (codes "/office/guarantees/{g}/amend") endpoint.Amend
    ∷ table_row Post (codes "/office/guarantees/{g}/revoke") endpoint.Revoke
    ∷ table_row Post (codes "/office/movements/{m}/ie029") endpoint.Ie029
    ∷ table_row Post (codes "/office/movements/{m}/ie007") endpoint.Ie007
    ∷ table_row Post (codes "/office/movements/{m}/ie018") endpoint.Ie018
    ∷ table_row Post (codes "/office/movements/{m}/ie045") endpoint.Ie045
    ∷ table_row Post (codes "/office/movements/{m}/ie140") endpoint.Ie140
    ∷ table_row Get (codes "/holders/{h}") endpoint.SeeHolder
    ∷ table_row Get (codes "/holders/{h}/guarantees") endpoint.SeeGuarantees
    ∷ table_row Get (codes "/holders/{h}/guarantees/{g}") endpoint.SeeGuarantee
    ∷ table_row Post (codes "/holders/{h}/guarantees/{g}/codes/add") endpoint.AddCode
    ∷ table_row Post (codes "/holders/{h}/guarantees/{g}/codes/remove") endpoint.RemoveCode
    ∷ table_row Get (codes "/holders/{h}/movements") endpoint.SeeMovements
    ∷ table_row Post (codes "/holders/{h}/movements") endpoint.Ie015
    ∷ table_row Get (codes "/holders/{h}/movements/{m}") endpoint.SeeMovement
    ∷ table_row Post (codes "/holders/{h}/movements/{m}/ie014") endpoint.Ie014
    ∷ []

-- the pattern that a path fits, of the first such row
abbrev pub pattern_in : List TableRow → List ℕ → Option (List ℕ)
pattern_in rows path = option_map (λ row. row.path) (find (λ row. fits row.path path) rows)

-- the row with this pattern and this method
abbrev pub row_with : List TableRow → List ℕ → List ℕ → Option TableRow
row_with rows pattern method = find (λ row. bytes_eq row.path pattern && bytes_eq (verb_text row.method) method) rows

-- the methods of the rows with this pattern
abbrev pub methods_with : List TableRow → List ℕ → Allowed
methods_with rows pattern = record {
  get = is_some (row_with rows pattern (verb_text Get));
  post = is_some (row_with rows pattern (verb_text Post));
  put = is_some (row_with rows pattern (verb_text Put));
}

-- the methods that a path has, where there is such a path
abbrev pub methods_of : List ℕ → Option Allowed
methods_of path = if is_utf8 path then option_map (methods_with table) (pattern_in table path) else None

-- the part at a place, from the left: empty where there are fewer
abbrev pub part_at : ℕ → List (List ℕ) → List ℕ
part_at place parts = unwrap_or (slice_get parts place) []

-- a part that names a holder
abbrev pub holder_in_part : List ℕ → Result ℕ WebFault
holder_in_part part = ok_or (holder_read part) BadHolder

-- a part that names a movement
abbrev pub mrn_part : List ℕ → Result (List ℕ) WebFault
mrn_part part = if is_mrn part then Ok part else Err (BadMrn (first_fault 18 part))

-- a part that names a guarantee
abbrev pub grn_part : List ℕ → Result (List ℕ) WebFault
grn_part part = if is_grn part then Ok part else Err (BadGrn (first_fault 17 part))

-- the parts of a path, by what they name, from left to right
abbrev pub holder_of_parts : List (List ℕ) → Result ℕ WebFault
holder_of_parts parts = holder_in_part (part_at 0 parts)

abbrev pub grn_in : List (List ℕ) → Result (List ℕ) WebFault
grn_in parts = grn_part (part_at 0 parts)

abbrev pub mrn_in : List (List ℕ) → Result (List ℕ) WebFault
mrn_in parts = mrn_part (part_at 0 parts)

abbrev pub holder_and_grn : List (List ℕ) → Result (ℕ × List ℕ) WebFault
holder_and_grn parts =
    holder_in_part (part_at 0 parts) >>= λ holder.
    grn_part (part_at 1 parts) >>= λ grn.
    Ok (holder, grn)

abbrev pub holder_and_mrn : List (List ℕ) → Result (ℕ × List ℕ) WebFault
holder_and_mrn parts =
    holder_in_part (part_at 0 parts) >>= λ holder.
    mrn_part (part_at 1 parts) >>= λ mrn.
    Ok (holder, mrn)

-- the route of a row and the parts of its path
abbrev pub route_with : List (List ℕ) → Endpoint → Result Route WebFault
route_with parts endpoint.Register = holder_of_parts parts >>= λ holder. Ok (route.Register holder)
route_with parts endpoint.OpenGuarantee = holder_of_parts parts >>= λ holder. Ok (route.OpenGuarantee holder)
route_with parts endpoint.Amend = grn_in parts >>= λ grn. Ok (route.Amend grn)
route_with parts endpoint.Revoke = grn_in parts >>= λ grn. Ok (route.Revoke grn)
route_with parts endpoint.Ie015 = holder_of_parts parts >>= λ holder. Ok (route.Ie015 holder)
route_with parts endpoint.Ie014 = holder_and_mrn parts >>= λ named. Ok (route.Ie014 named.0 named.1)
route_with parts endpoint.AddCode = holder_and_grn parts >>= λ named. Ok (route.AddCode named.0 named.1)
route_with parts endpoint.RemoveCode = holder_and_grn parts >>= λ named. Ok (route.RemoveCode named.0 named.1)
route_with parts endpoint.Ie029 = mrn_in parts >>= λ mrn. Ok (route.Ie029 mrn)
route_with parts endpoint.Ie007 = mrn_in parts >>= λ mrn. Ok (route.Ie007 mrn)
route_with parts endpoint.Ie018 = mrn_in parts >>= λ mrn. Ok (route.Ie018 mrn)
route_with parts endpoint.Ie045 = mrn_in parts >>= λ mrn. Ok (route.Ie045 mrn)
route_with parts endpoint.Ie140 = mrn_in parts >>= λ mrn. Ok (route.Ie140 mrn)
route_with parts endpoint.SeeHolder = holder_of_parts parts >>= λ holder. Ok (route.SeeHolder holder)
route_with parts endpoint.SeeMovement = holder_and_mrn parts >>= λ named. Ok (route.SeeMovement named.0 named.1)
route_with parts endpoint.SeeMovements = holder_of_parts parts >>= λ holder. Ok (route.SeeMovements holder)
route_with parts endpoint.SeeGuarantee = holder_and_grn parts >>= λ named. Ok (route.SeeGuarantee named.0 named.1)
route_with parts endpoint.SeeGuarantees = holder_of_parts parts >>= λ holder. Ok (route.SeeGuarantees holder)

-- the route of a method and a path among rows: the path's pattern, its row with the method, and the parts
abbrev pub route_in : List TableRow → List ℕ → List ℕ → Result Route WebFault
route_in rows method path =
    ok_or (pattern_in rows path) NoRoute >>= λ pattern.
    ok_or (row_with rows pattern method) (NoMethod (methods_with rows pattern)) >>= λ row.
    route_with (parts_of pattern path) row.endpoint

-- the route of a method and a path, or the first of the faults `NoRoute`, `NoMethod`, and those of the path's
-- parts
abbrev pub route_of : List ℕ → List ℕ → Result Route WebFault
route_of method path = if is_utf8 path then route_in table method path else Err NoRoute

-- what stands before the first `?` of a target
abbrev pub before_query : List ℕ → List ℕ
before_query target = before_first (λ c. c == 63) target

-- a target's path: what stands before its first `?`, where the whole target is text (UTF-8)
abbrev pub path_of : List ℕ → Option (List ℕ)
path_of target = if is_utf8 target then Some (before_query target) else None
