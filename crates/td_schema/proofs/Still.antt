-- Where no foreign key has an action, none carries a change of one table on to another.
use Rattle.std.proofs.Common.{◌≡◌, ℕ, Bool, List, [], ◌∷◌, length, true, false, refl, ap₂}
use Rattle.std.specs.Prelude.{◌==◌, ◌&&◌, ◌++◌, Option, Some, None}
use Rattle.std.specs.List.{flat_map, filter_map, cons_option, list_all}
use Rattle.sqlite_value.specs.Order.{Row}
use Rattle.sqlite_rules.specs.Action.{works, work_for, work_by, pairs, deed_for, deed_of}
use Rattle.sqlite_rules.specs.declared.action.Deed.{Deed}
use Rattle.sqlite_schema.specs.declared.schema.Action.{Action}
use Rattle.sqlite_schema.specs.declared.schema.Action.TheVariants.{NoAction, Restrict, Cascade, SetNull, SetDefault}
use Rattle.sqlite_schema.specs.declared.schema.Keys.TheVariants.{Enforced}
use Rattle.sqlite_schema.specs.declared.schema.Reference.{Reference}
use Rattle.sqlite_schema.specs.declared.schema.Schema.{Schema}
use Rattle.sqlite_schema.specs.declared.schema.Table.{Table}
use Rattle.sqlite_schema.specs.Rules.{ParentKey, parent_key}
use Rattle.td_schema.proofs.Wider.{is_none, is_still, are_still}

left : (a b : Bool) → (a && b) ≡ true → a ≡ true
left true b h = refl
left false b h = absurd (cc)

right : (a b : Bool) → (a && b) ≡ true → b ≡ true
right true b h = h
right false b h = absurd (cc)

no_deed : (b : Bool) (a : Action) → is_none a ≡ true → deed_of Enforced b a ≡ None
no_deed b NoAction h = refl
no_deed b Restrict h = absurd (cc)
no_deed b Cascade h = absurd (cc)
no_deed b SetNull h = absurd (cc)
no_deed b SetDefault h = absurd (cc)

either : (b : Bool) (ref : Reference) → is_still ref ≡ true → deed_for Enforced b ref ≡ None
either true ref h = no_deed true ref.on_delete (left (is_none ref.on_delete) (is_none ref.on_update) h)
either false ref h = no_deed false ref.on_update (right (is_none ref.on_delete) (is_none ref.on_update) h)

no_work : (tree : ℕ) (moves : List (Row × Row)) (child : Table) (ref : Reference) (d : Option Deed) (key : Option ParentKey) → d ≡ None → work_by 0 tree moves child ref d key ≡ None
no_work tree moves child ref None key h = refl
no_work tree moves child ref (Some d) key h = absurd (cc)

pub none_act : (s : Schema) → are_still s.tables ≡ true → (tree : ℕ) (olds news : List Row) → works s Enforced 0 tree olds news ≡ []
none_act s still tree olds news = each s.tables still
  where
    none : (child : Table) (refs : List Reference) → list_all is_still refs ≡ true → filter_map (work_for s Enforced 0 tree olds news child) refs ≡ []
    none child [] h = refl
    none child (ref ∷ refs) h =
        ap₂ cons_option (no_work tree (pairs olds news) child ref (deed_for Enforced (length news == 0) ref) (parent_key s.tables ref) (either (length news == 0) ref (left (is_still ref) (list_all is_still refs) h)))
        (none child refs (right (is_still ref) (list_all is_still refs) h))

    each : (tables : List Table) → are_still tables ≡ true → flat_map (λ child. filter_map (work_for s Enforced 0 tree olds news child) child.references) tables ≡ []
    each [] h = refl
    each (t ∷ tables) h =
        ap₂ ◌++◌ (none t t.references (left (list_all is_still t.references) (are_still tables) h)) (each tables (right (list_all is_still t.references) (are_still tables) h))
