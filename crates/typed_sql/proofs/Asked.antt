-- The empty statement does nothing.
use Rattle.std.proofs.Common.{◌≡◌, ℕ, [], Ok, refl}
use Rattle.sqlite_tied.specs.Compute.{everything}
use Rattle.sqlite_schema.specs.declared.command.Command.TheVariants.{Nothing}
use Rattle.sqlite_schema.specs.declared.schema.Schema.{Schema}
use Rattle.sqlite.proofs.Callers.{command_of, runs_as}
use Rattle.sqlite.specs.Given.{IsPlain}
use Rattle.sqlite.specs.Listing.{understood}
use Rattle.sqlite.specs.State.{Executes, IsUnchanged, State}

nothing_asked : (s : Schema) → command_of (understood s []) ≡ Nothing
unfolding understood everything
nothing_asked s = refl

plainly : (s : Schema) → IsPlain (understood s [])
unfolding understood everything
plainly s = (refl, refl)

-- whatever the tables are
pub asked : (old new : State) (count : ℕ) → Executes [] [] old new (Ok count) → IsUnchanged old new
asked old new count h =
    (runs_as [] [] old new old.now.schema refl Nothing (nothing_asked old.now.schema) (plainly old.now.schema) count h).0
