-- The command of a request, or the first fault of reading it.
use Rattle.std.specs.Prelude.{ℕ, List, ok_or, Result, Ok}
use Rattle.td_commands.specs.declared.command.Command.{Command}
use Rattle.td_commands.specs.declared.command.Command.TheVariants as command
use Rattle.td_fields.specs.Bodies.{object_of, registration_of, opening_of, amendment_of, declaration_of, addition_of, removal_of, release_of, arrival_of, control_of, write_off_of}
use Rattle.td_fields.specs.Faults.{◌>>=◌}
use Rattle.td_fields.specs.declared.fault.WebFault.{WebFault}
use Rattle.td_fields.specs.declared.fault.WebFault.TheVariants.{NoRoute}
use Rattle.td_routes.specs.Routes.{route_of, path_of}
use Rattle.td_routes.specs.declared.table.Route.{Route}
use Rattle.td_routes.specs.declared.table.Route.TheVariants as route

-- the command of a route and a body: one without fields doesn't look at the body
abbrev pub command_at : List ℕ → Route → Result Command WebFault
command_at body (route.Register holder) = object_of body >>= registration_of holder
command_at body (route.OpenGuarantee holder) = object_of body >>= opening_of holder
command_at body (route.Amend grn) = object_of body >>= amendment_of grn
command_at body (route.Revoke grn) = Ok (command.Revoke grn)
command_at body (route.Ie015 holder) = object_of body >>= declaration_of holder
command_at body (route.Ie014 holder mrn) = Ok (command.Ie014 holder mrn)
command_at body (route.AddCode holder grn) = object_of body >>= addition_of holder grn
command_at body (route.RemoveCode holder grn) = object_of body >>= removal_of holder grn
command_at body (route.Ie029 mrn) = object_of body >>= release_of mrn
command_at body (route.Ie007 mrn) = object_of body >>= arrival_of mrn
command_at body (route.Ie018 mrn) = object_of body >>= control_of mrn
command_at body (route.Ie045 mrn) = object_of body >>= write_off_of mrn
command_at body (route.Ie140 mrn) = Ok (command.Ie140 mrn)
command_at body (route.SeeHolder holder) = Ok (command.SeeHolder holder)
command_at body (route.SeeMovement holder mrn) = Ok (command.SeeMovement holder mrn)
command_at body (route.SeeMovements holder) = Ok (command.SeeMovements holder)
command_at body (route.SeeGuarantee holder grn) = Ok (command.SeeGuarantee holder grn)
command_at body (route.SeeGuarantees holder) = Ok (command.SeeGuarantees holder)

-- the command of a request, or the first fault: a target that isn't text has no route
abbrev pub command_of : List ℕ → List ℕ → List ℕ → Result Command WebFault
command_of method target body = ok_or (path_of target) NoRoute >>= route_of method >>= command_at body
