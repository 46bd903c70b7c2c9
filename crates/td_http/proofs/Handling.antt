-- What a request does, by how it was read.
use Rattle.std.proofs.Common.{◌≡◌, ℤ, Bool, not, Result, Ok, Err, refl, sym, ◌∙◌, ap, subst, inl, inr}
use Rattle.std.proofs.lemmas.Bool.{false≢true}
use Rattle.td_commands.specs.declared.command.Command.{Command}
use Rattle.td_commands.specs.declared.command.Stamped.{Stamped}
use Rattle.td_desk.specs.declared.fault.Fault.TheVariants as fault
use Rattle.td_desk.specs.declared.running.Outcome.TheVariants as outcome
use Rattle.td_model.specs.Content.{Content}
use Rattle.td_desk.specs.Runs.{LeavesAfter}
use Rattle.td_desk.specs.View.{DeskView}
use Rattle.td_desk.proofs.Leaving.{adds_more, adds_none}
use Rattle.td_fields.specs.declared.fault.WebFault.{WebFault}
use Rattle.td_fields.specs.declared.fault.WebFault.TheVariants as why
use Rattle.http_wire.specs.declared.reply.Reply.{Reply}
use Rattle.http_wire.specs.declared.reply.Reply.TheVariants.{NoMemory, Store}
use Rattle.td_fields.specs.Faults.{OrNoMemory}
use Rattle.http_wire.specs.ReplyText.{is_made}
use Rattle.td_http.specs.Serving.{IsFaultReply, HandledAs}

-- what was read is what is asked
pub read_is : (command : Command) (wanted : Result Command WebFault) → OrNoMemory (Ok command) wanted → Ok command ≡ wanted
read_is command wanted (inl bad) = cc
read_is command wanted (inr same) = same

-- the fixed reply for want of memory is one to any request
no_memory_handled : (was_live is_live : Type 0) (content : Content) (at : ℤ) (asked : Result Command WebFault) (close : Bool) → HandledAs was_live is_live content at asked close NoMemory content
no_memory_handled was_live is_live content at (Ok command) close = (outcome.Failed fault.NoMemory, (λ live. refl), refl)
no_memory_handled was_live is_live content at (Err e) close = ((λ live. refl), inl refl)

-- the reply to a request that could not be read
pub unread_handled : (was_live is_live : Type 0) (content : Content) (at : ℤ) (asked : Result Command WebFault) (close : Bool) (e : WebFault) (reply : Reply)
    → OrNoMemory (Err e) asked → (e ≡ why.NoMemory → reply ≡ NoMemory) → IsFaultReply e close reply → HandledAs was_live is_live content at asked close reply content
unread_handled was_live is_live content at asked close e reply (inl none) memory told =
    let same : reply ≡ NoMemory = memory (cc) in
    subst (λ (r : Reply). HandledAs was_live is_live content at asked close r content) (sym same) (no_memory_handled was_live is_live content at asked close)
unread_handled was_live is_live content at asked close e reply (inr same) memory told =
    subst (λ (a : Result Command WebFault). HandledAs was_live is_live content at a close reply content) same ((λ live. refl), told)

-- it is never that of a store
pub unread_stores_nothing : (e : WebFault) (close : Bool) (reply : Reply) → IsFaultReply e close reply → reply ≡ Store → ⊥
unread_stores_nothing e close reply (inl none) store = cc
unread_stores_nothing e close reply (inr made) store = false≢true (ap is_made (sym store) ∙ made.0)

-- nor does it change what a crash leaves
pub unread_left : {D : Type 0} (view : DeskView D) (d : D) (s : Stamped) (asked : Result Command WebFault) (e : WebFault) (reply : Reply) (command : Command)
    → OrNoMemory (Err e) asked → (e ≡ why.NoMemory → reply ≡ NoMemory) → asked ≡ Ok command → LeavesAfter view d s (not (is_made reply)) d
unread_left view d s asked e reply command (inl none) memory is =
    let same : reply ≡ NoMemory = memory (cc) in
    subst (λ (r : Reply). LeavesAfter view d s (not (is_made r)) d) (sym same) (adds_more view _ d d (adds_none view d))
unread_left view d s asked e reply command (inr same) memory is = cc

-- and where it asks a command that there was no memory to read, that is told
pub unread_unasked : (asked : Result Command WebFault) (e : WebFault) (reply : Reply) (command : Command)
    → OrNoMemory (Err e) asked → (e ≡ why.NoMemory → reply ≡ NoMemory) → asked ≡ Ok command → reply ≡ NoMemory
unread_unasked asked e reply command (inl none) memory is = memory (cc)
unread_unasked asked e reply command (inr same) memory is = cc
