-- The code's verdict over what was loaded is the decision.
use Rattle.std.proofs.Common.{◌≡◌, ℤ, sym, ◌∙◌, ap, subst}
use Rattle.td_acts.specs.declared.rows.Loaded.{Loaded}
use Rattle.td_acts.specs.declared.rows.Verdict.{Verdict}
use Rattle.td_commands.specs.declared.command.Command.{Command}
use Rattle.td_model.specs.Account.{Account}
use Rattle.td_model.specs.Changes.{is_change}
use Rattle.td_acts.specs.Deciding.{IsLoaded, IsVerdict, decision_on}
use Rattle.td_commands.specs.Commands.{need_of}
use Rattle.td_acts.proofs.Written.{written_is_accepted}
use Rattle.td_model.specs.Content.{Content}
use Rattle.td_acts.specs.Weighing.{owner_account, kept_of, IsWeighed}
use Rattle.td_acts.proofs.Fresh.{owner_account_is_kept}

-- the model's verdict is the decision
decision_of : (rows : Content) (at : ℤ) (command : Command) (v : Verdict) → v ≡ decision_on (owner_account rows command) at command → IsWeighed rows at command v
decision_of rows at command v same = record {
  said = ap (λ (v : Verdict). v.said) same;
  changes = ap (λ (v : Verdict). is_change v.change) same ∙ written_is_accepted (owner_account rows command) at command;
  written = ap (λ (v : Verdict). v.change) same;
}

-- the verdict over what was loaded of the owner's rows is the decision
pub weighed_by : (rows : Content) (at : ℤ) (command : Command) (loaded : Loaded) (v d : Verdict) → IsLoaded (kept_of rows command) (need_of command) loaded → IsVerdict loaded at command v → d ≡ v → IsWeighed rows at command d
weighed_by rows at command loaded v d kept is same =
    let e = sym (owner_account_is_kept rows command) in
    decision_of rows at command d (same ∙ is (owner_account rows command) (subst (λ (a : Account). IsLoaded a (need_of command) loaded) e kept))
