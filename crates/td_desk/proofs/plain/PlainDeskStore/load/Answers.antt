use Rattle.std.proofs.Common.{◌≡◌, ℕ, Option, Some, None, sym, ◌∙◌, ap, subst}
use Rattle.std.specs.Prelude.{option_map}
use Rattle.td_model.specs.Account.{Account, account_with, holder_key}
use Rattle.td_acts.specs.Deciding.{IsLoaded}
use Rattle.td_commands.specs.Commands.{need_said}
use Rattle.td_desk.specs.Plain.{plain_content}
use Rattle.keyed_rows.specs.Rows.{row_at}
use Rattle.td_acts.specs.Weighing.{kept_for}
use Rattle.td_model.proofs.Kept.{found_covered}
use Rattle.td_desk.proofs.plain.PlainDeskStore.load.Goals as goal

-- nobody owns the command
pub returns-in_default-clause-loaded : goal.returns-in_default-clause-loaded
returns-in_default-clause-loaded c = λ kept live sound.
    let rows = plain_content c.args.self.now in
    subst (λ (o : Option ℕ). IsLoaded (kept_for o rows) (need_said c.args.needs.now) c.nothing.result) (sym c.in_default.is) (c.nothing.ensures (need_said c.args.needs.now))

-- the owner's rows are there
pub returns-in_ok-load-in-Some-find_row-clause-loaded : goal.returns-in_ok-load-in-Some-find_row-clause-loaded
returns-in_ok-load-in-Some-find_row-clause-loaded c = λ kept live sound.
    let rows = plain_content c.args.self.now in
    let found = sym (ap (row_at holder_key c.in-Some.holder) c.deref.ensures.value) ∙ ap (λ k. row_at holder_key k c.deref.result.now) (sym c.number.ensures.value) ∙ sym c.find_row.ensures ∙ ap (option_map (λ file. file.now)) c.in-Some-find_row.is in
    let same : kept_for c.args.owner rows ≡ account_with rows.country (Some c.in-Some-find_row.file.now) = ap (λ o. kept_for o rows) c.in-Some.is ∙ ap (account_with rows.country) found in
    subst (λ (a : Account). IsLoaded a (need_said c.args.needs.now) c.in_ok-load-in-Some-find_row.field-0) (sym same) (c.in_ok-load-in-Some-find_row.ensures (found_covered rows c.in-Some.holder c.in-Some-find_row.file.now sound found))

-- the owner has no rows
pub returns-in-None-clause-loaded : goal.returns-in-None-clause-loaded
returns-in-None-clause-loaded c = λ kept live sound.
    let rows = plain_content c.args.self.now in
    let found = sym (ap (row_at holder_key c.in-Some.holder) c.deref.ensures.value) ∙ ap (λ k. row_at holder_key k c.deref.result.now) (sym c.number.ensures.value) ∙ sym c.find_row.ensures ∙ ap (option_map (λ file. file.now)) c.in-None.is in
    let same : kept_for c.args.owner rows ≡ account_with rows.country None = ap (λ o. kept_for o rows) c.in-Some.is ∙ ap (account_with rows.country) found in
    subst (λ (a : Account). IsLoaded a (need_said c.args.needs.now) c.nothing-in-None.result) (sym same) (c.nothing-in-None.ensures (need_said c.args.needs.now))
