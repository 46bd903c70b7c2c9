use Rattle.std.proofs.Common.{◌≡◌, ◌∙◌, None, Option, Some, ap, subst, sym}
use Rattle.std.specs.Option.{option_map}
use Rattle.std.specs.Prelude.{option_to_list, filter_map, IfSome}
use Rattle.td_movement.specs.declared.movement.Movement.{Movement}
use Rattle.td_acts.specs.declared.rows.Loaded.{Loaded}
use Rattle.td_model.specs.Account.{Account, movement_by_mrn}
use Rattle.td_model.specs.Content.{account_in}
use Rattle.td_holder_memory.proofs.Loading.{release_looked_up}
use Rattle.td_store_load.specs.Needed.{terms_in}
use Rattle.td_store_load.proofs.needs.load_release.Goals as goal

pub returns-in_default-clause-loaded : goal.returns-in_default-clause-loaded
returns-in_default-clause-loaded g c clean content holds at row =
    let account : Account = account_in c.args.row.holder content in
    let none : None ≡ movement_by_mrn c.args.mrn.now account.movements =
    sym (ap (option_map (λ both. both.0)) c.in_default.is) ∙ c.in_ok-released.ensures.found clean content holds at in
    record {
      country = c.row_alone.ensures.country ∙ sym at;
      holder = c.row_alone.ensures.row ∙ sym row;
      things = release_looked_up account c.row_alone.result c.args.mrn.now (c.row_alone.ensures.movements ∙ ap option_to_list none)
          (subst (λ (o : Option Movement). IfSome o (λ m. c.row_alone.result.guarantees.items ≡ filter_map (λ l. terms_in account l.grn) m.lines)) none tt);
    }

pub returns-clause-loaded : goal.returns-clause-loaded
returns-clause-loaded g c clean content holds at row = record {
  country = sym at;
  holder = sym row;
  things = release_looked_up account loaded c.args.mrn.now (c.in_ok-movements.ensures.items ∙ ap option_to_list some)
      (subst (λ (o : Option Movement). IfSome o (λ m. c.in-Some.released.1.items ≡ filter_map (λ l. terms_in account l.grn) m.lines)) some
      ((rw c.in-Some.is at (c.in_ok-released.ensures.terms clean)) content holds));
}
  where
    account : Account
    account = account_in c.args.row.holder content

    loaded : Loaded
    loaded = record { country = c.args.country; holder = Some c.args.row; movements = c.in_ok-movements.movements; listed = c.new.result; guarantees = c.in-Some.released.1 }

    some : Some c.in-Some.released.0 ≡ movement_by_mrn c.args.mrn.now account.movements
    some = sym (ap (option_map (λ both. both.0)) c.in-Some.is) ∙ c.in_ok-released.ensures.found clean content holds at
