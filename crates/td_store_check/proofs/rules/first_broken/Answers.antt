use Rattle.std.proofs.Common.{Some, arith, subst}
use Rattle.sqlite.specs.Held.{state}
use Rattle.sqlite.specs.State.{State, HasCleanDisk}
use Rattle.td_schema.specs.declared.layout.Layout.{Layout}
use Rattle.td_store_rows.specs.StoreReads.{IsOfVersion}
use Rattle.td_store_audit.specs.Broken.{HasOffice, TellsBroken, TellsCountry}
use Rattle.td_store_audit.proofs.Reading.{any_read, more_read, so_before, still_ok}
use Rattle.typed_sql.proofs.OnlyRead.{stays_on}
use Rattle.typed_sql.proofs.Leaving.{if_both, on_ok}
use Rattle.td_store_check.proofs.rules.first_broken.Goals as goal

pub returns-clause-told : goal.returns-clause-told
returns-clause-told g c clean =
    if_both c.first_after_office.result
    (λ broken told same layout own has kept readable.
    let said : TellsCountry layout a.now.trees (Some c.in-Some.country) =
    subst (TellsCountry layout a.now.trees) c.in-Some.is (c.in_ok-country.ensures.told clean_b layout has) in
    so_before At (HasOffice c.in-Some.country c.args.readable) (λ layout trees. TellsBroken layout trees broken) a b (any_read At clean_b c.in_ok-country.ensures.reads) told
    layout own has (record { kept = kept; country_is = said.1; keeps = said.0; told = readable }))
    (c.first_after_office.ensures.told clean) (c.first_after_office.ensures.told clean)
  where
    At : Layout → Type 0
    At = IsOfVersion c.args.version

    a : State
    a = state g.S.Store c.args.tx.now.conn.now

    b : State
    b = state g.S.Store c.office_country.new.tx.conn.now

    clean_b : HasCleanDisk b
    clean_b = omega (arith, clean, c.first_after_office.ensures.reads.within.survives.clean)

pub returns-clause-still : goal.returns-clause-still
returns-clause-still g c clean =
    on_ok c.first_after_office.result
    (λ read l own has. (more_read At a b d (any_read At clean_b c.in_ok-country.ensures.reads) read l own has).unchanged (c.in_ok-country.ensures.was_open clean_b l has))
    (still_ok c.first_after_office.result c.first_after_office.ensures.reads clean)
  where
    At : Layout → Type 0
    At = IsOfVersion c.args.version

    a : State
    a = state g.S.Store c.args.tx.now.conn.now

    b : State
    b = state g.S.Store c.office_country.new.tx.conn.now

    d : State
    d = state g.S.Store c.first_after_office.new.tx.conn.now

    clean_b : HasCleanDisk b
    clean_b = omega (arith, clean, c.first_after_office.ensures.reads.within.survives.clean)

pub returns-clause-within : goal.returns-clause-within
returns-clause-within g c = stays_on c.in_ok-country.ensures.reads.within c.first_after_office.ensures.reads.within
