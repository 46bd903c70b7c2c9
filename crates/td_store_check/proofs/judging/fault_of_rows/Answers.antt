use Rattle.std.proofs.Common.{arith, subst, sym}
use Rattle.sqlite.specs.Effect.{Database}
use Rattle.sqlite.specs.Held.{state}
use Rattle.sqlite.specs.State.{HasCleanDisk, State}
use Rattle.std.specs.Prelude.{IfSome, Option}
use Rattle.td_store_audit_rows.proofs.Raw.{rules_mean_content}
use Rattle.td_store_check.specs.declared.fault.OpenFault.{OpenFault}
use Rattle.td_store_check.specs.Opened.{IsDamage, TellsRows, TellsRules}
use Rattle.td_store_check.proofs.Judged.{damage_is, rows_told}
use Rattle.td_store_check.proofs.judging.fault_of_rows.Goals as goal

pub readable_tables-requires-clause-tables : goal.readable_tables-requires-clause-tables
readable_tables-requires-clause-tables g c clean = (c.args.layout, sym c.version_in.ensures, c.requires.tables clean)

pub returns-clause-told : goal.returns-clause-told
returns-clause-told g c clean =
    let a : State = state g.S.Store c.args.conn.now in
    let b : State = state g.S.Store c.readable_tables.new.conn in
    let layout = c.args.layout in
    let clean_b : HasCleanDisk b = omega (arith, clean, c.broken_rule.ensures.looks.crash.clean) in
    let clean_a : HasCleanDisk a = omega (arith, clean_b, c.readable_tables.ensures.survives.clean) in
    let at = c.requires.tables clean_a in
    let ids = c.in_ok-readable.ensures.ids clean_b layout (sym c.version_in.ensures) at in
    let told : TellsRules layout c.in_ok-readable.readable a.now.trees c.in_ok-broken.broken =
    subst (λ (d : Database). TellsRules layout c.in_ok-readable.readable d.trees c.in_ok-broken.broken) (c.in_ok-readable.ensures.still clean_b).0.now_is (c.in_ok-broken.ensures.told clean) in
    let both = told ids (c.in_ok-readable.ensures.told clean_b layout (sym c.version_in.ensures) at) in
    subst (TellsRows layout a.now.trees) (sym c.damage.ensures) (rows_told layout a.now.trees rules_mean_content both.0 c.in_ok-broken.broken both.1)

pub returns-clause-kinds : goal.returns-clause-kinds
returns-clause-kinds g c = subst (λ (told : Option OpenFault). IfSome told IsDamage) (sym c.damage.ensures) (damage_is c.in_ok-broken.broken)
