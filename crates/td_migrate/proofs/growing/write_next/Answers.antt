use Rattle.std.proofs.Common.{◌≡◌, arith, subst, sym}
use Rattle.sqlite.specs.Held.{state}
use Rattle.sqlite.specs.State.{State}
use Rattle.td_table_model.specs.Tables.{first_version, version_with_amounts}
use Rattle.typed_sql.proofs.Leaving.{on_ok}
use Rattle.td_table_model.proofs.KeptAmounts.{tables_grow}
use Rattle.td_migrate.specs.Grown.{GrowsFrom}
use Rattle.td_migrate.proofs.Contents.{second_grows}
use Rattle.td_migrate.proofs.ContentsOfThird.{third_grows}
use Rattle.td_migrate.proofs.growing.write_next.Goals as goal

pub returns-then-version-lt-VERSION_WITH_AMOUNTS-clause-written : goal.returns-then-version-lt-VERSION_WITH_AMOUNTS-clause-written
returns-then-version-lt-VERSION_WITH_AMOUNTS-clause-written g c clean =
    let a : State = state g.S.Store c.args.tx.now.conn.now in
    let b : State = state g.S.Store c.write_2.new.tx.conn.now in
    let first : c.args.version ≡ first_version = omega (arith, c.requires.earlier.0, c.if-version-lt-VERSION_WITH_AMOUNTS.true) in
    on_ok c.write_2.result
    (λ becomes. subst (λ version. GrowsFrom version a.now b.now) (sym first) (second_grows tables_grow a b becomes))
    (c.write_2.ensures.written clean)

pub returns-clause-written : goal.returns-clause-written
returns-clause-written g c clean =
    let a : State = state g.S.Store c.args.tx.now.conn.now in
    let b : State = state g.S.Store c.write_3.new.tx.conn.now in
    let second : c.args.version ≡ version_with_amounts = omega (arith, c.requires.earlier.1, c.if-version-lt-VERSION_WITH_AMOUNTS.false) in
    on_ok c.write_3.result
    (λ becomes. subst (λ version. GrowsFrom version a.now b.now) (sym second) (third_grows a b becomes))
    (c.write_3.ensures.written clean)
