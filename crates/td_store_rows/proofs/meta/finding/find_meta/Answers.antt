use Rattle.std.proofs.Common.{◌≡◌, Ok, Err, Result, Option, map}
use Rattle.std.specs.Prelude.{IfOk}
use Rattle.std.specs.Option.{option_to_list}
use Rattle.sqlite.specs.Held.{state}
use Rattle.sqlite.specs.State.{State}
use Rattle.sqlite.specs.declared.error.Error.{Error}
use Rattle.typed_sql.proofs.Leaving.{any_ok, stays}
use Rattle.typed_sql.proofs.OnlyRead.{one_read, stays_well}
use Rattle.td_store_rows.specs.declared.meta.stored.StoredMeta.{StoredMeta}
use Rattle.td_store_rows.specs.declared.meta.texts.TheConstants.{FIND}
use Rattle.td_store_rows.specs.Columns.{meta_from}
use Rattle.td_store_rows.specs.MetaTable.{IsTheMeta, stored_of}
use Rattle.td_store_rows.proofs.MetaMeanings.{find_means}
use Rattle.td_store_rows.proofs.MetaStatements.{found_meta}
use Rattle.td_store_rows.proofs.meta.finding.find_meta.Goals as goal

pub returns-clause-found : goal.returns-clause-found
returns-clause-found g c clean =
    by_result c.only_meta.result c.only_meta.ensures
  where
    old : State
    old = state g.S.Store c.args.tx.now.conn.now

    by_result : (r : Result (Option StoredMeta) Error)
        → IfOk r (λ one. option_to_list one ≡ map stored_of (map meta_from c.in_ok-rows.rows.items))
        → IfOk r (IsTheMeta old)
    by_result (Ok one) is = found_meta old one c.in_ok-rows.rows.items (c.in_ok-rows.ensures.selected clean) is
    by_result (Err e) is = is

pub returns-clause-still : goal.returns-clause-still
returns-clause-still g c clean =
    any_ok c.only_meta.result (λ s first. one_read _ _ (stays s FIND.now (find_means s first).plain _ _ (c.in_ok-rows.ensures.still clean)))

pub returns-clause-within : goal.returns-clause-within
returns-clause-within g c = stays_well c.in_ok-rows.ensures.within

pub returns-clause-was_open : goal.returns-clause-was_open
returns-clause-was_open g c clean =
    any_ok c.only_meta.result (λ s first has. (stays s FIND.now (find_means s first).plain _ _ (c.in_ok-rows.ensures.still clean) has).0.was_open)
