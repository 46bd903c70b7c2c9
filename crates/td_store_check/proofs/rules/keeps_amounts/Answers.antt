use Rattle.std.proofs.Common.{arith, refl}
use Rattle.td_store_rows.specs.StoreReads.{KeepsUse}
use Rattle.typed_sql.proofs.Leaving.{if_both}
use Rattle.td_store_audit.proofs.Reading.{kept_read}
use Rattle.td_store_check.proofs.rules.keeps_amounts.Goals as goal

pub returns-then-version-lt-VERSION_WITH_AMOUNTS-clause-told : goal.returns-then-version-lt-VERSION_WITH_AMOUNTS-clause-told
returns-then-version-lt-VERSION_WITH_AMOUNTS-clause-told g c clean layout own has is =
    (λ t keep. absurd (omega (arith, c.if-version-lt-VERSION_WITH_AMOUNTS.true, own, keep)), λ all. refl)

pub returns-clause-told : goal.returns-clause-told
returns-clause-told g c clean =
    if_both c.is_holder_kept.result
    (λ keeps told same layout own has is.
    let keep : KeepsUse layout = omega (arith, c.if-version-lt-VERSION_WITH_AMOUNTS.false, own) in
    let tells = told layout keep has is in
    (λ t kept. tells.0 t, λ all. tells.1 (all keep)))
    (c.is_holder_kept.ensures.told clean) (c.is_holder_kept.ensures.told clean)

pub returns-clause-reads : goal.returns-clause-reads
returns-clause-reads g c = kept_read c.args.version (omega (arith, c.if-version-lt-VERSION_WITH_AMOUNTS.false)) c.is_holder_kept.ensures.reads
