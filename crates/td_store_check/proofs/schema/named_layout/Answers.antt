use Rattle.std.proofs.Common.{◌∙◌, ap, false, refl, true}
use Rattle.std.specs.Prelude.{is_some}
use Rattle.td_store_check.proofs.Named.{by_names}
use Rattle.td_store_check.proofs.schema.named_layout.Goals as goal

pub returns-in-true-true-default-true : goal.returns-in-true-true-default-true
returns-in-true-true-default-true c =
    by_names c.args.schema.now true true _ true
    (c.in-true-true-default-true.ensures ∙ ap is_some c.table_named.ensures) (c.in-true-true-default-true.ensures' ∙ ap is_some c.table_named-2.ensures)
    refl (c.in-true-true-default-true.ensures'' ∙ ap is_some c.table_named-4.ensures)

pub returns-in-true-true-default-false : goal.returns-in-true-true-default-false
returns-in-true-true-default-false c =
    by_names c.args.schema.now true true _ false
    (c.in-true-true-default-false.ensures ∙ ap is_some c.table_named.ensures) (c.in-true-true-default-false.ensures' ∙ ap is_some c.table_named-2.ensures)
    refl (c.in-true-true-default-false.ensures'' ∙ ap is_some c.table_named-4.ensures)

pub returns-in-true-false-default-default : goal.returns-in-true-false-default-default
returns-in-true-false-default-default c =
    by_names c.args.schema.now true false _ _
    (c.in-true-false-default-default.ensures ∙ ap is_some c.table_named.ensures) (c.in-true-false-default-default.ensures' ∙ ap is_some c.table_named-2.ensures)
    refl refl

pub returns-in-false-default-true-true : goal.returns-in-false-default-true-true
returns-in-false-default-true-true c =
    by_names c.args.schema.now false _ true true
    (c.in-false-default-true-true.ensures ∙ ap is_some c.table_named.ensures) refl
    (c.in-false-default-true-true.ensures' ∙ ap is_some c.table_named-3.ensures) (c.in-false-default-true-true.ensures'' ∙ ap is_some c.table_named-4.ensures)

pub returns-in-false-default-true-false : goal.returns-in-false-default-true-false
returns-in-false-default-true-false c =
    by_names c.args.schema.now false _ true false
    (c.in-false-default-true-false.ensures ∙ ap is_some c.table_named.ensures) refl
    (c.in-false-default-true-false.ensures' ∙ ap is_some c.table_named-3.ensures) (c.in-false-default-true-false.ensures'' ∙ ap is_some c.table_named-4.ensures)

pub returns-in-false-default-false-default : goal.returns-in-false-default-false-default
returns-in-false-default-false-default c =
    by_names c.args.schema.now false _ false _
    (c.in-false-default-false-default.ensures ∙ ap is_some c.table_named.ensures) refl
    (c.in-false-default-false-default.ensures' ∙ ap is_some c.table_named-3.ensures) refl
