use Rattle.std.proofs.Common.{arith}
use Rattle.td_base.proofs.MadeReferences.{lettered_form, lettered_owner, lettered_serial_is}
use Rattle.td_base.proofs.mrn.made_mrn_reads_back.Goals as goal

pub returns-clause-form : goal.returns-clause-form
returns-clause-form c = lettered_form c.args.year2 c.args.country c.args.holder c.args.serial c.as_bytes-country.ensures.form

pub returns-clause-owner : goal.returns-clause-owner
returns-clause-owner c = lettered_owner c.args.year2 c.args.country c.args.holder c.args.serial c.as_bytes-country.ensures.form c.number-holder.ensures.range

pub returns-clause-serial : goal.returns-clause-serial
returns-clause-serial c = λ small. lettered_serial_is c.args.year2 c.args.country c.args.holder c.args.serial c.as_bytes-country.ensures.form c.number-holder.ensures.range (omega arith)
