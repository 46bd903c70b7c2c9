use Rattle.std.proofs.Common.{arith}
use Rattle.td_base.proofs.MadeReferences.{made_is_reference, made_owner, made_serial_is}
use Rattle.td_base.proofs.mrn.made_older_mrn_reads_back.Goals as goal

pub returns-clause-form : goal.returns-clause-form
returns-clause-form c = made_is_reference 7 c.args.year2 c.args.country c.args.holder c.args.serial c.as_bytes-country.ensures.form

pub returns-clause-owner : goal.returns-clause-owner
returns-clause-owner c = made_owner 7 c.args.year2 c.args.country c.args.holder c.args.serial c.as_bytes-country.ensures.form c.number-holder.ensures.range

pub returns-clause-serial : goal.returns-clause-serial
returns-clause-serial c = λ small. made_serial_is 7 c.args.year2 c.args.country c.args.holder c.args.serial c.as_bytes-country.ensures.form c.number-holder.ensures.range (omega arith)
