use Rattle.std.proofs.Common.{arith}
use Rattle.td_base.proofs.MadeReferences.{made_apart, lettered_apart, made_either, no_grn_lettered}
use Rattle.td_base.proofs.references.made_references_differ.Goals as goal

pub returns-clause-grn : goal.returns-clause-grn
returns-clause-grn c = λ year year' country country' holder holder' serial serial' form form' number number' small small' e.
    made_apart 6 year year' country country' holder holder' serial serial' form form' number number' (omega arith) (omega arith) e

pub returns-clause-mrn : goal.returns-clause-mrn
returns-clause-mrn c = λ year year' country country' holder holder' serial serial' form form' number number' small small' e.
    lettered_apart year year' country country' holder holder' serial serial' form form' number number' (omega arith) (omega arith) e

pub returns-clause-older : goal.returns-clause-older
returns-clause-older c = λ year year' country country' holder holder' serial serial' form form' number number' small small' e.
    made_apart 7 year year' country country' holder holder' serial serial' form form' number number' (omega arith) (omega arith) e

pub returns-clause-forms : goal.returns-clause-forms
returns-clause-forms c = made_either

pub returns-clause-letter : goal.returns-clause-letter
returns-clause-letter c = no_grn_lettered
