use Rattle.std.proofs.Common.{arith}
use Rattle.std.proofs.lemmas.Bool.{false≢true}
use Rattle.td_base.proofs.Owners.{no_owner, owner_read, owned_gives, length-identifier, other_country, same_country}
use Rattle.td_base.specs.References.{country_of}
use Rattle.td_base.proofs.references.owner_of.Goals as goal

pub returns-then-ne : goal.returns-then-ne
returns-then-ne c =
    let differ = rw c.as_bytes.ensures.value at c.if-ne.ensures in
    no_owner c.args.country c.args.text.now (λ e. other_country (country_of c.args.text.now) c.args.country differ (owned_gives c.args.country c.args.text.now e).0)

pub returns-then-not-is_digits : goal.returns-then-not-is_digits
returns-then-not-is_digits c =
    let differ = rw c.numbers_of.ensures at c.if-not-is_digits.ensures.digits.1 in
    no_owner c.args.country c.args.text.now (λ e. false≢true (differ (owned_gives c.args.country c.args.text.now e).1))

pub returns : goal.returns
returns c =
    let same = rw c.as_bytes.ensures.value at c.if-ne.ensures in
    let long = length-identifier c.args.text.now (omega arith) in
    let digits = rw c.numbers_of.ensures at (c.is_digits.ensures.digits.0 c.if-not-is_digits.false) in
    owner_read c.args.country c.args.text.now c.read.result (omega arith) (same_country (country_of c.args.text.now) c.args.country same) digits c.read.ensures.form
