use Rattle.std.proofs.Common.{◌≡◌, ◌+◌, ◌++◌, arith, refl, ◌∙◌, rules}
use Rattle.td_base.specs.References.{check_of}
use Rattle.td_base.proofs.Written.{front_is, front_size, behind_put, found_digit, last_written}
use Rattle.td_base.proofs.references.write_reference.Goals as goal

pub unwrap-check-requires : goal.unwrap-check-requires
unwrap-check-requires c =
    let a = c.args in
    let front = c.write_front.new.text in
    let is = front_is a.text.now front a.behind.now a.year2 a.country a.holder a.serial c.requires.0 c.write_front.ensures.text in
    let size = front_size a.text.now front a.behind.now a.year2 a.country a.holder a.serial c.requires.0 c.write_front.ensures.country is in
    let put = behind_put a.text.now front a.behind.now c.copy_from_slice.new.self c.requires.0 size c.copy_from_slice.ensures.after in
    let digit = rw put at c.check_digit.ensures in
    let found = found_digit a.text.now front a.behind.now c.check_digit.result a.year2 a.country a.holder a.serial c.requires.0 c.requires.1 c.requires.2 c.write_front.ensures.country is digit in
    rw found (search rules)

pub returns-clause-text : goal.returns-clause-text
returns-clause-text c =
    let a = c.args in
    let front = c.write_front.new.text in
    let is = front_is a.text.now front a.behind.now a.year2 a.country a.holder a.serial c.requires.0 c.write_front.ensures.text in
    let size = front_size a.text.now front a.behind.now a.year2 a.country a.holder a.serial c.requires.0 c.write_front.ensures.country is in
    let put = behind_put a.text.now front a.behind.now c.copy_from_slice.new.self c.requires.0 size c.copy_from_slice.ensures.after in
    let digit_ensures = rw put at c.check_digit.ensures in
    let found = found_digit a.text.now front a.behind.now c.check_digit.result a.year2 a.country a.holder a.serial c.requires.0 c.requires.1 c.requires.2 c.write_front.ensures.country is digit_ensures in
    let digit : c.unwrap-check.result ≡ check_of (front ++ a.behind.now) = cc in
    rw put (last_written a.text.now (front ++ a.behind.now) (48 + c.unwrap-check.result) (omega arith) size ∙ rw (digit, is) refl)
