-- SPDX-License-Identifier: MIT
use Rattle.std.proofs.Common.{arith, take, length-take-le}
use Rattle.std.proofs.lemmas.Bool.Decides.{nat_tests}
use Rattle.pair_log.proofs.Gathering.{insert_old, insert_new}
use Rattle.pair_log.proofs.insert.Goals as goal

-- Two pairs are equal whichever number is compared first, so grind takes either order here; where a new pair goes, in
-- the next answer, depends on it.
pub returns-in_default : goal.returns-in_default
returns-in_default c =
    let a = c.args in
    let e = c.in_default.ensures in
    (insert_old (take a.n a.found.now) a.pair c.in_default.field-0 c.requires.rising e.bound (λ d. grind (arith, nat_tests, e.ok d)), omega arith)

pub returns : goal.returns
returns c =
    let a = c.args in
    let e = c.in-Err.ensures in
    let h = length-take-le a.n a.found.now (omega arith) in
    (insert_new a.found.now a.n a.pair c.in-Err.at c.requires.len (omega (arith, e.bound, h)) _ c.rotate_right.ensures.after c.requires.rising e.position, omega arith)
