-- SPDX-License-Identifier: MIT
use Rattle.pair_log.proofs.Writing.{number-written}
use Rattle.pair_log.proofs.write_number.Goals as goal

pub returns : goal.returns
returns c =
    let a = c.args in
    number-written a.out.now _ a.at a.base a.n a.x a.end c.requires.2 c.write_digits.ensures
