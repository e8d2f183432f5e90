-- SPDX-License-Identifier: MIT
use Rattle.pair_log.proofs.Writing.{pair-written}
use Rattle.pair_log.proofs.write_pair.Goals as goal

pub returns : goal.returns
returns c =
    let a = c.args in
    pair-written a.out.now _ _ a.at a.pair.kid a.pair.ctr a.pair.fits c.requires c.write_number.ensures c.write_number-2.ensures
