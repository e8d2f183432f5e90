-- SPDX-License-Identifier: MIT
use Rattle.octets.proofs.Laws.{lent-bytes}
use Rattle.octets.proofs.write_be_at.Goals as goal

pub returns : goal.returns
returns c =
    let a = c.args in
    lent-bytes a.out.now _ a.i a.n a.x c.requires c.write_be.ensures
