-- SPDX-License-Identifier: MIT
use Rattle.header.proofs.Steps.{wrote_at}
use Rattle.header.proofs.write_header_at.Goals as goal

pub returns : goal.returns
returns c =
    let a = c.args in
    let e = c.write_header.ensures in
    let answered = wrote_at a.kid.0 a.ctr.0 a.offset _ a.out.now c.min-from.ensures _ _ e.value e.out_after in record { value = answered.0; out_after = answered.1 }
