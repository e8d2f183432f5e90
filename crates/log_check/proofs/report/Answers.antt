-- SPDX-License-Identifier: MIT
-- A report that is written fits the room, and one that is refused is empty.
use Rattle.std.proofs.Common.{sym, length-take-le}
use Rattle.pair_log.proofs.Reports.{reported-fits}
use Rattle.log_check.proofs.report.Goals as goal

pub returns-in-Ok : goal.returns-in-Ok
returns-in-Ok c =
    let h = reported-fits _ _ _ _ (sym c.report.auto.room) c.in-Ok.ensures.number_value.1 in
    (h, sym (length-take-le _ _ h))
