-- SPDX-License-Identifier: MIT
use Rattle.std.proofs.Common.{◌∙◌}
use Rattle.moq_c.proofs.moq_open.Goals as goal

pub returns : goal.returns
returns c =
    let e = c.open-answer.ensures in
    let h = c.hand_over.ensures in
    record { value = h.value ∙ e.number_value.0; length_after = h.length_after ∙ e.number_value.1; out_after = e.room_after }
