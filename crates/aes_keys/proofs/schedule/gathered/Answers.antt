-- SPDX-License-Identifier: MIT
use Rattle.aes_keys.proofs.Words.{bytes-gathered}
use Rattle.aes_keys.proofs.schedule.gathered.Goals as goal

pub returns : goal.returns
returns c =
    bytes-gathered _ _ _ _ _ _ _ _ _ c.eighths.ensures.0 c.eighths-2.ensures.0
    c.eighths-3.ensures.0 c.eighths-4.ensures.0 c.eighths-5.ensures.0
    c.eighths-6.ensures.0 c.eighths-7.ensures.0 c.eighths-8.ensures.0
