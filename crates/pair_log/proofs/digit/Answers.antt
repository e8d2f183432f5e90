-- SPDX-License-Identifier: MIT
use Rattle.pair_log.proofs.Writing.{digit_low, digit-high}
use Rattle.pair_log.proofs.digit.Goals as goal

pub returns-then-d-lt10 : goal.returns-then-d-lt10
returns-then-d-lt10 c = digit_low c.args.d c.if-d-lt10.true

pub returns : goal.returns
returns c = digit-high c.args.d c.if-d-lt10.false
