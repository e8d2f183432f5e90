-- SPDX-License-Identifier: MIT
use Rattle.answers.proofs.Basics.{told-false, told-true}
use Rattle.key_record.proofs.Zeros.{ends-whole, ends_last, ends-most, ends-half}
use mathlib.Core.Bool.{not}
use mathlib.Core.Path.{ap}
use Rattle.key_record.proofs.judging.key_ends.Goals as goal

pub returns-then-number-lt-NUMBER : goal.returns-then-number-lt-NUMBER
returns-then-number-lt-NUMBER c = ends-whole _ c.requires.1 c.args.row.now c.requires.0 c.if-number-lt-NUMBER.true

pub returns-then-not-zero_block : goal.returns-then-not-zero_block
returns-then-not-zero_block c =
    ends_last _ c.requires.1 c.args.row.now c.requires.0 c.if-number-lt-NUMBER.false (told-false _ _ c.zero_block.ensures (ap not c.if-not-zero_block.true))

pub returns-then-number-ne-NUMBER : goal.returns-then-number-ne-NUMBER
returns-then-number-ne-NUMBER c =
    ends-most _ c.requires.1 c.args.row.now c.requires.0 c.if-number-lt-NUMBER.false c.if-number-ne-NUMBER.true (told-true _ _ c.zero_block.ensures (ap not c.if-not-zero_block.false))

pub returns : goal.returns
returns c =
    ends-half _ c.requires.1 c.args.row.now c.requires.0 c.if-number-ne-NUMBER.false (told-true _ _ c.zero_block.ensures (ap not c.if-not-zero_block.false)) _ c.zero_block-2.ensures
