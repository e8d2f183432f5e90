-- SPDX-License-Identifier: MIT
use native.Mathlib.Omega.{arith}
use Rattle.key_record.specs.Layout.{decode}
use Rattle.key_record.proofs.KindLaws.{sends-held}
use Rattle.judge_seal.proofs.NextFrame.{length-told, length-fits}
use Rattle.judge_seal.proofs.next_length.Goals as goal

pub suite_of-requires : goal.suite_of-requires
suite_of-requires c =
    (c.requires.0, sends-held (decode c.args.row.now) c.requires.1)

pub overflow_add-result : goal.overflow_add-result
overflow_add-result c =
    omega (arith, length-fits _ _ _ c.suite_of.result c.requires.2 c.write_next-n.ensures.value.1 c.tag_size-nt.ensures)

pub overflow_add-result-2 : goal.overflow_add-result-2
overflow_add-result-2 c =
    omega (arith, length-fits _ _ _ c.suite_of.result c.requires.2 c.write_next-n.ensures.value.1 c.tag_size-nt.ensures)

pub returns : goal.returns
returns c = length-told _ _ _ _ _ _ c.suite_of.ensures c.tag_size-nt.ensures c.write_next-n.ensures.value.0
