-- SPDX-License-Identifier: MIT
use Rattle.judge_seal.proofs.NextFrame.{header-has-room, header-written}
use Rattle.judge_seal.proofs.write_next.Goals as goal

pub returns-in_default : goal.returns-in_default
returns-in_default c =
    absurd (header-has-room c.args.head.now c.args.kid.0 _ _ c.requires.2 c.write_header.ensures.ctr_len_bound c.write_header.ensures.value c.in_default.is)

pub returns : goal.returns
returns c =
    let answered = header-written c.args.head.now c.args.kid.0 _ _ c.requires.2 c.write_header.ensures.ctr_len_bound c.write_header.ensures.value _ _ _ c.next_of-ctr.ensures c.in-Some.is c.write_header.ensures.out_after in record { value = answered.0; head_after = answered.1 }
