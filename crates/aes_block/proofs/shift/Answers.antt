-- SPDX-License-Identifier: MIT
-- `aes::shift` meets its contract.
-- Assumes nothing.
use Rattle.aes_tables.specs.Field.{s_box}
use Rattle.aes.specs.Aes.{byte}
use Rattle.aes_block.specs.declared.State.{State}
use Rattle.aes.proofs.Columns.{shifted, shift-columns, placed}
use Rattle.aes_block.proofs.shift.Goals as goal

pub returns : goal.returns
unfolding shifted
returns c =
    let s : State = c.args.s in
    cc (
      shift-columns s.c0 s.c1 s.c2 s.c3,
      placed (s_box (byte 0 s.c0)) (s_box (byte 1 s.c1)) (s_box (byte 2 s.c2)) (s_box (byte 3 s.c3)),
      placed (s_box (byte 0 s.c1)) (s_box (byte 1 s.c2)) (s_box (byte 2 s.c3)) (s_box (byte 3 s.c0)),
      placed (s_box (byte 0 s.c2)) (s_box (byte 1 s.c3)) (s_box (byte 2 s.c0)) (s_box (byte 3 s.c1)),
      placed (s_box (byte 0 s.c3)) (s_box (byte 1 s.c0)) (s_box (byte 2 s.c1)) (s_box (byte 3 s.c2)),
    )
