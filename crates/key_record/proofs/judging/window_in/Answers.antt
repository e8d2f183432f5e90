-- SPDX-License-Identifier: MIT
use Rattle.key_record.proofs.Judge.{window-told}
use Rattle.key_record.proofs.judging.window_in.Goals as goal

pub returns : goal.returns
returns c =
    window-told c.args.row.now _ _ c.read_be64-highest.ensures c.read_be64-mask.ensures
