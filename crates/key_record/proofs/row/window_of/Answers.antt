-- SPDX-License-Identifier: MIT
use Rattle.key_record.proofs.Fields.{window-read}
use Rattle.key_record.proofs.row.window_of.Goals as goal

pub returns : goal.returns
returns c = window-read c.args.row.now _ c.requires.1 c.window_in.ensures
