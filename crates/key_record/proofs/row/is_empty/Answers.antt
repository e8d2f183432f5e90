-- SPDX-License-Identifier: MIT
use Rattle.key_record.proofs.Fields.{empty-told}
use Rattle.key_record.proofs.row.is_empty.Goals as goal

pub returns : goal.returns
returns c = empty-told c.args.row.now _ c.is_held.ensures
