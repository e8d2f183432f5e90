-- SPDX-License-Identifier: MIT
use Rattle.key_record.proofs.Fields.{receives-told}
use Rattle.key_record.proofs.row.is_receiving.Goals as goal

pub returns : goal.returns
returns c = receives-told c.args.row.now
