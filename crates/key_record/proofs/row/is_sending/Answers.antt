-- SPDX-License-Identifier: MIT
use Rattle.key_record.proofs.Fields.{sends-told}
use Rattle.key_record.proofs.row.is_sending.Goals as goal

pub returns : goal.returns
returns c = sends-told c.args.row.now
