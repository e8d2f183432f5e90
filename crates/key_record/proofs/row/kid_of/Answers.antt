-- SPDX-License-Identifier: MIT
use Rattle.key_record.proofs.Fields.{kid-told}
use Rattle.key_record.proofs.row.kid_of.Goals as goal

pub returns : goal.returns
returns c =
    kid-told c.args.row.now _ c.requires.1 c.read_be64.ensures
