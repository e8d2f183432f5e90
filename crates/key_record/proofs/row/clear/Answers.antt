-- SPDX-License-Identifier: MIT
use Rattle.key_record.proofs.Fields.{cleared}
use Rattle.key_record.proofs.row.clear.Goals as goal

pub returns : goal.returns
returns c =
    cleared c.args.row.now _ c.requires c.clear.ensures
