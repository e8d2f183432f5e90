-- SPDX-License-Identifier: MIT
use Rattle.track_record.proofs.Steps.{key_id-read}
use mathlib.Core.Path.{◌∙◌}
use Rattle.track_record.proofs.row.key_id_of.Goals as goal

pub returns : goal.returns
returns c = c.read_be64.ensures ∙ key_id-read c.args.row.now c.requires.1
