-- SPDX-License-Identifier: MIT
-- `piece_stream::apply_from` meets its contract.
-- Assumes nothing.
use mathlib.Core.Path.{◌∙◌}
use Rattle.gcm.proofs.Streams.{from_zero}
use Rattle.piece_stream.proofs.apply_from.Goals as goal

pub returns : goal.returns
returns c = c.apply_from.ensures ∙ from_zero _ _ c.args.count c.args.at c.args.input.now
