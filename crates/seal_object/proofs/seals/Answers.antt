-- SPDX-License-Identifier: MIT
use Rattle.seal_object.proofs.SealSteps.{sends-else}
use Rattle.seal_object.proofs.seals.Goals as goal

pub returns-in_default : goal.returns-in_default
returns-in_default c = sends-else c.args.kind c.in_default.not-Sender
