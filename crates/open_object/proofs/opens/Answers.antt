-- SPDX-License-Identifier: MIT
use Rattle.open_object.proofs.OpenSteps.{receives-else}
use Rattle.open_object.proofs.opens.Goals as goal

pub returns-in_default : goal.returns-in_default
returns-in_default c = receives-else c.args.kind c.in_default.not-Receiver
