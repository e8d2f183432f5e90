-- SPDX-License-Identifier: MIT
use Rattle.add_track.specs.Add.{barred}
use mathlib.Core.Path.{sym, ap}
use Rattle.add_track.proofs.is_barred.Goals as goal

pub returns-in-Sending : goal.returns-in-Sending
unfolding barred
returns-in-Sending c = sym (ap (λ r. barred r c.args.suite) c.in-Sending.is)

pub returns-in-Receiving : goal.returns-in-Receiving
unfolding barred
returns-in-Receiving c = sym (ap (λ r. barred r c.args.suite) c.in-Receiving.is)
