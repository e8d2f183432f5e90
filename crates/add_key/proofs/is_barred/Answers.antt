-- SPDX-License-Identifier: MIT
use Rattle.add_key.specs.Add.{barred}
use Rattle.add_key.proofs.is_barred.Goals as goal

pub returns-in-Sending : goal.returns-in-Sending
unfolding barred
returns-in-Sending c = rw c.in-Sending.is

pub returns-in-Receiving : goal.returns-in-Receiving
unfolding barred
returns-in-Receiving c = rw c.in-Receiving.is
