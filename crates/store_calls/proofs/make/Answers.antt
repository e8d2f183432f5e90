-- SPDX-License-Identifier: MIT
use Rattle.store_calls.proofs.Removal.{make-refused, make-done}
use mathlib.Core.Bool.{not}
use mathlib.Core.Path.{ap}
use Rattle.store_calls.proofs.make.Goals as goal

pub returns-then-not-length_right : goal.returns-then-not-length_right
returns-then-not-length_right c = let answered = make-refused c.args.store.now _ c.length_right.ensures (ap not c.if-not-length_right.true) in record { value = answered.0; store_after = answered.1 }

pub shape_of-store : goal.shape_of-store
shape_of-store c = c.clear.auto.out

pub returns : goal.returns
returns c =
    let answered = make-done c.args.store.now _ _ c.length_right.ensures (ap not c.if-not-length_right.false) c.clear.ensures in record { value = answered.0; store_after = answered.1 }
