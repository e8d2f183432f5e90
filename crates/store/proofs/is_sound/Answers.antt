-- SPDX-License-Identifier: MIT
use Rattle.store.proofs.Walk.{sound-length, sound-whole, sound-rows}
use mathlib.Core.Bool.{not}
use mathlib.Core.Path.{ap}
use Rattle.store.proofs.is_sound.Goals as goal

pub returns-then-not-length_right : goal.returns-then-not-length_right
returns-then-not-length_right c = sound-length c.args.store.now _ c.length_right.ensures (ap not c.if-not-length_right.true)

pub rows_sound-requires : goal.rows_sound-requires
rows_sound-requires c = sound-whole c.args.store.now _ c.length_right.ensures (ap not c.if-not-length_right.false)

pub returns : goal.returns
returns c = sound-rows _ _ c.length_right.ensures (ap not c.if-not-length_right.false) _ c.rows_sound.ensures
