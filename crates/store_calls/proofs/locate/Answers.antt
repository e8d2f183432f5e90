-- SPDX-License-Identifier: MIT
use Rattle.answers.proofs.Basics.{told-true}
use Rattle.store_calls.proofs.Finds.{find-unsound, find-answers}
use mathlib.Core.Bool.{not}
use mathlib.Core.Path.{ap}
use Rattle.store_calls.proofs.locate.Goals as goal

pub returns-then-not-is_sound : goal.returns-then-not-is_sound
returns-then-not-is_sound c = find-unsound c.args.store.now c.args.kid.0 _ c.is_sound.ensures (ap not c.if-not-is_sound.true)

pub returns : goal.returns
returns c =
    find-answers c.args.store.now c.args.kid.0 _ c.is_sound.ensures (ap not c.if-not-is_sound.false) _ c.find.ensures _ c.ok_or.ensures.value
