-- SPDX-License-Identifier: MIT
use Rattle.tracks.specs.Tracks.{records}
use Rattle.tracks.proofs.Walk.{sound-length, sound-whole, sound-rows, sound-tracks}
use mathlib.Core.Bool.{not}
use mathlib.Core.Path.{ap}
use Rattle.tracks.proofs.is_sound.Goals as goal

pub returns-then-not-length_right : goal.returns-then-not-length_right
returns-then-not-length_right c = sound-length c.args.store.now _ c.length_right.ensures (ap not c.if-not-length_right.true)

pub rows_obey-requires : goal.rows_obey-requires
rows_obey-requires c = sound-whole c.args.store.now _ c.length_right.ensures (ap not c.if-not-length_right.false)

pub returns-then-not-rows_obey : goal.returns-then-not-rows_obey
returns-then-not-rows_obey c =
    sound-rows c.args.store.now _ c.length_right.ensures (ap not c.if-not-length_right.false) _ c.rows_obey.ensures (ap not c.if-not-rows_obey.true)

pub tracks_apart-requires : goal.tracks_apart-requires
tracks_apart-requires c =
    sound-whole c.args.store.now _ c.length_right.ensures (ap not c.if-not-length_right.false)

pub returns : goal.returns
unfolding records
returns c =
    sound-tracks c.args.store.now _ c.length_right.ensures (ap not c.if-not-length_right.false) _ _ c.rows_obey.ensures (ap not c.if-not-rows_obey.false) c.tracks_apart.ensures
