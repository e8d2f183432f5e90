-- SPDX-License-Identifier: MIT
use Rattle.track_record.specs.Record.{track_id}
use Rattle.tracks.proofs.Walk.{Finding}
use Rattle.tracks.proofs.find.Given as goal

abbrev pub invariant-loop-i : goal.invariant-loop-i
invariant-loop-i l = Finding (track_id l.track.name.now l.track.id.0) l.store l.i
