-- SPDX-License-Identifier: MIT
use mathlib.Core.Path.{◌≡◌}
use mathlib.Core.List.{[]}
use Prim.Native.Nat.{◌/◌, ◌%◌, ◌<◌}
use lib.ListN.{length}
use Rattle.key_record.specs.Layout.{record_size}
use Rattle.store.specs.Inner.Places.{rows_sound}
use Rattle.store.proofs.rows_sound.Given as goal

abbrev pub invariant-loop-row : goal.invariant-loop-row
invariant-loop-row l =
    let rest = l.row-iterator.rest.now in (l.row-iterator.size ≡ record_size)
    × (length rest % record_size ≡ 0)
    × (0 < length l.before → length l.before ≡ record_size)
    × (rows_sound (length l.store / record_size) [] l.store ≡ rows_sound (length rest / record_size) l.before rest)
