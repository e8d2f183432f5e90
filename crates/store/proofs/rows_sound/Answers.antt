-- SPDX-License-Identifier: MIT
use mathlib.Core.Path.{refl, sym, ◌∙◌, ap}
use mathlib.Core.List.{List, []}
use Prim.Native.Nat.{ℕ, ◌/◌}
use native.Mathlib.Omega.{arith}
use lib.ListN.{length}
use Rattle.key_record.specs.Layout.{record_size}
use Rattle.store.specs.Inner.Places.{rows_sound}
use Rattle.store.proofs.Walk.{next-whole, pass-stop, pass-go, pass-end}
use Rattle.store.proofs.rows_sound.Goals as goal

pub loop-row-init : goal.loop-row-init
loop-row-init c =
    let a = c.chunks_exact-row-items.ensures in
    let b = c.into_iter-row-iterator.ensures.into_iter_gives in
    rw (b, a.rest, a.size) (refl, c.requires, (λ h. absurd (omega arith)), refl)

pub row_sound-requires : goal.row_sound-requires
row_sound-requires c = (c.in-Some.ensures.steps.1.1 ∙ c.loop-row.invariant.0, c.loop-row.invariant.2)

pub returns-then-not-row_sound : goal.returns-then-not-row_sound
returns-then-not-row_sound c =
    let i = c.loop-row.invariant in
    let s = c.in-Some.ensures.steps in
    sym (i.3 ∙ pass-stop c.loop-row.before.now _ _ _ _ i.0 i.1 s.1.0 s.1.1 _ c.row_sound.ensures c.if-not-row_sound.true)

pub loop-row-preserved : goal.loop-row-preserved
loop-row-preserved c =
    let i = c.loop-row.invariant in
    let s = c.in-Some.ensures.steps in
    (s.0 ∙ i.0, next-whole c.loop-row.before.now _ _ _ _ i.0 i.1 s.1.0 s.1.1, (λ h. s.1.1 ∙ i.0), i.3 ∙ pass-go c.loop-row.before.now _ _ _ _ i.0 i.1 s.1.0 s.1.1 _ c.row_sound.ensures c.if-not-row_sound.false)

pub returns : goal.returns
returns c =
    let i = c.loop-row.invariant in
    let s = c.in-None.ensures.steps in
    sym (i.3 ∙ pass-end _ _ _ i.0 s.1.0)
