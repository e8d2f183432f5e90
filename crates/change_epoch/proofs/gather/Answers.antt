-- SPDX-License-Identifier: MIT
use mathlib.Core.Path.{◌≡◌, ◌∙◌}
use Prim.Native.Nat.{◌+◌, ◌*◌, ◌≤◌}
use native.Mathlib.Omega.{arith}
use lib.ListN.{length}
use Rattle.octets.specs.Octets.{Octets}
use Rattle.key_record.specs.Layout.{record_size}
use Rattle.change_epoch.proofs.Bytes.{gathered_none, same_length, room, gathered-past, gathered-on, gathered-all}
use mathlib.Core.Bool.{not}
use mathlib.Core.Path.{ap}
use Rattle.change_epoch.proofs.gather.Goals as goal
use Rattle.change_epoch.proofs.gather.Goals.{then-kept, else-kept}

pub loop-i-init : goal.loop-i-init
loop-i-init c = gathered_none _ _ _

pub slice_bounds-of_epoch-end : goal.slice_bounds-of_epoch-end
slice_bounds-of_epoch-end c =
    let octets : Octets c.args.store.now = λ j. omega (arith, c.slice_known-1.given j) in
    let inside : c.loop-i.i * record_size + record_size ≤ length c.loop-i.store = room _ _ c.args.store.now (octets) c.requires.0 c.loop-i.store c.loop-i.to c.loop-i.i c.loop-i.invariant c.loop-i-test.true in
    inside

pub copy_down-requires : goal.copy_down-requires
copy_down-requires c =
    let octets : Octets c.args.store.now = λ j. omega (arith, c.slice_known-1.given j) in
    let inside : c.loop-i.i * record_size + record_size ≤ length c.loop-i.store = room _ _ c.args.store.now (octets) c.requires.0 c.loop-i.store c.loop-i.to c.loop-i.i c.loop-i.invariant c.loop-i-test.true in
    (c.loop-i.invariant.below, inside)

pub loop-i-preserved : goal.loop-i-preserved
loop-i-preserved c =
    let octets : Octets c.args.store.now = λ j. omega (arith, c.slice_known-1.given j) in
    elim c.if-kept.branch [
      | then-kept w ↦ gathered-on _ _ c.args.store.now (octets) c.requires.0 c.loop-i.store c.loop-i.to c.loop-i.i c.loop-i.invariant c.loop-i-test.true _
          c.of_epoch-kept.ensures _ _ (ap not w.if-kept.true) (w.store-is ∙ w.copy_down.ensures) w.to-is
      | else-kept w ↦ gathered-past _ _ c.args.store.now (octets) c.requires.0 c.loop-i.store c.loop-i.to c.loop-i.i c.loop-i.invariant c.loop-i-test.true _
          c.of_epoch-kept.ensures _ _ (ap not w.if-kept.false) w.store-is w.to-is
    ]

pub shape_of-store : goal.shape_of-store
shape_of-store c =
    let octets : Octets c.args.store.now = λ j. omega (arith, c.slice_known-1.given j) in
    let keeps : length c.loop-i.store ≡ length c.args.store.now = same_length _ _ c.args.store.now (octets) c.requires.0 c.loop-i.store c.loop-i.to c.loop-i.i c.loop-i.invariant in
    keeps

pub returns : goal.returns
returns c =
    let octets : Octets c.args.store.now = λ j. omega (arith, c.slice_known-1.given j) in
    let answered = gathered-all _ _ c.args.store.now (octets) c.requires.0 c.loop-i.store c.loop-i.to c.loop-i.i c.loop-i.invariant c.loop-i-test.false in record { value = answered.0; store_after = answered.1 }
