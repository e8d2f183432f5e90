-- SPDX-License-Identifier: MIT
use native.Mathlib.Omega.{arith}
use Rattle.octets.specs.Octets.{Octets}
use Rattle.answers.proofs.Basics.{told-true}
use Rattle.change_epoch.proofs.Bytes.{epoch-unsound, epoch-wide, epoch-large, end-inside, epoch-done}
use mathlib.Core.Bool.{not}
use mathlib.Core.Path.{ap}
use Rattle.change_epoch.proofs.change_epoch.Goals as goal

pub returns-then-not-is_sound : goal.returns-then-not-is_sound
returns-then-not-is_sound c = let answered = epoch-unsound c.args.store.now _ _ _ c.is_sound.ensures (ap not c.if-not-is_sound.true) in record { value = answered.0; store_after = answered.1 }

pub returns-then-e-gt-KID_BITS : goal.returns-then-e-gt-KID_BITS
returns-then-e-gt-KID_BITS c =
    let answered = epoch-wide c.args.store.now _ _ _ c.is_sound.ensures (ap not c.if-not-is_sound.false) c.if-e-gt-KID_BITS.true in record { value = answered.0; store_after = answered.1 }

pub returns-then-not-in_bits : goal.returns-then-not-in_bits
returns-then-not-in_bits c =
    let answered = epoch-large c.args.store.now _ _ _ c.is_sound.ensures (ap not c.if-not-is_sound.false) (omega arith) _ c.in_bits.ensures (ap not c.if-not-in_bits.true) in record { value = answered.0; store_after = answered.1 }

pub gather-end-requires : goal.gather-end-requires
gather-end-requires c =
    (told-true _ _ c.is_sound.ensures (ap not c.if-not-is_sound.false), omega arith)

pub slice_bounds-clear-count : goal.slice_bounds-clear-count
slice_bounds-clear-count c =
    let octets : Octets c.args.store.now = λ j. omega (arith, c.slice_known-1.given j) in
    end-inside c.args.store.now c.args.e c.args.bits _ c.is_sound.ensures (ap not c.if-not-is_sound.false) (omega arith) _ c.in_bits.ensures (octets) (ap not c.if-not-in_bits.false) _ _
    c.gather-end.ensures.value c.gather-end.ensures.store_after

pub slice_bounds-clear-start : goal.slice_bounds-clear-start
slice_bounds-clear-start c =
    let octets : Octets c.args.store.now = λ j. omega (arith, c.slice_known-1.given j) in
    end-inside c.args.store.now c.args.e c.args.bits _ c.is_sound.ensures (ap not c.if-not-is_sound.false) (omega arith) _ c.in_bits.ensures (octets) (ap not c.if-not-in_bits.false) _ _
    c.gather-end.ensures.value c.gather-end.ensures.store_after

pub returns : goal.returns
returns c =
    let octets : Octets c.args.store.now = λ j. omega (arith, c.slice_known-1.given j) in
    let answered = epoch-done c.args.store.now c.args.e c.args.bits _ c.is_sound.ensures (ap not c.if-not-is_sound.false) (omega arith) _ c.in_bits.ensures (octets) (ap not c.if-not-in_bits.false) _ _
    c.gather-end.ensures.value c.gather-end.ensures.store_after c.clear.new.out c.clear.ensures in record { value = answered.0; store_after = answered.1 }
