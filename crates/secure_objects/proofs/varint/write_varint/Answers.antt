-- SPDX-License-Identifier: MIT
use mathlib.Core.Path.{refl, ◌∙◌}
use native.Mathlib.Omega.{arith}
use lib.ListN.{length-set}
use Rattle.secure_objects.proofs.Laws.{varint-1, varint-2, varint-4, varint-8, varint-9}
use Rattle.secure_objects.proofs.Steps.{narrow-written, wide-length, wide-written}
use Rattle.secure_objects.proofs.varint.write_varint.Goals as goal

pub returns-then-x-lt64 : goal.returns-then-x-lt64
returns-then-x-lt64 c =
    let answered = narrow-written _ _ _ c.args.i 1 1 _ (varint-1 c.args.x c.if-x-lt64.true) refl (omega arith) c.write_be_at.ensures in record { value = answered.0; out_after = answered.1 }

pub returns-then-x-lt16384 : goal.returns-then-x-lt16384
returns-then-x-lt16384 c =
    let answered = narrow-written _ _ _ c.args.i 2 2 _ (varint-2 c.args.x c.if-x-lt64.false c.if-x-lt16384.true) refl (omega arith) c.write_be_at-then-x-lt16384.ensures in record { value = answered.0; out_after = answered.1 }

pub returns-then-x-lt1073741824 : goal.returns-then-x-lt1073741824
returns-then-x-lt1073741824 c =
    let answered = narrow-written _ _ _ c.args.i 4 4 _ (varint-4 c.args.x c.if-x-lt64.false c.if-x-lt16384.false c.if-x-lt1073741824.true) refl (omega arith) c.write_be_at-then-x-lt1073741824.ensures in record { value = answered.0; out_after = answered.1 }

pub returns-then-x-lt4611686018427387904 : goal.returns-then-x-lt4611686018427387904
returns-then-x-lt4611686018427387904 c =
    let answered = narrow-written _ _ _ c.args.i 8 8 _ (varint-8 c.args.x c.if-x-lt64.false c.if-x-lt16384.false c.if-x-lt1073741824.false c.if-x-lt4611686018427387904.true) refl (omega arith) c.write_be_at-then-x-lt4611686018427387904.ensures in record { value = answered.0; out_after = answered.1 }

pub write_be_at-requires-2 : goal.write_be_at-requires-2
write_be_at-requires-2 c =
    wide-length c.args.out.now _ _ c.requires refl

pub shape_of-out : goal.shape_of-out
shape_of-out c =
    c.write_be_at-2.auto.out ∙ length-set c.args.out.now c.args.i 255

pub returns : goal.returns
returns c =
    let answered = wide-written c.args.out.now _ _ c.args.i c.args.x c.requires refl c.write_be_at-2.ensures (varint-9 c.args.x c.if-x-lt64.false c.if-x-lt16384.false c.if-x-lt1073741824.false c.if-x-lt4611686018427387904.false) in record { value = answered.0; out_after = answered.1 }
