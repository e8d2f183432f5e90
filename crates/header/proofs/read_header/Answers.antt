-- SPDX-License-Identifier: MIT
use Prim.Native.Nat.{◌+◌, ◌≤◌}
use lib.ListN.{length}
use native.Mathlib.Omega.{arith}
use Rattle.header.proofs.Steps.{nothing, no-kid, kid-inside, no-counter, both_read, counter-inside}
use Rattle.header.proofs.read_header.Goals as goal

pub returns-then-bytes-eq0 : goal.returns-then-bytes-eq0
returns-then-bytes-eq0 c = nothing _ c.if-bytes-eq0.true

pub returns-in_err-kid : goal.returns-in_err-kid
returns-in_err-kid c =
    rw c.from_residual.ensures (no-kid c.args.bytes.now _ c.if-bytes-eq0.false c.read_field.ensures c.in_err-kid.was)

pub overflow_add-at : goal.overflow_add-at
overflow_add-at c =
    let inside : 1 + c.in_ok-kid.kid.width ≤ length c.args.bytes.now = kid-inside c.args.bytes.now _ c.if-bytes-eq0.false c.read_field.ensures _ _ c.in_ok-kid.was in
    omega (arith, inside)

pub slice_bounds-read_field-count-2 : goal.slice_bounds-read_field-count-2
slice_bounds-read_field-count-2 c = kid-inside c.args.bytes.now _ c.if-bytes-eq0.false c.read_field.ensures _ _ c.in_ok-kid.was

pub slice_bounds-read_field-start-2 : goal.slice_bounds-read_field-start-2
slice_bounds-read_field-start-2 c =
    let inside : 1 + c.in_ok-kid.kid.width ≤ length c.args.bytes.now = kid-inside c.args.bytes.now _ c.if-bytes-eq0.false c.read_field.ensures _ _ c.in_ok-kid.was in
    omega (arith, inside)

pub returns-in_err-ctr : goal.returns-in_err-ctr
returns-in_err-ctr c =
    rw c.from_residual-in_err-ctr.ensures (no-counter c.args.bytes.now _ c.if-bytes-eq0.false c.read_field.ensures _ _ c.in_ok-kid.was _ c.read_field-2.ensures c.in_err-ctr.was)

pub overflow_add-result : goal.overflow_add-result
overflow_add-result c =
    let h = counter-inside c.args.bytes.now _ c.if-bytes-eq0.false c.read_field.ensures _ _ c.in_ok-kid.was _ c.read_field-2.ensures _ _ c.in_ok-ctr.was in
    omega arith

pub returns : goal.returns
returns c =
    both_read c.args.bytes.now _ c.if-bytes-eq0.false c.read_field.ensures _ _ c.in_ok-kid.was _ c.read_field-2.ensures _ _ c.in_ok-ctr.was
