-- SPDX-License-Identifier: MIT
use mathlib.Core.Path.{◌≡◌, ◌∙◌}
use native.Mathlib.Omega.{arith}
use lib.ListN.{length, length-set}
use Rattle.header.proofs.Steps.{config-of, header-most, no_room, wrote}
use Rattle.header.proofs.write_header.Goals as goal

pub returns-then-out-n : goal.returns-then-out-n
returns-then-out-n c =
    let k = c.width_of-k.ensures in
    let n = c.width_of-c.ensures in
    let q = no_room _ _ _ _ c.args.out.now k.0 n.0 c.if-out-n.true in
    record { value = q.0; out_after = q.1; ctr_len_bound = header-most _ _ _ _ c.args.out.now k.0 n.0 k.1 n.1 }

pub write_be_at-requires : goal.write_be_at-requires
write_be_at-requires c = simp length-set (omega arith)

pub write_be_at-requires-2 : goal.write_be_at-requires-2
write_be_at-requires-2 c =
    let n : length c.write_be_at.new.out ≡ length c.args.out.now = c.write_be_at.auto.out ∙ simp length-set in
    omega arith

pub shape_of-out : goal.shape_of-out
shape_of-out c =
    c.write_be_at-2.auto.out ∙ c.write_be_at.auto.out ∙ simp length-set

pub returns : goal.returns
returns c =
    let a = c.args in
    let k = c.width_of-k.ensures in
    let n = c.width_of-c.ensures in
    let q = wrote _ _ _ _ a.out.now k.0 n.0 _ _ _ (config-of _ _ _ _ c.bits_of.ensures.0 c.bits_of-2.ensures.0) c.write_be_at.ensures c.write_be_at-2.ensures c.if-out-n.false in
    record { value = q.0; out_after = q.1; ctr_len_bound = header-most _ _ _ _ a.out.now k.0 n.0 k.1 n.1 }
