-- SPDX-License-Identifier: MIT
use mathlib.Core.Path.{◌≡◌, refl, sym, ◌∙◌, ap}
use mathlib.Core.List.{List, ◌++◌}
use Prim.Native.Nat.{ℕ, ◌+◌, ◌*◌, ◌-◌}
use native.Mathlib.Omega.{arith}
use lib.ListN.{length, take, drop}
use Rattle.aes_keys.specs.Inner.Keys.{key_of}
use Rattle.gcm.proofs.Streams.{from-none}
use Rattle.gcm_batch.proofs.Batches.{part_length, counters-part, step, done}
use borrow.Author.Rules.{rules}
use Rattle.gcm_batch.proofs.counter.apply_from.Goals as goal

pub loop-i-init : goal.loop-i-init
loop-i-init c = (omega arith, refl, ap (λ (t : List ℕ). t ++ c.args.out.now) (sym (from-none _ _ _ _)))

pub loop-i-preserved : goal.loop-i-preserved
loop-i-preserved c =
    let key = key_of c.args.ctx.now in
    let nonce = c.args.nonce.now in
    let input = c.args.input.now in
    let i = c.loop-i.i in
    let e = c.next-end.result in
    let w = c.next-end.ensures in
    let p = c.args.start + i in
    let part = take (e - i) (drop i input) in
    let n : length part ≡ e - i = part_length input i e (omega arith) (omega arith) in
    let q : p ≡ 16 * 0 + (c.args.start + i) = omega arith in
    let r = c.xor_part.ensures ∙ counters-part key nonce _ part 0 (c.args.start + i) p q c.stream-s.ensures (omega arith) in
    (omega arith, search rules, step key nonce input c.args.out.now _ _ 0 c.args.start i e (omega arith) (omega arith) c.loop-i.invariant.2 r)

pub returns : goal.returns
returns c =
    done (key_of c.args.ctx.now) c.args.nonce.now c.args.input.now c.args.out.now _ 0 c.args.start c.loop-i.i
    (omega arith) c.requires.out_len c.loop-i.invariant.2
