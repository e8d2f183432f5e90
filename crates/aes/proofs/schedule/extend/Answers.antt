-- SPDX-License-Identifier: MIT
-- `aes::schedule::extend` meets its contract.
-- Assumes nothing.
use mathlib.Core.Path.{◌≡◌, refl}
use Prim.Native.Nat.{◌+◌, ◌*◌, ◌-◌, ◌<◌}
use native.Mathlib.Omega.{arith}
use lib.Bits.{bit_xor}
use lib.ListN.{length, get_or, set, length-set}
use Rattle.aes.specs.Aes.{Nk, Nr, key_expansion}
use Rattle.aes.proofs.Expansion.{round_number, pair_step, pair-last}
use Rattle.aes.proofs.schedule.extend.Goals as goal

pub transform-requires : goal.transform-requires
transform-requires g c =
    let v = c.loop-k.invariant in
    let k = c.requires.key_size in record { rcon_table = c.round_constants-rc.ensures; m_lt_nk = (v.inside, v.round, round_number _ _ _ _ (omega (arith, k.least)) v.inside v.place (omega (arith, k.least))) }

pub two_on-p-requires : goal.two_on-p-requires
two_on-p-requires g c =
    let v = c.loop-k.invariant in
    let k = c.requires.key_size in (
      omega (arith, v.inside, v.even, k.whole),
      v.even,
      omega (arith, k.most),
      round_number _ _ _ _ (omega (arith, k.least)) v.inside v.place (omega (arith, k.least)),
    )

pub loop-k-preserved : goal.loop-k-preserved
loop-k-preserved g c =
    let v = c.loop-k.invariant in
    let k = c.requires.key_size in
    let n = c.two_on-p.ensures in
    let x = c.loop-k.x in
    let nk = Nk c.args.key.now in
    let i = nk + 2 * c.loop-k.k in
    let t = c.transform.result in
    let a = bit_xor (get_or x (i - nk) 0) t in
    let b = bit_xor (get_or (set x i a) (i + 1 - nk) 0) a in
    let inside : i + 1 < length x = omega (arith, k.most) in
    let on : nk + 2 * (c.loop-k.k + 1) ≡ i + 2 = omega arith in
    record {
      sized = simp length-set v.sized;
      words =
          rw on
          (pair_step nk c.args.key.now x i c.loop-k.p.j c.loop-k.p.m c.loop-k.w t a b inside
          (omega (arith, k.least)) (omega arith) (omega (arith, k.whole)) v.even v.inside v.place v.words v.last
          c.transform.ensures refl refl);
      last = rw on (pair-last x i a b inside);
      place = omega (arith, v.place, n.0);
      inside = n.1;
      even = n.2;
      round = omega (arith, v.round, n.3);
    }

pub returns : goal.returns
unfolding key_expansion
returns g c =
    let v = c.loop-k.invariant in
    let e : Nk c.args.key.now + 2 * c.loop-k.k ≡ 4 * (Nr c.args.key.now + 1) = omega (arith, c.requires.key_size.whole) in
    (v.sized, rw e at v.words)
