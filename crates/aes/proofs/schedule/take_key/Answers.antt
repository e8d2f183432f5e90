-- SPDX-License-Identifier: MIT
-- `aes::schedule::take_key` meets its contract.
-- Assumes nothing.
use borrow.Author.Rules.{rules}
use mathlib.Core.Path.{◌≡◌, refl, ap, ◌∙◌}
use Prim.Native.Nat.{◌*◌}
use native.Mathlib.Omega.{arith}
use lib.ListN.{length-set}
use Rattle.octets.specs.Octets.{number}
use Rattle.octets.proofs.Laws.{part-rest}
use Rattle.aes.specs.Aes.{Nk, expansion}
use Rattle.aes.proofs.Expansion.{key_step}
use Rattle.aes.proofs.schedule.take_key.Goals as goal

pub loop-i-init : goal.loop-i-init
unfolding expansion
loop-i-init c = (search rules, refl)

pub loop-i-preserved : goal.loop-i-preserved
loop-i-preserved c =
    let v = c.loop-i.invariant in (
      simp length-set v.0,
      key_step _ _ _ _ _ (omega (arith, v.0)) (omega arith) v.1
          (c.read_be32.ensures ∙ ap (number 4) (part-rest (4 * c.loop-i.i) c.args.key.now)),
    )

pub returns : goal.returns
returns c =
    let e : c.loop-i.i ≡ Nk c.args.key.now = omega arith in
    (c.loop-i.invariant.0, rw e at c.loop-i.invariant.1)
