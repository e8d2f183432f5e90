-- SPDX-License-Identifier: MIT
-- Laws of the rounds on sixteen blocks.
-- Assumes nothing.
use mathlib.Core.Path.{◌≡◌, refl, ◌∙◌, ap}
use mathlib.Core.List.{List}
use Prim.Native.Nat.{ℕ, zero, suc, ◌+◌, ◌*◌, ◌-◌, ◌<◌}
use native.Mathlib.Omega.{arith}
use lib.ListN.{length, get_or, take, drop}
use lib.Seq.{drop-drop}
use Rattle.std.specs.Simd.{first_chunks}
use Rattle.aes.specs.Aes.{Nr, key_expansion, rounds}
use Rattle.aes.proofs.Expansion.{rounds-step, encrypted}
use Rattle.aes_rows.specs.Rows.{state_planes, Each, Substituting, Adding}
use Rattle.aes_rows.specs.Rounds.{AllMixed, AllShifted}
use Rattle.aes_rows.specs.Blocks.{state}
use Rattle.aes_rows.proofs.Rounds16.{round, last-round, key-added}
use Rattle.aes_keys.specs.Inner.Keys.{Context, planes_at}
use Rattle.aes_batch.specs.Inner.Batch.{batch_blocks, Encrypted}

-- Round key r, as the part of a context that it is.
pub key-part : (r k : ℕ) (ctx d : List ℕ) → r < k → get_or (first_chunks 32 k ctx) r d ≡ planes_at ctx r
key-part r zero ctx d h = absurd (omega arith)
key-part zero (suc k) ctx d h = refl
key-part (suc r) (suc k) ctx d h =
    let e : 32 + 32 * r ≡ 32 * suc r = omega arith in
    key-part r k (drop 32 ctx) d (omega arith) ∙ ap (take 32) (drop-drop (32 * r) 32 ctx ∙ ap (λ (n : ℕ). drop n ctx) e)

-- The states after the rounds 1 to r.
pub record Rounded (key q : List ℕ) (r : ℕ) (t : List ℕ) : Type 0 where
  pub sized : length t ≡ state_planes
  pub each : (l : ℕ) → l < batch_blocks → state t l ≡ rounds (key_expansion key) (state q l) r

pub rounds-start : (key q : List ℕ) → length q ≡ state_planes → Rounded key q 0 q
unfolding rounds
rounds-start key q h = record { sized = h; each = λ l g. refl }

module _ (key ctx q : List ℕ) (k : Context key ctx) where
  pub rounds-next : (r : ℕ) (p t u v : List ℕ) → r < Nr key → p ≡ planes_at ctx (r + 1) → Rounded key q r t → Each Substituting 4 t u → AllMixed u p v
      → Rounded key q (r + 1) v
  rounds-next r p t u v h e a s m =
      record {
        sized = m.sized;
        each = λ l g.
            rounds-step (key_expansion key) _ _ _ r (a.each l g)
            (round (key_expansion key) (r + 1) t u p v s (rw e (k.keys.planes (r + 1) (omega arith))) l g m);
      }

  -- The first round key before the rounds, and the last round after them.
  pub rounds-last : (n r : ℕ) (z o p t u v : List ℕ) → n ≡ Nr key → r ≡ n → o ≡ planes_at ctx 0 → Each (Adding o) 4 z q → p ≡ planes_at ctx n
      → Rounded key q (r - 1) t → Each Substituting 4 t u → AllShifted u p v → Encrypted key z v
  rounds-last n r z o p t u v f g d b e a s m =
      record {
        sized = m.sized;
        each = λ l h.
            let first = key-added (key_expansion key) 0 z o q b (rw d (k.keys.planes 0 (omega arith))) l h in
            last-round (key_expansion key) n t u p v s (rw e (k.keys.planes n (omega arith))) l h m
            ∙ rw f (encrypted key (state z l) (state q l) (state t l) (r - 1) (omega arith) first (a.each l h));
      }
