-- SPDX-License-Identifier: MIT
-- The rule of the table, carried to each entry by one test over the whole array.
-- Assumes nothing.
use mathlib.Core.Path.{◌≡◌, ◌∙◌}
use mathlib.Core.Bool.{Bool}
use mathlib.Core.List.{List}
use Prim.Native.Nat.{ℕ, ◌+◌, ◌-◌, ◌<◌}
use native.Mathlib.Omega.{arith}
use borrow.Author.Tests.{lt-ltb, le-ltb}
use lib.Dec.{T, eqb, ltb, eqb→eq}
use lib.ListN.{length, get_or}
use Rattle.octets.specs.Octets.{pick}
use Rattle.octets.proofs.Entries.{all, entry-rule}
use Rattle.aes_round_table.specs.Inner.RoundTable.{entry_of, RoundTable}

-- What stands at index k.
unfoldable pub standing : ℕ → ℕ
standing k = pick (ltb k 64) 0 (entry_of (k - 64))

unfoldable pub right : ℕ → ℕ → Bool
right k x = eqb x (standing k)

at-index : (l : List ℕ) → T (all right 0 l) → (k : ℕ) → k < length l → get_or l k 0 ≡ standing k
unfolding right
at-index l t k h = eqb→eq _ _ (entry-rule right l t k h)

in-front : (k : ℕ) → k < 64 → standing k ≡ 0
unfolding standing
in-front k h = rw (lt-ltb k 64 h)

behind : (x : ℕ) → standing (64 + x) ≡ entry_of x
unfolding standing
behind x =
    let e : 64 + x - 64 ≡ x = omega arith in
    rw (le-ltb (64 + x) 64 (omega arith), e)

pub round-table : (l : List ℕ) → T (all right 0 l) → length l ≡ 320 → RoundTable l
round-table l t e =
    record {
      sized = e;
      room = λ i h. at-index l t i (omega arith) ∙ in-front i h;
      entry = λ x h. at-index l t (64 + x) (omega arith) ∙ behind x;
    }
