-- SPDX-License-Identifier: MIT
-- Lists of blocks: that two block functions agree on one, and that no two of its entries are equal. Assumes nothing.
use Rattle.std.specs.Prelude.{◌≡◌, List, [], ◌∷◌, ◌++◌, ℕ, zero, suc, ◌+◌, replicate}
use Rattle.aes.specs.Aes.{block_size}
use Rattle.gcm.specs.Counter.{counter_block}

abbrev pub zero_block : List ℕ
zero_block = replicate block_size 0

-- n counter blocks, from the given block count on.
unfoldable pub counter_blocks : (nonce : List ℕ) (count n : ℕ) → List (List ℕ)
counter_blocks nonce count zero = []
counter_blocks nonce count (suc n) = counter_blocks nonce count n ++ (counter_block nonce (count + n) ∷ [])

-- E and F agree on each block of a list.
abbrev pub AgreeOn : (E F : List ℕ → List ℕ) (l : List (List ℕ)) → Type 0
AgreeOn E F [] = Unit {0}
AgreeOn E F (b ∷ l) = (E b ≡ F b) × AgreeOn E F l

-- b is none of a list.
abbrev pub Off : (b : List ℕ) (l : List (List ℕ)) → Type 0
Off b [] = Unit {0}
Off b (c ∷ l) = (b ≡ c → ⊥) × Off b l

-- No two blocks of a list are equal.
abbrev pub Once : List (List ℕ) → Type 0
Once [] = Unit {0}
Once (b ∷ l) = Off b l × Once l
