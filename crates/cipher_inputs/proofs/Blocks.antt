-- SPDX-License-Identifier: MIT
-- Each listed input once: over one nonce by the block count, over two by the nonce. Assumes nothing.
use mathlib.Core.Path.{◌≡◌, refl, sym, ◌∙◌, ap}
use mathlib.Core.List.{List, [], ◌∷◌, ◌++◌}
use Prim.Native.Nat.{ℕ, zero, suc, ◌+◌, ◌^◌, ◌≤◌, ◌<◌}
use native.Mathlib.Omega.{arith}
use lib.ListN.{length, take, drop}
use Rattle.octets.specs.Octets.{number}
use Rattle.aes.specs.Aes.{blocks}
use Rattle.gcm.specs.Counter.{counter_block}
use Rattle.gcm.proofs.Laws.{counter-nonce, counter-count}
use Rattle.answers.specs.Limits.{max_plaintext}
use Rattle.suites.specs.declared.sizes.Mode.{Mode}
use Rattle.suites.specs.declared.sizes.Mode.TheVariants.{CtrHmac, Gcm}
use Rattle.aead.specs.Aead.{first_count}
use Rattle.cipher_inputs.specs.Blocks.{zero_block, counter_blocks, Off, Once}
use Rattle.cipher_inputs.specs.Inputs.{key_inputs, mask_inputs, sealing_inputs}

-- ---- lists

abbrev pub Every : (P : List ℕ → Type 0) (l : List (List ℕ)) → Type 0
Every P [] = Unit {0}
Every P (b ∷ l) = P b × Every P l

pub every_append : (P : List ℕ → Type 0) (a b : List (List ℕ)) → Every P a → Every P b → Every P (a ++ b)
every_append P [] b p q = q
every_append P (x ∷ a) b p q = (p.0, every_append P a b p.1 q)

pub every_map : (P Q : List ℕ → Type 0) → ((b : List ℕ) → P b → Q b) → (l : List (List ℕ)) → Every P l → Every Q l
every_map P Q f [] p = tt
every_map P Q f (b ∷ l) p = (f b p.0, every_map P Q f l p.1)

pub off-every : (P : List ℕ → Type 0) (b : List ℕ) → ((c : List ℕ) → P c → b ≡ c → ⊥) → (l : List (List ℕ)) → Every P l → Off b l
off-every P b f [] p = tt
off-every P b f (c ∷ l) p = (f c p.0, off-every P b f l p.1)

off-append : (x : List ℕ) (a b : List (List ℕ)) → Off x a → Off x b → Off x (a ++ b)
off-append x [] b p q = q
off-append x (y ∷ a) b p q = (p.0, off-append x a b p.1 q)

pub once-append : (a b : List (List ℕ)) → Once a → Once b → Every (λ x. Off x b) a → Once (a ++ b)
once-append [] b p q h = q
once-append (x ∷ a) b p q h = (off-append x a b p.0 h.0, once-append a b p.1 q h.1)

-- ---- counter blocks

-- the nonce and the block count of a block
abbrev pub block_nonce : List ℕ → List ℕ
block_nonce b = take 12 b

abbrev pub block_count : List ℕ → ℕ
block_count b = number 4 (drop 12 b)

-- of that nonce, with a block count in that range
abbrev pub Of : (nonce : List ℕ) (low high : ℕ) (b : List ℕ) → Type 0
Of nonce low high b = (block_nonce b ≡ nonce) × (low ≤ block_count b) × (block_count b < high)

-- the lowest block count of a mode
abbrev pub lowest : Mode → ℕ
lowest CtrHmac = 0
lowest Gcm = 1

module _ (nonce : List ℕ) (sized : length nonce ≡ 12) where
  block_of : (low high c : ℕ) → low ≤ c → c < high → c < 2 ^ 32 → Of nonce low high (counter_block nonce c)
  block_of low high c p q h =
      let e = counter-count nonce c sized h in
      (counter-nonce nonce c sized, omega arith, omega arith)

  blocks-of : (count n : ℕ) → count + n < 2 ^ 32 → Every (Of nonce count (count + n)) (counter_blocks nonce count n)
  unfolding counter_blocks
  blocks-of count zero h = tt
  blocks-of count (suc n) h =
      every_append (Of nonce count (count + suc n)) (counter_blocks nonce count n) (counter_block nonce (count + n) ∷ [])
      (every_map (Of nonce count (count + n)) (Of nonce count (count + suc n)) (λ b p. (p.0, p.1, omega (arith, p.2))) (counter_blocks nonce count n) (blocks-of count n (omega arith)))
      (block_of count (count + suc n) (count + n) (omega arith) (omega arith) (omega arith), tt)

  -- one with a lower block count is none of them
  off-blocks : (c count n : ℕ) → c < count → count + n < 2 ^ 32 → Off (counter_block nonce c) (counter_blocks nonce count n)
  off-blocks c count n k h =
      off-every (Of nonce count (count + n)) (counter_block nonce c)
      (λ b q e. let f : block_count b ≡ c = ap block_count (sym e) ∙ counter-count nonce c sized (omega arith) in omega (arith, q.1))
      (counter_blocks nonce count n) (blocks-of count n h)

  stream-once : (count n : ℕ) → count + n < 2 ^ 32 → Once (counter_blocks nonce count n)
  unfolding counter_blocks
  stream-once count zero h = tt
  stream-once count (suc n) h =
      once-append (counter_blocks nonce count n) (counter_block nonce (count + n) ∷ []) (stream-once count n (omega arith)) (tt, tt)
      (every_map (Of nonce count (count + n)) (λ x. Off x (counter_block nonce (count + n) ∷ []))
      (λ b p. ((λ e. let f : block_count b ≡ count + n = ap block_count e ∙ counter-count nonce (count + n) sized (omega arith) in omega (arith, p.2)), tt))
      (counter_blocks nonce count n) (blocks-of count n (omega arith)))

  -- ---- a sealing

  data_of : (low count n : ℕ) → low ≤ count → count + n < 2 ^ 32 → Every (Of nonce low (2 ^ 32)) (counter_blocks nonce count n)
  data_of low count n k h =
      every_map (Of nonce count (count + n)) (Of nonce low (2 ^ 32)) (λ b p. (p.0, omega (arith, p.1), omega (arith, p.2))) (counter_blocks nonce count n) (blocks-of count n h)

  module _ (n : ℕ) (short : n ≤ max_plaintext) where
    pub sealing-of : (m : Mode) → Every (Of nonce (lowest m) (2 ^ 32)) (sealing_inputs m nonce n)
    unfolding sealing_inputs
    sealing-of CtrHmac = data_of 0 _ _ (omega arith) (omega arith)
    sealing-of Gcm = (block_of 1 (2 ^ 32) _ (omega arith) (omega arith) (omega arith), data_of 1 _ _ (omega arith) (omega arith))

    -- In one sealing no two listed inputs are equal.
    pub sealing-once : (m : Mode) → Once (sealing_inputs m nonce n)
    unfolding sealing_inputs
    sealing-once CtrHmac = stream-once _ _ (omega arith)
    sealing-once Gcm = (off-blocks _ _ _ (omega arith) (omega arith), stream-once _ _ (omega arith))

-- ---- a key

-- The hash key's input is none of those with a block count that the mode uses.
pub key-once : (m : Mode) (l : List (List ℕ)) → Every (λ b. lowest m ≤ block_count b) l → Once l → Once (key_inputs m ++ l)
unfolding number
key-once CtrHmac l p q = q
key-once Gcm l p q = (off-every (λ b. 1 ≤ block_count b) zero_block (λ b h e. let z : block_count b ≡ 0 = ap block_count (sym e) in omega (arith, h)) l p, q)
