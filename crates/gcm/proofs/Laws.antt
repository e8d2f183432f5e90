-- SPDX-License-Identifier: MIT
-- What the crates above cite of counter mode and GCM.
-- Assumes nothing.
use mathlib.Core.Path.{◌≡◌, ap, sym, ◌∙◌}
use mathlib.Core.List.{List, [], ◌++◌, append-nil}
use Prim.Native.Nat.{ℕ, zero, suc, ◌+◌, ◌*◌, ◌≤◌, ◌<◌}
use native.Mathlib.Nat.{mod-eq_of_lt}
use native.Mathlib.Omega.{arith}
use lib.Bits.{bit_xor}
use lib.ListN.{length, take, drop, length-append}
use lib.Seq.{take_at, drop_at}
use Rattle.octets.specs.Octets.{Octets, number, bytes, xors}
use Rattle.octets.proofs.Laws.{bytes-length, bytes-octets, number-bytes, octets-append, xors-length, xors-octets, xors-twice}
use Rattle.aes.specs.Aes.{encrypt, blocks}
use Rattle.aes.proofs.Laws.{encrypt-octets}
use Rattle.ghash.specs.Ghash.{pair, product, absorb}
use Rattle.gcm.specs.Counter.{counter_block, key_stream, ctr}
use Rattle.gcm.specs.Gcm.{hash, gcm_tag, gcm_ciphertext, gcm_encrypt}
use Rattle.gcm.specs.Inner.Limits.{max_bytes, counts}

-- ---- Counter blocks

-- A counter block is 16 bytes: the nonce, then the block count.
module _ (nonce : List ℕ) (count : ℕ) (n : length nonce ≡ 12) where
  pub counter-length : length (counter_block nonce count) ≡ 16
  unfolding counter_block
  counter-length = length-append nonce (bytes 4 count) ∙ rw (n, bytes-length 4 count)

  pub counter-nonce : take 12 (counter_block nonce count) ≡ nonce
  unfolding counter_block
  counter-nonce = take_at nonce (bytes 4 count) 12 n

  pub counter-count : count < counts → number 4 (drop 12 (counter_block nonce count)) ≡ count
  unfolding counter_block
  counter-count h = ap (number 4) (drop_at nonce (bytes 4 count) 12 n) ∙ number-bytes 4 count ∙ mod-eq_of_lt h

-- Other nonces, or other block counts, give other counter blocks.
pub counter-apart : (m n : List ℕ) (i j : ℕ) → length m ≡ 12 → length n ≡ 12 → i < counts → j < counts
    → counter_block m i ≡ counter_block n j → (m ≡ n) × (i ≡ j)
counter-apart m n i j p q h k e = (
  sym (counter-nonce m i p) ∙ ap (take 12) e ∙ counter-nonce n j q,
  sym (counter-count m i p h) ∙ ap (λ (l : List ℕ). number 4 (drop 12 l)) e ∙ counter-count n j q k,
)

-- No block count is used twice: for the longest input, from block count 2 on, they stay below 2^32.
pub counts-fit : (n : ℕ) → n ≤ max_bytes → 2 + blocks n < counts
counts-fit n h = omega arith

-- ---- Counter mode

pub ctr-length : (key nonce : List ℕ) (count : ℕ) (l : List ℕ) → length (ctr key nonce count l) ≡ length l
unfolding ctr
ctr-length key nonce count l = xors-length l _

stream-octets : (key nonce : List ℕ) (count n : ℕ) → Octets (key_stream key nonce count n)
unfolding key_stream
stream-octets key nonce count zero = λ i. omega arith
stream-octets key nonce count (suc n) =
    octets-append (key_stream key nonce count n) (encrypt key (counter_block nonce (count + n)))
    (stream-octets key nonce count n) (encrypt-octets key _)

pub ctr-octets : (key nonce : List ℕ) (count : ℕ) (l : List ℕ) → Octets l → Octets (ctr key nonce count l)
unfolding ctr
ctr-octets key nonce count l o = xors-octets l _ o (stream-octets key nonce count (blocks (length l)))

-- The key stream twice gives the bytes back.
pub ctr-twice : (key nonce : List ℕ) (count : ℕ) (l : List ℕ) → ctr key nonce count (ctr key nonce count l) ≡ l
unfolding ctr
ctr-twice key nonce count l =
    let k = key_stream key nonce count (blocks (length l)) in
    ap (λ (n : ℕ). xors (xors l k) (key_stream key nonce count (blocks n))) (xors-length l k) ∙ xors-twice l k

-- ---- GCM

-- The hash, of associated data in two parts, from what its steps give.
pub hashed : (h : ℕ) (a b c : List ℕ) (u y s r : ℕ) → u ≡ absorb h 0 (a ++ b) → y ≡ absorb h u (c ++ [])
    → s ≡ bit_xor y (pair ((length a + length b) * 8) (length c * 8)) → r ≡ product s h → r ≡ hash h (a ++ b) c
unfolding hash
hashed h a b c u y s r e f g k =
    let m : (length a + length b) * 8 ≡ 8 * length (a ++ b) = rw length-append (omega arith) in
    let n : length c * 8 ≡ 8 * length c = omega arith in
    k ∙ rw (g, f, e, append-nil c, m, n)

pub ciphertext-length : (key nonce l : List ℕ) → length (gcm_ciphertext key nonce l) ≡ length l
unfolding gcm_ciphertext
ciphertext-length key nonce l = ctr-length key nonce 2 l

pub ciphertext-octets : (key nonce l : List ℕ) → Octets l → Octets (gcm_ciphertext key nonce l)
unfolding gcm_ciphertext
ciphertext-octets key nonce l o = ctr-octets key nonce 2 l o

-- Decryption is encryption.
pub ciphertext-twice : (key nonce l : List ℕ) → gcm_ciphertext key nonce (gcm_ciphertext key nonce l) ≡ l
unfolding gcm_ciphertext
ciphertext-twice key nonce l = ctr-twice key nonce 2 l

pub tag-length : (key nonce aad c : List ℕ) → length (gcm_tag key nonce aad c) ≡ 16
unfolding gcm_tag
tag-length key nonce aad c = xors-length _ _ ∙ bytes-length 16 _

pub tag-octets : (key nonce aad c : List ℕ) → Octets (gcm_tag key nonce aad c)
unfolding gcm_tag
tag-octets key nonce aad c = xors-octets _ _ (bytes-octets 16 _) (encrypt-octets key _)

module _ (key nonce aad l : List ℕ) where
  pub gcm-length : length (gcm_encrypt key nonce aad l) ≡ length l + 16
  unfolding gcm_encrypt
  gcm-length =
      length-append (gcm_ciphertext key nonce l) _ ∙ rw (ciphertext-length key nonce l, tag-length key nonce aad _)

  pub gcm-octets : Octets l → Octets (gcm_encrypt key nonce aad l)
  unfolding gcm_encrypt
  gcm-octets o =
      octets-append (gcm_ciphertext key nonce l) (gcm_tag key nonce aad (gcm_ciphertext key nonce l)) (ciphertext-octets key nonce l o)
      (tag-octets key nonce aad (gcm_ciphertext key nonce l))

  -- The two parts of the result.
  pub gcm-front : take (length l) (gcm_encrypt key nonce aad l) ≡ gcm_ciphertext key nonce l
  unfolding gcm_encrypt
  gcm-front = take_at (gcm_ciphertext key nonce l) _ (length l) (ciphertext-length key nonce l)

  pub gcm-rest : drop (length l) (gcm_encrypt key nonce aad l) ≡ gcm_tag key nonce aad (gcm_ciphertext key nonce l)
  unfolding gcm_encrypt
  gcm-rest = drop_at (gcm_ciphertext key nonce l) _ (length l) (ciphertext-length key nonce l)
