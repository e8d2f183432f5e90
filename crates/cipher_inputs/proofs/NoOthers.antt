-- SPDX-License-Identifier: MIT
-- From the listed inputs and no others: block functions that agree on them give the same results. Assumes nothing.
use mathlib.Core.Path.{◌≡◌, refl, sym, ◌∙◌, ap, ap₂}
use mathlib.Core.Bool.{true, false}
use mathlib.Core.List.{List, [], ◌∷◌, ◌++◌}
use Prim.Native.Nat.{ℕ, zero, suc, ◌+◌, ◌*◌, ◌%◌, ◌≤◌}
use native.Mathlib.Omega.{arith}
use lib.Bits.{bit_xor}
use lib.Dec.{eqb, ltb}
use lib.ListN.{length, drop}
use borrow.Author.Tests.{eqb-true, eqb-false, ltb-false}
use Rattle.octets.specs.Octets.{number, bytes, xors, pasted}
use Rattle.aes.specs.Aes.{blocks}
use Rattle.ghash.specs.Ghash.{absorb, product, pair}
use Rattle.gcm.specs.Counter.{counter_block}
use Rattle.gcm.specs.Gcm.{hash}
use Rattle.suites.specs.declared.sizes.Suite.{Suite}
use Rattle.suites.specs.declared.sizes.Mode.{Mode}
use Rattle.suites.specs.declared.sizes.Mode.TheVariants.{CtrHmac, Gcm}
use Rattle.suites.specs.Suites.{mode_of, Nt}
use Rattle.aead.specs.Aead.{first_count}
use Rattle.piece_hash.specs.Held.{kept_block, absorb_whole, left_over, fed_blocks, blocks_of}
use Rattle.answers.proofs.Basics.{Two, yes', no', two}
use Rattle.piece_line.specs.State.{aad_in, announced_in, taken_in, nonce_in, key_in, hash_in}
use Rattle.piece_line.specs.Line.{front, key_field}
use Rattle.pieces.specs.Calls.{past}
use Rattle.cipher_inputs.specs.Blocks.{zero_block, counter_blocks, AgreeOn}
use Rattle.cipher_inputs.specs.Inputs.{key_inputs, mask_inputs, sealing_inputs, all_inputs}
use Rattle.cipher_inputs.specs.AnyCipher.{stream_by, hash_key_by, mask_by, ciphertext_by, tag_by, aead_by, hash_after_by, begun_by, cipher_piece_by, hash_more_by, after_by, tag_from_by, tag_in_by}

module _ (E F : List ℕ → List ℕ) where
  agree_left : (a b : List (List ℕ)) → AgreeOn E F (a ++ b) → AgreeOn E F a
  agree_left [] b h = tt
  agree_left (x ∷ a) b h = (h.0, agree_left a b h.1)

  agree-last : (a : List (List ℕ)) (x : List ℕ) → AgreeOn E F (a ++ (x ∷ [])) → E x ≡ F x
  agree-last [] x h = h.0
  agree-last (y ∷ a) x h = agree-last a x h.1

  -- fewer blocks are among more
  fewer : (nonce : List ℕ) (count n k : ℕ) → k ≤ n → AgreeOn E F (counter_blocks nonce count n) → AgreeOn E F (counter_blocks nonce count k)
  unfolding counter_blocks
  fewer nonce count zero k h a = let z : k ≡ 0 = omega arith in rw z tt
  fewer nonce count (suc n) k h a = by (two (eqb k (suc n))) (fewer nonce count n k)
    where
      by : Two (eqb k (suc n)) → (k ≤ n → AgreeOn E F (counter_blocks nonce count n) → AgreeOn E F (counter_blocks nonce count k)) → AgreeOn E F (counter_blocks nonce count k)
      by (yes' t) f = rw (eqb-true k (suc n) t) a
      by (no' t) f = let d = eqb-false k (suc n) t in f (omega arith) (agree_left (counter_blocks nonce count n) _ a)

  stream-only : (nonce : List ℕ) (count n : ℕ) → AgreeOn E F (counter_blocks nonce count n) → stream_by E nonce count n ≡ stream_by F nonce count n
  unfolding stream_by counter_blocks
  stream-only nonce count zero h = refl
  stream-only nonce count (suc n) h =
      ap₂ ◌++◌ (stream-only nonce count n (agree_left (counter_blocks nonce count n) _ h)) (agree-last (counter_blocks nonce count n) _ h)

  -- ---- the parts of what is listed

  data-agree : (m : Mode) (nonce : List ℕ) (n : ℕ) → AgreeOn E F (all_inputs m nonce n) → AgreeOn E F (counter_blocks nonce (first_count m) (blocks n))
  unfolding sealing_inputs
  data-agree CtrHmac nonce n h = h
  data-agree Gcm nonce n h = h.1.1

  key-agree : (m : Mode) (nonce : List ℕ) (n : ℕ) → AgreeOn E F (all_inputs m nonce n) → AgreeOn E F (key_inputs m)
  key-agree CtrHmac nonce n h = tt
  key-agree Gcm nonce n h = (h.0, tt)

  mask-agree : (nonce : List ℕ) (n : ℕ) → AgreeOn E F (all_inputs Gcm nonce n) → mask_by E nonce ≡ mask_by F nonce
  unfolding sealing_inputs mask_by
  mask-agree nonce n h = h.1.0

  hash-key-agree : AgreeOn E F (key_inputs Gcm) → hash_key_by E ≡ hash_key_by F
  unfolding hash_key_by
  hash-key-agree h = ap (number 16) h.0

  -- ---- a whole sealing

  ciphertext-only : (s : Suite) (nonce p : List ℕ) → AgreeOn E F (all_inputs (mode_of s) nonce (length p)) → ciphertext_by E s nonce p ≡ ciphertext_by F s nonce p
  unfolding ciphertext_by
  ciphertext-only s nonce p h = ap (xors p) (stream-only nonce (first_count (mode_of s)) (blocks (length p)) (data-agree (mode_of s) nonce (length p) h))

  tag-only : (m : Mode) (nt n : ℕ) (key nonce aad c : List ℕ) → AgreeOn E F (all_inputs m nonce n) → tag_by E m nt key nonce aad c ≡ tag_by F m nt key nonce aad c
  tag-only CtrHmac nt n key nonce aad c h = refl
  tag-only Gcm nt n key nonce aad c h =
      ap₂ (λ (k : ℕ) (m : List ℕ). xors (bytes 16 (hash k aad c)) m) (hash-key-agree (key-agree Gcm nonce n h)) (mask-agree nonce n h)

  pub encrypt-only : (s : Suite) (key nonce aad p : List ℕ) → AgreeOn E F (all_inputs (mode_of s) nonce (length p)) → aead_by E s key nonce aad p ≡ aead_by F s key nonce aad p
  unfolding aead_by
  encrypt-only s key nonce aad p h =
      ap (λ (c : List ℕ). c ++ tag_by E (mode_of s) (Nt s) key nonce aad c) (ciphertext-only s nonce p h)
      ∙ ap (λ (t : List ℕ). ciphertext_by F s nonce p ++ t) (tag-only (mode_of s) (Nt s) (length p) key nonce aad (ciphertext_by F s nonce p) h)

  -- ---- beginning, piece and end

  hash-after-only : (m : Mode) (nt n : ℕ) (key nonce aad c : List ℕ) → AgreeOn E F (key_inputs m) → hash_after_by E m nt n key nonce aad c ≡ hash_after_by F m nt n key nonce aad c
  hash-after-only CtrHmac nt n key nonce aad c h = refl
  hash-after-only Gcm nt n key nonce aad c h = ap (λ (k : ℕ). kept_block (absorb_whole k (absorb k 0 aad) c) (left_over c)) (hash-key-agree h)

  pub begun-only : (kind : ℕ) (suite : Suite) (n : ℕ) (nonce key aad : List ℕ) → AgreeOn E F (all_inputs (mode_of suite) nonce n) → begun_by E kind suite n nonce key aad ≡ begun_by F kind suite n nonce key aad
  unfolding begun_by
  begun-only kind suite n nonce key aad h =
      ap (λ (l : List ℕ). front kind suite (length aad) n ++ (nonce ++ (key_field key ++ (bytes 4 0 ++ l))))
      (hash-after-only (mode_of suite) (Nt suite) n key nonce aad [] (key-agree (mode_of suite) nonce n h))

  hash-more-only : (m : Mode) (aad taken : ℕ) (b c : List ℕ) → AgreeOn E F (key_inputs m) → hash_more_by E m aad taken b c ≡ hash_more_by F m aad taken b c
  hash-more-only CtrHmac aad taken b c h = refl
  hash-more-only Gcm aad taken b c h = ap (λ (k : ℕ). fed_blocks k (taken % 16) b c) (hash-key-agree h)

  tag-from-only : (m : Mode) (nt n : ℕ) (key nonce : List ℕ) (aad taken : ℕ) (b : List ℕ) → AgreeOn E F (all_inputs m nonce n) → tag_from_by E m nt key nonce aad taken b ≡ tag_from_by F m nt key nonce aad taken b
  tag-from-only CtrHmac nt n key nonce aad taken b h = refl
  tag-from-only Gcm nt n key nonce aad taken b h =
      ap₂ (λ (k : ℕ) (m : List ℕ). xors (bytes 16 (product (bit_xor (blocks_of k (taken % 16) b) (pair (8 * aad) (8 * taken))) k)) m)
      (hash-key-agree (key-agree Gcm nonce n h)) (mask-agree nonce n h)

  -- of any state, with the nonce and the announced length that it holds
  module _ (suite : Suite) (s : List ℕ) (h : AgreeOn E F (all_inputs (mode_of suite) (nonce_in s) (announced_in s))) where
    pub piece-only : (piece : List ℕ) → past s (length piece) ≡ false → cipher_piece_by E suite s piece ≡ cipher_piece_by F suite s piece
    unfolding cipher_piece_by
    piece-only piece t =
        let g : taken_in s + length piece ≤ announced_in s = ltb-false (announced_in s) (taken_in s + length piece) t in
        ap (λ (l : List ℕ). xors piece (drop (taken_in s) l))
        (stream-only (nonce_in s) (first_count (mode_of suite)) (blocks (taken_in s + length piece))
        (fewer (nonce_in s) (first_count (mode_of suite)) (blocks (announced_in s)) (blocks (taken_in s + length piece)) (omega arith) (data-agree (mode_of suite) (nonce_in s) (announced_in s) h)))

    pub after-only : (c : List ℕ) → after_by E suite s c ≡ after_by F suite s c
    unfolding after_by
    after-only c =
        ap (λ (l : List ℕ). pasted s 68 (bytes 4 (taken_in s + length c) ++ l))
        (hash-more-only (mode_of suite) (aad_in s) (taken_in s) (hash_in s) c (key-agree (mode_of suite) (nonce_in s) (announced_in s) h))

    pub end-only : tag_in_by E suite s ≡ tag_in_by F suite s
    unfolding tag_in_by
    end-only = tag-from-only (mode_of suite) (Nt suite) (announced_in s) (key_in suite s) (nonce_in s) (aad_in s) (taken_in s) (hash_in s) h
