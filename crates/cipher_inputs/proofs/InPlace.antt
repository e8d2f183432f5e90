-- SPDX-License-Identifier: MIT
-- The definitions in use are those over any block function, with AES in place. Assumes nothing.
use mathlib.Core.Path.{◌≡◌, refl, sym, ◌∙◌, ap, ap₂}
use mathlib.Core.List.{List, [], ◌∷◌, ◌++◌}
use Prim.Native.Nat.{ℕ, zero, suc, ◌+◌, ◌%◌}
use native.Mathlib.Omega.{arith}
use lib.ListN.{length, take, drop}
use lib.Seq.{take-take}
use Rattle.octets.specs.Octets.{bytes, xors, pasted}
use Rattle.aes.specs.Aes.{blocks}
use Rattle.aes.specs.Aes as Aes
use Rattle.gcm.specs.Counter.{counter_block, key_stream, ctr, ctr_from}
use Rattle.gcm.specs.Gcm.{hash_key, gcm_tag}
use Rattle.suites.specs.declared.sizes.Suite.{Suite}
use Rattle.suites.specs.declared.sizes.Suite.TheVariants.{Ctr80, Ctr64, Ctr32, Gcm128, Gcm256}
use Rattle.suites.specs.declared.sizes.Mode.{Mode}
use Rattle.suites.specs.declared.sizes.Mode.TheVariants.{CtrHmac, Gcm}
use Rattle.suites.specs.Suites.{mode_of, Nk, Nt}
use Rattle.aead.specs.Aead as Aead
use Rattle.aead.specs.Aead.{cipher_key, first_count, ciphertext}
use Rattle.suites.proofs.Laws.{ctr-not-gcm}
use Rattle.aead.proofs.Laws.{whole-key}
use Rattle.piece_line.specs.State.{aad_in, taken_in, nonce_in, key_in, hash_in}
use Rattle.piece_line.specs.Line.{hash_after, front, key_field, state_after, begun, hash_more, after, cipher_piece, tag_from, tag_in}
use Rattle.cipher_inputs.specs.AnyCipher.{aes, stream_by, hash_key_by, mask_by, ciphertext_by, tag_by, aead_by, hash_after_by, begun_by, cipher_piece_by, hash_more_by, after_by, tag_from_by, tag_in_by}

stream-is : (key nonce : List ℕ) (count n : ℕ) → key_stream key nonce count n ≡ stream_by (λ b. Aes.encrypt key b) nonce count n
unfolding key_stream stream_by
stream-is key nonce count zero = refl
stream-is key nonce count (suc n) = ap (λ (l : List ℕ). l ++ Aes.encrypt key (counter_block nonce (count + n))) (stream-is key nonce count n)

-- ---- a whole sealing

ciphertext-is : (s : Suite) (key nonce p : List ℕ) → ciphertext s key nonce p ≡ ciphertext_by (aes s key) s nonce p
unfolding ciphertext ctr ciphertext_by
ciphertext-is s key nonce p = ap (xors p) (stream-is (cipher_key s key) nonce (first_count (mode_of s)) (blocks (length p)))

-- with GCM, AES takes all of the key
module _ (s : Suite) (key : List ℕ) (whole : mode_of s ≡ Gcm → cipher_key s key ≡ key) where
  tag-by : (m : Mode) → mode_of s ≡ m → (nt : ℕ) (nonce aad c : List ℕ) → Aead.tag_in m nt key nonce aad c ≡ tag_by (aes s key) m nt key nonce aad c
  unfolding gcm_tag hash_key hash_key_by mask_by
  tag-by CtrHmac e nt nonce aad c = refl
  tag-by Gcm e nt nonce aad c = ap (λ (k : List ℕ). gcm_tag k nonce aad c) (sym (whole e))

  hash-after-by : (m : Mode) → mode_of s ≡ m → (nt n : ℕ) (nonce aad c : List ℕ) → hash_after m nt n key nonce aad c ≡ hash_after_by (aes s key) m nt n key nonce aad c
  unfolding hash_key hash_key_by
  hash-after-by CtrHmac e nt n nonce aad c = refl
  hash-after-by Gcm e nt n nonce aad c = ap (λ (k : List ℕ). hash_after Gcm nt n k nonce aad c) (sym (whole e))

  hash-more-by : (m : Mode) → mode_of s ≡ m → (aad taken : ℕ) (b c : List ℕ) → hash_more m key aad taken b c ≡ hash_more_by (aes s key) m aad taken b c
  unfolding hash_key hash_key_by
  hash-more-by CtrHmac e aad taken b c = refl
  hash-more-by Gcm e aad taken b c = ap (λ (k : List ℕ). hash_more Gcm k aad taken b c) (sym (whole e))

  tag-from-by : (m : Mode) → mode_of s ≡ m → (nt : ℕ) (nonce : List ℕ) (aad taken : ℕ) (b : List ℕ) → tag_from m nt key nonce aad taken b ≡ tag_from_by (aes s key) m nt key nonce aad taken b
  unfolding hash_key hash_key_by mask_by
  tag-from-by CtrHmac e nt nonce aad taken b = refl
  tag-from-by Gcm e nt nonce aad taken b = ap (λ (k : List ℕ). tag_from Gcm nt k nonce aad taken b) (sym (whole e))

module _ (s : Suite) (key : List ℕ) (sized : length key ≡ Nk s) where
  pub encrypt-in-place : (nonce aad p : List ℕ) → Aead.encrypt s key nonce aad p ≡ aead_by (aes s key) s key nonce aad p
  unfolding Aead.encrypt Aead.tag aead_by
  encrypt-in-place nonce aad p =
      ap (λ (c : List ℕ). c ++ Aead.tag_in (mode_of s) (Nt s) key nonce aad c) (ciphertext-is s key nonce p)
      ∙ ap (λ (t : List ℕ). ciphertext_by (aes s key) s nonce p ++ t)
      (tag-by s key (λ e. whole-key s key e sized) (mode_of s) refl (Nt s) nonce aad (ciphertext_by (aes s key) s nonce p))

  pub begun-in-place : (kind n : ℕ) (nonce aad : List ℕ) → begun kind s n nonce key aad ≡ begun_by (aes s key) kind s n nonce key aad
  unfolding begun state_after begun_by
  begun-in-place kind n nonce aad =
      ap (λ (h : List ℕ). front kind s (length aad) n ++ (nonce ++ (key_field key ++ (bytes 4 0 ++ h))))
      (hash-after-by s key (λ e. whole-key s key e sized) (mode_of s) refl (Nt s) n nonce aad [])

-- ---- pieces and the end, of any state

whole_in : (suite : Suite) (s : List ℕ) → mode_of suite ≡ Gcm → cipher_key suite (key_in suite s) ≡ key_in suite s
whole_in Ctr80 s e = absurd (ctr-not-gcm e)
whole_in Ctr64 s e = absurd (ctr-not-gcm e)
whole_in Ctr32 s e = absurd (ctr-not-gcm e)
whole_in Gcm128 s e = take-take 16 16 (drop 20 s) (omega arith)
whole_in Gcm256 s e = take-take 32 32 (drop 20 s) (omega arith)

module _ (suite : Suite) (s : List ℕ) where
  pub piece-in-place : (piece : List ℕ) → cipher_piece suite s piece ≡ cipher_piece_by (aes suite (key_in suite s)) suite s piece
  unfolding cipher_piece ctr_from cipher_piece_by
  piece-in-place piece =
      ap (λ (l : List ℕ). xors piece (drop (taken_in s) l)) (stream-is (cipher_key suite (key_in suite s)) (nonce_in s) (first_count (mode_of suite)) (blocks (taken_in s + length piece)))

  pub after-in-place : (c : List ℕ) → after suite s c ≡ after_by (aes suite (key_in suite s)) suite s c
  unfolding after after_by
  after-in-place c =
      ap (λ (h : List ℕ). pasted s 68 (bytes 4 (taken_in s + length c) ++ h))
      (hash-more-by suite (key_in suite s) (whole_in suite s) (mode_of suite) refl (aad_in s) (taken_in s) (hash_in s) c)

  pub end-in-place : tag_in suite s ≡ tag_in_by (aes suite (key_in suite s)) suite s
  unfolding tag_in tag_in_by
  end-in-place = tag-from-by suite (key_in suite s) (whole_in suite s) (mode_of suite) refl (Nt suite) (nonce_in s) (aad_in s) (taken_in s) (hash_in s)
