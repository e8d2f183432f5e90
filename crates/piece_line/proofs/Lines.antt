-- SPDX-License-Identifier: MIT
-- A line of calls from its beginning on: however the ciphertext is cut, the state is that after all of it, the ciphertext is
-- that of the whole plaintext, and the tag is that of the frame. Assumes nothing.
use Rattle.std.specs.Prelude.{Some}
use mathlib.Core.Path.{◌≡◌, refl, sym, ◌∙◌, ap, ap₂}
use mathlib.Core.List.{List, ◌++◌, append_assoc}
use Prim.Native.Nat.{ℕ, ◌+◌, ◌*◌, ◌/◌, ◌%◌, ◌-◌, ◌^◌, ◌<◌, ◌≤◌}
use native.Mathlib.Nat.{zero-add, mod-eq_of_lt}
use native.Mathlib.Omega.{arith}
use borrow.Author.Tests.{le-leb, eq-eqb, ltb-true}
use lib.Bits.{bit_xor}
use lib.ListN.{length, get_or, take, drop, replicate, length-append, length-drop, length-replicate}
use lib.Seq.{take_at, drop_at, drop-drop}
use Rattle.octets.specs.Octets.{number, bytes, xors, pasted}
use Rattle.octets.proofs.Laws.{number_append, number-bytes, number_lt, bytes-length, xors-length}
use Rattle.sha2_common.specs.Sha2.{hash}
use Rattle.sha2_common.specs.Sizes.{sha256}
use Rattle.sha2_common.specs.Running.{fresh, fed}
use Rattle.sha2_common.proofs.Laws.{words-of-256}
use Rattle.hmac.specs.Hmac.{shortened, extended, masked, hmac, ipad, opad}
use Rattle.hmac_tag.specs.TagInput.{tag_input}
use Rattle.aes.specs.Aes.{encrypt}
use Rattle.aes.proofs.Laws.{encrypt-octets}
use Rattle.ghash.specs.Ghash.{absorb, product, pair}
use Rattle.gcm.specs.Counter.{counter_block}
use Rattle.gcm.specs.Gcm.{hash_key, gcm_tag}
use Rattle.gcm.specs.Gcm as Galois
use Rattle.suites.specs.declared.sizes.Suite.{Suite}
use Rattle.suites.specs.declared.sizes.Mode.{Mode}
use Rattle.suites.specs.declared.sizes.Mode.TheVariants.{CtrHmac, Gcm}
use Rattle.suites.specs.Suites.{mode_of, Nk, Nt, suite_of}
use Rattle.aead.specs.Aead as Aead
use Rattle.aead.specs.Aead.{cipher_key, auth_key, first_count, ciphertext, ctr_tag}
use Rattle.suites.proofs.Laws.{Nk-most, number-known}
use Rattle.aead.proofs.Laws.{ciphertext-length}
use Rattle.piece_stream.specs.CounterFrom.{ctr_from}
use Rattle.piece_stream.proofs.Laws as Stream
use Rattle.piece_hash.specs.Held.{kept}
use Rattle.piece_hash.proofs.Joins.{fed-fresh-length, block-length, fed-again, digest-again, fresh-room, initial-words, fed-blocks-again, blocks-again, blocks-lt}
use Rattle.answers.specs.Limits.{max_plaintext}
use Rattle.piece_line.specs.State.{max_aad, kind_in, suite_in, aad_in, announced_in, taken_in, nonce_in, key_in, hash_in, counts_fit, fits, line_of}
use Rattle.piece_line.specs.Line.{tag_front, hash_after, front, key_field, state_after, before, hash_more, after, cipher_piece, tag_from, tag_in}

-- What every beginning gives.
pub record Given (suite : Suite) (n : ℕ) (nonce key aad : List ℕ) : Type 0 where
  pub nonce_sized : length nonce ≡ 12
  pub key_sized : length key ≡ Nk suite
  pub least : 1 ≤ length aad
  pub most : length aad ≤ max_aad
  pub announced : n ≤ max_plaintext

-- ---- the running hash

-- A key of HMAC as one block.
masked-length : (pad : ℕ) (k : List ℕ) → length k ≤ 64 → length (masked sha256 pad k) ≡ 64
unfolding masked extended shortened
masked-length pad k h =
    xors-length _ _
    ∙ rw (le-leb (length k) 64 h) (length-append k (replicate (64 - length k) 0) ∙ rw (length-replicate {A = ℕ} (64 - length k) 0) (omega arith))

front_length : (nt n : ℕ) (nonce aad : List ℕ) → length nonce ≡ 12 → length (tag_front nt n nonce aad) ≡ 36 + length aad
unfolding tag_front
front_length nt n nonce aad e = simp (length-append, bytes-length) (omega arith)

input-cut : (nt : ℕ) (nonce aad c : List ℕ) → tag_input nt nonce aad c ≡ tag_front nt (length c) nonce aad ++ c
unfolding tag_input tag_front
input-cut nt nonce aad c = simp append_assoc

zero-below : 0 < 2 ^ 128
zero-below = ltb-true 0 (2 ^ 128) refl

pub hash-key-lt : (key : List ℕ) → hash_key key < 2 ^ 128
unfolding hash_key
hash-key-lt key = number_lt 16 (encrypt key (replicate 16 0)) (encrypt-octets key (replicate 16 0))

absorb-lt : (h y : ℕ) (l : List ℕ) → h < 2 ^ 128 → y < 2 ^ 128 → absorb h y l < 2 ^ 128
unfolding absorb
absorb-lt h y l p q = blocks-lt h y l ((length l + 15) / 16) p q

module _ (key nonce aad : List ℕ) (nt n : ℕ) (sn : length nonce ≡ 12) where
  abbrev M : List ℕ
  M = masked sha256 ipad (auth_key key)

  abbrev W : List ℕ
  W = tag_front nt n nonce aad

  taken-length : (c : List ℕ) → length key ≤ 80 → length (M ++ (W ++ c)) ≡ before (length aad) + length c
  taken-length c h =
      length-append M (W ++ c)
      ∙ rw (length-append W c, masked-length ipad (auth_key key) (rw (length-drop 16 key) (omega arith)), front_length nt n nonce aad sn) (omega arith)

  more-hmac : (c d : List ℕ) → length key ≤ 80
      → hash_more CtrHmac key (length aad) (length c) (hash_after CtrHmac nt n key nonce aad c) d ≡ hash_after CtrHmac nt n key nonce aad (c ++ d)
  more-hmac c d h =
      let x = M ++ (W ++ c) in
      fed-again (fresh sha256) (before (length aad) + length c) x d words-of-256 initial-words fresh-room (sym (zero-add (length x) ∙ taken-length c h))
      ∙ ap (λ (t : List ℕ). kept (fed sha256 (fresh sha256) t)) (append_assoc M (W ++ c) d ∙ ap (λ (t : List ℕ). M ++ t) (append_assoc W c d))

  more-gcm : (c d : List ℕ)
      → hash_more Gcm key (length aad) (length c) (hash_after Gcm nt n key nonce aad c) d ≡ hash_after Gcm nt n key nonce aad (c ++ d)
  more-gcm c d =
      let h = hash_key key in
      fed-blocks-again h (absorb h 0 aad) c (hash-key-lt key) (absorb-lt h 0 aad (hash-key-lt key) zero-below) (length c % 16) refl d

  hash-more : (m : Mode) (c d : List ℕ) → length key ≤ 80
      → hash_more m key (length aad) (length c) (hash_after m nt n key nonce aad c) d ≡ hash_after m nt n key nonce aad (c ++ d)
  hash-more CtrHmac c d h = more-hmac c d h
  hash-more Gcm c d h = more-gcm c d

  tag-hmac : (c : List ℕ) → length key ≤ 80 → length c ≡ n
      → tag_from CtrHmac nt key nonce (length aad) (length c) (hash_after CtrHmac nt n key nonce aad c) ≡ Aead.tag_in CtrHmac nt key nonce aad c
  unfolding ctr_tag hmac
  tag-hmac c h e =
      ap (λ (d : List ℕ). take nt (hash sha256 (masked sha256 opad (auth_key key) ++ d)))
      (digest-again (before (length aad) + length c) (M ++ (W ++ c)) (sym (taken-length c h))
      ∙ ap (λ (t : List ℕ). hash sha256 (M ++ t)) (ap (λ (i : ℕ). tag_front nt i nonce aad ++ c) (sym e) ∙ sym (input-cut nt nonce aad c)))

  tag-gcm : (c : List ℕ) → tag_from Gcm nt key nonce (length aad) (length c) (hash_after Gcm nt n key nonce aad c) ≡ Aead.tag_in Gcm nt key nonce aad c
  unfolding gcm_tag Galois.hash
  tag-gcm c =
      let h = hash_key key in
      ap (λ (v : ℕ). xors (bytes 16 (product (bit_xor v (pair (8 * length aad) (8 * length c))) h)) (encrypt key (counter_block nonce 1)))
      (blocks-again h (absorb h 0 aad) c (hash-key-lt key) (absorb-lt h 0 aad (hash-key-lt key) zero-below) (length c % 16) refl)

  tag-more : (m : Mode) (c : List ℕ) → length key ≤ 80 → length c ≡ n
      → tag_from m nt key nonce (length aad) (length c) (hash_after m nt n key nonce aad c) ≡ Aead.tag_in m nt key nonce aad c
  tag-more CtrHmac c h e = tag-hmac c h e
  tag-more Gcm c h e = tag-gcm c

-- ---- the fields of a state

hash-length-is : (m : Mode) (nt n : ℕ) (key nonce aad c : List ℕ) → length (hash_after m nt n key nonce aad c) ≡ 96
hash-length-is CtrHmac nt n key nonce aad c = fed-fresh-length _
hash-length-is Gcm nt n key nonce aad c = block-length _ c

-- what is pasted over a part of equal length
swapped : (p o x r : List ℕ) (i : ℕ) → length p ≡ i → length o ≡ length x → pasted (p ++ (o ++ r)) i x ≡ p ++ (x ++ r)
unfolding pasted
swapped p o x r i e f =
    ap₂ (λ (a b : List ℕ). a ++ (x ++ b)) (take_at p (o ++ r) i e)
    (sym (drop-drop (length x) i (p ++ (o ++ r))) ∙ ap (drop (length x)) (drop_at p (o ++ r) i e) ∙ drop_at o r (length x) f)

module _ (kind : ℕ) (suite : Suite) (n : ℕ) (nonce key aad : List ℕ) (g : Given suite n nonce key aad) where
  m : Mode
  m = mode_of suite

  key-most : length key ≤ 48
  key-most = omega (arith, g.key_sized, Nk-most suite)

  module _ (c rest : List ℕ) where
    abbrev F : List ℕ
    F = front kind suite (length aad) n

    abbrev H : List ℕ
    H = hash_after (mode_of suite) (Nt suite) n key nonce aad c

    abbrev S : List ℕ
    S = state_after kind suite n nonce key aad c ++ rest

    abbrev P : List ℕ
    P = F ++ (nonce ++ key_field key)

    F-length : length F ≡ 8
    unfolding front
    F-length = simp (length-append, bytes-length)

    K-length : length (key_field key) ≡ 48
    unfolding key_field
    K-length = length-append key (replicate (48 - length key) 0) ∙ rw (length-replicate {A = ℕ} (48 - length key) 0) (omega (arith, key-most))

    T-length : length (bytes 4 (length c)) ≡ 4
    T-length = bytes-length 4 (length c)

    H-length : length H ≡ 96
    H-length = hash-length-is (mode_of suite) (Nt suite) n key nonce aad c

    P-length : length P ≡ 68
    P-length = length-append F (nonce ++ key_field key) ∙ rw (length-append nonce (key_field key), F-length, g.nonce_sized, K-length)

    -- the state in its parts
    flat : S ≡ F ++ (nonce ++ (key_field key ++ (bytes 4 (length c) ++ (H ++ rest))))
    unfolding state_after
    flat = simp append_assoc

    flat-P : S ≡ P ++ ((bytes 4 (length c) ++ H) ++ rest)
    unfolding state_after
    flat-P = simp append_assoc

    d8 : drop 8 S ≡ nonce ++ (key_field key ++ (bytes 4 (length c) ++ (H ++ rest)))
    d8 = ap (drop 8) flat ∙ drop_at F (nonce ++ (key_field key ++ (bytes 4 (length c) ++ (H ++ rest)))) 8 F-length

    d20 : drop 20 S ≡ key_field key ++ (bytes 4 (length c) ++ (H ++ rest))
    d20 = sym (drop-drop 12 8 S) ∙ ap (drop 12) d8 ∙ drop_at nonce (key_field key ++ (bytes 4 (length c) ++ (H ++ rest))) 12 g.nonce_sized

    d68 : drop 68 S ≡ bytes 4 (length c) ++ (H ++ rest)
    d68 = sym (drop-drop 48 20 S) ∙ ap (drop 48) d20 ∙ drop_at (key_field key) (bytes 4 (length c) ++ (H ++ rest)) 48 K-length

    d72 : drop 72 S ≡ H ++ rest
    d72 = sym (drop-drop 4 68 S) ∙ ap (drop 4) d68 ∙ drop_at (bytes 4 (length c)) (H ++ rest) 4 T-length

    pub nonce-is : nonce_in S ≡ nonce
    nonce-is = ap (take 12) d8 ∙ take_at nonce (key_field key ++ (bytes 4 (length c) ++ (H ++ rest))) 12 g.nonce_sized

    pub key-is : key_in suite S ≡ key
    unfolding key_field
    key-is =
        ap (take (Nk suite)) (d20 ∙ append_assoc key (replicate (48 - length key) 0) (bytes 4 (length c) ++ (H ++ rest)))
        ∙ take_at key (replicate (48 - length key) 0 ++ (bytes 4 (length c) ++ (H ++ rest))) (Nk suite) g.key_sized

    hash-is : hash_in S ≡ H
    hash-is = ap (take 96) d72 ∙ take_at H rest 96 H-length

    pub taken_is : length c ≤ n → taken_in S ≡ length c
    taken_is h =
        ap (number 4) d68 ∙ number_append 4 (bytes 4 (length c)) (H ++ rest) (omega (arith, T-length)) ∙ number-bytes 4 (length c)
        ∙ mod-eq_of_lt (omega (arith, g.announced))

    d2 : drop 2 S ≡ (bytes 2 (length aad) ++ bytes 4 n) ++ (nonce ++ (key_field key ++ (bytes 4 (length c) ++ (H ++ rest))))
    unfolding front
    d2 = ap (drop 2) flat

    aad-is : aad_in S ≡ length aad
    aad-is =
        ap (number 2) (d2 ∙ append_assoc (bytes 2 (length aad)) (bytes 4 n) _)
        ∙ number_append 2 (bytes 2 (length aad)) _ (omega (arith, bytes-length 2 (length aad))) ∙ number-bytes 2 (length aad)
        ∙ mod-eq_of_lt (omega (arith, g.most))

    pub announced-is : announced_in S ≡ n
    announced-is =
        ap (number 4)
        (sym (drop-drop 2 2 S) ∙ ap (drop 2) (d2 ∙ append_assoc (bytes 2 (length aad)) (bytes 4 n) _)
        ∙ drop_at (bytes 2 (length aad)) _ 2 (bytes-length 2 (length aad)))
        ∙ number_append 4 (bytes 4 n) _ (omega (arith, bytes-length 4 n)) ∙ number-bytes 4 n ∙ mod-eq_of_lt (omega (arith, g.announced))

    kind-is : kind_in S ≡ kind
    unfolding front
    kind-is = ap (λ (l : List ℕ). get_or l 0 0) flat

    suite-is : suite_in S ≡ Some suite
    unfolding front
    suite-is = ap (λ (l : List ℕ). suite_of (get_or l 1 0)) flat ∙ number-known suite

    pub S-length : length S ≡ 168 + length rest
    S-length =
        ap length flat-P ∙ length-append P ((bytes 4 (length c) ++ H) ++ rest)
        ∙ rw (P-length, length-append (bytes 4 (length c) ++ H) rest, length-append (bytes 4 (length c)) H, T-length, H-length) (omega arith)

    -- The state is a possible one of its kind and suite.
    pub line-is : length c ≤ n → line_of kind S ≡ Some suite
    unfolding line_of fits counts_fit
    line-is h =
        rw (
          le-leb 168 (length S) (omega (arith, S-length)),
          eq-eqb (kind_in S) kind kind-is,
          aad-is,
          announced-is,
          taken_is h,
          le-leb 1 (length aad) g.least,
          le-leb (length aad) max_aad g.most,
          le-leb n max_plaintext g.announced,
          le-leb (length c) n h,
        ) suite-is

    -- The state once d has been taken too.
    pub taken-on : (d : List ℕ) → length c + length d ≤ n → after suite S d ≡ state_after kind suite n nonce key aad (c ++ d) ++ rest
    unfolding after state_after
    taken-on d h =
        let t = taken_is (omega arith) in
        let x = bytes 4 (length (c ++ d)) ++ hash_after (mode_of suite) (Nt suite) n key nonce aad (c ++ d) in
        let lx : length x ≡ 100 = length-append (bytes 4 (length (c ++ d))) _ ∙ rw (bytes-length 4 (length (c ++ d)), hash-length-is (mode_of suite) (Nt suite) n key nonce aad (c ++ d)) in
        let lo : length (bytes 4 (length c) ++ H) ≡ 100 = length-append (bytes 4 (length c)) H ∙ rw (T-length, H-length) in
        ap₂ (λ (i : ℕ) (z : List ℕ). pasted S 68 (bytes 4 (i + length d) ++ hash_more (mode_of suite) z (aad_in S) i (hash_in S) d)) t key-is
        ∙ ap₂ (λ (i : ℕ) (z : List ℕ). pasted S 68 (bytes 4 (length c + length d) ++ hash_more (mode_of suite) key i (length c) z d)) aad-is hash-is
        ∙ ap₂ (λ (i : ℕ) (z : List ℕ). pasted S 68 (bytes 4 i ++ z)) (sym (length-append c d)) (hash-more key nonce aad (Nt suite) n g.nonce_sized (mode_of suite) c d (omega (arith, key-most)))
        ∙ ap (λ (l : List ℕ). pasted l 68 x) flat-P
        ∙ swapped P (bytes 4 (length c) ++ H) x rest 68 P-length (lo ∙ sym lx)
        ∙ simp append_assoc

    -- The tag is that of the ciphertext, once all of it has been taken.
    pub tag_is : length c ≡ n → tag_in suite S ≡ Aead.tag suite key nonce aad c
    unfolding tag_in Aead.tag
    tag_is e =
        ap₂ (λ (z w : List ℕ). tag_from (mode_of suite) (Nt suite) z w (aad_in S) (taken_in S) (hash_in S)) key-is nonce-is
        ∙ ap₂ (λ (i j : ℕ). tag_from (mode_of suite) (Nt suite) key nonce i j (hash_in S)) aad-is (taken_is (omega arith))
        ∙ ap (tag_from (mode_of suite) (Nt suite) key nonce (length aad) (length c)) hash-is
        ∙ tag-more key nonce aad (Nt suite) n g.nonce_sized (mode_of suite) c (omega (arith, key-most)) e

  -- The ciphertext goes on where that of the plaintext p ended.
  pub cipher-on : (p x rest : List ℕ) → length p + length x ≤ n
      → ciphertext suite key nonce (p ++ x) ≡ ciphertext suite key nonce p ++ cipher_piece suite (state_after kind suite n nonce key aad (ciphertext suite key nonce p) ++ rest) x
  unfolding ciphertext cipher_piece
  cipher-on p x rest h =
      let c = ciphertext suite key nonce p in
      let k = cipher_key suite key in
      let f = first_count (mode_of suite) in
      let l : length c ≡ length p = ciphertext-length suite key nonce p in
      sym (Stream.from_start k nonce f (p ++ x)) ∙ Stream.cut k nonce f 0 p x
      ∙ ap₂ (λ (a b : List ℕ). a ++ b) (Stream.from_start k nonce f p)
      (ap (λ (i : ℕ). ctr_from k nonce f i x) (zero-add (length p) ∙ sym l ∙ sym (taken_is c rest (omega arith)))
      ∙ sym (ap₂ (λ (a b : List ℕ). ctr_from (cipher_key suite a) b f (taken_in (state_after kind suite n nonce key aad c ++ rest)) x) (key-is c rest) (nonce-is c rest)))
