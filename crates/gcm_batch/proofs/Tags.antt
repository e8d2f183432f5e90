-- SPDX-License-Identifier: MIT
-- Laws of the hash key and of the tag.
-- Assumes nothing.
use mathlib.Core.Path.{◌≡◌, ap, sym, ◌∙◌, subst}
use mathlib.Core.List.{List, [], ◌++◌, append-nil}
use Prim.Native.Nat.{ℕ, ◌+◌, ◌-◌, ◌≤◌}
use native.Mathlib.Omega.{arith}
use borrow.Rule.Slice.PartMut.{put_mid}
use lib.ListN.{length, drop, take, replicate, length-append, length-take, length-drop, drop_of_length-le}
use Rattle.octets.specs.Octets.{number, bytes, xors}
use lib.Seq.{take_at, drop_at, take_all}
use Rattle.octets.proofs.Laws.{number-take}
use Rattle.aes.specs.Aes.{encrypt}
use Rattle.aes.proofs.Laws.{encrypt-length}
use Rattle.gcm.specs.Counter.{counter_block, ctr}
use Rattle.ghash.specs.Inner.HashKey.{HashKey}
use Rattle.gcm.specs.Gcm.{hash_key, hash, gcm_tag, gcm_ciphertext, gcm_encrypt}
use Rattle.gcm_batch.specs.Inner.Front.{Front}
use Rattle.gcm.proofs.Laws.{tag-length}

-- The encrypted block of zeros is that of the hash key.
pub hash-key-made : (key f t : List ℕ) (v : ℕ) → take 16 f ≡ encrypt key (replicate 16 0) → v ≡ number 16 f → HashKey v t → HashKey (hash_key key) t
unfolding hash_key
hash-key-made key f t v b e k =
    subst (λ (x : ℕ). HashKey x t) (e ∙ sym (number-take 16 16 f (omega arith)) ∙ ap (number 16) b) k

pub first-sized : (key f : List ℕ) → take 16 f ≡ encrypt key (replicate 16 0) → 16 ≤ length f
first-sized key f b = omega (arith, sym (length-take 16 f) ∙ ap length b ∙ encrypt-length key (replicate 16 0))

-- Its second block masks the tag.
pub tagged : (key nonce aad c f z s o : List ℕ) (y : ℕ) → Front key nonce f → length z ≡ 16 → y ≡ hash (hash_key key) aad c
    → s ≡ bytes 16 y ++ drop 16 z → o ≡ xors s (take 16 (drop 16 f)) → o ≡ gcm_tag key nonce aad c
unfolding gcm_tag counter_block
tagged key nonce aad c f z s o y b l e h g =
    let d : drop 16 z ≡ [] = drop_of_length-le z {i = 16} (omega arith) in
    g ∙ rw (h, d, e, append-nil (bytes 16 (hash (hash_key key) aad c)), b.each 1 (omega arith))

pub front_length : (p l : List ℕ) (n : ℕ) → length p ≡ n → n ≡ length (take n (p ++ l))
front_length p l n e = sym (ap length (take_at p l n e) ∙ e)

-- The ciphertext p at the front of z, and the tag m copied after it.
pub sealed : (key nonce aad x z p m q : List ℕ) → length z ≡ length x + 16 → length p ≡ length x → p ≡ ctr key nonce 2 x
    → m ≡ gcm_tag key nonce aad (take (length x) (p ++ drop (length x) z))
    → q ≡ m ++ drop (length m) (take (length (p ++ drop (length x) z) - length x) (drop (length x) (p ++ drop (length x) z)))
    → put_mid (length x) (length (p ++ drop (length x) z) - length x) (p ++ drop (length x) z) q ≡ gcm_encrypt key nonce aad x
unfolding gcm_encrypt gcm_ciphertext
sealed key nonce aad x z p m q d n e f g =
    let r = drop (length x) z in
    let lr : length r ≡ 16 = length-drop (length x) z ∙ omega arith in
    let u : take (length x) (p ++ r) ≡ p = take_at p r (length x) n in
    let v : drop (length x) (p ++ r) ≡ r = drop_at p r (length x) n in
    let k : length (p ++ r) - length x ≡ 16 = rw length-append (omega arith) in
    let lm : length m ≡ 16 = ap length f ∙ tag-length key nonce aad _ in
    let t : take 16 r ≡ r = take_all 16 r (omega arith) in
    let o : drop 16 r ≡ [] = drop_of_length-le r {i = 16} (omega arith) in
    let s : q ≡ m = g ∙ rw (v, k, lm, t, o) (append-nil m) in
    rw (v, k, u, s, o, append-nil m, f) (rw (u, e))
