-- SPDX-License-Identifier: MIT
-- The steps of the code, over plain variables. Assumes nothing.
use mathlib.Core.Path.{◌≡◌, sym, ◌∙◌, ap, ap₂}
use mathlib.Core.List.{List, ◌++◌}
use mathlib.Core.Bool.{Bool}
use Prim.Native.Nat.{ℕ, ◌+◌, ◌-◌, ◌≤◌}
use native.Mathlib.Nat.{sub-zero}
use native.Mathlib.Omega.{arith}
use lib.ListN.{length, take, drop, length-append, length-drop}
use lib.Seq.{length-take-le, take_all, take_at}
use borrow.Author.Tests.{le-leb}
use Rattle.octets.specs.Octets.{pasted, same, pick}
use Rattle.octets.proofs.Laws.{part-rest}
use Rattle.octets.proofs.Writing.{front-all}
use Rattle.aes.specs.Aes.{KeySize}
use Rattle.aes_keys.specs.Inner.Keys.{Context}
use Rattle.std.specs.Prelude.{Option, None, Some, IfSome}
use Rattle.gcm.specs.Counter.{ctr}
use Rattle.gcm_batch.specs.Inner.Front.{Front}
use Rattle.ciphers.specs.Inner.Fronts.{Fronted, count_of}
use Rattle.gcm.specs.Gcm.{gcm_tag}
use Rattle.suites.specs.declared.sizes.Suite.{Suite}
use Rattle.suites.specs.declared.sizes.Mode.TheVariants.{CtrHmac, Gcm}
use Rattle.suites.specs.Suites.{Nk, Nt, mode_of, cipher_key_size}
use Rattle.suites.proofs.Laws.{gcm-sizes}
use Rattle.aead.specs.Aead.{cipher_key, first_count, ctr_tag, tag, ciphertext, encrypt, decrypt, plain, differs}
use Rattle.aead.proofs.Laws.{cipher-key-size, whole-key, tag-length, ciphertext-length}

-- the part of the key that AES takes
module _ (s : Suite) (k : List ℕ) (n : ℕ) (e : n ≡ cipher_key_size s) where
  pub cipher-key-inside : length k ≡ Nk s → n ≤ length k
  cipher-key-inside h = omega (arith, (cipher-key-size s).0)

  pub cipher-key-fits : length k ≡ Nk s → KeySize (length (take (n - 0) k))
  cipher-key-fits h =
      let l : length (take (n - 0) k) ≡ cipher_key_size s = rw sub-zero (length-take-le n k (cipher-key-inside h) ∙ e) in
      rw l (cipher-key-size s).1

  pub cipher-context : (ctx : List ℕ) → Context (take (n - 0) k) ctx → Context (cipher_key s k) ctx
  cipher-context ctx h = rw (sub-zero, e) at h

-- what the front of a suite says
pub fronted-front : (s : Suite) (k n : List ℕ) (f : Option (List ℕ)) → Fronted s k n f → IfSome f (λ x. Front k n x)
fronted-front s k n None h = tt
fronted-front s k n (Some f) h = h.1

pub fronted-count : (s : Suite) (k n : List ℕ) (f : Option (List ℕ)) → Fronted s k n f → count_of f ≡ first_count (mode_of s)
fronted-count s k n None h = ap first_count (sym h)
fronted-count s k n (Some f) h = ap first_count (sym h.0)

-- the tag of a suite by its mode
pub tag-ctr : (s : Suite) (nt : ℕ) (k n a c t : List ℕ) → mode_of s ≡ CtrHmac → nt ≡ Nt s → take nt t ≡ ctr_tag nt k n a c → take (Nt s) t ≡ tag s k n a c
unfolding tag
tag-ctr s nt k n a c t m e h = rw (m, ← e) h

pub tag-gcm : (s : Suite) (k n a c t x : List ℕ) → mode_of s ≡ Gcm → length k ≡ Nk s → x ≡ cipher_key s k → length t ≡ 16 → t ≡ gcm_tag x n a c → take (Nt s) t ≡ tag s k n a c
unfolding tag
tag-gcm s k n a c t x m h e l q =
    rw (m, gcm-sizes s m) (take_all 16 t (omega arith) ∙ q ∙ ap (λ (y : List ℕ). gcm_tag y n a c) (e ∙ whole-key s k m h))

-- what is written to the front of a lent front part
pub front-lent : (l p x : List ℕ) (n : ℕ) → n ≤ length l → p ≡ x → p ++ drop (n - 0) l ≡ x ++ drop n l
front-lent l p x n h e = rw (sub-zero, e)

-- a ciphertext and its tag, written one behind the other
pub encrypted : (s : Suite) (k n a p o q r t x : List ℕ) (nt : ℕ) → x ≡ cipher_key s k → length o ≡ length p + Nt s → nt ≡ Nt s
    → q ≡ ctr x n (first_count (mode_of s)) p ++ drop (length p) o → take (Nt s) t ≡ tag s k n a (take (length p - 0) q) → r ≡ pasted q (length p) (take (nt - 0) t)
    → r ≡ encrypt s k n a p
unfolding encrypt ciphertext pasted
encrypted s k n a p o q r t x nt e h f w g z =
    let c = ciphertext s k n p in
    let lc : length c ≡ length p = ciphertext-length s k n p in
    let qc : q ≡ c ++ drop (length p) o = rw e at w in
    let front : take (length p) q ≡ c = ap (take (length p)) qc ∙ take_at c (drop (length p) o) (length p) lc in
    let part : take (length p - 0) q ≡ c = ap (λ (m : ℕ). take m q) (sub-zero (length p)) ∙ front in
    let own : take (nt - 0) t ≡ tag s k n a c = ap (λ (m : ℕ). take m t) (sub-zero nt ∙ f) ∙ g ∙ ap (tag s k n a) part in
    let lt : length (take (nt - 0) t) ≡ Nt s = ap length own ∙ tag-length s k n a c in
    let lq : length q ≡ length p + Nt s = ap length qc ∙ simp (length-append, length-drop) (omega arith) in
    z ∙ ap₂ ◌++◌ front (front-all (take (nt - 0) t) q (length p + length (take (nt - 0) t)) (omega arith) ∙ own)

-- the comparison of the tags is that of the definition
compared : (s : Suite) (k n a l t : List ℕ) (nt m : ℕ) → nt ≡ Nt s → take (Nt s) t ≡ tag s k n a (take (m - 0) l)
    → same (drop m l) (tag s k n a (take m l)) ≡ same (take (length l - m) (drop m l)) (take (nt - 0) t)
compared s k n a l t nt m f g =
    ap₂ same (sym (part-rest m l))
    (ap (λ (x : ℕ). tag s k n a (take x l)) (sym (sub-zero m)) ∙ sym g ∙ ap (λ (x : ℕ). take x t) (sym (sub-zero nt ∙ f)))

pub compared-tag : (s : Suite) (k n a l t : List ℕ) (nt m : ℕ) (b : Bool) → nt ≡ Nt s → m ≡ length l - nt → nt ≤ length l
    → take (Nt s) t ≡ tag s k n a (take (m - 0) l) → same (take (length l - m) (drop m l)) (take (nt - 0) t) ≡ b
    → decrypt s k n a l ≡ pick b (plain (ciphertext s k n (take m l))) differs
unfolding decrypt
compared-tag s k n a l t nt m b f e h g q =
    let d : length l - Nt s ≡ m = omega arith in
    let v = compared s k n a l t nt m f g ∙ q in
    rw (d, le-leb (Nt s) (length l) (omega arith), v)

pub front-size : (l : List ℕ) (n : ℕ) → n ≤ length l → length (take (n - 0) l) ≡ n
front-size l n h = rw sub-zero (length-take-le n l h)

-- the room after the plaintext has been written to it
pub room-opened : (s : Suite) (k n l o r x : List ℕ) (m : ℕ) → x ≡ cipher_key s k
    → r ≡ ctr x n (first_count (mode_of s)) (take (m - 0) l) ++ drop (length (take (m - 0) l)) o
    → r ≡ ciphertext s k n (take m l) ++ drop (length (ciphertext s k n (take m l))) o
unfolding ciphertext
room-opened s k n l o r x m e w =
    w
    ∙ ap₂ (λ (y : List ℕ) (i : ℕ). ctr y n (first_count (mode_of s)) (take i l) ++ drop (length (take i l)) o) e (sub-zero m)
    ∙ ap (λ (i : ℕ). ciphertext s k n (take m l) ++ drop i o) (sym (ciphertext-length s k n (take m l)))
