-- SPDX-License-Identifier: MIT
-- The steps of the code, over plain variables. Assumes nothing.
use mathlib.Core.Path.{◌≡◌, refl, ◌∙◌, ap, ap₂}
use mathlib.Core.List.{List, [], ◌++◌, append-nil}
use Prim.Native.Nat.{ℕ, ◌+◌, ◌-◌, ◌≤◌}
use native.Mathlib.Nat.{sub-zero}
use native.Mathlib.Omega.{arith}
use lib.ListN.{length, take, drop, length-append}
use lib.Seq.{take_at}
use Rattle.octets.specs.Octets.{bytes, pasted, xors}
use Rattle.octets.proofs.Writing.{front-all, three-written}
use Rattle.octets.proofs.Laws.{bytes-length, pasted-front}
use Rattle.sha2_common.specs.Sha2.{Params}
use Rattle.hmac.specs.Hkdf.{extract, expand}
use Rattle.suites.specs.declared.sizes.Suite.{Suite}
use Rattle.suites.specs.Suites.{number_of, Nn, hash_of}
use Rattle.suites.specs.Derivation.{secret, label, derived, nonce}

pub label-written : (o a b r t : List ℕ) (s : Suite) (n kid : ℕ) → length t + 10 ≤ length o → a ≡ pasted o 0 t → b ≡ pasted a (length t) (bytes 8 kid)
    → r ≡ pasted b (length t + 8) (bytes 2 n) → n ≡ number_of s → r ≡ pasted o 0 (label t s kid)
unfolding label
label-written o a b r t s n kid h p q w e =
    let lk = bytes-length 8 kid in
    let lm = bytes-length 2 n in
    three-written o a b r t (bytes 8 kid) (bytes 2 n) (length t) (length t + 8) (omega arith) refl (omega arith) p q w
    ∙ ap (λ (x : ℕ). pasted o 0 (t ++ (bytes 8 kid ++ bytes 2 x))) e

-- the label at the front of the room that it was written to
pub label-front : (o p t : List ℕ) (s : Suite) (kid n : ℕ) → n ≡ length t + 8 + 2 → p ≡ pasted o 0 (label t s kid) → take (n - 0) p ≡ label t s kid
unfolding label
label-front o p t s kid n e h =
    let l = label t s kid in
    let m : length l ≡ n = simp (length-append, bytes-length) (omega arith) in
    rw (sub-zero, h, pasted-front) (take_at l _ n m)

pub nonce-made : (y c n r t : List ℕ) (ctr : ℕ) → length t ≡ Nn → length y ≤ Nn → c ≡ bytes Nn ctr ++ [] → n ≡ t ++ drop (length t) y → r ≡ xors n c
    → r ≡ nonce t ctr
unfolding nonce
nonce-made y c n r t ctr h hy p q e = e ∙ ap₂ xors (q ∙ front-all t y (length t) (omega arith)) (p ∙ append-nil (bytes Nn ctr))

-- what is expanded with the suite's hash
pub expanded : (p : Params) (s : Suite) (base e l r : List ℕ) (n : ℕ) → p ≡ hash_of s → e ≡ extract p [] base → r ≡ expand p e l n → r ≡ expand (hash_of s) (secret s base) l n
unfolding secret
expanded p s base e l r n is x w = rw (w, x, is)

-- what is expanded under the label of a text
pub label-derived : (s : Suite) (base t l r : List ℕ) (kid n : ℕ) → l ≡ label t s kid → r ≡ expand (hash_of s) (secret s base) l n → r ≡ derived t s base kid n
unfolding derived
label-derived s base t l r kid n e w = rw (w, e)
