-- SPDX-License-Identifier: MIT
-- Laws of the suites, once over all five, for this crate's proofs and for those above it. Assumes nothing.
use Rattle.std.specs.Prelude.{Some, None}
use mathlib.Core.Path.{◌≡◌, refl, sym, ◌∙◌, ap}
use mathlib.Core.List.{List}
use Prim.Native.Nat.{ℕ, zero, suc, ◌^◌, ◌<◌, ◌≤◌}
use native.Mathlib.Nat.{mod-eq_of_lt, lt_of_lt_of_le, pow-le-pow_right}
use native.Mathlib.Omega.{arith}
use lib.Bits.{bit_xor, xor_comm}
use lib.ListN.{length, get_or}
use lib.Seq.{ext_get_or}
use borrow.Author.Tests.{ne_eqb}
use Rattle.octets.specs.Octets.{Octets, bytes, number, xors}
use Rattle.octets.proofs.Bits.{xor-twice}
use Rattle.octets.proofs.Laws.{bytes-length, bytes-octets, number-bytes, xors-length, xors-octets, xors-at}
use Rattle.sha2_common.specs.Sizes.{initial256, initial512}
use Rattle.suites.specs.declared.sizes.Suite.{Suite}
use Rattle.suites.specs.declared.sizes.Suite.TheVariants.{Ctr80, Ctr64, Ctr32, Gcm128, Gcm256}
use Rattle.suites.specs.declared.sizes.Mode.TheVariants.{CtrHmac, Gcm}
use Rattle.suites.specs.Suites.{table, suite_of, number_of, Nh, Nk, Nka, Nn, Nt, hash_of, mode_of}
use Rattle.suites.specs.Derivation.{secret_key, secret_salt, derived, sframe_key, sframe_salt, nonce}
use Rattle.hmac.specs.Hkdf.{hash_len, expand}
use Rattle.hmac.proofs.Laws.{expand-length, expand-octets}

-- ---- numbers

pub number-byte : (s : Suite) → number_of s < 256
number-byte Ctr80 = omega arith
number-byte Ctr64 = omega arith
number-byte Ctr32 = omega arith
number-byte Gcm128 = omega arith
number-byte Gcm256 = omega arith

-- a suite's number finds it
pub number-known : (s : Suite) → suite_of (number_of s) ≡ Some s
unfolding suite_of
number-known Ctr80 = refl
number-known Ctr64 = refl
number-known Ctr32 = refl
number-known Gcm128 = refl
number-known Gcm256 = refl

number-high : (n : ℕ) → suite_of (suc (suc (suc (suc (suc (suc n)))))) ≡ None
unfolding suite_of
number-high n =
    let m = suc (suc (suc (suc (suc (suc n))))) in
    rw (ne_eqb m 1 (λ z. omega arith), ne_eqb m 2 (λ z. omega arith), ne_eqb m 3 (λ z. omega arith), ne_eqb m 4 (λ z. omega arith), ne_eqb m 5 (λ z. omega arith))

-- and no other number does
pub number_is : (n : ℕ) (s : Suite) → suite_of n ≡ Some s → n ≡ number_of s
unfolding suite_of
number_is zero s e = let z : ◌≡◌ {A = ℕ} 0 1 = cc in absurd (omega arith)
number_is (suc zero) s e = let q : Ctr80 ≡ s = cc in ap number_of q
number_is (suc (suc zero)) s e = let q : Ctr64 ≡ s = cc in ap number_of q
number_is (suc (suc (suc zero))) s e = let q : Ctr32 ≡ s = cc in ap number_of q
number_is (suc (suc (suc (suc zero)))) s e = let q : Gcm128 ≡ s = cc in ap number_of q
number_is (suc (suc (suc (suc (suc zero))))) s e = let q : Gcm256 ≡ s = cc in ap number_of q
number_is (suc (suc (suc (suc (suc (suc n)))))) s e =
    let u : None ≡ Some s = sym (number-high n) ∙ e in
    let z : ◌≡◌ {A = ℕ} 0 1 = cc in
    absurd (omega arith)

-- ---- sizes

-- Nh lies within the lengths of a base key
pub Nh-least : (s : Suite) → 16 ≤ Nh s
Nh-least Ctr80 = omega arith
Nh-least Ctr64 = omega arith
Nh-least Ctr32 = omega arith
Nh-least Gcm128 = omega arith
Nh-least Gcm256 = omega arith

pub Nh-most : (s : Suite) → Nh s ≤ 64
Nh-most Ctr80 = omega arith
Nh-most Ctr64 = omega arith
Nh-most Ctr32 = omega arith
Nh-most Gcm128 = omega arith
Nh-most Gcm256 = omega arith

pub Nk-most : (s : Suite) → Nk s ≤ 48
Nk-most Ctr80 = omega arith
Nk-most Ctr64 = omega arith
Nk-most Ctr32 = omega arith
Nk-most Gcm128 = omega arith
Nk-most Gcm256 = omega arith

pub Nt-most : (s : Suite) → Nt s ≤ 16
Nt-most Ctr80 = omega arith
Nt-most Ctr64 = omega arith
Nt-most Ctr32 = omega arith
Nt-most Gcm128 = omega arith
Nt-most Gcm256 = omega arith

-- the two modes differ
pub ctr-not-gcm : CtrHmac ≡ Gcm → ⊥
ctr-not-gcm e = let z : ◌≡◌ {A = ℕ} 0 1 = cc in omega arith

-- Table 1's columns that have one value: Nn, Nka where there is one, and Nh as the hash has it
pub row-nn : (s : Suite) → (table s).nn ≡ Nn
row-nn Ctr80 = refl
row-nn Ctr64 = refl
row-nn Ctr32 = refl
row-nn Gcm128 = refl
row-nn Gcm256 = refl

pub row-nka : (s : Suite) → mode_of s ≡ CtrHmac → (table s).nka ≡ Nka
row-nka Ctr80 e = refl
row-nka Ctr64 e = refl
row-nka Ctr32 e = refl
row-nka Gcm128 e = absurd (ctr-not-gcm (sym e))
row-nka Gcm256 e = absurd (ctr-not-gcm (sym e))

pub row-nh : (s : Suite) → (table s).nh ≡ hash_len (hash_of s)
row-nh Ctr80 = refl
row-nh Ctr64 = refl
row-nh Ctr32 = refl
row-nh Gcm128 = refl
row-nh Gcm256 = refl

-- in counter mode with HMAC, the key and the tag have these sizes
pub ctr-sizes : (s : Suite) → mode_of s ≡ CtrHmac → (Nk s ≡ 48) × (Nt s ≤ 16)
ctr-sizes Ctr80 e = (refl, omega arith)
ctr-sizes Ctr64 e = (refl, omega arith)
ctr-sizes Ctr32 e = (refl, omega arith)
ctr-sizes Gcm128 e = absurd (ctr-not-gcm (sym e))
ctr-sizes Gcm256 e = absurd (ctr-not-gcm (sym e))

pub gcm-sizes : (s : Suite) → mode_of s ≡ Gcm → Nt s ≡ 16
gcm-sizes Ctr80 e = absurd (ctr-not-gcm e)
gcm-sizes Ctr64 e = absurd (ctr-not-gcm e)
gcm-sizes Ctr32 e = absurd (ctr-not-gcm e)
gcm-sizes Gcm128 e = refl
gcm-sizes Gcm256 e = refl

-- ---- derivation

-- the state of a suite's hash has eight words
pub hash-eight : (s : Suite) → length (hash_of s).initial ≡ 8
unfolding initial256 initial512
hash-eight Ctr80 = refl
hash-eight Ctr64 = refl
hash-eight Ctr32 = refl
hash-eight Gcm128 = refl
hash-eight Gcm256 = refl

hash-some : (s : Suite) → 0 < (hash_of s).size
hash-some Ctr80 = omega arith
hash-some Ctr64 = omega arith
hash-some Ctr32 = omega arith
hash-some Gcm128 = omega arith
hash-some Gcm256 = omega arith

-- what is expanded with a suite's hash has the length asked for, and is bytes
pub expanded-length : (s : Suite) (prk info : List ℕ) (n : ℕ) → length (expand (hash_of s) prk info n) ≡ n
expanded-length s prk info n = expand-length (hash_of s) (hash-eight s) (hash-some s) prk info n

pub expanded-octets : (s : Suite) (prk info : List ℕ) (n : ℕ) → Octets (expand (hash_of s) prk info n)
expanded-octets s prk info n = expand-octets (hash_of s) prk info n

derived-length : (t : List ℕ) (s : Suite) (base : List ℕ) (kid n : ℕ) → length (derived t s base kid n) ≡ n
unfolding derived
derived-length t s base kid n = expanded-length s _ _ n

derived-octets : (t : List ℕ) (s : Suite) (base : List ℕ) (kid n : ℕ) → Octets (derived t s base kid n)
unfolding derived
derived-octets t s base kid n = expanded-octets s _ _ n

pub key-length : (s : Suite) (base : List ℕ) (kid : ℕ) → length (sframe_key s base kid) ≡ Nk s
unfolding sframe_key
key-length s base kid = derived-length secret_key s base kid (Nk s)

pub key-octets : (s : Suite) (base : List ℕ) (kid : ℕ) → Octets (sframe_key s base kid)
unfolding sframe_key
key-octets s base kid = derived-octets secret_key s base kid (Nk s)

pub salt-length : (s : Suite) (base : List ℕ) (kid : ℕ) → length (sframe_salt s base kid) ≡ Nn
unfolding sframe_salt
salt-length s base kid = derived-length secret_salt s base kid Nn

pub salt-octets : (s : Suite) (base : List ℕ) (kid : ℕ) → Octets (sframe_salt s base kid)
unfolding sframe_salt
salt-octets s base kid = derived-octets secret_salt s base kid Nn

-- ---- the nonce

pub nonce-length : (t : List ℕ) (n : ℕ) → length t ≡ Nn → length (nonce t n) ≡ Nn
unfolding nonce
nonce-length t n h = xors-length t (bytes Nn n) ∙ h

pub nonce-octets : (t : List ℕ) (n : ℕ) → Octets t → Octets (nonce t n)
unfolding nonce
nonce-octets t n o = xors-octets t (bytes Nn n) o (bytes-octets Nn n)

xor-cancel : (a b c : ℕ) → bit_xor a b ≡ bit_xor a c → b ≡ c
xor-cancel a b c e = sym (xor-twice b a) ∙ ap (λ (x : ℕ). bit_xor x a) (xor_comm b a ∙ e ∙ xor_comm a c) ∙ xor-twice c a

xors-cancel : (t x y : List ℕ) → length x ≡ length t → length y ≡ length t → xors t x ≡ xors t y → x ≡ y
xors-cancel t x y hx hy e =
    ext_get_or 0 x y (hx ∙ sym hy) (λ i h. xor-cancel (get_or t i 0) (get_or x i 0) (get_or y i 0)
    (sym (xors-at t x i (omega arith)) ∙ ap (λ (l : List ℕ). get_or l i 0) e ∙ xors-at t y i (omega arith)))

-- under one salt, different counters of Nn bytes give different nonces
pub nonce-differs : (t : List ℕ) (a b : ℕ) → length t ≡ Nn → a < 256 ^ Nn → b < 256 ^ Nn → nonce t a ≡ nonce t b → a ≡ b
unfolding nonce
nonce-differs t a b h ha hb e =
    let q : bytes Nn a ≡ bytes Nn b = xors-cancel t (bytes Nn a) (bytes Nn b) (bytes-length Nn a ∙ sym h) (bytes-length Nn b ∙ sym h) e in
    sym (mod-eq_of_lt ha) ∙ sym (number-bytes Nn a) ∙ ap (number Nn) q ∙ number-bytes Nn b ∙ mod-eq_of_lt hb

-- and so do those of 64 bits
pub nonce-apart : (t : List ℕ) (a b : ℕ) → length t ≡ Nn → a < 2 ^ 64 → b < 2 ^ 64 → nonce t a ≡ nonce t b → a ≡ b
nonce-apart t a b h ha hb e =
    let w : 2 ^ 64 ≤ 256 ^ 12 = pow-le-pow_right {n = 2} (omega arith) {i = 64} {j = 96} (omega arith) in
    nonce-differs t a b h (lt_of_lt_of_le ha w) (lt_of_lt_of_le hb w) e
