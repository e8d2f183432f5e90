-- SPDX-License-Identifier: MIT
-- What the tests leave, over plain variables. Assumes nothing.
use mathlib.Core.Path.{◌≡◌, ap, ◌∙◌}
use mathlib.Core.List.{List, ◌++◌, append-nil}
use native.Mathlib.Numerals.{add-one}
use native.Mathlib.Omega.{arith}
use Prim.Native.Nat.{ℕ, ◌+◌}
use lib.ListN.{length, drop, drop_of_length-le}
use Rattle.aes.specs.Aes.{KeySize, state_of, block_of, encrypt_state, encrypt}
use Rattle.aes.proofs.Laws.{encrypt-length}
use Rattle.sframe_test.specs.Judged.{AesKey}
use Rattle.sframe_test.specs.Repeated.{repeated}

-- a key that is taken is one of AES
pub key-size : {key : List ℕ} → AesKey key → KeySize (length key)
key-size k = record { whole = omega (arith, k.whole); least = k.least; most = k.most }

-- a block written over one of 16 bytes
whole : (x o : List ℕ) → length o ≡ 16 → x ++ drop 16 o ≡ x
whole x o l = rw (drop_of_length-le o {i = 16} (omega arith)) (append-nil x)

-- the block in o, read, encrypted and written to p
pub encrypt-step : (key o p s t : List ℕ) → length o ≡ 16 → s ≡ state_of o → t ≡ encrypt_state key s → p ≡ block_of t ++ drop 16 o
    → p ≡ encrypt key o
unfolding encrypt
encrypt-step key o p s t l e f g = g ∙ whole (block_of t) o l ∙ rw (f, e)

-- once more
pub repeat-step : (key x o p : List ℕ) (i : ℕ) → o ≡ repeated (encrypt key) i x → p ≡ encrypt key o
    → (length p ≡ 16) × (p ≡ repeated (encrypt key) (i + 1) x)
unfolding repeated
repeat-step key x o p i e f = (ap length f ∙ encrypt-length key o, f ∙ rw (e, add-one))

-- a block copied over 16 bytes
pub copied : (block o p : List ℕ) → length block ≡ 16 → length o ≡ 16 → p ≡ block ++ drop (length block) o → p ≡ block
copied block o p l m e = e ∙ ap (λ (n : ℕ). block ++ drop n o) l ∙ whole block o m

pub repeat-of : (k key x y : List ℕ) (n : ℕ) → k ≡ key → x ≡ y → repeated (encrypt k) n x ≡ repeated (encrypt key) n y
repeat-of k key x y n e f = rw (e, f)
