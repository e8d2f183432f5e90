-- SPDX-License-Identifier: MIT
-- Bytes and lists of bytes. A byte string is a list of numbers below 256, its first byte at index 0.
-- Assumes nothing.
use Rattle.std.specs.Prelude.{Bool, true, false, List, [], ◌∷◌, ◌++◌, ℕ, zero, suc, ◌+◌, ◌*◌, ◌/◌, ◌%◌, ◌^◌, ◌<◌, eqb, length, get_or, take, drop}
use Prim.Native.Char.{code}
use Prim.Native.String as Text
use Rattle.std.specs.Int.Bits.{bit_xor}

-- Every element is a byte.
abbrev pub Octets : List ℕ → Type 0
Octets l = (i : ℕ) → get_or l i 0 < 256

-- The number that the first n bytes of l are, big-endian.
unfoldable pub number : ℕ → List ℕ → ℕ
number zero l = 0
number (suc n) l = number n l * 256 + get_or l n 0

-- x as n bytes, big-endian: its lowest n digits to the base 256.
unfoldable pub bytes : ℕ → ℕ → List ℕ
bytes zero x = []
bytes (suc n) x = (x / 256 ^ n % 256) ∷ bytes n x

-- l with x written over it from index i on.
unfoldable pub pasted : (l : List ℕ) (i : ℕ) (x : List ℕ) → List ℕ
pasted l i x = take i l ++ (x ++ drop (i + length x) l)

-- x XOR y, byte by byte, as long as x; y counts as zero past its end.
unfoldable pub xors : List ℕ → List ℕ → List ℕ
xors [] y = []
xors (a ∷ x) y = bit_xor a (get_or y 0 0) ∷ xors x (drop 1 y)

-- The ASCII codes of a text.
abbrev pub ascii : Text.String → List ℕ
ascii Text.[] = []
ascii (Text.◌∷◌ c s) = code c ∷ ascii s

-- a where the test holds, else b.
abbrev pub pick : {A : Type 0} → (test : Bool) (a b : A) → A
pick true a b = a
pick false a b = b

abbrev pub both : Bool → Bool → Bool
both true b = b
both false b = false

-- Whether two byte strings are equal.
unfoldable pub same : List ℕ → List ℕ → Bool
same [] [] = true
same [] (b ∷ y) = false
same (a ∷ x) [] = false
same (a ∷ x) (b ∷ y) = both (eqb a b) (same x y)
