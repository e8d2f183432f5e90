-- SPDX-License-Identifier: MIT
-- Text in hexadecimal, and a count of cases. Assumes nothing.
use Rattle.std.specs.Prelude.{Bool, true, false, List, [], ◌∷◌, drop, ℕ, zero, suc, ◌+◌, ◌*◌, ◌-◌, ◌%◌, ◌^◌, Option, Some, None, is_some, nat_le, ◌&&◌, if◌then◌else◌}
use Rattle.std.specs.Option.{unwrap_or}
use Rattle.vector_text.specs.declared.Tally.{Tally}

-- the count after one case more
abbrev pub one_more : Bool → Tally → Tally
one_more true t = record { right = (t.right + 1) % 2 ^ 64; wrong = t.wrong }
one_more false t = record { right = t.right; wrong = (t.wrong + 1) % 2 ^ 64 }

-- the value of a digit: 0 to 9, a to f
abbrev pub digit : ℕ → Option ℕ
digit b =
    if nat_le 48 b && nat_le b 57
    then Some (b - 48)
    else if nat_le 97 b && nat_le b 102
    then Some (b - 97 + 10)
    else None

-- v with one more digit, in 64 bits
abbrev pub shifted : ℕ → ℕ → ℕ
shifted v d = v % 2 ^ 60 * 16 + d

-- the number that a text makes of v, digit by digit, as far as it has digits
abbrev pub number : ℕ → List ℕ → ℕ
number v [] = v
number v (b ∷ text) = if is_some (digit b) then number (shifted v (unwrap_or (digit b) 0)) text else v

-- what follows the digits at the front of a text
abbrev pub after_number : List ℕ → List ℕ
after_number [] = []
after_number (b ∷ text) = if is_some (digit b) then after_number text else b ∷ text

-- the byte that two digits at the front of a text are
abbrev pub byte : List ℕ → Option ℕ
byte [] = None
byte (a ∷ []) = None
byte (a ∷ b ∷ text) = if is_some (digit a) && is_some (digit b) then Some (unwrap_or (digit a) 0 * 16 + unwrap_or (digit b) 0) else None

-- the bytes that a text begins with, two digits each, but no more than so many
abbrev pub spelt : ℕ → List ℕ → List ℕ
spelt zero text = []
spelt (suc n) text = if is_some (byte text) then unwrap_or (byte text) 0 ∷ spelt n (drop 2 text) else []
