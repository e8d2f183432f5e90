-- SPDX-License-Identifier: MIT
-- The pairs of a log of sealings, and those that stand in it twice or more. Assumes nothing.
use Rattle.std.specs.Prelude.{Bool, true, false, List, [], ◌∷◌, ℕ, zero, suc, ◌<◌, eqb, ltb, drop}
use Rattle.octets.specs.Octets.{number, pick}

-- A record is a KID and a counter, 8 bytes each, big-endian.
abbrev pub record_size : ℕ
record_size = 16

-- The first n records of a log. A pair is one number, KID * 2 ^ 64 + counter: its order is that of the KID and then the counter.
unfoldable pub pairs : (n : ℕ) (log : List ℕ) → List ℕ
pairs zero log = []
pairs (suc n) log = number record_size log ∷ pairs n (drop record_size log)

unfoldable pub among : ℕ → List ℕ → Bool
among v [] = false
among v (w ∷ ws) = pick (eqb w v) true (among v ws)

-- v put into a rising list, once.
unfoldable pub inserted : ℕ → List ℕ → List ℕ
inserted v [] = v ∷ []
inserted v (w ∷ ws) = pick (ltb v w) (v ∷ w ∷ ws) (pick (eqb w v) (w ∷ ws) (w ∷ inserted v ws))

-- The pairs that stand in a list twice or more, each once and rising.
unfoldable pub repeated : List ℕ → List ℕ
repeated [] = []
repeated (v ∷ vs) = pick (among v vs) (inserted v (repeated vs)) (repeated vs)

-- ---- the words of the laws of `repeated`

-- How often v stands in a list.
unfoldable pub times : ℕ → List ℕ → ℕ
times v [] = 0
times v (w ∷ ws) = pick (eqb w v) (suc (times v ws)) (times v ws)

-- Each is below the next.
abbrev pub Above : ℕ → List ℕ → Type 0
Above v [] = Unit {0}
Above v (w ∷ ws) = v < w

abbrev pub Rising : List ℕ → Type 0
Rising [] = Unit {0}
Rising (v ∷ vs) = Above v vs × Rising vs
