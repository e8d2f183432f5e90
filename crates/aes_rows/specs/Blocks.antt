-- SPDX-License-Identifier: MIT
-- The blocks of a state in planes, as states of FIPS 197.
-- Assumes nothing.
use Rattle.std.specs.Prelude.{◌≡◌, List, ℕ, ◌+◌, ◌*◌, ◌-◌, ◌<◌, length, get_or}
use Rattle.aes.specs.Aes.{word, columns}
use Rattle.aes_rows.specs.Rounds.{byte_at}

-- The lane of column c of block m.
abbrev pub place : ℕ → ℕ → ℕ
place c m = 16 * (3 - c) + m

-- Column c of block m, and the state of block m.
unfoldable pub column : (q : List ℕ) (m c : ℕ) → ℕ
column q m c = word (byte_at q 0 (place c m)) (byte_at q 1 (place c m)) (byte_at q 2 (place c m)) (byte_at q 3 (place c m))

unfoldable pub state : List ℕ → ℕ → List ℕ
state q m = columns (column q m)

-- Each block of k is the round key r of the key schedule w.
pub record KeyPlanes (w : List ℕ) (r : ℕ) (k : List ℕ) : Type 0 where
  pub sized : length k ≡ 32
  pub each : (m c : ℕ) → m < 16 → c < 4 → column k m c ≡ get_or w (4 * r + c) 0
