-- SPDX-License-Identifier: MIT
-- A running hash, over the parameters: its state, what it becomes when it is fed, and the digest that it gives. Assumes nothing.
use Rattle.std.specs.Prelude.{List, [], ◌++◌, ℕ, ◌+◌, ◌-◌, ◌*◌, ◌/◌, ◌%◌, length, take, drop, replicate}
use Rattle.sha2_common.specs.Sha2.{Params, run, joined, padding}

-- What is left of m after its whole blocks.
unfoldable pub left : Params → List ℕ → List ℕ
left p m = drop (length m / p.block * p.block) m

-- A block's room that holds w, with zeros behind it.
unfoldable pub room_of : Params → List ℕ → List ℕ
room_of p w = w ++ replicate (p.block - length w) 0

-- A state: the hash value of the whole blocks fed, a block's room whose front holds the bytes that wait, and the
-- number of bytes fed.
pub record State : Type 0 where
  pub value : List ℕ
  pub room : List ℕ
  pub len : ℕ

-- The bytes that wait.
abbrev pub waits : Params → State → List ℕ
waits p h = take (h.len % p.block) h.room

-- A new state.
abbrev pub fresh : Params → State
fresh p = record { value = p.initial; room = room_of p []; len = 0 }

-- The state that h becomes when it is fed s.
abbrev pub fed : (p : Params) (h : State) (s : List ℕ) → State
fed p h s = record { value = run p h.value (waits p h ++ s); room = room_of p (left p (waits p h ++ s)); len = h.len + length s }

-- The digest that the state h gives.
abbrev pub finished : Params → State → List ℕ
finished p h = joined p (run p h.value (waits p h ++ padding p h.len))

-- The code's state, by its fields.
abbrev pub state_of : (value room : List ℕ) (len : ℕ) → State
state_of v w n = record { value = v; room = w; len = n }
