-- SPDX-License-Identifier: MIT
-- Cited by inner contracts only: the code's state as the running hash of SHA-256. Assumes nothing.
use Rattle.std.specs.Prelude.{ℕ, List}
use Rattle.sha2_common.specs.Sizes.{sha256}
use Rattle.sha2_common.specs.Running.{State, state_of}
use Rattle.sha2_common.specs.Inner.Words.{words_of}
use Rattle.sha2_common.specs.declared.rounds.Words.{Words}
use Rattle.sha2_common.specs.declared.running.Running.{Running}
use Rattle.sha256.specs.declared.Word256.{Word256}

abbrev pub words256 : Words Word256 → List ℕ
words256 v = words_of (λ x. x.0) v

abbrev pub state256 : Running (Words Word256) 64 32 → State
state256 s = state_of (words256 s.value) s.waiting s.len
