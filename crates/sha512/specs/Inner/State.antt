-- SPDX-License-Identifier: MIT
-- Cited by inner contracts only: the code's state as the running hash of SHA-512. Assumes nothing.
use Rattle.std.specs.Prelude.{ℕ, List}
use Rattle.sha2_common.specs.Sizes.{sha512}
use Rattle.sha2_common.specs.Running.{State, state_of}
use Rattle.sha2_common.specs.Inner.Words.{words_of}
use Rattle.sha2_common.specs.declared.rounds.Words.{Words}
use Rattle.sha2_common.specs.declared.running.Running.{Running}
use Rattle.sha512.specs.declared.Word512.{Word512}

abbrev pub words512 : Words Word512 → List ℕ
words512 v = words_of (λ x. x.0) v

abbrev pub state512 : Running (Words Word512) 128 64 → State
state512 s = state_of (words512 s.value) s.waiting s.len
