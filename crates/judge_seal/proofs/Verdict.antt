-- SPDX-License-Identifier: MIT
-- What a record is judged by, cause by cause, over plain variables. Assumes nothing.
use mathlib.Core.Path.{◌≡◌, sym, ◌∙◌}
use mathlib.Core.Bool.{Bool, true, false, not}
use Prim.Native.Nat.{ℕ, ◌+◌, ◌<◌, ◌≤◌}
use native.Mathlib.Omega.{arith}
use lib.Dec.{eqb}
use borrow.Author.Tests.{lt-ltb, le-ltb, not-true, not-false}
use Rattle.header.specs.Answers.{room_short}
use Rattle.answers.specs.Answers.{done, role_refused, counter_spent, input_too_long, first}
use Rattle.answers.specs.Limits.{too_long}
use Rattle.key_record.specs.Record.{ceiling, KeyRecord, is_empty, is_sending, counter_of}
use Rattle.key_record.proofs.KindLaws.{sends-held}
use Rattle.judge_seal.specs.Seal.{next_length, seal_causes, causes_of_seal}

-- ---- the causes

module _ (held : KeyRecord) (kid metadata plaintext room : ℕ) where
  pub judged-role : is_empty held ≡ false → is_sending held ≡ false → role_refused ≡ first (causes_of_seal true held kid metadata plaintext 0 room)
  unfolding causes_of_seal seal_causes first
  judged-role e d = rw (e, d)

  module _ (s : is_sending held ≡ true) (b : Bool) (e : b ≡ not (eqb (counter_of held) ceiling)) where
    pub judged-counter : not b ≡ true → counter_spent ≡ first (causes_of_seal true held kid metadata plaintext 0 room)
    unfolding causes_of_seal seal_causes first
    judged-counter h = rw (sends-held held s, s, not-false (eqb (counter_of held) ceiling) (sym e ∙ not-true b h))

    module _ (left : not b ≡ false) where
      unspent : eqb (counter_of held) ceiling ≡ false
      unspent = not-true (eqb (counter_of held) ceiling) (sym e ∙ not-false b left)

      module _ (t : Bool) (long : t ≡ too_long plaintext metadata) where
        pub judged-long : t ≡ true → input_too_long ≡ first (causes_of_seal true held kid metadata plaintext 0 room)
        unfolding causes_of_seal seal_causes first
        judged-long h = rw (sends-held held s, s, unspent, sym long ∙ h)

        module _ (short : t ≡ false) (n : ℕ) (size : n ≡ next_length held kid plaintext) where
          pub judged-room : room < n → room_short ≡ first (causes_of_seal true held kid metadata plaintext 0 room)
          unfolding causes_of_seal seal_causes first
          judged-room h = rw (sends-held held s, s, unspent, sym long ∙ short, ← size, lt-ltb room (0 + n) (omega arith))

          pub judged-done : n ≤ room → done ≡ first (causes_of_seal true held kid metadata plaintext 0 room)
          unfolding causes_of_seal seal_causes first
          judged-done h = rw (sends-held held s, s, unspent, sym long ∙ short, ← size, le-ltb room (0 + n) (omega arith))
