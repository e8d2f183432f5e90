-- SPDX-License-Identifier: MIT
-- Cited by inner contracts alone: what the replay window has against a counter. Assumes nothing.
use Rattle.std.specs.Prelude.{[], ◌∷◌, ℕ}
use Rattle.answers.specs.Answers.{already_opened, counter_too_old, ◌if◌, first}
use Rattle.window.specs.Window.{seen, too_old}
use Rattle.window.specs.declared.Window.{Window}

-- The number of the first of the two causes that applies; 0 where neither does.
unfoldable pub counter_answer : (w : Window) (ctr : ℕ) → ℕ
counter_answer w ctr = first ((already_opened if seen w ctr) ∷ (counter_too_old if too_old w ctr) ∷ [])
