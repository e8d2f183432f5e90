-- SPDX-License-Identifier: MIT
use mathlib.Core.Path.{refl, sym}
use Rattle.window.proofs.Laws.{up-gone}
use Rattle.window.proofs.shifted.Goals as goal

pub returns-then-d-ge-SPAN : goal.returns-then-d-ge-SPAN
returns-then-d-ge-SPAN c = sym (up-gone _ _ c.if-d-ge-SPAN.true)

pub returns : goal.returns
returns c = refl
