-- SPDX-License-Identifier: MIT
-- A report leaves the store. Assumes nothing.
use mathlib.Core.Path.{◌≡◌, refl}
use mathlib.Core.List.{List, []}
use Prim.Native.Nat.{ℕ}
use Rattle.answers.specs.Answers.{Outcome}
use Rattle.answers.proofs.Basics.{settled-store}
use Rattle.report_window.specs.Report.{report}

pub report-store : (s : List ℕ) (kid : ℕ) → (report s kid).store ≡ s
unfolding report
report-store s kid = settled-store _ s [] _ refl
