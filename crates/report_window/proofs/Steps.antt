-- SPDX-License-Identifier: MIT
-- What a report answers, cause by cause, over plain variables. Assumes nothing.
use Rattle.std.specs.Prelude.{Option, Some, None}
use mathlib.Core.Path.{◌≡◌, sym, ◌∙◌, ap}
use mathlib.Core.Bool.{Bool, true, false, not}
use mathlib.Core.List.{List}
use Prim.Native.Nat.{ℕ}
use lib.ListN.{get_or}
use Rattle.answers.specs.Answers.{done, store_invalid, kid_missing, role_refused, first, settled}
use Rattle.answers.proofs.Basics.{told-false, told-true}
use Rattle.window.specs.Window.{opened}
use Rattle.window.specs.declared.Window.{Window}
use Rattle.key_record.specs.Layout.{decode}
use Rattle.key_record.specs.Record.{empty, is_empty, is_receiving, window_of}
use Rattle.key_record.proofs.KindLaws.{holds-some}
use Rattle.store.specs.Store.{records, sound}
use Rattle.store.specs.Table.{get}
use Rattle.store.specs.Inner.Places.{RowOf, FoundIn}
use Rattle.report_window.specs.Report.{report_causes, report, reported}

-- number and count
abbrev Tells : List ℕ → ℕ → ℕ → ℕ → Type 0
Tells s kid number count = (number ≡ (report s kid).number) × (count ≡ reported s kid)

pub report-unsound : (s : List ℕ) (kid : ℕ) (r : Bool) → r ≡ sound s → not r ≡ true → Tells s kid store_invalid 0
unfolding reported report report_causes first settled
report-unsound s kid r e t = let z = told-false r _ e t in (rw z, rw z)

module _ (s : List ℕ) (kid : ℕ) (is-sound : sound s ≡ true) (p : Option ℕ) (w : FoundIn p kid (records s)) where
  pub report-missing : p ≡ None → Tells s kid kid_missing 0
  unfolding reported report report_causes first settled
  report-missing q = let g : get kid (records s) ≡ empty = rw q at w in (rw (is-sound, g), rw (is-sound, g))

  module _ (i : ℕ) (q : p ≡ Some i) (l : List ℕ) (r : RowOf s i l) where
    found : FoundIn (Some i) kid (records s)
    found = rw q at w

    -- the record that holds the KID is the one whose bytes are read
    held-is : get kid (records s) ≡ decode l
    held-is = found.1 ∙ sym r.1

    held-there : is_empty (decode l) ≡ false
    held-there = ap is_empty r.1 ∙ holds-some kid (get_or (records s) i empty) found.2

    pub report-refused : (b : Bool) → b ≡ is_receiving (decode l) → not b ≡ true → Tells s kid role_refused 0
    unfolding reported report report_causes first settled
    report-refused b e t = let z = told-false b _ e t in (rw (is-sound, held-is, held-there, z), rw (is-sound, held-is, held-there, z))

    pub report-counted : (b : Bool) → b ≡ is_receiving (decode l) → not b ≡ false → (v : Window) (k : ℕ) → v ≡ window_of (decode l) → k ≡ opened v → Tells s kid done k
    unfolding reported report report_causes first settled
    report-counted b e t v k a c =
        let z = told-true b _ e t in
        (rw (is-sound, held-is, held-there, z), rw (is-sound, held-is, held-there, z) (c ∙ ap opened a))
