-- SPDX-License-Identifier: MIT
use mathlib.Core.Path.{◌∙◌, ap}
use native.Mathlib.Omega.{arith}
use Rattle.window.specs.Window.{fits, seen, too_old, moved}
use Rattle.window.specs.declared.Window.{Window}
use Rattle.key_record.specs.Layout.{decode}
use Rattle.key_record.proofs.Fields.{row-fit, fit-window, noted-told}
use Rattle.key_record.proofs.row.note.Goals as goal

pub open-w-requires : goal.open-w-requires
open-w-requires c =
    let w = c.window_of.ensures in (
      ap fits w ∙ fit-window (decode c.args.row.now) (row-fit c.args.row.now (λ j. omega (arith, c.slice_known-1.given j)) c.requires.0) c.requires.1,
      ap (λ (x : Window). seen x c.args.ctr.0) w ∙ c.requires.2,
      ap (λ (x : Window). too_old x c.args.ctr.0) w ∙ c.requires.3,
    )

pub returns : goal.returns
returns c =
    noted-told c.args.row.now (λ j. omega (arith, c.slice_known-1.given j)) c.requires.0 c.requires.1 c.args.ctr.0 _ _ _ (c.open-w.ensures ∙ ap (λ (x : Window). moved x c.args.ctr.0) c.window_of.ensures) c.write_be_at.ensures c.write_be_at-2.ensures
