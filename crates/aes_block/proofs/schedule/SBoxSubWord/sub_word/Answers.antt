-- SPDX-License-Identifier: MIT
-- SubWord by the table: each byte becomes the table's entry for it.
-- Assumes nothing.
use borrow.Author.Rules.{rules}
use mathlib.Core.Path.{◌≡◌, ap, ◌∙◌}
use mathlib.Core.List.{List}
use Prim.Native.Nat.{ℕ, ◌<◌}
use native.Mathlib.Nat.{div-one}
use native.Mathlib.Omega.{arith}
use lib.ListN.{get_or}
use Rattle.aes_tables.specs.Field.{s_box}
use Rattle.aes.specs.Aes.{sub_word}
use Rattle.aes.proofs.Columns.{placed}
use Rattle.aes_block.proofs.schedule.SBoxSubWord.sub_word.Goals as goal

pub returns : goal.returns
unfolding sub_word
returns c =
    let entry : (i : ℕ) → i < 4 → get_or c.map.result i 0 ≡ s_box (get_or c.to_be_bytes.result i 0) =
    λ i h. let k = (c.map.ensures.items.at i 0 0 h).2 in search rules in
    let at = λ (i : ℕ) (h : i < 4). entry i h ∙ ap (λ (l : List ℕ). s_box (get_or l i 0)) c.to_be_bytes.ensures in
    rw div-one
    (c.from_be_bytes.ensures
    ∙ rw (at 0 (omega arith), at 1 (omega arith), at 2 (omega arith), at 3 (omega arith)) (placed _ _ _ _))
