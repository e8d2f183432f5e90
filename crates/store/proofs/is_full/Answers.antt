-- SPDX-License-Identifier: MIT
use mathlib.Core.Path.{◌∙◌, ap, sym}
use mathlib.Core.Bool.{not}
use native.Mathlib.Omega.{arith}
use Prim.Native.Nat.{ℕ, ◌-◌}
use lib.ListN.{get_or}
use Rattle.key_record.specs.Record.{empty, is_empty}
use Rattle.store.specs.Store.{records}
use Rattle.store.proofs.Order.{full-told}
use Rattle.store.proofs.Places.{records-count, sound-ordered, sound-some, place-within}
use Rattle.store.proofs.is_full.Goals as goal

pub overflow_sub-last : goal.overflow_sub-last
overflow_sub-last c = omega (arith, sound-some _ c.requires, records-count c.args.store.now)

pub row_at-requires : goal.row_at-requires
row_at-requires c = place-within _ 0 _ c.requires (omega (arith, sound-some _ c.requires, records-count c.args.store.now))

pub returns : goal.returns
returns c =
    let s = c.args.store.now in
    let e = c.requires in
    ap not (c.is_empty.ensures ∙ ap is_empty c.row_at.ensures.1)
    ∙ ap (λ (k : ℕ). not (is_empty (get_or (records s) (k - 1) empty))) (sym (records-count s))
    ∙ full-told (records s) (sound-ordered s e) (sound-some s e)
