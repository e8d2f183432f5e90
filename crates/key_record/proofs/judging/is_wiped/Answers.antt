-- SPDX-License-Identifier: MIT
use mathlib.Core.Path.{◌≡◌}
use mathlib.Core.Bool.{Bool}
use Prim.Native.Nat.{◌-◌}
use Rattle.answers.proofs.Basics.{told-false, told-true}
use Rattle.key_record.specs.Inner.Judging.{zero_in}
use Rattle.key_record.specs.Layout.{salt_at, key_at, key_room, highest_at}
use Rattle.key_record.proofs.Zeros.{wiped-not, wiped-part, wiped-salt, key-first, key-second, key-third}
use mathlib.Core.Bool.{not}
use mathlib.Core.Path.{ap}
use Rattle.key_record.proofs.judging.is_wiped.Goals as goal

pub returns-then-read_be64-ne0 : goal.returns-then-read_be64-ne0
returns-then-read_be64-ne0 c =
    wiped-not c.args.row.now c.requires _ c.read_be64.ensures c.if-read_be64-ne0.true

pub returns-then-read_be32-ne0 : goal.returns-then-read_be32-ne0
returns-then-read_be32-ne0 c =
    wiped-part c.args.row.now c.requires _ c.read_be64.ensures c.if-read_be64-ne0.false _ c.read_be32.ensures c.if-read_be32-ne0.true

pub returns-then-not-zero_block : goal.returns-then-not-zero_block
returns-then-not-zero_block c =
    let key_left : (b : Bool) → b ≡ zero_in key_at key_room c.args.row.now → b ≡ zero_in salt_at (highest_at - salt_at) c.args.row.now = λ b. wiped-salt c.args.row.now c.requires _ c.read_be64.ensures c.if-read_be64-ne0.false _ c.read_be32.ensures c.if-read_be32-ne0.false b in
    key_left _ (key-first c.args.row.now c.requires (told-false _ _ c.zero_block.ensures (ap not c.if-not-zero_block.true)))

pub returns-then-not-zero_block-2 : goal.returns-then-not-zero_block-2
returns-then-not-zero_block-2 c =
    let key_left : (b : Bool) → b ≡ zero_in key_at key_room c.args.row.now → b ≡ zero_in salt_at (highest_at - salt_at) c.args.row.now = λ b. wiped-salt c.args.row.now c.requires _ c.read_be64.ensures c.if-read_be64-ne0.false _ c.read_be32.ensures c.if-read_be32-ne0.false b in
    key_left _ (key-second c.args.row.now c.requires (told-true _ _ c.zero_block.ensures (ap not c.if-not-zero_block.false)) (told-false _ _ c.zero_block-2.ensures (ap not c.if-not-zero_block-2.true)))

pub returns : goal.returns
returns c =
    let key_left : (b : Bool) → b ≡ zero_in key_at key_room c.args.row.now → b ≡ zero_in salt_at (highest_at - salt_at) c.args.row.now = λ b. wiped-salt c.args.row.now c.requires _ c.read_be64.ensures c.if-read_be64-ne0.false _ c.read_be32.ensures c.if-read_be32-ne0.false b in
    key_left _ (key-third c.args.row.now c.requires (told-true _ _ c.zero_block.ensures (ap not c.if-not-zero_block.false)) (told-true _ _ c.zero_block-2.ensures (ap not c.if-not-zero_block-2.false)) _ c.zero_block-3.ensures)
