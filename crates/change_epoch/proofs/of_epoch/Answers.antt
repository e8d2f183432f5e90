-- SPDX-License-Identifier: MIT
use Rattle.key_record.specs.Layout.{decode}
use Rattle.key_record.proofs.KindLaws.{receives-held}
use Rattle.answers.proofs.Basics.{told-true}
use Rattle.change_epoch.proofs.Bytes.{epoch-none, epoch-told}
use mathlib.Core.Bool.{not}
use mathlib.Core.Path.{ap}
use Rattle.change_epoch.proofs.of_epoch.Goals as goal

pub returns-then-not-is_receiving : goal.returns-then-not-is_receiving
returns-then-not-is_receiving c = epoch-none _ _ _ _ c.is_receiving.ensures (ap not c.if-not-is_receiving.true)

pub kid_of-requires : goal.kid_of-requires
kid_of-requires c = (c.requires.0, receives-held (decode c.args.row.now) (told-true _ _ c.is_receiving.ensures (ap not c.if-not-is_receiving.false)))

pub returns : goal.returns
returns c =
    epoch-told _ _ _ _ _ _ c.is_receiving.ensures (ap not c.if-not-is_receiving.false) c.kid_of.ensures c.below.ensures
