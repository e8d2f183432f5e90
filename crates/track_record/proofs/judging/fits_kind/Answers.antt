-- SPDX-License-Identifier: MIT
use Rattle.track_record.proofs.Steps.{told-held, suite-told, fits-sender, fits-receiver, fits-salted, fits-retired}
use Rattle.suites.proofs.Laws.{Nk-most}
use borrow.Author.Rules.{rules}
use mathlib.Core.Bool.{not}
use mathlib.Core.Path.{ap}
use Rattle.track_record.proofs.judging.fits_kind.Goals as goal

pub salt_of-requires : goal.salt_of-requires
salt_of-requires c = (c.requires.0, told-held _ _ _ c.requires.1)

pub returns-then-not-is_zero : goal.returns-then-not-is_zero
returns-then-not-is_zero c =
    fits-salted c.args.row.now _ _ c.requires.1 c.in-Retired.is _ c.salt_of.ensures.0 c.salt_of.ensures.1 _ c.is_zero.ensures (ap not c.if-not-is_zero.true)

pub key_of-requires : goal.key_of-requires
key_of-requires c =
    (c.requires.0, suite-told _ _ _ c.requires.1)

pub is_zero-requires-in-Retired : goal.is_zero-requires-in-Retired
is_zero-requires-in-Retired c =
    let m = Nk-most c.args.suite in
    search rules

pub returns-in-Sender : goal.returns-in-Sender
returns-in-Sender c = fits-sender c.args.row.now _ _ c.requires.1 c.in-Sender.is

pub returns-in-Receiver : goal.returns-in-Receiver
returns-in-Receiver c =
    fits-receiver c.args.row.now _ _ c.requires.1 c.in-Receiver.is

pub returns-else-not-is_zero : goal.returns-else-not-is_zero
returns-else-not-is_zero c =
    fits-retired c.args.row.now _ _ c.requires.1 c.in-Retired.is _ c.salt_of.ensures.0 c.salt_of.ensures.1 _ _ _ c.key_of.ensures.0 c.key_of.ensures.1 c.is_zero.ensures (ap not c.if-not-is_zero.false) c.is_zero-in-Retired.ensures
