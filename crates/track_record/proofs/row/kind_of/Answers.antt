-- SPDX-License-Identifier: MIT
use Rattle.track_record.proofs.Steps.{kind-retired}
use Rattle.track_record.specs.Layout.{kind_of}
use mathlib.Core.Path.{sym, ap}
use Rattle.track_record.proofs.row.kind_of.Goals as goal

pub returns-then-mark-eq-SENDER : goal.returns-then-mark-eq-SENDER
returns-then-mark-eq-SENDER c = sym (ap kind_of c.if-mark-eq-SENDER.true)

pub returns-then-mark-eq-RECEIVER : goal.returns-then-mark-eq-RECEIVER
returns-then-mark-eq-RECEIVER c = sym (ap kind_of c.if-mark-eq-RECEIVER.true)

pub returns : goal.returns
returns c = kind-retired _ c.if-mark-eq-SENDER.false c.if-mark-eq-RECEIVER.false
