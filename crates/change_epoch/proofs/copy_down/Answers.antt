-- SPDX-License-Identifier: MIT
use mathlib.Core.Path.{refl}
use Rattle.change_epoch.proofs.Bytes.{copied-down}
use Rattle.change_epoch.proofs.copy_down.Goals as goal

pub returns : goal.returns
returns c =
    copied-down c.args.store.now c.move_down.new.s c.args.to c.args.from _ c.requires.0 c.requires.1 refl c.move_down.ensures
