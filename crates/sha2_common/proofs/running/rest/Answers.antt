-- SPDX-License-Identifier: MIT
use Rattle.std.proofs.Common.{◌++◌, sym, refl, ap, ◌∙◌, arith, length-append}
use Rattle.sha2_common.specs.Running.{room_of}
use Rattle.sha2_common.proofs.Laws.{left-short}
use Rattle.sha2_common.proofs.Steps.{left_over_at}
use Rattle.sha2_common.proofs.running.rest.Goals as goal

pub returns-then-have-s : goal.returns-then-have-s
returns-then-have-s g c =
    let a = c.args in
    λ p e. c.room.ensures p e ∙ ap (room_of p) (sym (left-short p (omega arith) (a.front.now ++ a.s.now) (simp length-append (omega arith))))

pub returns : goal.returns
returns g c =
    let a = c.args in
    λ p e. c.room-2.ensures p e ∙ ap (room_of p) (left_over_at p g.row.BLOCK e (omega arith) a.front.now a.s.now _ (omega arith) (omega arith) refl)
