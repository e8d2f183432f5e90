-- SPDX-License-Identifier: MIT
use Rattle.std.proofs.Common.{◌≡◌, length, arith}
use Rattle.std.proofs.lemmas.Grind.{common_steps}
use Rattle.vector_text.proofs.Spelling.{spelt-some, spelt-none, spelt-full}
use Rattle.vector_text.proofs.bytes.Goals as goal

pub loop-place-preserved : goal.loop-place-preserved
loop-place-preserved c = grind (arith, common_steps, spelt-some)

pub returns-clause-spelt : goal.returns-clause-spelt
returns-clause-spelt c =
    let whole : length c.args.room.now ≡ length c.loop-place.room = omega arith in
    grind (arith, common_steps, spelt-none, spelt-full)
