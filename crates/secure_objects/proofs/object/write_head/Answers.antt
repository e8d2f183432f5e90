-- SPDX-License-Identifier: MIT
use Rattle.secure_objects.proofs.Steps.{head-written}
use native.Mathlib.Omega.{arith}
use Rattle.secure_objects.proofs.object.write_head.Goals as goal

pub returns : goal.returns
returns c =
    let a = c.args in (
      head-written a.out.now _ _ _ _ a.track.name.now _ _ _ a.track.id.0 a.pair.group.0 a.pair.object.0 c.requires.0 c.write_varint-a.ensures.value.0 c.write_varint-b.ensures.value.0 c.write_varint-c.ensures.value.0 c.write_varint-a.ensures.out_after c.write_varint-b.ensures.out_after c.write_varint-c.ensures.out_after c.copy_at.ensures,
      omega (arith, c.write_varint-a.ensures.value.1, c.write_varint-b.ensures.value.1, c.write_varint-c.ensures.value.1, c.requires.1),
    )
