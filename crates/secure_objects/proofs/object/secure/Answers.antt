-- SPDX-License-Identifier: MIT
use Rattle.secure_objects.proofs.Steps.{secured-is}
use mathlib.Core.Path.{◌∙◌}
use Rattle.secure_objects.proofs.object.secure.Goals as goal

pub returns : goal.returns
returns c =
    let a = c.args in
    c.encrypt.ensures ∙ secured-is a.suite a.key.now a.salt.now a.track.name.now a.track.id.0 a.pair.group.0 a.pair.object.0 a.properties.now _ c.write_head-n.new.out c.write_head-n.result c.nonce_of-nonce.ensures.0 c.write_head-n.ensures.0 a.plaintext.now
