-- SPDX-License-Identifier: MIT
use Rattle.secure_objects.proofs.Steps.{unsecured-is}
use Rattle.suites.proofs.Laws.{Nt-most}
use Rattle.aead.specs.Aead.{is_plain, room_after}
use mathlib.Core.Path.{◌∙◌, ap}
use borrow.Author.Rules.{rules}
use Rattle.secure_objects.proofs.object.unsecure.Goals as goal

pub decrypt-requires : goal.decrypt-requires
decrypt-requires c =
    let n = Nt-most c.args.suite in
    search rules

pub returns : goal.returns
returns c =
    let a = c.args in
    let e = unsecured-is a.suite a.key.now a.salt.now a.track.name.now a.track.id.0 a.pair.group.0 a.pair.object.0 a.properties.now _ c.write_head-n.new.out c.write_head-n.result c.nonce_of-nonce.ensures.0 c.write_head-n.ensures.0 a.sealed.now in
    record { value = c.decrypt.ensures.value ∙ ap is_plain e; out_after = c.decrypt.ensures.out_after ∙ ap (λ d. room_after d a.out.now) e }
