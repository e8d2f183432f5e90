-- SPDX-License-Identifier: MIT
use mathlib.Core.Path.{◌∙◌, ap, refl}
use native.Mathlib.Omega.{arith}
use Rattle.aead.specs.Aead.{is_plain, room_after}
use Rattle.key_record.specs.Layout.{decode}
use Rattle.key_record.proofs.KindLaws.{receives-keyed}
use Rattle.judge_open.proofs.Steps.{frame-parts, parts-decrypt}
use Rattle.open_frame.proofs.decrypt_with.Goals as goal

pub salt_of-requires : goal.salt_of-requires
salt_of-requires c =
    (c.requires.row.0, receives-keyed (decode c.args.row.now) c.requires.row.1)

pub nonce_of-nonce-requires : goal.nonce_of-nonce-requires
nonce_of-nonce-requires c = c.salt_of.ensures.1

pub key_of-key-requires : goal.key_of-key-requires
key_of-key-requires c =
    (c.requires.row.0, receives-keyed (decode c.args.row.now) c.requires.row.1, c.requires.row.2)

pub decrypt-requires : goal.decrypt-requires
decrypt-requires c =
    let f = frame-parts c.args.suite c.args.head.length c.args.frame.now _ c.requires.n_le_max_header.0 c.requires.n_le_max_header.1 c.requires.metadata_len_bound.1 refl in record { key_len = (c.key_of-key.ensures.1, c.nonce_of-nonce.ensures.1); header_len_bound = (omega (arith, f.0), omega (arith, c.requires.metadata_len_bound.0), omega (arith, f.1)); suite_in_bounds = (f.2, omega (arith, f.3, c.requires.metadata_len_bound.2)) }

pub returns : goal.returns
returns c =
    let e = parts-decrypt c.args.suite c.args.head.length c.args.frame.now (decode c.args.row.now) _ _ _ c.args.metadata.now c.args.head.ctr.0 c.key_of-key.ensures.0 c.salt_of.ensures.0 c.nonce_of-nonce.ensures.0 in record { value = c.decrypt.ensures.value ∙ ap is_plain e; room_after = c.decrypt.ensures.out_after ∙ ap (λ d. room_after d c.args.room.now) e }
