-- SPDX-License-Identifier: MIT
use Rattle.key_record.specs.Layout.{decode}
use Rattle.key_record.proofs.KindLaws.{sends-keyed}
use Rattle.seal_frame.proofs.SealSteps.{body_is}
use Rattle.seal_frame.proofs.encrypt_next.Goals as goal

pub salt_of-requires : goal.salt_of-requires
salt_of-requires c =
    (c.requires.row.0, sends-keyed (decode c.args.row.now) c.requires.row.1)

pub nonce_of-nonce-requires : goal.nonce_of-nonce-requires
nonce_of-nonce-requires c = c.salt_of.ensures.1

pub key_of-key-requires : goal.key_of-key-requires
key_of-key-requires c =
    (c.requires.row.0, sends-keyed (decode c.args.row.now) c.requires.row.1, c.requires.row.2)

pub returns : goal.returns
returns c =
    body_is c.args.suite (decode c.args.row.now) _ _ _ _ c.args.head.now c.args.metadata.now c.args.plaintext.now _ c.key_of-key.ensures.0 c.salt_of.ensures.0 c.next_of-ctr.ensures c.nonce_of-nonce.ensures.0 c.encrypt.ensures
