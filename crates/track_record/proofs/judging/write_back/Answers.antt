-- SPDX-License-Identifier: MIT
use Rattle.track_record.proofs.Steps.{told-held, suite-told, written_back}
use Rattle.suites.proofs.Laws.{Nk-most}
use borrow.Author.Rules.{rules}
use Rattle.track_record.proofs.judging.write_back.Goals as goal

pub name_of-requires : goal.name_of-requires
name_of-requires c = (c.requires.2, told-held _ _ _ c.requires.3)

pub key_id_of-requires : goal.key_id_of-requires
key_id_of-requires c =
    (c.requires.2, told-held _ _ _ c.requires.3)

pub salt_of-requires : goal.salt_of-requires
salt_of-requires c =
    (c.requires.2, told-held _ _ _ c.requires.3)

pub key_of-requires : goal.key_of-requires
key_of-requires c =
    (c.requires.2, suite-told _ _ _ c.requires.3)

pub copy_at-requires-2 : goal.copy_at-requires-2
copy_at-requires-2 c =
    let m = Nk-most c.args.suite in
    search rules

pub returns : goal.returns
returns c =
    written_back c.args.row.now c.args.kind c.args.suite c.requires.3 _ _ _ _ _ _ _ _ c.key_id_of.ensures c.name_of.ensures.0 c.salt_of.ensures.0 c.salt_of.ensures.1 c.key_of.ensures.0 c.key_of.ensures.1 c.start.ensures c.write_last.ensures c.copy_at.ensures c.copy_at-2.ensures
