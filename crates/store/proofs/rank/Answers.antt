-- SPDX-License-Identifier: MIT
use Rattle.std.proofs.Common.{rules}
use Rattle.std.proofs.lemmas.List.Sorted.{IsPartitionPoint-from_clause}
use Rattle.key_record.specs.Layout.{decode}
use Rattle.key_record.specs.Inner.Rows.{precedes}
use Rattle.store.proofs.Ranks.{parted, rank-is}
use Rattle.store.proofs.rank.Goals as goal

pub returns : goal.returns
returns c =
    let kid = c.args.kid.0 in
    let s = c.args.store.now in
    let rows = c.as_chunks.result.0.now in
    let a = c.as_chunks.ensures in
    let e = c.partition_point.ensures in
    rank-is kid s rows c.requires a.front a.front_len _ e.bound
    (IsPartitionPoint-from_clause (λ l. precedes kid (decode l)) rows _ e.partitioned (parted kid s rows c.requires a.front a.front_len) (λ x b f' k. search rules))
