-- SPDX-License-Identifier: MIT
use Rattle.pair_log.proofs.Writing.{counted-length, count-written}
use borrow.Author.Rules.{rules}
use Rattle.pair_log.proofs.write_count.Goals as goal

pub copy_at-requires : goal.copy_at-requires
copy_at-requires c =
    let a = c.args in
    let e = counted-length a.label.now a.x in
    search rules

pub write_number-requires : goal.write_number-requires
write_number-requires c =
    let a = c.args in
    let e = counted-length a.label.now a.x in
    search rules

pub overflow_add-result : goal.overflow_add-result
overflow_add-result c =
    let a = c.args in
    let e = counted-length a.label.now a.x in
    search rules

pub overflow_add-result-2 : goal.overflow_add-result-2
overflow_add-result-2 c =
    let a = c.args in
    let e = counted-length a.label.now a.x in
    search rules

pub returns : goal.returns
returns c =
    let a = c.args in
    count-written a.out.now a.label.now _ _ a.at a.x _ c.requires c.copy_at.ensures c.places-n.ensures.0 c.write_number.ensures
