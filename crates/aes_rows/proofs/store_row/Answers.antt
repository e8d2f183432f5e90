-- SPDX-License-Identifier: MIT
use lib.ListN.{length-set}
use Rattle.aes_rows.proofs.Sets.{stored_row}
use borrow.Author.Rules.{rules}
use Rattle.aes_rows.proofs.store_row.Goals as goal

pub bounds-q-k-2 : goal.bounds-q-k-2
bounds-q-k-2 c = simp length-set (search rules)

pub bounds-q-k-3 : goal.bounds-q-k-3
bounds-q-k-3 c = simp length-set (search rules)

pub bounds-q-k-4 : goal.bounds-q-k-4
bounds-q-k-4 c = simp length-set (search rules)

pub bounds-q-k-5 : goal.bounds-q-k-5
bounds-q-k-5 c = simp length-set (search rules)

pub bounds-q-k-6 : goal.bounds-q-k-6
bounds-q-k-6 c = simp length-set (search rules)

pub bounds-q-k-7 : goal.bounds-q-k-7
bounds-q-k-7 c = simp length-set (search rules)

pub bounds-q-k-8 : goal.bounds-q-k-8
bounds-q-k-8 c = simp length-set (search rules)

pub returns : goal.returns
returns c = stored_row c.args.q.now c.args.r c.args.p c.requires.0 c.requires.1
