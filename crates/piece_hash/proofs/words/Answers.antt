-- SPDX-License-Identifier: MIT
use Prim.Native.Nat.{◌+◌, ◌≤◌}
use Rattle.piece_hash.proofs.Steps.{words-read, word-lent}
use lib.ListN.{length}
use Rattle.piece_hash.proofs.words.Goals as goal

pub read_be32-requires-8 : goal.read_be32-requires-8
read_be32-requires-8 c =
    let h : 28 + 4 ≤ length c.args.b.now = c.requires in
    word-lent c.args.b.now 28 h

pub returns : goal.returns
returns c =
    words-read _ _ _ _ _ _ _ _ _ c.read_be32.ensures
    c.read_be32-2.ensures
    c.read_be32-3.ensures
    c.read_be32-4.ensures
    c.read_be32-5.ensures
    c.read_be32-6.ensures
    c.read_be32-7.ensures
    c.read_be32-8.ensures
