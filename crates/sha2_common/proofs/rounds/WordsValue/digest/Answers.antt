-- SPDX-License-Identifier: MIT
use Rattle.std.proofs.Common.{refl, arith}
use lib.ListN.{length-replicate}
use Rattle.sha2_common.specs.Inner.Words.{words_of}
use Rattle.sha2_common.proofs.Steps.{joined-none, joined_next, joined-done}
use Rattle.sha2_common.proofs.rounds.WordsValue.digest.Goals as goal

pub returns : goal.returns
returns g c =
    let p = g.W.Word.params in
    let n = g.row.DIGEST in
    let s = g.met.W.Word.sizes in
    let ws = words_of g.W.Word.value c.args.self in
    let j0 = joined-none p n ws _ (length-replicate n 0) in
    let j1 = joined_next p n ws _ _ 0 (omega arith) (omega arith) j0 c.write.ensures in
    let j2 = joined_next p n ws _ _ 1 (omega arith) (omega arith) j1 c.write-2.ensures in
    let j3 = joined_next p n ws _ _ 2 (omega arith) (omega arith) j2 c.write-3.ensures in
    let j4 = joined_next p n ws _ _ 3 (omega arith) (omega arith) j3 c.write-4.ensures in
    let j5 = joined_next p n ws _ _ 4 (omega arith) (omega arith) j4 c.write-5.ensures in
    let j6 = joined_next p n ws _ _ 5 (omega arith) (omega arith) j5 c.write-6.ensures in
    let j7 = joined_next p n ws _ _ 6 (omega arith) (omega arith) j6 c.write-7.ensures in
    let j8 = joined_next p n ws _ _ 7 (omega arith) (omega arith) j7 c.write-8.ensures in
    joined-done p n ws _ refl s.1 j8
