-- SPDX-License-Identifier: MIT
use Rattle.key_record.specs.Layout.{decode}
use Rattle.begin_state.proofs.States.{keyed-held, first-written}
use Rattle.begin_state.proofs.write_first.Goals as goal

pub suite_of-suite-requires : goal.suite_of-suite-requires
suite_of-suite-requires c =
    (c.requires.row.0, keyed-held (decode c.args.row.now) c.requires.row.1)

pub returns : goal.returns
returns c =
    let a = c.args in
    first-written _ (decode a.row.now) a.kind a.ctr.0 a.announced _ _ _ _ a.state.now _ c.suite_of-suite.ensures c.key_of-key.ensures.0 c.salt_of.ensures.0 c.nonce_of-nonce.ensures.0 c.begin.ensures
