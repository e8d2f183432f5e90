-- SPDX-License-Identifier: MIT
use Rattle.pieces.proofs.Begins.{front-written}
use native.Mathlib.Omega.{arith}
use Rattle.pieces.proofs.beginning.write_front.Goals as goal

pub returns : goal.returns
returns c =
    front-written c.args.state.now _ _ _ _ c.args.kind _ c.args.aad c.args.announced c.args.suite (omega arith) (omega arith) c.number.ensures c.write_be_at.ensures c.write_be_at-2.ensures c.write_be_at-3.ensures c.write_be_at-4.ensures
