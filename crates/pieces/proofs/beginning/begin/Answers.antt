-- SPDX-License-Identifier: MIT
use Rattle.pieces.proofs.Begins.{begun-written}
use mathlib.Core.List.{◌++◌}
use lib.ListN.{length-append}
use Rattle.suites.proofs.Laws.{Nk-most}
use native.Mathlib.Omega.{arith}
use mathlib.Core.Path.{refl, sym}
use borrow.Author.Rules.{rules}
use Rattle.pieces.proofs.beginning.begin.Goals as goal

pub write_key-requires : goal.write_key-requires
write_key-requires c =
    (search rules, omega (arith, c.requires.state_size_in_bounds.1, Nk-most c.args.suite))

pub returns : goal.returns
returns c =
    begun-written c.args.state.now _ _ _ _ _ c.args.key.now c.args.nonce.now (c.args.header.now ++ c.args.metadata.now) c.args.kind _ c.args.announced c.args.suite c.requires.state_size_in_bounds.0 c.requires.state_size_in_bounds.2 (omega (arith, c.requires.state_size_in_bounds.1, Nk-most c.args.suite)) (sym (length-append c.args.header.now c.args.metadata.now)) c.write_front.ensures c.copy_at.ensures c.write_key.ensures c.begin_hash.auto.b c.begin_hash.ensures refl
