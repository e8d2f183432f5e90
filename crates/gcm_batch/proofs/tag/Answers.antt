-- SPDX-License-Identifier: MIT
use mathlib.Core.Path.{◌∙◌, ap}
use mathlib.Core.List.{◌++◌}
use Prim.Native.Nat.{ℕ}
use Rattle.gcm.specs.Gcm.{hash}
use Rattle.ghash.proofs.Laws.{hash-key-of}
use Rattle.gcm_batch.proofs.Tags.{tagged}
use Rattle.gcm_batch.proofs.tag.Goals as goal

pub returns : goal.returns
returns c =
    tagged _ _ _ _ _ c.args.out.now _ _ _ c.requires.front.0 c.requires.out_len
    (c.digest-y.ensures ∙ ap (λ (h : ℕ). hash h (c.args.header.now ++ c.args.metadata.now) c.args.ciphertext.now) (hash-key-of c.requires.front.1))
    c.store.ensures c.xor.ensures
