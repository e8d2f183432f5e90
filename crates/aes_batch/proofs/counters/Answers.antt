-- SPDX-License-Identifier: MIT
use mathlib.Core.Path.{◌∙◌, ap}
use Rattle.octets.specs.Octets.{number}
use Rattle.octets.proofs.Laws.{part-rest}
use Rattle.aes_batch.proofs.Counting.{counters-made}
use Rattle.aes_batch.proofs.counters.Goals as goal

pub returns : goal.returns
returns c =
    counters-made _ _ _ _ _ _ _ c.read_be32-a.ensures (c.read_be32-b.ensures ∙ ap (number 4) (part-rest 4 c.args.nonce.now))
    (c.read_be32-c.ensures ∙ ap (number 4) (part-rest 8 c.args.nonce.now))
    c.fill.ensures c.number.ensures c.requires.1
