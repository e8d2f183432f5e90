-- SPDX-License-Identifier: MIT
use Rattle.ciphers.proofs.Steps.{cipher-key-inside, cipher-key-fits, cipher-context}
use Rattle.ciphers.proofs.context.Goals as goal

pub slice_bounds-expand-end : goal.slice_bounds-expand-end
slice_bounds-expand-end c =
    cipher-key-inside c.args.suite c.args.key.now _ c.cipher_key_size-n.ensures c.requires.1

pub expand-requires : goal.expand-requires
expand-requires c =
    (c.requires.0, cipher-key-fits c.args.suite _ _ c.cipher_key_size-n.ensures c.requires.1)

pub returns : goal.returns
returns c =
    cipher-context c.args.suite _ _ c.cipher_key_size-n.ensures _ c.expand.ensures
