-- SPDX-License-Identifier: MIT
use Rattle.bitslice.specs.Lanes.{lane_byte}
use Rattle.bitslice.proofs.SBox.{by_parts}
use Rattle.bitslice.proofs.Spreads.{shifts}
use Rattle.aes_keys.proofs.Words.{sub_word_lem}
use Rattle.aes_keys.proofs.schedule.CircuitSubWord.sub_word.Goals as goal

pub returns : goal.returns
unfolding lane_byte
returns c =
    sub_word_lem c.args.w _ _ _ (shifts c.args.w)
    (by_parts _ _ _ _ _ _ c.top-y.ensures c.products.ensures c.inverse-t.ensures
    c.scaled.ensures c.bottom.ensures) c.gathered.ensures
