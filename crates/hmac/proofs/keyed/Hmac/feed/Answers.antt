-- SPDX-License-Identifier: MIT
use Rattle.std.proofs.Common.{refl}
use Rattle.hmac.proofs.Steps.{keyed-feed}
use Rattle.hmac.proofs.keyed.Hmac.feed.Goals as goal

pub returns : goal.returns
returns g c = (λ k m f. keyed-feed g.H.Hash.params _ _ _ k m _ c.feed.ensures.0 f, c.feed.ensures.1, refl)
