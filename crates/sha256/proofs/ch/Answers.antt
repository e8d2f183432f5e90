-- SPDX-License-Identifier: MIT
use Rattle.sha2_common.specs.Sizes.{sha256}
use Rattle.sha2_common.proofs.Bits.{ch-short}
use Rattle.sha256.proofs.ch.Goals as goal

pub returns : goal.returns
returns c = ch-short sha256 c.args.x c.args.y c.args.z c.ranges.x.fits c.ranges.z.fits
