-- SPDX-License-Identifier: MIT
use Rattle.std.proofs.Common.{◌*◌, ◌-◌, ◌≡◌, length, arith, rules}
use Rattle.octets.specs.Octets.{bytes}
use Rattle.octets.proofs.Laws.{lent-pasted, bytes-length}
use Rattle.sha256.proofs.Word256Word6432.write.Goals as goal

pub returns : goal.returns
returns c =
    let i = c.args.i in
    let out = c.args.out.now in
    let b : length (bytes 4 c.args.self.0) ≡ 4 = bytes-length 4 c.args.self.0 in
    let o : length out ≡ 32 = search rules in
    lent-pasted out _ (bytes 4 c.args.self.0) (4 * i) (32 - 4 * i) (omega arith) (omega arith) (rw b c.write_be32.ensures)
