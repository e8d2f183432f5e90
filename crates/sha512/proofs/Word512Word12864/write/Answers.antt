-- SPDX-License-Identifier: MIT
use Rattle.std.proofs.Common.{◌*◌, ◌-◌, ◌≡◌, length, arith, rules}
use Rattle.octets.specs.Octets.{bytes}
use Rattle.octets.proofs.Laws.{lent-pasted, bytes-length}
use Rattle.sha512.proofs.Word512Word12864.write.Goals as goal

pub returns : goal.returns
returns c =
    let i = c.args.i in
    let out = c.args.out.now in
    let b : length (bytes 8 c.args.self.0) ≡ 8 = bytes-length 8 c.args.self.0 in
    let o : length out ≡ 64 = search rules in
    lent-pasted out _ (bytes 8 c.args.self.0) (8 * i) (64 - 8 * i) (omega arith) (omega arith) (rw b c.write_be64.ensures)
