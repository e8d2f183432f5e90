-- SPDX-License-Identifier: MIT
use mathlib.Core.Path.{sym, ◌∙◌, ap}
use Rattle.sha2_common.specs.Sizes.{sha256, sha512}
use Rattle.suites.specs.Suites.{params_of}
use Rattle.suites.proofs.Steps.{expanded}
use Rattle.suites.proofs.derivation.expand_label.Goals as goal

pub returns-in-Sha256 : goal.returns-in-Sha256
returns-in-Sha256 c =
    let is = ap params_of (sym c.in-Sha256.is) ∙ c.hash.ensures in
    expanded sha256 c.args.suite _ _ _ _ _ is c.hkdf_extract-secret.ensures.0 c.hkdf_expand.ensures

pub returns-in-Sha512 : goal.returns-in-Sha512
returns-in-Sha512 c =
    let is = ap params_of (sym c.in-Sha512.is) ∙ c.hash.ensures in
    expanded sha512 c.args.suite _ _ _ _ _ is c.hkdf_extract-secret-in-Sha512.ensures.0 c.hkdf_expand-in-Sha512.ensures
