-- SPDX-License-Identifier: MIT
use mathlib.Core.Path.{sym, ap}
use Rattle.suites.specs.Suites.{number_of}
use Rattle.suites.proofs.sizes.Suite.number.Goals as goal

pub returns-in-Ctr80 : goal.returns-in-Ctr80
returns-in-Ctr80 c = sym (ap number_of c.in-Ctr80.is)

pub returns-in-Ctr64 : goal.returns-in-Ctr64
returns-in-Ctr64 c = sym (ap number_of c.in-Ctr64.is)

pub returns-in-Ctr32 : goal.returns-in-Ctr32
returns-in-Ctr32 c = sym (ap number_of c.in-Ctr32.is)

pub returns-in-Gcm128 : goal.returns-in-Gcm128
returns-in-Gcm128 c = sym (ap number_of c.in-Gcm128.is)

pub returns-in-Gcm256 : goal.returns-in-Gcm256
returns-in-Gcm256 c = sym (ap number_of c.in-Gcm256.is)
