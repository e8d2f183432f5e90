-- SPDX-License-Identifier: MIT
-- `aes::schedule::transform` meets its contract.
-- Assumes nothing.
use borrow.Author.Tests.{eq-eqb, ne_eqb, lt-ltb, le-ltb}
use lib.Arith.{digits_div, digits_mod}
use Rattle.aes.specs.Aes.{transformed}
use Rattle.aes.proofs.Expansion.{turned}
use Rattle.aes.proofs.schedule.transform.Goals as goal

pub returns-then-m-eq0 : goal.returns-then-m-eq0
unfolding transformed
returns-then-m-eq0 g c =
    let a = c.args in
    let h = c.requires.m_lt_nk.0 in
    rw (digits_mod a.j h, digits_div a.j h, eq-eqb a.m 0 c.if-m-eq0.true)
    (cc (turned a.w c.ranges.w.fits))

pub returns-then-m-eq4 : goal.returns-then-m-eq4
unfolding transformed
returns-then-m-eq4 g c =
    let a = c.args in
    rw (digits_mod a.j c.requires.m_lt_nk.0, ne_eqb a.m 0 c.if-m-eq0.false, lt-ltb 6 a.nk c.if-nk-gt6.true, eq-eqb a.m 4 c.if-m-eq4.true)
    c.sub_word-then-m-eq4.ensures

pub returns-else-m-eq4 : goal.returns-else-m-eq4
unfolding transformed
returns-else-m-eq4 g c =
    let a = c.args in
    rw (digits_mod a.j c.requires.m_lt_nk.0, ne_eqb a.m 0 c.if-m-eq0.false, lt-ltb 6 a.nk c.if-nk-gt6.true, ne_eqb a.m 4 c.if-m-eq4.false)

pub returns-else-nk-gt6 : goal.returns-else-nk-gt6
unfolding transformed
returns-else-nk-gt6 g c =
    let a = c.args in
    rw (digits_mod a.j c.requires.m_lt_nk.0, ne_eqb a.m 0 c.if-m-eq0.false, le-ltb 6 a.nk c.if-nk-gt6.false)
