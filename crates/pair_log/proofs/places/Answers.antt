-- SPDX-License-Identifier: MIT
use Rattle.pair_log.proofs.Writing.{place-one, place-two, place-three, place-four}
use Rattle.pair_log.proofs.places.Goals as goal

pub returns-then-x-lt10 : goal.returns-then-x-lt10
returns-then-x-lt10 c = place-one c.args.x c.if-x-lt10.true

pub returns-then-x-lt100 : goal.returns-then-x-lt100
returns-then-x-lt100 c = place-two c.args.x c.if-x-lt10.false c.if-x-lt100.true

pub returns-then-x-lt1000 : goal.returns-then-x-lt1000
returns-then-x-lt1000 c =
    place-three c.args.x c.if-x-lt10.false c.if-x-lt100.false c.if-x-lt1000.true

pub returns : goal.returns
returns c =
    place-four c.args.x c.if-x-lt10.false c.if-x-lt100.false c.if-x-lt1000.false
