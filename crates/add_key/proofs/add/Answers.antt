-- SPDX-License-Identifier: MIT
use mathlib.Core.Path.{◌≡◌, sym, ◌∙◌, ap}
use mathlib.Core.Bool.{true, false}
use Rattle.key_record.specs.Record.{KeyRecord}
use Rattle.store.specs.Store.{encode_all, records, sound}
use Rattle.key_record.specs.Suites.{is_suite}
use Rattle.store.specs.Table.{insert}
use Rattle.store.specs.Sframe.{sframe}
use Rattle.answers.proofs.Basics.{told-true}
use Rattle.key_record.proofs.Suites.{suite-named, suite-unnamed}
use Rattle.suites.proofs.Laws.{number_is}
use Rattle.add_key.specs.Add.{barred}
use Rattle.add_key.proofs.Addition.{add-unsound, add-suite, add-barred, add-short, add-long, add-held, add-full, add_done, add-room, added-told}
use mathlib.Core.Bool.{not}
use Rattle.add_key.proofs.add.Goals as goal

pub returns-then-not-is_sound : goal.returns-then-not-is_sound
returns-then-not-is_sound c =
    let a = c.args in
    let answered = add-unsound sframe a.store.now a.role a.kid.0 a.suite a.base.now _ c.is_sound.ensures (ap not c.if-not-is_sound.true) in record { value = answered.0; store_after = answered.1 }

pub returns-in_default : goal.returns-in_default
returns-in_default c =
    let a = c.args in
    let answered = add-suite sframe a.store.now a.role a.kid.0 a.suite a.base.now _ c.is_sound.ensures (ap not c.if-not-is_sound.false) (suite-unnamed a.suite (sym c.find.ensures ∙ c.in_default.is)) in record { value = answered.0; store_after = answered.1 }

pub returns-then-is_barred : goal.returns-then-is_barred
returns-then-is_barred c =
    let a = c.args in
    let answered = add-barred sframe a.store.now a.role a.kid.0 a.suite a.base.now _ c.is_sound.ensures (ap not c.if-not-is_sound.false) (suite-named a.suite _ (sym c.find.ensures ∙ c.in-Some.is)) (sym c.is_barred.ensures ∙ c.if-is_barred.true) in record { value = answered.0; store_after = answered.1 }

pub returns-then-base-lt-MIN_BASE_KEY : goal.returns-then-base-lt-MIN_BASE_KEY
returns-then-base-lt-MIN_BASE_KEY c =
    let known_at : is_suite c.args.suite ≡ true = suite-named _ _ (sym c.find.ensures ∙ c.in-Some.is) in
    let allowed_at : barred c.args.role c.args.suite ≡ false = sym c.is_barred.ensures ∙ c.if-is_barred.false in
    let a = c.args in
    let answered = add-short sframe a.store.now a.role a.kid.0 a.suite a.base.now _ c.is_sound.ensures (ap not c.if-not-is_sound.false) (known_at) (allowed_at) c.if-base-lt-MIN_BASE_KEY.true in record { value = answered.0; store_after = answered.1 }

pub returns-then-base-gt-MAX_BASE_KEY : goal.returns-then-base-gt-MAX_BASE_KEY
returns-then-base-gt-MAX_BASE_KEY c =
    let known_at : is_suite c.args.suite ≡ true = suite-named _ _ (sym c.find.ensures ∙ c.in-Some.is) in
    let allowed_at : barred c.args.role c.args.suite ≡ false = sym c.is_barred.ensures ∙ c.if-is_barred.false in
    let a = c.args in
    let answered = add-long sframe a.store.now a.role a.kid.0 a.suite a.base.now _ c.is_sound.ensures (ap not c.if-not-is_sound.false) (known_at) (allowed_at) c.if-base-lt-MIN_BASE_KEY.false c.if-base-gt-MAX_BASE_KEY.true in record { value = answered.0; store_after = answered.1 }

pub rank-i-requires : goal.rank-i-requires
rank-i-requires c =
    let sound-at : sound c.args.store.now ≡ true = told-true _ _ c.is_sound.ensures (ap not c.if-not-is_sound.false) in
    sound-at

pub stands_at-requires : goal.stands_at-requires
stands_at-requires c =
    let sound-at : sound c.args.store.now ≡ true = told-true _ _ c.is_sound.ensures (ap not c.if-not-is_sound.false) in
    sound-at

pub returns-then-stands_at : goal.returns-then-stands_at
returns-then-stands_at c =
    let known_at : is_suite c.args.suite ≡ true = suite-named _ _ (sym c.find.ensures ∙ c.in-Some.is) in
    let allowed_at : barred c.args.role c.args.suite ≡ false = sym c.is_barred.ensures ∙ c.if-is_barred.false in
    let a = c.args in
    let answered = add-held sframe a.store.now a.role a.kid.0 a.suite a.base.now _ c.is_sound.ensures (ap not c.if-not-is_sound.false) (known_at) (allowed_at) c.if-base-lt-MIN_BASE_KEY.false c.if-base-gt-MAX_BASE_KEY.false _ c.rank-i.ensures _ c.stands_at.ensures c.if-stands_at.true in record { value = answered.0; store_after = answered.1 }

pub is_full-requires : goal.is_full-requires
is_full-requires c =
    let sound-at : sound c.args.store.now ≡ true = told-true _ _ c.is_sound.ensures (ap not c.if-not-is_sound.false) in
    sound-at

pub returns-then-is_full : goal.returns-then-is_full
returns-then-is_full c =
    let known_at : is_suite c.args.suite ≡ true = suite-named _ _ (sym c.find.ensures ∙ c.in-Some.is) in
    let allowed_at : barred c.args.role c.args.suite ≡ false = sym c.is_barred.ensures ∙ c.if-is_barred.false in
    let a = c.args in
    let answered = add-full sframe a.store.now a.role a.kid.0 a.suite a.base.now _ c.is_sound.ensures (ap not c.if-not-is_sound.false) (known_at) (allowed_at) c.if-base-lt-MIN_BASE_KEY.false c.if-base-gt-MAX_BASE_KEY.false _ c.rank-i.ensures _ c.stands_at.ensures c.if-stands_at.false _ c.is_full.ensures c.if-is_full.true in record { value = answered.0; store_after = answered.1 }

pub insert_at-requires : goal.insert_at-requires
insert_at-requires c =
    let known_at : is_suite c.args.suite ≡ true = suite-named _ _ (sym c.find.ensures ∙ c.in-Some.is) in
    let allowed_at : barred c.args.role c.args.suite ≡ false = sym c.is_barred.ensures ∙ c.if-is_barred.false in
    let a = c.args in
    (add-room sframe a.store.now a.role a.kid.0 a.suite a.base.now _ c.is_sound.ensures (ap not c.if-not-is_sound.false) (known_at) (allowed_at) c.if-base-lt-MIN_BASE_KEY.false c.if-base-gt-MAX_BASE_KEY.false _ c.rank-i.ensures _ c.stands_at.ensures c.if-stands_at.false _ c.is_full.ensures c.if-is_full.false, c.if-base-gt-MAX_BASE_KEY.false)

pub returns : goal.returns
returns c =
    let known_at : is_suite c.args.suite ≡ true = suite-named _ _ (sym c.find.ensures ∙ c.in-Some.is) in
    let allowed_at : barred c.args.role c.args.suite ≡ false = sym c.is_barred.ensures ∙ c.if-is_barred.false in
    let a = c.args in
    let n = number_is a.suite c.in-Some.known (sym c.find.ensures ∙ c.in-Some.is) in
    let answered = add_done sframe a.store.now a.role a.kid.0 a.suite a.base.now _ c.is_sound.ensures (ap not c.if-not-is_sound.false) (known_at) (allowed_at) c.if-base-lt-MIN_BASE_KEY.false c.if-base-gt-MAX_BASE_KEY.false _ c.rank-i.ensures _ c.stands_at.ensures c.if-stands_at.false _ c.is_full.ensures c.if-is_full.false _
    (c.insert_at.ensures ∙ ap (λ (r : KeyRecord). encode_all (insert r (records a.store.now))) (added-told a.role c.in-Some.known a.kid.0 a.suite a.base.now n)) in record { value = answered.0; store_after = answered.1 }
