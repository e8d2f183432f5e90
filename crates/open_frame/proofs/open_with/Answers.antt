-- SPDX-License-Identifier: MIT
use mathlib.Core.Path.{◌≡◌, refl, sym, ◌∙◌, ap}
use mathlib.Core.Bool.{true}
use Prim.Native.Nat.{ℕ, ◌-◌}
use lib.ListN.{length}
use native.Mathlib.Omega.{arith}
use Rattle.answers.specs.Limits.{too_long}
use Rattle.answers.proofs.Basics.{told-false, told-true}
use Rattle.answers.proofs.Limits.{not-long}
use Rattle.answers.proofs.Refusals.{nothing-written, refused-some, done-number, handed-on}
use Rattle.key_record.specs.Layout.{decode}
use Rattle.key_record.specs.Record.{is_receiving}
use Rattle.judge_open.proofs.Steps.{role-refused, frame-short, too-long-refused, room-refused, room-told, new-counter, counter-refused, tag-refused, frame_opened}
use mathlib.Core.Bool.{not}
use Rattle.open_frame.proofs.open_with.Goals as goal

pub returns-then-not-is_receiving : goal.returns-then-not-is_receiving
returns-then-not-is_receiving c =
    let q = role-refused (decode c.args.row.now) c.args.metadata.now c.args.frame.now c.args.room.now c.args.head.kid c.args.head.ctr c.args.head.length c.requires.1 (told-false _ _ c.is_receiving.ensures (ap not c.if-not-is_receiving.true)) in record { number_value = q.0; room_after = q.1 }

pub suite_of-suite-requires : goal.suite_of-suite-requires
suite_of-suite-requires c =
    (c.requires.0, c.requires.1)

pub returns-then-rest-nt : goal.returns-then-rest-nt
returns-then-rest-nt c =
    let q = frame-short (decode c.args.row.now) c.args.metadata.now c.args.frame.now c.args.room.now c.args.head.kid c.args.head.ctr c.args.head.length (told-true _ _ c.is_receiving.ensures (ap not c.if-not-is_receiving.false)) c.suite_of-suite.result c.suite_of-suite.ensures (omega (arith, c.if-rest-nt.true, c.tag_size-nt.ensures)) in record { number_value = q.0; room_after = q.1 }

pub returns-then-too_long : goal.returns-then-too_long
returns-then-too_long c =
    let q = too-long-refused (decode c.args.row.now) c.args.metadata.now c.args.frame.now c.args.room.now c.args.head.kid c.args.head.ctr c.args.head.length (told-true _ _ c.is_receiving.ensures (ap not c.if-not-is_receiving.false)) c.suite_of-suite.result c.suite_of-suite.ensures (omega (arith, c.if-rest-nt.false, c.tag_size-nt.ensures)) (sym c.if-too_long.true ∙ c.too_long.ensures ∙ ap (λ (x : ℕ). too_long (length c.args.frame.now - c.args.head.length - x) (length c.args.metadata.now)) c.tag_size-nt.ensures) in record { number_value = q.0; room_after = q.1 }

pub returns-in_default : goal.returns-in_default
returns-in_default c =
    let q = room-refused (decode c.args.row.now) c.args.metadata.now c.args.frame.now c.args.room.now c.args.head.kid c.args.head.ctr c.args.head.length (told-true _ _ c.is_receiving.ensures (ap not c.if-not-is_receiving.false)) c.suite_of-suite.result c.suite_of-suite.ensures (omega (arith, c.if-rest-nt.false, c.tag_size-nt.ensures)) (sym c.if-too_long.false ∙ c.too_long.ensures ∙ ap (λ (x : ℕ). too_long (length c.args.frame.now - c.args.head.length - x) (length c.args.metadata.now)) c.tag_size-nt.ensures) (omega (arith, (room-told _ _ _ c.room_for.ensures).0 c.in_default.is, c.tag_size-nt.ensures)) in record { number_value = q.0; room_after = q.1 }

pub judge_counter-requires : goal.judge_counter-requires
judge_counter-requires c =
    let gets : is_receiving (decode c.args.row.now) ≡ true = told-true _ _ c.is_receiving.ensures (ap not c.if-not-is_receiving.false) in
    (c.requires.0.0, gets)

pub returns-in_err-judge_counter : goal.returns-in_err-judge_counter
returns-in_err-judge_counter c =
    let gets : is_receiving (decode c.args.row.now) ≡ true = told-true _ _ c.is_receiving.ensures (ap not c.if-not-is_receiving.false) in
    let q = counter-refused (decode c.args.row.now) c.args.metadata.now c.args.frame.now c.args.room.now c.args.head.kid c.args.head.ctr c.args.head.length (gets) c.suite_of-suite.result c.suite_of-suite.ensures (omega (arith, c.if-rest-nt.false, c.tag_size-nt.ensures)) (sym c.if-too_long.false ∙ c.too_long.ensures ∙ ap (λ (x : ℕ). too_long (length c.args.frame.now - c.args.head.length - x) (length c.args.metadata.now)) c.tag_size-nt.ensures) (omega (arith, ((room-told _ _ _ c.room_for.ensures).1 _ c.in-Some.is).1, c.tag_size-nt.ensures)) _ c.judge_counter.ensures (refused-some _ _ c.in_err-judge_counter.was) in record { number_value = (handed-on _ c.from_residual.result _ c.in_err-judge_counter.was c.from_residual.ensures.1 ∙ q.0.0, nothing-written c.from_residual.result _ c.from_residual.ensures.1 ∙ q.0.1); room_after = q.1 }

pub decrypt_with-requires : goal.decrypt_with-requires
decrypt_with-requires c =
    let gets : is_receiving (decode c.args.row.now) ≡ true = told-true _ _ c.is_receiving.ensures (ap not c.if-not-is_receiving.false) in
    record { row = (c.requires.0, gets, c.suite_of-suite.ensures); n_le_max_header = (c.requires.2, omega (arith, c.requires.3, c.if-rest-nt.false, c.tag_size-nt.ensures)); metadata_len_bound = ((not-long _ _ (sym c.too_long.ensures ∙ c.if-too_long.false)).1, omega (arith, (not-long _ _ (sym c.too_long.ensures ∙ c.if-too_long.false)).0, c.tag_size-nt.ensures), omega (arith, ((room-told _ _ _ c.room_for.ensures).1 _ c.in-Some.is).1, c.tag_size-nt.ensures)) }

pub returns-then-not-decrypt_with : goal.returns-then-not-decrypt_with
returns-then-not-decrypt_with c =
    let gets : is_receiving (decode c.args.row.now) ≡ true = told-true _ _ c.is_receiving.ensures (ap not c.if-not-is_receiving.false) in
    let q = tag-refused (decode c.args.row.now) c.args.metadata.now c.args.frame.now c.args.room.now c.args.head.kid c.args.head.ctr c.args.head.length (gets) c.suite_of-suite.result c.suite_of-suite.ensures (omega (arith, c.if-rest-nt.false, c.tag_size-nt.ensures)) (sym c.if-too_long.false ∙ c.too_long.ensures ∙ ap (λ (x : ℕ). too_long (length c.args.frame.now - c.args.head.length - x) (length c.args.metadata.now)) c.tag_size-nt.ensures) (omega (arith, ((room-told _ _ _ c.room_for.ensures).1 _ c.in-Some.is).1, c.tag_size-nt.ensures)) (new-counter _ _ _ c.judge_counter.ensures (done-number _ _ c.in_ok-judge_counter.was)) _ refl _ _ c.decrypt_with.ensures.value (ap not c.if-not-decrypt_with.true) c.decrypt_with.ensures.room_after in record { number_value = q.0; room_after = q.1 }

pub returns : goal.returns
returns c =
    let gets : is_receiving (decode c.args.row.now) ≡ true = told-true _ _ c.is_receiving.ensures (ap not c.if-not-is_receiving.false) in
    let room = (room-told _ _ _ c.room_for.ensures).1 _ c.in-Some.is in
    let q = frame_opened (decode c.args.row.now) c.args.metadata.now c.args.frame.now c.args.room.now c.args.head.kid c.args.head.ctr c.args.head.length (gets) c.suite_of-suite.result c.suite_of-suite.ensures (omega (arith, c.if-rest-nt.false, c.tag_size-nt.ensures)) (sym c.if-too_long.false ∙ c.too_long.ensures ∙ ap (λ (x : ℕ). too_long (length c.args.frame.now - c.args.head.length - x) (length c.args.metadata.now)) c.tag_size-nt.ensures) (omega (arith, room.1, c.tag_size-nt.ensures)) (new-counter _ _ _ c.judge_counter.ensures (done-number _ _ c.in_ok-judge_counter.was)) _ refl _ _ c.decrypt_with.ensures.value (ap not c.if-not-decrypt_with.false) c.decrypt_with.ensures.room_after in record { number_value = (q.0.0, room.0 ∙ ap (λ (x : ℕ). length c.args.frame.now - c.args.head.length - x) c.tag_size-nt.ensures ∙ q.0.1); room_after = q.1 }
