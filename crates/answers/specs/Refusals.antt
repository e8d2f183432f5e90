-- SPDX-License-Identifier: MIT
-- What a call answers, as a number: 0 where it is done, else that of its refusal. Assumes nothing.
use Rattle.std.specs.Prelude.{Result, Ok, Err, ℕ}
use Rattle.answers.specs.declared.Refusal.{Refusal}
use Rattle.answers.specs.declared.Refusal.TheVariants.{StoreInvalid, SuiteUnknown, BaseKeySize, KidHeld, StoreFull, KidMissing, RoleRefused, CounterSpent, InputTooLong, HeaderInvalid, FrameShort, RoomShort, TagDiffers, AlreadyOpened, CounterTooOld, StateMismatch, SendingBarred, RatchetKidInvalid, StepsTooMany, GroupPartTooLarge, GroupKidTooLong, PairNotAbove, ObjectTooLarge}
use Rattle.answers.specs.Answers.{done, store_invalid, suite_unknown, base_key_size, kid_held, store_full, kid_missing, role_refused, counter_spent, input_too_long, frame_short, tag_differs, already_opened, counter_too_old, state_mismatch, sending_barred, ratchet_kid_invalid, steps_too_many, group_part_too_large, group_kid_too_long, pair_not_above, object_too_large}

-- The number of a refusal. 10 and 12 are the header's (header/specs/Answers.antt).
abbrev pub refusal_number : Refusal → ℕ
refusal_number StoreInvalid = store_invalid
refusal_number SuiteUnknown = suite_unknown
refusal_number BaseKeySize = base_key_size
refusal_number KidHeld = kid_held
refusal_number StoreFull = store_full
refusal_number KidMissing = kid_missing
refusal_number RoleRefused = role_refused
refusal_number CounterSpent = counter_spent
refusal_number InputTooLong = input_too_long
refusal_number HeaderInvalid = 10
refusal_number FrameShort = frame_short
refusal_number RoomShort = 12
refusal_number TagDiffers = tag_differs
refusal_number AlreadyOpened = already_opened
refusal_number CounterTooOld = counter_too_old
refusal_number StateMismatch = state_mismatch
refusal_number SendingBarred = sending_barred
refusal_number RatchetKidInvalid = ratchet_kid_invalid
refusal_number StepsTooMany = steps_too_many
refusal_number GroupPartTooLarge = group_part_too_large
refusal_number GroupKidTooLong = group_kid_too_long
refusal_number PairNotAbove = pair_not_above
refusal_number ObjectTooLarge = object_too_large

-- The number of what a call answers.
abbrev pub number_of : {A : Type 0} → Result A Refusal → ℕ
number_of (Ok a) = done
number_of (Err r) = refusal_number r

-- What a call gives that is done, as how many bytes it wrote, a place or a count: 0 where it is refused.
abbrev pub written_of : Result ℕ Refusal → ℕ
written_of (Ok n) = n
written_of (Err r) = 0
