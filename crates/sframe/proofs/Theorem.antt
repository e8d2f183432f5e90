-- SPDX-License-Identifier: MIT
-- The theorems of the layer, over the definitions that its calls are proved to follow, with the five suites in place. Each statement's
-- words stand in specs/Promises.
-- Assumes nothing.
use mathlib.Core.Path.{◌≡◌}
use mathlib.Core.Bool.{true}
use mathlib.Core.List.{List, ◌++◌}
use mathlib.Core.Logic.{◌↔◌}
use Prim.Native.Nat.{ℕ, ◌-◌, ◌≤◌}
use native.Mathlib.Omega.{arith}
use lib.ListN.{length, take}
use Rattle.octets.specs.Octets.{Octets, ascii}
use Rattle.header.specs.Answers.{read_kid}
use Rattle.header.specs.Header.{read_header}
use Rattle.answers.specs.Answers.{already_opened, counter_too_old}
use Rattle.window.specs.Window.{fresh}
use Rattle.store_calls.specs.Calls.{make}
use Rattle.store.specs.Cipher.{Cipher}
use Rattle.key_record.specs.Record.{ReceivingKey, suite_of}
use Rattle.key_record.specs.Suites.{tag_size}
use Rattle.store.specs.Store.{records, sound}
use Rattle.store.specs.Table.{get}
use Rattle.pair_log.specs.Report.{decimal, line, report}
use Rattle.judge_seal.specs.Seal.{next_frame, seal}
use Rattle.judge_open.specs.Open.{opening}
use Rattle.pieces.specs.Calls.{check_end}
use Rattle.begin_seal.specs.Begin.{seal_begin}
use Rattle.begin_check.specs.Check.{check_begin}
use Rattle.change_epoch.specs.Epoch.{change_epoch}
use Rattle.sframe.specs.Promises.{Encryption, Kept, NeverAgain, NoneBarred, OpenedOnce, Offered, WindowCauses, Openable, OpensExactly, Alike, SameAnswer, Unchanged, EpochChanged}
use Rattle.store.specs.Sframe.{sframe}
use Rattle.sframe.specs.History.{Call, Sealing, Event, Typed, AllTyped, outcome, run, start}
use Rattle.sframe.specs.Cuts.{Cut, plaintext_of, Roomy, cut_frame, joined_all, checked_by, CheckBegun}
use Rattle.sframe.specs.Logs.{sealings, Taken, log_of}
use Rattle.sframe.proofs.Checks.{checks-exactly}
use Rattle.sframe.proofs.Cuts.{cuts-whole}
use Rattle.sframe.proofs.Frames.{kept}
use Rattle.sframe.proofs.Ledger.{run-keeps, start-keeps}
use Rattle.sframe.proofs.Logged.{sealings-apart, apart-taken, log-reported}
use Rattle.sframe.proofs.Alone.{alone-seal, alone-open, alone-begin, alone_check}
use Rattle.sframe.proofs.Never.{Fresh, run-fresh, fresh-never, fresh-allowed}
use Rattle.sframe.proofs.Once.{run-watch, start-watch, once}
use Rattle.sframe.proofs.Opens.{opens-exactly, window-causes-are, fresh-passes}
use Rattle.sframe.proofs.LineSuites.{sframe-lines}
use Rattle.sframe.proofs.Suites.{suites-laws}
use Rattle.sframe.proofs.Soundness.{made-sound, call-sound, refusal-changes-nothing, epoch-changes}

-- Every list of calls, refused ones included, on the store that a Make answering 0 leaves, at any length that it accepts: its sealed
-- frames, those of every sealing begun, carry different KIDs and counters, use different nonces under one KID, none equals or begins
-- another, each was sealed under the one Add for sending of its KID, and each that is finished is opened by every sound store that
-- holds its key.
pub every-list : (s : List ℕ) → (make s).number ≡ 0 → (calls : List Call) → AllTyped calls → Kept sframe (run sframe calls (start s)).log
every-list s made calls typed =
    let i = run-keeps sframe suites-laws sframe-lines calls (start s) typed (start-keeps sframe suites-laws sframe-lines s made) in
    kept sframe suites-laws sframe-lines (run sframe calls (start s)).log i.account.frames

all-fresh : (s : List ℕ) → (make s).number ≡ 0 → (calls : List Call) → AllTyped calls → Fresh (run sframe calls (start s)).log
unfolding start
all-fresh s made calls typed = run-fresh sframe suites-laws sframe-lines calls (start s) typed (start-keeps sframe suites-laws sframe-lines s made) tt

-- Over every such list, a KID that was added for sending is not added again, in either role.
pub never-again : (s : List ℕ) → (make s).number ≡ 0 → (calls : List Call) → AllTyped calls → NeverAgain (run sframe calls (start s)).log
never-again s made calls typed = fresh-never (run sframe calls (start s)).log (all-fresh s made calls typed)

-- Over every such list, no key for sending is added with the suite of 4-byte tags.
pub none-barred : (s : List ℕ) → (make s).number ≡ 0 → (calls : List Call) → AllTyped calls → NoneBarred (run sframe calls (start s)).log
none-barred s made calls typed = fresh-allowed (run sframe calls (start s)).log (all-fresh s made calls typed)

-- At most 4,096 sealings begun in such a list, each taken once, in any order: the report of their log says that none is repeated.
pub our-log : (s : List ℕ) → (make s).number ≡ 0 → (calls : List Call) → AllTyped calls → (xs : List Sealing) → Taken (sealings (run sframe calls (start s)).log) xs → length xs ≤ 4096
    → report (log_of xs) ≡ line (ascii "records " ++ decimal (length xs)) ++ line (ascii "repeated 0")
our-log s made calls typed xs taken h =
    let i = run-keeps sframe suites-laws sframe-lines calls (start s) typed (start-keeps sframe suites-laws sframe-lines s made) in
    let a = sealings-apart sframe sframe-lines (run sframe calls (start s)).log i.account.frames in
    log-reported xs (apart-taken (sealings (run sframe calls (start s)).log) xs taken a) (omega arith)

-- Over every such list, no frame is opened twice while its key stays: between two Opens that answer 0 with one KID and counter stands
-- an Add of that KID that answers 0.
pub opened-once : (s : List ℕ) → (make s).number ≡ 0 → (calls : List Call) → AllTyped calls → OpenedOnce (run sframe calls (start s)).log
opened-once s made calls typed = once (run sframe calls (start s)).log (run-watch sframe suites-laws calls (start s) typed (start-watch s made)).each

-- However a plaintext is cut: the header that a beginning writes, the ciphertext of the pieces and the tag that the end writes are the
-- frame that a Seal of all of it would give.
pub cut-as-whole : (s : List ℕ) → Octets s → sound s ≡ true → (kid : ℕ) (metadata : List ℕ) (announced : ℕ) (state room : List ℕ) (cs : List Cut) (last : List ℕ) → Octets metadata
    → (seal_begin sframe s kid metadata announced state room).number ≡ 0 → length (plaintext_of cs) ≡ announced → Roomy cs → tag_size (suite_of (get kid (records s))) ≤ length last
    → cut_frame (seal_begin sframe s kid metadata announced state room) cs last ≡ next_frame sframe (get kid (records s)) kid metadata (plaintext_of cs)
cut-as-whole = cuts-whole

-- A check in pieces that was begun with a key held for receiving, and given all that was announced, says yes exactly when header,
-- ciphertext and tag are the RFC's encryption of some plaintext.
pub check-exact : (s metadata bytes : List ℕ) (announced : ℕ) (state : List ℕ) (r : ReceivingKey) (ctr n : ℕ) → CheckBegun s metadata bytes announced state r ctr n
    → (ds : List (List ℕ)) (tag : List ℕ) → Octets (joined_all ds) → length (joined_all ds) ≡ announced → length tag ≡ tag_size r.suite
    → (check_end (checked_by (check_begin sframe s metadata bytes announced state).state ds) tag ≡ 0) ↔ Encryption sframe r ctr n metadata (take n bytes ++ (joined_all ds ++ tag))
check-exact = checks-exactly

-- Opening succeeds exactly when the frame is the RFC's encryption of some plaintext, and yields that plaintext.
pub opening-exact : (s metadata bytes room : List ℕ) (r : ReceivingKey) (ctr n : ℕ) (q : Openable sframe s metadata bytes room r ctr n)
    → OpensExactly sframe s metadata bytes room r q.offered.held.window ctr n
opening-exact = opens-exactly sframe suites-laws

-- Of a frame that has a tag, and sizes and room that suffice: 14 is answered exactly when its counter was opened, 15 exactly when that
-- lies 64 or more below the highest.
pub window-causes : (s metadata bytes room : List ℕ) (r : ReceivingKey) (ctr n : ℕ) (g : Offered sframe s metadata bytes room r ctr n) → tag_size r.suite ≤ length bytes - n
    → WindowCauses sframe s metadata bytes room g.held.window ctr
window-causes = window-causes-are sframe suites-laws

-- With a key with which nothing was opened yet, neither is answered.
pub window-fresh : (s metadata bytes room : List ℕ) (r : ReceivingKey) (ctr n : ℕ) (g : Offered sframe s metadata bytes room r ctr n) → g.held.window ≡ fresh
    → ((opening sframe s metadata bytes room).number ≡ already_opened → ⊥) × ((opening sframe s metadata bytes room).number ≡ counter_too_old → ⊥)
window-fresh = fresh-passes sframe suites-laws

-- Sealing and opening depend on other records only through soundness, and change none of them.
pub sealing-alone : (s t : List ℕ) (kid i j : ℕ) → Alike s t kid i j → (metadata plaintext : List ℕ) (offset : ℕ) (room : List ℕ)
    → SameAnswer s t i j (seal sframe s kid metadata plaintext offset room) (seal sframe t kid metadata plaintext offset room)
sealing-alone = alone-seal sframe suites-laws

pub opening-alone : (s t : List ℕ) (i j : ℕ) (metadata bytes room : List ℕ) → Octets bytes → Alike s t (read_kid (read_header bytes)) i j
    → SameAnswer s t i j (opening sframe s metadata bytes room) (opening sframe t metadata bytes room)
opening-alone = alone-open sframe

-- The same of both beginnings.
pub begin-alone : (s t : List ℕ) (kid i j : ℕ) → Alike s t kid i j → (metadata : List ℕ) (announced : ℕ) (state room : List ℕ)
    → SameAnswer s t i j (seal_begin sframe s kid metadata announced state room) (seal_begin sframe t kid metadata announced state room)
begin-alone = alone-begin sframe

pub check-alone : (s t : List ℕ) (i j : ℕ) (metadata bytes : List ℕ) (announced : ℕ) (state : List ℕ) → Alike s t (read_kid (read_header bytes)) i j
    → SameAnswer s t i j (check_begin sframe s metadata bytes announced state) (check_begin sframe t metadata bytes announced state)
check-alone = alone_check sframe

-- Every call leaves a sound store sound, after any events.
pub stays-sound : (c : Call) (s : List ℕ) (log : List Event) → Typed c → Octets s → sound s ≡ true → Octets (outcome sframe c s log).store × (sound (outcome sframe c s log).store ≡ true)
stays-sound = call-sound sframe suites-laws

-- A store that is made is sound.
pub made : (s : List ℕ) → (make s).number ≡ 0 → Octets (make s).store × (sound (make s).store ≡ true)
made = made-sound

-- A refused call changes nothing, on any store, after any events.
pub refused-unchanged : (cipher : Cipher) (c : Call) (s : List ℕ) (log : List Event) → ((outcome cipher c s log).number ≡ 0 → ⊥) → Unchanged c s log (outcome cipher c s log)
refused-unchanged = refusal-changes-nothing

-- A change of epoch that answers 0 removes exactly the receiving keys of that epoch.
pub epoch-changed : (s : List ℕ) (width bits : ℕ) → Octets s → sound s ≡ true → (change_epoch s width bits).number ≡ 0 → EpochChanged s width bits (change_epoch s width bits)
epoch-changed = epoch-changes
