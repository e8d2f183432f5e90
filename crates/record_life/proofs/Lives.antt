-- SPDX-License-Identifier: MIT
-- What is listed after a record: each input once, with nonces of counters that the record has not used. Assumes nothing.
use Rattle.std.specs.Prelude.{Option, Some, None}
use mathlib.Core.Path.{◌≡◌, refl, sym, ◌∙◌, ap}
use mathlib.Core.Bool.{true}
use mathlib.Core.List.{List, [], ◌∷◌, ◌++◌}
use Prim.Native.Nat.{ℕ, ◌+◌, ◌^◌, ◌≤◌, ◌<◌}
use native.Mathlib.Omega.{arith}
use lib.ListN.{length}
use Rattle.answers.specs.Limits.{max_plaintext}
use Rattle.suites.specs.Suites.{mode_of, suite_of as named}
use Rattle.suites.specs.declared.sizes.Suite.{Suite}
use Rattle.key_record.specs.Suites.{with_suite}
use Rattle.key_record.specs.Record.{ceiling, SendingKey, RetiredKey, KeyRecord, empty, sending, receiving, retired}
use Rattle.key_record.proofs.Codec.{Fit}
use Rattle.store.specs.Cipher.{Cipher}
use Rattle.store.proofs.CipherLaws.{Laws}
use Rattle.judge_seal.proofs.Seals.{next}
use Rattle.cipher_inputs.specs.Blocks.{Off, Once}
use Rattle.cipher_inputs.specs.Inputs.{key_inputs, sealing_inputs}
use Rattle.cipher_inputs.proofs.Blocks.{Every, every_append, every_map, off-every, once-append, block_nonce, block_count, Of, lowest, sealing-of, sealing-once, key-once}
use Rattle.record_life.specs.Life.{hash_key_inputs, held_inputs, begun_inputs}

-- the lowest block count of a suite, by number
pub least : ℕ → ℕ
least suite = with_suite 0 (λ s. lowest (mode_of s)) (named suite)

module _ (cipher : Cipher) where
  -- a block with the nonce of some counter that is not below from, and a block count that the suite uses
  pub data Later (suite : ℕ) (salt : List ℕ) (from : ℕ) (b : List ℕ) : Type 0 where
    later : (c : ℕ) → from ≤ c → c < 2 ^ 64 → block_nonce b ≡ cipher.nonce salt c → least suite ≤ block_count b → Later suite salt from b

  -- what may be listed from a record on
  abbrev pub Good : (held : KeyRecord) (l : List (List ℕ)) → Type 0
  Good empty l = Once l
  Good (sending r) l = Once l × Every (Later r.suite r.salt r.counter) l
  Good (receiving r w) l = Once l
  Good (retired r) l = l ≡ []

  pub good_none : (held : KeyRecord) → Good held []
  good_none empty = tt
  good_none (sending r) = (tt, tt)
  good_none (receiving r w) = tt
  good_none (retired r) = refl

  -- the hash key's input before it
  later-count : (suite : ℕ) (salt : List ℕ) (from : ℕ) (b : List ℕ) → Later suite salt from b → least suite ≤ block_count b
  later-count suite salt from b (later c p q e h) = h

  pub key-good : (r : SendingKey) (l : List (List ℕ)) → Good (sending r) l → Once (hash_key_inputs r.suite ++ l)
  unfolding hash_key_inputs least
  key-good r l g =
      by (named r.suite) (every_map (Later r.suite r.salt r.counter) (λ b. least r.suite ≤ block_count b) (later-count r.suite r.salt r.counter) l g.1)
    where
      by : (f : Option Suite) → Every (λ b. with_suite 0 (λ s. lowest (mode_of s)) f ≤ block_count b) l → Once (with_suite [] (λ s. key_inputs (mode_of s)) f ++ l)
      by (Some s) p = key-once (mode_of s) l p g.0
      by None p = g.0

  pub held-good : (held : KeyRecord) (l : List (List ℕ)) → Good held l → Once (held_inputs held ++ l)
  held-good empty l g = g
  held-good (sending r) l g = key-good r l g
  held-good (receiving r w) l g = g
  held-good (retired r) l g = rw g tt

  module _ (laws : Laws cipher) (r : SendingKey) (fit : Fit (sending r)) (below : r.counter < ceiling) (n : ℕ) (short : n ≤ max_plaintext) where
    abbrev iv : List ℕ
    iv = cipher.nonce r.salt r.counter

    iv-sized : length iv ≡ 12
    iv-sized = laws.nonce-length r.salt r.counter fit.1.salt-length

    -- of the nonce of the record's next counter
    Own : List ℕ → Type 0
    Own b = (block_nonce b ≡ iv) × (least r.suite ≤ block_count b)

    begun-own : Every Own (begun_inputs cipher (sending r) n)
    unfolding begun_inputs least Own
    begun-own = by (named r.suite)
      where
        by : (f : Option Suite) → Every (λ b. (block_nonce b ≡ iv) × (with_suite 0 (λ s. lowest (mode_of s)) f ≤ block_count b)) (with_suite [] (λ s. sealing_inputs (mode_of s) iv n) f)
        by (Some s) =
            every_map (Of iv (lowest (mode_of s)) (2 ^ 32)) (λ b. (block_nonce b ≡ iv) × (lowest (mode_of s) ≤ block_count b)) (λ b p. (p.0, p.1))
            (sealing_inputs (mode_of s) iv n) (sealing-of iv iv-sized n short (mode_of s))
        by None = tt

    begun-once : Once (begun_inputs cipher (sending r) n)
    unfolding begun_inputs
    begun-once = by (named r.suite)
      where
        by : (f : Option Suite) → Once (with_suite [] (λ s. sealing_inputs (mode_of s) iv n) f)
        by (Some s) = sealing-once iv iv-sized n short (mode_of s)
        by None = tt

    -- none has the nonce of a later counter
    apart : (b c : List ℕ) → Own b → Later r.suite r.salt (r.counter + 1) c → b ≡ c → ⊥
    unfolding Own
    apart b c p (later d h k e m) q =
        let z : r.counter ≡ d = laws.nonce-apart r.salt r.counter d fit.1.salt-length fit.1.salt-octets (omega arith) k (sym p.0 ∙ ap block_nonce q ∙ e) in
        omega arith

    own-later : (b : List ℕ) → Own b → Later r.suite r.salt r.counter b
    unfolding Own
    own-later b p = later r.counter (omega arith) (omega arith) p.0 p.1

    sooner : (b : List ℕ) → Later r.suite r.salt (r.counter + 1) b → Later r.suite r.salt r.counter b
    sooner b (later d h k e m) = later d (omega arith) k e m

    -- a sealing before what its record goes on with
    pub begun-good : (l : List (List ℕ)) → Good (next r) l → Good (sending r) (begun_inputs cipher (sending r) n ++ l)
    begun-good l g = (
      once-append (begun_inputs cipher (sending r) n) l begun-once g.0
          (every_map Own (λ b. Off b l) (λ b p. off-every (Later r.suite r.salt (r.counter + 1)) b (λ c q. apart b c p q) l g.1) (begun_inputs cipher (sending r) n) begun-own),
      every_append (Later r.suite r.salt r.counter) (begun_inputs cipher (sending r) n) l
          (every_map Own (Later r.suite r.salt r.counter) own-later (begun_inputs cipher (sending r) n) begun-own)
          (every_map (Later r.suite r.salt (r.counter + 1)) (Later r.suite r.salt r.counter) sooner l g.1),
    )

-- ---- how a call moves the record of a KID, and what it lists

abbrev pub Idle : KeyRecord → Type 0
Idle empty = Unit {0}
Idle (sending r) = ⊥
Idle (receiving r w) = Unit {0}
Idle (retired r) = ⊥

pub data Moves (cipher : Cipher) (held new : KeyRecord) (l : List (List ℕ)) : Type 0 where
  same : new ≡ held → l ≡ [] → Moves cipher held new l
  begins : (r : SendingKey) (n : ℕ) → held ≡ sending r → new ≡ next r → Fit (sending r) → r.counter < ceiling → n ≤ max_plaintext → l ≡ begun_inputs cipher (sending r) n → Moves cipher held new l
  starts : (r : SendingKey) → held ≡ empty → new ≡ sending r → l ≡ hash_key_inputs r.suite → Moves cipher held new l
  closes : (r : SendingKey) (q : RetiredKey) → held ≡ sending r → new ≡ retired q → l ≡ [] → Moves cipher held new l
  idles : Idle held → Idle new → l ≡ [] → Moves cipher held new l

idle-once : (cipher : Cipher) (held : KeyRecord) (l : List (List ℕ)) → Idle held → Good cipher held l → Once l
idle-once cipher empty l i g = g
idle-once cipher (sending r) l i g = absurd i
idle-once cipher (receiving r w) l i g = g
idle-once cipher (retired r) l i g = absurd i

once-idle : (cipher : Cipher) (held : KeyRecord) (l : List (List ℕ)) → Idle held → Once l → Good cipher held l
once-idle cipher empty l i g = g
once-idle cipher (sending r) l i g = absurd i
once-idle cipher (receiving r w) l i g = g
once-idle cipher (retired r) l i g = absurd i

pub move-good : (cipher : Cipher) (laws : Laws cipher) (held new : KeyRecord) (l m : List (List ℕ)) → Moves cipher held new l → Good cipher new m → Good cipher held (l ++ m)
move-good cipher laws held new l m (same e p) g = rw p (rw e at g)
move-good cipher laws held new l m (begins r n h e f b k p) g = rw (h, p) (begun-good cipher laws r f b n k m (rw e at g))
move-good cipher laws held new l m (starts r h e p) g = rw (h, p) (key-good cipher r m (rw e at g))
move-good cipher laws held new l m (closes r q h e p) g = let z : m ≡ [] = rw e at g in rw (h, p, z) (tt, tt)
move-good cipher laws held new l m (idles i j p) g = rw p (once-idle cipher held m i (idle-once cipher new m j g))
