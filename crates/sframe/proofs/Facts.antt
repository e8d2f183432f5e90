-- SPDX-License-Identifier: MIT
-- What is known of each sealing begun, with the events before it. Assumes nothing.
use mathlib.Core.Path.{◌≡◌, refl, sym, ◌∙◌, ap}
use mathlib.Core.Bool.{Bool, true}
use mathlib.Core.List.{List, [], ◌∷◌, ◌++◌}
use Prim.Native.Nat.{ℕ, zero, suc, ◌+◌, ◌^◌, ◌<◌, ◌≤◌}
use native.Mathlib.Omega.{arith}
use lib.ListN.{length, take, length-append}
use Rattle.octets.specs.Octets.{Octets, pick, bytes}
use Rattle.octets.proofs.Laws.{octets-append, bytes-octets}
use Rattle.header.specs.Answers.{read_kid, read_ctr}
use Rattle.header.specs.Header.{header_of, header, read_header, config, width}
use Rattle.header.proofs.Laws.{field-bits, read-header, header-length}
use Rattle.answers.specs.Limits.{max_plaintext, max_metadata}
use Rattle.suites.specs.Suites.{suite_of}
use Rattle.piece_line.specs.State.{sealing, max_aad}
use Rattle.piece_line.specs.Line.{state_after}
use Rattle.pieces.specs.Calls.{Result, seal_piece, seal_end}
use Rattle.key_record.specs.Record.{ceiling}
use Rattle.key_record.specs.Suites.{with_suite, is_suite}
use Rattle.store.specs.Cipher.{Cipher}
use Rattle.store.proofs.CipherLaws.{Laws, Usable}
use Rattle.sframe.specs.Promises.{kid_of, ctr_of, senders, key_from, salt_from}
use Rattle.sframe.specs.History.{Adding, Sealing, Event, added, sealed, opened, other}

-- P of each sealing begun and the events before it
abbrev pub Each : (Sealing → List Event → Type 0) → List Event → Type 0
Each P [] = Unit {0}
Each P (added a ∷ log) = Each P log
Each P (sealed x ∷ log) = P x log × Each P log
Each P (opened x ∷ log) = Each P log
Each P (other ∷ log) = Each P log

pub each_map : (P Q : Sealing → List Event → Type 0) → ((x : Sealing) (l : List Event) → P x l → Q x l) → (log : List Event) → Each P log → Each Q log
each_map P Q f [] p = tt
each_map P Q f (added a ∷ log) p = each_map P Q f log p
each_map P Q f (sealed x ∷ log) p = (f x log p.0, each_map P Q f log p.1)
each_map P Q f (opened x ∷ log) p = each_map P Q f log p
each_map P Q f (other ∷ log) p = each_map P Q f log p

pub each_both : (P Q : Sealing → List Event → Type 0) (log : List Event) → Each P log → Each Q log → Each (λ (x : Sealing) (l : List Event). P x l × Q x l) log
each_both P Q [] p q = tt
each_both P Q (added a ∷ log) p q = each_both P Q log p q
each_both P Q (sealed x ∷ log) p q = ((p.0, q.0), each_both P Q log p.1 q.1)
each_both P Q (opened x ∷ log) p q = each_both P Q log p q
each_both P Q (other ∷ log) p q = each_both P Q log p q

-- ---- sealing in pieces

-- the running state of a line under a suite's number, once the ciphertext c has been taken; tail is lent behind it
unfoldable pub line_state : (suite : ℕ) (key nonce aad : List ℕ) (n : ℕ) (c tail : List ℕ) → List ℕ
line_state suite key nonce aad n c tail = with_suite [] (λ s. state_after sealing s n nonce key aad c) (suite_of suite) ++ tail

-- what a beginning gives a line of n bytes
pub record Given (suite : ℕ) (key nonce aad : List ℕ) (n : ℕ) : Type 0 where
  pub usable : Usable suite key nonce aad
  pub aad-least : 1 ≤ length aad
  pub aad-most : length aad ≤ max_aad
  pub n-most : n ≤ max_plaintext

-- a piece that answered 0: c is the ciphertext of what came before, d that of all
pub record Moved (suite : ℕ) (key nonce aad : List ℕ) (n taken : ℕ) (q c d tail : List ℕ) (r : Result) : Type 0 where
  pub answers : r.number ≡ 0
  pub fits : taken + length q ≤ n
  pub wrote : r.written ≡ length q
  pub state-is : r.state ≡ line_state suite key nonce aad n d tail
  pub more : d ≡ c ++ take r.written r.room

-- an end that answered 0
pub record Closed (n taken : ℕ) (tag : List ℕ) (s : List ℕ) (r : Result) : Type 0 where
  pub answers : r.number ≡ 0
  pub full : taken ≡ n
  pub state-is : r.state ≡ s
  pub tag_is : take r.written r.room ≡ tag

pub data Step (D : Type 0) (r : Result) : Type 0 where
  refused : (r.number ≡ 0 → ⊥) → Step D r
  done : D → Step D r

-- what is used of sealing in pieces under a cipher: encryption is ciphertext and tag, and lines give these
pub record Lines (cipher : Cipher) : Type 0 where
  pub cut : (suite : ℕ) (key nonce plaintext : List ℕ) → List ℕ
  pub tag : (suite : ℕ) (key nonce aad ciphertext : List ℕ) → List ℕ
  pub cut-length : (suite : ℕ) (key nonce aad p : List ℕ) → Usable suite key nonce aad → length (cut suite key nonce p) ≡ length p
  pub encrypt-is : (suite : ℕ) (key nonce aad p : List ℕ) → Usable suite key nonce aad
      → cipher.encrypt suite key nonce aad p ≡ cut suite key nonce p ++ tag suite key nonce aad (cut suite key nonce p)
  pub piece-step : (suite : ℕ) (key nonce aad : List ℕ) (n : ℕ) → Given suite key nonce aad n → (p q tail room : List ℕ) → length p ≤ n
      → Step (Moved suite key nonce aad n (length p) q (cut suite key nonce p) (cut suite key nonce (p ++ q)) tail (seal_piece (line_state suite key nonce aad n (cut suite key nonce p) tail) q room))
      (seal_piece (line_state suite key nonce aad n (cut suite key nonce p) tail) q room)
  pub end_step : (suite : ℕ) (key nonce aad : List ℕ) (n : ℕ) → Given suite key nonce aad n → (p tail room : List ℕ) → length p ≤ n
      → Step (Closed n (length p) (tag suite key nonce aad (cut suite key nonce p)) (line_state suite key nonce aad n (cut suite key nonce p) tail) (seal_end (line_state suite key nonce aad n (cut suite key nonce p) tail) room))
      (seal_end (line_state suite key nonce aad n (cut suite key nonce p) tail) room)
  -- no bytes are no state
  pub piece-none : (q room : List ℕ) → (seal_piece [] q room).number ≡ 0 → ⊥
  pub end_none : (room : List ℕ) → (seal_end [] room).number ≡ 0 → ⊥

-- ---- one sealing

-- a whole Seal has no state; a line has the one that its last call left
pub data LineOf (line state : List ℕ) : Type 0 where
  whole : state ≡ [] → LineOf line state
  running : state ≡ line → LineOf line state

module _ (cipher : Cipher) (lines : Lines cipher) where
  -- what stands behind the header: the ciphertext, and once it is finished the tag
  abbrev pub body_for : (a : Adding) (kid ctr : ℕ) (metadata plaintext : List ℕ) (finished : Bool) → List ℕ
  body_for a kid ctr metadata plaintext finished =
      let c = lines.cut a.suite (key_from cipher a) (cipher.nonce (salt_from cipher a) ctr) plaintext in
      c ++ pick finished (lines.tag a.suite (key_from cipher a) (cipher.nonce (salt_from cipher a) ctr) (header kid ctr ++ metadata) c) []

  abbrev pub state_for : (a : Adding) (kid ctr n : ℕ) (metadata plaintext tail : List ℕ) → List ℕ
  state_for a kid ctr n metadata plaintext tail =
      line_state a.suite (key_from cipher a) (cipher.nonce (salt_from cipher a) ctr) (header kid ctr ++ metadata) n
      (lines.cut a.suite (key_from cipher a) (cipher.nonce (salt_from cipher a) ctr) plaintext) tail

  -- a sealing begun, under which Add, and what has become of it
  pub record Fact (x : Sealing) (earlier : List Event) : Type 0 where
    pub kid : ℕ
    pub ctr : ℕ
    pub add : Adding
    pub kid-below : kid < 2 ^ 64
    pub ctr-below : ctr < ceiling
    pub only : senders kid earlier ≡ add ∷ []
    pub add-kid : add.kid ≡ kid
    pub known : is_suite add.suite ≡ true
    pub base-octets : Octets add.base
    pub metadata-octets : Octets x.metadata
    pub metadata-most : length x.metadata ≤ max_metadata
    pub plaintext-octets : Octets x.plaintext
    pub announced-most : x.announced ≤ max_plaintext
    pub plaintext-most : length x.plaintext ≤ x.announced
    pub full : x.finished ≡ true → length x.plaintext ≡ x.announced
    pub frame_is : x.frame ≡ header kid ctr ++ body_for add kid ctr x.metadata x.plaintext x.finished
    pub tail : List ℕ
    pub line : LineOf (state_for add kid ctr x.announced x.metadata x.plaintext tail) x.state

  module _ (x : Sealing) (earlier : List Event) (f : Fact x earlier) where
    pub ctr-fits : f.ctr < 2 ^ 64
    ctr-fits = omega (arith, f.ctr-below)

    pub fact-reads : read_header x.frame ≡ header_of (record { 0 = f.kid }) (record { 0 = f.ctr }) (length (header f.kid f.ctr))
    fact-reads = ap read_header f.frame_is ∙ read-header f.kid f.ctr _ f.kid-below ctr-fits

    pub fact-kid : kid_of x ≡ f.kid
    unfolding kid_of
    fact-kid = ap read_kid fact-reads

    pub fact-ctr : ctr_of x ≡ f.ctr
    unfolding ctr_of
    fact-ctr = ap read_ctr fact-reads

-- a later sealing under one KID has the higher counter
abbrev pub Below : Sealing → Sealing → List Event → Type 0
Below x y l = kid_of y ≡ kid_of x → ctr_of y < ctr_of x

abbrev pub Proper : (cipher : Cipher) → Lines cipher → Sealing → List Event → Type 0
Proper cipher lines x earlier = Fact cipher lines x earlier × Each (Below x) earlier

-- ---- its key, nonce and associated data

pub header-octets : (kid ctr : ℕ) → kid < 2 ^ 64 → ctr < 2 ^ 64 → Octets (header kid ctr)
unfolding header config
header-octets kid ctr hk hc = first
  where
    rest : Octets (bytes (width kid) kid ++ bytes (width ctr) ctr)
    rest = octets-append (bytes (width kid) kid) (bytes (width ctr) ctr) (bytes-octets (width kid) kid) (bytes-octets (width ctr) ctr)

    first : Octets (header kid ctr)
    first zero =
        let a = field-bits kid hk in
        let b = field-bits ctr hc in
        omega (arith, a.flag-bit, a.code-bits, b.flag-bit, b.code-bits)
    first (suc i) = rest i

module _ (cipher : Cipher) (laws : Laws cipher) (add : Adding) (known : is_suite add.suite ≡ true) (base-octets : Octets add.base) where
  pub salt-size : length (salt_from cipher add) ≡ 12
  salt-size = laws.salt-length add.suite add.base add.kid known

  pub salt-bytes : Octets (salt_from cipher add)
  salt-bytes = laws.salt-octets add.suite add.base add.kid known base-octets

  pub usable-for : (kid ctr : ℕ) (metadata : List ℕ) → kid < 2 ^ 64 → ctr < 2 ^ 64 → Octets metadata
      → Usable add.suite (key_from cipher add) (cipher.nonce (salt_from cipher add) ctr) (header kid ctr ++ metadata)
  usable-for kid ctr metadata hk hc om = record {
    known = known;
    key-length = laws.key-length add.suite add.base add.kid known;
    key-octets = laws.key-octets add.suite add.base add.kid known base-octets;
    nonce-length = laws.nonce-length (salt_from cipher add) ctr salt-size;
    nonce-octets = laws.nonce-octets (salt_from cipher add) ctr salt-size salt-bytes;
    aad-octets = octets-append (header kid ctr) metadata (header-octets kid ctr hk hc) om;
  }

  pub given-for : (kid ctr n : ℕ) (metadata : List ℕ) → kid < 2 ^ 64 → ctr < 2 ^ 64 → Octets metadata → length metadata ≤ max_metadata → n ≤ max_plaintext
      → Given add.suite (key_from cipher add) (cipher.nonce (salt_from cipher add) ctr) (header kid ctr ++ metadata) n
  given-for kid ctr n metadata hk hc om mm nm =
      let h = header-length kid ctr hk hc in
      record {
        usable = usable-for kid ctr metadata hk hc om;
        aad-least = simp length-append (omega (arith, h.0));
        aad-most = simp length-append (omega (arith, h.1));
        n-most = nm;
      }
