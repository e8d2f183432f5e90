-- SPDX-License-Identifier: MIT
-- The steps of the code, over plain variables. Assumes nothing.
use mathlib.Core.Path.{◌≡◌, refl, sym, ◌∙◌, ap, ap₂}
use mathlib.Core.List.{List, [], ◌∷◌, ◌++◌, append_assoc, append-nil}
use Prim.Native.Nat.{ℕ, suc, ◌+◌, ◌-◌, ◌<◌, ◌≤◌}
use native.Mathlib.Nat.{sub-zero}
use native.Mathlib.Omega.{arith}
use lib.ListN.{length, take, drop, set, length-append, length-set}
use lib.Seq.{take_at}
use Rattle.octets.specs.Octets.{bytes, pasted, xors}
use Rattle.octets.proofs.Laws.{bytes-length, pasted-append, pasted-front, set-pasted}
use Rattle.hmac.specs.Hkdf.{expand}
use Rattle.octets.proofs.Writing.{front-all}
use Rattle.suites.specs.Suites.{number_of, hash_of, Nn}
use Rattle.suites.specs.Derivation.{secret, nonce}
use Rattle.aead.specs.Aead.{encrypt, decrypt}
use Rattle.suites.specs.declared.sizes.Suite.{Suite}
use Rattle.secure_objects.specs.Varint.{varint, varint_most}
use Rattle.secure_objects.specs.Objects.{object_ceiling, counter, aad, secured, unsecured}
use Rattle.secure_objects.specs.Derivation.{label, derived}
use Rattle.secure_objects.specs.Inner.Sizes.{label_size, numbers_most}
use Rattle.secure_objects.proofs.Laws.{varint-length, counter-bytes, aad-properties}

-- one string written behind another
pub behind : (o a b x y : List ℕ) (i : ℕ) → length x + length y ≤ length o → i ≡ length x → a ≡ pasted o 0 x → b ≡ pasted a i y → b ≡ pasted o 0 (x ++ y)
behind o a b x y i h e p q =
    let f : i ≡ 0 + length x = omega arith in
    q ∙ ap₂ (λ (l : List ℕ) (k : ℕ). pasted l k y) p f ∙ pasted-append o 0 x y (omega arith)

-- what was written to the front of a list stands there
pub front-is : (o r x : List ℕ) (n : ℕ) → n ≡ length x → r ≡ pasted o 0 x → take n r ≡ x
front-is o r x n e w = ap (take n) (w ∙ pasted-front o x) ∙ take_at x _ n (sym e)

pub front-part : (o r x : List ℕ) (n : ℕ) → n ≡ length x → r ≡ pasted o 0 x → take (n - 0) r ≡ x
front-part o r x n e w = ap (λ (k : ℕ). take k r) (sub-zero n) ∙ front-is o r x n e w

-- ---- variable-length integers

-- a number in n bytes
pub narrow-written : (o r v : List ℕ) (i n m y : ℕ) → v ≡ bytes n y → m ≡ n → n ≤ varint_most → r ≡ pasted o i (bytes n y) → ((i + m ≡ i + length v) × (i + m ≤ i + varint_most)) × (r ≡ pasted o i v)
narrow-written o r v i n m y e q h w = let l : length v ≡ n = ap length e ∙ bytes-length n y in ((omega arith, omega arith), w ∙ ap (pasted o i) (sym e))

-- a number from 2^62 on: its first byte, then 8 more
pub wide-length : (o a : List ℕ) (i : ℕ) → i + varint_most ≤ length o → a ≡ set o i 255 → i + 1 + 8 ≤ length a
wide-length o a i h e = let l : length a ≡ length o = ap length e ∙ length-set o i 255 in omega arith

pub wide-written : (o a r : List ℕ) (i x : ℕ) → i + varint_most ≤ length o → a ≡ set o i 255 → r ≡ pasted a (i + 1) (bytes 8 x) → varint x ≡ 255 ∷ bytes 8 x
    → ((i + varint_most ≡ i + length (varint x)) × (i + varint_most ≤ i + varint_most)) × (r ≡ pasted o i (varint x))
wide-written o a r i x h p q e =
    let b = bytes-length 8 x in
    let l : length (varint x) ≡ varint_most = ap length e ∙ ap suc b in (
      (omega arith, omega arith),
      q
          ∙ ap (λ (l : List ℕ). pasted l (i + 1) (bytes 8 x)) (p ∙ set-pasted o i 255 (omega arith))
          ∙ pasted-append o i (255 ∷ []) (bytes 8 x) (omega arith)
          ∙ ap (pasted o i) (sym e),
    )

-- ---- labels

module _ (t : List ℕ) (s : Suite) (name : List ℕ) (key_id : ℕ) where
  pub label-length : length (label t s name key_id) ≡ label_size t name
  unfolding label
  label-length = simp (length-append, bytes-length)

  pub label-written : (o a b c r : List ℕ) (n : ℕ) → label_size t name ≤ length o → n ≡ number_of s → a ≡ pasted o 0 t → b ≡ pasted a (length t) name
      → c ≡ pasted b (length t + length name) (bytes 2 n) → r ≡ pasted c (length t + length name + 2) (bytes 8 key_id) → r ≡ pasted o 0 (label t s name key_id)
  unfolding label
  label-written o a b c r n h e p q w z =
      let k = bytes-length 2 n in
      let m = bytes-length 8 key_id in
      let one = behind o a b t name (length t) (omega arith) refl p q in
      let two = behind o b c (t ++ name) (bytes 2 n) (length t + length name) (simp length-append (omega arith)) (sym (length-append t name)) one w in
      let three = behind o c r ((t ++ name) ++ bytes 2 n) (bytes 8 key_id) (length t + length name + 2) (simp length-append (omega arith)) (simp length-append (omega arith)) two z in
      three
      ∙ ap (pasted o 0) (append_assoc (t ++ name) (bytes 2 n) (bytes 8 key_id) ∙ append_assoc t name (bytes 2 n ++ bytes 8 key_id))
      ∙ ap (λ (x : ℕ). pasted o 0 (t ++ (name ++ (bytes 2 x ++ bytes 8 key_id)))) e

  -- what is expanded under the label of a text
  pub label-derived : (base o p r : List ℕ) (i n : ℕ) → i ≡ label_size t name → p ≡ pasted o 0 (label t s name key_id)
      → r ≡ expand (hash_of s) (secret s base) (take (i - 0) p) n → r ≡ derived t s base name key_id n
  unfolding derived
  label-derived base o p r i n e w q = q ∙ ap (λ (l : List ℕ). expand (hash_of s) (secret s base) l n) (front-part o p (label t s name key_id) i (e ∙ sym label-length) w)

-- ---- the nonce

pub nonce-made : (o a c y n r t : List ℕ) (group object : ℕ) → length o ≡ Nn → length t ≡ Nn → length y ≤ Nn → object < object_ceiling → a ≡ pasted o 0 (bytes 8 group)
    → c ≡ pasted a 8 (bytes 4 object) → n ≡ t ++ drop (length t) y → r ≡ xors n c → r ≡ nonce t (counter group object)
unfolding nonce
nonce-made o a c y n r t group object lo h hy b p q w e =
    let lg = bytes-length 8 group in
    let lb = bytes-length 4 object in
    let whole : c ≡ bytes 8 group ++ bytes 4 object =
    behind o a c (bytes 8 group) (bytes 4 object) 8 (omega arith) (sym lg) p q ∙ pasted-front o (bytes 8 group ++ bytes 4 object)
    ∙ front-all (bytes 8 group ++ bytes 4 object) o (length (bytes 8 group ++ bytes 4 object)) (simp length-append (omega arith))
    in
    e ∙ ap₂ xors (w ∙ front-all t y (length t) (omega arith)) (whole ∙ sym (counter-bytes group object b))

-- ---- the head of the associated data

module _ (o a b c r name : List ℕ) (i j k key_id group object : ℕ) (h : numbers_most + length name ≤ length o) (ei : i ≡ 0 + length (varint key_id)) (ej : j ≡ i + length (varint group)) (ek : k ≡ j + length (varint object)) (p : a ≡ pasted o 0 (varint key_id)) (q : b ≡ pasted a i (varint group)) (w : c ≡ pasted b j (varint object)) (z : r ≡ pasted c k name) where
  abbrev numbers : List ℕ
  numbers = (varint key_id ++ varint group) ++ varint object

  numbers-length : length numbers ≡ k
  numbers-length = simp length-append (omega arith)

  pub head-inside : k ≤ numbers_most
  head-inside = omega (arith, varint-length key_id, varint-length group, varint-length object)

  head-is : r ≡ pasted o 0 (numbers ++ name)
  head-is =
      let lk = varint-length key_id in
      let lg = varint-length group in
      let lo = varint-length object in
      let one = behind o a b (varint key_id) (varint group) i (omega arith) (omega arith) p q in
      let two = behind o b c (varint key_id ++ varint group) (varint object) j (simp length-append (omega arith)) (simp length-append (omega arith)) one w in
      behind o c r numbers name k (rw numbers-length (omega arith)) (sym numbers-length) two z

  pub head-written : take (k + length name) r ≡ aad key_id group object name []
  unfolding aad
  head-written =
      front-is o r (numbers ++ name) (k + length name) (sym (length-append numbers name ∙ ap (λ (n : ℕ). n + length name) numbers-length)) head-is
      ∙ append_assoc (varint key_id ++ varint group) (varint object) name
      ∙ append_assoc (varint key_id) (varint group) (varint object ++ name)
      ∙ ap (λ (l : List ℕ). varint key_id ++ (varint group ++ (varint object ++ l))) (sym (append-nil name))

-- ---- encryption and decryption

module _ (s : Suite) (key salt name : List ℕ) (key_id group object : ℕ) (properties : List ℕ) (n head : List ℕ) (i : ℕ) (e : n ≡ nonce salt (counter group object)) (f : take i head ≡ aad key_id group object name []) where
  whole : take (i - 0) head ++ properties ≡ aad key_id group object name properties
  whole = ap (λ (k : ℕ). take k head ++ properties) (sub-zero i) ∙ ap (λ (l : List ℕ). l ++ properties) f ∙ aad-properties key_id group object name properties

  pub secured-is : (p : List ℕ) → encrypt s key n (take (i - 0) head ++ properties) p ≡ secured s key salt name key_id group object properties p
  unfolding secured
  secured-is p = ap₂ (λ (x y : List ℕ). encrypt s key x y p) e whole

  pub unsecured-is : (c : List ℕ) → decrypt s key n (take (i - 0) head ++ properties) c ≡ unsecured s key salt name key_id group object properties c
  unfolding unsecured
  unsecured-is c = ap₂ (λ (x y : List ℕ). decrypt s key x y c) e whole
