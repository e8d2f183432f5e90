-- SPDX-License-Identifier: MIT
-- What the code of a beginning comes to, over plain variables. Assumes nothing.
use mathlib.Core.Path.{◌≡◌, sym, ◌∙◌, ap, ap₂}
use mathlib.Core.List.{List, [], ◌∷◌, ◌++◌, append-nil, append_assoc}
use Prim.Native.Nat.{ℕ, ◌+◌, ◌%◌, ◌-◌, ◌<◌, ◌≤◌}
use native.Mathlib.Nat.{mod-eq_of_lt, div-one}
use native.Mathlib.Omega.{arith}
use borrow.Rule.Slice.PartMut.{put_mid}
use lib.ListN.{length, take, drop, replicate, length-append, length-drop, length-replicate}
use lib.Seq.{length-take-le, drop-drop}
use Rattle.octets.specs.Octets.{bytes, xors, pasted}
use Rattle.octets.proofs.Laws.{bytes-length, bytes-zero, bytes-suc, pasted-append, pasted_length}
use Rattle.sha2_common.specs.Sizes.{sha256}
use Rattle.sha2_common.specs.Running.{State, fresh, fed}
use Rattle.sha2_common.proofs.Laws.{drop-zeros}
use Rattle.hmac.specs.Hmac.{extended, masked, ipad}
use Rattle.ghash.specs.Ghash.{absorb}
use Rattle.ghash.specs.Inner.HashKey.{HashKey, hash_key_of}
use Rattle.ghash.proofs.Laws.{hash-key-of}
use Rattle.gcm.specs.Gcm.{hash_key}
use Rattle.aes_keys.specs.Inner.Keys.{Context, key_of}
use Rattle.suites.specs.declared.sizes.Suite.{Suite}
use Rattle.suites.specs.declared.sizes.Mode.TheVariants.{CtrHmac, Gcm}
use Rattle.suites.specs.Suites.{number_of, Nk, Nt, mode_of}
use Rattle.aead.specs.Aead.{cipher_key}
use Rattle.suites.proofs.Laws.{number-byte}
use Rattle.aead.proofs.Laws.{whole-key}
use Rattle.piece_hash.specs.Held.{kept, kept_block, absorb_whole}
use Rattle.piece_hash.proofs.Blocks.{whole-short, left-short}
use Rattle.piece_hash.proofs.Joins.{fed-join, fresh-room}
use Rattle.piece_line.specs.Line.{tag_front, front, key_field, hash_after, state_after, begun}

-- ---- the running hash

-- one more string fed to a hash that began new
more : (s r : State) (x y : List ℕ) → s ≡ fed sha256 (fresh sha256) x → r ≡ fed sha256 s y → r ≡ fed sha256 (fresh sha256) (x ++ y)
more s r x y e f = f ∙ ap (λ (h : State). fed sha256 h y) e ∙ fed-join (fresh sha256) x y fresh-room

pub begun-hmac : (k m l nonce a d key b : List ℕ) (s0 s1 s2 s3 s4 s5 : State) (nt n u : ℕ) → k ≡ extended sha256 (drop 16 key) → m ≡ xors k (replicate 64 ipad)
    → u ≡ length a + length d → l ≡ bytes 8 u ++ (bytes 8 n ++ bytes 8 nt) → s0 ≡ fresh sha256 → s1 ≡ fed sha256 s0 m → s2 ≡ fed sha256 s1 l
    → s3 ≡ fed sha256 s2 nonce → s4 ≡ fed sha256 s3 a → s5 ≡ fed sha256 s4 d → b ≡ kept s5 → b ≡ hash_after CtrHmac nt n key nonce (a ++ d) []
unfolding tag_front masked
begun-hmac k m l nonce a d key b s0 s1 s2 s3 s4 s5 nt n u ek em eu el e0 e1 e2 e3 e4 e5 eb =
    let f1 : s1 ≡ fed sha256 (fresh sha256) m = e1 ∙ ap (λ (h : State). fed sha256 h m) e0 in
    let f5 = more s4 s5 _ d (more s3 s4 _ a (more s2 s3 _ nonce (more s1 s2 m l f1 e2) e3) e4) e5 in
    let v : u ≡ length (a ++ d) = eu ∙ sym (length-append a d) in
    let x = xors (extended sha256 (drop 16 key)) (replicate 64 ipad) in
    let q : m ≡ x = em ∙ ap (λ (t : List ℕ). xors t (replicate 64 ipad)) ek in
    let w : l ≡ bytes 8 (length (a ++ d)) ++ (bytes 8 n ++ bytes 8 nt) = el ∙ ap (λ (i : ℕ). bytes 8 i ++ (bytes 8 n ++ bytes 8 nt)) v in
    eb ∙ ap kept (f5 ∙ ap₂ (λ (i j : List ℕ). fed sha256 (fresh sha256) ((((i ++ j) ++ nonce) ++ a) ++ d)) q w
    ∙ ap (fed sha256 (fresh sha256)) (flat x (bytes 8 (length (a ++ d))) (bytes 8 n) (bytes 8 nt)))
  where
    flat : (x p q r : List ℕ) → (((x ++ (p ++ (q ++ r))) ++ nonce) ++ a) ++ d ≡ x ++ ((p ++ (q ++ (r ++ (nonce ++ (a ++ d))))) ++ [])
    flat x p q r = simp (append_assoc, append-nil)

pub begun-gcm : (ctx h key b w aad nonce : List ℕ) (suite : Suite) (y nt n : ℕ) → mode_of suite ≡ Gcm → length key ≡ Nk suite → Context (cipher_key suite key) ctx
    → HashKey (hash_key (key_of ctx)) h → y ≡ absorb (hash_key_of h) 0 aad → w ≡ [] → b ≡ kept_block y w → b ≡ hash_after Gcm nt n key nonce aad []
begun-gcm ctx h key b w aad nonce suite y nt n e l c k f z g =
    let q : hash_key_of h ≡ hash_key key = hash-key-of k ∙ ap hash_key (c.keyed ∙ whole-key suite key e l) in
    let v : y ≡ absorb_whole (hash_key key) (absorb (hash_key key) 0 aad) [] =
    f ∙ ap (λ (i : ℕ). absorb i 0 aad) q ∙ sym (whole-short (hash_key key) (absorb (hash_key key) 0 aad) [] (omega arith)) in
    g ∙ ap₂ kept_block v (z ∙ sym (left-short [] (omega arith)))

-- ---- the fields in front

one_byte : (x : ℕ) → x < 256 → bytes 1 x ≡ x ∷ []
one_byte x h = bytes-suc 0 x ∙ ap₂ (λ (i : ℕ) (l : List ℕ). i ∷ l) (ap (λ (i : ℕ). i % 256) (div-one x) ∙ mod-eq_of_lt h) (bytes-zero x)

-- a second paste at the end of the first
next : (l o r x y : List ℕ) (i n : ℕ) → i + length x ≡ n → n + length y ≤ length l → o ≡ pasted l i x → r ≡ pasted o n y → r ≡ pasted l i (x ++ y)
next l o r x y i n e h f g =
    g ∙ ap₂ (λ (a : List ℕ) (j : ℕ). pasted a j y) f (sym e) ∙ pasted-append l i x y (omega arith)

pub front-written : (s a b c d : List ℕ) (kind num aad n : ℕ) (suite : Suite) → 168 ≤ length s → kind < 256 → num ≡ number_of suite
    → a ≡ pasted s 0 (bytes 1 kind) → b ≡ pasted a 1 (bytes 1 num) → c ≡ pasted b 2 (bytes 2 aad) → d ≡ pasted c 4 (bytes 4 n)
    → d ≡ pasted s 0 (front kind suite aad n)
unfolding front
front-written s a b c d kind num aad n suite l k m e f g h =
    let x = kind ∷ [] in
    let y = number_of suite ∷ [] in
    let f0 : a ≡ pasted s 0 x = e ∙ ap (pasted s 0) (one_byte kind k) in
    let f1 : b ≡ pasted a 1 y = f ∙ ap (λ (i : ℕ). pasted a 1 (bytes 1 i)) m ∙ ap (pasted a 1) (one_byte (number_of suite) (number-byte suite)) in
    let b2 = bytes-length 2 aad in
    let b4 = bytes-length 4 n in
    let g1 = next s a b x y 0 1 (omega arith) (omega arith) f0 f1 in
    let g2 = next s b c (x ++ y) (bytes 2 aad) 0 2 (omega arith) (omega arith) g1 g in
    next s c d ((x ++ y) ++ bytes 2 aad) (bytes 4 n) 0 4 (simp (length-append, bytes-length) (omega arith)) (omega arith) g2 h

pub key-written : (s key k a b : List ℕ) → 168 ≤ length s → length key ≤ 48 → k ≡ key ++ drop (length key) (replicate 48 0)
    → a ≡ pasted s 20 k → b ≡ pasted a 68 (bytes 4 0) → b ≡ pasted s 20 (key_field key ++ bytes 4 0)
unfolding key_field
key-written s key k a b l h e f g =
    let q : k ≡ key ++ replicate (48 - length key) 0 = e ∙ ap (λ (t : List ℕ). key ++ t) (drop-zeros (length key) 48 h) in
    let m : length k ≡ 48 = ap length q ∙ simp (length-append, length-replicate) (omega arith) in
    next s a b k (bytes 4 0) 20 68 (omega arith) (rw (bytes-length 4 0) (omega arith)) f g ∙ ap (λ (t : List ℕ). pasted s 20 (t ++ bytes 4 0)) q

key_field-length : (key : List ℕ) → length key ≤ 48 → length (key_field key) ≡ 48
unfolding key_field
key_field-length key h = simp (length-append, length-replicate) (omega arith)

front_length : (kind aad n : ℕ) (suite : Suite) → length (front kind suite aad n) ≡ 8
unfolding front
front_length kind aad n suite = simp (length-append, bytes-length)

lent : (c p : List ℕ) → length p ≡ 96 → put_mid 72 96 c p ≡ pasted c 72 p
unfolding pasted
lent c p e = rw e (ap (λ (t : List ℕ). take 72 c ++ (p ++ t)) (drop-drop 96 72 c))

pub begun-written : (s a b c p r key nonce aad : List ℕ) (kind u n : ℕ) (suite : Suite) → 168 ≤ length s → length nonce ≡ 12 → length key ≤ 48
    → u ≡ length aad → a ≡ pasted s 0 (front kind suite u n) → b ≡ pasted a 8 nonce → c ≡ pasted b 20 (key_field key ++ bytes 4 0)
    → length p ≡ length (take 96 (drop 72 c)) → p ≡ hash_after (mode_of suite) (Nt suite) n key nonce aad [] → r ≡ put_mid 72 96 c p
    → r ≡ pasted s 0 (begun kind suite n nonce key aad)
unfolding begun state_after
begun-written s a b c p r key nonce aad kind u n suite l ln lk eu ea eb ec lp ep er =
    let F = front kind suite (length aad) n in
    let K = key_field key ++ bytes 4 0 in
    let lf : length F ≡ 8 = front_length kind (length aad) n suite in
    let l_k : length K ≡ 52 = length-append (key_field key) (bytes 4 0) ∙ rw (key_field-length key lk, bytes-length 4 0) in
    let f0 : a ≡ pasted s 0 F = ea ∙ ap (λ (i : ℕ). pasted s 0 (front kind suite i n)) eu in
    let f1 = next s a b F nonce 0 8 (omega arith) (omega arith) f0 eb in
    let f2 = next s b c (F ++ nonce) K 0 20 (rw (length-append F nonce) (omega arith)) (omega arith) f1 ec in
    let X = (F ++ nonce) ++ K in
    let l_x : length X ≡ 72 = rw (length-append (F ++ nonce) K, length-append F nonce) (omega arith) in
    let lc : length c ≡ length s = ap length f2 ∙ pasted_length s 0 X (omega arith) in
    let lq : length p ≡ 96 = lp ∙ length-take-le 96 (drop 72 c) (rw (length-drop 72 c) (omega arith)) in
    let f3 : r ≡ pasted c 72 p = er ∙ lent c p lq in
    let f4 = next s c r ((F ++ nonce) ++ K) p 0 72 (rw (length-append (F ++ nonce) K, length-append F nonce) (omega arith)) (omega arith) f2 f3 in
    f4 ∙ ap (λ (h : List ℕ). pasted s 0 (((F ++ nonce) ++ K) ++ h)) ep ∙ ap (pasted s 0) (flat F (key_field key) (bytes 4 0) (hash_after (mode_of suite) (Nt suite) n key nonce aad []))
  where
    flat : (f k z h : List ℕ) → ((f ++ nonce) ++ (k ++ z)) ++ h ≡ f ++ (nonce ++ (k ++ (z ++ h)))
    flat f k z h = simp append_assoc
