-- Marks read eight bytes at a time: the bits of a word are the marks of 64 places.
-- Main results: lanes_more (one byte more), lanes_read (a number read from some bytes), lanes_full and lanes_last (a word of marks), word_cut (without the places below one).
use Rattle.std.specs.Prelude.{◌≡◌, refl, List, ℕ, zero, suc, ◌+◌, ◌-◌, ◌*◌, ◌/◌, ◌%◌, ◌^◌, ◌≤◌, ◌<◌, max, leb, length, get_or, take, drop}
use Rattle.std.proofs.Common.{sym, ◌∙◌, ap, ap₂, subst, mod-eq_of_lt, arith, le-leb, pow-add, pow-suc, pow_mono, shl_lt, get_or-take, get_or-drop}
use Rattle.std.proofs.Math.Logic.{by_cases}
use Rattle.std.proofs.Math.Nat.{add_comm}
use Rattle.std.proofs.Math.Decide.{dec_lt}
use Rattle.std.proofs.lemmas.Bool.{lt-leb}
use Rattle.std.specs.Int.{byte_worth, sum_through}
use Rattle.std.specs.Int.Bits.{bit_or, or_zero_l, or_shifted_r}
use Rattle.std.proofs.lemmas.Nat.{or_lt}
use Rattle.std.proofs.Math.ListN.{get_or-eq_default}
use Rattle.std.proofs.Math.Pow.{split}
use Rattle.math.specs.Sums.{only}
use Rattle.math.specs.SumsLaws.{only_true, only_false}
use Rattle.code.specs.Codewords.{bit_of}
use Rattle.code.specs.Marks.{mark}
use Rattle.code.proofs.Laws.MarksLaws.{mark_at, bit_or_lem}
use Rattle.bits.specs.Lowest.{bit_shifted, bit_raised, bit_under, bit_beyond}

-- the bits of w are the marks of the 64 places from c on, those below place a left out
pub record Word (marks : List ℕ) (a c w : ℕ) : Type 0 where
  pub small : w < 2 ^ 64
  pub each : (b : ℕ) → b < 64 → bit_of b w ≡ only (leb a (c + b)) (mark marks (c + b))

-- m bytes of the marks from byte i on, lowest first
pub record Lanes (marks : List ℕ) (i m w : ℕ) : Type 0 where
  pub small : w < 2 ^ (8 * m)
  pub each : (b : ℕ) → b < 8 * m → bit_of b w ≡ mark marks (8 * i + b)

pub lanes_none : (marks : List ℕ) (i : ℕ) → Lanes marks i 0 0
lanes_none marks i = record { small = omega arith; each = λ b h. absurd (omega arith) }

-- the next byte x is put above them
pub lanes_more : {marks : List ℕ} {i m w : ℕ} (w' x : ℕ) → Lanes marks i m w → get_or marks (i + m) 0 < 256 → x ≡ get_or marks (i + m) 0 * 2 ^ (8 * m)
    → w' ≡ bit_or w x → Lanes marks i (m + 1) w'
lanes_more {marks} {i} {m} {w} w' x L h ex e =
    record {
      small = subst (λ y. y < 2 ^ (8 * (m + 1))) (sym e) (or_lt (8 * (m + 1)) w x below_w below_x);
      each = λ b l.
          ap (bit_of b) e ∙ bit_or_lem b w x
          ∙ by_cases (dec_lt b (8 * m))
          (λ g. ap₂ max (L.each b g) (ap (bit_of b) ex ∙ bit_under (8 * m) b y g) ∙ omega arith)
          (λ g. ap₂ max (bit_beyond (8 * m) b w L.small (omega arith)) (above b (b - 8 * m) (omega arith) (omega arith)) ∙ omega arith);
    }
  where
    y : ℕ
    y = get_or marks (i + m) 0

    below_w : w < 2 ^ (8 * (m + 1))
    below_w = let g : 8 * m ≤ 8 * (m + 1) = omega arith in omega (arith, L.small, pow_mono g)

    below_x : x < 2 ^ (8 * (m + 1))
    below_x =
        let f : 8 + 8 * m ≡ 8 * (m + 1) = omega arith in
        subst (λ z. x < 2 ^ z) f (subst (λ z. z < 2 ^ (8 + 8 * m)) (sym ex) (shl_lt 8 (8 * m) h))

    above : (b d : ℕ) → b ≡ 8 * m + d → d < 8 → bit_of b x ≡ mark marks (8 * i + b)
    above b d f g =
        let q : 8 * (i + m) + d ≡ 8 * i + b = omega arith in
        ap₂ bit_of f ex ∙ bit_raised (8 * m) d y ∙ sym (mark_at marks (i + m) d g) ∙ ap (mark marks) q

all_due : {marks : List ℕ} {c w : ℕ} → w < 2 ^ 64 → ((b : ℕ) → b < 64 → bit_of b w ≡ mark marks (c + b)) → Word marks 0 c w
all_due {marks} {c} {w} s f =
    record {
      small = s;
      each = λ b h. f b h ∙ sym (only_true (mark marks (c + b)) (le-leb 0 (c + b) (omega arith)));
    }

pub lanes_full : {marks : List ℕ} {i w : ℕ} → Lanes marks i 8 w → Word marks 0 (8 * i) w
lanes_full L = all_due L.small L.each

-- byte k of a number is worth 2 to the 8 k
worth : (k : ℕ) → 256 ^ k ≡ 2 ^ (8 * k)
worth zero = refl
worth (suc k) =
    let e : 8 * suc k ≡ 8 * k + 8 = omega arith in
    pow-suc 256 k ∙ ap (λ x. x * 256) (worth k) ∙ sym (ap (λ x. 2 ^ x) e ∙ pow-add 2 (8 * k) 8)

-- the bytes up to byte k of a list that has those from byte i on, as `from_le_bytes` puts them together
lanes_bytes : {marks : List ℕ} (i : ℕ) (bytes : List ℕ) (k : ℕ) → ((j : ℕ) → j ≤ k → get_or bytes j 0 ≡ get_or marks (i + j) 0)
    → ((b : ℕ) → get_or marks b 0 < 256) → Lanes marks i (k + 1) (sum_through (λ j. byte_worth j (get_or bytes j 0)) k)
lanes_bytes {marks} i bytes zero e s =
    let x = get_or bytes 0 0 in
    let f = e 0 (omega arith) in
    lanes_more x x (lanes_none marks i) (s (i + 0)) (omega arith) (sym (or_zero_l x))
lanes_bytes {marks} i bytes (suc k) e s =
    let w = sum_through (λ j. byte_worth j (get_or bytes j 0)) k in
    let y = get_or bytes (suc k) 0 in
    let x = y * 256 ^ suc k in
    let n : suc k ≡ k + 1 = omega arith in
    let m : k + 1 + 1 ≡ suc k + 1 = omega arith in
    let raised : x ≡ y * 2 ^ (8 * (k + 1)) = ap (λ z. y * z) (worth (suc k) ∙ ap (λ z. 2 ^ (8 * z)) n) in
    let same : y ≡ get_or marks (i + (k + 1)) 0 = e (suc k) (omega arith) ∙ ap (λ z. get_or marks (i + z) 0) n in
    let L : Lanes marks i (k + 1) (sum_through (λ j. byte_worth j (get_or bytes j 0)) k) = lanes_bytes i bytes k (λ j h. e j (omega arith)) s in
    let together : w + x ≡ bit_or w x =
    ap (λ z. w + z) raised ∙ add_comm w (y * 2 ^ (8 * (k + 1))) ∙ sym (or_shifted_r y (8 * (k + 1)) w L.small) ∙ ap (bit_or w) (sym raised) in
    subst (λ z. Lanes marks i z (w + x)) m (lanes_more (w + x) x L (s (i + (k + 1))) (raised ∙ ap (λ z. z * 2 ^ (8 * (k + 1))) same) together)

-- the same of the bytes that are cut out of the marks
pub lanes_read : {marks : List ℕ} {w : ℕ} (i k : ℕ) (bytes : List ℕ) → bytes ≡ take (i + (k + 1) - i) (drop i marks) → ((b : ℕ) → get_or marks b 0 < 256)
    → w ≡ sum_through (λ j. byte_worth j (get_or bytes j 0)) k → Lanes marks i (k + 1) w
lanes_read {marks} {w} i k bytes cut s e =
    subst (Lanes marks i (k + 1)) (sym e)
    (lanes_bytes i bytes k
    (λ j h. ap (λ l. get_or l j 0) cut ∙ get_or-take (i + (k + 1) - i) (drop i marks) j 0 (omega arith) ∙ get_or-drop i marks j 0) s)

-- there are no marks past the last byte
pub past_last : (marks : List ℕ) (c : ℕ) → 8 * length marks ≤ c → mark marks c ≡ 0
past_last marks c h =
    let e : c ≡ 8 * (c / 8) + c % 8 = omega arith in
    ap (mark marks) e ∙ mark_at marks (c / 8) (c % 8) (omega arith)
    ∙ ap (bit_of (c % 8)) (get_or-eq_default marks 0 {n = c / 8} (omega arith)) ∙ bit_beyond 0 (c % 8) 0 (omega arith) (omega arith)

pub lanes_last : {marks : List ℕ} {i m w : ℕ} → Lanes marks i m w → m ≤ 8 → length marks ≤ i + m → Word marks 0 (8 * i) w
lanes_last {marks} {i} {m} {w} L h l =
    all_due
    (let g : 8 * m ≤ 64 = omega arith in omega (arith, L.small, pow_mono g))
    (λ b k. by_cases (dec_lt b (8 * m))
    (λ g. L.each b g)
    (λ g. bit_beyond (8 * m) b w L.small (omega arith) ∙ sym (past_last marks (8 * i + b) (omega arith))))

-- places from c on are not below a
pub word_late : {marks : List ℕ} {a c w : ℕ} (a' : ℕ) → Word marks a c w → a ≤ c → a' ≤ c → Word marks a' c w
word_late {marks} {a} {c} {w} a' W h h' =
    record {
      small = W.small;
      each = λ b l. W.each b l
          ∙ ap (λ y. only y (mark marks (c + b))) (le-leb a (c + b) (omega arith) ∙ sym (le-leb a' (c + b) (omega arith)));
    }

-- the lowest k bits cleared
pub word_cut : {marks : List ℕ} {c w : ℕ} (a k w' : ℕ) → Word marks 0 c w → a ≡ c + k → w' ≡ w / 2 ^ k * 2 ^ k % 2 ^ 64 → Word marks a c w'
word_cut {marks} {c} {w} a k w' W e f =
    let l : w / 2 ^ k * 2 ^ k ≤ w = omega (arith, split w k) in
    let m : w / 2 ^ k * 2 ^ k < 2 ^ 64 = omega (arith, W.small) in
    let g : w' ≡ w / 2 ^ k * 2 ^ k = f ∙ mod-eq_of_lt m in
    record {
      small = subst (λ y. y < 2 ^ 64) (sym g) m;
      each = λ b h. ap (bit_of b) g
          ∙ by_cases (dec_lt b k)
          (λ q. bit_under k b (w / 2 ^ k) q ∙ sym (only_false (mark marks (c + b)) (lt-leb a (c + b) (omega arith))))
          (λ q. kept b (b - k) (omega arith) h);
    }
  where
    kept : (b d : ℕ) → b ≡ k + d → b < 64 → bit_of b (w / 2 ^ k * 2 ^ k) ≡ only (leb a (c + b)) (mark marks (c + b))
    kept b d q h =
        ap (λ y. bit_of y (w / 2 ^ k * 2 ^ k)) q ∙ bit_raised k d (w / 2 ^ k) ∙ bit_shifted k d w ∙ ap (λ y. bit_of y w) (sym q)
        ∙ W.each b h ∙ ap (λ y. only y (mark marks (c + b))) (le-leb 0 (c + b) (omega arith) ∙ sym (le-leb a (c + b) (omega arith)))

-- no place of the bytes from i to r is marked
pub record Clear (marks : List ℕ) (i r : ℕ) : Type 0 where
  pub order : i ≤ r
  pub none : (d : ℕ) → 8 * i ≤ d → d < 8 * r → mark marks d ≡ 0

-- a word of zeros more
pub clear_more : {marks : List ℕ} {i r w : ℕ} → Clear marks i r → Word marks 0 (8 * r) w → w ≡ 0 → Clear marks i (r + 8)
clear_more {marks} {i} {r} {w} C W z =
    record {
      order = omega (arith, C.order);
      none = λ d h l. by_cases (dec_lt d (8 * r)) (C.none d h) (λ g. zero_at d (d - 8 * r) (omega arith) (omega arith));
    }
  where
    zero_at : (d b : ℕ) → 8 * r + b ≡ d → b < 64 → mark marks d ≡ 0
    zero_at d b e h =
        ap (mark marks) (sym e) ∙ sym (only_true (mark marks (8 * r + b)) (le-leb 0 (8 * r + b) (omega arith)))
        ∙ sym (W.each b h) ∙ ap (bit_of b) z ∙ bit_beyond 0 b 0 (omega arith) (omega arith)
