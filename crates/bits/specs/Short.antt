-- A short run of marks set by one word of four bytes: the run as a number, and the bytes of the word stored.
-- Main results: stored_bytes, marked_short.
use Rattle.std.specs.Prelude.{◌≡◌, refl, ◌⊎◌, List, ◌++◌, ℕ, zero, suc, ◌+◌, ◌-◌, ◌*◌, ◌/◌, ◌%◌, ◌^◌, ◌≤◌, ◌<◌, max, length, get_or, take, drop}
use Rattle.std.specs.Int.{to_le_bytes, w64}
use Rattle.std.proofs.Common.{sym, ◌∙◌, ap, ap₂, inl, inr, ⊎_elim, arith, length-append, length-drop, length-take-le, pow_pos, get_or-append-add, get_or-drop, get_or-take}
use Rattle.std.proofs.Math.ListN.{get_or-append}
use Rattle.std.proofs.Math.Logic.{by_cases}
use Rattle.std.proofs.Math.Nat.{zero-div}
use Rattle.std.proofs.Math.Decide.{dec_lt}
use Rattle.std.specs.Int.Bits.{bit_or}
use Rattle.std.proofs.Math.Pow.{field, mod-mod-pow}
use Rattle.code.specs.Codewords.{bit_of}
use Rattle.code.specs.Marks.{mark}
use Rattle.code.proofs.Laws.MarksLaws.{mark_at, mark_bit, bit_not, bit_or_lem}
use Rattle.bits.specs.Bits.{Marked}
use Rattle.bits.specs.Lowest.{bit_shifted, bit_raised, bit_under, bit_beyond}
use Rattle.bits.specs.MarkedLaws.{Bytes}
use Rattle.bits.specs.Words.{Lanes}

-- ---- a run as a number: k ones from bit s on

run_in : (k s d : ℕ) → d < k → bit_of (s + d) ((2 ^ k - 1) * 2 ^ s) ≡ 1
unfolding bit_of
run_in k s d h =
    let e : 2 ^ k - 1 ≡ 2 ^ k - 1 - 0 = omega arith in
    bit_raised s d (2 ^ k - 1) ∙ ap (bit_of d) e ∙ bit_not k d 0 h (pow_pos k) ∙ ap (λ x. 1 - x % 2) (zero-div (2 ^ d))

run_out : (k s b : ℕ) → (b < s) ⊎ (s + k ≤ b) → bit_of b ((2 ^ k - 1) * 2 ^ s) ≡ 0
run_out k s b o =
    ⊎_elim (bit_under s b (2 ^ k - 1))
    (λ h. let e : b ≡ s + (b - s) = omega arith in
    let l : 2 ^ k - 1 < 2 ^ k = omega (arith, pow_pos k) in
    ap (λ x. bit_of x ((2 ^ k - 1) * 2 ^ s)) e ∙ bit_raised s (b - s) (2 ^ k - 1) ∙ bit_beyond k (b - s) (2 ^ k - 1) l (omega arith)) o

-- ---- bytes stored

-- marks m' are m with the k bytes from byte i on those of w, lowest first
pub record Stored (m : List ℕ) (i k w : ℕ) (m' : List ℕ) : Type 0 where
  pub long : length m' ≡ length m
  pub these : (b : ℕ) → b < 8 * k → mark m' (8 * i + b) ≡ bit_of b w
  pub others : (d : ℕ) → (d < 8 * i) ⊎ (8 * (i + k) ≤ d) → mark m' d ≡ mark m d

-- a bit below the width of a remainder
low_bit : (b j x : ℕ) → bit_of b (x % 2 ^ (j + 1 + b)) ≡ bit_of b x
unfolding bit_of
low_bit b j x = ap (λ y. y % 2) (field x (j + 1) b) ∙ mod-mod-pow (x / 2 ^ b) j 1

byte_bit : (a b w : ℕ) → b < 8 → bit_of b (w / 2 ^ a % 2 ^ 8) ≡ bit_of (a + b) w
byte_bit a b w h =
    let e : 8 ≡ 7 - b + 1 + b = omega arith in
    ap (λ x. bit_of b (w / 2 ^ a % 2 ^ x)) e ∙ low_bit b (7 - b) (w / 2 ^ a) ∙ bit_shifted a b w

same_byte : (m m' : List ℕ) (d : ℕ) → get_or m' (d / 8) 0 ≡ get_or m (d / 8) 0 → mark m' d ≡ mark m d
unfolding mark
same_byte m m' d f = ap (bit_of (d % 8)) f

-- k bytes copied into the marks from byte i on, which are those of w
pub stored_bytes : {m m' : List ℕ} {i k w : ℕ} (bytes : List ℕ) → length bytes ≡ k → ((j : ℕ) → j < k → get_or bytes j 0 ≡ w / 2 ^ (8 * j) % 256)
    → i + k ≤ length m → m' ≡ take i m ++ (bytes ++ drop (i + k - i) (drop i m)) → Stored m i k w m'
stored_bytes {m} {m'} {i} {k} {w} bytes len e h q =
    record {
      long = ap length q ∙ length-append (take i m) (bytes ++ rest) ∙ ap₂ ◌+◌ front (length-append bytes rest ∙ ap₂ ◌+◌ len back) ∙ omega arith;
      these = λ b l. these b (b / 8) (b % 8) (omega arith) (omega arith) (omega arith);
      others = λ d o. same_byte m m' d
          (⊎_elim (λ g. before (d / 8) (omega arith)) (λ g. after (d / 8) (d / 8 - (i + k)) (omega arith)) o);
    }
  where
    rest : List ℕ
    rest = drop (i + k - i) (drop i m)

    front : length (take i m) ≡ i
    front = length-take-le i m (omega arith)

    back : length rest ≡ length m - i - (i + k - i)
    back = length-drop (i + k - i) (drop i m) ∙ ap (λ x. x - (i + k - i)) (length-drop i m)

    -- entry i + j of the new list is entry j behind the front
    behind : (j : ℕ) → get_or m' (i + j) 0 ≡ get_or (bytes ++ rest) j 0
    behind j =
        ap (λ l. get_or l (i + j) 0) q ∙ ap (λ x. get_or (take i m ++ (bytes ++ rest)) (x + j) 0) (sym front)
        ∙ get_or-append-add (take i m) (bytes ++ rest) j 0

    these : (b j d : ℕ) → b ≡ 8 * j + d → j < k → d < 8 → mark m' (8 * i + b) ≡ bit_of b w
    these b j d f g l =
        let p : 8 * i + b ≡ 8 * (i + j) + d = omega arith in
        let byte : get_or m' (i + j) 0 ≡ w / 2 ^ (8 * j) % 256 = behind j ∙ get_or-append bytes rest 0 j (rw len g) ∙ e j g in
        ap (mark m') p ∙ mark_at m' (i + j) d l ∙ ap (bit_of d) byte ∙ byte_bit (8 * j) d w l ∙ ap (λ y. bit_of y w) (sym f)

    before : (r : ℕ) → r < i → get_or m' r 0 ≡ get_or m r 0
    before r l = ap (λ x. get_or x r 0) q ∙ get_or-append (take i m) (bytes ++ rest) 0 r (rw front l) ∙ get_or-take i m r 0 l

    after : (r j : ℕ) → r ≡ i + k + j → get_or m' r 0 ≡ get_or m r 0
    after r j f =
        let a : r ≡ i + (k + j) = omega arith in
        let b : i + (i + k - i + j) ≡ r = omega arith in
        ap (λ x. get_or m' x 0) a ∙ behind (k + j) ∙ ap (λ x. get_or (bytes ++ rest) (x + j) 0) (sym len) ∙ get_or-append-add bytes rest j 0
        ∙ get_or-drop (i + k - i) (drop i m) j 0 ∙ get_or-drop i m (i + k - i + j) 0 ∙ ap (λ x. get_or m x 0) b

-- the lowest four bytes of w, as `to_le_bytes` gives them
pub low_four : (w j : ℕ) → j < 4 → get_or (take 4 (to_le_bytes w64 w)) j 0 ≡ w / 2 ^ (8 * j) % 256
low_four w zero h = omega arith
low_four w (suc zero) h = refl
low_four w (suc (suc zero)) h = refl
low_four w (suc (suc (suc zero))) h = refl
low_four w (suc (suc (suc (suc j)))) h = absurd (omega arith)

-- ---- the run: the word with the ones put in it

pub marked_short : {m m' : List ℕ} {i w : ℕ} (c k s x : ℕ) → Lanes m i 4 w → Stored m i 4 (bit_or w x) m' → x ≡ (2 ^ k - 1) * 2 ^ s
    → c ≡ 8 * i + s → s + k ≤ 32 → Bytes m' → Marked m c k 1 m'
marked_short {m} {m'} {i} {w} c k s x L S e f h y =
    record {
      long = S.long;
      bytes = y;
      these = λ d g l. inside d (d - c) (omega arith) (omega arith);
      others = λ d o. by_cases (dec_lt d (8 * i))
          (λ g. S.others d (inl g))
          (λ g. by_cases (dec_lt d (8 * (i + 4)))
          (λ l. outside d (d - 8 * i) (omega arith) (omega arith) (⊎_elim (λ q. inl (omega arith)) (λ q. inr (omega arith)) o))
          (λ l. S.others d (inr (omega arith))));
    }
  where
    now_bit : (b : ℕ) → b < 32 → mark m' (8 * i + b) ≡ max (mark m (8 * i + b)) (bit_of b ((2 ^ k - 1) * 2 ^ s))
    now_bit b l = S.these b l ∙ bit_or_lem b w x ∙ ap₂ max (L.each b l) (ap (bit_of b) e)

    inside : (d b : ℕ) → d ≡ c + b → b < k → mark m' d ≡ 1
    inside d b g l =
        let q : d ≡ 8 * i + (s + b) = omega arith in
        let one = run_in k s b l in
        ap (mark m') q ∙ now_bit (s + b) (omega arith) ∙ omega (arith, mark_bit m (8 * i + (s + b)))

    outside : (d b : ℕ) → d ≡ 8 * i + b → b < 32 → (b < s) ⊎ (s + k ≤ b) → mark m' d ≡ mark m d
    outside d b g l o =
        let none = run_out k s b o in
        ap (mark m') g ∙ now_bit b l ∙ omega arith ∙ ap (mark m) (sym g)
