-- Places next below a place that are not marked. Main result: gap_word.
use Rattle.std.specs.Prelude.{◌≡◌, List, ℕ, ◌+◌, ◌-◌, ◌*◌, ◌/◌, ◌%◌, ◌^◌, ◌≤◌, ◌<◌}
use Rattle.std.proofs.Common.{sym, ◌∙◌, ap, mod-lt, arith, le-leb, pow_pos}
use Rattle.std.specs.Int.Count.{count_leading_zeros}
use Rattle.std.proofs.lemmas.Nat.{leading_length}
use Rattle.std.proofs.Math.Pow.{field, mod-mod-pow}
use Rattle.math.specs.SumsLaws.{only_true}
use Rattle.code.specs.Codewords.{bit_of}
use Rattle.code.specs.Marks.{mark}
use Rattle.bits.specs.Lowest.{bit_raised, bit_beyond}
use Rattle.bits.specs.Words.{Word}

-- the m places next below c are not marked
pub record Gap (marks : List ℕ) (c m : ℕ) : Type 0 where
  pub far : m ≤ c
  pub small : m ≤ 64
  pub none : (d : ℕ) → c ≤ d + m → d < c → mark marks d ≡ 0

-- the bits that a width w keeps
bit_mod : (w b x : ℕ) → b < w → bit_of b (x % 2 ^ w) ≡ bit_of b x
unfolding bit_of
bit_mod w b x h =
    let e : w ≡ w - b - 1 + 1 + b = omega arith in
    let f : x % 2 ^ w / 2 ^ b ≡ x / 2 ^ b % 2 ^ (w - b - 1 + 1) = ap (λ y. x % 2 ^ y / 2 ^ b) e ∙ field x (w - b - 1 + 1) b in
    ap (λ y. y % 2) f ∙ mod-mod-pow (x / 2 ^ b) (w - b - 1) 1

-- the bits above the highest set one
zeros_above : (v b : ℕ) → v < 2 ^ 64 → 64 ≤ b + count_leading_zeros 64 v → bit_of b v ≡ 0
zeros_above v b h l = let s = leading_length 64 v h in bit_beyond s.0 b v s.2 (omega (arith, s.1))

-- a word of marks raised until the place below c is its highest bit: its leading zeros are places that are not marked
pub gap_word : {marks : List ℕ} {w : ℕ} (c i m : ℕ) → Word marks 0 (8 * i) w → 8 * i < c → c ≤ 8 * i + 64
    → m ≤ count_leading_zeros 64 (w * 2 ^ (64 - (c - 8 * i)) % 2 ^ 64) → m ≤ c - 8 * i → Gap marks c m
gap_word {marks} {w} c i m W h l z n = record {
  far = omega arith;
  small = omega arith;
  none = λ d f g. zero_at d (d - 8 * i) (omega arith) (omega arith) f g;
}
  where
    s : ℕ
    s = 64 - (c - 8 * i)

    zero_at : (d b : ℕ) → 8 * i + b ≡ d → b < 64 → c ≤ d + m → d < c → mark marks d ≡ 0
    zero_at d b e k f g =
        let j : s + b < 64 = omega arith in
        let q : 64 ≤ s + b + count_leading_zeros 64 (w * 2 ^ s % 2 ^ 64) = omega arith in
        ap (mark marks) (sym e) ∙ sym (only_true (mark marks (8 * i + b)) (le-leb 0 (8 * i + b) (omega arith)))
        ∙ sym (W.each b k) ∙ sym (bit_raised s b w) ∙ sym (bit_mod 64 (s + b) (w * 2 ^ s) j)
        ∙ zeros_above (w * 2 ^ s % 2 ^ 64) (s + b) (mod-lt (w * 2 ^ s) (pow_pos 64)) q
