-- Marks set and cleared, one by one and by the byte, and runs of marks put together.
-- Main results: bytes_set, marked_none, marked_one, marked_puts, marked_set, marked_clear, marked_byte, marked_both, marked_no_spare, no_marks_no_spare.
use Rattle.std.specs.Prelude.{◌≡◌, refl, ◌≢◌, List, ℕ, zero, suc, ◌+◌, ◌-◌, ◌*◌, ◌/◌, ◌%◌, ◌^◌, ◌≤◌, ◌<◌, length, get_or, set, replicate}
use Rattle.std.proofs.Common.{sym, ◌∙◌, ap, subst, inl, inr, ⊎_elim, mod-lt, one-mul, arith, length-set, get_or-set_same, get_or-set_other, shl_exact}
use Rattle.std.proofs.Math.Logic.{by_cases}
use Rattle.std.proofs.Math.Nat.{zero-div}
use Rattle.std.proofs.Math.Decide.{ℕ_discrete, dec_lt}
use Rattle.std.proofs.Math.Seq.{set_out}
use Rattle.std.specs.Int.Bits.{bit_and, bit_or, and_lt}
use Rattle.std.proofs.lemmas.Nat.{or_lt}
use Rattle.std.proofs.Math.Pow.{pow-lt}
use Rattle.code.specs.Codewords.{bit_of}
use Rattle.plan.specs.Layout.{Layout}
use Rattle.code.specs.Marks.{mark, NoSpare}
use Rattle.code.specs.Laws.MarksLaws.{Puts}
use Rattle.code.proofs.Laws.MarksLaws.{bit_not, mark_none, set_mark, clear_mark}
use Rattle.bits.specs.Bits.{Marked}

-- ---- bytes

-- every entry is a byte
abbrev pub Bytes : List ℕ → Type 0
Bytes m = (i : ℕ) → get_or m i 0 < 256

pub bytes_set : (m : List ℕ) (i v : ℕ) → Bytes m → v < 256 → Bytes (set m i v)
bytes_set m i v b h j =
    by_cases (ℕ_discrete j i)
    (λ e. by_cases (dec_lt i (length m))
    (λ l. rw (e, get_or-set_same m i v 0 l) h)
    (λ n. rw (set_out m i v (omega arith)) (b j)))
    (λ n. rw (get_or-set_other m i j v 0 n) (b j))

-- the byte with one bit, as the code shifts it
pub shifted : (k : ℕ) → k < 8 → 1 * 2 ^ k % 2 ^ 8 ≡ 2 ^ k
shifted k h = shl_exact 1 k 8 (omega arith) (omega arith) ∙ one-mul (2 ^ k)

-- ---- runs of marks

pub marked_none : (m : List ℕ) (c b : ℕ) → Bytes m → Marked m c 0 b m
marked_none m c b w =
    record { long = refl; bytes = w; these = λ d g h. absurd (omega arith); others = λ d o. refl }

pub marked_one : {m m' : List ℕ} {c b : ℕ} → Puts m c b m' → length m' ≡ length m → Bytes m' → Marked m c 1 b m'
marked_one {m} {m'} {c} {b} p l w =
    record {
      long = l;
      bytes = w;
      these = λ d g h. let e : d ≡ c = omega arith in subst (λ x. mark m' x ≡ b) (sym e) p.here;
      others = λ d o. p.others d (λ e. ⊎_elim (λ h. omega arith) (λ h. omega arith) o);
    }

-- and back
pub marked_puts : {m m' : List ℕ} {c b : ℕ} → Marked m c 1 b m' → Puts m c b m'
marked_puts {c} p = record {
  here = p.these c (omega arith) (omega arith);
  others = λ d n. p.others d (by_cases (dec_lt d c) inl (λ g. inr (omega arith)));
}

pub marked_both : {m m' m'' : List ℕ} {c k j b e : ℕ} → Marked m c k b m' → Marked m' e j b m'' → e ≡ c + k → Marked m c (k + j) b m''
marked_both {m} {m'} {m''} {c} {k} {j} {b} {e} p q f =
    record {
      long = q.long ∙ p.long;
      bytes = q.bytes;
      these = λ d g h. by_cases (dec_lt d e)
          (λ l. q.others d (inl l) ∙ p.these d g (omega arith))
          (λ n. q.these d (omega arith) (omega arith));
      others = λ d o. ⊎_elim
          (λ h. q.others d (inl (omega arith)) ∙ p.others d (inl h))
          (λ h. q.others d (inr (omega arith)) ∙ p.others d (inr (omega arith))) o;
    }

-- one bit set or cleared, as the code stores it
pub marked_set : (m : List ℕ) (c : ℕ) → c / 8 < length m → Bytes m → Marked m c 1 1 (set m (c / 8) (bit_or (get_or m (c / 8) 0) (1 * 2 ^ (c % 8) % 2 ^ 8)))
marked_set m c h w =
    let p : 2 ^ (c % 8) < 2 ^ 8 = pow-lt (mod-lt c (omega arith)) in
    rw (shifted (c % 8) (mod-lt c (omega arith)))
    (marked_one (set_mark m c h) (length-set m (c / 8) _) (bytes_set m (c / 8) _ w (or_lt 8 (get_or m (c / 8) 0) (2 ^ (c % 8)) (w (c / 8)) p)))

pub marked_clear : (m : List ℕ) (c : ℕ) → c / 8 < length m → Bytes m → Marked m c 1 0 (set m (c / 8) (bit_and (get_or m (c / 8) 0) (255 - 1 * 2 ^ (c % 8) % 2 ^ 8)))
marked_clear m c h w =
    rw (shifted (c % 8) (mod-lt c (omega arith)))
    (marked_one (clear_mark m c h) (length-set m (c / 8) _) (bytes_set m (c / 8) _ w (and_lt 8 (get_or m (c / 8) 0) (255 - 2 ^ (c % 8)) (w (c / 8)) (omega arith))))

-- all bits of a byte the same
whole_byte : (b d : ℕ) → b < 2 → d < 8 → bit_of d (255 * b) ≡ b
unfolding bit_of
whole_byte zero d l h = ap (λ x. x % 2) (zero-div (2 ^ d))
whole_byte (suc zero) d l h = bit_not 8 d 0 h (omega arith) ∙ ap (λ x. 1 - x % 2) (zero-div (2 ^ d))
whole_byte (suc (suc b)) d l h = absurd (omega arith)

-- a whole byte of marks, set or cleared
pub marked_byte : (m : List ℕ) (c b : ℕ) → b < 2 → c % 8 ≡ 0 → c / 8 < length m → Bytes m → Marked m c 8 b (set m (c / 8) (255 * b))
unfolding mark
marked_byte m c b s e h w =
    record {
      long = length-set m (c / 8) (255 * b);
      bytes = bytes_set m (c / 8) (255 * b) w (omega arith);
      these = λ d g l. let f : d / 8 ≡ c / 8 = omega arith in rw (f, get_or-set_same m (c / 8) (255 * b) 0 h) (whole_byte b (d % 8) s (omega arith));
      others = λ d o. let n : d / 8 ≢ c / 8 = λ f. ⊎_elim (λ l. omega arith) (λ l. omega arith) o in
          ap (bit_of (d % 8)) (get_or-set_other m (c / 8) (d / 8) (255 * b) 0 n);
    }

-- ---- spare bits stay 0

pub marked_no_spare : (L : Layout) {m m' : List ℕ} {c k b : ℕ} → NoSpare L m → Marked m c k b m' → c + k ≤ L.n * L.t → NoSpare L m'
unfolding NoSpare
marked_no_spare L s p h d g l = p.others d (inr (omega arith)) ∙ s d g (omega (arith, p.long))

pub no_marks_no_spare : (L : Layout) (k : ℕ) → NoSpare L (replicate k 0)
unfolding NoSpare
no_marks_no_spare L k d g l = mark_none k d
