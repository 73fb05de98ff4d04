-- A walk over the marked places from a place on, a word of marks at a time, lowest place first; what is done at each place is the caller's.
-- Main results: walk_start, walk_done (a word begun and passed); at the lowest place left walk_marked, walk_at (what holds there), walk_more (it is passed).
use Rattle.std.specs.Prelude.{◌≡◌, refl, Bool, true, false, ◌≢◌, List, ℕ, ◌+◌, ◌-◌, ◌≤◌, ◌<◌, leb}
use Rattle.std.proofs.Common.{sym, ◌∙◌, ap, arith, le-leb, leb-true}
use Rattle.std.proofs.Math.Logic.{by_cases}
use Rattle.std.proofs.Math.Decide.{dec_lt}
use Rattle.std.proofs.lemmas.Bool.{lt-leb}
use Rattle.std.specs.Int.Bits.{bit_and}
use Rattle.std.specs.Int.Count.{count_trailing_zeros}
use Rattle.math.specs.Sums.{only}
use Rattle.math.specs.SumsLaws.{only_true, only_false}
use Rattle.code.specs.Codewords.{bit_of}
use Rattle.code.specs.Marks.{mark}
use Rattle.tables.specs.Spots.{Reached}
use Rattle.tables.proofs.Spots.{reached_on}
use Rattle.bits.specs.Lowest.{zeros_below, first_one, bit_beyond, dropped_low, dropped_high, dropped_less}
use Rattle.bits.specs.Words.{Word, word_late}
use Rattle.tables.specs.WordWalk.{Skips, WordWalk}

pub only_one : (b : Bool) (x : ℕ) → only b x ≡ 1 → (b ≡ true) × (x ≡ 1)
unfolding only
only_one true x e = (refl, e)
only_one false x e = absurd (omega arith)

pub walk_start : {P : ℕ → Type 0} {n t : ℕ} {shifts marks : List ℕ} {a c w j begin end p : ℕ} → Skips marks a P → P c
    → Reached n t shifts c j begin end p → a ≤ c + 64 → Word marks a c w → WordWalk P n t shifts marks a c w j begin end p
walk_start {a = a} {c = c} skip S R h W =
    by_cases (dec_lt c a)
    (λ l. record {
      next = a;
      passed = skip c a S (omega arith) (λ d x y m k. omega arith);
      reached = reached_on a (omega arith) R;
      late = omega arith;
      from_word = omega arith;
      in_word = h;
      word = W;
    })
    (λ l. record {
      next = c;
      passed = S;
      reached = R;
      late = omega arith;
      from_word = omega arith;
      in_word = omega arith;
      word = word_late c W (omega arith) (omega arith);
    })

module _ {P : ℕ → Type 0} {n t : ℕ} {shifts marks : List ℕ} {a c rest j begin end p : ℕ}
    (G : WordWalk P n t shifts marks a c rest j begin end p) where
  -- a place whose bit is 0 is not marked
  no_mark : (d : ℕ) → G.next ≤ d → d < c + 64 → bit_of (d - c) rest ≡ 0 → mark marks d ≡ 1 → ⊥
  no_mark d h l z m =
      let g : c ≤ d = omega (arith, G.from_word) in
      let e : c + (d - c) ≡ d = omega arith in
      let q = G.word.each (d - c) (omega arith) in
      let o : only (leb G.next (c + (d - c))) (mark marks (c + (d - c))) ≡ 1
      = only_true (mark marks (c + (d - c))) (le-leb G.next (c + (d - c)) (omega arith)) ∙ ap (mark marks) e ∙ m in
      omega (arith, sym z ∙ q ∙ o)

  -- none is left
  pub walk_done : Skips marks a P → rest ≡ 0 → P (c + 64)
  walk_done skip z =
      skip G.next (c + 64) G.passed G.in_word
      (λ d x y m l. no_mark d x y (ap (bit_of (d - c)) z ∙ bit_beyond 0 (d - c) 0 (omega arith) (omega arith)) m)

  pub walk_section : Reached n t shifts (c + 64) j begin end p
  walk_section = reached_on (c + 64) G.in_word G.reached

  module _ (some : rest ≢ 0) where
    -- the lowest that is left
    pub walk_bit : count_trailing_zeros 64 rest < 64
    walk_bit =
        by_cases (dec_lt (count_trailing_zeros 64 rest) 64) (λ h. h)
        (λ h. absurd (omega (arith, sym (first_one 64 rest G.word.small some) ∙ bit_beyond 64 (count_trailing_zeros 64 rest) rest G.word.small (omega arith))))

    its_mark : (leb G.next (c + count_trailing_zeros 64 rest) ≡ true) × (mark marks (c + count_trailing_zeros 64 rest) ≡ 1)
    its_mark =
        only_one (leb G.next (c + count_trailing_zeros 64 rest)) (mark marks (c + count_trailing_zeros 64 rest))
        (sym (G.word.each (count_trailing_zeros 64 rest) walk_bit) ∙ first_one 64 rest G.word.small some)

    after : G.next ≤ c + count_trailing_zeros 64 rest
    after = leb-true G.next (c + count_trailing_zeros 64 rest) its_mark.0

    pub walk_late : a ≤ c + count_trailing_zeros 64 rest
    walk_late = omega (arith, after, G.late)

    pub walk_reached : Reached n t shifts (c + count_trailing_zeros 64 rest) j begin end p
    walk_reached = reached_on (c + count_trailing_zeros 64 rest) after G.reached

    pub walk_at : Skips marks a P → P (c + count_trailing_zeros 64 rest)
    walk_at skip =
        skip G.next (c + count_trailing_zeros 64 rest) G.passed after
        (λ d x y m l. no_mark d x (omega (arith, walk_bit)) (zeros_below 64 rest (d - c) (omega (arith, G.from_word))) m)

    pub walk_marked : mark marks (c + count_trailing_zeros 64 rest) ≡ 1
    walk_marked = its_mark.1

    -- it is passed, and cleared in the word
    pub walk_more : {P' : ℕ → Type 0} {j' begin' end' p' : ℕ} → P' (c + count_trailing_zeros 64 rest + 1) → Reached n t shifts (c + count_trailing_zeros 64 rest) j' begin' end' p'
        → WordWalk P' n t shifts marks a c (bit_and rest (rest - 1)) j' begin' end' p'
    walk_more S R =
        let z : ℕ = count_trailing_zeros 64 rest in
        record {
          next = c + z + 1;
          passed = S;
          reached = reached_on (c + z + 1) (omega arith) R;
          late = omega (arith, walk_late);
          from_word = omega arith;
          in_word = omega (arith, walk_bit);
          word = record {
            small = omega (arith, dropped_less 64 rest G.word.small some, G.word.small);
            each = λ b h. by_cases (dec_lt z b)
                (λ l. dropped_high 64 rest G.word.small some b l ∙ G.word.each b h
                ∙ ap (λ y. only y (mark marks (c + b))) (le-leb G.next (c + b) (omega (arith, after)) ∙ sym (le-leb (c + z + 1) (c + b) (omega arith))))
                (λ l. dropped_low 64 rest G.word.small some b (omega arith) ∙ sym (only_false (mark marks (c + b)) (lt-leb (c + z + 1) (c + b) (omega arith))));
          };
        }
