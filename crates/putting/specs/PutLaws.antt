-- A line that fits stands behind the others; one that does not leaves the sheet as it was.
-- Main results: put_full, put_fits, put_long; going_by, else_full.
use Rattle.std.specs.Prelude.{◌≡◌, refl, List, ◌++◌, ℕ, ◌+◌, ◌-◌, ◌≤◌, ◌<◌, length, take, drop}
use Rattle.std.proofs.Common.{sym, ◌∙◌, ap, append_assoc, arith, length-drop, length-append, take_at, drop_at, drop-drop, length-take-le}
use Rattle.putting.specs.declared.Phase.{Phase}
use Rattle.putting.specs.declared.Phase.TheVariants.{Going, Closed, Full}
use Rattle.putting.specs.Putting.{Put, fits, no_room}

pub put_full : (l : List ℕ) (count : ℕ) (sheet : List ℕ) (to : ℕ) (phase : Phase) → to ≤ length sheet → length sheet - to < count → Put l count sheet to phase sheet to Full
put_full l count sheet to phase h g = no_room refl refl refl (omega arith)

pub put_fits : (l : List ℕ) (count : ℕ) (sheet : List ℕ) (to : ℕ) (phase : Phase) (x : List ℕ) → count ≤ length l → to + count ≤ length sheet → x ≡ take count l →
    Put l count sheet to phase (take to sheet ++ (x ++ drop (to + count - to) (drop to sheet))) (to + count) phase
put_fits l count sheet to phase x a b e =
    let rest : List ℕ = drop (to + count - to) (drop to sheet) in
    let lx : length x ≡ count = ap length e ∙ length-take-le count l a in
    let lt : length (take to sheet) ≡ to = length-take-le to sheet (omega arith) in
    let lc : length (take count l) ≡ count = length-take-le count l a in
    let k : length (take to sheet ++ x) ≡ to + count = length-append (take to sheet) x ∙ (omega (arith, lx, lt)) in
    let lr : length rest ≡ length sheet - to - count = rw (length-drop (to + count - to) (drop to sheet), length-drop to sheet) (omega arith) in
    let back : to + (to + count - to) ≡ to + count = omega arith in
    fits refl (record {
      text_stands = ap (take (to + count)) (sym (append_assoc (take to sheet) x rest)) ∙ take_at (take to sheet ++ x) rest (to + count) k ∙ ap (λ y. take to sheet ++ y) e;
      past = ap (λ n. to + n) (sym lc);
      long = rw (length-append (take to sheet) (x ++ rest), length-append x rest) (omega (arith, lx, lt, lr));
      rest = ap (drop (to + count)) (sym (append_assoc (take to sheet) x rest)) ∙ drop_at (take to sheet ++ x) rest (to + count) k
          ∙ drop-drop (to + count - to) to sheet ∙ ap (λ n. drop n sheet) back;
    })

pub put_long : (l : List ℕ) (count : ℕ) (sheet : List ℕ) (to : ℕ) → count ≤ length l → to + count ≤ length sheet →
    length (take count l) ≡ length (take (to + count - to) (drop to sheet))
put_long l count sheet to a b =
    let e : to + count - to ≡ count = omega arith in
    length-take-le count l a ∙ sym (rw e (length-take-le count (drop to sheet) (omega (arith, length-drop to sheet))))

-- ---- the three phases

-- a phase as a number, for measures
abbrev pub phase_number : Phase → ℕ
phase_number Going = 0
phase_number Closed = 1
phase_number Full = 2

pub going_by : (x : Phase) → phase_number x ≡ 0 → x ≡ Going
going_by Going e = refl
going_by Closed e = absurd (omega (arith, e))
going_by Full e = absurd (omega (arith, e))

pub else_full : (x : Phase) → (x ≡ Going → ⊥) → (x ≡ Closed → ⊥) → x ≡ Full
else_full Going a b = absurd (a refl)
else_full Closed a b = absurd (b refl)
else_full Full a b = refl
