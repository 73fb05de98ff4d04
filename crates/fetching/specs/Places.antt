-- The marked places of a stretch (`places_of`), as they are put: one after another.
-- Main results: place_none, place_one, places_none, places_more, places_few, places_fields.
use Rattle.std.specs.Prelude.{◌≡◌, ◌≢◌, List, ◌∷◌, ◌++◌, ℕ, ◌+◌, ◌*◌, ◌≤◌, ◌<◌, eqb, length, get_or}
use Rattle.std.proofs.Common.{sym, ◌∙◌, ap, subst, arith, eq-eqb, ne_eqb}
use Rattle.std.proofs.Math.Logic.{by_cases}
use Rattle.std.proofs.Math.Decide.{dec_lt}
use Rattle.std.proofs.Math.ListN.{get_or-eq_default}
use Rattle.math.specs.Members.{keep, from}
use Rattle.math.specs.MembersLaws.{keep_∈, keep_append, length_keep_le, length_from, from_∈, from_append}
use Rattle.math.specs.Pigeonhole.{get_or_∈}
use Rattle.code.specs.Marks.{mark}
use Rattle.code.specs.Laws.MarksLaws.{places_of}
use Rattle.code.proofs.Laws.MarksLaws.{mark_bit}
use Rattle.pieces.specs.Pieces.{decimal, fields, Appends}
use Rattle.pieces.specs.PiecesLaws.{appends_none, appends_both, fields_append, fields_one, fields_length}

-- a place whose bit is 0 puts nothing, one whose bit is 1 its number
pub place_none : (m l : List ℕ) (c at : ℕ) {b : ℕ} → b ≡ mark m c → b ≡ 0 → Appends l at (fields (places_of m c 1)) l at
unfolding places_of keep from fields
place_none m l c at e z = rw (ne_eqb (mark m c) 1 (omega arith)) (appends_none l at)

pub place_one : (m : List ℕ) (c : ℕ) {l l' : List ℕ} {at x b : ℕ} → b ≡ mark m c → b ≢ 0 → Appends l at (32 ∷ decimal c) l' x → Appends l at (fields (places_of m c 1)) l' x
unfolding places_of keep from
place_one m c {l} {l'} {at} {x} e n a = rw (eq-eqb (mark m c) 1 (omega (arith, n, mark_bit m c))) (subst (λ t. Appends l at t l' x) (sym (fields_one c)) a)

pub places_none : (m l : List ℕ) (at : ℕ) → Appends l at (fields (places_of m 0 0)) l at
unfolding places_of keep from fields
places_none m l at = appends_none l at

pub places_next : (m : List ℕ) (c : ℕ) → places_of m 0 (c + 1) ≡ places_of m 0 c ++ places_of m c 1
unfolding places_of
places_next m c =
    let e : 0 + c ≡ c = omega arith in
    ap (keep (λ d. eqb (mark m d) 1)) (from_append 0 c 1 ∙ ap (λ x. from 0 c ++ from x 1) e) ∙ keep_append (λ d. eqb (mark m d) 1) (from 0 c) (from c 1)

-- one more place is put
pub places_more : (m : List ℕ) (c : ℕ) {l l' l'' : List ℕ} {at x y : ℕ} → Appends l at (fields (places_of m 0 c)) l' x → Appends l' x (fields (places_of m c 1)) l'' y →
    Appends l at (fields (places_of m 0 (c + 1))) l'' y
places_more m c {l} {l''} {at} {y} a b =
    subst (λ t. Appends l at t l'' y) (sym (ap fields (places_next m c) ∙ fields_append (places_of m 0 c) (places_of m c 1))) (appends_both a b)

pub places_few : (m : List ℕ) (a k : ℕ) → length (places_of m a k) ≤ k
unfolding places_of
places_few m a k = omega (arith, length_keep_le (λ c. eqb (mark m c) 1) (from a k), length_from a k)

-- each is below the end of the stretch
place_lt : (m : List ℕ) (a k n i : ℕ) → a + k ≤ n → 0 < n → get_or (places_of m a k) i 0 < n
unfolding places_of
place_lt m a k n i h p =
    by_cases (dec_lt i (length (places_of m a k)))
    (λ l. let o = from_∈ a k (keep_∈ (λ c. eqb (mark m c) 1) (from a k) (get_or_∈ (places_of m a k) l)).0 in omega (arith, o.1))
    (λ g. omega (arith, get_or-eq_default (places_of m a k) 0 {n = i} (omega arith)))

-- a place takes at most five digits and a space
pub places_fields : (m : List ℕ) (a k : ℕ) → a + k ≤ 65536 → length (fields (places_of m a k)) ≤ 6 * k
places_fields m a k h = omega (arith, fields_length (places_of m a k) (λ i. place_lt m a k 100000 i (omega arith) (omega arith)), places_few m a k)
