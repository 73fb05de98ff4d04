-- Settling one erasure: what a row with one erasure left says, and the list of settled places.
-- Main results: row_forces (T1: the row's sum is what every codeword that agrees adds there),
-- touched_two (the tables after), settles_none and settles_more.
use Rattle.std.specs.Prelude.{◌≡◌, refl, ◌≢◌, ◌⊎◌, List, ℕ, ◌+◌, ◌*◌, ◌<◌, length, get_or, set}
use Rattle.std.proofs.Common.{sym, ◌∙◌, ap, subst, ⊎_elim, arith, length-set, get_or-set_same, get_or-set_other}
use Rattle.std.proofs.Math.Logic.{by_cases}
use mathlib.Core.List.Memᴰ
use Rattle.std.proofs.Math.Decide.{ℕ_discrete}
use Rattle.math.specs.Members.{◌∈◌, without}
use Rattle.math.specs.MembersLaws.{∈_without, without_∈}
use Rattle.math.specs.Xor.{◌⊕◌, ⊕_self_left}
use Rattle.math.specs.Sums.{xor_over, only}
use Rattle.math.specs.SumsLaws.{only_lt, xor_over_lt, xor_over_split}
use Rattle.plan.specs.Layout.{Layout}
use Rattle.code.specs.Places.{places, Meets, meets}
use Rattle.code.specs.Codewords.{syndrome}
use Rattle.code.specs.Checks.{update, row_places}
use Rattle.code.proofs.Laws.Settle.{update_same, update_other, ∈_row_places, row_sum, distinct_row, other_places, row_forced}
use Rattle.tables.specs.Picture.{Settles}
use Rattle.tables.specs.PictureLaws.{Touched}
use Rattle.tables.specs.Singles.{Single}

pub syndrome_byte : (L : Layout) (u : ℕ → ℕ) (r : ℕ) → ((c : ℕ) → u c < 256) → syndrome L u r < 256
unfolding syndrome
syndrome_byte L u r h =
    xor_over_lt 8 (places L) (λ c. only (meets L c r) (u c)) (λ c m. only_lt (meets L c r) (h c) (omega arith))

-- a table that is stored to at a and b, the two rows of c; at a the store gives 0
pub touched_two : (L : Layout) (c : ℕ) (g : ℕ → ℕ) {old new : List ℕ} (a b : ℕ) → a ≢ b → a < length old → b < length old
    → Meets L c a → Meets L c b → ((s : ℕ) → Meets L c s → (s ≡ a) ⊎ (s ≡ b)) → g (get_or old a 0) ≡ 0
    → new ≡ set (set old a 0) b (g (get_or (set old a 0) b 0)) → Touched L c g old new
touched_two L c g {old} a b n la lb ma mb both z q =
    let v = g (get_or (set old a 0) b 0) in
    rw q
    (record {
      long = length-set (set old a 0) b v ∙ length-set old a 0;
      on = λ r m. ⊎_elim
          (λ e. rw e (get_or-set_other (set old a 0) b a v 0 n ∙ get_or-set_same old a 0 0 la ∙ sym z))
          (λ e. rw e (get_or-set_same (set old a 0) b v 0 (rw (length-set old a 0) lb) ∙ ap g (get_or-set_other old a b 0 0 (λ k. n (sym k)))))
          (both r m);
      off = λ r k. get_or-set_other (set old a 0) b r v 0 (λ e. k (subst (Meets L c) (sym e) mb))
          ∙ get_or-set_other old a r 0 0 (λ e. k (subst (Meets L c) (sym e) ma));
    })

-- T1: the sum of a row with one erasure left is what every codeword that agrees adds there
pub row_forces : (L : Layout) {E : List ℕ} (u w : ℕ → ℕ) {r v c : ℕ} → Single L E r v c → syndrome L w r ≡ 0
    → ((d : ℕ) → d ∈ places L → ¬ (d ∈ E) → w d ≡ u d) → w c ≡ u c ⊕ syndrome L u r
row_forces L {E} u w {r} {v} {c} s e h =
    let sole : (d : ℕ) → d ∈ places L → Meets L d r → d ∈ E → d ≡ c = λ d _ y m. s.sole d m y in
    let rest = xor_over (without c (row_places L r)) u in
    let parts : syndrome L u r ≡ u c ⊕ rest = sym (row_sum L u r) ∙ xor_over_split u (distinct_row L r) (∈_row_places L s.inside s.meet) in
    row_forced L E u r c s.inside s.meet s.member sole w e h
    ∙ sym (other_places L E u r c s.inside s.meet s.member sole)
    ∙ sym (ap (λ y. u c ⊕ y) parts ∙ ⊕_self_left (u c) rest)

-- nothing is settled yet
pub settles_none : (L : Layout) (E : List ℕ) (u : ℕ → ℕ) (place value : List ℕ) → Settles L E u E u place value 0
settles_none L E u place value = record {
  fewer = λ c m. m;
  kept = λ c n. refl;
  waits = λ c m. refl;
  forced = λ w z h. h;
  listed = λ c m n. absurd (n m);
  settled = λ i h. absurd (omega arith);
  once = λ i j h k. absurd (omega arith);
}

-- one place more: y is added at c
pub settles_more : (L : Layout) {E F : List ℕ} {u x : ℕ → ℕ} {place value place' value' : List ℕ} {k c : ℕ} (y : ℕ) → Settles L E u F x place value k
    → k < length place → k < length value → place' ≡ set place k c → value' ≡ set value k y → c ∈ F
    → ((w : ℕ → ℕ) → ((r : ℕ) → r < 2 * L.t → syndrome L w r ≡ 0) → ((d : ℕ) → d ∈ places L → ¬ (d ∈ F) → w d ≡ x d) → w c ≡ x c ⊕ y)
    → Settles L E u (without c F) (update x c (x c ⊕ y)) place' value' (k + 1)
settles_more L {E} {F} {u} {x} {place} {value} {place'} {value'} {k} {c} y s hp hv ep ev m f = record {
  fewer = λ d i. s.fewer d (without_∈ c F i).0;
  kept = λ d n. other (λ e. n (Memᴰ.cast e (s.fewer c m))) ∙ s.kept d n;
  waits = λ d i. let o = without_∈ c F i in other o.1 ∙ s.waits d o.0;
  forced = λ w z h d i n.
      by_cases (ℕ_discrete d c)
      (λ e. rw e (f w z (s.forced w z h) ∙ sym (update_same x c (x c ⊕ y))))
      (λ e. s.forced w z h d i (λ o. n (∈_without o e)) ∙ sym (other e));
  listed = λ d i n.
      by_cases (ℕ_discrete d c)
      (λ e. (k, omega arith, last_place ∙ sym e))
      (λ e. let o = s.listed d i (λ q. n (∈_without q e)) in (o.0, omega (arith, o.1), early_place o.0 o.1 ∙ o.2));
  settled = λ i h.
      by_cases (ℕ_discrete i k)
      (λ e. rw (e, last_place, last_value)
      (s.fewer c m, (λ o. (without_∈ c F o).1 refl), update_same x c (x c ⊕ y) ∙ ap (λ z. z ⊕ y) (s.waits c m)))
      (λ e.
      let l : i < k = omega arith in
      let o = s.settled i l in
      rw (early_place i l, early_value i l)
      (o.0, (λ q. o.1 (without_∈ c F q).0), other (new i l) ∙ o.2));
  once = λ i j h l.
      let a : i < k = omega arith in
      by_cases (ℕ_discrete j k)
      (λ e. rw (early_place i a, e, last_place) (new i a))
      (λ e. let b : j < k = omega arith in rw (early_place i a, early_place j b) (s.once i j h b));
}
  where
    other : {d : ℕ} → d ≢ c → update x c (x c ⊕ y) d ≡ x d
    other n = update_other x c (x c ⊕ y) n

    -- c was not listed
    new : (i : ℕ) → i < k → get_or place i 0 ≢ c
    new i l q = (s.settled i l).1 (Memᴰ.cast q m)

    last_place : get_or place' k 0 ≡ c
    last_place = ap (λ l. get_or l k 0) ep ∙ get_or-set_same place k c 0 hp

    last_value : get_or value' k 0 ≡ y
    last_value = ap (λ l. get_or l k 0) ev ∙ get_or-set_same value k y 0 hv

    early_place : (i : ℕ) → i < k → get_or place' i 0 ≡ get_or place i 0
    early_place i l = ap (λ l. get_or l i 0) ep ∙ get_or-set_other place k i c 0 (λ e. omega arith)

    early_value : (i : ℕ) → i < k → get_or value' i 0 ≡ get_or value i 0
    early_value i l = ap (λ l. get_or l i 0) ev ∙ get_or-set_other value k i y 0 (λ e. omega arith)
