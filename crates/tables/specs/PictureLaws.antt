-- How the tables change when a place is noted (it joins the erasures) and when one is settled (it leaves them, and its symbol changes).
-- Main results: syndrome_change, sum_on_row_add and -without, and from them counted_more and picture_less; Touched says what stores at the two rows
-- of a place do to a table.
use Rattle.std.specs.Prelude.{◌≡◌, refl, Bool, List, [], ◌∷◌, ◌++◌, ℕ, ◌+◌, ◌-◌, ◌*◌, ◌<◌, eqb, length, get_or, set}
use Rattle.std.proofs.Common.{sym, ◌∙◌, ap, subst, inl, inr, ⊎_elim, true≢false, add-zero, arith, eq-eqb, ne_eqb, length-set, get_or-set_same, get_or-set_other}
use Rattle.std.proofs.Math.Logic.{by_cases}
use mathlib.Core.List.Memᴰ
use mathlib.Core.List.Memᴰ.{not-nil}
use Rattle.std.proofs.Math.Nat.{sub-zero}
use Rattle.std.proofs.Math.Decide.{ℕ_discrete}
use Rattle.math.specs.Members.{◌∈◌, keep, without, rising_none, rising_more, Distinct}
use Rattle.math.specs.MembersLaws.{by_test, keep_append, without_∈, rising_without, rising_append, rising_distinct}
use Rattle.math.specs.Xor.{◌⊕◌, ⊕_zero}
use Rattle.math.specs.Sums.{sum_over, only}
use Rattle.math.specs.SumsLaws.{only_true, only_false, only_zero, xor_over_one, sum_over_append, sum_over_const, sum_over_keep, sum_over_split}
use Rattle.plan.specs.Layout.{Layout, Valid, top, bottom}
use Rattle.code.specs.Places.{places, Meets, meets}
use Rattle.code.specs.Codewords.{syndrome}
use Rattle.code.specs.Checks.{update}
use Rattle.code.specs.Rounds.{on_row}
use Rattle.code.proofs.Laws.Basics.{distinct_places, top≢bottom, meets_row, meets_true, true_meets, syndrome_ext, syndrome_add}
use Rattle.code.proofs.Laws.Settle.{update_same, update_other}
use Rattle.tables.specs.Picture.{weight, Counted, Picture}

-- ---- a symbol changes

-- a block with x added at c
pub update_xor : (u : ℕ → ℕ) (c x y : ℕ) → y ≡ u c ⊕ x → (d : ℕ) → update u c y d ≡ u d ⊕ only (eqb d c) x
update_xor u c x y e d =
    by_cases (ℕ_discrete d c)
    (λ h. rw (h, update_same u c y, only_true x (eq-eqb c c refl)) e)
    (λ h. rw (update_other u c y h, only_false x (ne_eqb d c h)) (sym (⊕_zero (u d))))

pub syndrome_at : (L : Layout) (c x r : ℕ) → c ∈ places L → syndrome L (λ d. only (eqb d c) x) r ≡ only (meets L c r) x
unfolding syndrome
syndrome_at L c x r m =
    xor_over_one (λ d. only (meets L d r) (only (eqb d c) x)) (distinct_places L) m
    (λ d k n. ap (only (meets L d r)) (only_false x (ne_eqb d c n)) ∙ only_zero (meets L d r))
    ∙ ap (only (meets L c r)) (only_true x (eq-eqb c c refl))

-- the row sums of a block with x added at c
pub syndrome_change : (L : Layout) (u v : ℕ → ℕ) (c x r : ℕ) → c ∈ places L → ((d : ℕ) → v d ≡ u d ⊕ only (eqb d c) x)
    → syndrome L v r ≡ syndrome L u r ⊕ only (meets L c r) x
syndrome_change L u v c x r m h =
    syndrome_ext L v (λ d. u d ⊕ only (eqb d c) x) r (λ d k. h d)
    ∙ syndrome_add L u (λ d. only (eqb d c) x) r
    ∙ ap (λ y. syndrome L u r ⊕ y) (syndrome_at L c x r m)

-- ---- an erasure comes or goes

sum_one : (p : ℕ → Bool) (c : ℕ) (f : ℕ → ℕ) → sum_over (keep p (c ∷ [])) f ≡ only (p c) (f c)
unfolding sum_over
sum_one p c f = sum_over_keep p (c ∷ []) f ∙ add-zero (only (p c) (f c))

pub sum_on_row_add : (L : Layout) (E : List ℕ) (c r : ℕ) (f : ℕ → ℕ)
    → sum_over (on_row L (E ++ (c ∷ [])) r) f ≡ sum_over (on_row L E r) f + only (meets L c r) (f c)
unfolding on_row
sum_on_row_add L E c r f =
    ap (λ l. sum_over l f) (keep_append (λ d. meets L d r) E (c ∷ []))
    ∙ sum_over_append (keep (λ d. meets L d r) E) (keep (λ d. meets L d r) (c ∷ [])) f
    ∙ ap (λ y. sum_over (keep (λ d. meets L d r) E) f + y) (sum_one (λ d. meets L d r) c f)

pub sum_on_row_without : (L : Layout) (E : List ℕ) (c r : ℕ) (f : ℕ → ℕ) → Distinct E → c ∈ E
    → sum_over (on_row L (without c E) r) f ≡ sum_over (on_row L E r) f - only (meets L c r) (f c)
unfolding on_row
sum_on_row_without L E c r f d m =
    omega (
      arith,
      sum_over_keep (λ x. meets L x r) (without c E) f,
      sum_over_keep (λ x. meets L x r) E f,
      sum_over_split (λ x. only (meets L x r) (f x)) d m,
    )

pub length_on_row_without : (L : Layout) (E : List ℕ) (c r : ℕ) → Distinct E → c ∈ E
    → length (on_row L (without c E) r) ≡ length (on_row L E r) - only (meets L c r) 1
length_on_row_without L E c r d m =
    omega (
      arith,
      sum_on_row_without L E c r (λ x. 1) d m,
      sum_over_const (on_row L (without c E) r) 1,
      sum_over_const (on_row L E r) 1,
    )

-- ---- a table changes at the two rows of c

pub record Touched (L : Layout) (c : ℕ) (f : ℕ → ℕ) (old new : List ℕ) : Type 0 where
  pub long : length new ≡ length old
  pub on : (r : ℕ) → Meets L c r → get_or new r 0 ≡ f (get_or old r 0)
  pub off : (r : ℕ) → ¬ (Meets L c r) → get_or new r 0 ≡ get_or old r 0

-- two stores, at the top row and then at the bottom row
pub touched : (L : Layout) → Valid L → (c : ℕ) (f : ℕ → ℕ) (old mid new : List ℕ) → length old ≡ 2 * L.t
    → mid ≡ set old (top L c) (f (get_or old (top L c) 0)) → new ≡ set mid (bottom L c) (f (get_or mid (bottom L c) 0)) → Touched L c f old new
touched L ok c f old mid new l p q =
    record {
      long = long_new;
      on = on_rows;
      off = λ r n. rw q (get_or-set_other mid (bottom L c) r (f (get_or mid (bottom L c) 0)) 0 (λ e. n (inr e))
          ∙ rw p (get_or-set_other old (top L c) r (f (get_or old (top L c) 0)) 0 (λ e. n (inl e))));
    }
  where
    long_mid : length mid ≡ length old
    long_mid = rw p (length-set old (top L c) (f (get_or old (top L c) 0)))

    long_new : length new ≡ length old
    long_new = rw q (length-set mid (bottom L c) (f (get_or mid (bottom L c) 0)) ∙ long_mid)

    at_top : get_or new (top L c) 0 ≡ f (get_or old (top L c) 0)
    at_top =
        ap (λ z. get_or z (top L c) 0) q
        ∙ get_or-set_other mid (bottom L c) (top L c) (f (get_or mid (bottom L c) 0)) 0 (top≢bottom L ok c c)
        ∙ ap (λ z. get_or z (top L c) 0) p
        ∙ get_or-set_same old (top L c) (f (get_or old (top L c) 0)) 0 (rw l (meets_row L ok c (inl refl)))

    at_bottom : get_or new (bottom L c) 0 ≡ f (get_or old (bottom L c) 0)
    at_bottom =
        ap (λ z. get_or z (bottom L c) 0) q
        ∙ get_or-set_same mid (bottom L c) (f (get_or mid (bottom L c) 0)) 0 (rw (long_mid, l) (meets_row L ok c (inr refl)))
        ∙ ap (λ z. f (get_or z (bottom L c) 0)) p
        ∙ ap f (get_or-set_other old (top L c) (bottom L c) (f (get_or old (top L c) 0)) 0 (λ e. top≢bottom L ok c c (sym e)))

    on_rows : (r : ℕ) → Meets L c r → get_or new r 0 ≡ f (get_or old r 0)
    on_rows r m = ⊎_elim (λ e. rw e at_top) (λ e. rw e at_bottom) m

-- what a row's entry becomes under an operation that 0 does not change
touched_by : (L : Layout) (c x : ℕ) (op : ℕ → ℕ → ℕ) {old new : List ℕ} → ((y : ℕ) → op y 0 ≡ y) → Touched L c (λ y. op y x) old new
    → (r : ℕ) → get_or new r 0 ≡ op (get_or old r 0) (only (meets L c r) x)
touched_by L c x op {old} z h r =
    by_test (meets L c r)
    (λ e. rw (only_true x e) (h.on r (true_meets L c r e)))
    (λ e. rw (only_false x e) (h.off r (λ m. true≢false (sym (meets_true L c m) ∙ e)) ∙ sym (z (get_or old r 0))))

-- ---- the tables

-- noting: c joins the erasures from above
pub counted_more : (L : Layout) (c : ℕ) {E tally : List ℕ} (tally' : List ℕ) → Counted L E tally → c ∈ places L → ((d : ℕ) → d ∈ E → d < c)
    → Touched L c (λ y. y + weight L.t c) tally tally' → Counted L (E ++ (c ∷ [])) tally'
counted_more L c {E} tally' C m above k =
    record {
      long = k.long ∙ C.long;
      erased = record {
        rising = rising_append C.erased.rising (rising_more (λ d e. absurd (not-nil e)) rising_none)
            (λ a b i j. subst (λ z. a < z) (sym (Memᴰ.eq_of_singleton j)) (above a i));
        inside = λ d i. ⊎_elim (C.erased.inside d) (λ j. Memᴰ.cast (Memᴰ.eq_of_singleton j) m) (Memᴰ.append_cases E i);
      };
      tallies = λ r h. touched_by L c (weight L.t c) ◌+◌ add-zero k r ∙ ap (λ y. y + only (meets L c r) (weight L.t c)) (C.tallies r h)
          ∙ sym (sum_on_row_add L E c r (weight L.t));
    }

-- the same by stores at the top row and then at the bottom row
pub counted_add : (L : Layout) → Valid L → (c : ℕ) {E tally : List ℕ} → Counted L E tally → (tally₁ tally₂ : List ℕ)
    → c ∈ places L → ((d : ℕ) → d ∈ E → d < c)
    → tally₁ ≡ set tally (top L c) (get_or tally (top L c) 0 + weight L.t c)
    → tally₂ ≡ set tally₁ (bottom L c) (get_or tally₁ (bottom L c) 0 + weight L.t c)
    → Counted L (E ++ (c ∷ [])) tally₂
counted_add L ok c {E} {tally} C tally₁ tally₂ m above k k' =
    counted_more L c tally₂ C m above (touched L ok c (λ y. y + weight L.t c) tally tally₁ tally₂ C.long k k')

-- settling: c leaves the erasures, and x is added to its symbol
pub picture_less : (L : Layout) (c x : ℕ) {E : List ℕ} {u : ℕ → ℕ} {sum tally : List ℕ} (sum' tally' : List ℕ)
    → Picture L E u sum tally → c ∈ E → u c ⊕ x < 256
    → Touched L c (λ y. y ⊕ x) sum sum' → Touched L c (λ y. y - weight L.t c) tally tally'
    → Picture L (without c E) (update u c (u c ⊕ x)) sum' tally'
picture_less L c x {E} {u} sum' tally' P m b s k =
    let C = P.counted in
    record {
      sum_long = s.long ∙ P.sum_long;
      byte = λ a. by_cases (ℕ_discrete a c) (λ e. rw (e, update_same u c (u c ⊕ x)) b) (λ n. rw (update_other u c (u c ⊕ x) n) (P.byte a));
      sums = λ r h. touched_by L c x ◌⊕◌ ⊕_zero s r ∙ ap (λ y. y ⊕ only (meets L c r) x) (P.sums r h)
          ∙ sym (syndrome_change L u (update u c (u c ⊕ x)) c x r (C.erased.inside c m) (update_xor u c x (u c ⊕ x) refl));
      counted = record {
        long = k.long ∙ C.long;
        erased = record {
          rising = rising_without c C.erased.rising;
          inside = λ a i. C.erased.inside a (without_∈ c E i).0;
        };
        tallies = λ r h. touched_by L c (weight L.t c) ◌-◌ sub-zero k r ∙ ap (λ y. y - only (meets L c r) (weight L.t c)) (C.tallies r h)
            ∙ sym (sum_on_row_without L E c r (weight L.t) (rising_distinct C.erased.rising) m);
      };
    }
