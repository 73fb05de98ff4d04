-- T9: every message is carried by a codeword, and by one only; every codeword carries one message.
-- Main results: carried_some, carried_same, carried_once, carries_one.
use Rattle.std.specs.Prelude.{◌≡◌, refl, cond, List, [], ◌∷◌, map, ℕ, suc, ◌-◌, ◌*◌, ◌/◌, ◌%◌, ◌<◌, eqb, length, get_or, drop}
use Rattle.std.proofs.Common.{sym, ◌∙◌, ap, ap₂, ⊎_elim, mod-eq_of_lt, div-lt_iff_lt-mul, arith, ext_get_or, eq-eqb, ne_eqb}
use mathlib.Core.List.Memᴰ
use mathlib.Core.List.Memᴰ.{head as first}
use mathlib.Core.List.Memᴰ.{tail as later}
use Rattle.std.proofs.Math.Nat.{suc_inj}
use Rattle.math.specs.Members.{◌∈◌, Distinct, distinct_none, distinct_more}
use Rattle.math.specs.MembersLaws.{by_test, rising_distinct, rising_ext}
use Rattle.math.specs.Xor.{◌⊕◌, ⊕_zero, ⊕_self, ⊕_eq}
use Rattle.math.specs.Sums.{only}
use Rattle.math.specs.SumsLaws.{xor_over_zero}
use Rattle.plan.specs.Layout.{Layout, Valid, top, bottom, divisor}
use Rattle.code.specs.Places.{places}
use Rattle.code.specs.Codewords.{at, Codeword, Single}
use Rattle.code.specs.Messages.{Lists, Carries}
use Rattle.code.proofs.Laws.Basics.{∈_places, places_∈, syndrome_add, word, word_at, word_codeword}
use Rattle.code.specs.Laws.Labels.{label}
use Rattle.code.proofs.Laws.Labels.{connected_label, connected_place}
use Rattle.code.proofs.Laws.Balance.{class_sum, class_sum_places, fill}
use Rattle.code.proofs.Laws.Unique.{forest_zero}
use Rattle.code.specs.Laws.ParityCount.{parities, messages}
use Rattle.code.proofs.Laws.ParityCount.{erased_parities, forest_parities, parities_connected, parity_lists, parity_or_message, message_lists, length_messages}

pub lists_unique : {P : ℕ → Type 0} {l m : List ℕ} → Lists P l → Lists P m → l ≡ m
lists_unique p q = rising_ext p.rising q.rising (λ c i. (q.exact c).1 ((p.exact c).0 i)) (λ c i. (p.exact c).1 ((q.exact c).0 i))

map_same : (f g : ℕ → ℕ) (l : List ℕ) → ((c : ℕ) → c ∈ l → f c ≡ g c) → map f l ≡ map g l
map_same f g [] h = refl
map_same f g (c ∷ cs) h = ap₂ ◌∷◌ (h c (first refl)) (map_same f g cs (λ d m. h d (later m)))

map_at : (f g : ℕ → ℕ) {c : ℕ} {l : List ℕ} → map f l ≡ map g l → c ∈ l → f c ≡ g c
map_at f g e (first {x = x} q) = ap f q ∙ ap (λ l. get_or l 0 0) e ∙ sym (ap g q)
map_at f g e (later m) = map_at f g (ap (λ l. drop 1 l) e) m

-- the i-th symbol at the i-th place, 0 elsewhere
spread : List ℕ → List ℕ → ℕ → ℕ
spread [] m c = 0
spread (x ∷ xs) [] c = 0
spread (x ∷ xs) (y ∷ ys) c = cond (eqb c x) y (spread xs ys c)

spread_head : (x y : ℕ) (xs ys : List ℕ) {c : ℕ} → c ≡ x → spread (x ∷ xs) (y ∷ ys) c ≡ y
unfolding spread
spread_head x y xs ys {c} e = rw (eq-eqb c x e)

spread_tail : {x : ℕ} (y : ℕ) (xs ys : List ℕ) {c : ℕ} → (c ≡ x → ⊥) → spread (x ∷ xs) (y ∷ ys) c ≡ spread xs ys c
unfolding spread
spread_tail {x} y xs ys {c} n = rw (ne_eqb c x n)

spread_byte : (l m : List ℕ) (c : ℕ) → ((i : ℕ) → at m i < 256) → spread l m c < 256
unfolding spread
spread_byte [] m c h = omega arith
spread_byte (x ∷ xs) [] c h = omega arith
spread_byte (x ∷ xs) (y ∷ ys) c h = by_test (eqb c x) (λ t. rw t (h 0)) (λ f. rw f (spread_byte xs ys c (λ i. h (suc i))))

spread_map : {l : List ℕ} (m : List ℕ) → Distinct l → length m ≡ length l → map (spread l m) l ≡ m
spread_map [] distinct_none e = refl
spread_map (y ∷ ys) distinct_none e = absurd (omega arith)
spread_map [] (distinct_more n r) e = absurd (omega arith)
spread_map (y ∷ ys) (distinct_more {c = x} {cs = xs} n r) e =
    ap₂ ◌∷◌ (spread_head x y xs ys refl)
    (map_same (spread (x ∷ xs) (y ∷ ys)) (spread xs ys) xs (λ c m. spread_tail y xs ys (λ q. n (Memᴰ.cast (sym q) m)))
    ∙ spread_map ys r (suc_inj e))

module _ (L : Layout) (ok : Valid L) where
  not_parity : {c : ℕ} → c ∈ messages L → ¬ (c ∈ parities L)
  not_parity {c} m p = (((parity_lists L ok).exact c).0 p).lowest_of_none (((message_lists L ok).exact c).0 m).lowest_of_some

  to_message : {c : ℕ} → c ∈ places L → ¬ (c ∈ parities L) → c ∈ messages L
  to_message {c} m n =
      ⊎_elim (λ p. absurd (n (((parity_lists L ok).exact c).1 p))) (λ q. ((message_lists L ok).exact c).1 q) (parity_or_message L ok c m)

  -- every place has both rows in one component of the parity places, so the components' sums are all 0
  parities_balanced : (x : ℕ → ℕ) (q : ℕ) → class_sum L (parities L) q x ≡ 0
  parities_balanced x q =
      class_sum_places L ok (parities L) q x
      ∙ xor_over_zero (places L) (λ c. only (eqb (label L (parities L) (top L c)) q) (x c) ⊕ only (eqb (label L (parities L) (bottom L c)) q) (x c))
      (λ c m. rw (connected_label (parities_connected L (connected_place L m))) (⊕_self (only (eqb (label L (parities L) (bottom L c)) q) (x c))))

  pub carried_some : (m : List ℕ) → length m ≡ length (messages L) → ((i : ℕ) → at m i < 256) → (w : List ℕ) × Carries L w m
  carried_some m e byte =
      let x = spread (messages L) m in
      let f = fill L ok (parities L) (erased_parities L).inside x (parities_balanced x) in
      let d = rising_distinct (message_lists L ok).rising in (
        word L f.0,
        record {
          codeword = word_codeword L f.0 f.2;
          where_to = messages L;
          message_places = message_lists L ok;
          symbols = sym (map_same (at (word L f.0)) x (messages L)
              (λ c k. word_at L f.0 (places_∈ L (((message_lists L ok).exact c).0 k).inside).0
              ∙ ap (λ z. z % 256) (f.1 c (not_parity k)) ∙ mod-eq_of_lt (spread_byte (messages L) m c byte))
              ∙ spread_map m d e);
        },
      )

  carried_by : {w m : List ℕ} → Carries L w m → m ≡ map (at w) (messages L)
  carried_by {w} p = p.symbols ∙ ap (map (at w)) (lists_unique p.message_places (message_lists L ok))

  -- two codewords with one message are equal at every place
  pub carried_same : (m w x : List ℕ) → Carries L w m → Carries L x m → (c : ℕ) → c ∈ places L → at w c ≡ at x c
  carried_same m w x p q c k =
      let e : map (at w) (messages L) ≡ map (at x) (messages L) = sym (carried_by p) ∙ carried_by q in
      ⊕_eq (at w c) (at x c) (forest_zero L ok (erased_parities L).inside (forest_parities L) (λ d. at w d ⊕ at x d)
      (λ d i n. rw (map_at (at w) (at x) e (to_message i n)) (⊕_self (at x d)))
      (λ r h. syndrome_add L (at w) (at x) r ∙ ap₂ ◌⊕◌ (p.codeword.sums r h) (q.codeword.sums r h) ∙ ⊕_zero 0) c k)

  -- where every section takes part
  pub carried_once : ((j : ℕ) → j < L.n → j ∈ L.sections) → 0 < length L.sections → (m : List ℕ)
      → length m ≡ length L.sections * L.t - (2 * L.t - divisor L) → ((i : ℕ) → at m i < 256) → Single (λ w. Carries L w m)
  carried_once all some m e byte =
      let s = carried_some m (e ∙ sym (length_messages L ok some)) byte in
      record {
        one = s.0;
        has = s.1;
        only_one = λ x q. ext_get_or 0 x s.0 (q.codeword.whole ∙ sym s.1.codeword.whole)
            (λ c h. let l : c < L.n * L.t = rw q.codeword.whole at h in
            carried_same m x s.0 q s.1 c (∈_places L l (all (c / L.t) ((div-lt_iff_lt-mul ok.positive).1 l))));
      }

  pub carries_one : (w : List ℕ) → Codeword L w → Single (λ m. Carries L w m)
  carries_one w h = record {
    one = map (at w) (messages L);
    has = record { codeword = h; where_to = messages L; message_places = message_lists L ok; symbols = refl };
    only_one = λ m p. carried_by p;
  }
