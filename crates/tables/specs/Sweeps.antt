-- Tables changed entry by entry: a whole list, a part of a list, and the same change at two parts that do not overlap.
-- Main results: mapped_none, mapped_more, mapped_all (a loop over a list), part_mapped (a part that was lent), swept_parts, swept_more and swept_same.
use Rattle.std.specs.Prelude.{◌≡◌, refl, ◌≢◌, ◌⊎◌, List, ◌++◌, ℕ, ◌+◌, ◌-◌, ◌≤◌, ◌<◌, length, get_or, set, take, drop}
use Rattle.std.proofs.Common.{sym, ◌∙◌, ap, ap₂, inl, inr, ⊎_elim, arith, length-set, length-append, length-drop, ext_get_or, get_or-set_same, get_or-set_other, get_or-take, get_or-drop, get_or-append-add, length-take-le}
use Rattle.std.proofs.Math.Logic.{by_cases}
use Rattle.std.proofs.Math.Decide.{ℕ_discrete, dec_lt}
use Rattle.std.proofs.Math.ListN.{get_or-append}
use Rattle.math.specs.Xor.{◌⊕◌}

-- ---- a whole list

-- new is old with f i at entry i
pub record Mapped (f : ℕ → ℕ → ℕ) (old new : List ℕ) : Type 0 where
  pub long : length new ≡ length old
  pub each : (k : ℕ) → k < length old → get_or new k 0 ≡ f k (get_or old k 0)

-- the entry of src is added
abbrev pub with_symbol : List ℕ → ℕ → ℕ → ℕ
with_symbol src i x = x ⊕ get_or src i 0

-- the same below i
pub record MappedTo (f : ℕ → ℕ → ℕ) (old : List ℕ) (i : ℕ) (new : List ℕ) : Type 0 where
  pub long : length new ≡ length old
  pub below : (k : ℕ) → k < i → get_or new k 0 ≡ f k (get_or old k 0)
  pub above : (k : ℕ) → i ≤ k → get_or new k 0 ≡ get_or old k 0

pub mapped_none : (f : ℕ → ℕ → ℕ) (old : List ℕ) → MappedTo f old 0 old
mapped_none f old = record { long = refl; below = λ k h. absurd (omega arith); above = λ k h. refl }

pub mapped_more : {f : ℕ → ℕ → ℕ} {old : List ℕ} {i : ℕ} {mid : List ℕ} (new : List ℕ) → MappedTo f old i mid → i < length old
    → new ≡ set mid i (f i (get_or mid i 0)) → MappedTo f old (i + 1) new
mapped_more {f} {old} {i} {mid} new X h e =
    let v : ℕ = f i (get_or mid i 0) in
    record {
      long = rw e (length-set mid i v ∙ X.long);
      below = λ k l. rw e (by_cases (ℕ_discrete k i)
          (λ q. rw q (get_or-set_same mid i v 0 (rw X.long h) ∙ ap (f i) (X.above i (omega arith))))
          (λ n. get_or-set_other mid i k v 0 n ∙ X.below k (omega arith)));
      above = λ k l. rw e (get_or-set_other mid i k v 0 (λ q. omega arith) ∙ X.above k (omega arith));
    }

pub mapped_all : {f : ℕ → ℕ → ℕ} {old new : List ℕ} {i : ℕ} → MappedTo f old i new → length old ≤ i → Mapped f old new
mapped_all X h = record { long = X.long; each = λ k l. X.below k (omega arith) }

-- ---- a part of a list

-- f i was put at entry i of the part of old from a to e
pub record PartMapped (f : ℕ → ℕ → ℕ) (a e : ℕ) (old new : List ℕ) : Type 0 where
  pub long : length new ≡ length old
  pub before : (r : ℕ) → r < a → get_or new r 0 ≡ get_or old r 0
  pub inside : (r : ℕ) → a ≤ r → r < e → get_or new r 0 ≡ f (r - a) (get_or old r 0)
  pub after : (r : ℕ) → e ≤ r → get_or new r 0 ≡ get_or old r 0

-- a part that was lent and came back changed
pub part_mapped : {f : ℕ → ℕ → ℕ} (a e : ℕ) (old part new : List ℕ) → a ≤ e → e ≤ length old → new ≡ take a old ++ (part ++ drop (e - a) (drop a old))
    → Mapped f (take (e - a) (drop a old)) part → PartMapped f a e old new
part_mapped {f} a e old part new ae el q X =
    record {
      long = ap length q ∙ length-append (take a old) (part ++ rest) ∙ ap₂ ◌+◌ la (length-append part rest ∙ ap₂ ◌+◌ lp lr) ∙ lengths;
      before = λ r h. ap (λ z. get_or z r 0) q ∙ get_or-append (take a old) (part ++ rest) 0 r (rw la h) ∙ get_or-take a old r 0 h;
      inside = λ r h g.
          past r h ∙ get_or-append part rest 0 (r - a) (rw lp (omega arith))
          ∙ X.each (r - a) (rw lt (omega arith))
          ∙ ap (f (r - a)) (get_or-take (e - a) (drop a old) (r - a) 0 (omega arith) ∙ get_or-drop a old (r - a) 0 ∙ whole r h);
      after = λ r g.
          let h : a ≤ r = omega arith in
          let o : r - a ≡ e - a + (r - e) = omega arith in
          past r h ∙ ap (get_at (part ++ rest)) (o ∙ ap (λ y. y + (r - e)) (sym lp)) ∙ get_or-append-add part rest (r - e) 0
          ∙ get_or-drop (e - a) (drop a old) (r - e) 0 ∙ get_or-drop a old (e - a + (r - e)) 0 ∙ ap (λ y. get_or old (a + y) 0) (sym o) ∙ whole r h;
    }
  where
    rest : List ℕ
    rest = drop (e - a) (drop a old)

    get_at : List ℕ → ℕ → ℕ
    get_at l i = get_or l i 0

    la : length (take a old) ≡ a
    la = length-take-le a old (omega arith)

    lt : length (take (e - a) (drop a old)) ≡ e - a
    lt = length-take-le (e - a) (drop a old) (rw (length-drop a old) (omega arith))

    lp : length part ≡ e - a
    lp = X.long ∙ lt

    lr : length rest ≡ length old - a - (e - a)
    lr = length-drop (e - a) (drop a old) ∙ ap (λ y. y - (e - a)) (length-drop a old)

    lengths : a + (e - a + (length old - a - (e - a))) ≡ length old
    lengths = omega arith

    whole : (r : ℕ) → a ≤ r → get_or old (a + (r - a)) 0 ≡ get_or old r 0
    whole r h = let o : a + (r - a) ≡ r = omega arith in ap (get_at old) o

    past : (r : ℕ) → a ≤ r → get_or new r 0 ≡ get_or (part ++ rest) (r - a) 0
    past r h =
        let o : r ≡ a + (r - a) = omega arith in
        ap (λ z. get_or z r 0) q ∙ ap (get_at (take a old ++ (part ++ rest))) (o ∙ ap (λ y. y + (r - a)) (sym la))
        ∙ get_or-append-add (take a old) (part ++ rest) (r - a) 0

-- ---- two parts of m entries, from a on and from b on

pub record Apart (a b m l : ℕ) : Type 0 where
  pub order : a + m ≤ b
  pub end : b + m ≤ l

-- f i was put at entry i of each
pub record Swept (f : ℕ → ℕ → ℕ) (a b m : ℕ) (old new : List ℕ) : Type 0 where
  pub long : length new ≡ length old
  pub high : (i : ℕ) → i < m → get_or new (a + i) 0 ≡ f i (get_or old (a + i) 0)
  pub low : (i : ℕ) → i < m → get_or new (b + i) 0 ≡ f i (get_or old (b + i) 0)
  pub other : (r : ℕ) → ((i : ℕ) → i < m → r ≢ a + i) → ((i : ℕ) → i < m → r ≢ b + i) → get_or new r 0 ≡ get_or old r 0

pub swept_parts : {f : ℕ → ℕ → ℕ} {a b m : ℕ} {old : List ℕ} (mid new : List ℕ) → Apart a b m (length old) → PartMapped f a (a + m) old mid
    → PartMapped f b (b + m) mid new → Swept f a b m old new
swept_parts {f} {a} {b} {m} {old} mid new A P Q =
    record {
      long = Q.long ∙ P.long;
      high = λ i h.
          let o : a + i - a ≡ i = omega arith in
          Q.before (a + i) (omega arith) ∙ P.inside (a + i) (omega arith) (omega arith) ∙ ap (λ y. f y (get_or old (a + i) 0)) o;
      low = λ i h.
          let o : b + i - b ≡ i = omega arith in
          Q.inside (b + i) (omega arith) (omega arith) ∙ ap₂ f o (P.after (b + i) (omega arith));
      other = λ r g h. beyond r b h (Q.before r) (Q.after r) ∙ beyond r a g (P.before r) (P.after r);
    }
  where
    beyond : {x y : ℕ} (r c : ℕ) → ((i : ℕ) → i < m → r ≢ c + i) → (r < c → x ≡ y) → (c + m ≤ r → x ≡ y) → x ≡ y
    beyond r c h p q =
        by_cases (dec_lt r c) p
        (λ l. by_cases (dec_lt r (c + m)) (λ k. absurd (h (r - c) (omega arith) (omega arith))) (λ k. q (omega arith)))

pub swept_none : (f : ℕ → ℕ → ℕ) (a b : ℕ) (old : List ℕ) → Swept f a b 0 old old
swept_none f a b old = record { long = refl; high = λ i h. absurd (omega arith); low = λ i h. absurd (omega arith); other = λ r g h. refl }

-- one entry more of each
pub swept_more : {f : ℕ → ℕ → ℕ} {a b m : ℕ} {old s : List ℕ} (s₁ new : List ℕ) → Swept f a b m old s → a + m < b → b + m < length old
    → s₁ ≡ set s (a + m) (f m (get_or s (a + m) 0)) → new ≡ set s₁ (b + m) (f m (get_or s₁ (b + m) 0)) → Swept f a b (m + 1) old new
swept_more {f} {a} {b} {m} {old} {s} s₁ new S h l e₁ e₂ =
    record {
      long = long₂ ∙ long₁ ∙ S.long;
      high = λ i k. not_b (a + i) (omega arith)
          ∙ by_cases (ℕ_discrete i m)
          (λ q. rw q (at_a ∙ ap (f m) (S.other (a + m) (λ d x y. omega arith) (λ d x y. omega arith))))
          (λ q. not_a (a + i) (omega arith) ∙ S.high i (omega arith));
      low = λ i k. by_cases (ℕ_discrete i m)
          (λ q. rw q (at_b ∙ ap (f m) (not_a (b + m) (omega arith) ∙ S.other (b + m) (λ d x y. omega arith) (λ d x y. omega arith))))
          (λ q. not_b (b + i) (omega arith) ∙ not_a (b + i) (omega arith) ∙ S.low i (omega arith));
      other = λ r g k. not_b r (k m (omega arith)) ∙ not_a r (g m (omega arith)) ∙ S.other r (λ i d. g i (omega arith)) (λ i d. k i (omega arith));
    }
  where
    v₁ : ℕ
    v₁ = f m (get_or s (a + m) 0)

    v₂ : ℕ
    v₂ = f m (get_or s₁ (b + m) 0)

    long₁ : length s₁ ≡ length s
    long₁ = ap length e₁ ∙ length-set s (a + m) v₁

    long₂ : length new ≡ length s₁
    long₂ = ap length e₂ ∙ length-set s₁ (b + m) v₂

    not_a : (r : ℕ) → r ≢ a + m → get_or s₁ r 0 ≡ get_or s r 0
    not_a r n = ap (λ z. get_or z r 0) e₁ ∙ get_or-set_other s (a + m) r v₁ 0 n

    not_b : (r : ℕ) → r ≢ b + m → get_or new r 0 ≡ get_or s₁ r 0
    not_b r n = ap (λ z. get_or z r 0) e₂ ∙ get_or-set_other s₁ (b + m) r v₂ 0 n

    at_a : get_or s₁ (a + m) 0 ≡ f m (get_or s (a + m) 0)
    at_a = ap (λ z. get_or z (a + m) 0) e₁ ∙ get_or-set_same s (a + m) v₁ 0 (omega (arith, S.long))

    at_b : get_or new (b + m) 0 ≡ f m (get_or s₁ (b + m) 0)
    at_b = ap (λ z. get_or z (b + m) 0) e₂ ∙ get_or-set_same s₁ (b + m) v₂ 0 (omega (arith, S.long, long₁))

split : (r c m : ℕ) → ((i : ℕ) × (i < m) × (r ≡ c + i)) ⊎ ((i : ℕ) → i < m → r ≢ c + i)
split r c m =
    by_cases (dec_lt r c) (λ l. inr (λ i h q. omega arith))
    (λ l. by_cases (dec_lt r (c + m)) (λ k. inl (r - c, omega arith, omega arith)) (λ k. inr (λ i h q. omega arith)))

-- there is one such list
pub swept_same : {f : ℕ → ℕ → ℕ} {a b m : ℕ} {old new new' : List ℕ} → Swept f a b m old new → Swept f a b m old new' → new ≡ new'
swept_same {f} {a} {b} {m} {old} {new} {new'} S S' =
    ext_get_or 0 new new' (S.long ∙ sym S'.long)
    (λ r h. ⊎_elim (λ w. at r w.2 (S.high w.0 w.1 ∙ sym (S'.high w.0 w.1)))
    (λ n. ⊎_elim (λ w. at r w.2 (S.low w.0 w.1 ∙ sym (S'.low w.0 w.1))) (λ k. S.other r n k ∙ sym (S'.other r n k)) (split r b m))
    (split r a m))
  where
    at : {d : ℕ} (r : ℕ) → r ≡ d → get_or new d 0 ≡ get_or new' d 0 → get_or new r 0 ≡ get_or new' r 0
    at r q e = ap (λ y. get_or new y 0) q ∙ e ∙ ap (λ y. get_or new' y 0) (sym q)

-- the two parts as they were lent and came back
pub swept_lent : {f : ℕ → ℕ → ℕ} {a b m : ℕ} {old : List ℕ} (part₁ mid part₂ new : List ℕ) → Apart a b m (length old)
    → mid ≡ take a old ++ (part₁ ++ drop (a + m - a) (drop a old)) → Mapped f (take (a + m - a) (drop a old)) part₁
    → new ≡ take b mid ++ (part₂ ++ drop (b + m - b) (drop b mid)) → Mapped f (take (b + m - b) (drop b mid)) part₂ → Swept f a b m old new
swept_lent {f} {a} {b} {m} {old} part₁ mid part₂ new A q₁ X₁ q₂ X₂ =
    let P : PartMapped f a (a + m) old mid = part_mapped a (a + m) old part₁ mid (omega arith) (omega (arith, A.order, A.end)) q₁ X₁ in
    let Q : PartMapped f b (b + m) mid new = part_mapped b (b + m) mid part₂ new (omega arith) (omega (arith, P.long, A.end)) q₂ X₂ in
    swept_parts mid new A P Q

-- w can be added to each entry
pub record Room (w : ℕ) (s : List ℕ) : Type 0 where
  pub each : (r : ℕ) → r < length s → get_or s r 0 + w < 65536
