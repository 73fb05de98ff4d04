-- Tables of parents that never rise, told by the functions that are constant along them: those are the functions of the components.
-- Main results: reached_more (a step to a root), unites_same, unites_first, unites_second (two rows joined), settled_more (the last pass).
use Rattle.std.specs.Prelude.{◌≡◌, refl, ◌≢◌, Bool, true, false, List, ℕ, zero, suc, ◌+◌, ◌≤◌, ◌<◌, length, get_or, set}
use Rattle.std.proofs.Common.{sym, ◌∙◌, ap, subst, le_refl, arith, length-set, get_or-set_same, get_or-set_other}
use Rattle.std.proofs.Math.Logic.{by_cases}
use Rattle.std.proofs.Math.Decide.{ℕ_discrete}

-- no parent is above its row
abbrev pub Falls : List ℕ → Type 0
Falls p = (r : ℕ) → r < length p → get_or p r 0 ≤ r

-- f is the same at a row and its parent
abbrev pub Along : List ℕ → (ℕ → ℕ) → Type 0
Along p f = (r : ℕ) → r < length p → f (get_or p r 0) ≡ f r

-- q is a table of the same components as p, and its roots are still roots
pub record Same (p q : List ℕ) : Type 0 where
  pub long : length q ≡ length p
  pub falls : Falls q
  pub on : (f : ℕ → ℕ) → Along p f → Along q f
  pub back : (f : ℕ → ℕ) → Along q f → Along p f
  pub roots : (r : ℕ) → get_or p r 0 ≡ r → get_or q r 0 ≡ r

-- row r is reached from row x, in p as it was and in q as it is left
pub record Reached (p : List ℕ) (x : ℕ) (q : List ℕ) (r : ℕ) : Type 0 where
  pub same : Same p q
  pub small : r ≤ x
  pub reach : (f : ℕ → ℕ) → Along q f → f x ≡ f r

-- a is the root of row x
pub record Found (p : List ℕ) (x : ℕ) (q : List ℕ) (a : ℕ) : Type 0 where
  pub reached : Reached p x q a
  pub root : get_or q a 0 ≡ a

-- q is p with the components of x and y joined
pub record United (p : List ℕ) (x y : ℕ) (q : List ℕ) : Type 0 where
  pub long : length q ≡ length p
  pub falls : Falls q
  pub back : (f : ℕ → ℕ) → Along q f → Along p f × (f x ≡ f y)
  pub on : (f : ℕ → ℕ) → Along p f → f x ≡ f y → Along q f

-- something tells the components of x and y apart
pub record Apart (p : List ℕ) (x y : ℕ) : Type 0 where
  pub f : ℕ → ℕ
  pub along : Along p f
  pub differ : f x ≢ f y

abbrev pub Joint : List ℕ → ℕ → ℕ → Bool → Type 0
Joint p x y true = (f : ℕ → ℕ) → Along p f → f x ≡ f y
Joint p x y false = Apart p x y

-- x and y joined, and whether they were joined before
pub record Unites (p : List ℕ) (x y : ℕ) (q : List ℕ) (before : Bool) : Type 0 where
  pub united : United p x y q
  pub joint : Joint p x y before

-- ---- one store

-- what holds of the value stored and of the others holds of each after the store
at_set : (C : ℕ → Type 0) (p : List ℕ) (r v s : ℕ) → r < length p → (s ≡ r → C v) → (s ≢ r → C (get_or p s 0)) → C (get_or (set p r v) s 0)
at_set C p r v s h f g =
    by_cases (ℕ_discrete s r)
    (λ e. subst C (sym (ap (λ i. get_or (set p r v) i 0) e ∙ get_or-set_same p r v 0 h)) (f e))
    (λ n. subst C (sym (get_or-set_other p r s v 0 n)) (g n))

below_set : (p : List ℕ) (r v : ℕ) {s : ℕ} → s < length (set p r v) → s < length p
below_set p r v h = rw (length-set p r v) at h

pub same_refl : {p : List ℕ} → Falls p → Same p p
same_refl h = record { long = refl; falls = h; on = λ f a. a; back = λ f a. a; roots = λ r e. e }

pub same_trans : {p q o : List ℕ} → Same p q → Same q o → Same p o
same_trans s t = record {
  long = t.long ∙ s.long;
  falls = t.falls;
  on = λ f a. t.on f (s.on f a);
  back = λ f a. s.back f (t.back f a);
  roots = λ r e. t.roots r (s.roots r e);
}

-- row r hung from its parent's parent
pub same_halve : (p : List ℕ) (r : ℕ) → Falls p → r < length p → Same p (set p r (get_or p (get_or p r 0) 0))
same_halve p r fall h =
    let u : ℕ = get_or p r 0 in
    let v : ℕ = get_or p u 0 in
    let hu : u < length p = omega (arith, fall r h) in
    record {
      long = length-set p r v;
      falls = λ s k. at_set (λ x. x ≤ s) p r v s h (λ e. omega (arith, fall r h, fall u hu)) (λ n. fall s (below_set p r v k));
      on = λ f a s k. at_set (λ x. f x ≡ f s) p r v s h (λ e. a u hu ∙ a r h ∙ ap f (sym e)) (λ n. a s (below_set p r v k));
      back = λ f a s k.
          let own : f v ≡ f r = subst (λ x. f x ≡ f r) (get_or-set_same p r v 0 h) (a r (rw (length-set p r v) h)) in
          let far : u ≢ r → f v ≡ f u = λ n. subst (λ x. f x ≡ f u) (get_or-set_other p r u v 0 n) (a u (rw (length-set p r v) hu)) in
          by_cases (ℕ_discrete s r)
          (λ e. subst (λ i. f (get_or p i 0) ≡ f i) (sym e) (by_cases (ℕ_discrete u r) (λ q. ap f q) (λ n. sym (far n) ∙ own)))
          (λ n. subst (λ x. f x ≡ f s) (get_or-set_other p r s v 0 n) (a s (rw (length-set p r v) k)));
      roots = λ s e. at_set (λ x. x ≡ s) p r v s h
          (λ q. let w : u ≡ s = ap (λ x. get_or p x 0) (sym q) ∙ e in ap (λ x. get_or p x 0) w ∙ e) (λ n. e);
    }

-- the search for a root: it starts at x itself, and goes on to the parent's parent
pub reached_own : {p : List ℕ} → Falls p → (x : ℕ) → Reached p x p x
reached_own h x = record { same = same_refl h; small = le_refl x; reach = λ f a. refl }

pub reached_more : {p q : List ℕ} {x r : ℕ} → Reached p x q r → x < length p
    → Reached p x (set q r (get_or q (get_or q r 0) 0)) (get_or q (get_or q r 0) 0)
reached_more {p} {q} {x} {r} m k =
    let h : r < length q = omega (arith, m.small, m.same.long) in
    let fall = m.same.falls in
    let u : ℕ = get_or q r 0 in
    let hu : u < length q = omega (arith, fall r h) in
    let s = same_halve q r fall h in
    record {
      same = same_trans m.same s;
      small = omega (arith, fall u hu, fall r h, m.small);
      reach = λ f a. let b : Along q f = s.back f a in m.reach f b ∙ sym (b r h) ∙ sym (b u hu);
    }

-- the search stands at row r with parent up
pub record Seeks (p : List ℕ) (x : ℕ) (q : List ℕ) (r up : ℕ) : Type 0 where
  pub reached : Reached p x q r
  pub start : x < length p
  pub long : length q ≡ length p
  pub near : r ≤ x
  pub parent : up ≡ get_or q r 0
  pub low : up ≤ r
  pub next_low : get_or q up 0 ≤ up

seeks_at : {p q : List ℕ} {x r : ℕ} → Reached p x q r → x < length p → Seeks p x q r (get_or q r 0)
seeks_at {p} {q} {x} {r} m h =
    let l = m.same.long in
    let fall = m.same.falls in
    let a : get_or q r 0 ≤ r = fall r (omega (arith, m.small)) in
    record {
      reached = m;
      start = h;
      long = l;
      near = m.small;
      parent = refl;
      low = a;
      next_low = fall (get_or q r 0) (omega (arith, m.small));
    }

pub seeks_own : {p : List ℕ} {x up : ℕ} → Falls p → x < length p → up ≡ get_or p x 0 → Seeks p x p x up
seeks_own {p} {x} fall h e = rw e (seeks_at (reached_own fall x) h)

-- row r is hung from its parent's parent, and the search goes on there
pub seeks_more : {p q q' : List ℕ} {x r up over up' : ℕ} → Seeks p x q r up → over ≡ get_or q up 0 → q' ≡ set q r over → up' ≡ get_or q' over 0
    → Seeks p x q' over up'
seeks_more {p} {q} {x = x} {r} {up} m eo eq eu =
    rw (eu, eq, eo) (subst (λ u. Seeks p x (set q r (get_or q u 0)) (get_or q u 0) (get_or (set q r (get_or q u 0)) (get_or q u 0) 0)) (sym m.parent)
    (seeks_at (reached_more m.reached m.start) m.start))

pub seeks_found : {p q : List ℕ} {x r up : ℕ} → Seeks p x q r up → r ≤ up → Found p x q r
seeks_found m h = record { reached = m.reached; root = omega (arith, m.parent, m.low) }

-- ---- the root of a row, by as many steps as it has rows below

root : List ℕ → ℕ → ℕ → ℕ
root p zero r = r
root p (suc k) r = root p k (get_or p r 0)

root_own : (p : List ℕ) (k : ℕ) {r : ℕ} → get_or p r 0 ≡ r → root p k r ≡ r
unfolding root
root_own p zero e = refl
root_own p (suc k) {r} e = ap (root p k) e ∙ root_own p k e

root_parent : (p : List ℕ) (k r : ℕ) → root p k (get_or p r 0) ≡ get_or p (root p k r) 0
unfolding root
root_parent p zero r = refl
root_parent p (suc k) r = root_parent p k (get_or p r 0)

root_is : (p : List ℕ) (k : ℕ) → Falls p → {r : ℕ} → r < length p → r ≤ k → get_or p (root p k r) 0 ≡ root p k r
unfolding root
root_is p zero fall {r} h l = let e : r ≡ 0 = omega arith in omega (arith, fall r h)
root_is p (suc k) fall {r} h l =
    by_cases (ℕ_discrete (get_or p r 0) r)
    (λ e. rw (e, root_own p k e) e)
    (λ n. root_is p k fall (omega (arith, fall r h)) (omega (arith, fall r h)))

root_along : (p : List ℕ) → Falls p → Along p (root p (length p))
root_along p fall r h = root_parent p (length p) r ∙ root_is p (length p) fall h (omega arith)

-- two roots are told apart
pub roots_apart : {p : List ℕ} {a b : ℕ} → Falls p → get_or p a 0 ≡ a → get_or p b 0 ≡ b → a ≢ b → Apart p a b
roots_apart {p} fall e g n = record {
  f = root p (length p);
  along = root_along p fall;
  differ = λ q. n (sym (root_own p (length p) e) ∙ q ∙ root_own p (length p) g);
}

-- ---- two rows joined

unites_same_at : {p q : List ℕ} {x y : ℕ} → Same p q → ((f : ℕ → ℕ) → Along q f → f x ≡ f y) → Unites p x y q true
unites_same_at s meet = record {
  united = record { long = s.long; falls = s.falls; back = λ f h. (s.back f h, meet f h); on = λ f h g. s.on f h };
  joint = λ f h. meet f (s.on f h);
}

-- the root hi hung from the root lo
unites_hang_at : {p q : List ℕ} {x y : ℕ} (lo hi : ℕ) → Same p q → lo < hi → hi < length q → get_or q lo 0 ≡ lo → get_or q hi 0 ≡ hi
    → ((f : ℕ → ℕ) → Along q f → (f x ≡ f lo) × (f y ≡ f hi)) → Unites p x y (set q hi lo) false
unites_hang_at {p} {q} {x} {y} lo hi s l h e g reach =
    let down : (f : ℕ → ℕ) → Along (set q hi lo) f → Along q f × (f lo ≡ f hi) = λ f a. (
      λ r k. by_cases (ℕ_discrete r hi)
          (λ u. ap f (ap (λ i. get_or q i 0) u ∙ g ∙ sym u))
          (λ n. subst (λ v. f v ≡ f r) (get_or-set_other q hi r lo 0 n) (a r (rw (length-set q hi lo) k))),
      subst (λ v. f v ≡ f hi) (get_or-set_same q hi lo 0 h) (a hi (rw (length-set q hi lo) h)),
    ) in
    let apart : Apart q lo hi = roots_apart s.falls e g (λ u. omega (arith, u)) in
    record {
      united = record {
        long = length-set q hi lo ∙ s.long;
        falls = λ r k. at_set (λ v. v ≤ r) q hi lo r h (λ u. omega arith) (λ n. s.falls r (below_set q hi lo k));
        back = λ f a. let b = down f a in let c = reach f b.0 in (s.back f b.0, c.0 ∙ b.1 ∙ sym c.1);
        on = λ f a u r k. let b = s.on f a in let c = reach f b in
            at_set (λ v. f v ≡ f r) q hi lo r h (λ w. sym c.0 ∙ u ∙ c.1 ∙ ap f (sym w)) (λ n. b r (below_set q hi lo k));
      };
      joint = record {
        f = apart.f;
        along = s.back apart.f apart.along;
        differ = λ u. let c = reach apart.f apart.along in apart.differ (sym c.0 ∙ u ∙ c.1);
      };
    }

unites_sym : {p q : List ℕ} {x y : ℕ} → Unites p x y q false → Unites p y x q false
unites_sym u = record {
  united = record {
    long = u.united.long;
    falls = u.united.falls;
    back = λ f a. let b = u.united.back f a in (b.0, sym b.1);
    on = λ f a e. u.united.on f a (sym e);
  };
  joint = record { f = u.joint.f; along = u.joint.along; differ = λ e. u.joint.differ (sym e) };
}

module _ {p o q : List ℕ} {x y a b : ℕ} (first : Found p x o a) (second : Found o y q b) where
  found_both : (f : ℕ → ℕ) → Along q f → (f x ≡ f a) × (f y ≡ f b)
  found_both f h = (first.reached.reach f (second.reached.same.back f h), second.reached.reach f h)

  found_same : Same p q
  found_same = same_trans first.reached.same second.reached.same

  found_root : get_or q a 0 ≡ a
  found_root = second.reached.same.roots a first.root

  pub unites_same : a ≡ b → Unites p x y q true
  unites_same e = unites_same_at found_same (λ f h. let c = found_both f h in c.0 ∙ ap f e ∙ sym c.1)

  pub unites_second : a < b → b < length q → Unites p x y (set q b a) false
  unites_second l h = unites_hang_at a b found_same l h found_root second.root found_both

  pub unites_first : b < a → a < length q → Unites p x y (set q a b) false
  unites_first l h = unites_sym (unites_hang_at b a found_same l h second.root found_root (λ f k. let c = found_both f k in (c.1, c.0)))

-- ---- the last pass

-- the rows below i hang from their roots
pub record Settled (p q : List ℕ) (i : ℕ) : Type 0 where
  pub same : Same p q
  pub flat : (r : ℕ) → r < i → get_or q (get_or q r 0) 0 ≡ get_or q r 0

pub settled_more : {p q : List ℕ} {i : ℕ} → Settled p q i → i < length p → Settled p (set q i (get_or q (get_or q i 0) 0)) (i + 1)
settled_more {p} {q} {i} m k =
    let h : i < length q = omega (arith, m.same.long) in
    let fall = m.same.falls in
    let u : ℕ = get_or q i 0 in
    let v : ℕ = get_or q u 0 in
    let q' : List ℕ = set q i v in
    let at : (s : ℕ) → s < i → get_or q' s 0 ≡ get_or q s 0 = λ s l. get_or-set_other q i s v 0 (λ e. omega arith) in
    let own : get_or q' i 0 ≡ v = get_or-set_same q i v 0 h in
    let top : get_or q' v 0 ≡ v =
    by_cases (ℕ_discrete u i)
    (λ e. let w : v ≡ i = ap (λ s. get_or q s 0) e ∙ e in ap (λ s. get_or q' s 0) w ∙ own)
    (λ n. let l : u < i = omega (arith, fall i h) in
    at v (omega (arith, fall u (omega arith))) ∙ m.flat u l) in
    record {
      same = same_trans m.same (same_halve q i fall h);
      flat = λ r l. by_cases (ℕ_discrete r i)
          (λ e. subst (λ s. get_or q' (get_or q' s 0) 0 ≡ get_or q' s 0) (sym e) (ap (λ s. get_or q' s 0) own ∙ top ∙ sym own))
          (λ n. let j : r < i = omega arith in
          ap (λ s. get_or q' s 0) (at r j) ∙ at (get_or q r 0) (omega (arith, fall r (omega arith))) ∙ m.flat r j ∙ sym (at r j));
    }

-- ---- the first table

-- the rows below i are their own parents
pub record Own (p q : List ℕ) (i : ℕ) : Type 0 where
  pub long : length q ≡ length p
  pub each : (r : ℕ) → r < i → get_or q r 0 ≡ r

pub own_more : {p q : List ℕ} {i : ℕ} → Own p q i → i < length q → Own p (set q i i) (i + 1)
own_more {p} {q} {i} m h = record {
  long = length-set q i i ∙ m.long;
  each = λ r k. at_set (λ x. x ≡ r) q i i r h sym (λ n. m.each r (omega arith));
}
