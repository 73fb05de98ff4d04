-- Copying runs: one turn of each loop, and what stands there at the end.
-- Main results: copied_more, copied_done (a copy, byte by byte); fronts_full and filled_full (full sections at once); Gathering (gather's invariant) with its start, step and end; Filling (spread's) with the same.
use Rattle.std.specs.Prelude.{◌≡◌}
use Rattle.std.proofs.Math.Path.{refl, sym, ap, ap₂}
use Rattle.std.proofs.Common.{◌∙◌, drop-cons, take-suc, suc-mul, zero-mul, mul-le-mul_right, div-lt_iff_lt-mul, add-one, drop_of_length-le, take_at, take-add, take_all, length-take-le}
use Rattle.std.proofs.Math.Logic.{by_cases}
use mathlib.Core.List.{List, ◌++◌, map, append_assoc, append-nil}
use Prim.Native.Nat.{ℕ, zero, suc, ◌+◌, ◌-◌, ◌*◌, ◌/◌, ◌%◌, ◌≤◌, ◌<◌}
use Rattle.std.proofs.Math.Decide.{ℕ_discrete}
use native.Mathlib.Omega.{arith}
use Rattle.std.proofs.Math.ListN.{length, get_or, set, take, drop, replicate, length-append, length-drop, get_or-append}
use Rattle.std.proofs.lemmas.List.{set_at, length-replicate, drop-append-le}
use Rattle.std.proofs.Math.Seq.{append_snoc, drop_at, take-append-le, get_or-append-add}
use Rattle.math.specs.Padded.{zeros_at}
use Rattle.bounds.specs.Bounds.{max_places}
use Rattle.plan.specs.Layout.{Layout, message_count}
use Rattle.code.specs.Laws.ParityCount.{messages}
use Rattle.runs.specs.Runs.{RunsOf, Lent, Full, Spread}
use Rattle.runs.specs.Laws.Fronts.{total, fronts, filled, part_write, total_more, total_le, total_within, parts_place, runs_short, runs_positive, parity_offset, parity_section, total_count, fronts_messages}

-- one byte of a copy, and all of them
pub copied_more : (s d : List ℕ) {l : List ℕ} (i v : ℕ) → l ≡ take i s ++ drop i d → v ≡ get_or s i 0 → i < length s → i < length d
    → set l i v ≡ take (i + 1) s ++ drop (i + 1) d
copied_more s d i v e g h k =
    let len : length (take i s) ≡ i = length-take-le i s (omega arith) in
    rw (e, g, drop-cons d i 0 k, set_at (take i s) (get_or d i 0) (drop (suc i) d) (get_or s i 0) i len, add-one i, take-suc s i 0 h)
    (sym (append_snoc (take i s) (get_or s i 0) (drop (suc i) d)))

pub copied_done : (s d : List ℕ) {l : List ℕ} (i : ℕ) → l ≡ take i s ++ drop i d → length s ≤ i → length d ≤ i → l ≡ s
copied_done s d i e h k = e ∙ ap₂ ◌++◌ (take_all i s h) (drop_of_length-le d k) ∙ append-nil s

-- a part that starts at a and ends at a + k
length_part : (l : List ℕ) (a k : ℕ) → a + k ≤ length l → length (take k (drop a l)) ≡ k
length_part l a k h = length-take-le k (drop a l) (rw length-drop (omega arith))

section_start : (t : ℕ) {j n : ℕ} → j < n → j * t + t ≤ n * t
section_start t h = omega (arith, mul-le-mul_right t h)

-- ---- full sections

total_full : (t : ℕ) (runs : List ℕ) (k : ℕ) → ((i : ℕ) → i < k → get_or runs i 0 ≡ t) → total runs k ≡ k * t
unfolding total
total_full t runs zero h = omega arith
total_full t runs (suc k) h = ap₂ ◌+◌ (total_full t runs k (λ i l. h i (omega arith))) (h k (omega arith)) ∙ sym (suc-mul k t)

fronts_full : (t : ℕ) (runs block : List ℕ) (k : ℕ) → ((i : ℕ) → i < k → get_or runs i 0 ≡ t) → fronts t runs block k ≡ take (k * t) block
unfolding fronts
fronts_full t runs block zero h = ap (λ y. take y block) (sym (zero-mul t))
fronts_full t runs block (suc k) h =
    ap₂ ◌++◌ (fronts_full t runs block k (λ i l. h i (omega arith))) (ap (λ y. take y (drop (k * t) block)) (h k (omega arith)))
    ∙ sym (take-add (k * t) t block) ∙ ap (λ y. take y block) (sym (suc-mul k t))

filled_full : (t : ℕ) (runs message : List ℕ) (k : ℕ) → ((i : ℕ) → i < k → get_or runs i 0 ≡ t) → filled t runs message k ≡ take (k * t) message
unfolding filled
filled_full t runs message zero h = ap (λ y. take y message) (sym (zero-mul t))
filled_full t runs message (suc k) h =
    let r : get_or runs k 0 ≡ t = h k (omega arith) in
    let z : t - t ≡ 0 = omega arith in
    ap₂ ◌++◌ (filled_full t runs message k (λ i l. h i (omega arith)))
    (ap₂ (λ y w. take y (drop w message) ++ replicate (t - y) 0) r (total_full t runs k (λ i l. h i (omega arith)))
    ∙ ap (λ y. take t (drop (k * t) message) ++ replicate y 0) z ∙ append-nil (take t (drop (k * t) message)))
    ∙ sym (take-add (k * t) t message) ∙ ap (λ y. take y message) (sym (suc-mul k t))

-- the full sections lie within
pub full_room : {n t : ℕ} {runs block message : List ℕ} {k : ℕ} → Lent n t runs block message → Full n t runs k
    → (k * t ≤ length block) × (k * t ≤ length message) × (n * t ≤ max_places)
full_room {n} {t} {runs} {k = k} h F = (
  omega (arith, h.block_long, mul-le-mul_right t F.most),
  omega (arith, h.message_long, total_count h.of, total_le runs n F.most, total_full t runs k F.whole),
  h.of.small,
)

-- ---- gather

fronts_more : (t : ℕ) (runs block : List ℕ) (j : ℕ) → fronts t runs block (suc j) ≡ fronts t runs block j ++ take (get_or runs j 0) (drop (j * t) block)
unfolding fronts
fronts_more t runs block j = refl

-- the first j runs of the block are at the front of the message, which was m₀
pub record Gathering (n t : ℕ) (runs block m₀ : List ℕ) (a done j : ℕ) (m : List ℕ) : Type 0 where
  pub low : j ≤ n
  pub at_is : a ≡ j * t
  pub done_is : done ≡ total runs j
  pub symbols : m ≡ fronts t runs block j ++ drop done m₀

module _ {n t : ℕ} {L : Layout} {runs : List ℕ} (h : RunsOf n t L runs) where
  length_fronts : (block : List ℕ) → length block ≡ n * t → (j : ℕ) → j ≤ n → length (fronts t runs block j) ≡ total runs j
  unfolding fronts total
  length_fronts block e zero l = refl
  length_fronts block e (suc j) l =
      let k = section_start t {j = j} {n = n} l in
      simp (length-append, length_fronts block e j (omega arith), length_part block (j * t) (get_or runs j 0) (omega (arith, runs_short h j)))

  room : {j : ℕ} → j < n → total runs j + get_or runs j 0 ≤ message_count L
  room l = rw (← total_count h) (total_within runs l)

-- the full sections copied at once
pub gathering_full : {n t : ℕ} {runs block m₀ x m : List ℕ} {k : ℕ} → Full n t runs k → x ≡ take (k * t) block → m ≡ x ++ drop (k * t) m₀
    → Gathering n t runs block m₀ (k * t) (k * t) k m
gathering_full {t = t} {runs} {block} {m₀} {k = k} F hx hm = record {
  low = F.most;
  at_is = refl;
  done_is = sym (total_full t runs k F.whole);
  symbols = hm ∙ ap (λ y. y ++ drop (k * t) m₀) (hx ∙ sym (fronts_full t runs block k F.whole));
}

module _ {n t : ℕ} {runs block m₀ : List ℕ} (h : Lent n t runs block m₀) where
  pub gathering_long : {a done j : ℕ} {m : List ℕ} → Gathering n t runs block m₀ a done j m → length m ≡ length m₀
  gathering_long {a} {done} {j} g =
      let e = length_fronts h.of block h.block_long j g.low in
      ap length g.symbols ∙ (simp (length-append, length-drop, e) (omega (arith, g.done_is, h.message_long, total_count h.of, total_le runs n g.low)))

  -- the parts of a turn lie within
  pub gathering_room : {a done j : ℕ} {m : List ℕ} → Gathering n t runs block m₀ a done j m → j < n
      → (a + t ≤ length block) × (get_or runs j 0 ≤ t) × (done + get_or runs j 0 ≤ length m)
  gathering_room {j = j} g l = (
    omega (arith, g.at_is, section_start t l, h.block_long),
    runs_short h.of j,
    omega (arith, g.done_is, room h.of l, h.message_long, gathering_long g),
  )

  pub gathering_more : {a done j e next : ℕ} {m x m' : List ℕ} → Gathering n t runs block m₀ a done j m → j < n
      → e ≡ a + get_or runs j 0 → next ≡ done + get_or runs j 0 → x ≡ take (e - a) (drop a block) → m' ≡ take done m ++ (x ++ drop (next - done) (drop done m))
      → Gathering n t runs block m₀ ((j + 1) * t) next (j + 1) m'
  gathering_more {a} {done} {j} {e} {next} {m} {x} g l he hn hx hm =
      let k : e - a ≡ get_or runs j 0 = omega arith in
      let hx' : x ≡ take (get_or runs j 0) (drop (j * t) block) = hx ∙ ap₂ (λ y z. take y (drop z block)) k g.at_is in
      record {
        low = omega arith;
        at_is = refl;
        done_is = hn ∙ ap (λ y. y + get_or runs j 0) g.done_is ∙ sym (total_more runs j) ∙ ap (total runs) (sym (add-one j));
        symbols = hm
            ∙ part_write (fronts t runs block j) x m₀ {a = done} {e = next} {w = m} g.symbols
            (length_fronts h.of block h.block_long j g.low ∙ sym g.done_is) (omega arith)
            ∙ ap (λ y. y ++ drop next m₀) (ap (λ y. fronts t runs block j ++ y) hx' ∙ sym (fronts_more t runs block j) ∙ ap (fronts t runs block) (sym (add-one j)));
      }

  pub gathering_end : {a done j : ℕ} {m : List ℕ} → Gathering n t runs block m₀ a done j m → n ≤ j → (K : Layout) → RunsOf n t K runs → m ≡ map (λ c. get_or block c 0) (messages K)
  gathering_end {a} {done} {j} g l K k =
      let e : j ≡ n = omega (arith, g.low) in
      let d : length m₀ ≤ done = omega (arith, h.message_long, total_count h.of, g.done_is ∙ ap (total runs) e) in
      g.symbols ∙ ap₂ ◌++◌ (ap (fronts t runs block) e) (drop_of_length-le m₀ d) ∙ append-nil (fronts t runs block n) ∙ fronts_messages k block h.block_long

-- ---- spread

-- the first j sections of the block, which was b₀, hold their runs of the message, and zeros
pub record Filling (n t : ℕ) (runs message b₀ : List ℕ) (a done j : ℕ) (b : List ℕ) : Type 0 where
  pub low : j ≤ n
  pub at_is : a ≡ j * t
  pub done_is : done ≡ total runs j
  pub symbols : b ≡ filled t runs message j ++ drop a b₀

module _ {n t : ℕ} {L : Layout} {runs : List ℕ} (h : RunsOf n t L runs) (message : List ℕ) (e : length message ≡ total runs n) where
  length_run : {j : ℕ} → j < n → length (take (get_or runs j 0) (drop (total runs j) message)) ≡ get_or runs j 0
  length_run {j} l = length_part message (total runs j) (get_or runs j 0) (omega (arith, total_within runs l))

  length_filled : (j : ℕ) → j ≤ n → length (filled t runs message j) ≡ j * t
  unfolding filled
  length_filled zero l = omega arith
  length_filled (suc j) l =
      simp (length-append, length_filled j (omega arith), length_run {j = j} l, length-replicate) (omega (arith, runs_short h j))

  -- the run of a section
  filled_run : (i j : ℕ) → i < j → j ≤ n → take (get_or runs i 0) (drop (i * t) (filled t runs message j)) ≡ take (get_or runs i 0) (drop (total runs i) message)
  unfolding filled
  filled_run i zero l k = absurd (omega arith)
  filled_run i (suc j) l k =
      let f = filled t runs message j in
      let x = take (get_or runs j 0) (drop (total runs j) message) in
      let z : List ℕ = replicate (t - get_or runs j 0) 0 in
      let len = length_filled j (omega arith) in
      by_cases (ℕ_discrete i j)
      (λ q. rw (q, drop_at f (x ++ z) (j * t) len) (take_at x z (get_or runs j 0) (length_run {j = j} k)))
      (λ q. let o : i < j = omega arith in
      let a = section_start t o in
      rw (drop-append-le (i * t) f (x ++ z) (omega arith), take-append-le (get_or runs i 0) (drop (i * t) f) (x ++ z) (rw length-drop (omega (arith, runs_short h i))))
      (filled_run i j o (omega arith)))

  fronts_filled : (j : ℕ) → j ≤ n → fronts t runs (filled t runs message n) j ≡ take (total runs j) message
  unfolding fronts total
  fronts_filled zero l = refl
  fronts_filled (suc j) l =
      ap₂ ◌++◌ (fronts_filled j (omega arith)) (filled_run j n l (omega arith)) ∙ sym (take-add (total runs j) (get_or runs j 0) message)

  -- past its run a section holds zeros
  filled_blank : (j c : ℕ) → j ≤ n → c / t < j → get_or runs (c / t) 0 ≤ c % t → get_or (filled t runs message j) c 0 ≡ 0
  unfolding filled
  filled_blank zero c k l o = absurd (omega arith)
  filled_blank (suc j) c k l o =
      let f = filled t runs message j in
      let x = take (get_or runs j 0) (drop (total runs j) message) in
      let z : List ℕ = replicate (t - get_or runs j 0) 0 in
      let len = length_filled j (omega arith) in
      by_cases (ℕ_discrete (c / t) j)
      (λ q. let o' : get_or runs j 0 ≤ c % t = rw (← q) o in
      let a : c ≡ length f + (length x + (c % t - get_or runs j 0)) = omega (arith, parts_place t c q, length_run {j = j} k) in
      ap (λ y. get_or (f ++ (x ++ z)) y 0) a ∙ get_or-append-add f (x ++ z) (length x + (c % t - get_or runs j 0)) 0
      ∙ get_or-append-add x z (c % t - get_or runs j 0) 0 ∙ zeros_at (t - get_or runs j 0) (c % t - get_or runs j 0))
      (λ q. let o' : c / t < j = omega arith in
      get_or-append f (x ++ z) 0 c (omega (arith, (div-lt_iff_lt-mul {x = c} {y = j} (runs_positive h)).0 o')) ∙ filled_blank j c (omega arith) o' o)

-- the full sections filled at once
pub filling_full : {n t : ℕ} {runs message b₀ x b : List ℕ} {k : ℕ} → Full n t runs k → x ≡ take (k * t) message → b ≡ x ++ drop (k * t) b₀
    → Filling n t runs message b₀ (k * t) (k * t) k b
filling_full {t = t} {runs} {message} {b₀} {k = k} F hx hb = record {
  low = F.most;
  at_is = refl;
  done_is = sym (total_full t runs k F.whole);
  symbols = hb ∙ ap (λ y. y ++ drop (k * t) b₀) (hx ∙ sym (filled_full t runs message k F.whole));
}

module _ {n t : ℕ} {runs b₀ message : List ℕ} (h : Lent n t runs b₀ message) where
  pub whole_message : length message ≡ total runs n
  whole_message = h.message_long ∙ sym (total_count h.of)

  pub filling_long : {a done j : ℕ} {b : List ℕ} → Filling n t runs message b₀ a done j b → length b ≡ length b₀
  filling_long {a} {done} {j} f =
      let e = length_filled h.of message whole_message j f.low in
      ap length f.symbols ∙ (simp (length-append, length-drop, e) (omega (arith, f.at_is, h.block_long, mul-le-mul_right t f.low)))

  -- the parts of a turn lie within
  pub filling_room : {a done j : ℕ} {b : List ℕ} → Filling n t runs message b₀ a done j b → j < n
      → (a + t ≤ length b) × (get_or runs j 0 ≤ t) × (done + get_or runs j 0 ≤ length message)
  filling_room {j = j} f l = (
    omega (arith, f.at_is, section_start t l, h.block_long, filling_long f),
    runs_short h.of j,
    omega (arith, f.done_is, room h.of l, h.message_long),
  )

  pub filling_more : {a done j e next stop : ℕ} {b x z b' b'' : List ℕ} → Filling n t runs message b₀ a done j b → j < n
      → e ≡ a + get_or runs j 0 → next ≡ done + get_or runs j 0 → stop ≡ a + t → x ≡ take (next - done) (drop done message)
      → b' ≡ take a b ++ (x ++ drop (e - a) (drop a b)) → z ≡ replicate (length (take (stop - e) (drop e b'))) 0
      → b'' ≡ take e b' ++ (z ++ drop (stop - e) (drop e b'))
      → Filling n t runs message b₀ ((j + 1) * t) next (j + 1) b''
  unfolding filled
  filling_more {a} {done} {j} {e} {next} {stop} {b} {x} {z} {b'} f l he hn hs hx hb hz hb' =
      let r = runs_short h.of j in
      let w = whole_message in
      let y = take (get_or runs j 0) (drop (total runs j) message) in
      let p = filled t runs message j in
      let len = length_filled h.of message w j f.low in
      let size : next - done ≡ get_or runs j 0 = omega arith in
      let hx' : x ≡ y = hx ∙ ap₂ (λ u v. take u (drop v message)) size f.done_is in
      let lx : length x ≡ get_or runs j 0 = ap length hx' ∙ length_run h.of message w l in
      let one : b' ≡ (p ++ x) ++ drop e b₀ =
      hb ∙ part_write p x b₀ {a = a} {e = e} {w = b} f.symbols (len ∙ sym f.at_is) (omega arith) in
      let lp : length (p ++ x) ≡ e = rw length-append (omega (arith, len, lx, f.at_is)) in
      let long : length b' ≡ length b₀ = omega (arith, ap length one, length-append (p ++ x) (drop e b₀), length-drop e b₀, f.at_is, section_start t l, h.block_long) in
      let left : length (take (stop - e) (drop e b')) ≡ t - get_or runs j 0
      = length_part b' e (stop - e) (omega (arith, f.at_is, section_start t l, h.block_long)) ∙ omega arith in
      let hz' : z ≡ replicate (t - get_or runs j 0) 0 = hz ∙ ap (λ u. replicate u 0) left in
      let start : stop ≡ (j + 1) * t = omega (arith, f.at_is) in
      record {
        low = omega arith;
        at_is = refl;
        done_is = hn ∙ ap (λ u. u + get_or runs j 0) f.done_is ∙ sym (total_more runs j) ∙ ap (total runs) (sym (add-one j));
        symbols = hb' ∙ part_write (p ++ x) z b₀ {a = e} {e = stop} {w = b'} one lp (omega arith)
            ∙ ap₂ (λ u v. u ++ drop v b₀) (append_assoc p x z ∙ ap₂ (λ u v. p ++ (u ++ v)) hx' hz' ∙ ap (filled t runs message) (sym (add-one j))) start;
      }

  pub filling_end : {a done j : ℕ} {b : List ℕ} → Filling n t runs message b₀ a done j b → n ≤ j → (K : Layout) → RunsOf n t K runs → Spread K message b
  filling_end {a} {done} {j} {b} f l K k =
      let w = whole_message in
      let e : j ≡ n = omega (arith, f.low) in
      let d : length b₀ ≤ a = omega (arith, h.block_long, f.at_is ∙ ap (λ i. i * t) e) in
      let q : b ≡ filled t runs message n =
      f.symbols ∙ ap₂ ◌++◌ (ap (filled t runs message) e) (drop_of_length-le b₀ d) ∙ append-nil (filled t runs message n) in
      let long : length b ≡ n * t = filling_long f ∙ h.block_long in
      record {
        whole = rw (k.n_is, k.t_is) long;
        carried = sym (fronts_messages k b long) ∙ ap (λ u. fronts t runs u n) q ∙ fronts_filled h.of message w n (omega arith)
            ∙ take_all (total runs n) message (omega arith);
        blank = λ c m. let s = parity_section k m in
            ap (λ u. get_or u c 0) q ∙ filled_blank h.of message w n c (omega arith) s ((parity_offset k s).0 m);
      }
