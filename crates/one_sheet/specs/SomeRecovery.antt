-- Every block with erasures is decided, and every run of marks can be set: what recovery and marking leave exists.
-- Main results: highest-cycle, decides_some, marked_some, cleared_some.
use Rattle.std.specs.Prelude.{◌≡◌, refl, List, ℕ, zero, suc, ◌+◌, ◌*◌, ◌≤◌, ◌<◌, length, replicate}
use Rattle.std.proofs.Common.{subst, ⊎_elim, add-one, arith}
use Rattle.std.proofs.Math.Logic.{by_cases}
use Rattle.std.proofs.Math.Decide.{dec_le}
use Rattle.math.specs.Padded.{padded}
use Rattle.plan.specs.Layout.{Layout, Valid}
use Rattle.code.specs.Codewords.{at}
use Rattle.code.specs.Cycles.{Cycle}
use Rattle.code.proofs.Theorems.{forest_or_cycle, forest_no_cycle, decide}
use Rattle.code.specs.Laws.Forest.{Erased, above}
use Rattle.code.proofs.Laws.Basics.{places_∈}
use Rattle.code.proofs.Laws.CycleLaws.{cycle_mono}
use Rattle.code.proofs.Laws.Paths.{∈_above, above_∈, erased_above}
use Rattle.promises.specs.Promises.{Decides}
use Rattle.promises.proofs.Building.{decides_recovered, decides_loose, decides_crossed}
use Rattle.answers.specs.declared.Recovery.{Recovery}
use Rattle.answers.specs.declared.Recovery.TheVariants.{Recovered, Crossed, Loose}
use Rattle.bits.specs.Bits.{Marked}
use Rattle.bits.specs.MarkedLaws.{Bytes, marked_none, marked_both, marked_set, marked_clear}

-- ---- recovery

module _ (L : Layout) (ok : Valid L) {E : List ℕ} (er : Erased L E) where
  first_inside : {l : List ℕ} → Cycle L E l → at l 0 < L.n * L.t
  first_inside c = (places_∈ L (er.inside _ (c.inside 0 (omega (arith, c.even, c.least))))).0

  -- a cycle whose lowest place is above c is a cycle of the places above c
  cycle_above : {c : ℕ} {k : List ℕ} → Cycle L E k → c < at k 0 → Cycle L (above c E) k
  cycle_above {c} {k} y h = record {
    half = y.half;
    even = y.even;
    least = y.least;
    inside = λ i l. ∈_above (y.inside i l) (omega (arith, y.lowest i l));
    distinct = y.distinct;
    share_top = y.share_top;
    share_bottom = y.share_bottom;
    close = y.close;
    tops_once = y.tops_once;
    bottoms_once = y.bottoms_once;
    lowest = y.lowest;
  }

  -- from any cycle to the one whose lowest place is highest
  higher : (n : ℕ) (l : List ℕ) → Cycle L E l → L.n * L.t ≤ at l 0 + n → (m : List ℕ) × Cycle L E m × ((k : List ℕ) → Cycle L E k → at k 0 ≤ at m 0)
  higher zero l y h = absurd (omega (arith, first_inside y))
  higher (suc n) l y h =
      ⊎_elim
      (λ f. (l, y, λ k c. by_cases (dec_le (at k 0) (at l 0)) (λ q. q) (λ q. absurd (forest_no_cycle L ok (above (at l 0) E) (erased_above (at l 0) er) f k (cycle_above c (omega arith))))))
      (λ m.
      let up = (above_∈ (at l 0) E (m.1.inside 0 (omega (arith, m.1.even, m.1.least)))).1 in
      higher n m.0 (cycle_mono (λ c i. (above_∈ (at l 0) E i).0) m.1) (omega arith))
      (forest_or_cycle L ok (above (at l 0) E) (erased_above (at l 0) er))

  pub decides_some : (v : List ℕ) → length v ≡ L.n * L.t → ((c : ℕ) → at v c < 256) →
      (r : Recovery) × (v' : List ℕ) × (w' : List ℕ) × (Decides L E v r v' w' × ((length v' ≡ L.n * L.t) × ((c : ℕ) → at v' c < 256)))
  decides_some v long bytes =
      ⊎_elim
      (λ s. (Recovered, s.one, replicate (2 * L.t) 0, (decides_recovered s.has s.only_one refl, (s.has.codeword.whole, s.has.codeword.symbols))))
      (λ o. ⊎_elim
      (λ t.
      let h = higher (L.n * L.t) t.1.0 t.1.1 (omega arith) in
      (Loose (length h.0), v, padded (2 * L.t) h.0, (decides_loose ok er h.1 h.2 (t.0.one, t.0.has) refl, (long, bytes))))
      (λ n. (Crossed (length n.1.0), v, padded (2 * L.t) n.1.0, (decides_crossed ok er n.1.1 refl, (long, bytes))))
      o)
      (decide L ok E v er long bytes)

-- ---- marks

one_further : {m m' : List ℕ} {c k : ℕ} → Marked m c (k + 1) 1 m' → Marked m c (suc k) 1 m'
one_further {m} {m'} {c} {k} p = subst (λ x. Marked m c x 1 m') (add-one k) p

pub marked_some : (m : List ℕ) (c k : ℕ) → Bytes m → c + k ≤ 8 * length m → (m' : List ℕ) × Marked m c k 1 m'
marked_some m c zero w h = (m, marked_none m c 1 w)
marked_some m c (suc k) w h =
    let r = marked_some m c k w (omega arith) in
    let l = r.1.long in
    let s = marked_set r.0 (c + k) (omega arith) r.1.bytes in
    (_, one_further (marked_both r.1 s refl))

pub cleared_some : (m : List ℕ) (c : ℕ) → Bytes m → c < 8 * length m → (m' : List ℕ) × Marked m c 1 0 m'
cleared_some m c w h = (_, marked_clear m c (omega arith) w)
