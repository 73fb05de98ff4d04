-- A walk over the places that goes back by some places. Main results: goes_start, goes_more, goes_end.
use Rattle.std.specs.Prelude.{◌≡◌, ℕ, zero, suc, ◌+◌, ◌-◌, ◌*◌, ◌≤◌, ◌<◌}
use Rattle.std.proofs.Common.{zero-mul, suc-mul, arith}
use Rattle.tables.specs.Spots.{Stands}

-- a place past what the offset holds is in a section past the first
pub section_pos : (t c j k : ℕ) → c ≡ j * t + k → k < c → 1 ≤ j
section_pos t c zero k e h = let z : 0 * t ≡ 0 = zero-mul t in absurd (omega arith)
section_pos t c (suc j) k e h = omega arith

-- the same place from one section less
pub section_back : (t c j k : ℕ) → c ≡ j * t + k → k < c → c ≡ (j - 1) * t + (k + t)
section_back t c zero k e h = let z : 0 * t ≡ 0 = zero-mul t in absurd (omega arith)
section_back t c (suc j) k e h = let q : suc j - 1 ≡ j = omega arith in rw q (omega (arith, suc-mul j t))

-- on the way back by m places: the place is still j × t + k, and k is below t + m
pub record Goes (t c m j k : ℕ) : Type 0 where
  pub whole : c ≡ j * t + k
  pub near : k < t + m
  pub far : m ≤ c
  pub some : 1 ≤ t

pub goes_start : {t c j k : ℕ} (m : ℕ) → Stands t c j k → m ≤ c → Goes t c m j k
goes_start m s h = record { whole = s.whole; near = omega (arith, s.within); far = h; some = omega (arith, s.within) }

pub goes_pos : {t c m j k : ℕ} → Goes t c m j k → k < m → 1 ≤ j
goes_pos {t} {c} {m} {j} {k} g h = section_pos t c j k g.whole (omega (arith, g.far))

pub goes_more : {t c m j k : ℕ} → Goes t c m j k → k < m → Goes t c m (j - 1) (k + t)
goes_more {t} {c} {m} {j} {k} g h = record {
  whole = section_back t c j k g.whole (omega (arith, g.far));
  near = omega arith;
  far = g.far;
  some = g.some;
}

pub goes_end : {t c m j k : ℕ} → Goes t c m j k → m ≤ k → Stands t (c - m) j (k - m)
goes_end g h = record { whole = omega (arith, g.whole); within = omega (arith, g.near) }
