-- The bounds of a plan (01, "Plan, place, row"), as the contracts read them. The code's own are the constants of src/, and
-- those of `Plan`; the module `ties` of each crate ties them to the numbers here.
use Rattle.std.specs.Prelude.{Bool, true, ◌&&◌, List, [], ◌∷◌, ℕ, ◌*◌, leb, ltb}

-- "n from 2 to 32, t from 1 to 2,048, n × t at most 32,768"
abbrev pub min_n : ℕ
min_n = 2

abbrev pub max_n : ℕ
max_n = 32

abbrev pub min_t : ℕ
min_t = 1

abbrev pub max_t : ℕ
max_t = 2048

abbrev pub max_places : ℕ
max_places = 32768

-- n, t and n × t are within bounds; otherwise refusal 1, size
unfoldable pub size_fits : ℕ → ℕ → Bool
size_fits n t = leb min_n n && leb n max_n && leb min_t t && leb t max_t && leb (n * t) max_places

-- "each shift below t"; otherwise refusal 2, shift
unfoldable pub all_below : ℕ → List ℕ → Bool
all_below t [] = true
all_below t (p ∷ ps) = ltb p t && all_below t ps
