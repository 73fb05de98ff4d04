-- The rulers of table I of 002 (01, "Families and figures") and the rule that they keep.
use Rattle.std.specs.Prelude.{◌≡◌, ◌≢◌, List, [], ◌∷◌, ℕ, ◌+◌, ◌-◌, ◌%◌, ◌<◌, get_or, drop}

-- Row n - 3 is the ruler of n sections: t, then its n shifts.
unfoldable pub rulers : List (List ℕ)
rulers =
    (7 ∷ 0 ∷ 1 ∷ 3 ∷ [])
    ∷ (13 ∷ 0 ∷ 1 ∷ 3 ∷ 9 ∷ [])
    ∷ (21 ∷ 4 ∷ 0 ∷ 1 ∷ 14 ∷ 16 ∷ [])
    ∷ (31 ∷ 0 ∷ 1 ∷ 3 ∷ 8 ∷ 12 ∷ 18 ∷ [])
    ∷ (48 ∷ 0 ∷ 1 ∷ 3 ∷ 15 ∷ 20 ∷ 38 ∷ 42 ∷ [])
    ∷ (57 ∷ 13 ∷ 36 ∷ 32 ∷ 1 ∷ 3 ∷ 43 ∷ 0 ∷ 52 ∷ [])
    ∷ (73 ∷ 0 ∷ 1 ∷ 3 ∷ 7 ∷ 15 ∷ 31 ∷ 36 ∷ 54 ∷ 63 ∷ [])
    ∷ (91 ∷ 61 ∷ 77 ∷ 81 ∷ 49 ∷ 3 ∷ 9 ∷ 27 ∷ 56 ∷ 1 ∷ 0 ∷ [])
    ∷ (120 ∷ 45 ∷ 58 ∷ 35 ∷ 114 ∷ 1 ∷ 20 ∷ 3 ∷ 74 ∷ 31 ∷ 0 ∷ 53 ∷ [])
    ∷ (133 ∷ 0 ∷ 1 ∷ 3 ∷ 12 ∷ 20 ∷ 38 ∷ 34 ∷ 81 ∷ 94 ∷ 88 ∷ 104 ∷ 109 ∷ [])
    ∷ (168 ∷ 1 ∷ 0 ∷ 121 ∷ 108 ∷ 103 ∷ 30 ∷ 11 ∷ 162 ∷ 83 ∷ 46 ∷ 3 ∷ 34 ∷ 147 ∷ [])
    ∷ (183 ∷ 0 ∷ 1 ∷ 3 ∷ 16 ∷ 23 ∷ 28 ∷ 42 ∷ 76 ∷ 82 ∷ 86 ∷ 119 ∷ 137 ∷ 154 ∷ 175 ∷ [])
    ∷ []

-- "Ruler: n from 3 to 14"
abbrev pub ruler_min : ℕ
ruler_min = 3

abbrev pub ruler_max : ℕ
ruler_max = 14

unfoldable pub ruler_t : ℕ → ℕ
unfolding rulers
ruler_t n = get_or (get_or rulers (n - ruler_min) []) 0 0

unfoldable pub ruler_shifts : ℕ → List ℕ
unfolding rulers
ruler_shifts n = drop 1 (get_or rulers (n - ruler_min) [])

-- "all differences p_i - p_j mod t (i, j distinct) are distinct", for the n shifts p_0 .. p_(n-1)
unfoldable pub RulerRule : ℕ → ℕ → (ℕ → ℕ) → Type 0
RulerRule n t p =
    (i j k l : ℕ) → i < n → j < n → k < n → l < n → i ≢ j → k ≢ l →
    (p i + t - p j) % t ≡ (p k + t - p l) % t → (i ≡ k) × (j ≡ l)
