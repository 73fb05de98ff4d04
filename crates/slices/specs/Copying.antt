-- Cleared lists.
use Rattle.std.specs.Prelude.{◌≡◌, List, ℕ, replicate}
use Rattle.std.proofs.Common.{◌∙◌, ap}

-- a cleared list of length m
pub cleared : {k m : ℕ} {new : List ℕ} → new ≡ replicate k 0 → k ≡ m → new ≡ replicate m 0
cleared e q = e ∙ ap (λ y. replicate y 0) q
