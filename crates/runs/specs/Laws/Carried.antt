-- A block that holds a message at its message places: what a codeword carries, and how many symbols that is.
-- Main results: carries_of, carries_agreeing, plan_count.
use Rattle.std.specs.Prelude.{◌≡◌, refl, List, [], ◌∷◌, map, ℕ, length, get_or, Ok}
use Rattle.std.proofs.Common.{sym, ◌∙◌, ap₂, arith}
use mathlib.Core.List.Memᴰ.{head as first}
use mathlib.Core.List.Memᴰ.{tail as later}
use Rattle.math.specs.Members.{◌∈◌}
use Rattle.plan.specs.Layout.{Layout, Valid, layout, message_count}
use Rattle.plan.specs.Plans.{layout_of, plan_check}
use Rattle.plan.proofs.PlanLaws.{good_bounds, good_valid}
use Rattle.plan.specs.declared.Plan.{Plan}
use Rattle.code.specs.Codewords.{Codeword, Agrees}
use Rattle.code.specs.Messages.{Carries}
use Rattle.code.proofs.Laws.Basics.{places_∈}
use Rattle.code.specs.Laws.ParityCount.{parities, messages}
use Rattle.code.proofs.Laws.ParityCount.{parity_lists, message_lists}
use Rattle.runs.specs.Laws.Fronts.{count_messages}

map_same : (f g : ℕ → ℕ) (l : List ℕ) → ((c : ℕ) → c ∈ l → f c ≡ g c) → map f l ≡ map g l
map_same f g [] h = refl
map_same f g (c ∷ cs) h = ap₂ ◌∷◌ (h c (first refl)) (map_same f g cs (λ d m. h d (later m)))

module _ {L : Layout} (ok : Valid L) where
  pub carries_of : {w d : List ℕ} → Codeword L w → map (λ c. get_or w c 0) (messages L) ≡ d → Carries L w d
  carries_of h e = record { codeword = h; where_to = messages L; message_places = message_lists L ok; symbols = sym e }

  -- the codeword that agrees, off the parity places, with a block that holds d carries d
  pub carries_agreeing : {v w d : List ℕ} → Agrees L (parities L) v w → map (λ c. get_or v c 0) (messages L) ≡ d → Carries L w d
  carries_agreeing {v} {w} h e =
      carries_of h.codeword
      (map_same (λ c. get_or w c 0) (λ c. get_or v c 0) (messages L)
      (λ c m. let q = ((message_lists L ok).exact c).0 m in
      h.unmarked c (places_∈ L q.inside).0 (λ p. (((parity_lists L ok).exact c).0 p).lowest_of_none q.lowest_of_some))
      ∙ e)

pub plan_count : (p : Plan) → plan_check p ≡ Ok tt → length (messages (layout_of p)) ≡ message_count (layout_of p)
unfolding layout_of layout
plan_count p h = count_messages (layout_of p) (good_valid p h) refl (omega (arith, (good_bounds p h).n_min))
