-- What follows from a fetch list, whatever list it is.
-- Main results: fetch_list_once, fetch_list_none, fetch_bits_once; fetched_never (what is left decides at most one block), fewer_leave (fewer places leave a cycle).
use Rattle.std.specs.Prelude.{◌≡◌, List, [], ℕ, ◌*◌, ◌<◌, length, replicate}
use Rattle.std.proofs.Common.{sym, ◌∙◌, ap, subst, ⊎_elim, arith}
use mathlib.Core.List.Memᴰ
use Rattle.math.specs.Members.{◌∈◌, rising_none}
use Rattle.math.specs.MembersLaws.{rising_ext}
use Rattle.plan.specs.Layout.{Layout, Valid}
use Rattle.code.specs.Codewords.{Agrees, TwoOrMore}
use Rattle.code.specs.Marks.{BitsOf}
use Rattle.code.specs.Cycles.{Cycle}
use Rattle.code.specs.FetchList.{less, FetchList, FetchBits}
use Rattle.code.specs.Laws.Forest.{Erased}
use Rattle.code.proofs.Laws.Labels.{dec_connected}
use Rattle.code.proofs.Laws.MarksLaws.{bits_once}
use Rattle.code.proofs.Laws.CycleLaws.{cycle_mono, two, forest_or_cycle, forest_no_cycle}
use Rattle.code.proofs.Laws.Unique.{forest_unique}
use Rattle.code.proofs.Laws.Closings.{∈_less, erased_less}
use Rattle.code.proofs.Laws.Carrying.{lists_unique}
use Rattle.code.proofs.Laws.Pairs.{zero_agrees}

pub fetch_list_once : {L : Layout} {E F G : List ℕ} → FetchList L E F → FetchList L E G → F ≡ G
fetch_list_once p q = lists_unique p.list q.list

pub fetch_list_none : {L : Layout} {F : List ℕ} → FetchList L [] F → F ≡ []
fetch_list_none p = rising_ext p.list.rising rising_none (λ c m. ((p.list.exact c).0 m).0) (λ c m. absurd (Memᴰ.not-nil m))

pub fetch_bits_once : {L : Layout} {E m l : List ℕ} {k x y : ℕ} → FetchBits L E k m x → FetchBits L E k l y → (m ≡ l) × (x ≡ y)
fetch_bits_once {l} p q =
    let e = fetch_list_once p.fetch q.fetch in
    (bits_once (p.long ∙ sym q.long) p.bits (subst (λ F. BitsOf F l) (sym e) q.bits), p.number ∙ ap length e ∙ sym q.number)

module _ (L : Layout) (ok : Valid L) {E F : List ℕ} (p : FetchList L E F) where
  -- of erasures that the list leaves, at most one codeword agrees
  pub fetched_never : {K : List ℕ} (v : List ℕ) → Erased L K → ((c : ℕ) → c ∈ K → (c ∈ E) × ¬ (c ∈ F)) → ¬ (TwoOrMore (Agrees L K v))
  fetched_never {K} v er inside d =
      let none : (l : List ℕ) → ¬ (Cycle L K l) = λ l c. p.leaves l (cycle_mono (λ x i. let o = inside x i in ∈_less o.0 o.1) c) in
      ⊎_elim
      (λ f. d.differ (forest_unique L ok K v d.one d.other er f d.has d.other_has))
      (λ c. none c.0 c.1)
      (forest_or_cycle L ok (dec_connected L) K er)

  -- fewer places, whichever they are, leave a cycle
  pub fewer_leave : Erased L E → (G : List ℕ) → length G < length F → (l : List ℕ) × Cycle L (less E G) l
  fewer_leave er G h =
      ⊎_elim
      (λ f. absurd (omega (arith, p.fewest G (forest_no_cycle L ok (less E G) (erased_less G er) f))))
      (λ c. c)
      (forest_or_cycle L ok (dec_connected L) (less E G) (erased_less G er))
