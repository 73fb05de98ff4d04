-- What the bits of the fetch list say, put into a line, is what 0D means.
-- Main definitions: GoodMarks, Listed. Main results: told_few, told_listed, lent_marks, listed_acts.
use Rattle.refusals.specs.declared.Refusal.{Refusal}
use Rattle.std.specs.Prelude.{is_some, ◌≡◌, true, List, ◌∷◌, ℕ, ◌+◌, ◌*◌, ◌/◌, ◌≤◌, length, take, Ok, Result}
use Rattle.refusals.specs.Refusals.{count_value}
use Rattle.std.proofs.Math.Path.{refl}
use Rattle.std.proofs.Common.{◌∙◌, ap, arith, length-take-le, eq-eqb}
use Rattle.plan.specs.Layout.{layout}
use Rattle.plan.specs.Plans.{layout_of, plan_check}
use Rattle.plan.specs.declared.Plan.{Plan}
use Rattle.code.specs.Marks.{mark_bytes, NoSpare, erasures}
use Rattle.code.specs.FetchList.{FetchList, FetchBits}
use Rattle.code.proofs.Laws.Basics.{places_∈}
use Rattle.code.specs.Laws.MarksLaws.{places_of}
use Rattle.code.proofs.Laws.MarksLaws.{in_erasures, bits_list}
use Rattle.calls.proofs.CallsLaws.{also_passes}
use Rattle.promises.specs.Promises.{Fetches, fetch_check}
use Rattle.promises.proofs.Building.{count_passes}
use Rattle.lines.specs.Lines.{line, fetch_word}
use Rattle.commands.specs.declared.Command.TheVariants.{Fetch}
use Rattle.act.specs.Meaning.{Means}
use Rattle.act.specs.Acts.{state_of, Kept, Acts, Held, held_plan}
use Rattle.act.proofs.StateLaws.{bytes_most}
use Rattle.fetching.specs.Places.{places_few}

-- marks of a good plan's length with no spare bit
pub record GoodMarks (p : Plan) (m : List ℕ) : Type 0 where
  pub good : plan_check p ≡ Ok tt
  pub long : length m ≡ mark_bytes (layout_of p)
  pub spare : NoSpare (layout_of p) m

-- the line of their fetch list
pub record Listed (p : Plan) (m text : List ℕ) : Type 0 where
  pub list : List ℕ
  pub fetch : FetchList (layout_of p) (erasures (layout_of p) m) list
  pub says : text ≡ line fetch_word (length list ∷ list)

module _ {p : Plan} {m : List ℕ} (w : GoodMarks p m) (l : List ℕ) (same : length l ≡ length m) where
  -- nothing refuses them, with a list as long
  fetch_passes : fetch_check p m l ≡ Ok tt
  unfolding fetch_check
  fetch_passes = also_passes (count_passes p m w.good w.long w.spare) (eq-eqb (length l) (mark_bytes (layout_of p)) (same ∙ w.long))

  module _ {r : (Result ℕ Refusal)} {l' : List ℕ} (f : Fetches p m l r l') where
    -- so the answer's count is that of the list
    fetched : FetchBits (layout_of p) (erasures (layout_of p) m) (length m) l' (count_value r)
    fetched = f.listed fetch_passes

    -- and the places of its bits are the list
    fetched_places : places_of l' 0 (p.n * p.t) ≡ fetched.list
    unfolding mark_bytes layout_of layout
    fetched_places =
        bits_list (p.n * p.t) fetched.bits fetched.fetch.list.rising
        (λ c i. (places_∈ (layout_of p) ((in_erasures (layout_of p) m c).0 ((fetched.fetch.list.exact c).0 i).0).0).0)
        (omega (arith, fetched.long, w.long))

    pub told_few : {z : ℕ} → z ≡ count_value r → z ≤ p.n * p.t
    told_few e = omega (arith, fetched.number, ap length fetched_places, places_few l' 0 (p.n * p.t))

    pub told_listed : {z : ℕ} {text : List ℕ} → z ≡ count_value r → text ≡ line fetch_word (z ∷ places_of l' 0 (p.n * p.t)) → Listed p m text
    told_listed e t = record { list = fetched.list; fetch = fetched.fetch; says = t ∙ rw (e, fetched.number, fetched_places) }

-- the state's own marks, lent
pub lent_marks : {h : Held} {v m : List ℕ} → Kept h v m → is_some h ≡ true → GoodMarks (held_plan h) (take (((held_plan h).n * (held_plan h).t + 7) / 8) m)
unfolding mark_bytes layout_of layout NoSpare
lent_marks {h} {v} {m} k planned =
    let g = k.good planned in
    record { good = g; long = length-take-le _ m (omega (arith, bytes_most (held_plan h) g, k.marks_long)); spare = k.spare planned }

pub listed_acts : {h : Held} {v m text : List ℕ} → Kept h v m → Listed (held_plan h) (take (((held_plan h).n * (held_plan h).t + 7) / 8) m) text → Acts Fetch h v m text h v m
unfolding mark_bytes layout_of layout
listed_acts {h} {v} {m} k f =
    record {
      means = unfold Means state_of in record { list = f.list; fetch = f.fetch; stays = refl; says = f.says };
      kept = k;
      rest = record { block = refl; marks = refl };
    }
