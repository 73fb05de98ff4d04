-- Commands performed one after another: put together, and that they are the next ones of the job.
-- Main results: performed_one, performed_both, performed_inside, performed_more, performed_begins, performed_further.
use Rattle.std.specs.Prelude.{◌≡◌, refl, List, [], ◌++◌, ℕ, ◌+◌, ◌≤◌, length, get_or, drop, Ok}
use Rattle.std.proofs.Common.{sym, ◌∙◌, ap, subst, append_assoc, append-nil, add_assoc, arith, length-drop, drop-drop}
use Rattle.std.proofs.Math.ListN.{get_or-append}
use Rattle.std.proofs.lemmas.List.{drop-append-le}
use Rattle.commands.specs.Commands.{size_of, parsed}
use Rattle.commands.specs.declared.Command.{Command}
use Rattle.commands.specs.declared.Parsed.TheVariants.{Whole}
use Rattle.state.specs.Refusing.{refusal_of}
use Rattle.act.specs.Acts.{state_of, Kept, Acts, Held}
use Rattle.act.proofs.ActsOnce.{acts_once}
use Rattle.one_sheet.specs.ParsedLaws.{zero_one, whole_size, whole_command, parsed_prefix}
use Rattle.one_sheet.specs.Begins.{Begins, one_more}
use Rattle.one_sheet.specs.Performed.{Performed, none, first}

-- one command, of this size
pub performed_one : {b : List ℕ} {h : Held} {v m : List ℕ} {at : ℕ} {h' : Held} {v' m' : List ℕ} {text : List ℕ} (c : Command) (size : ℕ) →
    parsed (drop at b) ≡ Whole c → refusal_of (state_of h v m) c ≡ Ok tt → Acts c h v m text h' v' m' → size ≡ size_of (get_or (drop at b) 0 0) →
    Performed b h v m at text h' v' m' (at + size)
performed_one {b} {h} {v} {m} {at} {h'} {v'} {m'} {text} c size e z a s =
    subst (λ k. Performed b h v m at text h' v' m' (at + k)) (sym s)
    (subst (λ x. Performed b h v m at x h' v' m' (at + size_of (get_or (drop at b) 0 0))) (append-nil text) (first c text [] h' v' m' e z a none))

pub performed_both : {b : List ℕ} {h : Held} {v m : List ℕ} {at : ℕ} {h' : Held} {v' m' : List ℕ} {at' : ℕ} {h'' : Held} {v'' m'' : List ℕ} {at'' : ℕ} {text rest : List ℕ} →
    Performed b h v m at text h' v' m' at' → Performed b h' v' m' at' rest h'' v'' m'' at'' → Performed b h v m at (text ++ rest) h'' v'' m'' at''
performed_both none q = q
performed_both {b} {h} {v} {m} {at} {h'' = h''} {v''} {m''} {at''} {rest = rest} (first c t u g w k e z a p) q =
    subst (λ x. Performed b h v m at x h'' v'' m'' at'') (sym (append_assoc t u rest)) (first c t (u ++ rest) g w k e z a (performed_both p q))

pub performed_inside : {b : List ℕ} {h : Held} {v m : List ℕ} {at : ℕ} {h' : Held} {v' m' : List ℕ} {at' : ℕ} {text : List ℕ} →
    Performed b h v m at text h' v' m' at' → at ≤ length b → (at ≤ at') × (at' ≤ length b)
performed_inside none l = (omega arith, l)
performed_inside {b} {at = at} (first c t u g w k e z a p) l =
    let s = whole_size (drop at b) c e in
    let d = length-drop at b in
    let r = performed_inside p (omega arith) in
    (omega arith, r.1)

-- more bytes behind them change nothing
pub performed_more : {b : List ℕ} {h : Held} {v m : List ℕ} {at : ℕ} {h' : Held} {v' m' : List ℕ} {at' : ℕ} {text : List ℕ} (z : List ℕ) →
    Performed b h v m at text h' v' m' at' → at ≤ length b → Performed (b ++ z) h v m at text h' v' m' at'
performed_more z none l = none
performed_more {b} {at = at} {h'} {v'} {m'} {at'} z (first c t u g w k e x a p) l =
    let y = whole_size (drop at b) c e in
    let d = length-drop at b in
    let cut : drop at (b ++ z) ≡ drop at b ++ z = drop-append-le at b z l in
    let same : get_or (drop at (b ++ z)) 0 0 ≡ get_or (drop at b) 0 0 = ap (λ q. get_or q 0 0) cut ∙ get_or-append (drop at b) z 0 0 (omega arith) in
    let whole : parsed (drop at (b ++ z)) ≡ Whole c = ap parsed cut ∙ parsed_prefix (drop at b) z (λ q. zero_one (cc)) (λ q. zero_one (cc)) ∙ e in
    first c t u g w k whole x a (subst (λ q. Performed (b ++ z) g w k (at + size_of q) u h' v' m' at') (sym same) (performed_more z p (omega arith)))

-- commands performed one after another are the next ones of the job
pub performed_begins : {job b : List ℕ} (base : ℕ) → drop base job ≡ b → {h : Held} {v m : List ℕ} {at : ℕ} {text : List ℕ} {h' : Held} {v' m' : List ℕ} {at' : ℕ} {before : List ℕ} →
    Begins job (base + at) (state_of h v m) before → Performed b h v m at text h' v' m' at' → Begins job (base + at') (state_of h' v' m') (before ++ text)
performed_begins {job} base e {h} {v} {m} {at} {before = before} g none = subst (Begins job (base + at) (state_of h v m)) (sym (append-nil before)) g
performed_begins {job} {b} base e {h} {v} {m} {at} {h' = h'} {v'} {m'} {at'} {before} g (first c t u k w n p z a f) =
    let size = size_of (get_or (drop at b) 0 0) in
    let here : drop (base + at) job ≡ drop at b = sym (drop-drop at base job) ∙ ap (drop at) e in
    let whole : parsed (drop (base + at) job) ≡ Whole c = ap parsed here ∙ p in
    let next : Begins job (base + at + size) (state_of k w n) (before ++ t) =
    subst (λ q. Begins job (base + at + size_of (get_or q 0 0)) (state_of k w n) (before ++ t)) here (one_more g c (state_of k w n) t whole z a.means) in
    subst (Begins job (base + at') (state_of h' v' m')) (append_assoc before t u)
    (performed_begins base e (subst (λ q. Begins job q (state_of k w n) (before ++ t)) (add_assoc base at size) next) f)

-- commands performed from one start up to two indices: those up to the higher one are those up to the lower one, and go on from there
pub performed_further : {b : List ℕ} {h : Held} {v m : List ℕ} {at : ℕ} {text : List ℕ} {h' : Held} {v' m' : List ℕ} {at' : ℕ} {more : List ℕ} {g : Held} {w n : List ℕ} {to : ℕ} →
    Kept h v m → at ≤ length b → at' ≤ to → Performed b h v m at text h' v' m' at' → Performed b h v m at more g w n to →
    (rest : List ℕ) × (more ≡ text ++ rest) × Performed b h' v' m' at' rest g w n to
performed_further {more = more} kept l d none q = (more, refl, q)
performed_further {b} {at = at} kept l d (first c t u k x y e z a p) none =
    let s = whole_size (drop at b) c e in
    let f = length-drop at b in
    let r = performed_inside p (omega arith) in
    absurd (omega (arith, r.0))
performed_further {b} {h} {v} {m} {at} {g = g} {w} {n} {to} kept l d (first c t u k x y e z a p) (first c₂ t₂ u₂ k₂ x₂ y₂ e₂ z₂ a₂ p₂) =
    let s = whole_size (drop at b) c e in
    let f = length-drop at b in
    let next = at + size_of (get_or (drop at b) 0 0) in
    let same : c₂ ≡ c = whole_command (drop at b) c₂ e₂ ∙ sym (whole_command (drop at b) c e) in
    let o = acts_once c kept z (subst (λ (j : Command). Acts j h v m t₂ k₂ x₂ y₂) same a₂) a in
    let there : Performed b k x y next u₂ g w n to =
    subst (λ (j : Held). Performed b j x y next u₂ g w n to) o.0 (subst (λ j. Performed b k₂ j y next u₂ g w n to) o.1 (subst (λ j. Performed b k₂ x₂ j next u₂ g w n to) o.2 p₂)) in
    let r = performed_further a.kept (omega arith) d p there in
    (r.0, ap (λ j. j ++ u₂) o.3 ∙ ap (λ j. t ++ j) r.1 ∙ sym (append_assoc t u r.0), r.2)
