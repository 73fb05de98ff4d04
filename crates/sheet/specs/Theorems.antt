-- Whole jobs: a job has exactly one sheet, what run writes is that sheet, and reading in parts of any size means the same. Each theorem has one sentence.
-- Main results: job_sheet; run_writes, run_short, run_exactly; parts_sheet, sheet_parts, parts_same; prefix_performs.
use Rattle.std.specs.Prelude.{◌≡◌, refl, ◌↔◌, ◌⊎◌, Bool, false, List, [], ◌++◌, ℕ, ◌≤◌, ◌<◌, length, get_or, take, drop, Result, Ok, Err}
use Rattle.std.proofs.Common.{sym, ◌∙◌, ap, subst, inl, inr, ⊎_elim, arith, take-append-drop, length-take-le}
use Rattle.refusals.proofs.RefusalLaws.{stop_or_pass}
use Rattle.code.specs.Codewords.{Single}
use Rattle.act.specs.Acts.{Held}
use Rattle.standing.specs.Standing.{held_check}
use Rattle.turns.specs.Turns.{Same}
use Rattle.turns.specs.declared.Turn.{Turn}
use Rattle.turns.specs.declared.Turn.TheVariants.{Wait}
use Rattle.job.specs.Performs.{Performs}
use Rattle.turns.specs.Sheets.{Sheet, start}
use Rattle.one_sheet.specs.OneSheet.{one_sheet}
use Rattle.sheet.specs.Running.{Runs, written}
use Rattle.sheet.specs.BeginsLaws.{cut_sheet}
use Rattle.one_sheet.specs.SomeSheet.{sheet_single}
use Rattle.one_sheet.specs.Parts.{joined, Fed, fed_sheet, sheet_fed, prefix_turns}
use Rattle.sheet.specs.declared.Full.{Full}

-- a job, a list of bytes, has exactly one sheet
pub job_sheet : (job : List ℕ) → ((i : ℕ) → get_or job i 0 < 256) → Single (Sheet 0 start job)
job_sheet = sheet_single

whole_long : {job sheet : List ℕ} {r : Result ℕ Full} {sheet' x : List ℕ} → Runs job sheet r sheet' → Sheet 0 start job x → (k : ℕ) → r ≡ Ok k → (take k sheet' ≡ x) × (k ≡ length x) × (k ≤ length sheet)
whole_long {job} {sheet} {r} {sheet'} {x} p s k e =
    let same : take k sheet' ≡ x = one_sheet (p.whole k e) s in
    let within : k ≤ length sheet = subst (λ (y : Result ℕ Full). written y ≤ length sheet) e p.within in
    let long : length (take k sheet') ≡ k = length-take-le k sheet' (omega (arith, p.long)) in
    (same, sym long ∙ ap length same, within)

-- where the lent sheet is long enough for the job's sheet, run writes that sheet at its front, answers its length, and keeps what stands past it
pub run_writes : {job sheet : List ℕ} {r : Result ℕ Full} {sheet' x : List ℕ} → Runs job sheet r sheet' → Sheet 0 start job x → length x ≤ length sheet →
    (r ≡ Ok (length x)) × (sheet' ≡ x ++ drop (length x) sheet)
run_writes {job} {sheet} {r} {sheet'} {x} p s fits = go r refl
  where
    go : (y : Result ℕ Full) → r ≡ y → (r ≡ Ok (length x)) × (sheet' ≡ x ++ drop (length x) sheet)
    go (Ok k) e =
        let w = whole_long p s k e in
        let past : drop k sheet' ≡ drop k sheet = subst (λ (y : Result ℕ Full). drop (written y) sheet' ≡ drop (written y) sheet) e p.rest in (
          e ∙ ap Ok w.1,
          sym (take-append-drop k sheet') ∙ ap (λ y. y ++ drop k sheet') w.0 ∙ ap (λ y. x ++ y) past ∙ ap (λ n. x ++ drop n sheet) w.1,
        )
    go (Err f) e = let q = (cut_sheet (p.full f e) s).0 in absurd (omega arith)

-- where it is too short, run answers with the error Full, and the lines that it writes are the first of the job's sheet
pub run_short : {job sheet : List ℕ} {r : Result ℕ Full} {sheet' x : List ℕ} → Runs job sheet r sheet' → Sheet 0 start job x → length sheet < length x →
    (f : Full) × (r ≡ Err f) × (take f.written sheet' ≡ take f.written x)
run_short {job} {sheet} {r} {sheet'} {x} p s short = go r refl
  where
    go : (y : Result ℕ Full) → r ≡ y → (f : Full) × (r ≡ Err f) × (take f.written sheet' ≡ take f.written x)
    go (Ok k) e = let w = whole_long p s k e in absurd (omega (arith, w.1, w.2))
    go (Err f) e =
        let k = f.written in
        let within : k ≤ length sheet = subst (λ (y : Result ℕ Full). written y ≤ length sheet) e p.within in
        let long : length (take k sheet') ≡ k = length-take-le k sheet' (omega (arith, p.long)) in
        let q : take (length (take k sheet')) x ≡ take k sheet' = (cut_sheet (p.full f e) s).1 in
        (f, e, sym q ∙ ap (λ n. take n x) long)

-- run answers Ok exactly where the job's sheet fits the lent one
pub run_exactly : {job sheet : List ℕ} {r : Result ℕ Full} {sheet' x : List ℕ} → Runs job sheet r sheet' → Sheet 0 start job x → ((k : ℕ) × (r ≡ Ok k)) ↔ (length x ≤ length sheet)
run_exactly {x = x} p s = (λ w. let l = whole_long p s w.0 w.1 in omega (arith, l.1, l.2), λ h. (length x, (run_writes p s h).0))

-- however the job is cut, its lines are the sheet of the whole
pub parts_sheet : {parts : List (List ℕ)} {text : List ℕ} → Fed 0 start [] parts text → Sheet 0 start (joined parts) text
parts_sheet f = fed_sheet f

-- and the sheet of the whole comes of every cut
pub sheet_parts : (parts : List (List ℕ)) {text : List ℕ} → Sheet 0 start (joined parts) text → Fed 0 start [] parts text
sheet_parts parts s = sheet_fed [] parts s

-- reading in parts of any size means the same
pub parts_same : {parts other : List (List ℕ)} {x y : List ℕ} → joined parts ≡ joined other → Fed 0 start [] parts x → Fed 0 start [] other y → x ≡ y
parts_same {parts} {other} {x} {y} e f g = one_sheet (fed_sheet f) (subst (λ b. Sheet 0 start b y) (sym e) (fed_sheet g))

zero_one : ◌≡◌ {A = ℕ} 0 1 → ⊥
zero_one e = omega arith

module _ {h : Held} {v m l a : List ℕ} {o : ℕ} {turn : Turn} {h' : Held} {v' m' l' : List ℕ} where
  -- perform with more bytes to come waits, or answers exactly what it answers on all the bytes
  pub prefix_performs : Performs h v m l a false o turn h' v' m' l' →
      ((turn ≡ Wait) × Same h v m h' v' m' × (l' ≡ l)) ⊎ ((b : List ℕ) (last : Bool) → Performs h v m l (a ++ b) last o turn h' v' m' l')
  prefix_performs p =
      ⊎_elim
      (λ pass. ⊎_elim (λ w. inl w) (λ w. inr (λ b last. record { bad = λ x q. absurd (zero_one (cc)); passed = λ _. w b last })) (prefix_turns (p.passed pass)))
      (λ s. inr (λ b last. record { bad = p.bad; passed = λ q. let e = s.1 in absurd (zero_one (cc)) }))
      (stop_or_pass (held_check h v m l))
