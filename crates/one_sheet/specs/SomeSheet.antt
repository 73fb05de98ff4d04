-- Every job has a sheet: each command that is not refused has a meaning on every state that a job can be in.
-- Main definitions: Sound, Ready. Main results: means_some, some_sheet, sheet_single.
use Rattle.plan.specs.Plans.{plan_in, with_shift, layout_of, plan_check}
use Rattle.plan.proofs.PlanLaws.{answer_good, good_valid}
use Rattle.refusals.specs.declared.Refusal.{Refusal}
use Rattle.std.specs.Prelude.{◌≡◌, Bool, true, false, cond, List, [], ◌∷◌, ◌++◌, map, ℕ, zero, suc, ◌+◌, ◌*◌, ◌≤◌, ◌<◌, eqb, length, get_or, set, drop, replicate, Ok, Result}
use Rattle.std.proofs.Math.Path.{refl}
use Rattle.std.proofs.Common.{sym, ◌∙◌, subst, arith, length-set, length-drop, get_or-drop}
use Rattle.std.proofs.Math.Logic.{by_cases}
use Rattle.std.proofs.lemmas.List.{length-map, length-replicate}
use Rattle.refusals.proofs.RefusalLaws.{dec_pass}
use Rattle.plan.specs.Layout.{layout}
use Rattle.plan.specs.declared.Plan.{Plan}
use Rattle.code.specs.Codewords.{at, Single}
use Rattle.code.specs.Marks.{mark_bytes, erasures}
use Rattle.code.proofs.Laws.Carrying.{carried_some}
use Rattle.code.proofs.Laws.MarksLaws.{erasures_erased}
use Rattle.code.specs.Laws.ParityCount.{messages}
use Rattle.code.proofs.Laws.ParityCount.{message_lists}
use Rattle.code.proofs.Theorems.{fetch_list_some}
use Rattle.promises.proofs.Building.{map_bytes}
use Rattle.answers.specs.declared.Recovery.{Recovery}
use Rattle.answers.specs.declared.Recovery.TheVariants as recovery
use Rattle.commands.specs.Commands.{size_of, one, command_of, parsed}
use Rattle.commands.specs.declared.Command.{Command}
use Rattle.commands.specs.declared.Command.TheVariants.{NewPlan, SetShift, SetSymbol, MarkOne, MarkRun, Recover, Seal, Show, Figures, Straight, Powers, Ruler, Fetch}
use Rattle.commands.specs.declared.Parsed.{Parsed}
use Rattle.commands.specs.declared.Parsed.TheVariants.{Whole, Unknown, Short, Nothing}
use Rattle.lines.specs.Lines.{line, end_word, sealed_word, symbol_word, figures_word, fetch_word}
use Rattle.state.specs.State.{State, fresh, with_plan, with_block}
use Rattle.bits.specs.Bits.{Marked}
use Rattle.state.specs.Refusing.{refusal_of}
use Rattle.bits.specs.MarkedLaws.{Bytes, bytes_set}
use Rattle.act.specs.Meaning.{Means}
use Rattle.act.specs.Acts.{Makes}
use Rattle.act.proofs.ActLaws.{blank_makes, straight_makes, powers_makes, ruler_makes}
use Rattle.act.proofs.MeaningOnce.{Standing, means_stands}
use Rattle.act.proofs.RecoveringLaws.{recovery_line, recovery_state, recovering_by}
use Rattle.act.proofs.StateLaws.{place_inside, mark_inside, run_inside, shift_inside, recover_planned, seal_planned, figures_planned, fetch_planned}
use Rattle.turns.specs.Sheets as sheets
use Rattle.turns.specs.Sheets.{Sheet, start}
use Rattle.one_sheet.specs.OneSheet.{one_sheet}
use Rattle.one_sheet.specs.ParsedLaws.{zero_one, nothing_empty, whole_size, whole_command}
use Rattle.one_sheet.specs.SomeFigures.{figures_some}
use Rattle.one_sheet.specs.SomeRecovery.{decides_some, marked_some, cleared_some}

-- a good plan with a block and marks of its lengths, all bytes
pub record Sound (s : State) : Type 0 where
  pub good : plan_check s.plan ≡ Ok tt
  pub block_long : length s.block ≡ s.plan.n * s.plan.t
  pub symbols : Bytes s.block
  pub marks_long : length s.marks ≡ mark_bytes (layout_of s.plan)
  pub mark_bytes_lem : Bytes s.marks

-- a state that a job can be in: where a plan is held, it is sound
pub record Ready (s : State) : Type 0 where
  pub sound : s.planned ≡ true → Sound s

ready_stands : {s : State} → Ready s → Standing s
ready_stands k = record { good = λ p. (k.sound p).good }

-- some state after it and some text, and the state is ready again
pub record Some (c : Command) (s : State) : Type 0 where
  pub state : State
  pub text : List ℕ
  pub means : Means c s state text
  pub ready : Ready state

zeros : (k : ℕ) → Bytes (replicate k 0)
zeros zero i = omega arith
zeros (suc k) zero = omega arith
zeros (suc k) (suc i) = zeros k i

fresh_ready : (p : Plan) → plan_check p ≡ Ok tt → Ready (fresh p)
unfolding fresh
fresh_ready p g = record {
  sound = λ _. record {
    good = g;
    block_long = length-replicate (p.n * p.t) 0;
    symbols = zeros (p.n * p.t);
    marks_long = length-replicate (mark_bytes (layout_of p)) 0;
    mark_bytes_lem = zeros (mark_bytes (layout_of p));
  };
}

block_ready : {s : State} (v m : List ℕ) → Sound s → length v ≡ s.plan.n * s.plan.t → Bytes v → length m ≡ mark_bytes (layout_of s.plan) → Bytes m → Ready (with_block s v m)
unfolding with_block
block_ready v m k a b d e = record { sound = λ _. record { good = k.good; block_long = a; symbols = b; marks_long = d; mark_bytes_lem = e } }

cleared_ready : {s : State} (v : List ℕ) → Sound s → length v ≡ s.plan.n * s.plan.t → Bytes v → Ready (with_block s v (replicate (mark_bytes (layout_of s.plan)) 0))
cleared_ready {s} v k a b = block_ready v _ k a b (length-replicate (mark_bytes (layout_of s.plan)) 0) (zeros (mark_bytes (layout_of s.plan)))

-- a plan that is made
new_some : {s : State} {c : Command} {x : Result Plan Refusal} → Makes c x → refusal_of s c ≡ Ok tt → Some c s
new_some {s} {c} {x} k e = record { state = fresh (plan_in x); text = []; means = k.means s _ refl; ready = fresh_ready (plan_in x) (answer_good x k.good (sym (k.refusal s) ∙ e)) }

-- the bits of the plan's places fit its mark bytes
bits_fit : {s : State} → Sound s → s.plan.n * s.plan.t ≤ 8 * length s.marks
unfolding mark_bytes layout_of layout
bits_fit k = omega (arith, k.marks_long)

block_places : {s : State} → Sound s → length s.block ≡ (layout_of s.plan).n * (layout_of s.plan).t
unfolding layout_of layout
block_places k = k.block_long

places_block : (p : Plan) (v : List ℕ) → length v ≡ (layout_of p).n * (layout_of p).t → length v ≡ p.n * p.t
unfolding layout_of layout
places_block p v e = e

-- what recovery leaves is ready: the block that it found, or everything as it was
recovered_ready : {s : State} → Sound s → (r : Recovery) (v : List ℕ) → length v ≡ s.plan.n * s.plan.t → Bytes v → Ready (recovery_state s r v)
recovered_ready k recovery.Recovered v l w = cleared_ready v k l w
recovered_ready k (recovery.Loose z) v l w = record { sound = λ _. k }
recovered_ready k (recovery.Crossed z) v l w = record { sound = λ _. k }
recovered_ready k (recovery.Refused x) v l w = record { sound = λ _. k }

recover_some : {s : State} → Sound s → Some Recover s
unfolding Means
recover_some {s} k =
    let L = layout_of s.plan in
    let d = decides_some L (good_valid s.plan k.good) (erasures_erased L s.marks) s.block (block_places k) k.symbols in
    record {
      state = recovery_state s d.0 d.1;
      text = recovery_line s d.0 d.2;
      means = recovering_by d.3.0 refl refl;
      ready = recovered_ready k d.0 d.1 (places_block s.plan d.1 d.3.1.0) d.3.1.1;
    }

seal_some : {s : State} → Sound s → Some Seal s
unfolding Means
seal_some {s} k =
    let L = layout_of s.plan in
    let ok = good_valid s.plan k.good in
    let r = carried_some L ok (map (at s.block) (messages L)) (length-map (messages L) (at s.block)) (map_bytes s.block k.symbols (messages L)) in
    record {
      state = with_block s r.0 (replicate (mark_bytes L) 0);
      text = line sealed_word (length (messages L) ∷ []);
      means = record { places = messages L; message_places = message_lists L ok; block = r.0; carries = r.1; state = refl; says = refl };
      ready = cleared_ready r.0 k (places_block s.plan r.0 r.1.codeword.whole) r.1.codeword.symbols;
    }

figure_some : {s : State} → Sound s → Some Figures s
unfolding Means
figure_some {s} k =
    let f = figures_some s.plan k.good in
    record {
      state = s;
      text = line figures_word (f.0 ∷ f.1 ∷ f.2 ∷ f.3 ∷ []);
      means = record { parity = f.0; pair = f.1; neighbour = f.2; distance = f.3; figures = f.4; state = refl; says = refl };
      ready = record { sound = λ _. k };
    }

list_some : {s : State} → Sound s → Some Fetch s
unfolding Means
list_some {s} k =
    let L = layout_of s.plan in
    let f = fetch_list_some L (good_valid s.plan k.good) (erasures L s.marks) (erasures_erased L s.marks) in
    record {
      state = s;
      text = line fetch_word (length f.0 ∷ f.0);
      means = record { list = f.0; fetch = f.1; stays = refl; says = refl };
      ready = record { sound = λ _. k };
    }

mark_some : {s : State} (c : Command) (v : List ℕ) → Sound s → length v ≡ s.plan.n * s.plan.t → Bytes v → {m' : List ℕ} {a n b : ℕ} → (d : Marked s.marks a n b m') →
    Means c s (with_block s v m') [] → Some c s
mark_some {s} c v k l w {m'} d m = record { state = with_block s v m'; text = []; means = m; ready = block_ready v m' k l w (d.long ∙ k.marks_long) d.bytes }

-- the symbol that a command gives is a byte
abbrev pub symbol_of : Command → ℕ
symbol_of (NewPlan n t) = 0
symbol_of (SetShift j p) = 0
symbol_of (SetSymbol c v) = v
symbol_of (MarkOne c) = 0
symbol_of (MarkRun c m) = 0
symbol_of Recover = 0
symbol_of Seal = 0
symbol_of (Show c) = 0
symbol_of Figures = 0
symbol_of (Straight n t) = 0
symbol_of (Powers n t q) = 0
symbol_of (Ruler n) = 0
symbol_of Fetch = 0

-- a command that is not refused has a meaning
pub means_some : {s : State} → Ready s → (c : Command) → symbol_of c < 256 → refusal_of s c ≡ Ok tt → Some c s
unfolding Means with_plan with_shift
means_some {s} k (NewPlan n t) b e = new_some (blank_makes n t) e
means_some {s} k (SetShift j p) b e =
    let i = shift_inside s j p e in
    let d = k.sound i.0 in
    let after = means_stands {s' = with_plan s (with_shift s.plan j p)} [] (ready_stands k) (SetShift j p) e (refl, refl) in
    record {
      state = with_plan s (with_shift s.plan j p);
      text = [];
      means = (refl, refl);
      ready = record {
        sound = λ _. record {
          good = after.good refl;
          block_long = d.block_long;
          symbols = d.symbols;
          marks_long = d.marks_long ∙ same_bytes s.plan j p;
          mark_bytes_lem = d.mark_bytes_lem;
        };
      };
    }
  where
    same_bytes : (q : Plan) (j p : ℕ) → mark_bytes (layout_of q) ≡ mark_bytes (layout_of (with_shift q j p))
    same_bytes q j p = unfold mark_bytes layout_of layout with_shift in refl
means_some {s} k (SetSymbol c v) b e =
    let i = place_inside s c v e in
    let d = k.sound i.0 in
    let m = cleared_some s.marks c d.mark_bytes_lem (omega (arith, i.1, bits_fit d)) in
    mark_some (SetSymbol c v) (set s.block c v) d (length-set s.block c v ∙ d.block_long) (bytes_set s.block c v d.symbols b) m.1
    (record { marks = m.0; marked = m.1; state = refl }, refl)
means_some {s} k (MarkOne c) b e =
    let i = mark_inside s c e in
    let d = k.sound i.0 in
    let m = marked_some s.marks c 1 d.mark_bytes_lem (omega (arith, i.1, bits_fit d)) in
    mark_some (MarkOne c) s.block d d.block_long d.symbols m.1 (record { marks = m.0; marked = m.1; state = refl }, refl)
means_some {s} k (MarkRun c n) b e =
    let i = run_inside s c n e in
    let d = k.sound i.0 in
    let m = marked_some s.marks c n d.mark_bytes_lem (omega (arith, i.1, bits_fit d)) in
    mark_some (MarkRun c n) s.block d d.block_long d.symbols m.1 (record { marks = m.0; marked = m.1; state = refl }, refl)
means_some {s} k Recover b e = recover_some (k.sound (recover_planned s e))
means_some {s} k Seal b e = seal_some (k.sound (seal_planned s e))
means_some {s} k (Show c) b e = record { state = s; text = line symbol_word (c ∷ at s.block c ∷ []); means = (refl, refl); ready = k }
means_some {s} k Figures b e = figure_some (k.sound (figures_planned s e))
means_some {s} k (Straight n t) b e = new_some (straight_makes n t) e
means_some {s} k (Powers n t q) b e = new_some (powers_makes n t q) e
means_some {s} k (Ruler n) b e = new_some (ruler_makes n) e
means_some {s} k Fetch b e = list_some (k.sound (fetch_planned s e))

-- the symbol that a command read from bytes gives is a byte
record Small (c : Command) : Type 0 where
  small : symbol_of c < 256

pick : (p : Bool) {x y : Command} → Small x → Small y → Small (cond p x y)
pick true h g = h
pick false h g = g

command_small : (b : List ℕ) → Bytes b → Small (command_of b)
unfolding command_of
command_small b h =
    pick (eqb (one b 0) 0x01) (record { small = omega arith })
    (pick (eqb (one b 0) 0x02) (record { small = omega arith })
    (pick (eqb (one b 0) 0x03) (record { small = h 3 })
    (pick (eqb (one b 0) 0x04) (record { small = omega arith })
    (pick (eqb (one b 0) 0x05) (record { small = omega arith })
    (pick (eqb (one b 0) 0x06) (record { small = omega arith })
    (pick (eqb (one b 0) 0x07) (record { small = omega arith })
    (pick (eqb (one b 0) 0x08) (record { small = omega arith })
    (pick (eqb (one b 0) 0x09) (record { small = omega arith })
    (pick (eqb (one b 0) 0x0A) (record { small = omega arith })
    (pick (eqb (one b 0) 0x0B) (record { small = omega arith })
    (pick (eqb (one b 0) 0x0C) (record { small = omega arith }) (record { small = omega arith }))))))))))))

bytes_drop : (k : ℕ) (b : List ℕ) → Bytes b → Bytes (drop k b)
bytes_drop k b h i = rw (get_or-drop k b i 0) (h (k + i))

step : (n : ℕ) → ((o : ℕ) (s : State) (b : List ℕ) → Ready s → Bytes b → length b < n → (x : List ℕ) × Sheet o s b x) →
    (o : ℕ) (s : State) (b : List ℕ) → Ready s → Bytes b → length b < suc n → (x : List ℕ) × Sheet o s b x
step n ih o s b k w less = go (parsed b) refl
  where
    go : (p : Parsed) → parsed b ≡ p → (x : List ℕ) × Sheet o s b x
    go Nothing e = (line end_word [], subst (λ y. Sheet o s y (line end_word [])) (sym (nothing_empty b e)) sheets.ends)
    go Unknown e = (_, sheets.unknown e)
    go Short e = (_, sheets.short e)
    go (Whole c) e =
        by_cases (dec_pass (refusal_of s c))
        (λ z.
        let f = whole_size b c e in
        let m = means_some k c (subst (λ (y : Command). symbol_of y < 256) (sym (whole_command b c e)) (command_small b w).small) z in
        let size = size_of (get_or b 0 0) in
        let r = ih (o + size) m.state (drop size b) m.ready (bytes_drop size b w) (omega (arith, f, length-drop size b)) in
        (m.text ++ r.0, sheets.goes_on m.state m.text r.0 c e z m.means r.1))
        (λ q. (_, sheets.refused c e q))

-- a sheet of every byte list from every state that a job can be in
sheet_some : (n o : ℕ) (s : State) (b : List ℕ) → Ready s → Bytes b → length b < n → (x : List ℕ) × Sheet o s b x
sheet_some zero o s b k w less = absurd (omega arith)
sheet_some (suc n) o s b k w less = step n (sheet_some n) o s b k w less

start_ready : Ready start
unfolding start
start_ready = record { sound = λ e. absurd (zero_one (cc)) }

-- every job has a sheet
pub some_sheet : (b : List ℕ) → Bytes b → (x : List ℕ) × Sheet 0 start b x
some_sheet b w = sheet_some (suc (length b)) 0 start b start_ready w (omega arith)

-- every job has exactly one sheet
pub sheet_single : (b : List ℕ) → Bytes b → Single (Sheet 0 start b)
sheet_single b w = let s = some_sheet b w in record { one = s.0; has = s.1; only_one = λ x q. one_sheet q s.1 }
