-- The cases of reading a command as laws.
-- Main results: is_set_symbol, is_mark_one, is_mark_run, is_show, nothing, unknown, short, whole, size_most, command_prefix.
use Rattle.std.specs.Prelude.{◌≡◌, refl, Bool, true, false, cond, List, [], ◌∷◌, ◌++◌, ℕ, ◌≤◌, ◌<◌, eqb, get_or}
use Rattle.std.proofs.Math.Path.{sym}
use Rattle.std.proofs.Common.{◌∙◌, subst, arith}
use Rattle.std.proofs.Math.ListN.{length, get_or-append}
use borrow.Author.Tests.{lt-ltb, le-ltb, ne_eqb, eqb-true}
use Rattle.commands.specs.Commands.{size_of, longest, one, two, command_of, parsed}
use Rattle.commands.specs.declared.Command.{Command}
use Rattle.commands.specs.declared.Command.TheVariants.{SetSymbol, MarkOne, MarkRun, Show}
use Rattle.commands.specs.declared.Parsed.TheVariants.{Whole, Unknown, Short, Nothing}

-- four of the commands by their first byte b, with their operands
module _ (s : List ℕ) {b : ℕ} (first : b ≡ one s 0) where
  pub is_set_symbol : {c v : ℕ} → b ≡ 0x03 → c ≡ two s 1 → v ≡ one s 3 → SetSymbol c v ≡ command_of s
  unfolding command_of
  is_set_symbol h p0 p1 = simp (p0, p1, sym first ∙ h)

  pub is_mark_one : {c : ℕ} → b ≡ 0x04 → c ≡ two s 1 → MarkOne c ≡ command_of s
  unfolding command_of
  is_mark_one h p0 = simp (p0, sym first ∙ h)

  pub is_mark_run : {c m : ℕ} → b ≡ 0x05 → c ≡ two s 1 → m ≡ two s 3 → MarkRun c m ≡ command_of s
  unfolding command_of
  is_mark_run h p0 p1 = simp (p0, p1, sym first ∙ h)

  pub is_show : {c : ℕ} → b ≡ 0x08 → c ≡ two s 1 → Show c ≡ command_of s
  unfolding command_of
  is_show h p0 = simp (p0, sym first ∙ h)

-- what stands at the front of the bytes, by the size z that the first byte says
pub nothing : (s : List ℕ) → length s ≡ 0 → Nothing ≡ parsed s
unfolding parsed
nothing [] e = refl
nothing (b ∷ s) e = absurd (omega arith)

pub unknown : (s : List ℕ) {z : ℕ} → (length s ≡ 0 → ⊥) → z ≡ size_of (one s 0) → z ≡ 0 → Unknown ≡ parsed s
unfolding parsed
unknown [] n e f = absurd (n refl)
unknown (b ∷ s) n e f = simp (sym e ∙ f)

pub short : (s : List ℕ) {z : ℕ} → (length s ≡ 0 → ⊥) → z ≡ size_of (one s 0) → (z ≡ 0 → ⊥) → length s < z → Short ≡ parsed s
unfolding parsed
short [] n e f h = absurd (n refl)
short (b ∷ s) {z} n e f h = simp (← e, ne_eqb z 0 f, lt-ltb (length (b ∷ s)) z h)

pub whole : (s : List ℕ) {z : ℕ} {k : Command} → (length s ≡ 0 → ⊥) → z ≡ size_of (one s 0) → (z ≡ 0 → ⊥) → z ≤ length s → k ≡ command_of s → Whole k ≡ parsed s
unfolding parsed
whole [] n e f h p = absurd (n refl)
whole (b ∷ s) {z} n e f h p = simp (p, ← e, ne_eqb z 0 f, le-ltb (length (b ∷ s)) z h)

-- the longest command
pub size_most : (b : ℕ) → size_of b ≤ longest
unfolding size_of
size_most b = go (eqb b 0x01) (eqb b 0x02) (eqb b 0x03) (eqb b 0x04) (eqb b 0x05) (eqb b 0x06) (eqb b 0x07) (eqb b 0x08) (eqb b 0x09) (eqb b 0x0A) (eqb b 0x0B) (eqb b 0x0C) (eqb b 0x0D)
  where
    either : (p : Bool) {x y : ℕ} → x ≤ 6 → y ≤ 6 → cond p x y ≤ 6
    either true f g = f
    either false f g = g

    go : (a b c d e f g h i j k l m : Bool) → cond a 4 (cond b 4 (cond c 4 (cond d 3 (cond e 5 (cond f 1 (cond g 1 (cond h 3 (cond i 1 (cond j 4 (cond k 6 (cond l 2 (cond m 1 0)))))))))))) ≤ 6
    go a b c d e f g h i j k l m =
        either a (omega arith) (either b (omega arith) (either c (omega arith) (either d (omega arith) (either e (omega arith) (either f (omega arith) (either g (omega arith) (either h (omega arith) (either i (omega arith)
        (either j (omega arith) (either k (omega arith) (either l (omega arith) (either m (omega arith) (omega arith)))))))))))))

-- a command is read from its own bytes only
operand : (a b : List ℕ) (i : ℕ) → i < length a → get_or (a ++ b) i 0 ≡ get_or a i 0
operand a b i h = get_or-append a b 0 i h

pick : (p : Bool) {u v u' v' : Command} → (p ≡ true → u ≡ u') → (p ≡ false → v ≡ v') → cond p u v ≡ cond p u' v'
pick true f g = f refl
pick false f g = g refl

module _ (a b : List ℕ) (some : 0 < size_of (get_or a 0 0)) (h : size_of (get_or a 0 0) ≤ length a) where
  long : (k : ℕ) → eqb (get_or a 0 0) k ≡ true → size_of k ≤ length a
  long k e = subst (λ x. size_of x ≤ length a) (eqb-true (get_or a 0 0) k e) h

  pub command_prefix : command_of (a ++ b) ≡ command_of a
  unfolding command_of size_of
  command_prefix =
      rw (operand a b 0 (omega arith))
      (pick (eqb (get_or a 0 0) 0x01) (λ e. let l : 4 ≤ length a = long 0x01 e in rw (operand a b 1 (omega arith), operand a b 2 (omega arith), operand a b 3 (omega arith))) (λ e1.
      (pick (eqb (get_or a 0 0) 0x02) (λ e. let l : 4 ≤ length a = long 0x02 e in rw (operand a b 1 (omega arith), operand a b 2 (omega arith), operand a b 3 (omega arith))) (λ e2.
      (pick (eqb (get_or a 0 0) 0x03) (λ e. let l : 4 ≤ length a = long 0x03 e in rw (operand a b 1 (omega arith), operand a b 2 (omega arith), operand a b 3 (omega arith))) (λ e3.
      (pick (eqb (get_or a 0 0) 0x04) (λ e. let l : 3 ≤ length a = long 0x04 e in rw (operand a b 1 (omega arith), operand a b 2 (omega arith))) (λ e4.
      (pick (eqb (get_or a 0 0) 0x05) (λ e. let l : 5 ≤ length a = long 0x05 e in rw (operand a b 1 (omega arith), operand a b 2 (omega arith), operand a b 3 (omega arith), operand a b 4 (omega arith))) (λ e5.
      (pick (eqb (get_or a 0 0) 0x06) (λ e. refl) (λ e6.
      (pick (eqb (get_or a 0 0) 0x07) (λ e. refl) (λ e7.
      (pick (eqb (get_or a 0 0) 0x08) (λ e. let l : 3 ≤ length a = long 0x08 e in rw (operand a b 1 (omega arith), operand a b 2 (omega arith))) (λ e8.
      (pick (eqb (get_or a 0 0) 0x09) (λ e. refl) (λ e9.
      (pick (eqb (get_or a 0 0) 0x0A) (λ e. let l : 4 ≤ length a = long 0x0A e in rw (operand a b 1 (omega arith), operand a b 2 (omega arith), operand a b 3 (omega arith))) (λ e10.
      (pick (eqb (get_or a 0 0) 0x0B) (λ e. let l : 6 ≤ length a = long 0x0B e in rw (operand a b 1 (omega arith), operand a b 2 (omega arith), operand a b 3 (omega arith), operand a b 4 (omega arith), operand a b 5 (omega arith))) (λ e11.
      (pick (eqb (get_or a 0 0) 0x0C) (λ e. let l : 2 ≤ length a = long 0x0C e in rw (operand a b 1 (omega arith))) (λ e12. refl))))))))))))))))))))))))
