-- What stands at the front of bytes, taken apart; and that more bytes behind a whole command change nothing.
-- Main results: nothing_empty, whole_size, whole_command, short_long, parsed_prefix.
use Rattle.std.specs.Prelude.{◌≡◌, refl, ◌≢◌, Bool, true, false, cond, List, [], ◌∷◌, ◌++◌, ℕ, ◌≤◌, ◌<◌, eqb, ltb, length, get_or}
use Rattle.std.proofs.Common.{sym, ◌∙◌, ap, arith, length-append, ltb-true, ltb-false, le-ltb}
use Rattle.std.proofs.lemmas.Bool.{eqb-false}
use Rattle.commands.specs.Commands.{size_of, command_of, parsed}
use Rattle.commands.specs.CommandLaws.{command_prefix}
use Rattle.commands.specs.declared.Command.{Command}
use Rattle.commands.specs.declared.Parsed.TheVariants.{Whole, Unknown, Short, Nothing}

-- what different answers come to
pub zero_one : ◌≡◌ {A = ℕ} 0 1 → ⊥
zero_one e = omega arith

-- the tests of a first byte x with bytes b behind it
parsed_is : (x : ℕ) (b : List ℕ) → parsed (x ∷ b) ≡ cond (eqb (size_of x) 0) Unknown (cond (ltb (length (x ∷ b)) (size_of x)) Short (Whole (command_of (x ∷ b))))
unfolding parsed
parsed_is x b = refl

not_nothing : (p q : Bool) (c : Command) → cond p Unknown (cond q Short (Whole c)) ≡ Nothing → ⊥
not_nothing true q c e = zero_one (cc)
not_nothing false true c e = zero_one (cc)
not_nothing false false c e = zero_one (cc)

is_whole : (p q : Bool) (d : Command) {c : Command} → cond p Unknown (cond q Short (Whole d)) ≡ Whole c → (p ≡ false) × (q ≡ false) × (c ≡ d)
is_whole true q d e = absurd (zero_one (cc))
is_whole false true d e = absurd (zero_one (cc))
is_whole false false d e = (refl, refl, cc)

is_short : (p q : Bool) (d : Command) → cond p Unknown (cond q Short (Whole d)) ≡ Short → q ≡ true
is_short true q d e = absurd (zero_one (cc))
is_short false true d e = refl
is_short false false d e = absurd (zero_one (cc))

pub none : parsed [] ≡ Nothing
unfolding parsed
none = refl

pub nothing_empty : (b : List ℕ) → parsed b ≡ Nothing → b ≡ []
nothing_empty [] e = refl
nothing_empty (x ∷ b) e = absurd (not_nothing (eqb (size_of x) 0) (ltb (length (x ∷ b)) (size_of x)) (command_of (x ∷ b)) (sym (parsed_is x b) ∙ e))

pub whole_size : (b : List ℕ) (c : Command) → parsed b ≡ Whole c → (0 < size_of (get_or b 0 0)) × (size_of (get_or b 0 0) ≤ length b)
whole_size [] c e = absurd (zero_one (let q = none in cc))
whole_size (x ∷ b) c e =
    let r = is_whole (eqb (size_of x) 0) (ltb (length (x ∷ b)) (size_of x)) (command_of (x ∷ b)) (sym (parsed_is x b) ∙ e) in
    let n : size_of x ≡ 0 → ⊥ = eqb-false (size_of x) 0 r.0 in
    let l : size_of x ≤ length (x ∷ b) = ltb-false (length (x ∷ b)) (size_of x) r.1 in
    (omega arith, l)

pub whole_command : (b : List ℕ) (c : Command) → parsed b ≡ Whole c → c ≡ command_of b
whole_command [] c e = absurd (zero_one (let q = none in cc))
whole_command (x ∷ b) c e = (is_whole (eqb (size_of x) 0) (ltb (length (x ∷ b)) (size_of x)) (command_of (x ∷ b)) (sym (parsed_is x b) ∙ e)).2

pub short_long : (b : List ℕ) → parsed b ≡ Short → (0 < length b) × (length b < size_of (get_or b 0 0))
short_long [] e = absurd (zero_one (let q = none in cc))
short_long (x ∷ b) e =
    let r = is_short (eqb (size_of x) 0) (ltb (length (x ∷ b)) (size_of x)) (command_of (x ∷ b)) (sym (parsed_is x b) ∙ e) in
    (omega arith, ltb-true (length (x ∷ b)) (size_of x) r)

pub parsed_prefix : (a b : List ℕ) → parsed a ≢ Nothing → parsed a ≢ Short → parsed (a ++ b) ≡ parsed a
parsed_prefix [] b n s = absurd (n none)
parsed_prefix (x ∷ a) b n s = parsed_is x (a ++ b) ∙ go (eqb (size_of x) 0) (ltb (length (x ∷ a)) (size_of x)) refl refl ∙ sym (parsed_is x a)
  where
    go : (p q : Bool) → eqb (size_of x) 0 ≡ p → ltb (length (x ∷ a)) (size_of x) ≡ q →
        cond (eqb (size_of x) 0) Unknown (cond (ltb (length (x ∷ (a ++ b))) (size_of x)) Short (Whole (command_of (x ∷ (a ++ b)))))
        ≡ cond (eqb (size_of x) 0) Unknown (cond (ltb (length (x ∷ a)) (size_of x)) Short (Whole (command_of (x ∷ a))))
    go true q e f = rw e
    go false true e f = absurd (s (parsed_is x a ∙ rw (e, f)))
    go false false e f =
        let z : size_of x ≡ 0 → ⊥ = eqb-false (size_of x) 0 e in
        let l : size_of x ≤ length (x ∷ a) = ltb-false (length (x ∷ a)) (size_of x) f in
        let w : size_of x ≤ length (x ∷ (a ++ b)) = omega (arith, length-append a b) in
        rw (e, f, le-ltb (length (x ∷ (a ++ b))) (size_of x) w) (ap Whole (command_prefix (x ∷ a) b (omega arith) l))
