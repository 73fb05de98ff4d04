-- A run of marks set or cleared gives one list: bytes are fixed by their bits.
-- Main result: marked_once.
use Rattle.std.specs.Prelude.{◌≡◌, List, ℕ, ◌+◌}
use Rattle.std.proofs.Common.{sym, ◌∙◌, inl, inr, arith}
use Rattle.std.proofs.Math.Logic.{by_cases}
use Rattle.std.proofs.Math.Decide.{dec_lt}
use Rattle.code.proofs.Laws.MarksLaws.{same_marks}
use Rattle.bits.specs.Bits.{Marked}

-- "mark m places from c": the marks after it are one list
pub marked_once : {m x y : List ℕ} {c k b : ℕ} → Marked m c k b x → Marked m c k b y → x ≡ y
marked_once {m} {x} {y} {c} {k} p q =
    same_marks x y (p.long ∙ sym q.long) p.bytes q.bytes
    (λ d _. by_cases (dec_lt d c)
    (λ l. p.others d (inl l) ∙ sym (q.others d (inl l)))
    (λ g. by_cases (dec_lt d (c + k))
    (λ l. p.these d (omega arith) l ∙ sym (q.these d (omega arith) l))
    (λ n. p.others d (inr (omega arith)) ∙ sym (q.others d (inr (omega arith))))))
