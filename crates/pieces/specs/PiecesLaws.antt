-- Pieces are put one after the other.
-- Main results: appends_both, appends_byte, appends_digits, appends_part, appends_entry, fields_append, fields_one, fields_length.
use Rattle.std.specs.Prelude.{◌≡◌, refl, List, [], ◌∷◌, ◌++◌, ℕ, suc, ◌+◌, ◌*◌, ◌≤◌, ◌<◌, length, get_or, take, drop, set}
use Rattle.std.proofs.Common.{sym, ◌∙◌, ap, subst, append-nil, append_assoc, add-zero, add_assoc, add-one, arith, length-append, length-set, length-take, length-drop, take-suc, take-suc-set, drop-set-lt, drop-drop}
use Rattle.std.proofs.lemmas.Slice.{take-put_mid, drop-put_mid}
use borrow.Rule.Slice.PartMut.{put_mid}
use Rattle.io.specs.Digits.{last_digits}
use Rattle.pieces.specs.Pieces.{width_from, decimal, fields, Appends}
use Rattle.pieces.specs.DecimalLaws.{length_decimal_5, length_decimal_is, decimal_is}

-- ---- pieces

pub appends_none : (l : List ℕ) (at : ℕ) → Appends l at [] l at
appends_none l at = record { text_stands = sym (append-nil (take at l)); past = sym (add-zero at); long = refl; rest = refl }

-- what is kept from x on is kept from any later index on
pub kept_on : (x m : ℕ) (l' l : List ℕ) → drop x l' ≡ drop x l → drop (x + m) l' ≡ drop (x + m) l
kept_on x m l' l e = sym (drop-drop m x l') ∙ ap (drop m) e ∙ drop-drop m x l

pub appends_both : {l l' l'' : List ℕ} {at x y : ℕ} {s t : List ℕ} → Appends l at s l' x → Appends l' x t l'' y → Appends l at (s ++ t) l'' y
appends_both {l} {l'} {l''} {at} {x} {y} {s} {t} a b =
    record {
      text_stands = b.text_stands ∙ ap (λ u. u ++ t) a.text_stands ∙ append_assoc (take at l) s t;
      past = b.past ∙ ap (λ u. u + length t) a.past ∙ add_assoc at (length s) (length t) ∙ ap (λ u. at + u) (sym (length-append s t));
      long = b.long ∙ a.long;
      rest = b.rest ∙ subst (λ u. drop u l' ≡ drop u l) (sym b.past) (kept_on x (length t) l' l a.rest);
    }

-- a text from the front on is no longer than the buffer
pub appends_within : {l l' t : List ℕ} {y : ℕ} → Appends l 0 t l' y → y ≤ length l'
appends_within {l} {l'} {t} {y} a = omega (arith, length-take y l', ap length a.text_stands, a.past)

pub appends_byte : (l : List ℕ) (at v : ℕ) → at < length l → Appends l at (v ∷ []) (set l at v) (at + 1)
appends_byte l at v h =
    record {
      text_stands = rw (add-one at) (take-suc-set l at v h);
      past = refl;
      long = length-set l at v;
      rest = drop-set-lt (at + 1) l at v (omega arith);
    }

-- the k digits
pub appends_digits : (l l' : List ℕ) (from n k : ℕ) → k ≡ width_from 20 1 n → take (from + k) l' ≡ take from l ++ last_digits 10 k n → length l' ≡ length l →
    drop (from + k) l' ≡ drop (from + k) l → Appends l from (decimal n) l' (from + k)
appends_digits l l' from n k e t long rest =
    record {
      text_stands = t ∙ ap (λ x. take from l ++ x) (sym (decimal_is n k (sym e)));
      past = ap (λ x. from + x) (e ∙ sym (length_decimal_is n));
      long = long;
      rest = rest;
    }

-- ---- fields

pub fields_append : (ns ms : List ℕ) → fields (ns ++ ms) ≡ fields ns ++ fields ms
unfolding fields
fields_append [] ms = refl
fields_append (n ∷ ns) ms = ap (λ x. (32 ∷ decimal n) ++ x) (fields_append ns ms) ∙ sym (append_assoc (32 ∷ decimal n) (fields ns) (fields ms))

pub fields_one : (n : ℕ) → fields (n ∷ []) ≡ 32 ∷ decimal n
unfolding fields
fields_one n = append-nil (32 ∷ decimal n)

-- one more entry of a list
pub fields_take : (list : List ℕ) (i : ℕ) → i < length list → fields (take (i + 1) list) ≡ fields (take i list) ++ (32 ∷ decimal (get_or list i 0))
fields_take list i h =
    ap fields (ap (λ j. take j list) (add-one i) ∙ take-suc list i 0 h)
    ∙ fields_append (take i list) (get_or list i 0 ∷ [])
    ∙ ap (λ x. fields (take i list) ++ x) (fields_one (get_or list i 0))

-- ---- a whole word, one more entry of a list

-- what is copied into a part of the buffer is put there
pub appends_part : (l word : List ℕ) (at k : ℕ) {part : List ℕ} → part ≡ word → k ≡ length word → at + length word ≤ length l →
    Appends l at word (put_mid at k l part) (at + length word)
appends_part l word at k e n h =
    rw e
    (record {
      text_stands = take-put_mid at k l word (at + length word) refl (omega arith);
      past = refl;
      long = simp (length-append, length-take, length-drop) (omega arith);
      rest = drop-put_mid at k l word (at + length word) (omega arith) (omega arith) (omega arith);
    })

pub appends_entry : (list : List ℕ) (i : ℕ) {l l' l'' : List ℕ} {at x y : ℕ} → i < length list → Appends l at (fields (take i list)) l' x →
    Appends l' x (32 ∷ decimal (get_or list i 0)) l'' y → Appends l at (fields (take (i + 1) list)) l'' y
appends_entry list i {l} {l'} {l''} {at} {x} {y} h a b = subst (λ t. Appends l at t l'' y) (sym (fields_take list i h)) (appends_both a b)

-- ---- lengths

pub fields_length : (ns : List ℕ) → ((i : ℕ) → get_or ns i 0 < 100000) → length (fields ns) ≤ 6 * length ns
unfolding fields
fields_length [] h = omega arith
fields_length (n ∷ ns) h =
    let p : length (fields ns) ≤ 6 * length ns = fields_length ns (λ i. h (suc i)) in
    let q : length (decimal n) ≤ 5 = length_decimal_5 n (h 0) in
    simp length-append (omega arith)
