-- Lists over their limits, and the texts of a join.
use Rattle.std.proofs.Common.{◌≡◌, ◌≤◌, ◌<◌, ◌+◌, ◌^◌, ℕ, ℤ, pos, negsuc, Bool, true, false, ◌==◌, List, [], ◌∷◌, ◌++◌, length, take, drop, get_or, Result, Ok, Err, IfOk, nat_le, sym, ◌∙◌, ap, refl, subst, arith, append_assoc, length-append}
use Rattle.std.specs.Prelude.{sum_by}
use Rattle.std.specs.List.{slice_split}
use Rattle.std.specs.Fmt.{signed_decimal}
use Rattle.std.specs.Str.Parse.{signed_digits_value}
use Rattle.std.specs.Int.{w64}
use Rattle.std.specs.Int.RustNames.{FitsSigned}
use Rattle.std.proofs.lemmas.Bool.{and_parts, and_from, leb-true, le-leb, lt-leb, eqb-true, ltb-true, lt-ltb, false_from_ne_true, cond-true, cond-false}
use Rattle.std.proofs.lemmas.List.{take_more, take-append-drop}
use Rattle.std.proofs.lemmas.List.Splits.{length-slice_split}
use Rattle.std.proofs.lemmas.Slice.Eq.{bytes_eq-Decides}
use Rattle.std.proofs.lemmas.List.Sums.{sum_by-cons}
use Rattle.std.proofs.lemmas.Fmt.{length_signed_le}
use Rattle.std.proofs.lemmas.Int.{to_z-of_z}
use mir.Val.{to_z, of_z}
use Rattle.tl_types.specs.declared.no_memory.NoMemory.{NoMemory}
use Rattle.tl_eval.specs.declared.fault.Fault.{Fault}
use Rattle.tl_eval.specs.declared.value.Value as held
use Rattle.tl_eval.specs.Held.{answered}
use Rattle.tl_eval.specs.Pieces.{IsOverLimits}
use Rattle.tl_text.specs.Signed.{IsSigned}
use Rattle.tl_lang.specs.Value.{text, number, list, is_text, is_number, is_list, list_within, text_within, too_long, bad_number}
use Rattle.tl_lang.specs.Lists.{joined, without_empty_last}
use Rattle.tl_lang.specs.Texts.{num, str, spells}
use Rattle.tl_lang.proofs.NumberLaws.{num-signed_decimal}

append-none : {A : Type 0} (xs : List A) → xs ++ [] ≡ xs
append-none [] = refl
append-none (x ∷ xs) = ap (λ ys. x ∷ ys) (append-none xs)

-- ---- limits

sum-append : (xs ys : List (List ℕ)) → sum_by length (xs ++ ys) ≡ sum_by length xs + sum_by length ys
sum-append [] ys = omega arith
sum-append (x ∷ xs) ys =
    let whole = sum_by-cons length x (xs ++ ys) in
    let front = sum_by-cons length x xs in
    let rest = sum-append xs ys in
    omega (arith, whole, front, rest)

front_within : (xs ys : List (List ℕ)) → is_list (xs ++ ys) ≡ true → is_list xs ≡ true
front_within xs ys e =
    let parts = and_parts (nat_le (length (xs ++ ys)) 65536) _ e in
    let many = leb-true _ _ parts.0 in
    let long = leb-true _ _ parts.1 in
    and_from (nat_le (length xs) 65536) (nat_le (sum_by length xs) 1048576) (le-leb (length xs) 65536 (omega (arith, many, length-append xs ys))) (le-leb (sum_by length xs) 1048576 (omega (arith, long, sum-append xs ys)))

front_over : (xs ys : List (List ℕ)) → is_list xs ≡ false → is_list (xs ++ ys) ≡ false
front_over xs ys over = false_from_ne_true (is_list (xs ++ ys)) (λ e. let both : true ≡ false = sym (front_within xs ys e) ∙ over in cc)

pub list_over : (texts : List (List ℕ)) → is_list texts ≡ false → Err too_long ≡ list_within texts
list_over texts over = sym (cond-false (is_list texts) (Ok (list texts)) (Err too_long) over)

pub pieces_over : (pieces : List (List ℕ)) → IsOverLimits pieces → Err too_long ≡ list_within pieces
pieces_over pieces h = list_over pieces (ap is_list h.are ∙ front_over h.front (h.next ∷ h.others) h.over)

last_none : (t u : List ℕ) (ts : List (List ℕ)) → without_empty_last (t ∷ u ∷ ts) ≡ t ∷ without_empty_last (u ∷ ts)
last_none [] u ts = refl
last_none (c ∷ t) u ts = refl

last_after : (xs : List (List ℕ)) (y : List ℕ) (ys : List (List ℕ)) → without_empty_last (xs ++ y ∷ ys) ≡ xs ++ without_empty_last (y ∷ ys)
last_after [] y ys = refl
last_after (x ∷ []) y ys = last_none x y ys
last_after (x ∷ z ∷ xs) y ys = last_none x z (xs ++ y ∷ ys) ∙ ap (λ ts. x ∷ ts) (last_after (z ∷ xs) y ys)

pub lines_over : (pieces : List (List ℕ)) → IsOverLimits pieces → Err too_long ≡ list_within (without_empty_last pieces)
lines_over pieces h =
    list_over (without_empty_last pieces) (ap (λ ts. is_list (without_empty_last ts)) h.are ∙ ap is_list (last_after h.front h.next h.others) ∙ front_over h.front _ h.over)

uncons : (ts : List (List ℕ)) → 1 ≤ length ts → (y : List ℕ) × (ys : List (List ℕ)) × (ts ≡ y ∷ ys)
uncons [] some = absurd (omega arith)
uncons (y ∷ ys) some = (y, ys, refl)

-- the pieces before the last are over the limits where one more is
pub over_here : (b : ℕ) (bytes rest after piece : List ℕ) (pieces : List (List ℕ)) (fits : Bool) → slice_split (λ c. c == b) bytes ≡ pieces ++ slice_split (λ c. c == b) rest → slice_split (λ c. c == b) rest ≡ piece ∷ slice_split (λ c. c == b) after → fits ≡ is_list (pieces ++ piece ∷ []) → fits ≡ false → IsOverLimits (slice_split (λ c. c == b) bytes)
over_here b bytes rest after piece pieces fits is front tested over =
    let parts = uncons (slice_split (λ c. c == b) after) (omega (arith, length-slice_split (λ c. c == b) after)) in
    record {
      front = pieces ++ piece ∷ [];
      next = parts.0;
      others = parts.1;
      are = is ∙ ap (λ ts. pieces ++ ts) front ∙ ap (λ ts. pieces ++ piece ∷ ts) parts.2 ∙ sym (append_assoc pieces (piece ∷ []) (parts.0 ∷ parts.1));
      over = sym tested ∙ over;
    }

-- ---- lines

last_is_none : (xs : List (List ℕ)) → without_empty_last (xs ++ [] ∷ []) ≡ xs
last_is_none xs = last_after xs [] [] ∙ append-none xs

pub lines_are_front : (pieces : List (List ℕ)) (whole : List (List ℕ)) (last : List ℕ) → whole ≡ pieces ++ last ∷ [] → last ≡ [] → is_list pieces ≡ true → Ok (list pieces) ≡ list_within (without_empty_last whole)
lines_are_front pieces whole last is empty within =
    sym (cond-true (is_list pieces) (Ok (list pieces)) (Err too_long) within)
    ∙ ap list_within (sym (last_is_none pieces))
    ∙ (λ i. list_within (without_empty_last (pieces ++ sym empty i ∷ [])))
    ∙ (λ i. list_within (without_empty_last (sym is i)))

kept_last : (t : List ℕ) → (t ≡ [] → ⊥) → without_empty_last (t ∷ []) ≡ t ∷ []
kept_last [] some = absurd (some refl)
kept_last (c ∷ t) some = refl

pub lines_are_all : (pieces : List (List ℕ)) (whole : List (List ℕ)) (last : List ℕ) → whole ≡ pieces ++ last ∷ [] → (last ≡ [] → ⊥) → list_within (pieces ++ last ∷ []) ≡ list_within (without_empty_last whole)
lines_are_all pieces whole last is some =
    ap list_within (sym (last_after pieces last [] ∙ ap (λ ts. pieces ++ ts) (kept_last last some)) ∙ ap without_empty_last (sym is))

-- ---- join

joined-push : (s x t : List ℕ) (xs : List (List ℕ)) → joined s (x ∷ (xs ++ t ∷ [])) ≡ joined s (x ∷ xs) ++ (s ++ t)
joined-push s x t [] = refl
joined-push s x t (y ∷ ys) =
    ap (λ rest. x ++ (s ++ rest)) (joined-push s y t ys)
    ∙ ap (λ rest. x ++ rest) (sym (append_assoc s (joined s (y ∷ ys)) (s ++ t)))
    ∙ sym (append_assoc x (s ++ joined s (y ∷ ys)) (s ++ t))

pub joined_more : (s x t : List ℕ) (xs : List (List ℕ)) (i : ℕ) (bytes with_s shown with_t : List ℕ) → t ≡ get_or xs i t → shown ≡ t → i < length xs → bytes ≡ joined s (x ∷ take i xs) → with_s ≡ bytes ++ s → with_t ≡ with_s ++ shown → with_t ≡ joined s (x ∷ take (i + 1) xs)
joined_more s x t xs i bytes with_s shown with_t item shows within so_far first second =
    second ∙ ap (λ ys. with_s ++ ys) shows ∙ ap (λ ys. ys ++ t) first ∙ append_assoc bytes s t ∙ ap (λ ys. ys ++ (s ++ t)) so_far
    ∙ sym (joined-push s x t (take i xs))
    ∙ ap (λ ys. joined s (x ∷ ys)) (ap (λ u. take i xs ++ u ∷ []) item ∙ sym (take_more xs i t within))

joined_longer : (s x : List ℕ) (xs ys : List (List ℕ)) → length (joined s (x ∷ xs)) ≤ length (joined s (x ∷ (xs ++ ys)))
joined_longer s x xs [] = let same = ap (λ ts. length (joined s (x ∷ ts))) (append-none xs) in omega arith
joined_longer s x xs (y ∷ ys) =
    let more = joined_longer s x (xs ++ y ∷ []) ys in
    let same = ap (λ ts. length (joined s (x ∷ ts))) (append_assoc xs (y ∷ []) ys) in
    let pushed = ap length (joined-push s x y xs) ∙ length-append (joined s (x ∷ xs)) (s ++ y) in
    omega arith

pub joined_over : (s x : List ℕ) (xs all : List (List ℕ)) (i : ℕ) (bytes : List ℕ) → all ≡ x ∷ xs → bytes ≡ joined s (x ∷ take i xs) → 1048576 < length bytes → Err too_long ≡ text_within (joined s all)
joined_over s x xs all i bytes is so_far over =
    let longer = joined_longer s x (take i xs) (drop i xs) in
    let whole = ap (λ ts. length (joined s (x ∷ ts))) (take-append-drop i xs) in
    let long = ap length so_far in
    let same = ap (λ ts. length (joined s ts)) is in
    sym (cond-false (is_text (joined s all)) (Ok (text (joined s all))) (Err too_long) (lt-leb (length (joined s all)) 1048576 (omega arith)))

-- ---- numbers

fits_number : (n : ℤ) → is_number n ≡ true → FitsSigned w64 n
fits_number (pos n) e = record { sfits = ltb-true n (2 ^ 63) e }
fits_number (negsuc n) e = record { sfits = ltb-true n (2 ^ 63) e }

number_fits : (n : ℤ) → FitsSigned w64 n → is_number n ≡ true
number_fits (pos n) f = lt-ltb n (2 ^ 63) f.sfits
number_fits (negsuc n) f = lt-ltb n (2 ^ 63) f.sfits

pub spelled_within : (n : ℤ) → FitsSigned w64 n → text_within (signed_decimal n) ≡ str n
spelled_within n f =
    let small = f.sfits in
    cond-true (is_text (signed_decimal n)) (Ok (text (signed_decimal n))) (Err too_long) (le-leb _ _ (omega (arith, length_signed_le 19 n (omega (arith, small)) small)))

pub spells_number : (s : List ℕ) (n : ℤ) → FitsSigned w64 n → s ≡ signed_decimal n → Ok (number n) ≡ num s
spells_number s n f is = sym (ap num is ∙ num-signed_decimal n (number_fits n f))

pub spells_none : (s : List ℕ) → ((n : ℤ) → FitsSigned w64 n → s ≡ signed_decimal n → ⊥) → Err bad_number ≡ num s
spells_none s none =
    let n = signed_digits_value 10 s in
    sym (cond-false (spells s n) (Ok (number n)) (Err bad_number) (false_from_ne_true (spells s n) (λ e.
    let parts = and_parts (is_number n) _ e in
    none n (fits_number n parts.0) ((bytes_eq-Decides s (signed_decimal n)).0 parts.1))))

drop_all : (s : List ℕ) → drop (length s) s ≡ []
drop_all [] = refl
drop_all (c ∷ s) = drop_all s

-- a text that is all of a spelling
pub whole_spelling : (s : List ℕ) (n : ℤ) → FitsSigned w64 n → s ≡ signed_decimal n → IsSigned s n []
whole_spelling s n f is = record { spelled = is ∙ sym (append-none (signed_decimal n)); fits = f; whole = tt }

pub all_spelled : (s : List ℕ) (n : ℤ) (end : ℕ) → s ≡ signed_decimal n ++ drop end s → end ≡ length s → s ≡ signed_decimal n
all_spelled s n end is all =
    is ∙ ap (λ k. signed_decimal n ++ drop k s) all ∙ ap (λ rest. signed_decimal n ++ rest) (drop_all s) ∙ append-none (signed_decimal n)

pub spelled_as : (r : Result (Result held.Value Fault) NoMemory) (n : ℤ) (before after : List ℕ) → FitsSigned w64 n → before ≡ [] → after ≡ before ++ signed_decimal (to_z w64 (of_z w64 n)) → IfOk r (λ answer. answered answer ≡ text_within after) → IfOk r (λ answer. answered answer ≡ str n)
spelled_as r n before after fits none printed h =
    let is : after ≡ signed_decimal n = printed ∙ ap (λ ys. ys ++ signed_decimal (to_z w64 (of_z w64 n))) none ∙ ap signed_decimal (to_z-of_z w64 n fits) in
    subst (λ a. IfOk r (λ answer. answered answer ≡ a)) (ap text_within is ∙ spelled_within n fits) h

pub is_none : (t : List ℕ) → true ≡ (length t == 0) → t ≡ []
is_none [] e = refl
is_none (c ∷ t) e = absurd (omega (arith, eqb-true (length (c ∷ t)) 0 (sym e)))

pub is_not_none : (t : List ℕ) → false ≡ (length t == 0) → t ≡ [] → ⊥
is_not_none t e is = let both : false ≡ true = e ∙ ap (λ ts. length ts == 0) is in cc
