-- Evaluations one after another, and the loops of the language item by item.
use Rattle.std.proofs.Common.{◌≡◌, ℕ, Bool, true, false, if◌then◌else◌, List, [], ◌∷◌, ◌++◌, map, sym, ◌∙◌, ap, refl, append_assoc}
use Rattle.std.specs.Global.{Global}
use Rattle.std.specs.declared.sync.Arc.{Arc}
use Rattle.tl_eval.specs.declared.node.Node.{Node}
use Rattle.tl_eval.specs.Nodes.{gives}
use Rattle.tl_eval.specs.Frames.{listed, kept_after, with_item}
use Rattle.tl_lang.specs.Value.{Value, text, number, list, list_within}
use Rattle.tl_lang.specs.Numbers.{is_zero}
use Rattle.tl_lang.specs.Fuel.{Ending, done, fault, Run, give, answer, and_then, ◌>>=◌}
use Rattle.tl_lang.specs.Names.{Names}
use Rattle.tl_lang.specs.Meaning.{with_text, with_number, all_texts, kept}

pub and_then-give : {A : Type 0} (x : Ending A) → and_then x give ≡ x
and_then-give (done a left) = refl
and_then-give (fault k left) = refl

pub and_then-assoc : {A B C : Type 0} (x : Ending A) (f : A → Run B) (g : B → Run C) → and_then (and_then x f) g ≡ and_then x (λ a left. and_then (f a left) g)
and_then-assoc (done a left) f g = refl
and_then-assoc (fault k left) f g = refl

append-none : {A : Type 0} (xs : List A) → xs ++ [] ≡ xs
append-none [] = refl
append-none (x ∷ xs) = ap (λ ys. x ∷ ys) (append-none xs)

abbrev Part : Type 0
Part = Arc Node Global

pub listed-none : (names : Names Value) (so_far : List (List ℕ)) → answer (list_within so_far) ≡ listed names so_far []
listed-none names so_far = ap (λ ts. answer (list_within ts)) (sym (append-none so_far))

listed-with : (names : Names Value) (so_far : List (List ℕ)) (parts : List Part) (v : Value) (left : ℕ) → with_text v (λ s. listed names (so_far ++ s ∷ []) parts) left ≡ and_then (with_text v (λ s. all_texts (map (λ (a : Part). gives a.value names) parts) >>= (λ ts. give (s ∷ ts))) left) (λ ts. answer (list_within (so_far ++ ts)))
listed-with names so_far parts (text s) left =
    (λ i. and_then (all_texts (map (λ (a : Part). gives a.value names) parts) left) (λ ts. answer (list_within (append_assoc so_far (s ∷ []) ts i))))
    ∙ sym (and_then-assoc (all_texts (map (λ (a : Part). gives a.value names) parts) left) (λ ts. give (s ∷ ts)) (λ ts. answer (list_within (so_far ++ ts))))
listed-with names so_far parts (number n) left = refl
listed-with names so_far parts (list ts) left = refl

pub listed-more : (names : Names Value) (so_far : List (List ℕ)) (part : Part) (parts : List Part) → (gives part.value names >>= (λ v. with_text v (λ s. listed names (so_far ++ s ∷ []) parts))) ≡ listed names so_far (part ∷ parts)
listed-more names so_far part parts i left =
    ((λ j. and_then (gives part.value names left) (λ v l. listed-with names so_far parts v l j))
    ∙ sym (and_then-assoc (gives part.value names left) (λ v. with_text v (λ s. all_texts (map (λ (a : Part). gives a.value names) parts) >>= (λ ts. give (s ∷ ts)))) (λ ts. answer (list_within (so_far ++ ts))))) i

pub kept_after-none : (so_far : List (List ℕ)) (body : List ℕ → Run Value) → give (list so_far) ≡ kept_after so_far body []
kept_after-none so_far body = ap (λ ts. give (list ts)) (sym (append-none so_far))

with_item-append : (so_far : List (List ℕ)) (item : List ℕ) (b : Bool) (ts : List (List ℕ)) → (if b then so_far else so_far ++ item ∷ []) ++ ts ≡ so_far ++ (if b then ts else item ∷ ts)
with_item-append so_far item true ts = refl
with_item-append so_far item false ts = append_assoc so_far (item ∷ []) ts

kept-with : (so_far : List (List ℕ)) (body : List ℕ → Run Value) (item : List ℕ) (items : List (List ℕ)) (v : Value) (left : ℕ) → with_number v (λ n. kept_after (with_item so_far item n) body items) left ≡ and_then (with_number v (λ n. kept body items >>= (λ ts. give (if is_zero n then ts else item ∷ ts))) left) (λ ts. give (list (so_far ++ ts)))
kept-with so_far body item items (text s) left = refl
kept-with so_far body item items (number n) left =
    (λ i. and_then (kept body items left) (λ ts. give (list (with_item-append so_far item (is_zero n) ts i))))
    ∙ sym (and_then-assoc (kept body items left) (λ ts. give (if is_zero n then ts else item ∷ ts)) (λ ts. give (list (so_far ++ ts))))
kept-with so_far body item items (list ts) left = refl

pub kept_after-more : (so_far : List (List ℕ)) (body : List ℕ → Run Value) (item : List ℕ) (items : List (List ℕ)) → (body item >>= (λ v. with_number v (λ n. kept_after (with_item so_far item n) body items))) ≡ kept_after so_far body (item ∷ items)
kept_after-more so_far body item items i left =
    ((λ j. and_then (body item left) (λ v l. kept-with so_far body item items v l j))
    ∙ sym (and_then-assoc (body item left) (λ v. with_number v (λ n. kept body items >>= (λ ts. give (if is_zero n then ts else item ∷ ts)))) (λ ts. give (list (so_far ++ ts))))) i
