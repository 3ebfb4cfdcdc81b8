-- The inputs and the configuration, at hand to be shared.
use Rattle.std.proofs.Common.{◌≡◌, ◌≤◌, ◌<◌, ◌+◌, ℕ, zero, suc, true, false, ◌&&◌, nat_le, bytes_eq, List, [], ◌∷◌, ◌++◌, map, length, take, drop, get_or, None, Some, sym, ◌∙◌, ap, refl, arith, drop-cons, add-one}
use Rattle.std.specs.Prelude.{option_map}
use Rattle.std.specs.Global.{Vec}
use Rattle.std.specs.List.{list_all}
use Rattle.std.proofs.lemmas.Bool.{and_parts, leb-true, cond-true, cond-false}
use Rattle.std.proofs.lemmas.List.{take_more}
use Rattle.tl_types.specs.declared.outcome.Outcome.{Outcome}
use Rattle.tl_types.specs.declared.outcome.Outcome.TheVariants as outcome
use Rattle.tl_eval.specs.declared.material.Entry.{Entry}
use Rattle.tl_eval.specs.Materials.{entry_of}
use Rattle.tl_lang.specs.Conf.{pair_of, pairs_of, is_short, is_conf}
use Rattle.tl_lang.specs.Mean.{values}
use Rattle.tl_lang.specs.Names.{visible}

pub values-fault : (xs ys : List Outcome) (k : ℕ) → None ≡ values (xs ++ outcome.Fault k ∷ ys)
values-fault [] ys k = refl
values-fault (outcome.Value s ∷ xs) ys k = ap (option_map (λ ss. s ∷ ss)) (values-fault xs ys k)
values-fault (outcome.Fault n ∷ xs) ys k = refl

append_one : {A : Type 0} (xs : List A) (x : A) (ys : List A) → (xs ++ x ∷ []) ++ ys ≡ xs ++ x ∷ ys
append_one [] x ys = refl
append_one (z ∷ xs) x ys = ap (λ zs. z ∷ zs) (append_one xs x ys)

pub fault_found : (all rest later : List Outcome) (input : Outcome) (left : List Outcome) (k : ℕ) → all ≡ rest ++ later → rest ≡ left ++ input ∷ [] → input ≡ outcome.Fault k → None ≡ values all
fault_found all rest later input left k is popped fault =
    values-fault left later k ∙ (λ i. values (left ++ sym fault i ∷ later)) ∙ ap values (sym (append_one left input later)) ∙ (λ i. values (sym popped i ++ later)) ∙ ap values (sym is)

short_at : (pairs : List (Vec ℕ × Vec ℕ)) (i : ℕ) (d : Vec ℕ × Vec ℕ) → list_all is_short (pairs_of pairs) ≡ true → i < length pairs → length (get_or pairs i d).1.items ≤ 1048576
short_at [] i d e less = absurd (omega arith)
short_at (p ∷ pairs) zero d e less = leb-true _ _ (and_parts (nat_le (length p.0.items) 1048576) _ (and_parts (is_short (pair_of p)) _ e).0).1
short_at (p ∷ pairs) (suc i) d e less = short_at pairs i d (and_parts (is_short (pair_of p)) _ e).1 (omega arith)

pub value_is_short : (pairs : List (Vec ℕ × Vec ℕ)) (i : ℕ) (p : Vec ℕ × Vec ℕ) → is_conf (pairs_of pairs) ≡ true → i < length pairs → p ≡ get_or pairs i p → length p.1.items ≤ 1048576
value_is_short pairs i p valid less at =
    let all = (and_parts (nat_le (length (pairs_of pairs)) 16 && list_all is_short (pairs_of pairs)) _ valid).0 in
    let each = (and_parts (nat_le (length (pairs_of pairs)) 16) _ all).1 in
    let short = short_at pairs i p each less in
    let same = ap (λ (q : Vec ℕ × Vec ℕ). length q.1.items) at in
    omega arith

map-append : {A B : Type 0} (f : A → B) (xs ys : List A) → map f (xs ++ ys) ≡ map f xs ++ map f ys
map-append f [] ys = refl
map-append f (x ∷ xs) ys = ap (λ zs. f x ∷ zs) (map-append f xs ys)

pub entries_more : (pairs : List (Vec ℕ × Vec ℕ)) (i : ℕ) (p : Vec ℕ × Vec ℕ) (entries more : List Entry) (entry : Entry) → p ≡ get_or pairs i p → i < length pairs → map entry_of entries ≡ pairs_of (take i pairs) → more ≡ entries ++ entry ∷ [] → entry_of entry ≡ pair_of p → map entry_of more ≡ pairs_of (take (i + 1) pairs)
entries_more pairs i p entries more entry at less so_far added same =
    ap (map entry_of) added ∙ map-append entry_of entries (entry ∷ [])
    ∙ (λ k. so_far k ++ same k ∷ [])
    ∙ sym (map-append pair_of (take i pairs) (p ∷ []))
    ∙ ap pairs_of (ap (λ q. take i pairs ++ q ∷ []) at ∙ sym (take_more pairs i p less))

-- ---- look-ups

module _ (key : List ℕ) (entries : List Entry) (i : ℕ) (entry : Entry) (at : entry ≡ get_or entries i entry) (less : i < length entries) where
  here : map entry_of (drop i entries) ≡ entry_of entry ∷ map entry_of (drop (i + 1) entries)
  here =
      ap (map entry_of) (drop-cons entries i entry less)
      ∙ (λ k. entry_of (sym at k) ∷ map entry_of (drop (sym (add-one i) k) entries))

  pub entry_found : visible key (map entry_of (drop i entries)) ≡ visible key (map entry_of entries) → true ≡ bytes_eq key entry.key.now → Some entry.value ≡ visible key (map entry_of entries)
  entry_found so_far test =
      sym (cond-true (bytes_eq key entry.key.now) (Some entry.value) (visible key (map entry_of (drop (i + 1) entries))) (sym test))
      ∙ ap (visible key) (sym here) ∙ so_far

  pub entry_passed : visible key (map entry_of (drop i entries)) ≡ visible key (map entry_of entries) → false ≡ bytes_eq key entry.key.now → visible key (map entry_of (drop (i + 1) entries)) ≡ visible key (map entry_of entries)
  entry_passed so_far test =
      sym (cond-false (bytes_eq key entry.key.now) (Some entry.value) (visible key (map entry_of (drop (i + 1) entries))) (sym test))
      ∙ ap (visible key) (sym here) ∙ so_far
