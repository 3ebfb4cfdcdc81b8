-- The kind of a list, part by part.
use Rattle.std.proofs.Common.{◌≡◌, ℕ, Bool, true, false, ◌&&◌, if◌then◌else◌, List, [], ◌∷◌, map, Result, Ok, Err, refl, sym, ◌∙◌, ap, suc, ◌<◌, ◌≤◌, length, drop, get_or, drop-cons, ◌+◌, add-one, Option, Some, None}
use Rattle.std.proofs.lemmas.List.{drop_all}
use Rattle.std.proofs.lemmas.Result.{err_from_is_err_and}
use Rattle.std.specs.Result.{IsErrAnd}
use Rattle.tl_kind.specs.declared.kind_error.KindError.{KindError}
use Rattle.tl_lang.specs.declared.kind.Kind.{Kind}
use Rattle.tl_lang.specs.declared.kind.Kind.TheVariants as kind
use Rattle.tl_lang.specs.declared.expr.Expr.{Expr}
use Rattle.tl_lang.specs.declared.expr.Expr.TheOpen as form
use Rattle.tl_lang.specs.Names.{Names}
use Rattle.tl_lang.specs.Kinds.{Kinding, kinds_step, Judged, and_then, same_kind, same_kinds, in_order, takes, branches, wrong_kind, kind_of, then_outputs, refusal_in}
use Rattle.tl_kind.specs.Kinds.{list_of, folded, judged, kind_number, refusal_of}

-- the parts to come, where the parts so far are all texts or not
abbrev pub list_from : Bool → List Judged → Judged
list_from fits [] = if fits then Ok kind.List else Err wrong_kind
list_from fits (part ∷ parts) = and_then part (λ k. list_from (same_kind k kind.Text && fits) parts)

abbrev ends : Bool → List Judged → List Kind → Judged
ends fits parts kinds = if same_kinds kinds (map (λ a. kind.Text) parts) && fits then Ok kind.List else Err wrong_kind

swap_tests : (p q r : Bool) → ((p && q) && r) ≡ (q && (p && r))
swap_tests true true r = refl
swap_tests true false r = refl
swap_tests false true r = refl
swap_tests false false r = refl

and_then-ap : {A B : Type 0} (r : Result A ℕ) (f g : A → Result B ℕ) → ((a : A) → f a ≡ g a) → and_then r f ≡ and_then r g
and_then-ap (Ok a) f g same = same a
and_then-ap (Err n) f g same = refl

and_then-twice : {A B C : Type 0} (r : Result A ℕ) (f : A → Result B ℕ) (g : B → Result C ℕ) → and_then (and_then r f) g ≡ and_then r (λ a. and_then (f a) g)
and_then-twice (Ok a) f g = refl
and_then-twice (Err n) f g = refl

list_from-is : (fits : Bool) (parts : List Judged) → list_from fits parts ≡ and_then (in_order parts) (ends fits parts)
list_from-is true [] = refl
list_from-is false [] = refl
list_from-is fits (part ∷ parts) =
    and_then-ap part _ _ (λ k. list_from-is (same_kind k kind.Text && fits) parts
    ∙ and_then-ap (in_order parts) _ _ (λ ks. ap (λ (t : Bool). if t then Ok kind.List else Err wrong_kind) (sym (swap_tests (same_kind k kind.Text) (same_kinds ks (map (λ a. kind.Text) parts)) fits)))
    ∙ sym (and_then-twice (in_order parts) (λ ks. Ok (k ∷ ks)) (ends fits (part ∷ parts))))
    ∙ sym (and_then-twice part (λ k. and_then (in_order parts) (λ ks. Ok (k ∷ ks))) (ends fits (part ∷ parts)))

and-true : (p : Bool) → (p && true) ≡ p
and-true true = refl
and-true false = refl

ends-all : (kinds : List Kind) (parts : List Judged) → ends true parts kinds ≡ (if same_kinds kinds (map (λ a. kind.Text) parts) then Ok kind.List else Err wrong_kind)
ends-all kinds parts = ap (λ (t : Bool). if t then Ok kind.List else Err wrong_kind) (and-true (same_kinds kinds (map (λ a. kind.Text) parts)))

pub list_from-all : (parts : List Judged) → list_from true parts ≡ list_of parts
list_from-all parts = list_from-is true parts ∙ and_then-ap (in_order parts) _ _ (λ ks. ends-all ks parts)

judged_at : (g : Expr → Kinding) (scope : Names Kind) (parts : List Expr) → map (λ a. a scope) (map g parts) ≡ map (λ e. g e scope) parts
judged_at g scope [] = refl
judged_at g scope (e ∷ parts) = ap (λ js. g e scope ∷ js) (judged_at g scope parts)

wanted_at : (g : Expr → Kinding) (scope : Names Kind) (parts : List Expr) → map (λ (a : Kinding). kind.Text) (map g parts) ≡ map (λ a. kind.Text) (map (λ e. g e scope) parts)
wanted_at g scope [] = refl
wanted_at g scope (e ∷ parts) = ap (λ ks. kind.Text ∷ ks) (wanted_at g scope parts)

pub list_of-parts : (inputs : ℕ) (g : Expr → Kinding) (scope : Names Kind) (parts : List Expr) → list_of (map (λ e. g e scope) parts) ≡ kinds_step inputs (form.List (map g parts)) scope
list_of-parts inputs g scope parts = sym (ap (λ js. takes (map (λ (a : Kinding). kind.Text) (map g parts)) kind.List js) (judged_at g scope parts) ∙ ap (λ ks. takes ks kind.List (map (λ e. g e scope) parts)) (wanted_at g scope parts))

pub list_of-ends : (f : Expr → Judged) (parts : List Expr) (at : ℕ) (fits : Bool) (r : Judged) → length parts ≤ at → list_from fits (map f (drop at parts)) ≡ list_from true (map f parts) → r ≡ (if fits then Ok kind.List else Err wrong_kind) → r ≡ list_of (map f parts)
list_of-ends f parts at fits r past kept is =
    is ∙ sym (ap (λ (rest : List Expr). list_from fits (map f rest)) (drop_all at parts past)) ∙ kept ∙ list_from-all (map f parts)

pub list_of-refused : (f : Expr → Judged) (parts : List Expr) (at : ℕ) (fits : Bool) (part : Expr) (n : ℕ) (r : Judged) → at < length parts → part ≡ get_or parts at part → Err n ≡ f part → list_from fits (map f (drop at parts)) ≡ list_from true (map f parts) → r ≡ Err n → r ≡ list_of (map f parts)
list_of-refused f parts at fits part n r lt is refused kept e =
    e ∙ ap (λ (j : Judged). and_then j (λ k. list_from (same_kind k kind.Text && fits) (map f (drop (suc at) parts)))) (refused ∙ ap f is)
    ∙ sym (ap (λ (rest : List Expr). list_from fits (map f rest)) (drop-cons parts at part lt)) ∙ kept ∙ list_from-all (map f parts)

-- ---- forms whose parts have kinds

pub takes-two : (x y : Judged) (p q v w k : Kind) (r : Judged) (t : Bool) → Ok p ≡ x → Ok q ≡ y → r ≡ (if t then Ok k else Err wrong_kind) → t ≡ (same_kind p v && (same_kind q w && true)) → r ≡ takes (v ∷ w ∷ []) k (x ∷ y ∷ [])
takes-two x y p q v w k r t first second is fit = rw (← first, ← second, is, fit) refl

pub takes-three : (x y z : Judged) (p q o u v w k : Kind) (r : Judged) (t : Bool) → Ok p ≡ x → Ok q ≡ y → Ok o ≡ z → r ≡ (if t then Ok k else Err wrong_kind) → t ≡ (same_kind p u && (same_kind q v && (same_kind o w && true))) → r ≡ takes (u ∷ v ∷ w ∷ []) k (x ∷ y ∷ z ∷ [])
takes-three x y z p q o u v w k r t first second third is fit = rw (← first, ← second, ← third, is, fit) refl

pub branches-fit : (c a b : Judged) (k p q : Kind) (r : Judged) (t : Bool) → Ok k ≡ c → Ok p ≡ a → Ok q ≡ b → r ≡ (if t then Ok p else Err wrong_kind) → t ≡ (same_kind k kind.Number && same_kind p q) → r ≡ branches c a b
branches-fit c a b k p q r t first second third is fit = rw (← first, ← second, ← third, is, fit) refl

pub folded-fit : (m i : Judged) (a : Kind → Judged) (p k q : Kind) (r : Judged) (t : Bool) → Ok p ≡ m → Ok k ≡ i → Ok q ≡ a k → r ≡ (if t then Ok k else Err wrong_kind) → t ≡ (same_kind p kind.List && (same_kind q k && true)) → r ≡ folded m i a
folded-fit m i a p k q r t first second third is fit = rw (← first, ← second, ← third, is, fit) refl

pub folded-refused : (m i : Judged) (a : Kind → Judged) (p k : Kind) (n : ℕ) (r : Judged) → Ok p ≡ m → Ok k ≡ i → Err n ≡ a k → r ≡ Err n → r ≡ folded m i a
folded-refused m i a p k n r first second third is = rw (← first, ← second, ← third, is) refl

-- what a `?` returns
pub judged-err : (result : Result Kind KindError) (e : KindError) → IsErrAnd result (λ y. y ≡ e) → judged result ≡ Err (kind_number e.kind)
judged-err result e h = let p = err_from_is_err_and result h in ap judged p.1 ∙ ap (λ (y : KindError). judged (Err y)) p.2

-- ---- outputs

then_refused : (j : Judged) (n : ℕ) (later : Option ℕ) → Some n ≡ then_outputs j None → then_outputs j later ≡ Some n
then_refused (Ok kind.Text) n later e = cc
then_refused (Ok kind.Number) n later e = sym e
then_refused (Ok kind.List) n later e = sym e
then_refused (Err k) n later e = sym e

then_goes_on : (j : Judged) (later : Option ℕ) → None ≡ then_outputs j None → then_outputs j later ≡ later
then_goes_on (Ok kind.Text) later e = refl
then_goes_on (Ok kind.Number) later e = cc
then_goes_on (Ok kind.List) later e = cc
then_goes_on (Err k) later e = cc

refusal_in-drop : (inputs : ℕ) (outputs : List Expr) (at : ℕ) (e : Expr) → at < length outputs → e ≡ get_or outputs at e → refusal_in inputs (drop at outputs) ≡ then_outputs (kind_of inputs e []) (refusal_in inputs (drop (at + 1) outputs))
refusal_in-drop inputs outputs at e lt is =
    ap (refusal_in inputs) (drop-cons outputs at e lt) ∙ ap (λ (f : Expr). then_outputs (kind_of inputs f []) (refusal_in inputs (drop (suc at) outputs))) (sym is)
    ∙ ap (λ (n : ℕ). then_outputs (kind_of inputs e []) (refusal_in inputs (drop n outputs))) (sym (add-one at))

pub refusal_in-stops : (inputs : ℕ) (outputs : List Expr) (at : ℕ) (e : Expr) (n : ℕ) → at < length outputs → e ≡ get_or outputs at e → Some n ≡ then_outputs (kind_of inputs e []) None → refusal_in inputs (drop at outputs) ≡ refusal_in inputs outputs → Some n ≡ refusal_in inputs outputs
refusal_in-stops inputs outputs at e n lt is refused kept = sym (then_refused (kind_of inputs e []) n _ refused) ∙ sym (refusal_in-drop inputs outputs at e lt is) ∙ kept

pub refusal_in-goes_on : (inputs : ℕ) (outputs : List Expr) (at : ℕ) (e : Expr) → at < length outputs → e ≡ get_or outputs at e → None ≡ then_outputs (kind_of inputs e []) None → refusal_in inputs (drop at outputs) ≡ refusal_in inputs outputs → refusal_in inputs (drop (at + 1) outputs) ≡ refusal_in inputs outputs
refusal_in-goes_on inputs outputs at e lt is fine kept = sym (then_goes_on (kind_of inputs e []) _ fine) ∙ sym (refusal_in-drop inputs outputs at e lt is) ∙ kept

pub refusal-err : {A : Type 0} (result : Result A KindError) (e : KindError) → IsErrAnd result (λ y. y ≡ e) → refusal_of result ≡ Some (kind_number e.kind)
refusal-err result e h = let p = err_from_is_err_and result h in ap refusal_of p.1 ∙ ap (λ (y : KindError). Some (kind_number y.kind)) p.2
