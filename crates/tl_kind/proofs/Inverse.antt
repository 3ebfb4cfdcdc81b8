-- How an expression is written tells which expression it is.
use Rattle.std.proofs.Common.{◌≡◌, ℕ, suc, ◌≤◌, ◌+◌, Bool, true, List, [], ◌∷◌, map, length, Option, Some, None, if◌then◌else◌, refl, sym, ◌∙◌, ap, arith}
use Rattle.std.proofs.lemmas.Bool.{lt-ltb}
use Rattle.tl_lang.specs.declared.expr.Expr.{Expr, out-Expr, roll-Expr}
use Rattle.tl_lang.specs.declared.expr.Expr.TheOpen as form
use Rattle.tl_lang.specs.declared.expr.Expr.TheViews.{roll-out-Expr}
use Rattle.tl_lang.specs.Tree.{Form}
use Rattle.tl_kind.specs.declared.word.Word.TheVariants as word
use Rattle.tl_kind.specs.declared.word.One.{One}
use Rattle.tl_kind.specs.declared.word.One.TheVariants as one
use Rattle.tl_kind.specs.declared.word.Two.{Two}
use Rattle.tl_kind.specs.declared.word.Two.TheVariants as two
use Rattle.tl_kind.specs.declared.word.Three.{Three}
use Rattle.tl_kind.specs.declared.word.Three.TheVariants as three
use Rattle.tl_kind.specs.declared.word.Binding.{Binding}
use Rattle.tl_kind.specs.declared.word.Binding.TheVariants as binding
use Rattle.tl_kind.specs.Written.{Part, an_expr, a_name, a_number, a_quote, Written, quote, signed, variable, with_parts, written}
use Rattle.tl_kind.specs.Refusals.{Head, inner, sort_of, wants, may_end, expr}

unfoldable pub one_form : {A : Type 0} → One → A → Form A
one_form one.Len a = form.Len a
one_form one.Num a = form.Num a
one_form one.Str a = form.Str a
one_form one.Lines a = form.Lines a
one_form one.Count a = form.Count a
one_form one.Sort a = form.Sort a

unfoldable pub two_form : {A : Type 0} → Two → A → A → Form A
two_form two.Cat a b = form.Cat a b
two_form two.Eq a b = form.Eq a b
two_form two.Has a b = form.Has a b
two_form two.Add a b = form.Add a b
two_form two.Minus a b = form.Minus a b
two_form two.Mul a b = form.Mul a b
two_form two.Div a b = form.Div a b
two_form two.Mod a b = form.Mod a b
two_form two.Lt a b = form.Lt a b
two_form two.Same a b = form.Same a b
two_form two.Split a b = form.Split a b
two_form two.Join a b = form.Join a b
two_form two.Append a b = form.Append a b
two_form two.At a b = form.At a b

unfoldable pub three_form : {A : Type 0} → Three → A → A → A → Form A
three_form three.Sub a b c = form.Sub a b c
three_form three.If a b c = form.If a b c

unfoldable pub binding_form : {A : Type 0} → Binding → List ℕ → A → A → Form A
binding_form binding.Let x a b = form.Let x a b
binding_form binding.Each x a b = form.Each x a b
binding_form binding.Keep x a b = form.Keep x a b

exprs : {A : Type 0} → List (Part A) → List A
exprs [] = []
exprs (an_expr a ∷ parts) = a ∷ exprs parts
exprs (a_name x ∷ parts) = exprs parts
exprs (a_number n ∷ parts) = exprs parts
exprs (a_quote s ∷ parts) = exprs parts

names : {A : Type 0} → List (Part A) → List (List ℕ)
names [] = []
names (an_expr a ∷ parts) = names parts
names (a_name x ∷ parts) = x ∷ names parts
names (a_number n ∷ parts) = names parts
names (a_quote s ∷ parts) = s ∷ names parts

numbers : {A : Type 0} → List (Part A) → List ℕ
numbers [] = []
numbers (an_expr a ∷ parts) = numbers parts
numbers (a_name x ∷ parts) = numbers parts
numbers (a_number n ∷ parts) = n ∷ numbers parts
numbers (a_quote s ∷ parts) = numbers parts

of_one : {A : Type 0} → (A → Form A) → List A → Option (Form A)
of_one f [] = None
of_one f (a ∷ as') = Some (f a)

of_two : {A : Type 0} → (A → A → Form A) → List A → Option (Form A)
of_two f [] = None
of_two f (a ∷ rest) = of_one (f a) rest

of_three : {A : Type 0} → (A → A → A → Form A) → List A → Option (Form A)
of_three f [] = None
of_three f (a ∷ rest) = of_two (f a) rest

of_name : {A : Type 0} → (List ℕ → Option (Form A)) → List (List ℕ) → Option (Form A)
of_name f [] = None
of_name f (x ∷ xs) = f x

of_names : {A : Type 0} → (List ℕ → List ℕ → Option (Form A)) → List (List ℕ) → Option (Form A)
of_names f [] = None
of_names f (x ∷ xs) = of_name (f x) xs

of_number : {A : Type 0} → (ℕ → Option (Form A)) → List ℕ → Option (Form A)
of_number f [] = None
of_number f (n ∷ ns) = f n

-- the form that is written so, if one is
form_of : {A : Type 0} → Written A → Option (Form A)
form_of (quote s) = Some (form.Text s)
form_of (signed z) = Some (form.Number z)
form_of (variable x) = Some (form.Var x)
form_of (with_parts word.Input parts) = of_number (λ n. Some (form.Input n)) (numbers parts)
form_of (with_parts word.Key parts) = of_name (λ s. Some (form.Key s)) (names parts)
form_of (with_parts (word.One w) parts) = of_one (one_form w) (exprs parts)
form_of (with_parts (word.Two w) parts) = of_two (two_form w) (exprs parts)
form_of (with_parts (word.Three w) parts) = of_three (three_form w) (exprs parts)
form_of (with_parts (word.Binding w) parts) = of_name (λ x. of_two (binding_form w x) (exprs parts)) (names parts)
form_of (with_parts word.Fold parts) = of_names (λ s x. of_three (form.Fold s x) (exprs parts)) (names parts)
form_of (with_parts word.List parts) = Some (form.List (exprs parts))

exprs-map : {A : Type 0} (es : List A) → exprs (map an_expr es) ≡ es
unfolding exprs
exprs-map [] = refl
exprs-map (e ∷ es) = ap (λ as'. e ∷ as') (exprs-map es)

form_of-written : {A : Type 0} (f : Form A) → form_of (written f) ≡ Some f
unfolding form_of one_form two_form three_form binding_form exprs names numbers of_one of_two of_three of_name of_names of_number
form_of-written (form.Text s) = refl
form_of-written (form.Number z) = refl
form_of-written (form.Var x) = refl
form_of-written (form.Input k) = refl
form_of-written (form.Key key) = refl
form_of-written (form.Cat a b) = refl
form_of-written (form.Len a) = refl
form_of-written (form.Sub a i j) = refl
form_of-written (form.Eq a b) = refl
form_of-written (form.Has a b) = refl
form_of-written (form.Num a) = refl
form_of-written (form.Str a) = refl
form_of-written (form.Add a b) = refl
form_of-written (form.Minus a b) = refl
form_of-written (form.Mul a b) = refl
form_of-written (form.Div a b) = refl
form_of-written (form.Mod a b) = refl
form_of-written (form.Lt a b) = refl
form_of-written (form.Same a b) = refl
form_of-written (form.If c a b) = refl
form_of-written (form.Let x a b) = refl
form_of-written (form.Lines a) = refl
form_of-written (form.Split a s) = refl
form_of-written (form.Join m s) = refl
form_of-written (form.List parts) = ap (λ es. Some (form.List es)) (exprs-map parts)
form_of-written (form.Append m a) = refl
form_of-written (form.At m i) = refl
form_of-written (form.Count m) = refl
form_of-written (form.Sort m) = refl
form_of-written (form.Each x m a) = refl
form_of-written (form.Keep x m a) = refl
form_of-written (form.Fold s x m i a) = refl

some_injective : {A : Type 0} (f g : Form A) → ◌≡◌ {A = Option (Form A)} (Some f) (Some g) → f ≡ g
some_injective f g e = cc

pub written_injective : {A : Type 0} (f g : Form A) → written f ≡ written g → f ≡ g
written_injective f g e = some_injective f g (sym (form_of-written f) ∙ ap form_of e ∙ form_of-written g)

pub same_written : (e d : Expr) → written (out-Expr e) ≡ written (out-Expr d) → e ≡ d
same_written e d same = sym (roll-out-Expr e) ∙ ap roll-Expr (written_injective (out-Expr e) (out-Expr d) same) ∙ roll-out-Expr d

-- ---- the parts are those that the form wants

abbrev pub Takes : {A : Type 0} → Head → ℕ → List (Part A) → Type 0
Takes head count [] = may_end head count ≡ true
Takes head count (p ∷ parts) = (wants head count ≡ Some (sort_of p)) × Takes head (suc count) parts

-- what is asked of the parts of an expression
abbrev pub TakesParts : {A : Type 0} → Written A → Type 0
TakesParts (quote s) = Unit {0}
TakesParts (signed z) = Unit {0}
TakesParts (variable x) = Unit {0}
TakesParts (with_parts w parts) = length parts ≤ 16 → Takes (inner w) 0 parts

list_takes_parts : {A : Type 0} (count : ℕ) (es : List A) → count + length es ≤ 16 → Takes (inner word.List) count (map an_expr es)
list_takes_parts count [] le = refl
list_takes_parts count (e ∷ es) le = (ap (λ (b : Bool). if b then Some expr else None) (lt-ltb count 16 (omega arith)), list_takes_parts (suc count) es (omega arith))

pub length-list : {A : Type 0} (es : List A) → length (map an_expr es) ≡ length es
length-list [] = refl
length-list (e ∷ es) = ap suc (length-list es)

pub takes_written : {A : Type 0} (f : Form A) → TakesParts (written f)
takes_written (form.Text s) = tt
takes_written (form.Number z) = tt
takes_written (form.Var x) = tt
takes_written (form.Input k) = λ le. (refl, refl)
takes_written (form.Key key) = λ le. (refl, refl)
takes_written (form.Cat a b) = λ le. (refl, (refl, refl))
takes_written (form.Len a) = λ le. (refl, refl)
takes_written (form.Sub a i j) = λ le. (refl, (refl, (refl, refl)))
takes_written (form.Eq a b) = λ le. (refl, (refl, refl))
takes_written (form.Has a b) = λ le. (refl, (refl, refl))
takes_written (form.Num a) = λ le. (refl, refl)
takes_written (form.Str a) = λ le. (refl, refl)
takes_written (form.Add a b) = λ le. (refl, (refl, refl))
takes_written (form.Minus a b) = λ le. (refl, (refl, refl))
takes_written (form.Mul a b) = λ le. (refl, (refl, refl))
takes_written (form.Div a b) = λ le. (refl, (refl, refl))
takes_written (form.Mod a b) = λ le. (refl, (refl, refl))
takes_written (form.Lt a b) = λ le. (refl, (refl, refl))
takes_written (form.Same a b) = λ le. (refl, (refl, refl))
takes_written (form.If c a b) = λ le. (refl, (refl, (refl, refl)))
takes_written (form.Let x a b) = λ le. (refl, (refl, (refl, refl)))
takes_written (form.Lines a) = λ le. (refl, refl)
takes_written (form.Split a s) = λ le. (refl, (refl, refl))
takes_written (form.Join m s) = λ le. (refl, (refl, refl))
takes_written (form.List parts) = λ le. list_takes_parts 0 parts (omega (arith, length-list parts))
takes_written (form.Append m a) = λ le. (refl, (refl, refl))
takes_written (form.At m i) = λ le. (refl, (refl, refl))
takes_written (form.Count m) = λ le. (refl, refl)
takes_written (form.Sort m) = λ le. (refl, refl)
takes_written (form.Each x m a) = λ le. (refl, (refl, (refl, refl)))
takes_written (form.Keep x m a) = λ le. (refl, (refl, (refl, refl)))
takes_written (form.Fold s x m i a) = λ le. (refl, (refl, (refl, (refl, (refl, refl)))))
