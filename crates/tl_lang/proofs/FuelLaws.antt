-- Every evaluation enters the same expressions to the same end, as far as its fuel lasts.
use Rattle.std.proofs.Common.{◌≡◌, ℤ, ℕ, zero, suc, ◌+◌, ◌-◌, ◌<◌, Bool, true, false, if◌then◌else◌, List, [], ◌∷◌, map, Result, Ok, Err, sym, ◌∙◌, ap, refl, subst, arith, ◌⊎◌, inl, inr, ⊎_elim}
use Rattle.std.proofs.lemmas.Bool.{cond-true, cond-false, lt-ltb, le-ltb, cases_lt}
use Rattle.tl_lang.specs.declared.expr.Expr.{Expr}
use Rattle.tl_lang.specs.declared.expr.Expr.TheOpen as form
use Rattle.tl_lang.specs.Tree.{Form, fold_tree, at_parts}
use Rattle.tl_lang.specs.Value.{no_fuel, no_meaning, Value, text, number, list, Answer}
use Rattle.tl_lang.specs.Fuel.{fault, Run, enter, give, answer, ◌>>=◌, and_then, entering, Enters}
use Rattle.tl_lang.specs.Names.{Names}
use Rattle.tl_lang.specs.Meaning.{Given, Meaning, one, two, three, with_text, with_number, with_list, all_texts, each_from, kept, folded, meaning, step, evaluate}
use Rattle.tl_lang.proofs.Trees.{along_tree, Proved, parts_of}

pub entering-short : {A : Type 0} (n : ℕ) (end : Result A ℕ) (fuel : ℕ) → fuel < n → entering n end fuel ≡ fault no_fuel 0
entering-short n end fuel less = cond-true _ _ _ (lt-ltb fuel n less)

pub entering-enough : {A : Type 0} (n : ℕ) (end : Result A ℕ) (left : ℕ) → entering n end (n + left) ≡ answer end left
entering-enough n end left =
    let same : n + left - n ≡ left = omega arith in
    cond-false _ _ _ (le-ltb (n + left) n (omega arith)) ∙ ap (answer end) same

-- the fuel is short, or lasts with some units left
pub cases_fuel : (n fuel : ℕ) → (fuel < n) ⊎ ((left : ℕ) × (n + left ≡ fuel))
cases_fuel n fuel = ⊎_elim (λ less. inl less) (λ enough. inr (fuel - n, omega arith)) (cases_lt fuel n)

-- what an evaluation is to be is shown where the fuel is short, and where it lasts
is_entering : {A : Type 0} (n : ℕ) (end : Result A ℕ) (x : Run A) → ((fuel : ℕ) → fuel < n → x fuel ≡ fault no_fuel 0) → ((left : ℕ) → x (n + left) ≡ answer end left) → (fuel : ℕ) → x fuel ≡ entering n end fuel
is_entering n end x short enough fuel =
    ⊎_elim
    (λ less. short fuel less ∙ sym (entering-short n end fuel less))
    (λ e. let P : ℕ → Type 0 = λ f. x f ≡ entering n end f in subst P e.1 (enough e.0 ∙ sym (entering-enough n end e.0)))
    (cases_fuel n fuel)

entering-none : {A : Type 0} (end : Result A ℕ) (fuel : ℕ) → answer end fuel ≡ entering 0 end fuel
entering-none end = is_entering 0 end (answer end) (λ fuel less. absurd (omega arith)) (λ left. ap (answer end) (omega arith))

Enters-answer : {A : Type 0} (end : Result A ℕ) → Enters (answer end)
Enters-answer end = record { entered = 0; end = end; is = entering-none end }

Enters-give : {A : Type 0} (a : A) → Enters (give a)
Enters-give a = record { entered = 0; end = Ok a; is = entering-none (Ok a) }

Enters-fault : {A : Type 0} (k : ℕ) → Enters {A = A} (fault k)
Enters-fault k = record { entered = 0; end = Err k; is = entering-none (Err k) }

enter-short : {A : Type 0} (run : Run A) (n : ℕ) (end : Result A ℕ) → ((fuel : ℕ) → run fuel ≡ entering n end fuel) → (fuel : ℕ) → fuel < suc n → enter run fuel ≡ fault no_fuel 0
enter-short run n end is zero less = refl
enter-short run n end is (suc fuel) less = is fuel ∙ entering-short n end fuel (omega arith)

Enters-enter : {A : Type 0} (run : Run A) → Enters run → Enters (enter run)
Enters-enter run r = record {
  entered = suc r.entered;
  end = r.end;
  is = is_entering (suc r.entered) r.end (enter run) (enter-short run r.entered r.end r.is) (λ left.
      let suc_out : suc r.entered + left ≡ suc (r.entered + left) = omega arith in
      ap (enter run) suc_out ∙ r.is (r.entered + left) ∙ entering-enough r.entered r.end left);
}

module _ {A B : Type 0} (n : ℕ) (go : A → Run B) where
  goes_short : (end : Result A ℕ) (fuel : ℕ) → fuel < n → and_then (entering n end fuel) go ≡ fault no_fuel 0
  goes_short end fuel less = ap (λ x. and_then x go) (entering-short n end fuel less)

  goes_on : (end : Result A ℕ) (left : ℕ) → and_then (entering n end (n + left)) go ≡ and_then (answer end left) go
  goes_on end left = ap (λ x. and_then x go) (entering-enough n end left)

  entering-fault : (k fuel : ℕ) → and_then (entering n (Err k) fuel) go ≡ entering n (Err k) fuel
  entering-fault k = is_entering n (Err k) (λ fuel. and_then (entering n (Err k) fuel) go) (goes_short (Err k)) (goes_on (Err k))

  goes_short_later : (m : ℕ) (a : A) (end : Result B ℕ) → ((fuel : ℕ) → go a fuel ≡ entering m end fuel) → (fuel : ℕ) → fuel < n + m → and_then (entering n (Ok a) fuel) go ≡ fault no_fuel 0
  goes_short_later m a end is fuel less =
      ⊎_elim
      (λ first. goes_short (Ok a) fuel first)
      (λ e. let P : ℕ → Type 0 = λ f. and_then (entering n (Ok a) f) go ≡ fault no_fuel 0 in
      subst P e.1 (goes_on (Ok a) e.0 ∙ is e.0 ∙ entering-short m end e.0 (omega (arith, e.1))))
      (cases_fuel n fuel)

  goes_on_later : (m : ℕ) (a : A) (end : Result B ℕ) → ((fuel : ℕ) → go a fuel ≡ entering m end fuel) → (left : ℕ) → and_then (entering n (Ok a) (n + m + left)) go ≡ answer end left
  goes_on_later m a end is left =
      let regroup : n + m + left ≡ n + (m + left) = omega arith in
      ap (λ f. and_then (entering n (Ok a) f) go) regroup ∙ goes_on (Ok a) (m + left) ∙ is (m + left) ∙ entering-enough m end left

  entering-and_then : (m : ℕ) (a : A) (end : Result B ℕ) → ((fuel : ℕ) → go a fuel ≡ entering m end fuel) → (fuel : ℕ) → and_then (entering n (Ok a) fuel) go ≡ entering (n + m) end fuel
  entering-and_then m a end is = is_entering (n + m) end (λ fuel. and_then (entering n (Ok a) fuel) go) (goes_short_later m a end is) (goes_on_later m a end is)

Enters-from : {A B : Type 0} (run : Run A) (go : A → Run B) (n : ℕ) (end : Result A ℕ) → ((fuel : ℕ) → run fuel ≡ entering n end fuel) → ((a : A) → Enters (go a)) → Enters (run >>= go)
Enters-from run go n (Ok a) is next = record {
  entered = n + (next a).entered;
  end = (next a).end;
  is = λ fuel. ap (λ x. and_then x go) (is fuel) ∙ entering-and_then n go (next a).entered a (next a).end (next a).is fuel;
}
Enters-from run go n (Err k) is next = record {
  entered = n;
  end = Err k;
  is = λ fuel. ap (λ x. and_then x go) (is fuel) ∙ entering-fault n go k fuel;
}

Enters->>= : {A B : Type 0} (run : Run A) (go : A → Run B) → Enters run → ((a : A) → Enters (go a)) → Enters (run >>= go)
Enters->>= run go r next = Enters-from run go r.entered r.end r.is next

-- ---- the forms

Enters-one : (f : Value → Answer) (a : Run Value) → Enters a → Enters (one f a)
Enters-one f a p = Enters->>= a _ p (λ v. Enters-answer (f v))

Enters-two : (f : Value → Value → Answer) (a b : Run Value) → Enters a → Enters b → Enters (two f a b)
Enters-two f a b p q = Enters->>= a _ p (λ v. Enters->>= b _ q (λ w. Enters-answer (f v w)))

Enters-three : (f : Value → Value → Value → Answer) (a b c : Run Value) → Enters a → Enters b → Enters c → Enters (three f a b c)
Enters-three f a b c p q r = Enters->>= a _ p (λ v. Enters->>= b _ q (λ w. Enters->>= c _ r (λ u. Enters-answer (f v w u))))

Enters-with_text : {A : Type 0} (v : Value) (go : List ℕ → Run A) → ((s : List ℕ) → Enters (go s)) → Enters (with_text v go)
Enters-with_text (text s) go p = p s
Enters-with_text (number n) go p = Enters-fault no_meaning
Enters-with_text (list ts) go p = Enters-fault no_meaning

Enters-with_number : {A : Type 0} (v : Value) (go : ℤ → Run A) → ((n : ℤ) → Enters (go n)) → Enters (with_number v go)
Enters-with_number (text s) go p = Enters-fault no_meaning
Enters-with_number (number n) go p = p n
Enters-with_number (list ts) go p = Enters-fault no_meaning

Enters-with_list : {A : Type 0} (v : Value) (go : List (List ℕ) → Run A) → ((ts : List (List ℕ)) → Enters (go ts)) → Enters (with_list v go)
Enters-with_list (text s) go p = Enters-fault no_meaning
Enters-with_list (number n) go p = Enters-fault no_meaning
Enters-with_list (list ts) go p = p ts

Enters-if : (b : Bool) (x y : Run Value) → Enters x → Enters y → Enters (if b then x else y)
Enters-if true x y p q = p
Enters-if false x y p q = q

Enters-each_from : (body : List ℕ → Run Value) → ((s : List ℕ) → Enters (body s)) → (so_far : Value) (items : List (List ℕ)) → Enters (each_from body so_far items)
Enters-each_from body p so_far [] = Enters-give so_far
Enters-each_from body p so_far (item ∷ items) = Enters->>= (body item) _ (p item) (λ v. Enters->>= _ _ (Enters-answer _) (λ more. Enters-each_from body p more items))

Enters-kept : (body : List ℕ → Run Value) → ((s : List ℕ) → Enters (body s)) → (items : List (List ℕ)) → Enters (kept body items)
Enters-kept body p [] = Enters-give []
Enters-kept body p (item ∷ items) =
    Enters->>= (body item) _ (p item) (λ v. Enters-with_number v _ (λ n. Enters->>= (kept body items) _ (Enters-kept body p items) (λ ts. Enters-give _)))

Enters-folded : (body : Value → List ℕ → Run Value) → ((v : Value) (s : List ℕ) → Enters (body v s)) → (so_far : Value) (items : List (List ℕ)) → Enters (folded body so_far items)
Enters-folded body p so_far [] = Enters-give so_far
Enters-folded body p so_far (item ∷ items) = Enters->>= (body so_far item) _ (p so_far item) (λ next. Enters-folded body p next items)

-- every expression, at any names
abbrev AlwaysEnters : Meaning → Type 0
AlwaysEnters m = (names : Names Value) → Enters (m names)

abbrev Part : Given → Type 0
Part given = Proved (λ e. AlwaysEnters (fold_tree (step given) e))

Enters-all_texts : (given : Given) (names : Names Value) (parts : List (Part given)) → Enters (all_texts (map (λ a. a names) (map (fold_tree (step given)) (map (λ t. t.0) parts))))
Enters-all_texts given names [] = Enters-give []
Enters-all_texts given names (part ∷ parts) =
    Enters->>= _ _ (part.1 names) (λ v. Enters-with_text v _ (λ s. Enters->>= _ _ (Enters-all_texts given names parts) (λ ts. Enters-give _)))

Enters-meaning : (given : Given) (y : Form (Part given)) (names : Names Value) → Enters (meaning given (at_parts (fold_tree (step given)) (parts_of y)) names)
Enters-meaning given (form.Text s) names = Enters-give _
Enters-meaning given (form.Number n) names = Enters-give _
Enters-meaning given (form.Var x) names = Enters-answer _
Enters-meaning given (form.Input k) names = Enters-answer _
Enters-meaning given (form.Key key) names = Enters-answer _
Enters-meaning given (form.Cat a b) names = Enters-two _ _ _ (a.1 names) (b.1 names)
Enters-meaning given (form.Len a) names = Enters-one _ _ (a.1 names)
Enters-meaning given (form.Sub a i j) names = Enters-three _ _ _ _ (a.1 names) (i.1 names) (j.1 names)
Enters-meaning given (form.Eq a b) names = Enters-two _ _ _ (a.1 names) (b.1 names)
Enters-meaning given (form.Has a b) names = Enters-two _ _ _ (a.1 names) (b.1 names)
Enters-meaning given (form.Num a) names = Enters-one _ _ (a.1 names)
Enters-meaning given (form.Str a) names = Enters-one _ _ (a.1 names)
Enters-meaning given (form.Add a b) names = Enters-two _ _ _ (a.1 names) (b.1 names)
Enters-meaning given (form.Minus a b) names = Enters-two _ _ _ (a.1 names) (b.1 names)
Enters-meaning given (form.Mul a b) names = Enters-two _ _ _ (a.1 names) (b.1 names)
Enters-meaning given (form.Div a b) names = Enters-two _ _ _ (a.1 names) (b.1 names)
Enters-meaning given (form.Mod a b) names = Enters-two _ _ _ (a.1 names) (b.1 names)
Enters-meaning given (form.Lt a b) names = Enters-two _ _ _ (a.1 names) (b.1 names)
Enters-meaning given (form.Same a b) names = Enters-two _ _ _ (a.1 names) (b.1 names)
Enters-meaning given (form.If c a b) names = Enters->>= _ _ (c.1 names) (λ v. Enters-with_number v _ (λ n. Enters-if _ _ _ (b.1 names) (a.1 names)))
Enters-meaning given (form.Let x a b) names = Enters->>= _ _ (a.1 names) (λ v. b.1 _)
Enters-meaning given (form.Lines a) names = Enters-one _ _ (a.1 names)
Enters-meaning given (form.Split a s) names = Enters-two _ _ _ (a.1 names) (s.1 names)
Enters-meaning given (form.Join m s) names = Enters-two _ _ _ (m.1 names) (s.1 names)
Enters-meaning given (form.List parts) names = Enters->>= _ _ (Enters-all_texts given names parts) (λ ts. Enters-answer _)
Enters-meaning given (form.Append m a) names = Enters-two _ _ _ (m.1 names) (a.1 names)
Enters-meaning given (form.At m i) names = Enters-two _ _ _ (m.1 names) (i.1 names)
Enters-meaning given (form.Count m) names = Enters-one _ _ (m.1 names)
Enters-meaning given (form.Sort m) names = Enters-one _ _ (m.1 names)
Enters-meaning given (form.Each x m a) names = Enters->>= _ _ (m.1 names) (λ v. Enters-with_list v _ (λ ts. Enters-each_from _ (λ s. a.1 _) _ ts))
Enters-meaning given (form.Keep x m a) names = Enters->>= _ _ (m.1 names) (λ v. Enters->>= _ _ (Enters-with_list v _ (λ ts. Enters-kept _ (λ s. a.1 _) ts)) (λ ts. Enters-give _))
Enters-meaning given (form.Fold s x m i a) names =
    Enters->>= _ _ (m.1 names) (λ v. Enters->>= _ _ (i.1 names) (λ start. Enters-with_list v _ (λ ts. Enters-folded _ (λ so_far item. a.1 _) start ts)))

pub Enters-evaluate : (given : Given) (e : Expr) (names : Names Value) → Enters (evaluate given e names)
Enters-evaluate given = along_tree (step given) AlwaysEnters (λ y names. Enters-enter _ (Enters-meaning given y names))
