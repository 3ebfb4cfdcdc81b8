-- An expression of a kind gives a value of that kind, or a fault of the language.
use Rattle.std.proofs.Common.{◌≡◌, ◌≤◌, ◌<◌, ℤ, pos, negsuc, ◌+ℤ◌, ◌-ℤ◌, ◌*ℤ◌, ℕ, zero, suc, Bool, true, false, nat_lt, if◌then◌else◌, cond, bytes_eq, List, [], ◌∷◌, ◌++◌, map, length, slice_get, slice_range, int_div, int_rem, ◌==◌, Option, Some, None, ok_or, option_map, Result, Ok, Err, sym, ◌∙◌, ap, refl, subst, arith}
use Rattle.std.proofs.lemmas.Bool.{and_parts, ltb-true}
use Rattle.std.specs.List.{slice_split}
use Rattle.std.specs.Str.Parse.{signed_digits_value}
use Rattle.tl_lang.specs.declared.expr.Expr.{Expr}
use Rattle.tl_lang.specs.declared.expr.Expr.TheOpen as form
use Rattle.tl_lang.specs.declared.kind.Kind.{Kind}
use Rattle.tl_lang.specs.declared.kind.Kind.TheVariants as kind
use Rattle.tl_lang.specs.Tree.{Form, fold_tree, at_parts}
use Rattle.tl_lang.specs.Value.{no_meaning, Value, text, number, list, Answer, too_long, overflow, zero_divisor, bad_number, out_of_range, text_within, number_within, list_within, on_text, on_number, on_list, on_texts, on_numbers, on_list_text, truth}
use Rattle.tl_lang.specs.Texts.{cat, len, sub, eq, has, num, str}
use Rattle.tl_lang.specs.Numbers.{add, minus, mul, div, overflows, mod', lt, same}
use Rattle.tl_lang.specs.Lists.{without_empty_last, lines, split, joined, join, append, at, count, sort}
use Rattle.tl_lang.specs.Fuel.{Ending, done, fault, Run, enter, answer, ◌>>=◌, and_then}
use Rattle.tl_lang.specs.Names.{Names, visible}
use Rattle.tl_lang.specs.Meaning.{Given, Meaning, one, two, three, with_text, with_number, with_list, all_texts, each_from, kept, folded, meaning, step, evaluate}
use Rattle.tl_lang.specs.Kinds.{unbound, no_input, Judged, and_then as judged_then, same_kind, same_kinds, in_order, takes, branches, Kinding, kinds_step, kind_of, kind_of_value, Agree, IsFault, EndsWith, IsOfKind}
use Rattle.tl_lang.proofs.Trees.{along_trees, Proved, parts_of}

-- ---- what the kind rules say where they give a kind

same_kind-true : (p q : Kind) → same_kind p q ≡ true → p ≡ q
same_kind-true kind.Text kind.Text e = refl
same_kind-true kind.Number kind.Number e = refl
same_kind-true kind.List kind.List e = refl
same_kind-true kind.Text kind.Number e = cc
same_kind-true kind.Text kind.List e = cc
same_kind-true kind.Number kind.Text e = cc
same_kind-true kind.Number kind.List e = cc
same_kind-true kind.List kind.Text e = cc
same_kind-true kind.List kind.Number e = cc

same_kinds-true : (ks ws : List Kind) → same_kinds ks ws ≡ true → ks ≡ ws
same_kinds-true [] [] e = refl
same_kinds-true (k ∷ ks) (w ∷ ws) e =
    let parts = and_parts (same_kind k w) (same_kinds ks ws) e in
    let first : k ≡ w = same_kind-true k w parts.0 in
    let rest : ks ≡ ws = same_kinds-true ks ws parts.1 in
    cc
same_kinds-true [] (w ∷ ws) e = cc
same_kinds-true (k ∷ ks) [] e = cc

judged_then-ok : {A B : Type 0} (r : Result A ℕ) (go : A → Result B ℕ) (b : B) → judged_then r go ≡ Ok b → (a : A) × (r ≡ Ok a) × (go a ≡ Ok b)
judged_then-ok (Ok a) go b e = (a, refl, e)
judged_then-ok (Err k) go b e = absurd (cc)

if-ok : (t : Bool) (g k : Kind) (n : ℕ) → (if t then Ok g else Err n) ≡ Ok k → (t ≡ true) × (g ≡ k)
if-ok true g k n e = (refl, cc)
if-ok false g k n e = absurd (cc)

takes-ok : (wanted : List Kind) (g k : Kind) (parts : List Judged) → takes wanted g parts ≡ Ok k → (in_order parts ≡ Ok wanted) × (g ≡ k)
takes-ok wanted g k parts e =
    let there = judged_then-ok (in_order parts) _ k e in
    let fits = if-ok _ g k _ there.2 in
    (there.1 ∙ ap Ok (same_kinds-true there.0 wanted fits.0), fits.1)

abbrev first_kinds : List Kind → Result (List Kind) ℕ
first_kinds ks = Ok ks

in_order-cons : (p : Judged) (ps : List Judged) (k : Kind) (ks : List Kind) → in_order (p ∷ ps) ≡ Ok (k ∷ ks) → (p ≡ Ok k) × (in_order ps ≡ Ok ks)
in_order-cons p ps k ks e =
    let first = judged_then-ok p _ (k ∷ ks) e in
    let rest = judged_then-ok (in_order ps) _ (k ∷ ks) first.2 in
    let whole : first_kinds (first.0 ∷ rest.0) ≡ first_kinds (k ∷ ks) = rest.2 in
    let head : first.0 ≡ k = cc in
    let tail : rest.0 ≡ ks = cc in
    (first.1 ∙ ap Ok head, rest.1 ∙ ap Ok tail)

branches-ok : (c a b : Judged) (k : Kind) → branches c a b ≡ Ok k → (c ≡ Ok kind.Number) × (a ≡ Ok k) × (b ≡ Ok k)
branches-ok c a b k e =
    let n = judged_then-ok c _ k e in
    let p = judged_then-ok a _ k n.2 in
    let q = judged_then-ok b _ k p.2 in
    let fits = if-ok _ p.0 k _ q.2 in
    let tests = and_parts (same_kind n.0 kind.Number) (same_kind p.0 q.0) fits.0 in (
      n.1 ∙ ap Ok (same_kind-true n.0 kind.Number tests.0),
      p.1 ∙ ap Ok fits.1,
      q.1 ∙ ap Ok (sym (same_kind-true p.0 q.0 tests.1) ∙ fits.1),
    )

-- ---- evaluations that give what they should

abbrev Gives : {A : Type 0} → (A → Type 0) → Run A → Type 0
Gives P run = (fuel : ℕ) → EndsWith P (run fuel)

EndsWith-and_then : {A B : Type 0} (P : A → Type 0) (Q : B → Type 0) (x : Ending A) (go : A → Run B) → EndsWith P x → ((a : A) → P a → Gives Q (go a)) → EndsWith Q (and_then x go)
EndsWith-and_then P Q (done a left) go p next = next a p left
EndsWith-and_then P Q (fault k left) go p next = p

Gives->>= : {A B : Type 0} (P : A → Type 0) (Q : B → Type 0) (run : Run A) (go : A → Run B) → Gives P run → ((a : A) → P a → Gives Q (go a)) → Gives Q (run >>= go)
Gives->>= P Q run go p next fuel = EndsWith-and_then P Q (run fuel) go (p fuel) next

Gives-enter : {A : Type 0} (P : A → Type 0) (run : Run A) → Gives P run → Gives P (enter run)
Gives-enter P run p zero = (omega arith, omega arith)
Gives-enter P run p (suc fuel) = p fuel

-- an answer of this kind, or a fault
abbrev Fine : Kind → Answer → Type 0
Fine k (Ok v) = IsOfKind k v
Fine k (Err n) = IsFault n

Gives-answer : (k : Kind) (a : Answer) → Fine k a → Gives (IsOfKind k) (answer a)
Gives-answer k (Ok v) p fuel = p
Gives-answer k (Err n) p fuel = p

Fine-if : (k : Kind) (t : Bool) (x y : Answer) → Fine k x → Fine k y → Fine k (if t then x else y)
Fine-if k true x y p q = p
Fine-if k false x y p q = q

Fine-unless : (k : Kind) (n : ℕ) → IsFault n → (t : Bool) (x : Answer) → Fine k x → Fine k (if t then x else Err n)
Fine-unless k n f true x p = p
Fine-unless k n f false x p = f

Fine-after : (k : Kind) (n : ℕ) → IsFault n → (t : Bool) (y : Answer) → Fine k y → Fine k (if t then Err n else y)
Fine-after k n f true y p = f
Fine-after k n f false y p = p

a_fault : (n : ℕ) → 1 ≤ n → n ≤ 7 → IsFault n
a_fault n low high = (low, high)

Fine-on_text : (k : Kind) (f : List ℕ → Answer) → ((s : List ℕ) → Fine k (f s)) → (v : Value) → IsOfKind kind.Text v → Fine k (on_text f v)
Fine-on_text k f p (text s) e = p s
Fine-on_text k f p (number n) e = absurd (cc)
Fine-on_text k f p (list ts) e = absurd (cc)

Fine-on_number : (k : Kind) (f : ℤ → Answer) → ((n : ℤ) → Fine k (f n)) → (v : Value) → IsOfKind kind.Number v → Fine k (on_number f v)
Fine-on_number k f p (text s) e = absurd (cc)
Fine-on_number k f p (number n) e = p n
Fine-on_number k f p (list ts) e = absurd (cc)

Fine-on_list : (k : Kind) (f : List (List ℕ) → Answer) → ((ts : List (List ℕ)) → Fine k (f ts)) → (v : Value) → IsOfKind kind.List v → Fine k (on_list f v)
Fine-on_list k f p (text s) e = absurd (cc)
Fine-on_list k f p (number n) e = absurd (cc)
Fine-on_list k f p (list ts) e = p ts

Fine-on_texts : (k : Kind) (f : List ℕ → List ℕ → Answer) → ((s t : List ℕ) → Fine k (f s t)) → (v w : Value) → IsOfKind kind.Text v → IsOfKind kind.Text w → Fine k (on_texts f v w)
Fine-on_texts k f p v w e d = Fine-on_text k (λ s. on_text (f s) w) (λ s. Fine-on_text k (f s) (p s) w d) v e

Fine-on_numbers : (k : Kind) (f : ℤ → ℤ → Answer) → ((a b : ℤ) → Fine k (f a b)) → (v w : Value) → IsOfKind kind.Number v → IsOfKind kind.Number w → Fine k (on_numbers f v w)
Fine-on_numbers k f p v w e d = Fine-on_number k (λ a. on_number (f a) w) (λ a. Fine-on_number k (f a) (p a) w d) v e

Fine-on_list_text : (k : Kind) (f : List (List ℕ) → List ℕ → Answer) → ((ts : List (List ℕ)) (s : List ℕ) → Fine k (f ts s)) → (v w : Value) → IsOfKind kind.List v → IsOfKind kind.Text w → Fine k (on_list_text f v w)
Fine-on_list_text k f p v w e d = Fine-on_list k (λ ts. on_text (f ts) w) (λ ts. Fine-on_text k (f ts) (p ts) w d) v e

-- ---- the forms

Fine-truth : (t : Bool) → Fine kind.Number (truth t)
Fine-truth t = refl

Fine-text_within : (s : List ℕ) → Fine kind.Text (text_within s)
Fine-text_within s = Fine-unless kind.Text too_long (omega arith, omega arith) _ (Ok (text s)) refl

Fine-number_within : (n : ℤ) → Fine kind.Number (number_within n)
Fine-number_within n = Fine-unless kind.Number overflow (omega arith, omega arith) _ (Ok (number n)) refl

Fine-list_within : (ts : List (List ℕ)) → Fine kind.List (list_within ts)
Fine-list_within ts = Fine-unless kind.List too_long (omega arith, omega arith) _ (Ok (list ts)) refl

Fine-cat : (s t : List ℕ) → Fine kind.Text (cat s t)
Fine-cat s t = Fine-text_within (s ++ t)

Fine-join : (ts : List (List ℕ)) (s : List ℕ) → Fine kind.Text (join ts s)
Fine-join ts s = Fine-text_within (joined s ts)

Fine-append : (ts : List (List ℕ)) (s : List ℕ) → Fine kind.List (append ts s)
Fine-append ts s = Fine-list_within (ts ++ s ∷ [])

Fine-lines : (s : List ℕ) → Fine kind.List (lines s)
Fine-lines s = Fine-list_within (without_empty_last (slice_split (λ c. c == 10) s))

Fine-sub : (s : List ℕ) (i j : ℤ) → Fine kind.Text (sub s i j)
Fine-sub s (pos i) (pos j) = Fine-unless kind.Text out_of_range (omega arith, omega arith) _ (Ok (text (slice_range s i j))) refl
Fine-sub s (pos i) (negsuc j) = (omega arith, omega arith)
Fine-sub s (negsuc i) j = (omega arith, omega arith)

Fine-num : (s : List ℕ) → Fine kind.Number (num s)
Fine-num s = Fine-unless kind.Number bad_number (omega arith, omega arith) _ (Ok (number (signed_digits_value 10 s))) refl

Fine-div : (a b : ℤ) → Fine kind.Number (div a b)
Fine-div a b = Fine-after kind.Number zero_divisor (omega arith, omega arith) _ (number_within (int_div a b)) (Fine-number_within (int_div a b))

Fine-mod : (a b : ℤ) → Fine kind.Number (mod' a b)
Fine-mod a b =
    let rest : Fine kind.Number (if overflows a b then Err overflow else Ok (number (int_rem a b))) = Fine-after kind.Number overflow (omega arith, omega arith) _ (Ok (number (int_rem a b))) refl in
    Fine-after kind.Number zero_divisor (omega arith, omega arith) _ _ rest

Fine-split : (s t : List ℕ) → Fine kind.List (split s t)
Fine-split s [] = (omega arith, omega arith)
Fine-split s (c ∷ []) = Fine-list_within (slice_split (λ x. x == c) s)
Fine-split s (b ∷ c ∷ more) = (omega arith, omega arith)

Fine-found : (o : Option (List ℕ)) (n : ℕ) → IsFault n → Fine kind.Text (ok_or (option_map text o) n)
Fine-found None n p = p
Fine-found (Some s) n p = refl

Fine-at : (ts : List (List ℕ)) (i : ℤ) → Fine kind.Text (at ts i)
Fine-at ts (pos i) = Fine-found (slice_get ts i) _ (omega arith, omega arith)
Fine-at ts (negsuc i) = (omega arith, omega arith)

-- ---- names

Fine-if_visible : (t : Bool) (s k : Kind) (v : Value) (o : Option Kind) (w : Option Value) → kind_of_value v ≡ s → ok_or (cond t (Some s) o) unbound ≡ Ok k → (ok_or o unbound ≡ Ok k → Fine k (ok_or w no_meaning)) → Fine k (ok_or (cond t (Some v) w) no_meaning)
Fine-if_visible true s k v o w d e later = d ∙ (let same : s ≡ k = cc in same)
Fine-if_visible false s k v o w d e later = later e

Fine-visible : (scope : Names Kind) (names : Names Value) → Agree scope names → (x : List ℕ) (k : Kind) → ok_or (visible x scope) unbound ≡ Ok k → Fine k (ok_or (visible x names) no_meaning)
Fine-visible [] [] agree x k e = absurd (cc)
Fine-visible [] (v ∷ names) agree x k e = absurd agree
Fine-visible (s ∷ scope) [] agree x k e = absurd agree
Fine-visible (s ∷ scope) (v ∷ names) agree x k e =
    subst (λ n. Fine k (ok_or (cond (bytes_eq x n) (Some v.1) (visible x names)) no_meaning)) agree.0
    (Fine-if_visible (bytes_eq x s.0) s.1 k v.1 (visible x scope) (visible x names) agree.1 e (Fine-visible scope names agree.2 x k))

Fine-input : (inputs : List (List ℕ)) (i : ℕ) → i < length inputs → Fine kind.Text (ok_or (option_map text (slice_get inputs i)) no_meaning)
Fine-input [] i less = absurd (omega arith)
Fine-input (s ∷ inputs) zero less = refl
Fine-input (s ∷ inputs) (suc i) less = Fine-input inputs i (omega arith)

-- ---- the forms on evaluations

Gives-with_text : {A : Type 0} (P : A → Type 0) (v : Value) (go : List ℕ → Run A) → IsOfKind kind.Text v → ((s : List ℕ) → Gives P (go s)) → Gives P (with_text v go)
Gives-with_text P (text s) go e p = p s
Gives-with_text P (number n) go e p = absurd (cc)
Gives-with_text P (list ts) go e p = absurd (cc)

Gives-with_number : {A : Type 0} (P : A → Type 0) (v : Value) (go : ℤ → Run A) → IsOfKind kind.Number v → ((n : ℤ) → Gives P (go n)) → Gives P (with_number v go)
Gives-with_number P (text s) go e p = absurd (cc)
Gives-with_number P (number n) go e p = p n
Gives-with_number P (list ts) go e p = absurd (cc)

Gives-with_list : {A : Type 0} (P : A → Type 0) (v : Value) (go : List (List ℕ) → Run A) → IsOfKind kind.List v → ((ts : List (List ℕ)) → Gives P (go ts)) → Gives P (with_list v go)
Gives-with_list P (text s) go e p = absurd (cc)
Gives-with_list P (number n) go e p = absurd (cc)
Gives-with_list P (list ts) go e p = p ts

Gives-if : {A : Type 0} (P : A → Type 0) (t : Bool) (x y : Run A) → Gives P x → Gives P y → Gives P (if t then x else y)
Gives-if P true x y p q = p
Gives-if P false x y p q = q

-- any result will do
abbrev Anything : {A : Type 0} → A → Type 0
Anything a = Unit {0}

Gives-each_from : (body : List ℕ → Run Value) → ((s : List ℕ) → Gives (IsOfKind kind.Text) (body s)) → (so_far : Value) → IsOfKind kind.List so_far → (items : List (List ℕ)) → Gives (IsOfKind kind.List) (each_from body so_far items)
Gives-each_from body p so_far e [] = λ fuel. e
Gives-each_from body p so_far e (item ∷ items) =
    Gives->>= (IsOfKind kind.Text) (IsOfKind kind.List) (body item) _ (p item) (λ v d.
    Gives->>= (IsOfKind kind.List) (IsOfKind kind.List) _ _ (Gives-answer kind.List _ (Fine-on_list_text kind.List append Fine-append so_far v e d)) (λ more h.
    Gives-each_from body p more h items))

Gives-kept : (body : List ℕ → Run Value) → ((s : List ℕ) → Gives (IsOfKind kind.Number) (body s)) → (items : List (List ℕ)) → Gives Anything (kept body items)
Gives-kept body p [] = λ fuel. tt
Gives-kept body p (item ∷ items) =
    Gives->>= (IsOfKind kind.Number) Anything (body item) _ (p item) (λ v d.
    Gives-with_number Anything v _ d (λ n. Gives->>= Anything Anything (kept body items) _ (Gives-kept body p items) (λ ts h fuel. tt)))

Gives-folded : (k : Kind) (body : Value → List ℕ → Run Value) → ((v : Value) (s : List ℕ) → IsOfKind k v → Gives (IsOfKind k) (body v s)) → (so_far : Value) → IsOfKind k so_far → (items : List (List ℕ)) → Gives (IsOfKind k) (folded body so_far items)
Gives-folded k body p so_far e [] = λ fuel. e
Gives-folded k body p so_far e (item ∷ items) = Gives->>= (IsOfKind k) (IsOfKind k) (body so_far item) _ (p so_far item e) (λ next h. Gives-folded k body p next h items)

-- ---- the forms with their kinds

Kept-one : (w g k : Kind) (p : Judged) (f : Value → Answer) (a : Run Value) → takes (w ∷ []) g (p ∷ []) ≡ Ok k → (p ≡ Ok w → Gives (IsOfKind w) a) → ((v : Value) → IsOfKind w v → Fine g (f v)) → Gives (IsOfKind k) (one f a)
Kept-one w g k p f a e first fine =
    let fits = takes-ok (w ∷ []) g k (p ∷ []) e in
    let one_of = in_order-cons p [] w [] fits.0 in
    subst (λ k. Gives (IsOfKind k) (one f a)) fits.1
    (Gives->>= (IsOfKind w) (IsOfKind g) a _ (first one_of.0) (λ v d. Gives-answer g (f v) (fine v d)))

Kept-two : (w u g k : Kind) (p q : Judged) (f : Value → Value → Answer) (a b : Run Value) → takes (w ∷ u ∷ []) g (p ∷ q ∷ []) ≡ Ok k → (p ≡ Ok w → Gives (IsOfKind w) a) → (q ≡ Ok u → Gives (IsOfKind u) b) → ((v x : Value) → IsOfKind w v → IsOfKind u x → Fine g (f v x)) → Gives (IsOfKind k) (two f a b)
Kept-two w u g k p q f a b e first second fine =
    let fits = takes-ok (w ∷ u ∷ []) g k (p ∷ q ∷ []) e in
    let one_of = in_order-cons p (q ∷ []) w (u ∷ []) fits.0 in
    let two_of = in_order-cons q [] u [] one_of.1 in
    subst (λ k. Gives (IsOfKind k) (two f a b)) fits.1
    (Gives->>= (IsOfKind w) (IsOfKind g) a _ (first one_of.0) (λ v d.
    Gives->>= (IsOfKind u) (IsOfKind g) b _ (second two_of.0) (λ x h. Gives-answer g (f v x) (fine v x d h))))

Kept-three : (w u t g k : Kind) (p q r : Judged) (f : Value → Value → Value → Answer) (a b c : Run Value) → takes (w ∷ u ∷ t ∷ []) g (p ∷ q ∷ r ∷ []) ≡ Ok k → (p ≡ Ok w → Gives (IsOfKind w) a) → (q ≡ Ok u → Gives (IsOfKind u) b) → (r ≡ Ok t → Gives (IsOfKind t) c) → ((v x y : Value) → IsOfKind w v → IsOfKind u x → IsOfKind t y → Fine g (f v x y)) → Gives (IsOfKind k) (three f a b c)
Kept-three w u t g k p q r f a b c e first second third fine =
    let fits = takes-ok (w ∷ u ∷ t ∷ []) g k (p ∷ q ∷ r ∷ []) e in
    let one_of = in_order-cons p (q ∷ r ∷ []) w (u ∷ t ∷ []) fits.0 in
    let two_of = in_order-cons q (r ∷ []) u (t ∷ []) one_of.1 in
    let three_of = in_order-cons r [] t [] two_of.1 in
    subst (λ k. Gives (IsOfKind k) (three f a b c)) fits.1
    (Gives->>= (IsOfKind w) (IsOfKind g) a _ (first one_of.0) (λ v d.
    Gives->>= (IsOfKind u) (IsOfKind g) b _ (second two_of.0) (λ x h.
    Gives->>= (IsOfKind t) (IsOfKind g) c _ (third three_of.0) (λ y j. Gives-answer g (f v x y) (fine v x y d h j)))))

-- ---- every expression

abbrev Keeps : ℕ → Kinding → Meaning → Type 0
Keeps inputs kinding m = (scope : Names Kind) (names : Names Value) (k : Kind) → kinding scope ≡ Ok k → Agree scope names → Gives (IsOfKind k) (m names)

abbrev Part : Given → Type 0
Part given = Proved (λ e. Keeps (length given.inputs) (fold_tree (kinds_step (length given.inputs)) e) (fold_tree (step given) e))

abbrev judged : (given : Given) → Names Kind → Part given → Judged
judged given scope part = fold_tree (kinds_step (length given.inputs)) part.0 scope

abbrev all_judged : (given : Given) → Names Kind → List (Part given) → List Judged
all_judged given scope parts = map (λ a. a scope) (map (fold_tree (kinds_step (length given.inputs))) (map (λ t. t.0) parts))

abbrev all_texts_of : (given : Given) → List (Part given) → List Kind
all_texts_of given parts = map (λ a. kind.Text) (map (fold_tree (kinds_step (length given.inputs))) (map (λ t. t.0) parts))

Gives-all_texts : (given : Given) (scope : Names Kind) (names : Names Value) → Agree scope names → (parts : List (Part given))
    → in_order (all_judged given scope parts) ≡ Ok (all_texts_of given parts)
    → Gives Anything (all_texts (map (λ a. a names) (map (fold_tree (step given)) (map (λ t. t.0) parts))))
Gives-all_texts given scope names agree [] e = λ fuel. tt
Gives-all_texts given scope names agree (part ∷ parts) e =
    let one_of = in_order-cons (judged given scope part) (all_judged given scope parts) kind.Text (all_texts_of given parts) e in
    Gives->>= (IsOfKind kind.Text) Anything _ _ (part.1 scope names kind.Text one_of.0 agree) (λ v d.
    Gives-with_text Anything v _ d (λ s. Gives->>= Anything Anything _ _ (Gives-all_texts given scope names agree parts one_of.1) (λ ts h fuel. tt)))

Kept-meaning : (given : Given) (y : Form (Part given)) → Keeps (length given.inputs)
    (kinds_step (length given.inputs) (at_parts (fold_tree (kinds_step (length given.inputs))) (parts_of y)))
    (meaning given (at_parts (fold_tree (step given)) (parts_of y)))
Kept-meaning given (form.Text s) scope names k e agree = let same : kind.Text ≡ k = cc in (λ fuel. same)
Kept-meaning given (form.Number n) scope names k e agree = let same : kind.Number ≡ k = cc in (λ fuel. same)
Kept-meaning given (form.Var x) scope names k e agree = Gives-answer k _ (Fine-visible scope names agree x k e)
Kept-meaning given (form.Input i) scope names k e agree =
    let fits = if-ok (nat_lt i (length given.inputs)) kind.Text k no_input e in
    subst (λ k. Gives (IsOfKind k) (meaning given (form.Input i) names)) fits.1 (Gives-answer kind.Text _ (Fine-input given.inputs i (ltb-true _ _ fits.0)))
Kept-meaning given (form.Key key) scope names k e agree =
    let same : kind.Text ≡ k = cc in
    subst (λ k. Gives (IsOfKind k) (meaning given (form.Key key) names)) same (Gives-answer kind.Text _ (Fine-found _ _ (omega arith, omega arith)))
Kept-meaning given (form.Cat a b) scope names k e agree =
    Kept-two kind.Text kind.Text kind.Text k (judged given scope a) (judged given scope b) _ _ _ e (λ h. a.1 scope names _ h agree) (λ h. b.1 scope names _ h agree) (Fine-on_texts kind.Text cat Fine-cat)
Kept-meaning given (form.Len a) scope names k e agree =
    Kept-one kind.Text kind.Number k (judged given scope a) _ _ e (λ h. a.1 scope names _ h agree) (Fine-on_text kind.Number len (λ s. refl))
Kept-meaning given (form.Sub a i j) scope names k e agree =
    Kept-three kind.Text kind.Number kind.Number kind.Text k (judged given scope a) (judged given scope i) (judged given scope j) _ _ _ _ e (λ h. a.1 scope names _ h agree) (λ h. i.1 scope names _ h agree) (λ h. j.1 scope names _ h agree)
    (λ v p q d h g. Fine-on_text kind.Text _ (λ s. Fine-on_numbers kind.Text (sub s) (Fine-sub s) p q h g) v d)
Kept-meaning given (form.Eq a b) scope names k e agree =
    Kept-two kind.Text kind.Text kind.Number k (judged given scope a) (judged given scope b) _ _ _ e (λ h. a.1 scope names _ h agree) (λ h. b.1 scope names _ h agree) (Fine-on_texts kind.Number eq (λ s t. refl))
Kept-meaning given (form.Has a b) scope names k e agree =
    Kept-two kind.Text kind.Text kind.Number k (judged given scope a) (judged given scope b) _ _ _ e (λ h. a.1 scope names _ h agree) (λ h. b.1 scope names _ h agree) (Fine-on_texts kind.Number has (λ s t. refl))
Kept-meaning given (form.Num a) scope names k e agree =
    Kept-one kind.Text kind.Number k (judged given scope a) _ _ e (λ h. a.1 scope names _ h agree) (Fine-on_text kind.Number num Fine-num)
Kept-meaning given (form.Str a) scope names k e agree =
    Kept-one kind.Number kind.Text k (judged given scope a) _ _ e (λ h. a.1 scope names _ h agree) (Fine-on_number kind.Text str (λ n. refl))
Kept-meaning given (form.Add a b) scope names k e agree =
    Kept-two kind.Number kind.Number kind.Number k (judged given scope a) (judged given scope b) _ _ _ e (λ h. a.1 scope names _ h agree) (λ h. b.1 scope names _ h agree) (Fine-on_numbers kind.Number add (λ m n. Fine-number_within (m +ℤ n)))
Kept-meaning given (form.Minus a b) scope names k e agree =
    Kept-two kind.Number kind.Number kind.Number k (judged given scope a) (judged given scope b) _ _ _ e (λ h. a.1 scope names _ h agree) (λ h. b.1 scope names _ h agree) (Fine-on_numbers kind.Number minus (λ m n. Fine-number_within (m -ℤ n)))
Kept-meaning given (form.Mul a b) scope names k e agree =
    Kept-two kind.Number kind.Number kind.Number k (judged given scope a) (judged given scope b) _ _ _ e (λ h. a.1 scope names _ h agree) (λ h. b.1 scope names _ h agree) (Fine-on_numbers kind.Number mul (λ m n. Fine-number_within (m *ℤ n)))
Kept-meaning given (form.Div a b) scope names k e agree =
    Kept-two kind.Number kind.Number kind.Number k (judged given scope a) (judged given scope b) _ _ _ e (λ h. a.1 scope names _ h agree) (λ h. b.1 scope names _ h agree) (Fine-on_numbers kind.Number div Fine-div)
Kept-meaning given (form.Mod a b) scope names k e agree =
    Kept-two kind.Number kind.Number kind.Number k (judged given scope a) (judged given scope b) _ _ _ e (λ h. a.1 scope names _ h agree) (λ h. b.1 scope names _ h agree) (Fine-on_numbers kind.Number mod' Fine-mod)
Kept-meaning given (form.Lt a b) scope names k e agree =
    Kept-two kind.Number kind.Number kind.Number k (judged given scope a) (judged given scope b) _ _ _ e (λ h. a.1 scope names _ h agree) (λ h. b.1 scope names _ h agree) (Fine-on_numbers kind.Number lt (λ m n. refl))
Kept-meaning given (form.Same a b) scope names k e agree =
    Kept-two kind.Number kind.Number kind.Number k (judged given scope a) (judged given scope b) _ _ _ e (λ h. a.1 scope names _ h agree) (λ h. b.1 scope names _ h agree) (Fine-on_numbers kind.Number same (λ m n. refl))
Kept-meaning given (form.If c a b) scope names k e agree =
    let fits = branches-ok (judged given scope c) (judged given scope a) (judged given scope b) k e in
    Gives->>= (IsOfKind kind.Number) (IsOfKind k) _ _ (c.1 scope names _ fits.0 agree) (λ v d.
    Gives-with_number (IsOfKind k) v _ d (λ n. Gives-if (IsOfKind k) _ _ _ (b.1 scope names k fits.2 agree) (a.1 scope names k fits.1 agree)))
Kept-meaning given (form.Let x a b) scope names k e agree =
    let fits = judged_then-ok (judged given scope a) _ k e in
    Gives->>= (IsOfKind fits.0) (IsOfKind k) _ _ (a.1 scope names fits.0 fits.1 agree) (λ v d. b.1 ((x, fits.0) ∷ scope) ((x, v) ∷ names) k fits.2 (refl, d, agree))
Kept-meaning given (form.Lines a) scope names k e agree =
    Kept-one kind.Text kind.List k (judged given scope a) _ _ e (λ h. a.1 scope names _ h agree) (Fine-on_text kind.List lines Fine-lines)
Kept-meaning given (form.Split a s) scope names k e agree =
    Kept-two kind.Text kind.Text kind.List k (judged given scope a) (judged given scope s) _ _ _ e (λ h. a.1 scope names _ h agree) (λ h. s.1 scope names _ h agree) (Fine-on_texts kind.List split Fine-split)
Kept-meaning given (form.Join m s) scope names k e agree =
    Kept-two kind.List kind.Text kind.Text k (judged given scope m) (judged given scope s) _ _ _ e (λ h. m.1 scope names _ h agree) (λ h. s.1 scope names _ h agree) (Fine-on_list_text kind.Text join Fine-join)
Kept-meaning given (form.List parts) scope names k e agree =
    let fits = takes-ok (all_texts_of given parts) kind.List k (all_judged given scope parts) e in
    subst (λ k. Gives (IsOfKind k) (meaning given (at_parts (fold_tree (step given)) (parts_of (form.List parts))) names)) fits.1
    (Gives->>= Anything (IsOfKind kind.List) _ _ (Gives-all_texts given scope names agree parts fits.0) (λ ts h. Gives-answer kind.List _ (Fine-list_within ts)))
Kept-meaning given (form.Append m a) scope names k e agree =
    Kept-two kind.List kind.Text kind.List k (judged given scope m) (judged given scope a) _ _ _ e (λ h. m.1 scope names _ h agree) (λ h. a.1 scope names _ h agree) (Fine-on_list_text kind.List append Fine-append)
Kept-meaning given (form.At m i) scope names k e agree =
    Kept-two kind.List kind.Number kind.Text k (judged given scope m) (judged given scope i) _ _ _ e (λ h. m.1 scope names _ h agree) (λ h. i.1 scope names _ h agree)
    (λ v w d h. Fine-on_list kind.Text _ (λ ts. Fine-on_number kind.Text (at ts) (Fine-at ts) w h) v d)
Kept-meaning given (form.Count m) scope names k e agree =
    Kept-one kind.List kind.Number k (judged given scope m) _ _ e (λ h. m.1 scope names _ h agree) (Fine-on_list kind.Number count (λ ts. refl))
Kept-meaning given (form.Sort m) scope names k e agree =
    Kept-one kind.List kind.List k (judged given scope m) _ _ e (λ h. m.1 scope names _ h agree) (Fine-on_list kind.List sort (λ ts. refl))
Kept-meaning given (form.Each x m a) scope names k e agree =
    let fits = takes-ok (kind.List ∷ kind.Text ∷ []) kind.List k (judged given scope m ∷ (fold_tree (kinds_step (length given.inputs)) a.0 ((x, kind.Text) ∷ scope)) ∷ []) e in
    let one_of = in_order-cons (judged given scope m) ((fold_tree (kinds_step (length given.inputs)) a.0 ((x, kind.Text) ∷ scope)) ∷ []) kind.List (kind.Text ∷ []) fits.0 in
    let two_of = in_order-cons (fold_tree (kinds_step (length given.inputs)) a.0 ((x, kind.Text) ∷ scope)) [] kind.Text [] one_of.1 in
    subst (λ k. Gives (IsOfKind k) (meaning given (at_parts (fold_tree (step given)) (parts_of (form.Each x m a))) names)) fits.1
    (Gives->>= (IsOfKind kind.List) (IsOfKind kind.List) _ _ (m.1 scope names _ one_of.0 agree) (λ v d.
    Gives-with_list (IsOfKind kind.List) v _ d (λ ts.
    Gives-each_from _ (λ s. a.1 ((x, kind.Text) ∷ scope) ((x, text s) ∷ names) kind.Text two_of.0 (refl, refl, agree)) (list []) refl ts)))
Kept-meaning given (form.Keep x m a) scope names k e agree =
    let fits = takes-ok (kind.List ∷ kind.Number ∷ []) kind.List k (judged given scope m ∷ (fold_tree (kinds_step (length given.inputs)) a.0 ((x, kind.Text) ∷ scope)) ∷ []) e in
    let one_of = in_order-cons (judged given scope m) ((fold_tree (kinds_step (length given.inputs)) a.0 ((x, kind.Text) ∷ scope)) ∷ []) kind.List (kind.Number ∷ []) fits.0 in
    let two_of = in_order-cons (fold_tree (kinds_step (length given.inputs)) a.0 ((x, kind.Text) ∷ scope)) [] kind.Number [] one_of.1 in
    subst (λ k. Gives (IsOfKind k) (meaning given (at_parts (fold_tree (step given)) (parts_of (form.Keep x m a))) names)) fits.1
    (Gives->>= (IsOfKind kind.List) (IsOfKind kind.List) _ _ (m.1 scope names _ one_of.0 agree) (λ v d.
    Gives->>= Anything (IsOfKind kind.List) _ _ (Gives-with_list Anything v _ d (λ ts.
    Gives-kept _ (λ s. a.1 ((x, kind.Text) ∷ scope) ((x, text s) ∷ names) kind.Number two_of.0 (refl, refl, agree)) ts)) (λ ts h fuel. refl)))
Kept-meaning given (form.Fold s x m i a) scope names k e agree =
    let listed = judged_then-ok (judged given scope m) _ k e in
    let starts = judged_then-ok (judged given scope i) _ k listed.2 in
    let fits = takes-ok (kind.List ∷ starts.0 ∷ []) starts.0 k (Ok listed.0 ∷ (fold_tree (kinds_step (length given.inputs)) a.0 ((x, kind.Text) ∷ (s, starts.0) ∷ scope)) ∷ []) starts.2 in
    let one_of = in_order-cons (Ok listed.0) ((fold_tree (kinds_step (length given.inputs)) a.0 ((x, kind.Text) ∷ (s, starts.0) ∷ scope)) ∷ []) kind.List (starts.0 ∷ []) fits.0 in
    let two_of = in_order-cons (fold_tree (kinds_step (length given.inputs)) a.0 ((x, kind.Text) ∷ (s, starts.0) ∷ scope)) [] starts.0 [] one_of.1 in
    subst (λ k. Gives (IsOfKind k) (meaning given (at_parts (fold_tree (step given)) (parts_of (form.Fold s x m i a))) names)) fits.1
    (Gives->>= (IsOfKind kind.List) (IsOfKind starts.0) _ _ (m.1 scope names _ (listed.1 ∙ one_of.0) agree) (λ v d.
    Gives->>= (IsOfKind starts.0) (IsOfKind starts.0) _ _ (i.1 scope names starts.0 starts.1 agree) (λ start h.
    Gives-with_list (IsOfKind starts.0) v _ d (λ ts.
    Gives-folded starts.0 _ (λ so_far item g. a.1 ((x, kind.Text) ∷ (s, starts.0) ∷ scope) ((x, text item) ∷ (s, so_far) ∷ names) starts.0 two_of.0 (refl, refl, (refl, g, agree))) start h ts))))

pub Keeps-evaluate : (given : Given) (e : Expr) (scope : Names Kind) (names : Names Value) (k : Kind) → kind_of (length given.inputs) e scope ≡ Ok k → Agree scope names → (fuel : ℕ) → EndsWith (IsOfKind k) (evaluate given e names fuel)
Keeps-evaluate given = along_trees (kinds_step (length given.inputs)) (step given) (Keeps (length given.inputs))
    (λ y scope names k e agree. Gives-enter (IsOfKind k) _ (Kept-meaning given y scope names k e agree))
