-- What an expression gives is within the limits, where its literals and what it is given are.
use Rattle.std.proofs.Common.{◌≡◌, ◌≤◌, ◌<◌, ◌-◌, ◌^◌, ℤ, pos, negsuc, ◌+ℤ◌, ◌-ℤ◌, ◌*ℤ◌, int_div, int_rem, ℕ, zero, suc, Bool, true, false, ◌&&◌, ◌==◌, if◌then◌else◌, cond, nat_le, bytes_eq, List, [], ◌∷◌, ◌++◌, map, length, drop, slice_get, slice_range, Option, Some, None, ok_or, option_map, Ok, Err, refl, arith, length-drop}
use Rattle.std.specs.Prelude.{sum_by}
use Rattle.std.specs.Int.Signed.{mag, mag_rem}
use Rattle.std.specs.List.{list_all, slice_split}
use Rattle.std.specs.Str.Parse.{signed_digits_value}
use Rattle.std.proofs.lemmas.Bool.{and_parts, and_from, ltb-true, lt-ltb, leb-true, le-leb}
use Rattle.std.proofs.lemmas.Fmt.{length_signed_le}
use Rattle.std.proofs.lemmas.List.{length-take}
use Rattle.std.proofs.lemmas.List.Sums.{sum_by-cons}
use Rattle.std.proofs.lemmas.List.Sorted.{length_permutation, sum_by-IsPermutation}
use Rattle.tl_lang.specs.declared.expr.Expr.{Expr}
use Rattle.tl_lang.specs.declared.expr.Expr.TheOpen as form
use Rattle.tl_lang.specs.Tree.{Form, fold_tree, at_parts}
use Rattle.tl_lang.specs.Value.{no_meaning, no_key, Value, text, number, list, Answer, too_long, overflow, zero_divisor, bad_number, out_of_range, is_text, is_number, is_list, text_within, number_within, list_within, on_text, on_number, on_list, on_texts, on_numbers, on_list_text, truth}
use Rattle.tl_lang.specs.Texts.{cat, len, sub, eq, has, occurs, num, str}
use Rattle.tl_lang.specs.Numbers.{add, minus, mul, is_zero, div, overflows, mod', lt, same}
use Rattle.tl_lang.specs.Lists.{without_empty_last, lines, split, joined, join, append, at, count, sorted, sort}
use Rattle.tl_lang.specs.Fuel.{Ending, done, fault, Run, enter, answer, ◌>>=◌, and_then}
use Rattle.tl_lang.specs.Names.{Names, visible}
use Rattle.tl_lang.specs.Meaning.{Given, Meaning, one, two, three, with_text, with_number, with_list, all_texts, each_from, kept, folded, meaning, step, evaluate}
use Rattle.tl_lang.specs.Limits.{is_within, all_within, literals_within, given_within, names_within, OnResult}
use Rattle.tl_lang.proofs.SortLaws.{IsPermutation-sorted}
use Rattle.tl_lang.proofs.Trees.{along_trees, Proved, parts_of}

abbrev Within : Value → Type 0
Within v = is_within v ≡ true

-- ---- evaluations

abbrev Gives : {A : Type 0} → (A → Type 0) → Run A → Type 0
Gives P run = (fuel : ℕ) → OnResult P (run fuel)

OnResult-and_then : {A B : Type 0} (P : A → Type 0) (Q : B → Type 0) (x : Ending A) (go : A → Run B) → OnResult P x → ((a : A) → P a → Gives Q (go a)) → OnResult Q (and_then x go)
OnResult-and_then P Q (done a left) go p next = next a p left
OnResult-and_then P Q (fault k left) go p next = tt

Gives->>= : {A B : Type 0} (P : A → Type 0) (Q : B → Type 0) (run : Run A) (go : A → Run B) → Gives P run → ((a : A) → P a → Gives Q (go a)) → Gives Q (run >>= go)
Gives->>= P Q run go p next fuel = OnResult-and_then P Q (run fuel) go (p fuel) next

Gives-enter : {A : Type 0} (P : A → Type 0) (run : Run A) → Gives P run → Gives P (enter run)
Gives-enter P run p zero = tt
Gives-enter P run p (suc fuel) = p fuel

-- an answer within the limits, or a fault
abbrev Fine : Answer → Type 0
Fine (Ok v) = Within v
Fine (Err n) = Unit {0}

Gives-answer : (a : Answer) → Fine a → Gives Within (answer a)
Gives-answer (Ok v) p fuel = p
Gives-answer (Err n) p fuel = tt

Fine-unless : (n : ℕ) (t : Bool) (v : Value) → (t ≡ true → Within v) → Fine (if t then Ok v else Err n)
Fine-unless n true v p = p refl
Fine-unless n false v p = tt

Fine-after : (n : ℕ) (t : Bool) (y : Answer) → Fine y → Fine (if t then Err n else y)
Fine-after n true y p = tt
Fine-after n false y p = p

Fine-on_text : (f : List ℕ → Answer) → ((s : List ℕ) → is_text s ≡ true → Fine (f s)) → (v : Value) → Within v → Fine (on_text f v)
Fine-on_text f p (text s) e = p s e
Fine-on_text f p (number n) e = tt
Fine-on_text f p (list ts) e = tt

Fine-on_number : (f : ℤ → Answer) → ((n : ℤ) → is_number n ≡ true → Fine (f n)) → (v : Value) → Within v → Fine (on_number f v)
Fine-on_number f p (text s) e = tt
Fine-on_number f p (number n) e = p n e
Fine-on_number f p (list ts) e = tt

Fine-on_list : (f : List (List ℕ) → Answer) → ((ts : List (List ℕ)) → is_list ts ≡ true → Fine (f ts)) → (v : Value) → Within v → Fine (on_list f v)
Fine-on_list f p (text s) e = tt
Fine-on_list f p (number n) e = tt
Fine-on_list f p (list ts) e = p ts e

Fine-on_texts : (f : List ℕ → List ℕ → Answer) → ((s t : List ℕ) → Fine (f s t)) → (v w : Value) → Within v → Within w → Fine (on_texts f v w)
Fine-on_texts f p v w e d = Fine-on_text (λ s. on_text (f s) w) (λ s h. Fine-on_text (f s) (λ t g. p s t) w d) v e

Fine-on_numbers : (f : ℤ → ℤ → Answer) → ((a b : ℤ) → is_number a ≡ true → Fine (f a b)) → (v w : Value) → Within v → Within w → Fine (on_numbers f v w)
Fine-on_numbers f p v w e d = Fine-on_number (λ a. on_number (f a) w) (λ a h. Fine-on_number (f a) (λ b g. p a b h) w d) v e

-- where what the numbers are does not matter
Fine-any_numbers : (f : ℤ → ℤ → Answer) → ((a b : ℤ) → Fine (f a b)) → (v w : Value) → Fine (on_numbers f v w)
Fine-any_numbers f p (text s) w = tt
Fine-any_numbers f p (list ts) w = tt
Fine-any_numbers f p (number a) (text s) = tt
Fine-any_numbers f p (number a) (number b) = p a b
Fine-any_numbers f p (number a) (list ts) = tt

Fine-on_list_text : (f : List (List ℕ) → List ℕ → Answer) → ((ts : List (List ℕ)) (s : List ℕ) → Fine (f ts s)) → (v w : Value) → Within v → Within w → Fine (on_list_text f v w)
Fine-on_list_text f p v w e d = Fine-on_list (λ ts. on_text (f ts) w) (λ ts h. Fine-on_text (f ts) (λ s g. p ts s) w d) v e

-- ---- the forms

Fine-text_within : (s : List ℕ) → Fine (text_within s)
Fine-text_within s = Fine-unless too_long (is_text s) (text s) (λ e. e)

Fine-number_within : (n : ℤ) → Fine (number_within n)
Fine-number_within n = Fine-unless overflow (is_number n) (number n) (λ e. e)

Fine-list_within : (ts : List (List ℕ)) → Fine (list_within ts)
Fine-list_within ts = Fine-unless too_long (is_list ts) (list ts) (λ e. e)

short : (n : ℕ) → n ≤ 1048576 → Within (number (pos n))
short n le = lt-ltb n (2 ^ 63) (omega arith)

Fine-truth : (t : Bool) → Fine (truth t)
Fine-truth true = refl
Fine-truth false = refl

Fine-len : (s : List ℕ) → is_text s ≡ true → Fine (len s)
Fine-len s e = short (length s) (leb-true _ _ e)

Fine-sub : (s : List ℕ) (i j : ℤ) → is_text s ≡ true → Fine (sub s i j)
Fine-sub s (pos i) (pos j) e =
    let le = leb-true _ _ e in
    Fine-unless out_of_range _ (text (slice_range s i j)) (λ h. le-leb _ _ (omega (arith, le, length-take (j - i) (drop i s), length-drop i s)))
Fine-sub s (pos i) (negsuc j) e = tt
Fine-sub s (negsuc i) j e = tt

Fine-num : (s : List ℕ) → Fine (num s)
Fine-num s = Fine-unless bad_number _ (number (signed_digits_value 10 s)) (λ e. (and_parts (is_number (signed_digits_value 10 s)) _ e).0)

mag-is_number : (n : ℤ) → is_number n ≡ true → mag n < 2 ^ 63
mag-is_number (pos n) e = ltb-true n (2 ^ 63) e
mag-is_number (negsuc n) e = ltb-true n (2 ^ 63) e

is_number-mag : (n : ℤ) → mag n < 2 ^ 63 → is_number n ≡ true
is_number-mag (pos n) less = lt-ltb n (2 ^ 63) less
is_number-mag (negsuc n) less = lt-ltb n (2 ^ 63) less

Fine-str : (n : ℤ) → is_number n ≡ true → Fine (str n)
Fine-str n e =
    let small = mag-is_number n e in
    le-leb _ _ (omega (arith, length_signed_le 19 n (omega (arith, small)) small))

Fine-div : (a b : ℤ) → Fine (div a b)
Fine-div a b = Fine-after zero_divisor (is_zero b) (number_within (int_div a b)) (Fine-number_within (int_div a b))

Fine-mod : (a b : ℤ) → is_number a ≡ true → Fine (mod' a b)
Fine-mod a b e =
    let small = mag-is_number a e in
    let fits : is_number (int_rem a b) ≡ true = is_number-mag (int_rem a b) (omega (arith, small, mag_rem a b)) in
    Fine-after zero_divisor (is_zero b) _ (Fine-after overflow (overflows a b) (Ok (number (int_rem a b))) fits)

Fine-split : (s t : List ℕ) → Fine (split s t)
Fine-split s [] = tt
Fine-split s (c ∷ []) = Fine-list_within (slice_split (λ x. x == c) s)
Fine-split s (b ∷ c ∷ more) = tt

-- a text that is found is no longer than n
abbrev IsShort : ℕ → Option (List ℕ) → Type 0
IsShort n None = Unit {0}
IsShort n (Some s) = length s ≤ n

IsShort-get : (ts : List (List ℕ)) (i n : ℕ) → sum_by length ts ≤ n → IsShort n (slice_get ts i)
IsShort-get [] i n le = tt
IsShort-get (t ∷ ts) zero n le = let parts = sum_by-cons length t ts in omega (arith, parts, le)
IsShort-get (t ∷ ts) (suc i) n le = let parts = sum_by-cons length t ts in IsShort-get ts i n (omega (arith, parts, le))

Fine-found : (o : Option (List ℕ)) (n : ℕ) → IsShort 1048576 o → Fine (ok_or (option_map text o) n)
Fine-found None n p = tt
Fine-found (Some s) n p = le-leb _ _ p

sum-is_list : (ts : List (List ℕ)) → is_list ts ≡ true → sum_by length ts ≤ 1048576
sum-is_list ts e = leb-true _ _ (and_parts (nat_le (length ts) 65536) _ e).1

length-is_list : (ts : List (List ℕ)) → is_list ts ≡ true → length ts ≤ 65536
length-is_list ts e = leb-true _ _ (and_parts (nat_le (length ts) 65536) _ e).0

is_list-from : (ts : List (List ℕ)) → length ts ≤ 65536 → sum_by length ts ≤ 1048576 → is_list ts ≡ true
is_list-from ts few together = and_from _ _ (le-leb _ _ few) (le-leb _ _ together)

Fine-at : (ts : List (List ℕ)) (i : ℤ) → is_list ts ≡ true → Fine (at ts i)
Fine-at ts (pos i) e = Fine-found (slice_get ts i) out_of_range (IsShort-get ts i 1048576 (sum-is_list ts e))
Fine-at ts (negsuc i) e = tt

Fine-count : (ts : List (List ℕ)) → is_list ts ≡ true → Fine (count ts)
Fine-count ts e = let few = length-is_list ts e in short (length ts) (omega (arith, few))

Fine-sort : (ts : List (List ℕ)) → is_list ts ≡ true → Fine (sort ts)
Fine-sort ts e =
    let moved = IsPermutation-sorted ts in
    let few = length-is_list ts e in
    let together = sum-is_list ts e in
    is_list-from (sorted ts) (omega (arith, few, length_permutation ts (sorted ts) moved)) (omega (arith, together, sum_by-IsPermutation length ts (sorted ts) moved))

-- ---- names, inputs and the configuration

Fine-if_visible : (t : Bool) (v : Value) (o : Option Value) → Within v → Fine (ok_or o no_meaning) → Fine (ok_or (cond t (Some v) o) no_meaning)
Fine-if_visible true v o p q = p
Fine-if_visible false v o p q = q

Fine-visible : (x : List ℕ) (names : Names Value) → names_within names ≡ true → Fine (ok_or (visible x names) no_meaning)
Fine-visible x [] e = tt
Fine-visible x (n ∷ names) e =
    let both = and_parts (is_within n.1) (names_within names) e in
    Fine-if_visible (bytes_eq x n.0) n.1 (visible x names) both.0 (Fine-visible x names both.1)

Fine-if_key : (t : Bool) (s : List ℕ) (o : Option (List ℕ)) → is_text s ≡ true → Fine (ok_or (option_map text o) no_key) → Fine (ok_or (option_map text (cond t (Some s) o)) no_key)
Fine-if_key true s o p q = p
Fine-if_key false s o p q = q

Fine-key : (key : List ℕ) (conf : Names (List ℕ)) → list_all (λ p. is_text p.1) conf ≡ true → Fine (ok_or (option_map text (visible key conf)) no_key)
Fine-key key [] e = tt
Fine-key key (p ∷ conf) e =
    let both = and_parts (is_text p.1) _ e in
    Fine-if_key (bytes_eq key p.0) p.1 (visible key conf) both.0 (Fine-key key conf both.1)

Fine-input : (inputs : List (List ℕ)) (i : ℕ) → list_all is_text inputs ≡ true → Fine (ok_or (option_map text (slice_get inputs i)) no_meaning)
Fine-input [] i e = tt
Fine-input (s ∷ inputs) zero e = (and_parts (is_text s) (list_all is_text inputs) e).0
Fine-input (s ∷ inputs) (suc i) e = Fine-input inputs i (and_parts (is_text s) (list_all is_text inputs) e).1

-- ---- the forms on evaluations

Gives-one : (f : Value → Answer) (a : Run Value) → Gives Within a → ((v : Value) → Within v → Fine (f v)) → Gives Within (one f a)
Gives-one f a p fine = Gives->>= Within Within a _ p (λ v d. Gives-answer (f v) (fine v d))

Gives-two : (f : Value → Value → Answer) (a b : Run Value) → Gives Within a → Gives Within b → ((v w : Value) → Within v → Within w → Fine (f v w)) → Gives Within (two f a b)
Gives-two f a b p q fine = Gives->>= Within Within a _ p (λ v d. Gives->>= Within Within b _ q (λ w h. Gives-answer (f v w) (fine v w d h)))

Gives-three : (f : Value → Value → Value → Answer) (a b c : Run Value) → Gives Within a → Gives Within b → Gives Within c → ((v w u : Value) → Within v → Fine (f v w u)) → Gives Within (three f a b c)
Gives-three f a b c p q r fine =
    Gives->>= Within Within a _ p (λ v d. Gives->>= Within Within b _ q (λ w h. Gives->>= Within Within c _ r (λ u g. Gives-answer (f v w u) (fine v w u d))))

Gives-with_text : {A : Type 0} (P : A → Type 0) (v : Value) (go : List ℕ → Run A) → ((s : List ℕ) → Gives P (go s)) → Gives P (with_text v go)
Gives-with_text P (text s) go p = p s
Gives-with_text P (number n) go p = λ fuel. tt
Gives-with_text P (list ts) go p = λ fuel. tt

Gives-with_number : {A : Type 0} (P : A → Type 0) (v : Value) (go : ℤ → Run A) → ((n : ℤ) → Gives P (go n)) → Gives P (with_number v go)
Gives-with_number P (text s) go p = λ fuel. tt
Gives-with_number P (number n) go p = p n
Gives-with_number P (list ts) go p = λ fuel. tt

Gives-with_list : {A : Type 0} (P : A → Type 0) (v : Value) (go : List (List ℕ) → Run A) → Within v → ((ts : List (List ℕ)) → is_list ts ≡ true → Gives P (go ts)) → Gives P (with_list v go)
Gives-with_list P (text s) go e p = λ fuel. tt
Gives-with_list P (number n) go e p = λ fuel. tt
Gives-with_list P (list ts) go e p = p ts e

OnResult-weaker : {A : Type 0} (P Q : A → Type 0) → ((a : A) → P a → Q a) → (x : Ending A) → OnResult P x → OnResult Q x
OnResult-weaker P Q more (done a left) p = more a p
OnResult-weaker P Q more (fault k left) p = tt

Gives-weaker : {A : Type 0} (P Q : A → Type 0) (run : Run A) → ((a : A) → P a → Q a) → Gives P run → Gives Q run
Gives-weaker P Q run more p fuel = OnResult-weaker P Q more (run fuel) (p fuel)

Gives-if : (t : Bool) (x y : Run Value) → Gives Within x → Gives Within y → Gives Within (if t then x else y)
Gives-if true x y p q = p
Gives-if false x y p q = q

abbrev Anything : {A : Type 0} → A → Type 0
Anything a = Unit {0}

items_within : (ts : List (List ℕ)) → sum_by length ts ≤ 1048576 → list_all is_text ts ≡ true
items_within [] le = refl
items_within (t ∷ ts) le = let parts = sum_by-cons length t ts in and_from _ _ (le-leb _ _ (omega (arith, parts, le))) (items_within ts (omega (arith, parts, le)))

-- the body gives what is within the limits, for each item that is
abbrev AtItems : (List ℕ → Run Value) → Type 0
AtItems body = (s : List ℕ) → is_text s ≡ true → Gives Within (body s)

Gives-each_from : (body : List ℕ → Run Value) → AtItems body → (so_far : Value) → Within so_far → (items : List (List ℕ)) → list_all is_text items ≡ true → Gives Within (each_from body so_far items)
Gives-each_from body p so_far e [] all = λ fuel. e
Gives-each_from body p so_far e (item ∷ items) all =
    let both = and_parts (is_text item) (list_all is_text items) all in
    Gives->>= Within Within (body item) _ (p item both.0) (λ v d.
    Gives->>= Within Within _ _ (Gives-answer _ (Fine-on_list_text append (λ ts s. Fine-list_within (ts ++ s ∷ [])) so_far v e d)) (λ more h.
    Gives-each_from body p more h items both.1))

-- no more texts than the items, and no longer together
abbrev IsPart : List (List ℕ) → List (List ℕ) → Type 0
IsPart items ts = (length ts ≤ length items) × (sum_by length ts ≤ sum_by length items)

IsPart-if : (t : Bool) (item : List ℕ) (items ts : List (List ℕ)) → IsPart items ts → IsPart (item ∷ items) (if t then ts else item ∷ ts)
IsPart-if true item items ts p = let parts = sum_by-cons length item items in (omega (arith, p.0), omega (arith, p.1, parts))
IsPart-if false item items ts p = let parts = sum_by-cons length item items in let those = sum_by-cons length item ts in (omega (arith, p.0), omega (arith, p.1, parts, those))

Gives-kept : (body : List ℕ → Run Value) → AtItems body → (items : List (List ℕ)) → list_all is_text items ≡ true → Gives (IsPart items) (kept body items)
Gives-kept body p [] all = λ fuel. (omega arith, omega arith)
Gives-kept body p (item ∷ items) all =
    let both = and_parts (is_text item) (list_all is_text items) all in
    Gives->>= Within (IsPart (item ∷ items)) (body item) _ (p item both.0) (λ v d.
    Gives-with_number (IsPart (item ∷ items)) v _ (λ n.
    Gives->>= (IsPart items) (IsPart (item ∷ items)) (kept body items) _ (Gives-kept body p items both.1) (λ ts h fuel. IsPart-if (is_zero n) item items ts h)))

Gives-folded : (body : Value → List ℕ → Run Value) → ((v : Value) → Within v → AtItems (body v)) → (so_far : Value) → Within so_far → (items : List (List ℕ)) → list_all is_text items ≡ true → Gives Within (folded body so_far items)
Gives-folded body p so_far e [] all = λ fuel. e
Gives-folded body p so_far e (item ∷ items) all =
    let both = and_parts (is_text item) (list_all is_text items) all in
    Gives->>= Within Within (body so_far item) _ (p so_far e item both.0) (λ next h. Gives-folded body p next h items both.1)

-- ---- every expression

one_holds : (p : Bool) → (p && true) ≡ true → p ≡ true
one_holds p e = (and_parts p true e).0

two_hold : (p q : Bool) → (p && (q && true)) ≡ true → (p ≡ true) × (q ≡ true)
two_hold p q e = let both = and_parts p (q && true) e in (both.0, one_holds q both.1)

three_hold : (p q r : Bool) → (p && (q && (r && true))) ≡ true → (p ≡ true) × (q ≡ true) × (r ≡ true)
three_hold p q r e = let first = and_parts p (q && (r && true)) e in let rest = two_hold q r first.1 in (first.0, rest.0, rest.1)

abbrev Keeps : Bool → Meaning → Type 0
Keeps literals m = literals ≡ true → (names : Names Value) → names_within names ≡ true → Gives Within (m names)

abbrev Part : Given → Type 0
Part given = Proved (λ e. Keeps (fold_tree all_within e) (fold_tree (step given) e))

abbrev fits : (given : Given) → Part given → Bool
fits given part = fold_tree all_within part.0

any_end : (x : Ending Value) → OnResult Anything x
any_end (done v left) = tt
any_end (fault k left) = tt

-- the texts of the parts are not bounded until they are all there
Gives-all_texts : (runs : List (Run Value)) → Gives Anything (all_texts runs)
Gives-all_texts [] = λ fuel. tt
Gives-all_texts (run ∷ runs) =
    Gives->>= Anything Anything run _ (λ fuel. any_end (run fuel)) (λ v d. Gives-with_text Anything v _ (λ s. Gives->>= Anything Anything _ _ (Gives-all_texts runs) (λ ts h fuel. tt)))

Kept-meaning : (given : Given) → given_within given ≡ true → (y : Form (Part given)) → Keeps (all_within (at_parts (fold_tree all_within) (parts_of y))) (meaning given (at_parts (fold_tree (step given)) (parts_of y)))
Kept-meaning given g (form.Text s) e names all = let fit = one_holds (is_text s) e in (λ fuel. fit)
Kept-meaning given g (form.Number n) e names all = let fit = one_holds (is_number n) e in (λ fuel. fit)
Kept-meaning given g (form.Var x) e names all = Gives-answer _ (Fine-visible x names all)
Kept-meaning given g (form.Input k) e names all = Gives-answer _ (Fine-input given.inputs k (and_parts (list_all is_text given.inputs) _ g).0)
Kept-meaning given g (form.Key key) e names all = Gives-answer _ (Fine-key key given.conf (and_parts (list_all is_text given.inputs) _ g).1)
Kept-meaning given g (form.Cat a b) e names all = let both = two_hold (fits given a) (fits given b) e in Gives-two _ _ _ (a.1 both.0 names all) (b.1 both.1 names all) (Fine-on_texts cat (λ s t. Fine-text_within (s ++ t)))
Kept-meaning given g (form.Len a) e names all = Gives-one _ _ (a.1 (one_holds (fits given a) e) names all) (Fine-on_text len Fine-len)
Kept-meaning given g (form.Sub a i j) e names all =
    let three_of = three_hold (fits given a) (fits given i) (fits given j) e in
    Gives-three _ _ _ _ (a.1 three_of.0 names all) (i.1 three_of.1 names all) (j.1 three_of.2 names all)
    (λ v p q d. Fine-on_text (λ s. on_numbers (sub s) p q) (λ s h. Fine-any_numbers (sub s) (λ m n. Fine-sub s m n h) p q) v d)
Kept-meaning given g (form.Eq a b) e names all = let both = two_hold (fits given a) (fits given b) e in Gives-two _ _ _ (a.1 both.0 names all) (b.1 both.1 names all) (Fine-on_texts eq (λ s t. Fine-truth (bytes_eq s t)))
Kept-meaning given g (form.Has a b) e names all = let both = two_hold (fits given a) (fits given b) e in Gives-two _ _ _ (a.1 both.0 names all) (b.1 both.1 names all) (Fine-on_texts has (λ s t. Fine-truth (occurs t s)))
Kept-meaning given g (form.Num a) e names all = Gives-one _ _ (a.1 (one_holds (fits given a) e) names all) (Fine-on_text num (λ s h. Fine-num s))
Kept-meaning given g (form.Str a) e names all = Gives-one _ _ (a.1 (one_holds (fits given a) e) names all) (Fine-on_number str Fine-str)
Kept-meaning given g (form.Add a b) e names all = let both = two_hold (fits given a) (fits given b) e in Gives-two _ _ _ (a.1 both.0 names all) (b.1 both.1 names all) (Fine-on_numbers add (λ m n h. Fine-number_within (m +ℤ n)))
Kept-meaning given g (form.Minus a b) e names all = let both = two_hold (fits given a) (fits given b) e in Gives-two _ _ _ (a.1 both.0 names all) (b.1 both.1 names all) (Fine-on_numbers minus (λ m n h. Fine-number_within (m -ℤ n)))
Kept-meaning given g (form.Mul a b) e names all = let both = two_hold (fits given a) (fits given b) e in Gives-two _ _ _ (a.1 both.0 names all) (b.1 both.1 names all) (Fine-on_numbers mul (λ m n h. Fine-number_within (m *ℤ n)))
Kept-meaning given g (form.Div a b) e names all = let both = two_hold (fits given a) (fits given b) e in Gives-two _ _ _ (a.1 both.0 names all) (b.1 both.1 names all) (Fine-on_numbers div (λ m n h. Fine-div m n))
Kept-meaning given g (form.Mod a b) e names all = let both = two_hold (fits given a) (fits given b) e in Gives-two _ _ _ (a.1 both.0 names all) (b.1 both.1 names all) (Fine-on_numbers mod' (λ m n h. Fine-mod m n h))
Kept-meaning given g (form.Lt a b) e names all = let both = two_hold (fits given a) (fits given b) e in Gives-two _ _ _ (a.1 both.0 names all) (b.1 both.1 names all) (Fine-on_numbers lt (λ m n h. Fine-truth _))
Kept-meaning given g (form.Same a b) e names all = let both = two_hold (fits given a) (fits given b) e in Gives-two _ _ _ (a.1 both.0 names all) (b.1 both.1 names all) (Fine-on_numbers same (λ m n h. Fine-truth _))
Kept-meaning given g (form.If c a b) e names all =
    let three_of = three_hold (fits given c) (fits given a) (fits given b) e in
    Gives->>= Within Within _ _ (c.1 three_of.0 names all) (λ v d. Gives-with_number Within v _ (λ n. Gives-if (is_zero n) _ _ (b.1 three_of.2 names all) (a.1 three_of.1 names all)))
Kept-meaning given g (form.Let x a b) e names all =
    let both = two_hold (fits given a) (fits given b) e in
    Gives->>= Within Within _ _ (a.1 both.0 names all) (λ v d. b.1 both.1 ((x, v) ∷ names) (and_from (is_within v) _ d all))
Kept-meaning given g (form.Lines a) e names all = Gives-one _ _ (a.1 (one_holds (fits given a) e) names all) (Fine-on_text lines (λ s h. Fine-list_within (without_empty_last (slice_split (λ c. c == 10) s))))
Kept-meaning given g (form.Split a s) e names all = let both = two_hold (fits given a) (fits given s) e in Gives-two _ _ _ (a.1 both.0 names all) (s.1 both.1 names all) (Fine-on_texts split Fine-split)
Kept-meaning given g (form.Join m s) e names all = let both = two_hold (fits given m) (fits given s) e in Gives-two _ _ _ (m.1 both.0 names all) (s.1 both.1 names all) (Fine-on_list_text join (λ ts s. Fine-text_within (joined s ts)))
Kept-meaning given g (form.List these) e names all =
    Gives->>= Anything Within _ _ (Gives-all_texts (map (λ a. a names) (map (fold_tree (step given)) (map (λ t. t.0) these)))) (λ ts h. Gives-answer _ (Fine-list_within ts))
Kept-meaning given g (form.Append m a) e names all = let both = two_hold (fits given m) (fits given a) e in Gives-two _ _ _ (m.1 both.0 names all) (a.1 both.1 names all) (Fine-on_list_text append (λ ts s. Fine-list_within (ts ++ s ∷ [])))
Kept-meaning given g (form.At m i) e names all = let both = two_hold (fits given m) (fits given i) e in Gives-two _ _ _ (m.1 both.0 names all) (i.1 both.1 names all) (λ v w d h. Fine-on_list (λ ts. on_number (at ts) w) (λ ts g. Fine-on_number (at ts) (λ i f. Fine-at ts i g) w h) v d)
Kept-meaning given g (form.Count m) e names all = Gives-one _ _ (m.1 (one_holds (fits given m) e) names all) (Fine-on_list count Fine-count)
Kept-meaning given g (form.Sort m) e names all = Gives-one _ _ (m.1 (one_holds (fits given m) e) names all) (Fine-on_list sort Fine-sort)
Kept-meaning given g (form.Each x m a) e names all =
    let both = two_hold (fits given m) (fits given a) e in
    Gives->>= Within Within _ _ (m.1 both.0 names all) (λ v d. Gives-with_list Within v _ d (λ ts h.
    Gives-each_from _ (λ s f. a.1 both.1 ((x, text s) ∷ names) (and_from (is_text s) _ f all)) (list []) refl ts (items_within ts (sum-is_list ts h))))
Kept-meaning given g (form.Keep x m a) e names all =
    let both = two_hold (fits given m) (fits given a) e in
    Gives->>= Within Within _ _ (m.1 both.0 names all) (λ v d.
    Gives->>= (λ ts. is_list ts ≡ true) Within _ _ (Gives-with_list (λ ts. is_list ts ≡ true) v _ d (λ ts h.
    Gives-weaker (IsPart ts) (λ us. is_list us ≡ true) _
    (λ us part. is_list-from us (omega (arith, part.0, length-is_list ts h)) (omega (arith, part.1, sum-is_list ts h)))
    (Gives-kept _ (λ s f. a.1 both.1 ((x, text s) ∷ names) (and_from (is_text s) _ f all)) ts (items_within ts (sum-is_list ts h)))))
    (λ ts h fuel. h))
Kept-meaning given g (form.Fold s x m i a) e names all =
    let three_of = three_hold (fits given m) (fits given i) (fits given a) e in
    Gives->>= Within Within _ _ (m.1 three_of.0 names all) (λ v d. Gives->>= Within Within _ _ (i.1 three_of.1 names all) (λ start h. Gives-with_list Within v _ d (λ ts l.
    Gives-folded _ (λ so_far w item f. a.1 three_of.2 ((x, text item) ∷ (s, so_far) ∷ names) (and_from (is_text item) _ f (and_from (is_within so_far) _ w all))) start h ts (items_within ts (sum-is_list ts l)))))

pub Within-evaluate : (given : Given) → given_within given ≡ true → (e : Expr) → literals_within e ≡ true → (names : Names Value) → names_within names ≡ true → (fuel : ℕ) → OnResult Within (evaluate given e names fuel)
Within-evaluate given g = along_trees all_within (step given) Keeps (λ y e names all. Gives-enter Within _ (Kept-meaning given g y e names all))
