-- What an expression gives.
use Rattle.std.specs.Prelude.{ℕ, ℤ, if◌then◌else◌, List, [], ◌∷◌, map, slice_get, ok_or, option_map}
use Rattle.tl_lang.specs.declared.expr.Expr.{Expr}
use Rattle.tl_lang.specs.declared.expr.Expr.TheOpen as form
use Rattle.tl_lang.specs.Tree.{Form, fold_tree}
use Rattle.tl_lang.specs.Value.{Value, text, number, list, Answer, no_key, no_meaning, list_within, on_text, on_number, on_list, on_texts, on_numbers, on_list_text}
use Rattle.tl_lang.specs.Texts.{cat, len, sub, eq, has, num, str}
use Rattle.tl_lang.specs.Numbers.{add, minus, mul, is_zero, div, mod', lt, same}
use Rattle.tl_lang.specs.Lists.{lines, split, join, append, at, count, sort}
use Rattle.tl_lang.specs.Fuel.{Run, fault, enter, give, answer, ◌>>=◌}
use Rattle.tl_lang.specs.Names.{Names, visible}

-- what a job hands to its program: the values of its inputs and its configuration
pub record Given : Type 0 where
  pub inputs : List (List ℕ)
  pub conf : Names (List ℕ)

abbrev pub Meaning : Type 0
Meaning = Names Value → Run Value

abbrev pub one : (Value → Answer) → Run Value → Run Value
one f a = do
  v ← a
  answer (f v)

abbrev pub two : (Value → Value → Answer) → Run Value → Run Value → Run Value
two f a b = do
  v ← a
  w ← b
  answer (f v w)

abbrev pub three : (Value → Value → Value → Answer) → Run Value → Run Value → Run Value → Run Value
three f a b c = do
  v ← a
  w ← b
  u ← c
  answer (f v w u)

-- goes on with a text, a number or the texts of a list
abbrev pub with_text : {A : Type 0} → Value → (List ℕ → Run A) → Run A
with_text (text s) go = go s
with_text (number n) go = fault no_meaning
with_text (list ts) go = fault no_meaning

abbrev pub with_number : {A : Type 0} → Value → (ℤ → Run A) → Run A
with_number (text s) go = fault no_meaning
with_number (number n) go = go n
with_number (list ts) go = fault no_meaning

abbrev pub with_list : {A : Type 0} → Value → (List (List ℕ) → Run A) → Run A
with_list (text s) go = fault no_meaning
with_list (number n) go = fault no_meaning
with_list (list ts) go = go ts

-- the parts one after another, each a text
abbrev pub all_texts : List (Run Value) → Run (List (List ℕ))
all_texts [] = give []
all_texts (a ∷ rest) = do
  v ← a
  with_text v (λ s. all_texts rest >>= (λ ts. give (s ∷ ts)))

-- what the body gives for each item is added to the list so far
abbrev pub each_from : (List ℕ → Run Value) → Value → List (List ℕ) → Run Value
each_from body so_far [] = give so_far
each_from body so_far (item ∷ items) = do
  v ← body item
  more ← answer (on_list_text append so_far v)
  each_from body more items

-- the items for which the body is not 0
abbrev pub kept : (List ℕ → Run Value) → List (List ℕ) → Run (List (List ℕ))
kept body [] = give []
kept body (item ∷ items) = do
  v ← body item
  with_number v (λ n. kept body items >>= (λ ts. give (if is_zero n then ts else item ∷ ts)))

-- the value so far and each item give the next value
abbrev pub folded : (Value → List ℕ → Run Value) → Value → List (List ℕ) → Run Value
folded body so_far [] = give so_far
folded body so_far (item ∷ items) = do
  next ← body so_far item
  folded body next items

-- what a form gives, once it was entered
abbrev pub meaning : Given → Form Meaning → Meaning
meaning given (form.Text s) names = give (text s)
meaning given (form.Number n) names = give (number n)
meaning given (form.Var x) names = answer (ok_or (visible x names) no_meaning)
meaning given (form.Input k) names = answer (ok_or (option_map text (slice_get given.inputs k)) no_meaning)
meaning given (form.Key key) names = answer (ok_or (option_map text (visible key given.conf)) no_key)
meaning given (form.Cat a b) names = two (on_texts cat) (a names) (b names)
meaning given (form.Len a) names = one (on_text len) (a names)
meaning given (form.Sub a i j) names = three (λ v p q. on_text (λ s. on_numbers (sub s) p q) v) (a names) (i names) (j names)
meaning given (form.Eq a b) names = two (on_texts eq) (a names) (b names)
meaning given (form.Has a b) names = two (on_texts has) (a names) (b names)
meaning given (form.Num a) names = one (on_text num) (a names)
meaning given (form.Str a) names = one (on_number str) (a names)
meaning given (form.Add a b) names = two (on_numbers add) (a names) (b names)
meaning given (form.Minus a b) names = two (on_numbers minus) (a names) (b names)
meaning given (form.Mul a b) names = two (on_numbers mul) (a names) (b names)
meaning given (form.Div a b) names = two (on_numbers div) (a names) (b names)
meaning given (form.Mod a b) names = two (on_numbers mod') (a names) (b names)
meaning given (form.Lt a b) names = two (on_numbers lt) (a names) (b names)
meaning given (form.Same a b) names = two (on_numbers same) (a names) (b names)
meaning given (form.If c a b) names = do
  v ← c names
  with_number v (λ n. if is_zero n then b names else a names)
meaning given (form.Let x a b) names = do
  v ← a names
  b ((x, v) ∷ names)
meaning given (form.Lines a) names = one (on_text lines) (a names)
meaning given (form.Split a s) names = two (on_texts split) (a names) (s names)
meaning given (form.Join m s) names = two (on_list_text join) (m names) (s names)
meaning given (form.List parts) names = do
  ts ← all_texts (map (λ a. a names) parts)
  answer (list_within ts)
meaning given (form.Append m a) names = two (on_list_text append) (m names) (a names)
meaning given (form.At m i) names = two (λ v w. on_list (λ ts. on_number (at ts) w) v) (m names) (i names)
meaning given (form.Count m) names = one (on_list count) (m names)
meaning given (form.Sort m) names = one (on_list sort) (m names)
meaning given (form.Each x m a) names = do
  v ← m names
  with_list v (each_from (λ item. a ((x, text item) ∷ names)) (list []))
meaning given (form.Keep x m a) names = do
  v ← m names
  ts ← with_list v (kept (λ item. a ((x, text item) ∷ names)))
  give (list ts)
meaning given (form.Fold s x m i a) names = do
  v ← m names
  start ← i names
  with_list v (folded (λ so_far item. a ((x, text item) ∷ (s, so_far) ∷ names)) start)

abbrev pub step : Given → Form Meaning → Meaning
step given form names = enter (meaning given form names)

-- an expression's ending, from the names that are visible and the units of fuel that are left
abbrev pub evaluate : Given → Expr → Names Value → Run Value
evaluate given = fold_tree (step given)
