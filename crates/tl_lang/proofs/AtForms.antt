-- A function of a tree at each form with parts, as a match in the code shows the form.
use Rattle.std.proofs.Common.{◌≡◌, ℕ, List, map, sym, ◌∙◌, ap}
use Rattle.tl_lang.specs.declared.expr.Expr.{Expr}
use Rattle.tl_lang.specs.declared.expr.Expr.TheOpen as form
use Rattle.tl_lang.specs.declared.expr.Expr.TheVariants as expr
use Rattle.tl_lang.specs.declared.expr.Expr.TheVariants.{rolls-Cat, rolls-Len, rolls-Sub, rolls-Eq, rolls-Has, rolls-Num, rolls-Str, rolls-Add, rolls-Minus, rolls-Mul, rolls-Div, rolls-Mod, rolls-Lt, rolls-Same, rolls-If, rolls-Let, rolls-Lines, rolls-Split, rolls-Join, rolls-List, rolls-Append, rolls-At, rolls-Count, rolls-Sort, rolls-Each, rolls-Keep, rolls-Fold}
use Rattle.tl_lang.specs.Tree.{Form, fold_tree}
use Rattle.tl_lang.proofs.Trees.{fold_tree-roll}

module _ {A : Type 0} (step : Form A → A) where
  pub at-Cat : (a b : Expr) → fold_tree step (expr.Cat a b) ≡ step (form.Cat (fold_tree step a) (fold_tree step b))
  at-Cat a b = ap (fold_tree step) (sym (rolls-Cat a b)) ∙ fold_tree-roll step (form.Cat a b)

  pub at-Len : (a : Expr) → fold_tree step (expr.Len a) ≡ step (form.Len (fold_tree step a))
  at-Len a = ap (fold_tree step) (sym (rolls-Len a)) ∙ fold_tree-roll step (form.Len a)

  pub at-Sub : (a i j : Expr) → fold_tree step (expr.Sub a i j) ≡ step (form.Sub (fold_tree step a) (fold_tree step i) (fold_tree step j))
  at-Sub a i j = ap (fold_tree step) (sym (rolls-Sub a i j)) ∙ fold_tree-roll step (form.Sub a i j)

  pub at-Eq : (a b : Expr) → fold_tree step (expr.Eq a b) ≡ step (form.Eq (fold_tree step a) (fold_tree step b))
  at-Eq a b = ap (fold_tree step) (sym (rolls-Eq a b)) ∙ fold_tree-roll step (form.Eq a b)

  pub at-Has : (a b : Expr) → fold_tree step (expr.Has a b) ≡ step (form.Has (fold_tree step a) (fold_tree step b))
  at-Has a b = ap (fold_tree step) (sym (rolls-Has a b)) ∙ fold_tree-roll step (form.Has a b)

  pub at-Num : (a : Expr) → fold_tree step (expr.Num a) ≡ step (form.Num (fold_tree step a))
  at-Num a = ap (fold_tree step) (sym (rolls-Num a)) ∙ fold_tree-roll step (form.Num a)

  pub at-Str : (a : Expr) → fold_tree step (expr.Str a) ≡ step (form.Str (fold_tree step a))
  at-Str a = ap (fold_tree step) (sym (rolls-Str a)) ∙ fold_tree-roll step (form.Str a)

  pub at-Add : (a b : Expr) → fold_tree step (expr.Add a b) ≡ step (form.Add (fold_tree step a) (fold_tree step b))
  at-Add a b = ap (fold_tree step) (sym (rolls-Add a b)) ∙ fold_tree-roll step (form.Add a b)

  pub at-Minus : (a b : Expr) → fold_tree step (expr.Minus a b) ≡ step (form.Minus (fold_tree step a) (fold_tree step b))
  at-Minus a b = ap (fold_tree step) (sym (rolls-Minus a b)) ∙ fold_tree-roll step (form.Minus a b)

  pub at-Mul : (a b : Expr) → fold_tree step (expr.Mul a b) ≡ step (form.Mul (fold_tree step a) (fold_tree step b))
  at-Mul a b = ap (fold_tree step) (sym (rolls-Mul a b)) ∙ fold_tree-roll step (form.Mul a b)

  pub at-Div : (a b : Expr) → fold_tree step (expr.Div a b) ≡ step (form.Div (fold_tree step a) (fold_tree step b))
  at-Div a b = ap (fold_tree step) (sym (rolls-Div a b)) ∙ fold_tree-roll step (form.Div a b)

  pub at-Mod : (a b : Expr) → fold_tree step (expr.Mod a b) ≡ step (form.Mod (fold_tree step a) (fold_tree step b))
  at-Mod a b = ap (fold_tree step) (sym (rolls-Mod a b)) ∙ fold_tree-roll step (form.Mod a b)

  pub at-Lt : (a b : Expr) → fold_tree step (expr.Lt a b) ≡ step (form.Lt (fold_tree step a) (fold_tree step b))
  at-Lt a b = ap (fold_tree step) (sym (rolls-Lt a b)) ∙ fold_tree-roll step (form.Lt a b)

  pub at-Same : (a b : Expr) → fold_tree step (expr.Same a b) ≡ step (form.Same (fold_tree step a) (fold_tree step b))
  at-Same a b = ap (fold_tree step) (sym (rolls-Same a b)) ∙ fold_tree-roll step (form.Same a b)

  pub at-If : (c a b : Expr) → fold_tree step (expr.If c a b) ≡ step (form.If (fold_tree step c) (fold_tree step a) (fold_tree step b))
  at-If c a b = ap (fold_tree step) (sym (rolls-If c a b)) ∙ fold_tree-roll step (form.If c a b)

  pub at-Let : (x : List ℕ) (a b : Expr) → fold_tree step (expr.Let x a b) ≡ step (form.Let x (fold_tree step a) (fold_tree step b))
  at-Let x a b = ap (fold_tree step) (sym (rolls-Let x a b)) ∙ fold_tree-roll step (form.Let x a b)

  pub at-Lines : (a : Expr) → fold_tree step (expr.Lines a) ≡ step (form.Lines (fold_tree step a))
  at-Lines a = ap (fold_tree step) (sym (rolls-Lines a)) ∙ fold_tree-roll step (form.Lines a)

  pub at-Split : (a s : Expr) → fold_tree step (expr.Split a s) ≡ step (form.Split (fold_tree step a) (fold_tree step s))
  at-Split a s = ap (fold_tree step) (sym (rolls-Split a s)) ∙ fold_tree-roll step (form.Split a s)

  pub at-Join : (m s : Expr) → fold_tree step (expr.Join m s) ≡ step (form.Join (fold_tree step m) (fold_tree step s))
  at-Join m s = ap (fold_tree step) (sym (rolls-Join m s)) ∙ fold_tree-roll step (form.Join m s)

  pub at-List : (parts : List Expr) → fold_tree step (expr.List parts) ≡ step (form.List (map (fold_tree step) parts))
  at-List parts = ap (fold_tree step) (sym (rolls-List parts)) ∙ fold_tree-roll step (form.List parts)

  pub at-Append : (m a : Expr) → fold_tree step (expr.Append m a) ≡ step (form.Append (fold_tree step m) (fold_tree step a))
  at-Append m a = ap (fold_tree step) (sym (rolls-Append m a)) ∙ fold_tree-roll step (form.Append m a)

  pub at-At : (m i : Expr) → fold_tree step (expr.At m i) ≡ step (form.At (fold_tree step m) (fold_tree step i))
  at-At m i = ap (fold_tree step) (sym (rolls-At m i)) ∙ fold_tree-roll step (form.At m i)

  pub at-Count : (m : Expr) → fold_tree step (expr.Count m) ≡ step (form.Count (fold_tree step m))
  at-Count m = ap (fold_tree step) (sym (rolls-Count m)) ∙ fold_tree-roll step (form.Count m)

  pub at-Sort : (m : Expr) → fold_tree step (expr.Sort m) ≡ step (form.Sort (fold_tree step m))
  at-Sort m = ap (fold_tree step) (sym (rolls-Sort m)) ∙ fold_tree-roll step (form.Sort m)

  pub at-Each : (x : List ℕ) (m a : Expr) → fold_tree step (expr.Each x m a) ≡ step (form.Each x (fold_tree step m) (fold_tree step a))
  at-Each x m a = ap (fold_tree step) (sym (rolls-Each x m a)) ∙ fold_tree-roll step (form.Each x m a)

  pub at-Keep : (x : List ℕ) (m a : Expr) → fold_tree step (expr.Keep x m a) ≡ step (form.Keep x (fold_tree step m) (fold_tree step a))
  at-Keep x m a = ap (fold_tree step) (sym (rolls-Keep x m a)) ∙ fold_tree-roll step (form.Keep x m a)

  pub at-Fold : (s x : List ℕ) (m i a : Expr) → fold_tree step (expr.Fold s x m i a) ≡ step (form.Fold s x (fold_tree step m) (fold_tree step i) (fold_tree step a))
  at-Fold s x m i a = ap (fold_tree step) (sym (rolls-Fold s x m i a)) ∙ fold_tree-roll step (form.Fold s x m i a)
