-- Nodes mean what the expressions mean that they were made of.
use Rattle.std.proofs.Common.{◌≡◌, ℕ, List, map, Result, Ok, Err, IfOk, sym, ◌∙◌, ap, refl}
use Rattle.std.proofs.lemmas.Simd.{map-map}
use Rattle.std.specs.Global.{Global}
use Rattle.std.specs.declared.sync.Arc.{Arc}
use Rattle.tl_types.specs.declared.no_memory.NoMemory.{NoMemory}
use Rattle.tl_eval.specs.declared.node.Node.{Node}
use Rattle.tl_eval.specs.declared.node.Node.TheVariants as node
use Rattle.tl_eval.specs.declared.op.Unary.{Unary}
use Rattle.tl_eval.specs.declared.op.Unary.TheVariants as unary
use Rattle.tl_eval.specs.declared.op.Binary.{Binary}
use Rattle.tl_eval.specs.declared.op.Binary.TheVariants as binary
use Rattle.tl_eval.specs.declared.op.OnTexts.TheVariants as texts
use Rattle.tl_eval.specs.declared.op.OnNumbers.TheVariants as numbers
use Rattle.tl_eval.specs.declared.op.OnListText.TheVariants as list_text
use Rattle.tl_eval.specs.Nodes.{gives}
use Rattle.tl_eval.specs.Ops.{of_one, of_two}
use Rattle.tl_eval.specs.Prepared.{Means, MeansForm, unary_form, binary_form}
use Rattle.tl_eval.proofs.NodeLaws.{at-Unary, at-Binary, at-Sub, at-If, at-Let, at-List, at-Each, at-Keep, at-Fold}
use Rattle.tl_lang.specs.declared.expr.Expr.{Expr}
use Rattle.tl_lang.specs.declared.expr.Expr.TheOpen as form
use Rattle.tl_lang.specs.Tree.{Form}
use Rattle.tl_lang.specs.Value.{list_within}
use Rattle.tl_lang.specs.Fuel.{enter, answer, ◌>>=◌}
use Rattle.tl_lang.specs.Meaning.{Given, Meaning, one, two, all_texts, step, evaluate}

abbrev Part : Type 0
Part = Arc Node Global

abbrev Made : Type 0
Made = Result Part NoMemory

module _ (given : Given) where
  -- ---- an expression by its form

  pub by_form : (r : Made) (e other : Expr) (shape : Form Meaning) → e ≡ other → evaluate given other ≡ step given shape → IfOk r (MeansForm given shape) → IfOk r (Means given e)
  by_form (Ok n) e other shape is at h = h ∙ sym at ∙ ap (evaluate given) (sym is)
  by_form (Err x) e other shape is at h = h

  pub by_one : (r : Made) (e other : Expr) (shape : Meaning → Form Meaning) (n : Part) (got part : Expr) → e ≡ other → got ≡ part → gives n.value ≡ evaluate given got → evaluate given other ≡ step given (shape (evaluate given part)) → IfOk r (MeansForm given (shape (gives n.value))) → IfOk r (Means given e)
  by_one r e other shape n got part is same means at h =
      by_form r e other (shape (gives n.value)) is (at ∙ (λ i. step given (shape (sym (means ∙ ap (evaluate given) same) i)))) h

  pub by_two : (r : Made) (e other : Expr) (shape : Meaning → Meaning → Form Meaning) (n m : Part) (got part got2 part2 : Expr) → e ≡ other → got ≡ part → gives n.value ≡ evaluate given got → got2 ≡ part2 → gives m.value ≡ evaluate given got2 → evaluate given other ≡ step given (shape (evaluate given part) (evaluate given part2)) → IfOk r (MeansForm given (shape (gives n.value) (gives m.value))) → IfOk r (Means given e)
  by_two r e other shape n m got part got2 part2 is same means same2 means2 at h =
      by_form r e other (shape (gives n.value) (gives m.value)) is (at ∙ (λ i. step given (shape (sym (means ∙ ap (evaluate given) same) i) (sym (means2 ∙ ap (evaluate given) same2) i)))) h

  -- ---- a node by its form

  made : (r : Made) (n : Node) (shape : Form Meaning) → gives n ≡ step given shape → IfOk r (λ shared. shared.value ≡ n) → IfOk r (MeansForm given shape)
  made (Ok shared) n shape at h = ap gives h ∙ at
  made (Err x) n shape at h = h

  unary_means : (op : Unary) (x : Meaning) → (λ names. enter (one (of_one op) (x names))) ≡ step given (unary_form op x)
  unary_means unary.Len x = refl
  unary_means unary.Num x = refl
  unary_means unary.Str x = refl
  unary_means unary.Lines x = refl
  unary_means unary.Count x = refl
  unary_means unary.Sort x = refl

  binary_means : (op : Binary) (x y : Meaning) → (λ names. enter (two (of_two op) (x names) (y names))) ≡ step given (binary_form op x y)
  binary_means (binary.Texts texts.Cat) x y = refl
  binary_means (binary.Texts texts.Eq) x y = refl
  binary_means (binary.Texts texts.Has) x y = refl
  binary_means (binary.Texts texts.Split) x y = refl
  binary_means (binary.Numbers numbers.Add) x y = refl
  binary_means (binary.Numbers numbers.Minus) x y = refl
  binary_means (binary.Numbers numbers.Mul) x y = refl
  binary_means (binary.Numbers numbers.Div) x y = refl
  binary_means (binary.Numbers numbers.Mod) x y = refl
  binary_means (binary.Numbers numbers.Lt) x y = refl
  binary_means (binary.Numbers numbers.Same) x y = refl
  binary_means (binary.ListText list_text.Join) x y = refl
  binary_means (binary.ListText list_text.Append) x y = refl
  binary_means binary.At x y = refl

  module _ (r : Made) (a : Part) (got e : Expr) (same : got ≡ e) (means : gives a.value ≡ evaluate given got) where
    first : gives a.value ≡ evaluate given e
    first = means ∙ ap (evaluate given) same

    pub made_unary : (op : Unary) → IfOk r (λ shared. shared.value ≡ node.Unary op a) → IfOk r (MeansForm given (unary_form op (evaluate given e)))
    made_unary op = made r (node.Unary op a) (unary_form op (evaluate given e)) (at-Unary op a ∙ unary_means op (gives a.value) ∙ (λ i. step given (unary_form op (first i))))

    pub made_binary : (op : Binary) (b : Part) → IfOk r (λ shared. shared.value ≡ node.Binary op a b) → IfOk r (MeansForm given (binary_form op (evaluate given e) (gives b.value)))
    made_binary op b = made r (node.Binary op a b) (binary_form op (evaluate given e) (gives b.value)) (at-Binary op a b ∙ binary_means op (gives a.value) (gives b.value) ∙ (λ i. step given (binary_form op (first i) (gives b.value))))

    pub made_sub : (b d : Part) → IfOk r (λ shared. shared.value ≡ node.Sub a b d) → IfOk r (MeansForm given (form.Sub (evaluate given e) (gives b.value) (gives d.value)))
    made_sub b d = made r (node.Sub a b d) (form.Sub (evaluate given e) (gives b.value) (gives d.value)) (at-Sub a b d ∙ (λ i. step given (form.Sub (first i) (gives b.value) (gives d.value))))

    pub made_if : (b d : Part) → IfOk r (λ shared. shared.value ≡ node.If a b d) → IfOk r (MeansForm given (form.If (evaluate given e) (gives b.value) (gives d.value)))
    made_if b d = made r (node.If a b d) (form.If (evaluate given e) (gives b.value) (gives d.value)) (at-If a b d ∙ (λ i. step given (form.If (first i) (gives b.value) (gives d.value))))

    pub made_let : (x y : List ℕ) (b : Part) → x ≡ y → IfOk r (λ shared. shared.value ≡ node.Let x a b) → IfOk r (MeansForm given (form.Let y (evaluate given e) (gives b.value)))
    made_let x y b is = made r (node.Let x a b) (form.Let y (evaluate given e) (gives b.value)) (at-Let x a b ∙ (λ i. step given (form.Let (is i) (first i) (gives b.value))))

    pub made_each : (x y : List ℕ) (b : Part) → x ≡ y → IfOk r (λ shared. shared.value ≡ node.Each x a b) → IfOk r (MeansForm given (form.Each y (evaluate given e) (gives b.value)))
    made_each x y b is = made r (node.Each x a b) (form.Each y (evaluate given e) (gives b.value)) (at-Each x a b ∙ (λ i. step given (form.Each (is i) (first i) (gives b.value))))

    pub made_keep : (x y : List ℕ) (b : Part) → x ≡ y → IfOk r (λ shared. shared.value ≡ node.Keep x a b) → IfOk r (MeansForm given (form.Keep y (evaluate given e) (gives b.value)))
    made_keep x y b is = made r (node.Keep x a b) (form.Keep y (evaluate given e) (gives b.value)) (at-Keep x a b ∙ (λ i. step given (form.Keep (is i) (first i) (gives b.value))))

    pub made_fold : (s z x y : List ℕ) (b d : Part) → s ≡ z → x ≡ y → IfOk r (λ shared. shared.value ≡ node.Fold s x a b d) → IfOk r (MeansForm given (form.Fold z y (evaluate given e) (gives b.value) (gives d.value)))
    made_fold s z x y b d is_state is = made r (node.Fold s x a b d) (form.Fold z y (evaluate given e) (gives b.value) (gives d.value)) (at-Fold s x a b d ∙ (λ i. step given (form.Fold (is_state i) (is i) (first i) (gives b.value) (gives d.value))))

  pub made_list : (r : Made) (parts : List Part) (shared : Arc (List Part) Global) (exprs : List Expr) → shared.value ≡ parts → map (λ (n : Part). gives n.value) parts ≡ map (evaluate given) exprs → IfOk r (λ made. made.value ≡ node.List shared) → IfOk r (MeansForm given (form.List (map (evaluate given) exprs)))
  made_list r parts shared exprs is means =
      made r (node.List shared) (form.List (map (evaluate given) exprs))
      (at-List shared
      ∙ (λ i names. enter (all_texts (sym (map-map (λ (m : Meaning). m names) (λ (n : Part). gives n.value) shared.value) i) >>= (λ ts. answer (list_within ts))))
      ∙ (λ i names. enter (all_texts (map (λ (m : Meaning). m names) (map (λ (n : Part). gives n.value) (is i))) >>= (λ ts. answer (list_within ts))))
      ∙ (λ i. step given (form.List (means i))))
