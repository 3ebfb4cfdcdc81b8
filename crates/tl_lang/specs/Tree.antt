-- An expression as a tree: one level of it, and a function of the whole by one step at each level.
use Rattle.tl_lang.specs.declared.expr.Expr.{Expr}
use Rattle.tl_lang.specs.declared.expr.Expr.TheOpen.{Expr-F}
use Rattle.tl_lang.specs.declared.expr.Expr.TheBlock.{laid-Expr}
use Rattle.tl_lang.specs.declared.expr.Expr.TheFolds.{family, steps, map-Expr}

-- a form of the language, with an A in the place of each part
abbrev pub Form : Type 0 → Type 0
Form = Expr-F

-- what the step gives of a tree: it is handed what it gave of each part
abbrev pub fold_tree : {A : Type 0} → (Form A → A) → Expr → A
fold_tree {A} step = laid-Expr (family A) (steps A step)

-- the form with the function applied at each part
abbrev pub at_parts : {A B : Type 0} → (A → B) → Form A → Form B
at_parts {A} {B} f form = map-Expr A B f form
