-- The equations of a function of a whole tree, and induction over trees.
use denote.Hole.Carrier as carrier
use Rattle.std.proofs.Common.{◌≡◌, sym, ◌∙◌, subst}
use Rattle.tl_lang.specs.declared.expr.Expr.{Expr, out-Expr, roll-Expr}
use Rattle.tl_lang.specs.declared.expr.Expr.TheBlock.{the_members, member-Expr, the_sigs, the_carrier}
use Rattle.tl_lang.specs.declared.expr.Expr.TheFolds.{family, steps, map_is-Expr, ind-Expr}
use Rattle.tl_lang.specs.declared.expr.Expr.TheViews.{roll-out-Expr}
use Rattle.tl_lang.specs.Tree.{Form, fold_tree, at_parts}

pub fold_tree-roll : {A : Type 0} (step : Form A → A) (x : Form Expr) → fold_tree step (roll-Expr x) ≡ step (at_parts (fold_tree step) x)
unfolding roll-Expr carrier.fold carrier.roll
fold_tree-roll {A} step x =
    carrier.fold-roll the_members the_sigs the_carrier (family A) (steps A step) member-Expr x
    ∙ (λ i. step (map_is-Expr (carrier.Values the_members the_sigs the_carrier) (family A) (carrier.fold the_members the_sigs the_carrier (family A) (steps A step)) x i))

pub fold_tree-out : {A : Type 0} (step : Form A → A) (e : Expr) → fold_tree step e ≡ step (at_parts (fold_tree step) (out-Expr e))
fold_tree-out step e = (λ i. fold_tree step (sym (roll-out-Expr e) i)) ∙ fold_tree-roll step (out-Expr e)

-- a part with a fact of it
abbrev pub Proved : (Expr → Type 0) → Type 0
Proved P = (e : Expr) × P e

-- the parts alone
abbrev pub parts_of : {P : Expr → Type 0} → Form (Proved P) → Form Expr
parts_of y = at_parts (λ t. t.0) y

-- what a step keeps at each form holds of every tree
pub along_tree : {A : Type 0} (f : Form A → A) (P : A → Type 0) → ((y : Form (Proved (λ e. P (fold_tree f e)))) → P (f (at_parts (fold_tree f) (parts_of y)))) → (e : Expr) → P (fold_tree f e)
along_tree f P keeps = ind-Expr (λ e. P (fold_tree f e)) (λ x y is.
    subst (λ z. P (fold_tree f (roll-Expr z))) is (subst P (sym (fold_tree-roll f (parts_of y))) (keeps y)))

-- the same of two functions of a tree
pub along_trees : {A B : Type 0} (f : Form A → A) (g : Form B → B) (R : A → B → Type 0) → ((y : Form (Proved (λ e. R (fold_tree f e) (fold_tree g e)))) → R (f (at_parts (fold_tree f) (parts_of y))) (g (at_parts (fold_tree g) (parts_of y)))) → (e : Expr) → R (fold_tree f e) (fold_tree g e)
along_trees f g R keeps = ind-Expr (λ e. R (fold_tree f e) (fold_tree g e)) (λ x y is.
    let z = parts_of y in
    subst (λ z. R (fold_tree f (roll-Expr z)) (fold_tree g (roll-Expr z))) is
    (subst (λ a. R a (fold_tree g (roll-Expr z))) (sym (fold_tree-roll f z))
    (subst (λ b. R (f (at_parts (fold_tree f) z)) b) (sym (fold_tree-roll g z)) (keeps y))))
