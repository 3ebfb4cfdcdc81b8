-- Spellings and limits of a tree, one level at a time.
use Rattle.std.proofs.Common.{◌≡◌, ℕ, Bool, List, [], ◌∷◌, map, refl, ◌∙◌, ap}
use Rattle.tl_lang.specs.declared.expr.Expr.{Expr, out-Expr}
use Rattle.tl_lang.specs.declared.expr.Expr.TheOpen as form
use Rattle.tl_lang.specs.Tree.{Form, at_parts}
use Rattle.tl_lang.proofs.Trees.{fold_tree-out}
use Rattle.tl_kind.specs.declared.word.Word.TheVariants as word
use Rattle.tl_kind.specs.Written.{Part, an_expr, Written, with_parts, map_part, map_written, written, written_text, spelling_step, spelling, written_fits, fits}

module _ {A B : Type 0} (g : A → B) where
  map-exprs : (parts : List A) → map an_expr (map g parts) ≡ map (map_part g) (map an_expr parts)
  map-exprs [] = refl
  map-exprs (a ∷ parts) = ap (λ (ps : List (Part B)). an_expr (g a) ∷ ps) (map-exprs parts)

  pub written-at_parts : (f : Form A) → written (at_parts g f) ≡ map_written g (written f)
  written-at_parts (form.Text s) = refl
  written-at_parts (form.Number z) = refl
  written-at_parts (form.Var x) = refl
  written-at_parts (form.Input k) = refl
  written-at_parts (form.Key key) = refl
  written-at_parts (form.Cat a b) = refl
  written-at_parts (form.Len a) = refl
  written-at_parts (form.Sub a i j) = refl
  written-at_parts (form.Eq a b) = refl
  written-at_parts (form.Has a b) = refl
  written-at_parts (form.Num a) = refl
  written-at_parts (form.Str a) = refl
  written-at_parts (form.Add a b) = refl
  written-at_parts (form.Minus a b) = refl
  written-at_parts (form.Mul a b) = refl
  written-at_parts (form.Div a b) = refl
  written-at_parts (form.Mod a b) = refl
  written-at_parts (form.Lt a b) = refl
  written-at_parts (form.Same a b) = refl
  written-at_parts (form.If c a b) = refl
  written-at_parts (form.Let x a b) = refl
  written-at_parts (form.Lines a) = refl
  written-at_parts (form.Split a s) = refl
  written-at_parts (form.Join m s) = refl
  written-at_parts (form.List parts) = ap (with_parts word.List) (map-exprs parts)
  written-at_parts (form.Append m a) = refl
  written-at_parts (form.At m i) = refl
  written-at_parts (form.Count m) = refl
  written-at_parts (form.Sort m) = refl
  written-at_parts (form.Each x m a) = refl
  written-at_parts (form.Keep x m a) = refl
  written-at_parts (form.Fold s x m i a) = refl

pub spelling-written : (e : Expr) → spelling e ≡ written_text (map_written spelling (written (out-Expr e)))
spelling-written e = fold_tree-out spelling_step e ∙ ap written_text (written-at_parts spelling (out-Expr e))

pub fits-written : (e : Expr) (room : ℕ) → fits e room ≡ written_fits (map_written fits (written (out-Expr e))) room
fits-written e room =
    ap (λ (f : ℕ → Bool). f room) (fold_tree-out (λ (f : Form (ℕ → Bool)). written_fits (written f)) e)
    ∙ ap (λ (w : Written (ℕ → Bool)). written_fits w room) (written-at_parts fits (out-Expr e))
