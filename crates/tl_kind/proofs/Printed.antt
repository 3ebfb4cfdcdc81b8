-- What printing appends.
use Rattle.std.proofs.Common.{◌≡◌, ℕ, List, [], ◌∷◌, codes, map, refl, ap}
use Rattle.tl_lang.specs.declared.expr.Expr.{Expr}
use Rattle.tl_lang.specs.declared.expr.Expr.TheOpen as form
use Rattle.tl_kind.specs.Written.{Part, an_expr, form_text, spelling, spelling_step}

parts_of : (parts : List Expr) → map an_expr (map spelling parts) ≡ map (λ e. an_expr (spelling e)) parts
parts_of [] = refl
parts_of (e ∷ parts) = ap (λ (ps : List (Part (List ℕ))). an_expr (spelling e) ∷ ps) (parts_of parts)

pub prints_list : (parts : List Expr) → spelling_step (form.List (map spelling parts)) ≡ form_text (codes "list") (map (λ e. an_expr (spelling e)) parts)
prints_list parts = ap (λ (ps : List (Part (List ℕ))). form_text (codes "list") ps) (parts_of parts)
