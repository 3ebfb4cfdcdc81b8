use Rattle.std.proofs.Common.{◌≡◌, ℕ, ◌≤◌, ◌<◌, List, [], ◌∷◌, length, map, get_or, Bool, sym, ◌∙◌, ap, arith, eqb}
use Rattle.std.specs.Prelude.{IsTrue}
use Rattle.std.specs.Cmp.Lexicographic.{pointwise}
use Rattle.std.proofs.lemmas.Slice.Eq.{slice_eq-Decides}
use Rattle.std.proofs.lemmas.Bool.Decides.{Decides-eqb}

-- of a list of one, seen by f, the comparison with a text says whether it is that text
pub only_word : {X : Type 0} (f : X → List ℕ) (xs : List X) (x : X) (text given : List ℕ) (r : Bool) → 1 ≤ length xs → length xs < 2 → x ≡ get_or xs 0 x → given ≡ f x → r ≡ pointwise eqb given text
    → (IsTrue r → map f xs ≡ text ∷ []) × (map f xs ≡ text ∷ [] → IsTrue r)
only_word f [] x text given r low high is value e = absurd (omega arith)
only_word f (y ∷ []) x text given r low high is value e =
    let decides = slice_eq-Decides Decides-eqb given text r e in
    let shown : given ≡ f y = value ∙ ap f is in
    (λ yes. ap (λ t. t ∷ []) (sym shown ∙ decides.0 yes), λ same. decides.1 (shown ∙ ap (λ ts. get_or ts 0 text) same))
only_word f (y ∷ z ∷ ys) x text given r low high is value e = absurd (omega arith)
