use Rattle.std.proofs.Common.{◌≡◌, sym, subst, [], ◌∷◌, ◌++◌, List}
use Rattle.std.specs.List.{AllZip}

-- One more part, and what it gave, at the ends.
pub one-more : {P O : Type 0} (plays : P → O → Type 0) (parts : List P) (outs : List O) (part : P) (out : O)
    → AllZip plays parts outs → plays part out → AllZip plays (parts ++ part ∷ []) (outs ++ out ∷ [])
one-more plays [] [] part out each last = (last, tt)
one-more plays [] (o ∷ outs) part out each last = absurd each
one-more plays (p ∷ parts) [] part out each last = absurd each
one-more plays (p ∷ parts) (o ∷ outs) part out each last = (each.0, one-more plays parts outs part out each.1 last)

-- The same, where lists are these with one more at their ends.
pub both-grew : {P O : Type 0} (plays : P → O → Type 0) (parts rest : List P) (outs done : List O) (part : P) (out : O)
    → parts ≡ rest ++ part ∷ [] → outs ≡ done ++ out ∷ [] → AllZip plays rest done → plays part out
    → AllZip plays parts outs
both-grew plays parts rest outs done part out is-parts is-outs each last =
    subst (λ ps. AllZip plays ps outs) (sym is-parts)
    (subst (λ os. AllZip plays (rest ++ part ∷ []) os) (sym is-outs) (one-more plays rest done part out each last))
