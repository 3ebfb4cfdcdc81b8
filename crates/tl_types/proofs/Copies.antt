-- A vector of vectors and a copy of it have the same lists.
use Rattle.std.proofs.Common.{◌≡◌, ℕ, List, [], ◌∷◌, refl}
use Rattle.std.proofs.lemmas.List.Elements.{same_from_all_zip}
use Rattle.std.specs.Global.{Vec}
use Rattle.std.specs.List.{AllZip}
use Rattle.std.specs.Vec.{vec_len}
use Rattle.tl_types.specs.Parts.{lists_of}

-- what `clone` says of a vector of bytes
abbrev pub IsCopy : Vec ℕ → Vec ℕ → Type 0
IsCopy part copy = AllZip (λ (x y : ℕ). y ≡ x) part.items copy.items × (vec_len copy ≡ vec_len part)

pub lists_of-copies : (parts copies : List (Vec ℕ)) → AllZip IsCopy parts copies → lists_of copies ≡ lists_of parts
lists_of-copies [] [] h = refl
lists_of-copies [] (copy ∷ copies) h = absurd h
lists_of-copies (part ∷ parts) [] h = absurd h
lists_of-copies (part ∷ parts) (copy ∷ copies) h =
    let same = same_from_all_zip (λ (x y : ℕ). y ≡ x) part.items copy.items h.0.0 (λ x y e. e) in
    λ i. same i ∷ lists_of-copies parts copies h.1 i
