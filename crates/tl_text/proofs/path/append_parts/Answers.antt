use Rattle.std.proofs.Common.{◌≡◌, ◌+◌, zero, suc, ℕ, List, [], ◌∷◌, ◌++◌, Some, take, sym, ap, ◌∙◌, append_assoc, add-one}
use Rattle.std.specs.List.{slice_get, flat_map}
use Rattle.std.proofs.lemmas.List.{append-nil}
use Rattle.std.proofs.lemmas.List.Concat.{flat_map-append}
use Rattle.tl_types.specs.Path.{slash_before}
use Rattle.tl_text.proofs.path.append_parts.Goals as goal

-- one more element that was got
taken : (parts : List (List ℕ)) (i : ℕ) (part : List ℕ) → slice_get parts i ≡ Some part → take (suc i) parts ≡ take i parts ++ part ∷ []
taken [] i part e = cc
taken (x ∷ parts) zero part e = ap (λ (p : List ℕ). p ∷ []) cc
taken (x ∷ parts) (suc i) part e = ap (λ (t : List (List ℕ)). x ∷ t) (taken parts i part e)

one_more : (out now : List ℕ) (parts : List (List ℕ)) (i : ℕ) (part : List ℕ) → slice_get parts i ≡ Some part → now ≡ out ++ flat_map slash_before (take i parts) → (now ++ 47 ∷ []) ++ part ≡ out ++ flat_map slash_before (take (i + 1) parts)
one_more out now parts i part got e =
    let next : flat_map slash_before (take (i + 1) parts) ≡ flat_map slash_before (take i parts) ++ 47 ∷ part =
    rw add-one (ap (flat_map slash_before) (taken parts i part got) ∙ flat_map-append slash_before (take i parts) (part ∷ []) ∙ ap (λ (t : List ℕ). flat_map slash_before (take i parts) ++ 47 ∷ t) (append-nil part)) in
    append_assoc now (47 ∷ []) part ∙ ap (λ (t : List ℕ). t ++ 47 ∷ part) e ∙ append_assoc out (flat_map slash_before (take i parts)) (47 ∷ part) ∙ ap (λ (t : List ℕ). out ++ t) (sym next)

pub loop-i-preserved : goal.loop-i-preserved
loop-i-preserved c =
    c.in_ok-extend_from_slice.ensures.items ∙ ap (λ (t : List ℕ). t ++ c.part.result.now) c.in_ok-push.ensures.items ∙ one_more c.args.out.now.items c.loop-i.out.items c.args.path.now c.loop-i.i c.part.result.now c.part.ensures c.loop-i.invariant
