-- Three jobs of priority 7 and one of 3, where each priority gets its share of the claims.
use Rattle.std.specs.Prelude.{[], ◌∷◌, codes}
use Rattle.tl_model.specs.Past.{Past, Told, without_tickets}
use Rattle.tl_rows.specs.Words.{at, call, claim, done, job, made, only_text}

-- no event tells a digest
abbrev pub shared_claims : Told
shared_claims =
    done 0 0 2
    ∷ claim 0 0 2
    ∷ done 0 0 3
    ∷ claim 0 0 3
    ∷ done 0 0 1
    ∷ claim 0 0 1
    ∷ done 0 0 0
    ∷ claim 0 0 0
    ∷ call 0 (made 3) (job 3 (only_text (codes "a")) [] (at (codes "w") ∷ []))
    ∷ call 0 (made 2) (job 7 (only_text (codes "a")) [] (at (codes "z") ∷ []))
    ∷ call 0 (made 1) (job 7 (only_text (codes "a")) [] (at (codes "y") ∷ []))
    ∷ call 0 (made 0) (job 7 (only_text (codes "a")) [] (at (codes "x") ∷ []))
    ∷ []

abbrev pub shared_claims_past : Past
shared_claims_past = without_tickets shared_claims
