-- A chain of three jobs whose files are all lost, and then read at its end.
use Rattle.std.specs.Prelude.{[], ◌∷◌, codes}
use Rattle.tl_model.specs.Past.{Past, Told, without_tickets}
use Rattle.tl_rows.specs.Words.{DigestOf, at, call, cat, claim, done, file_of, itself, job, lose, made, opened, put, saved, served, then_text}

abbrev pub chain_lost : DigestOf → Told
chain_lost digest =
    served digest 0 (file_of 3 0) (codes "x123")
    ∷ call 0 (opened 3 0) (cat 0 (codes "d"))
    ∷ served digest 0 (file_of 3 0) (codes "x123")
    ∷ done 0 0 3
    ∷ claim 0 0 3
    ∷ done 0 0 2
    ∷ claim 0 0 2
    ∷ done 0 0 1
    ∷ claim 0 0 1
    ∷ call 0 (opened 3 0) (cat 0 (codes "d"))
    ∷ lose 0 1
    ∷ lose 0 0
    ∷ done 0 0 3
    ∷ claim 0 0 3
    ∷ done 0 0 2
    ∷ claim 0 0 2
    ∷ done 0 0 1
    ∷ claim 0 0 1
    ∷ call 0 (made 3) (job 3 (then_text (codes "3")) (at (codes "c") ∷ []) (at (codes "d") ∷ []))
    ∷ call 0 (made 2) (job 3 (then_text (codes "2")) (at (codes "b") ∷ []) (at (codes "c") ∷ []))
    ∷ call 0 (made 1) (job 3 (then_text (codes "1")) (at (codes "a") ∷ []) (at (codes "b") ∷ []))
    ∷ saved digest 0 (file_of 0 0) (codes "x")
    ∷ call 0 (made 0) (put digest (codes "a") (codes "x"))
    ∷ []

abbrev pub chain_lost_past : Past
chain_lost_past = without_tickets (chain_lost itself)
