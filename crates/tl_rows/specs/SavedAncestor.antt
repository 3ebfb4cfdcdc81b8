-- A file in the middle of a chain is saved, so that a loss goes no further back than it.
use Rattle.std.specs.Prelude.{[], ◌∷◌, codes}
use Rattle.tl_model.specs.Past.{Past, Told, without_tickets}
use Rattle.tl_rows.specs.Words.{DigestOf, at, call, cat, claim, done, file_of, itself, job, lose, made, opened, put, save, saved, served, then_text}

abbrev pub saved_ancestor : DigestOf → Told
saved_ancestor digest =
    served digest 0 (file_of 3 0) (codes "x123")
    ∷ done 0 0 3
    ∷ claim 0 0 3
    ∷ call 0 (opened 3 0) (cat 0 (codes "d"))
    ∷ lose 0 0
    ∷ done 0 0 3
    ∷ claim 0 0 3
    ∷ call 0 (made 3) (job 3 (then_text (codes "3")) (at (codes "c") ∷ []) (at (codes "d") ∷ []))
    ∷ saved digest 0 (file_of 2 0) (codes "x12")
    ∷ save 0 (file_of 2 0)
    ∷ done 0 0 2
    ∷ claim 0 0 2
    ∷ done 0 0 1
    ∷ claim 0 0 1
    ∷ call 0 (made 2) (job 3 (then_text (codes "2")) (at (codes "b") ∷ []) (at (codes "c") ∷ []))
    ∷ call 0 (made 1) (job 3 (then_text (codes "1")) (at (codes "a") ∷ []) (at (codes "b") ∷ []))
    ∷ saved digest 0 (file_of 0 0) (codes "x")
    ∷ call 0 (made 0) (put digest (codes "a") (codes "x"))
    ∷ []

abbrev pub saved_ancestor_past : Past
saved_ancestor_past = without_tickets (saved_ancestor itself)
