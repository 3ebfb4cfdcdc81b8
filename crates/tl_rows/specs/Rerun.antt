-- A file is made by a job, lost with its worker, and made again for a second read.
use Rattle.std.specs.Prelude.{[], ◌∷◌, codes}
use Rattle.tl_model.specs.Past.{Past, Told, without_tickets}
use Rattle.tl_rows.specs.Words.{DigestOf, itself, file_of, at, made, opened, put, job, then_text, cat, call, claim, done, lose, served, saved}

abbrev pub rerun : DigestOf → Told
rerun digest =
    served digest 0 (file_of 1 0) (codes "hi!")
    ∷ done 0 0 1
    ∷ claim 0 0 1
    ∷ call 0 (opened 1 0) (cat 0 (codes "b"))
    ∷ lose 0 0
    ∷ served digest 0 (file_of 1 0) (codes "hi!")
    ∷ done 0 0 1
    ∷ claim 0 0 1
    ∷ call 0 (opened 1 0) (cat 0 (codes "b"))
    ∷ call 0 (made 1) (job 3 (then_text (codes "!")) (at (codes "a") ∷ []) (at (codes "b") ∷ []))
    ∷ saved digest 0 (file_of 0 0) (codes "hi")
    ∷ call 0 (made 0) (put digest (codes "a") (codes "hi"))
    ∷ []

abbrev pub rerun_past : Past
rerun_past = without_tickets (rerun itself)
