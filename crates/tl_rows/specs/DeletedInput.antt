-- A name in the middle of a chain is deleted; its record stays for the one that reads it.
use Rattle.std.specs.Prelude.{[], ◌∷◌, codes}
use Rattle.tl_model.specs.declared.reply.Reply.TheVariants.{Fine}
use Rattle.tl_model.specs.Past.{Past, Told, without_tickets}
use Rattle.tl_rows.specs.Words.{DigestOf, at, call, cat, claim, collect, delete, done, file_of, itself, job, lose, made, opened, put, saved, served, then_text}

abbrev pub deleted_input : DigestOf → Told
deleted_input digest =
    served digest 0 (file_of 3 0) (codes "x123")
    ∷ done 0 0 3
    ∷ claim 0 0 3
    ∷ done 0 0 2
    ∷ claim 0 0 2
    ∷ done 0 0 1
    ∷ claim 0 0 1
    ∷ call 0 (opened 3 0) (cat 0 (codes "d"))
    ∷ lose 0 0
    ∷ collect 0 0
    ∷ call 0 Fine (delete (codes "c"))
    ∷ done 0 0 3
    ∷ claim 0 0 3
    ∷ done 0 0 2
    ∷ claim 0 0 2
    ∷ done 0 0 1
    ∷ claim 0 0 1
    ∷ call 0 (made 3) (job 3 (then_text (codes "3")) (at (codes "c") ∷ []) (at (codes "d") ∷ []))
    ∷ call 0 (made 2) (job 3 (then_text (codes "2")) (at (codes "b") ∷ []) (at (codes "c") ∷ []))
    ∷ call 0 (made 1) (job 3 (then_text (codes "1")) (at (codes "a") ∷ []) (at (codes "b") ∷ []))
    ∷ saved digest 0 (file_of 0 0) (codes "x")
    ∷ call 0 (made 0) (put digest (codes "a") (codes "x"))
    ∷ []

abbrev pub deleted_input_past : Past
deleted_input_past = without_tickets (deleted_input itself)
