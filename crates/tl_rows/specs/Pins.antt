-- A pinned file stays, though it was used least lately.
use Rattle.std.specs.Prelude.{[], ◌∷◌, codes}
use Rattle.tl_model.specs.declared.reply.Reply.TheVariants.{Fine}
use Rattle.tl_model.specs.Past.{Past, Told, without_tickets}
use Rattle.tl_rows.specs.Words.{DigestOf, at, call, cat, claim, done, evict, file_of, itself, job, made, only_text, opened, pin, served}

abbrev pub pins : DigestOf → Told
pins digest =
    evict 0 0 (file_of 1 0)
    ∷ evict 0 0 (file_of 2 0)
    ∷ done 0 0 3
    ∷ claim 0 0 3
    ∷ call 0 (made 3) (job 3 (only_text (codes "wwww")) [] (at (codes "w") ∷ []))
    ∷ served digest 0 (file_of 1 0) (codes "yy")
    ∷ call 0 (opened 1 0) (cat 0 (codes "y"))
    ∷ call 0 Fine (pin (codes "x"))
    ∷ done 0 0 2
    ∷ claim 0 0 2
    ∷ done 0 0 1
    ∷ claim 0 0 1
    ∷ done 0 0 0
    ∷ claim 0 0 0
    ∷ call 0 (made 2) (job 3 (only_text (codes "zz")) [] (at (codes "z") ∷ []))
    ∷ call 0 (made 1) (job 3 (only_text (codes "yy")) [] (at (codes "y") ∷ []))
    ∷ call 0 (made 0) (job 3 (only_text (codes "xx")) [] (at (codes "x") ∷ []))
    ∷ []

abbrev pub pins_past : Past
pins_past = without_tickets (pins itself)
