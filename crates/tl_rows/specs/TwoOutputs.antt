-- A job with two outputs, of which one is freed and made again on another worker.
use Rattle.std.specs.Prelude.{[], ◌∷◌, codes}
use Rattle.tl_lang.specs.declared.expr.Expr.{Text}
use Rattle.tl_model.specs.declared.reply.Reply.TheVariants.{Fine}
use Rattle.tl_model.specs.Past.{Past, Told, without_tickets}
use Rattle.tl_rows.specs.Words.{DigestOf, at, call, cat, claim, done, file_of, free, freed, itself, job, lose, made, opened, served}

abbrev pub two_outputs : DigestOf → Told
two_outputs digest =
    served digest 1 (file_of 0 1) (codes "yy")
    ∷ done 1 1 0
    ∷ claim 1 1 0
    ∷ call 1 (opened 0 1) (cat 0 (codes "y"))
    ∷ served digest 1 (file_of 0 0) (codes "xx")
    ∷ call 1 (opened 0 0) (cat 0 (codes "x"))
    ∷ lose 0 0
    ∷ served digest 1 (file_of 0 0) (codes "xx")
    ∷ done 1 1 0
    ∷ claim 1 1 0
    ∷ call 1 (opened 0 0) (cat 0 (codes "x"))
    ∷ freed 0 (file_of 0 0)
    ∷ call 0 Fine (free (codes "x"))
    ∷ done 0 0 0
    ∷ claim 0 0 0
    ∷ call 0 (made 0) (job 3 (Text (codes "xx") ∷ Text (codes "yy") ∷ []) [] (at (codes "x") ∷ at (codes "y") ∷ []))
    ∷ []

abbrev pub two_outputs_past : Past
two_outputs_past = without_tickets (two_outputs itself)
