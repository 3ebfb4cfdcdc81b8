-- A job that names one file as both of its inputs, claimed twice.
use Rattle.std.specs.Prelude.{List, [], ◌∷◌, codes}
use Rattle.tl_model.specs.declared.reply.Reply.TheVariants.{Fine}
use Rattle.tl_model.specs.Namespace.{PathOf}
use Rattle.tl_model.specs.Past.{Past, Told, without_tickets}
use Rattle.tl_rows.specs.Words.{DigestOf, at, both_inputs, call, cat, claim, done, file_of, free, freed, itself, job, made, only_text, opened, served}

abbrev pub a_twice : List PathOf
a_twice = at (codes "a") ∷ at (codes "a") ∷ []

abbrev pub input_twice : DigestOf → Told
input_twice digest =
    served digest 0 (file_of 1 0) (codes "xx")
    ∷ done 0 0 1
    ∷ claim 0 0 1
    ∷ call 0 (opened 1 0) (cat 0 (codes "b"))
    ∷ freed 0 (file_of 1 0)
    ∷ call 0 Fine (free (codes "b"))
    ∷ done 0 0 1
    ∷ claim 0 0 1
    ∷ done 0 0 0
    ∷ claim 0 0 0
    ∷ call 0 (made 1) (job 3 both_inputs a_twice (at (codes "b") ∷ []))
    ∷ call 0 (made 0) (job 3 (only_text (codes "x")) [] (at (codes "a") ∷ []))
    ∷ []

abbrev pub input_twice_past : Past
input_twice_past = without_tickets (input_twice itself)
