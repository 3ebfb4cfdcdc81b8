-- Beginnings of journals that a refused event is put after.
use Rattle.std.specs.Prelude.{Bool, [], ◌∷◌, codes}
use Rattle.tl_model.specs.declared.reply.Reply.TheVariants.{Fine}
use Rattle.tl_model.specs.Past.{Told, without_tickets}
use Rattle.tl_model.specs.Rules.{is_permitted, lawful_judge}
use Rattle.tl_rows.specs.Words.{DigestOf, Line, at, back, call, cat, claim, collect, delete, done, file_of, free, header, job, load, lose, made, opened, put, save, saved, served, shut, then_text, unsave}

-- a saved put, and two jobs that read it
abbrev pub start : DigestOf → Told
start digest =
    call 0 (made 2) (job 3 (then_text (codes "2")) (at (codes "a") ∷ []) (at (codes "c") ∷ []))
    ∷ call 0 (made 1) (job 3 (then_text (codes "1")) (at (codes "a") ∷ []) (at (codes "b") ∷ []))
    ∷ saved digest 0 (file_of 0 0) (codes "x")
    ∷ call 0 (made 0) (put digest (codes "a") (codes "x"))
    ∷ []

-- the first of the jobs is done
abbrev pub one_done : DigestOf → Told
one_done digest =
    done 0 0 1
    ∷ claim 0 0 1
    ∷ start digest

-- both are done
abbrev pub both_done : DigestOf → Told
both_done digest =
    done 0 0 2
    ∷ claim 0 0 2
    ∷ one_done digest

-- and the file of the first is read
abbrev pub reading : DigestOf → Told
reading digest =
    call 0 (opened 1 0) (cat 0 (codes "b"))
    ∷ both_done digest

-- or the file of the first is saved
abbrev pub saving : DigestOf → Told
saving digest =
    save 0 (file_of 1 0)
    ∷ both_done digest

-- the first is only claimed
abbrev pub claimed : DigestOf → Told
claimed digest =
    claim 0 0 1
    ∷ start digest

-- the put is read, and is in no memory
abbrev pub waiting : DigestOf → Told
waiting digest =
    call 0 (opened 0 0) (cat 0 (codes "a"))
    ∷ start digest

-- it is loaded
abbrev pub loaded : DigestOf → Told
loaded digest =
    load 0 0 (file_of 0 0)
    ∷ waiting digest

-- it is loaded beside both files, and served
abbrev pub loaded_over : DigestOf → Told
loaded_over digest =
    served digest 0 (file_of 0 0) (codes "x")
    ∷ load 0 0 (file_of 0 0)
    ∷ call 0 (opened 0 0) (cat 0 (codes "a"))
    ∷ both_done digest

-- both are made again, the second first
abbrev pub second_again_first : DigestOf → Told
second_again_first digest =
    served digest 0 (file_of 1 0) (codes "x1")
    ∷ done 0 0 1
    ∷ claim 0 0 1
    ∷ call 0 (opened 1 0) (cat 0 (codes "b"))
    ∷ served digest 0 (file_of 2 0) (codes "x2")
    ∷ done 0 0 2
    ∷ claim 0 0 2
    ∷ call 0 (opened 2 0) (cat 0 (codes "c"))
    ∷ lose 0 0
    ∷ both_done digest

-- the file of the first is to leave its memory
abbrev pub freeing : DigestOf → Told
freeing digest =
    call 0 Fine (free (codes "b"))
    ∷ both_done digest

-- the first is claimed again for a read that was given up, and its file has no name
abbrev pub running_only : DigestOf → Told
running_only digest =
    call 0 Fine (delete (codes "b"))
    ∷ shut 0 (file_of 1 0)
    ∷ claim 1 0 1
    ∷ call 0 (opened 1 0) (cat 0 (codes "b"))
    ∷ lose 0 0
    ∷ both_done digest

-- what was begun is given back, and begun again
abbrev pub given_back : DigestOf → Told
given_back digest =
    collect 0 1
    ∷ saved digest 0 (file_of 1 0) (codes "x1")
    ∷ save 0 (file_of 1 0)
    ∷ shut 0 (file_of 1 0)
    ∷ call 0 (opened 1 0) (cat 0 (codes "b"))
    ∷ unsave 0 (file_of 1 0)
    ∷ save 0 (file_of 1 0)
    ∷ done 0 0 1
    ∷ claim 0 0 1
    ∷ back 0 1
    ∷ claim 0 0 1
    ∷ start digest

-- whether an event's own rule permits it after these, whatever is owed
abbrev pub is_allowed : Told → Line → Bool
is_allowed past line = is_permitted lawful_judge (header 2 100 9) past (without_tickets past) line.actor line.act
