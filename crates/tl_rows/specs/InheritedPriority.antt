-- A job takes on the priority of what waits for it: of another job, and of reads.
use Rattle.std.specs.Prelude.{[], ◌∷◌, codes}
use Rattle.tl_model.specs.Past.{Past, Told, without_tickets}
use Rattle.tl_rows.specs.Words.{DigestOf, at, call, cat, claim, done, file_of, itself, job, lose, made, only_text, opened, put, saved, served, then_text}

abbrev pub waiting_job : DigestOf → Told
waiting_job digest =
    done 0 0 1
    ∷ claim 0 0 1
    ∷ done 0 0 3
    ∷ claim 0 0 3
    ∷ done 0 0 2
    ∷ claim 0 0 2
    ∷ call 0 (made 3) (job 7 (then_text (codes "3")) (at (codes "y") ∷ []) (at (codes "z") ∷ []))
    ∷ call 0 (made 2) (job 1 (then_text (codes "2")) (at (codes "a") ∷ []) (at (codes "y") ∷ []))
    ∷ call 0 (made 1) (job 2 (then_text (codes "1")) (at (codes "a") ∷ []) (at (codes "x") ∷ []))
    ∷ saved digest 0 (file_of 0 0) (codes "x")
    ∷ call 0 (made 0) (put digest (codes "a") (codes "x"))
    ∷ []

abbrev pub waiting_reads : DigestOf → Told
waiting_reads digest =
    served digest 0 (file_of 1 0) (codes "s1")
    ∷ done 0 0 1
    ∷ claim 0 0 1
    ∷ served digest 1 (file_of 2 0) (codes "s2")
    ∷ done 1 0 2
    ∷ claim 1 0 2
    ∷ done 0 0 0
    ∷ claim 0 0 0
    ∷ call 1 (opened 2 0) (cat 7 (codes "q"))
    ∷ call 0 (opened 1 0) (cat 1 (codes "p"))
    ∷ lose 0 0
    ∷ done 0 0 2
    ∷ claim 0 0 2
    ∷ done 0 0 1
    ∷ claim 0 0 1
    ∷ done 0 0 0
    ∷ claim 0 0 0
    ∷ call 0 (made 2) (job 0 (then_text (codes "2")) (at (codes "s") ∷ []) (at (codes "q") ∷ []))
    ∷ call 0 (made 1) (job 0 (then_text (codes "1")) (at (codes "s") ∷ []) (at (codes "p") ∷ []))
    ∷ call 0 (made 0) (job 0 (only_text (codes "s")) [] (at (codes "s") ∷ []))
    ∷ []

-- a read of a lost file, and a job of greater priority that has it as input and is running, and then is done and read
abbrev pub waits_no_more : DigestOf → Told
waits_no_more digest =
    served digest 0 (file_of 2 0) (codes "x12")
    ∷ served digest 1 (file_of 1 0) (codes "x1")
    ∷ done 1 0 1
    ∷ claim 1 0 1
    ∷ call 0 (opened 2 0) (cat 7 (codes "c"))
    ∷ done 0 1 2
    ∷ call 1 (opened 1 0) (cat 1 (codes "b"))
    ∷ lose 1 0
    ∷ claim 0 1 2
    ∷ done 0 0 1
    ∷ claim 0 0 1
    ∷ call 0 (made 2) (job 7 (then_text (codes "2")) (at (codes "b") ∷ []) (at (codes "c") ∷ []))
    ∷ call 0 (made 1) (job 3 (then_text (codes "1")) (at (codes "a") ∷ []) (at (codes "b") ∷ []))
    ∷ saved digest 0 (file_of 0 0) (codes "x")
    ∷ call 0 (made 0) (put digest (codes "a") (codes "x"))
    ∷ []

abbrev pub waiting_job_past : Past
waiting_job_past = without_tickets (waiting_job itself)

abbrev pub waiting_reads_past : Past
waiting_reads_past = without_tickets (waiting_reads itself)

abbrev pub waits_no_more_past : Past
waits_no_more_past = without_tickets (waits_no_more itself)
