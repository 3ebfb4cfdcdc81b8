-- A count of the errors in four logs, by twelve jobs.
use Rattle.std.specs.Prelude.{ℕ, List, [], ◌∷◌, ◌++◌, codes}
use Rattle.tl_lang.specs.declared.expr.Expr.{Expr, Text, Input, Var, Key, Cat, Num, Str, Add, Has, Lines, Join, Count, Keep}
use Rattle.tl_model.specs.Past.{Past, Told, without_tickets}
use Rattle.tl_rows.specs.Words.{DigestOf, at, call, cat, claim, collect, done, file_of, itself, load, lose, made, opened, put, save, saved, served, set_job}

-- a line of a text, with its line feed, before the rest
abbrev pub line : List ℕ → List ℕ → List ℕ
line text rest = text ++ 10 ∷ rest

abbrev pub log0 : List ℕ
log0 = line (codes "INFO a") (line (codes "ERROR b") (line (codes "ERROR c") []))

abbrev pub log1 : List ℕ
log1 = line (codes "INFO d") []

abbrev pub log2 : List ℕ
log2 = line (codes "ERROR e") []

abbrev pub log3 : List ℕ
log3 = []

abbrev pub report : List ℕ
report = line (codes "errors 3") (line (codes "ERROR b") (codes "ERROR c"))

abbrev pub error : List (List ℕ × List ℕ)
error = (codes "w", codes "ERROR") ∷ []

-- the lines that have the word of the configuration
abbrev pub errors : List Expr
errors = Join (Keep (codes "x") (Lines (Input 0)) (Has (Var (codes "x")) (Key (codes "w")))) (Text (10 ∷ [])) ∷ []

abbrev pub counted : List Expr
counted = Str (Count (Lines (Input 0))) ∷ []

abbrev pub added : List Expr
added = Str (Add (Num (Input 0)) (Num (Input 1))) ∷ []

abbrev pub reported : List Expr
reported = Cat (Cat (Text (codes "errors ")) (Input 0)) (Cat (Text (10 ∷ [])) (Input 1)) ∷ []

-- the logs are put, and the jobs are recorded
abbrev pub log_jobs : DigestOf → Told
log_jobs digest =
    call 0 (made 15) (set_job [] 100 3 reported (at (codes "total") ∷ at (codes "e0") ∷ []) (at (codes "report") ∷ []))
    ∷ call 0 (made 14) (set_job [] 100 3 added (at (codes "s0") ∷ at (codes "s1") ∷ []) (at (codes "total") ∷ []))
    ∷ call 0 (made 13) (set_job [] 100 3 added (at (codes "n2") ∷ at (codes "n3") ∷ []) (at (codes "s1") ∷ []))
    ∷ call 0 (made 12) (set_job [] 100 3 added (at (codes "n0") ∷ at (codes "n1") ∷ []) (at (codes "s0") ∷ []))
    ∷ call 0 (made 11) (set_job [] 1000 3 counted (at (codes "e3") ∷ []) (at (codes "n3") ∷ []))
    ∷ call 0 (made 10) (set_job [] 1000 3 counted (at (codes "e2") ∷ []) (at (codes "n2") ∷ []))
    ∷ call 0 (made 9) (set_job [] 1000 3 counted (at (codes "e1") ∷ []) (at (codes "n1") ∷ []))
    ∷ call 0 (made 8) (set_job [] 1000 3 counted (at (codes "e0") ∷ []) (at (codes "n0") ∷ []))
    ∷ call 0 (made 7) (set_job error 1000 3 errors (at (codes "l3") ∷ []) (at (codes "e3") ∷ []))
    ∷ call 0 (made 6) (set_job error 1000 3 errors (at (codes "l2") ∷ []) (at (codes "e2") ∷ []))
    ∷ call 0 (made 5) (set_job error 1000 3 errors (at (codes "l1") ∷ []) (at (codes "e1") ∷ []))
    ∷ call 0 (made 4) (set_job error 1000 3 errors (at (codes "l0") ∷ []) (at (codes "e0") ∷ []))
    ∷ saved digest 0 (file_of 3 0) log3
    ∷ call 0 (made 3) (put digest (codes "l3") log3)
    ∷ saved digest 0 (file_of 2 0) log2
    ∷ call 0 (made 2) (put digest (codes "l2") log2)
    ∷ saved digest 0 (file_of 1 0) log1
    ∷ call 0 (made 1) (put digest (codes "l1") log1)
    ∷ saved digest 0 (file_of 0 0) log0
    ∷ call 0 (made 0) (put digest (codes "l0") log0)
    ∷ []

-- the report is read
abbrev pub log_report : DigestOf → Told
log_report digest =
    served digest 0 (file_of 15 0) report
    ∷ done 0 0 15
    ∷ claim 0 0 15
    ∷ done 0 0 14
    ∷ claim 0 0 14
    ∷ done 0 0 13
    ∷ claim 0 0 13
    ∷ done 0 0 12
    ∷ claim 0 0 12
    ∷ done 0 0 11
    ∷ claim 0 0 11
    ∷ done 0 0 10
    ∷ claim 0 0 10
    ∷ done 0 0 9
    ∷ claim 0 0 9
    ∷ done 0 0 8
    ∷ claim 0 0 8
    ∷ done 0 0 7
    ∷ claim 0 0 7
    ∷ done 0 0 6
    ∷ claim 0 0 6
    ∷ done 0 0 5
    ∷ claim 0 0 5
    ∷ done 0 0 4
    ∷ claim 0 0 4
    ∷ call 0 (opened 15 0) (cat 5 (codes "report"))
    ∷ log_jobs digest

-- the report is saved, what is not needed goes, both workers are lost, and the report and the total are read again
abbrev pub log_count : DigestOf → Told
log_count digest =
    served digest 0 (file_of 14 0) (codes "3")
    ∷ done 0 0 14
    ∷ claim 0 0 14
    ∷ done 0 0 13
    ∷ claim 0 0 13
    ∷ done 0 0 12
    ∷ claim 0 0 12
    ∷ done 0 0 11
    ∷ claim 0 0 11
    ∷ done 0 0 10
    ∷ claim 0 0 10
    ∷ done 0 0 9
    ∷ claim 0 0 9
    ∷ done 0 0 8
    ∷ claim 0 0 8
    ∷ done 0 0 7
    ∷ claim 0 0 7
    ∷ done 0 0 6
    ∷ claim 0 0 6
    ∷ done 0 0 5
    ∷ claim 0 0 5
    ∷ done 0 0 4
    ∷ claim 0 0 4
    ∷ call 0 (opened 14 0) (cat 5 (codes "total"))
    ∷ served digest 0 (file_of 15 0) report
    ∷ load 0 0 (file_of 15 0)
    ∷ call 0 (opened 15 0) (cat 5 (codes "report"))
    ∷ lose 0 1
    ∷ lose 0 0
    ∷ collect 0 15
    ∷ collect 0 3
    ∷ collect 0 2
    ∷ collect 0 1
    ∷ collect 0 0
    ∷ saved digest 0 (file_of 15 0) report
    ∷ save 0 (file_of 15 0)
    ∷ log_report digest

abbrev pub log_jobs_past : Past
log_jobs_past = without_tickets (log_jobs itself)

abbrev pub log_report_past : Past
log_report_past = without_tickets (log_report itself)

abbrev pub log_count_past : Past
log_count_past = without_tickets (log_count itself)
