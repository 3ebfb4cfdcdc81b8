-- The script that two numbers give: how many jobs it has, and the seed of what is drawn.
use Rattle.std.specs.Prelude.{ℕ, zero, suc, ◌+◌, ◌*◌, ◌/◌, ◌%◌, ◌^◌, ◌==◌, if◌then◌else◌, codes}
use Rattle.std.specs.Prelude.{List, [], ◌∷◌, ◌++◌}
use Rattle.std.specs.Fmt.{decimal}

abbrev pub line_feed : List ℕ
line_feed = 0x0A ∷ []

-- the parts, one after the other, and a line feed
abbrev pub line : List (List ℕ) → List ℕ
line [] = line_feed
line (part ∷ parts) = part ++ line parts

-- ---- what is drawn

-- where the draws stand after a draw, which gives this divided by 2^33
abbrev pub drawn : ℕ → ℕ
drawn x = (x * 6364136223846793005 + 1442695040888963407) % 2 ^ 64

-- where they stand after the jobs from 1 to this one, each of which takes two draws
abbrev pub drawn_to : ℕ → ℕ → ℕ
drawn_to zero seed = seed
drawn_to (suc before) seed = drawn (drawn (drawn_to before seed))

-- ---- lines

abbrev pub job_line : ℕ → ℕ → ℕ → List ℕ
job_line number kind input = line (decimal (number % 4) ∷ codes " job " ∷ decimal kind
    ∷ codes " 64 in /f" ∷ decimal input ∷ codes " out /f" ∷ decimal number
    ∷ codes " run (job (cat (in 0) \"x\"))" ∷ [])

-- a worker is lost after a job of kind 6, and its file read after one of kind 7
abbrev pub line_after : ℕ → ℕ → ℕ → List ℕ
line_after number kind input =
    if kind == 6 then line (decimal (number % 4) ∷ codes " lose " ∷ decimal (input % 4) ∷ [])
    else if kind == 7 then line (decimal (number % 4) ∷ codes " sum 0 /f" ∷ decimal number ∷ [])
    else []

abbrev pub lines_of : ℕ → ℕ → ℕ → List ℕ
lines_of number kind input = job_line number kind input ++ line_after number kind input

-- the lines of one job, from where the draws stand before it: the first draw gives its kind, which
-- is its priority too, and the second the file that it reads
abbrev pub job_lines : ℕ → ℕ → List ℕ
job_lines number x =
    lines_of number (drawn x / 2 ^ 33 % 8) (drawn (drawn x) / 2 ^ 33 % number)

-- the lines of the jobs from 1 to this one
abbrev pub jobs_to : ℕ → ℕ → List ℕ
jobs_to zero seed = []
jobs_to (suc before) seed = jobs_to before seed ++ job_lines (suc before) (drawn_to before seed)

-- the whole script
abbrev pub opening : List ℕ
opening = line (codes "tachyon 1 workers 4 capacity 65536 hot 3" ∷ [])
    ++ line (codes "0 put /f0 \"0\"" ∷ [])

abbrev pub generated : ℕ → ℕ → List ℕ
generated count seed =
    opening ++ jobs_to count seed ++ line (codes "0 sum 0 /f" ∷ decimal count ∷ [])
