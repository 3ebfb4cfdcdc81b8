-- What is known of a script that was read.
use Rattle.std.proofs.Common.{◌≡◌, ℕ, ◌+◌, ◌<◌, ◌≤◌, List, [], ◌∷◌, inl, inr, arith}
use Rattle.std.specs.List.{AllByRecursion}
use Rattle.tl_model.specs.declared.header.Header.{Header}
use Rattle.tl_script.specs.declared.script.Line.{Line}
use Rattle.tl_script.specs.Script.{IsScript, SayAll}
use Rattle.tl_run.specs.Plays.{IsLine}

all-lines : (header : Header) (n : ℕ) (texts : List (List ℕ)) (lines : List Line) → SayAll header n texts lines → AllByRecursion (IsLine header) lines
all-lines header n [] [] say = tt
all-lines header n [] (line ∷ lines) say = absurd say
all-lines header n (text ∷ texts) [] say = tt
all-lines header n (text ∷ texts) (line ∷ lines) (inl skipped) = all-lines header (n + 1) texts (line ∷ lines) skipped.1
all-lines header n (text ∷ texts) (line ∷ lines) (inr says) = ((says.0.1.client, says.0.1.command), all-lines header (n + 1) texts lines says.1)

-- each command of a script is a client's, and within the limits
pub script-lines : (texts : List (List ℕ)) (header : Header) (lines : List Line) → IsScript texts header lines → AllByRecursion (IsLine header) lines
script-lines [] header lines script = absurd script
script-lines (text ∷ texts) header lines script = all-lines header 2 texts lines script.1

-- its header has a worker
pub script-workers : (texts : List (List ℕ)) (header : Header) (lines : List Line) → IsScript texts header lines → 0 < header.workers
script-workers [] header lines script = absurd script
script-workers (text ∷ texts) header lines script = let some : 1 ≤ header.workers = script.0.header.some_workers in omega arith
