use Rattle.std.proofs.Common.{ℕ, List, ap, refl, length, arith}
use Rattle.tl_types.specs.Path.{spelled}
use Rattle.tl_text.specs.PathText.{IsPathText}
use Rattle.tl_text.proofs.Places.{only_reading, refusal_from}
use Rattle.tl_text.proofs.Paths.{one_path_stands}
use Rattle.tl_text.proofs.path.read_path.Goals as goal

pub returns-in-Ok-clause-only : goal.returns-in-Ok-clause-only
returns-in-Ok-clause-only c = λ parts rest h.
    let same = only_reading IsPathText (λ parts. length (spelled parts)) c.args.text.now c.args.at c.in-Ok.len c.in-Ok.path parts _ rest one_path_stands (rw c.in-Ok.is at c.in_ok-path.ensures.found) (rw c.in-Ok.is at c.in_ok-path.ensures.length) h in
    (ap (λ (r : List (List ℕ) × ℕ). r.0) same, ap (λ (r : List (List ℕ) × ℕ). r.1) same)

pub returns-in-Err-clause-bad : goal.returns-in-Err-clause-bad
returns-in-Err-clause-bad c = (refl, omega arith, refusal_from IsPathText c.args.text.now c.args.at c.in-Err.offset (rw c.in-Err.is at c.in_ok-path.ensures.bad))
