use Rattle.std.proofs.Common.{ℕ, List, ap, length}
use Rattle.tl_text.specs.Quoted.{quoted, IsQuoted}
use Rattle.tl_text.proofs.Places.{only_reading}
use Rattle.tl_text.proofs.Quotes.{one_quoted_stands}
use Rattle.tl_text.proofs.quoted.read_quoted.Goals as goal

pub returns-in-Ok-clause-only : goal.returns-in-Ok-clause-only
returns-in-Ok-clause-only c = λ bytes rest h.
    let same = only_reading IsQuoted (λ bytes. length (quoted bytes)) c.args.text.now c.args.at c.in-Ok.len c.in-Ok.bytes.items bytes _ rest one_quoted_stands (rw c.in-Ok.is at c.in_ok-bytes.ensures.found) (rw c.in-Ok.is at c.in_ok-bytes.ensures.length) h in
    (ap (λ (r : List ℕ × ℕ). r.0) same, ap (λ (r : List ℕ × ℕ). r.1) same)
