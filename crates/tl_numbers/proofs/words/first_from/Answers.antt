use Rattle.std.proofs.Common.{Option, ℕ, subst, sym, arith}
use Rattle.tl_numbers.specs.Layers.{bit_in}
use Rattle.tl_numbers.specs.Places.{IsFirstFrom}
use Rattle.tl_numbers.proofs.Rows.{first-after, first-here, marked, marked-within, none-after}
use Rattle.tl_numbers.proofs.words.first_from.Goals as goal

pub returns-in_err-word-in-None : goal.returns-in_err-word-in-None
returns-in_err-word-in-None c =
    let after = rw c.in_err-word-in-None.was at c.requires.after in
    let here = rw c.word_at.ensures at c.in-None.ensures.first in
    subst (λ (r : Option ℕ). IsFirstFrom (bit_in c.args.words.now) c.args.n r) (sym c.from_residual.ensures) (none-after c.args.words.now c.args.n here after)

pub overflow_mul-result-in-None : goal.overflow_mul-result-in-None
overflow_mul-result-in-None c =
    let after = rw c.in_ok-word-in-None.was at c.requires.after in
    let within = marked-within c.args.words.now c.in_ok-word-in-None.word after.1 in
    let short = c.requires.short in
    omega (arith, within, short)

pub lowest-requires : goal.lowest-requires
lowest-requires c =
    let after = rw c.in_ok-word-in-None.was at c.requires.after in
    rw c.word_at-in-None.ensures (marked c.args.words.now c.in_ok-word-in-None.word after.1)

pub returns-in-Some : goal.returns-in-Some
returns-in-Some c = first-here c.args.words.now c.args.n c.in-Some.place c.in-Some.ensures.within (rw c.word_at.ensures at c.in-Some.ensures.first)

pub returns-in_ok-word-in-None : goal.returns-in_ok-word-in-None
returns-in_ok-word-in-None c =
    let after = rw c.in_ok-word-in-None.was at c.requires.after in
    let here = rw c.word_at.ensures at c.in-None.ensures.first in
    first-after c.args.words.now c.args.n c.in_ok-word-in-None.word c.lowest.result c.lowest.ensures.within here after (rw c.word_at-in-None.ensures at c.lowest.ensures.first)
