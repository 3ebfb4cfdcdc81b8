use Rattle.std.proofs.Common.{Option, ℕ, subst, sym}
use Rattle.tl_numbers.specs.Layers.{bit_in}
use Rattle.tl_numbers.specs.Places.{IsLastBelow}
use Rattle.tl_numbers.proofs.Rows.{last-before, last-here, marked, none-before}
use Rattle.tl_numbers.proofs.words.last_below.Goals as goal

pub returns-in_err-word-in-None : goal.returns-in_err-word-in-None
returns-in_err-word-in-None c =
    let before = rw c.in_err-word-in-None.was at c.requires in
    let here = rw c.word_at.ensures at c.in-None.ensures in
    subst (λ (r : Option ℕ). IsLastBelow (bit_in c.args.words.now) c.args.n r) (sym c.from_residual.ensures) (none-before c.args.words.now c.args.n here before)

pub highest-requires : goal.highest-requires
highest-requires c =
    let before = rw c.in_ok-word-in-None.was at c.requires in
    rw c.word_at-in-None.ensures (marked c.args.words.now c.in_ok-word-in-None.word before.1)

pub returns-in-Some : goal.returns-in-Some
returns-in-Some c = last-here c.args.words.now c.args.n c.in-Some.place (rw c.word_at.ensures at c.in-Some.ensures)

pub returns-in_ok-word-in-None : goal.returns-in_ok-word-in-None
returns-in_ok-word-in-None c =
    let before = rw c.in_ok-word-in-None.was at c.requires in
    let here = rw c.word_at.ensures at c.in-None.ensures in
    last-before c.args.words.now c.args.n c.in_ok-word-in-None.word c.highest.result here before (rw c.word_at-in-None.ensures at c.highest.ensures)
