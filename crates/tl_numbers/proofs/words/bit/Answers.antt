use Rattle.std.proofs.Common.{◌==◌, ◌%◌, ◌∙◌, ap, sym, ℕ}
use Rattle.std.specs.Int.{bit_at}
use Rattle.std.proofs.lemmas.Nat.Bits.{shr_and_one}
use Rattle.tl_numbers.proofs.Rows.{bit-at}
use Rattle.tl_numbers.proofs.words.bit.Goals as goal

pub returns : goal.returns
returns c =
    ap (λ (b : ℕ). b == 1) (
    shr_and_one c.word_at.result (c.args.n % 64) ∙ ap (λ (w : ℕ). bit_at w (c.args.n % 64)) c.word_at.ensures ∙ sym (bit-at c.args.words.now c.args.n)
    )
