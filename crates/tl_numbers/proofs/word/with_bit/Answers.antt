use Rattle.std.proofs.Common.{◌∙◌, ap, sym, w64}
use Rattle.std.specs.Int.{from_bool}
use Rattle.std.proofs.lemmas.Nat.Bits.{bit_at_clear_other, bit_at_clear_same, bit_at_set_other, bit_at_set_same}
use Rattle.tl_numbers.proofs.word.with_bit.Goals as goal

pub returns-then-bit-clause-here : goal.returns-then-bit-clause-here
returns-then-bit-clause-here c = bit_at_set_same w64 c.args.word c.args.place c.requires ∙ sym (ap from_bool c.if-bit.true)

pub returns-then-bit-clause-others : goal.returns-then-bit-clause-others
returns-then-bit-clause-others c k within differs = bit_at_set_other w64 c.args.word c.args.place c.requires k differs

pub returns-else-bit-clause-here : goal.returns-else-bit-clause-here
returns-else-bit-clause-here c = bit_at_clear_same w64 c.args.word c.args.place c.requires ∙ sym (ap from_bool c.if-bit.false)

pub returns-else-bit-clause-others : goal.returns-else-bit-clause-others
returns-else-bit-clause-others c k within differs = bit_at_clear_other w64 c.args.word c.args.place c.requires k within differs
