-- Why lines are not answered, or counted short.
use Rattle.std.proofs.Common.{◌≡◌, ℕ, false, Option, Some, None, Err, refl}
use Rattle.tl_model.specs.declared.answer.Answer.{Answer}
use Rattle.tl_model.specs.declared.answer.ClientError.{ClientError}
use Rattle.tl_model.specs.declared.answer.ClientError.TheVariants.{StoreFault, Damaged, NoMemory}
use Rattle.tl_pieces.specs.Setting.{Setting, Events}
use Rattle.tl_pieces.specs.Faults.{FaultCount}
use Rattle.tl_pieces.specs.Lines.{IsLine, Numbered, Unnumbered, never, undamaged}

pub memory-alone : {T : Type 0} (s : Setting T) (count : FaultCount) (p : Answer → Type 0) (before after : Events T) (error : ClientError) →
    IsLine s count p never undamaged before after (Err error) → error ≡ NoMemory
memory-alone s count p before after (StoreFault number) l = absurd l.ended.0
memory-alone s count p before after (Damaged number damage) l = absurd l.ended
memory-alone s count p before after NoMemory l = refl

pub untold-numbered : {T : Type 0} (s : Setting T) (p : ℕ → Type 0) → ((number : ℕ) → p number → s.tells ≡ false) → (number : Option ℕ) → Numbered p number → s.tells ≡ false
untold-numbered s p go (Some number) h = go number h
untold-numbered s p go None h = absurd h

pub untold-unnumbered : {T : Type 0} (s : Setting T) (p : Type 0) → (p → s.tells ≡ false) → (number : Option ℕ) → Unnumbered p number → s.tells ≡ false
untold-unnumbered s p go (Some number) h = absurd h
untold-unnumbered s p go None h = go h
