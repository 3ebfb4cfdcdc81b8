-- Why what is done so many times was not gone on with.
use Rattle.std.specs.Prelude.{ℕ, None}
use Rattle.tl_types.specs.declared.worker_id.WorkerId.{WorkerId}
use Rattle.tl_model.specs.declared.answer.ClientError.{ClientError}
use Rattle.tl_model.specs.declared.answer.ClientError.TheVariants as client
use Rattle.tl_pieces.specs.Setting.{Setting, Events}
use Rattle.tl_pieces.specs.Counts.{IsSavingGivenUp, IsWorkGivenUp}
use Rattle.tl_pieces.specs.Faults.{IsWorkDamaged}
use Rattle.tl_pieces.specs.Lines.{AddsSome}
use Rattle.tl_work.specs.declared.error.WorkError.{WorkError}
use Rattle.tl_work.specs.declared.error.WorkError.TheVariants.{StoreFault, Damaged, NoMemory}

-- the fault of a line that is no call
abbrev pub unnumbered : WorkError → ClientError
unnumbered StoreFault = client.StoreFault None
unnumbered (Damaged damage) = client.Damaged None damage
unnumbered NoMemory = client.NoMemory

-- at most n runs that bring their outputs: the last was given up, or memory ran out
abbrev pub WorkFails : {T : Type 0} → Setting T → WorkerId → ℕ → Events T → Events T →
    WorkError → Type 0
WorkFails s worker n before after StoreFault = IsWorkGivenUp s worker n before after
WorkFails s worker n before after (Damaged damage) = IsWorkDamaged s worker n before after damage
WorkFails s worker n before after NoMemory = AddsSome s before after

-- at most n saves: the last was given up, or memory ran out; nothing is loaded
abbrev pub SavingFails : {T : Type 0} → Setting T → ℕ → Events T → Events T → WorkError → Type 0
SavingFails s n before after StoreFault = IsSavingGivenUp s n before after
SavingFails s n before after (Damaged damage) = ⊥
SavingFails s n before after NoMemory = AddsSome s before after
