-- A client's lines: what each left in the journal, what it was answered, and why it was not.
use Rattle.std.specs.Prelude.{◌≡◌, ℕ, true, List, [], Option, Some, None, Result, Ok, Err}
use Rattle.tl_types.specs.declared.worker_id.WorkerId.{WorkerId}
use Rattle.tl_model.specs.declared.answer.Answer.{Answer}
use Rattle.tl_model.specs.declared.answer.ClientError.{ClientError}
use Rattle.tl_model.specs.declared.answer.ClientError.TheVariants.{StoreFault, Damaged, NoMemory}
use Rattle.tl_model.specs.declared.answer.Damage.{Damage}
use Rattle.tl_model.specs.declared.command.Command.{Command}
use Rattle.tl_model.specs.Actors.{is_idle}
use Rattle.tl_model.specs.Namespace.{PathOf}
use Rattle.tl_model.specs.Past.{without_tickets}
use Rattle.tl_pieces.specs.Setting.{Setting, Events}
use Rattle.tl_pieces.specs.Own.{Adds}
use Rattle.tl_pieces.specs.Calls.{IsPut, IsSaid}
use Rattle.tl_pieces.specs.Reading.{IsRead, IsReadGivenUp, IsTried, IsTryGivenUp}
use Rattle.tl_pieces.specs.Counts.{IsCollectAnswer, IsLoss, IsSaveAnswer, IsSavingGivenUp, IsWorkAnswer, IsWorkGivenUp}
use Rattle.tl_pieces.specs.Faults.{FaultCount, IsReadDamaged, IsTryDamaged, IsWorkDamaged, StoreFailed}

-- the call has a number in the history, and this is so of it
abbrev pub Numbered : (ℕ → Type 0) → Option ℕ → Type 0
Numbered is_so (Some number) = is_so number
Numbered is_so None = ⊥

-- no call stands in the history, and this is so
abbrev pub Unnumbered : Type 0 → Option ℕ → Type 0
Unnumbered so (Some number) = ⊥
Unnumbered so None = so

-- the store is not asked
abbrev pub never : Option ℕ → Type 0
never number = ⊥

-- nothing is loaded
abbrev pub undamaged : Option ℕ → Damage → Type 0
undamaged number damage = ⊥

-- some events of the actor's own came
abbrev pub AddsSome : {T : Type 0} → Setting T → Events T → Events T → Type 0
AddsSome {T} s before after = (mine : Events T) × Adds s mine before after

-- How a line ended: it was answered, the checkpoint store failed, a load was damaged, or memory
-- ran out. Of the last nothing is said but that what came is the actor's and others'.
abbrev pub Ended : {T : Type 0} → Setting T → FaultCount →
    (Answer → Type 0) → (Option ℕ → Type 0) → (Option ℕ → Damage → Type 0) →
    Events T → Events T → Result Answer ClientError → Type 0
Ended s count answered failed damaged before after (Ok answer) = answered answer
Ended s count answered failed damaged before after (Err (StoreFault number)) =
    failed number × StoreFailed count
Ended s count answered failed damaged before after (Err (Damaged number damage)) =
    damaged number damage
Ended s count answered failed damaged before after (Err NoMemory) = AddsSome s before after

-- However a line ended, nothing of the actor's is open after it.
pub record IsLine {T : Type 0} (s : Setting T) (count : FaultCount)
    (answered : Answer → Type 0) (failed : Option ℕ → Type 0)
    (damaged : Option ℕ → Damage → Type 0) (before after : Events T)
    (result : Result Answer ClientError) : Type 0 where
  pub ended : Ended s count answered failed damaged before after result
  pub rest : is_idle (without_tickets after) s.actor ≡ true

-- `put`: the text is saved first, so that of a store fault nothing stands in the journal
abbrev pub IsPutLine : {T : Type 0} → Setting T → FaultCount → PathOf → List ℕ →
    Events T → Events T → Result Answer ClientError → Type 0
IsPutLine s count path text before after result =
    IsLine s count (IsPut s path text before after) (Unnumbered (Adds s [] before after))
    undamaged before after result

-- `job`, `delete`, `mkdir`, `rename`, `pin`, `unpin`, `list`, `stat`, `free`: the command of it
abbrev pub IsNamesLine : {T : Type 0} → Setting T → FaultCount → Command T →
    Events T → Events T → Result Answer ClientError → Type 0
IsNamesLine s count command before after result =
    IsLine s count (IsSaid s command before after) never undamaged before after result

-- `cat`, `sum`: the Read of it
abbrev pub IsReadLine : {T : Type 0} → Setting T → FaultCount → Command T →
    Events T → Events T → Result Answer ClientError → Type 0
IsReadLine s count command before after result =
    IsLine s count (IsRead s command before after)
    (Numbered (λ number. IsReadGivenUp s command number before after))
    (λ number damage. Numbered (IsReadDamaged s command before after damage) number)
    before after result

-- `try`: the Read of it
abbrev pub IsTryLine : {T : Type 0} → Setting T → FaultCount → Command T →
    Events T → Events T → Result Answer ClientError → Type 0
IsTryLine s count command before after result =
    IsLine s count (IsTried s command before after)
    (Numbered (λ number. IsTryGivenUp s command number before after))
    (λ number damage. Numbered (IsTryDamaged s command before after damage) number)
    before after result

-- `lose`
abbrev pub IsLoseLine : {T : Type 0} → Setting T → FaultCount → WorkerId →
    Events T → Events T → Result Answer ClientError → Type 0
IsLoseLine s count worker before after result =
    IsLine s count (IsLoss s worker before after) never undamaged before after result

-- `work`: at most n runs that bring their outputs
abbrev pub IsWorkLine : {T : Type 0} → Setting T → FaultCount → WorkerId → ℕ →
    Events T → Events T → Result Answer ClientError → Type 0
IsWorkLine s count worker n before after result =
    IsLine s count (IsWorkAnswer s worker n before after)
    (Unnumbered (IsWorkGivenUp s worker n before after))
    (λ number damage. Unnumbered (IsWorkDamaged s worker n before after damage) number)
    before after result

-- `save`: at most n saves
abbrev pub IsSaveLine : {T : Type 0} → Setting T → FaultCount → ℕ →
    Events T → Events T → Result Answer ClientError → Type 0
IsSaveLine s count n before after result =
    IsLine s count (IsSaveAnswer s n before after)
    (Unnumbered (IsSavingGivenUp s n before after)) undamaged
    before after result

-- `collect`: at most n records let go
abbrev pub IsCollectLine : {T : Type 0} → Setting T → FaultCount → ℕ →
    Events T → Events T → Result Answer ClientError → Type 0
IsCollectLine s count n before after result =
    IsLine s count (IsCollectAnswer s n before after) never undamaged before after result
