-- Each kind of line stands where others' events came after it.
use Rattle.std.proofs.Common.{ℕ, List, [], Result}
use Rattle.tl_types.specs.declared.worker_id.WorkerId.{WorkerId}
use Rattle.tl_model.specs.declared.answer.Answer.{Answer}
use Rattle.tl_model.specs.declared.answer.ClientError.{ClientError}
use Rattle.tl_model.specs.declared.command.Command.{Command}
use Rattle.tl_model.specs.Namespace.{PathOf}
use Rattle.tl_pieces.specs.Setting.{Setting, Events}
use Rattle.tl_pieces.specs.Own.{Adds}
use Rattle.tl_pieces.specs.Calls.{IsPut, IsSaid}
use Rattle.tl_pieces.specs.Reading.{IsRead, IsReadGivenUp, IsTried, IsTryGivenUp}
use Rattle.tl_pieces.specs.Counts.{IsCollectAnswer, IsLoss, IsSaveAnswer, IsSavingGivenUp, IsWorkAnswer, IsWorkGivenUp}
use Rattle.tl_pieces.specs.Faults.{FaultCount, IsReadDamaged, IsTryDamaged, IsWorkDamaged}
use Rattle.tl_pieces.specs.Lines.{IsCollectLine, IsLoseLine, IsNamesLine, IsPutLine, IsReadLine, IsSaveLine, IsTryLine, IsWorkLine, Numbered, Unnumbered, never, undamaged}
use Rattle.tl_pieces.proofs.Adding.{added-on}
use Rattle.tl_pieces.proofs.Lengthen.{collect-on, line-on, loss-on, numbered-on, put-on, read-damaged-on, read-given-up-on, read-on, said-on, save-answer-on, saving-given-up-on, tried-on, try-damaged-on, try-given-up-on, unnumbered-on, work-damaged-on, work-given-up-on, work-on}

pub put-line-on : {T : Type 0} (s : Setting T) (count : FaultCount) (before between after : Events T) (result : Result Answer ClientError) → Adds s [] between after →
    (path : PathOf) (text : List ℕ) → IsPutLine s count path text before between result → IsPutLine s count path text before after result
put-line-on s count before between after result a path text l =
    line-on s count (IsPut s path text before between) (IsPut s path text before after)
    (Unnumbered (Adds s [] before between)) (Unnumbered (Adds s [] before after))
    undamaged undamaged before between after a
    (put-on s path text before between after a) (unnumbered-on _ _ (λ h. added-on s [] before between after h a)) (λ number damage h. h) result l

pub names-line-on : {T : Type 0} (s : Setting T) (count : FaultCount) (before between after : Events T) (result : Result Answer ClientError) → Adds s [] between after →
    (command : Command T) → IsNamesLine s count command before between result → IsNamesLine s count command before after result
names-line-on s count before between after result a command l =
    line-on s count (IsSaid s command before between) (IsSaid s command before after)
    never never
    undamaged undamaged before between after a
    (said-on s command before between after a) (λ number h. h) (λ number damage h. h) result l

pub read-line-on : {T : Type 0} (s : Setting T) (count : FaultCount) (before between after : Events T) (result : Result Answer ClientError) → Adds s [] between after →
    (command : Command T) → IsReadLine s count command before between result → IsReadLine s count command before after result
read-line-on s count before between after result a command l =
    line-on s count (IsRead s command before between) (IsRead s command before after)
    (Numbered (λ number. IsReadGivenUp s command number before between)) (Numbered (λ number. IsReadGivenUp s command number before after))
    (λ number damage. Numbered (IsReadDamaged s command before between damage) number) (λ number damage. Numbered (IsReadDamaged s command before after damage) number) before between after a
    (read-on s command before between after a) (numbered-on _ _ (read-given-up-on s command before between after a))
    (λ number damage. numbered-on _ _ (read-damaged-on s command damage before between after a) number) result l

pub try-line-on : {T : Type 0} (s : Setting T) (count : FaultCount) (before between after : Events T) (result : Result Answer ClientError) → Adds s [] between after →
    (command : Command T) → IsTryLine s count command before between result → IsTryLine s count command before after result
try-line-on s count before between after result a command l =
    line-on s count (IsTried s command before between) (IsTried s command before after)
    (Numbered (λ number. IsTryGivenUp s command number before between)) (Numbered (λ number. IsTryGivenUp s command number before after))
    (λ number damage. Numbered (IsTryDamaged s command before between damage) number) (λ number damage. Numbered (IsTryDamaged s command before after damage) number) before between after a
    (tried-on s command before between after a) (numbered-on _ _ (try-given-up-on s command before between after a))
    (λ number damage. numbered-on _ _ (try-damaged-on s command damage before between after a) number) result l

pub lose-line-on : {T : Type 0} (s : Setting T) (count : FaultCount) (before between after : Events T) (result : Result Answer ClientError) → Adds s [] between after →
    (worker : WorkerId) → IsLoseLine s count worker before between result → IsLoseLine s count worker before after result
lose-line-on s count before between after result a worker l =
    line-on s count (IsLoss s worker before between) (IsLoss s worker before after)
    never never
    undamaged undamaged before between after a
    (loss-on s worker before between after a) (λ number h. h) (λ number damage h. h) result l

pub work-line-on : {T : Type 0} (s : Setting T) (count : FaultCount) (before between after : Events T) (result : Result Answer ClientError) → Adds s [] between after →
    (worker : WorkerId) (n : ℕ) → IsWorkLine s count worker n before between result → IsWorkLine s count worker n before after result
work-line-on s count before between after result a worker n l =
    line-on s count (IsWorkAnswer s worker n before between) (IsWorkAnswer s worker n before after)
    (Unnumbered (IsWorkGivenUp s worker n before between)) (Unnumbered (IsWorkGivenUp s worker n before after))
    (λ number damage. Unnumbered (IsWorkDamaged s worker n before between damage) number) (λ number damage. Unnumbered (IsWorkDamaged s worker n before after damage) number) before between after a
    (work-on s worker n before between after a) (unnumbered-on _ _ (work-given-up-on s worker n before between after a))
    (λ number damage. unnumbered-on _ _ (work-damaged-on s worker n damage before between after a) number) result l

pub save-line-on : {T : Type 0} (s : Setting T) (count : FaultCount) (before between after : Events T) (result : Result Answer ClientError) → Adds s [] between after →
    (n : ℕ) → IsSaveLine s count n before between result → IsSaveLine s count n before after result
save-line-on s count before between after result a n l =
    line-on s count (IsSaveAnswer s n before between) (IsSaveAnswer s n before after)
    (Unnumbered (IsSavingGivenUp s n before between)) (Unnumbered (IsSavingGivenUp s n before after))
    undamaged undamaged before between after a
    (save-answer-on s n before between after a) (unnumbered-on _ _ (saving-given-up-on s n before between after a)) (λ number damage h. h) result l

pub collect-line-on : {T : Type 0} (s : Setting T) (count : FaultCount) (before between after : Events T) (result : Result Answer ClientError) → Adds s [] between after →
    (n : ℕ) → IsCollectLine s count n before between result → IsCollectLine s count n before after result
collect-line-on s count before between after result a n l =
    line-on s count (IsCollectAnswer s n before between) (IsCollectAnswer s n before after)
    never never
    undamaged undamaged before between after a
    (collect-on s n before between after a) (λ number h. h) (λ number damage h. h) result l
