-- The row of each command of a script.
use Rattle.std.specs.Prelude.{ℕ, Result}
use Rattle.tl_model.specs.declared.answer.Answer.{Answer}
use Rattle.tl_model.specs.declared.answer.ClientError.{ClientError}
use Rattle.tl_model.specs.declared.command.Command.TheVariants as command
use Rattle.tl_model.specs.declared.command.Form.{Form}
use Rattle.tl_model.specs.declared.command.Form.TheVariants as form
use Rattle.tl_model.specs.Namespace.{PathOf}
use Rattle.tl_script.specs.declared.script.Op.{Op}
use Rattle.tl_script.specs.declared.script.Op.TheVariants.{Put, Job, Read, Delete, Mkdir, Rename, Pin, Unpin, List as ListNames, Stat, Free, Lose, Work}
use Rattle.tl_pieces.specs.Setting.{Setting, Events}
use Rattle.tl_pieces.specs.Faults.{FaultCount}
use Rattle.tl_pieces.specs.Lines.{IsLoseLine, IsNamesLine, IsPutLine, IsReadLine, IsTryLine, IsWorkLine}

-- a read waits for its file, or looks once
abbrev pub IsFormLine : {T : Type 0} → Setting T → FaultCount → PathOf → ℕ → Form →
    Events T → Events T → Result Answer ClientError → Type 0
IsFormLine s count path prio form.Cat before after said =
    IsReadLine s count (command.Read path prio form.Cat) before after said
IsFormLine s count path prio form.Sum before after said =
    IsReadLine s count (command.Read path prio form.Sum) before after said
IsFormLine s count path prio form.Try before after said =
    IsTryLine s count (command.Read path prio form.Try) before after said

-- what the line of a command leaves in the journal, and what its client is answered
abbrev pub IsOpLine : {T : Type 0} → Setting T → FaultCount → Op →
    Events T → Events T → Result Answer ClientError → Type 0
IsOpLine s count (Put path text) = IsPutLine s count path text
IsOpLine s count (Job core prio inputs outputs) =
    IsNamesLine s count (command.Job core prio inputs outputs)
IsOpLine s count (Read path prio form) = IsFormLine s count path prio form
IsOpLine s count (Delete path) = IsNamesLine s count (command.Delete path)
IsOpLine s count (Mkdir path) = IsNamesLine s count (command.Mkdir path)
IsOpLine s count (Rename from to) = IsNamesLine s count (command.Rename from to)
IsOpLine s count (Pin path) = IsNamesLine s count (command.Pin path)
IsOpLine s count (Unpin path) = IsNamesLine s count (command.Unpin path)
IsOpLine s count (ListNames path) = IsNamesLine s count (command.List path)
IsOpLine s count (Stat path) = IsNamesLine s count (command.Stat path)
IsOpLine s count (Free path) = IsNamesLine s count (command.Free path)
IsOpLine s count (Lose worker) = IsLoseLine s count worker
IsOpLine s count (Work worker n) = IsWorkLine s count worker n
