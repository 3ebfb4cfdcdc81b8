-- What each file holds: the run in which no worker fails, from the bytes that were put.
use Rattle.std.specs.Prelude.{ℕ, List, [], ◌∷◌, ◌++◌, map, slice_get, unwrap_or, option_and_then}
use Rattle.tl_types.specs.declared.file_id.FileId.{FileId}
use Rattle.tl_types.specs.declared.outcome.Outcome.{Outcome}
use Rattle.tl_types.specs.declared.outcome.Outcome.TheVariants.{Value, Fault}
use Rattle.tl_lang.specs.Mean.{mean}
use Rattle.tl_lang.specs.Value.{input_fault}
use Rattle.tl_model.specs.declared.command.Command.{Command}
use Rattle.tl_model.specs.declared.command.Command.TheVariants.{Put, Job}
use Rattle.tl_model.specs.declared.reply.Reply.{Reply}
use Rattle.tl_model.specs.declared.reply.Reply.TheVariants.{Made}
use Rattle.tl_model.specs.Namespace.{Names}
use Rattle.tl_model.specs.History.{HistoryOf, calls_of, names_of, files_at}
use Rattle.tl_model.specs.Past.{Told}

-- the outcomes of each record's outputs, in order
abbrev pub Outcomes : Type 0
Outcomes = List (List Outcome)

-- what a file holds that no record makes
abbrev pub no_outcome : Outcome
no_outcome = Fault input_fault

abbrev pub outcome_in : Outcomes → FileId → Outcome
outcome_in table f = unwrap_or (option_and_then (λ outcomes. slice_get outcomes f.out) (slice_get table f.rec.0)) no_outcome

-- the outcomes that a call adds: a put's are its bytes, a job's what its program means
abbrev pub outcomes_made : Reply → Command (List ℕ) → Names → Outcomes → Outcomes
outcomes_made (Made made) (Put path len digest bytes) names table = (Value bytes ∷ []) ∷ []
outcomes_made (Made made) (Job core prio inputs outputs) names table =
    mean core.program.program core.conf (map (outcome_in table) (files_at names inputs)) core.fuel ∷ []
outcomes_made _ _ names table = []

abbrev pub outcomes_of : HistoryOf (List ℕ) → Outcomes
outcomes_of [] = []
outcomes_of (call ∷ calls) = outcomes_of calls ++ outcomes_made call.reply call.command (names_of calls) (outcomes_of calls)

-- what a file holds
abbrev pub value : Told → FileId → Outcome
value past f = outcome_in (outcomes_of (calls_of past)) f
