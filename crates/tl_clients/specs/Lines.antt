-- How a line is answered whose call has this number.
use Rattle.std.specs.Prelude.{ℕ, Result, Ok, Err, Option, Some, None}
use Rattle.tl_types.specs.Block.{FileOutcome}
use Rattle.tl_types.specs.declared.file_id.FileId.{FileId}
use Rattle.tl_model.specs.declared.answer.Answer.{Answer}
use Rattle.tl_model.specs.declared.answer.Answer.TheVariants.{NotYet, Read}
use Rattle.tl_model.specs.declared.answer.ClientError.{ClientError}
use Rattle.tl_model.specs.declared.answer.ClientError.TheVariants as client
use Rattle.tl_work.specs.declared.error.WorkError.{WorkError}
use Rattle.tl_work.specs.declared.error.WorkError.TheVariants.{StoreFault, Damaged, NoMemory}

-- why the line of the call was not answered
abbrev pub error_at : ℕ → WorkError → ClientError
error_at number StoreFault = client.StoreFault (Some number)
error_at number (Damaged damage) = client.Damaged (Some number) damage
error_at number NoMemory = client.NoMemory

abbrev pub read_answer : ℕ → Result FileOutcome WorkError → Result Answer ClientError
read_answer number (Ok block) = Ok (Read number block)
read_answer number (Err error) = Err (error_at number error)

abbrev pub try_answer :
    ℕ → FileId → Result (Option FileOutcome) WorkError → Result Answer ClientError
try_answer number f (Ok (Some block)) = Ok (Read number block)
try_answer number f (Ok None) = Ok (NotYet number f)
try_answer number f (Err error) = Err (error_at number error)
