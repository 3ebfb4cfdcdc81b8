use Rattle.tl_words.proofs.Requests.{run_refused, run_said, run_without_crew}
use Rattle.tl_words.proofs.command_line.run.Goals as goal

pub returns-in_default : goal.returns-in_default
returns-in_default c = run_refused _ _ c.requires.command c.in_ok-journal.ensures.read c.in_ok-journal.ensures.only c.in_default.is

pub returns-in_default-crew_of : goal.returns-in_default-crew_of
returns-in_default-crew_of c = run_without_crew _ _ c.requires.command c.in_ok-journal.ensures.read c.in_ok-journal.ensures.only c.in-Some.field-0 c.crew_of.result c.in-Some.is c.crew_of.ensures.only
    c.in_default-crew_of.is

pub returns : goal.returns
returns c = run_said _ _ c.requires.command c.in_ok-journal.ensures.read c.in_ok-journal.ensures.only c.in-Some.field-0 c.in-Some-crew_of.crew c.in-Some.is c.in-Some-crew_of.ensures.found
