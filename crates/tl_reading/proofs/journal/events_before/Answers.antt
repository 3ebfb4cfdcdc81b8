use Rattle.tl_reading.proofs.Progress.{no_event, no_line}
use Rattle.tl_reading.proofs.journal.events_before.Goals as goal

pub returns-in_default-clause-all : goal.returns-in_default-clause-all
returns-in_default-clause-all c = no_line c.args.header c.events.rest.now c.in_default.ensures.none

pub returns-in-Err-Unread-clause-all : goal.returns-in-Err-Unread-clause-all
returns-in-Err-Unread-clause-all c = no_event c.args.header c.events.rest.now c.in-Some.line.now c.in-Some.later.now c.in-Some.ensures.found.1 c.in-Some.ensures.found.0 (rw c.in-Err-Unread.field-0-is at c.in-Err-Unread.ensures.none)
