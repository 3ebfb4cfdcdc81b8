use Rattle.std.proofs.Common.{reverse}
use Rattle.tl_reading.proofs.Progress.{all_there, has_events, more_there, no_end_there}
use Rattle.tl_reading.proofs.Standing.{none_left, some_left}
use Rattle.tl_reading.proofs.Whole.{no_first_line, no_header}
use Rattle.tl_reading.proofs.journal.journal_said.Goals as goal

pub returns-in_default-clause-unread : goal.returns-in_default-clause-unread
returns-in_default-clause-unread c = no_first_line c.args.text.now c.in_default.ensures.none

pub returns-in_default-header_said-clause-unread : goal.returns-in_default-header_said-clause-unread
returns-in_default-header_said-clause-unread c =
    no_header c.args.text.now c.in-Some.first.now c.in-Some.rest.now c.in-Some.ensures.found.1 c.in-Some.ensures.found.0 c.in_default-header_said.ensures.none

pub returns-in_default-end_before-clause-unread : goal.returns-in_default-end_before-clause-unread
returns-in_default-end_before-clause-unread c =
    let front = has_events c.args.text.now c.in-Some.first.now c.in-Some.rest.now c.in_ok-journal.rest.now c.in-Some-header_said.header c.in_ok-journal.journal.events c.len-count.result
    c.in-Some.ensures.found.0 c.in-Some-header_said.ensures.found c.len-count.ensures c.len-count.type_inv c.in_ok-journal.ensures.each c.in_ok-journal.ensures.found c.in_ok-journal.ensures.all in
    no_end_there c.args.text.now c.in-Some-header_said.header (reverse c.in_ok-journal.journal.events) c.len-count.result c.in_ok-journal.rest.now front c.in_default-end_before.ensures.none

pub returns-then-not-is_empty-clause-unread : goal.returns-then-not-is_empty-clause-unread
returns-then-not-is_empty-clause-unread c =
    let front = has_events c.args.text.now c.in-Some.first.now c.in-Some.rest.now c.in_ok-journal.rest.now c.in-Some-header_said.header c.in_ok-journal.journal.events c.len-count.result
    c.in-Some.ensures.found.0 c.in-Some-header_said.ensures.found c.len-count.ensures c.len-count.type_inv c.in_ok-journal.ensures.each c.in_ok-journal.ensures.found c.in_ok-journal.ensures.all in
    more_there c.args.text.now c.in-Some-header_said.header (reverse c.in_ok-journal.journal.events) c.len-count.result c.in_ok-journal.rest.now c.in-Some-end_before.rest.now c.end_lines.result front
    c.in-Some-end_before.ensures.found (some_left c.in-Some-end_before.rest.now c.if-not-is_empty.ensures) c.end_lines.ensures

pub returns-clause-read : goal.returns-clause-read
returns-clause-read c =
    let front = has_events c.args.text.now c.in-Some.first.now c.in-Some.rest.now c.in_ok-journal.rest.now c.in-Some-header_said.header c.in_ok-journal.journal.events c.len-count.result
    c.in-Some.ensures.found.0 c.in-Some-header_said.ensures.found c.len-count.ensures c.len-count.type_inv c.in_ok-journal.ensures.each c.in_ok-journal.ensures.found c.in_ok-journal.ensures.all in
    all_there c.args.text.now c.in-Some-header_said.header c.in_ok-journal.journal.header (reverse c.in_ok-journal.journal.events) c.len-count.result c.in_ok-journal.rest.now c.in-Some-end_before.rest.now
    c.in_ok-journal.ensures.header front c.in-Some-end_before.ensures.found (none_left c.in-Some-end_before.rest.now c.if-not-is_empty.ensures)
