use Rattle.std.proofs.lemmas.Result.{on_err_weaker}
use Rattle.tl_spelling.specs.Journals.{event_lines, header_text, line_of, told_by}
use Rattle.tl_spelling.proofs.Printing.{journal_joined, kept_behind}
use Rattle.tl_spelling.proofs.journal.append_journal.Goals as goal

pub returns-clause-ok : goal.returns-clause-ok
returns-clause-ok g c =
    journal_joined c.end_line.result c.args.out.now.items c.header_line.new.out.items c.event_lines.new.out.items c.end_line.new.out.items c.args.journal.now.header c.header.result.now c.header-2.result.now
    c.args.journal.now.events c.events.result.now c.args.sources.now c.len.result c.header.ensures c.header-2.ensures c.events.ensures c.len.ensures
    c.in_ok-header_line.ensures.ok c.in_ok-event_lines.ensures.ok c.end_line.ensures.ok

pub returns-clause-err : goal.returns-clause-err
returns-clause-err g c =
    on_err_weaker c.end_line.result (λ same.
    kept_behind c.args.out.now.items c.header_line.new.out.items c.end_line.new.out.items (line_of (header_text c.header.result.now)) c.in_ok-header_line.ensures.ok
    (kept_behind c.header_line.new.out.items c.event_lines.new.out.items c.end_line.new.out.items (event_lines (told_by c.args.sources.now c.events.result.now)) c.in_ok-event_lines.ensures.ok same)) c.end_line.ensures.err
