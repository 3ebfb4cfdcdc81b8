use Rattle.std.proofs.Common.{codes, decimal}
use Rattle.std.proofs.lemmas.Result.{on_err_weaker}
use Rattle.tl_model.specs.Past.{act_with}
use Rattle.tl_report.specs.Words.{spaced}
use Rattle.tl_spelling.specs.Events.{act_words}
use Rattle.tl_spelling.proofs.Printing.{err_any, kept_behind}
use Rattle.tl_spelling.proofs.event.event_line.Goals as goal

pub returns-in_err-act-clause-err : goal.returns-in_err-act-clause-err
returns-in_err-act-clause-err g c =
    err_any _ c.from_residual-in_err-act.result
    (kept_behind c.args.out.now.items c.print_number.new.out.items c.act.new.out.items (decimal c.from.result) c.in_ok-print_number.ensures.ok
    (kept_behind c.print_number.new.out.items c.word.new.out.items c.act.new.out.items (codes " ") c.in_ok-word.ensures.ok c.in_err-act.ensures.err))

pub returns-clause-err : goal.returns-clause-err
returns-clause-err g c =
    on_err_weaker c.word-2.result (λ same.
    kept_behind c.args.out.now.items c.print_number.new.out.items c.word-2.new.out.items (decimal c.from.result) c.in_ok-print_number.ensures.ok
    (kept_behind c.print_number.new.out.items c.word.new.out.items c.word-2.new.out.items (codes " ") c.in_ok-word.ensures.ok
    (kept_behind c.word.new.out.items c.act.new.out.items c.word-2.new.out.items (spaced (act_words (act_with (λ _. c.args.bytes.now) c.args.event.now.act))) c.in_ok-act.ensures.ok same))) c.word-2.ensures.err
