use Rattle.std.proofs.Common.{codes}
use Rattle.std.proofs.lemmas.Result.{on_err_weaker}
use Rattle.tl_script.specs.Commands.{with_paths}
use Rattle.tl_spelling.proofs.Printing.{err_any, kept_behind, kept_if_same, kept_on, put_kept}
use Rattle.tl_spelling.proofs.command.then_files.Goals as goal

pub returns-in_err-word-clause-err : goal.returns-in_err-word-clause-err
returns-in_err-word-clause-err c =
    err_any _ c.from_residual-in_err-word.result
    (kept_on c.args.out.now.items c.then_paths.new.out.items c.word.new.out.items
    (put_kept c.args.out.now.items c.then_paths.new.out.items (with_paths c.args.inputs.now) c.in_ok-then_paths.ensures.ok) c.in_err-word.ensures.err)

pub returns-in_err-then_paths-2-clause-err : goal.returns-in_err-then_paths-2-clause-err
returns-in_err-then_paths-2-clause-err c =
    err_any _ c.from_residual-in_err-then_paths-2.result
    (kept_on c.args.out.now.items c.then_paths.new.out.items c.then_paths-2.new.out.items
    (put_kept c.args.out.now.items c.then_paths.new.out.items (with_paths c.args.inputs.now) c.in_ok-then_paths.ensures.ok)
    (kept_behind c.then_paths.new.out.items c.word.new.out.items c.then_paths-2.new.out.items (codes " out") c.in_ok-word.ensures.ok c.in_err-then_paths-2.ensures.err))

pub returns-in_err-word-2-clause-err : goal.returns-in_err-word-2-clause-err
returns-in_err-word-2-clause-err c =
    err_any _ c.from_residual-in_err-word-2.result
    (kept_on c.args.out.now.items c.then_paths.new.out.items c.word-2.new.out.items
    (put_kept c.args.out.now.items c.then_paths.new.out.items (with_paths c.args.inputs.now) c.in_ok-then_paths.ensures.ok)
    (kept_behind c.then_paths.new.out.items c.word.new.out.items c.word-2.new.out.items (codes " out") c.in_ok-word.ensures.ok
    (kept_on c.word.new.out.items c.then_paths-2.new.out.items c.word-2.new.out.items
    (put_kept c.word.new.out.items c.then_paths-2.new.out.items (with_paths c.args.outputs.now) c.in_ok-then_paths-2.ensures.ok) c.in_err-word-2.ensures.err)))

pub returns-clause-err : goal.returns-clause-err
returns-clause-err c =
    on_err_weaker c.print.result (λ same.
    kept_on c.args.out.now.items c.then_paths.new.out.items c.print.new.out.items
    (put_kept c.args.out.now.items c.then_paths.new.out.items (with_paths c.args.inputs.now) c.in_ok-then_paths.ensures.ok)
    (kept_behind c.then_paths.new.out.items c.word.new.out.items c.print.new.out.items (codes " out") c.in_ok-word.ensures.ok
    (kept_on c.word.new.out.items c.then_paths-2.new.out.items c.print.new.out.items
    (put_kept c.word.new.out.items c.then_paths-2.new.out.items (with_paths c.args.outputs.now) c.in_ok-then_paths-2.ensures.ok)
    (kept_behind c.then_paths-2.new.out.items c.word-2.new.out.items c.print.new.out.items (codes " run ") c.in_ok-word-2.ensures.ok (kept_if_same c.word-2.new.out.items c.print.new.out.items same))))) c.print.ensures.err
