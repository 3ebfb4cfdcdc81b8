use Rattle.std.proofs.Common.{codes, ◌∷◌}
use Rattle.std.proofs.lemmas.Result.{on_err_weaker}
use Rattle.tl_script.specs.Tokens.{a_number}
use Rattle.tl_script.specs.Commands.{with_conf}
use Rattle.tl_spelling.proofs.Printing.{err_any, kept_behind, kept_on, put_kept}
use Rattle.tl_spelling.proofs.command.job.Goals as goal

pub returns-in_err-word-2-clause-err : goal.returns-in_err-word-2-clause-err
returns-in_err-word-2-clause-err c =
    err_any _ c.from_residual-in_err-word-2.result
    (kept_behind c.args.out.now.items c.word.new.out.items c.word-2.new.out.items (codes "job") c.in_ok-word.ensures.ok
    (kept_on c.word.new.out.items c.then_terms.new.out.items c.word-2.new.out.items
    (put_kept c.word.new.out.items c.then_terms.new.out.items (λ more. a_number c.args.prio ∷ a_number c.args.core.now.fuel ∷ with_conf c.args.core.now.conf more) c.in_ok-then_terms.ensures.ok) c.in_err-word-2.ensures.err))

pub returns-clause-err : goal.returns-clause-err
returns-clause-err c =
    on_err_weaker c.then_files.result (λ same.
    kept_behind c.args.out.now.items c.word.new.out.items c.then_files.new.out.items (codes "job") c.in_ok-word.ensures.ok
    (kept_on c.word.new.out.items c.then_terms.new.out.items c.then_files.new.out.items
    (put_kept c.word.new.out.items c.then_terms.new.out.items (λ more. a_number c.args.prio ∷ a_number c.args.core.now.fuel ∷ with_conf c.args.core.now.conf more) c.in_ok-then_terms.ensures.ok)
    (kept_behind c.then_terms.new.out.items c.word-2.new.out.items c.then_files.new.out.items (codes " in") c.in_ok-word-2.ensures.ok same))) c.then_files.ensures.err
