use Rattle.std.proofs.Common.{sym, subst}
use Rattle.tl_names.specs.Answers.{Answers, plain, tables}
use Rattle.tl_names.proofs.names.answer.Goals as goal

pub returns-in-Read-clause-ok : goal.returns-in-Read-clause-ok
returns-in-Read-clause-ok g c =
    subst (λ command. Answers (tables c.args.dirs.now.slots c.args.pins.now) (tables c.args.dirs.now.slots c.args.pins.now) c.args.next.0 (plain command) c.read.result) (sym c.in-Read.is)
    (c.read.ensures c.args.pins.now c.args.next.0 _ _)

pub returns-in-Delete-clause-ok : goal.returns-in-Delete-clause-ok
returns-in-Delete-clause-ok g c =
    subst (λ command. Answers (tables c.args.dirs.now.slots c.args.pins.now) (tables c.delete.new.dirs.slots c.delete.new.pins) c.args.next.0 (plain command) c.delete.result) (sym c.in-Delete.is)
    (c.delete.ensures c.args.next.0)

pub returns-in-Stat-clause-ok : goal.returns-in-Stat-clause-ok
returns-in-Stat-clause-ok g c =
    subst (λ command. Answers (tables c.args.dirs.now.slots c.args.pins.now) (tables c.args.dirs.now.slots c.args.pins.now) c.args.next.0 (plain command) c.stat.result) (sym c.in-Stat.is)
    (c.stat.ensures c.args.pins.now c.args.next.0)

pub returns-in-Free-clause-ok : goal.returns-in-Free-clause-ok
returns-in-Free-clause-ok g c =
    subst (λ command. Answers (tables c.args.dirs.now.slots c.args.pins.now) (tables c.args.dirs.now.slots c.args.pins.now) c.args.next.0 (plain command) c.free.result) (sym c.in-Free.is)
    (c.free.ensures c.args.pins.now c.args.next.0)
