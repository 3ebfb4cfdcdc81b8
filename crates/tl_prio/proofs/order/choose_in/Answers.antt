use Rattle.std.proofs.Common.{rules, ◌∙◌, ap}
use Rattle.tl_prio.specs.Data.{choice_in}
use Rattle.tl_prio.proofs.Walking.{none-as}
use Rattle.tl_prio.proofs.order.choose_in.Goals as goal

pub returns-clause-found : goal.returns-clause-found
returns-clause-found g c = λ past speaks counted.
    c.choose.ensures past speaks counted
    ∙ ap (λ start. choice_in c.args.turns.now.rule past c.args.seats.now c.args.records.now start)
    (none-as c.args.records.now c.deref_mut.result.now (search rules))
