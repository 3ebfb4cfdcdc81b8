use Rattle.std.proofs.Common.{rules, ◌∙◌, ap}
use Rattle.tl_model.specs.Plan.{is_task}
use Rattle.tl_prio.specs.Data.{prio_from}
use Rattle.tl_prio.proofs.Walking.{none-as}
use Rattle.tl_prio.proofs.order.prio_in.Goals as goal

pub returns-clause-found : goal.returns-clause-found
returns-clause-found g c = λ past speaks.
    c.prio_of.ensures past speaks
    ∙ ap (λ start. prio_from (is_task past) c.args.seats.now c.args.records.now start c.args.made c.args.records.now)
    (none-as c.args.records.now c.deref_mut.result.now (search rules))
