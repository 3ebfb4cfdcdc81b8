use Rattle.std.proofs.Common.{sym, ap, ◌∙◌, subst}
use Rattle.tl_cluster.specs.Main.{with_let_go}
use Rattle.tl_cluster.specs.Stands.{PartsState}
use Rattle.tl_cluster.specs.Turned.{Settled}
use Rattle.tl_cluster.proofs.LettingGo.{is-let-go}
use Rattle.tl_cluster.proofs.parts.Parts.collect_one.Goals as goal

pub returns-in-Some-clause-more : goal.returns-in-Some-clause-more
returns-in-Some-clause-more g c = λ _.
    let actor = c.args.actor in
    let made = c.in-Some.made in
    let main = c.let_go.ensures.let_go ∙ ap (with_let_go actor made) c.in-Some.ensures.same in
    let settled = subst (λ (p : PartsState _). Settled actor p c.settle.new.self) main c.settle.ensures.settled in
    is-let-go g.T.Ticket.tells g.T.Ticket.content c.args.self.now c.settle.new.self actor made (sym c.in-Some.ensures.least) settled c.settle.ensures.stands
