use Rattle.tl_cluster.proofs.Answering.{answered-before}
use Rattle.tl_cluster.proofs.Carry.{if_ok}
use Rattle.tl_cluster.proofs.parts.Parts.call.Goals as goal

pub returns-clause-answered : goal.returns-clause-answered
returns-clause-answered g c =
    if_ok _ _ _ (λ answer is.
    answered-before g.T.Ticket.tells g.T.Ticket.content c.args.self.now c.ready.new.self c.answer.new.self c.args.actor c.args.command answer
    c.in_ok-put.ensures.same is) c.answer.ensures.answered
