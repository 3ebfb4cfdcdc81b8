use Rattle.tl_work.specs.Loads.{IsDamageAmong, WhereDamaged}
use Rattle.tl_work.proofs.Among.{among, exits, where-damaged}
use Rattle.tl_work.proofs.loading.outcomes_of.Goals as goal

pub returns-in_err-outcome_of-clause-damaged : goal.returns-in_err-outcome_of-clause-damaged
returns-in_err-outcome_of-clause-damaged g c =
    let tells = g.D.Ticket.Ticket.tells in
    let content = g.D.Ticket.Ticket.content in
    let error = c.in_err-outcome_of.field-0.0 in
    exits c.from_residual.result error (WhereDamaged (IsDamageAmong tells content c.args.feeds.now))
    c.from_residual.ensures.1
    (where-damaged error _ _
    (λ damage. among tells content c.args.feeds.now c.loop-feed.feed-index c.feed-item.result damage c.loop-feed-test.true c.feed-item.is)
    c.in_err-outcome_of.ensures.damaged)
