use Rattle.std.proofs.Common.{ap}
use Rattle.tl_work.specs.Setting.{setting}
use Rattle.tl_work.proofs.Among.{exits}
use Rattle.tl_crew.specs.Rounds.{Cuts}
use Rattle.tl_crew.proofs.Steps.{quiet-now, ran-one, run-cuts}
use Rattle.tl_crew.proofs.round.run_one.Goals as goal

pub returns-in_err-_ran-clause-failed : goal.returns-in_err-_ran-clause-failed
returns-in_err-_ran-clause-failed g c =
    let whole = g.K.Desk.whole in
    let tells = g.D.Ticket.Ticket.tells in
    let content = g.D.Ticket.Ticket.content in
    let post = g.K.Desk.post (g.K.Desk.home c.args.desk.now) in
    let seen = g.K.Desk.seen c.args.desk.now in
    let after = g.K.Desk.seen c.run_next.new.desk in
    let error = c.in_err-_ran.field-0.0 in
    let s = setting whole tells content post c.args.worker in
    exits c.from_residual.result error (Cuts s seen after) c.from_residual.ensures.1 (run-cuts s seen after error c.in_err-_ran.ensures.failed)

pub returns-clause-ok : goal.returns-clause-ok
returns-clause-ok g c =
    let whole = g.K.Desk.whole in
    let tells = g.D.Ticket.Ticket.tells in
    let content = g.D.Ticket.Ticket.content in
    let post = g.K.Desk.post (g.K.Desk.home c.args.desk.now) in
    let seen = g.K.Desk.seen c.args.desk.now in
    let post' = g.K.Desk.post (g.K.Desk.home c.run_next.new.desk) in
    let after = g.K.Desk.seen c.run_next.new.desk in
    let s = setting whole tells content post c.args.worker in
    let quiet = quiet-now whole tells content post post' c.args.worker after (ap g.K.Desk.post c.run_next.ensures.home) c.stands.ensures.lawful c.stands.ensures.legal in
    ran-one s seen after c.in_ok-_ran._ran quiet c.in_ok-_ran.ensures.ok
