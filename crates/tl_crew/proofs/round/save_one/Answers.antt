use Rattle.std.proofs.Common.{ap}
use Rattle.tl_work.specs.Saves.{SaveFails}
use Rattle.tl_work.specs.Setting.{setting}
use Rattle.tl_work.proofs.Among.{exits}
use Rattle.tl_crew.proofs.Steps.{quiet-now, saved-one}
use Rattle.tl_crew.proofs.round.save_one.Goals as goal

pub returns-in_err-_saved-clause-failed : goal.returns-in_err-_saved-clause-failed
returns-in_err-_saved-clause-failed g c worker =
    let whole = g.K.Desk.whole in
    let tells = g.D.Ticket.Ticket.tells in
    let content = g.D.Ticket.Ticket.content in
    let post = g.K.Desk.post (g.K.Desk.home c.args.desk.now) in
    let seen = g.K.Desk.seen c.args.desk.now in
    let after = g.K.Desk.seen c.save_next.new.desk in
    let error = c.in_err-_saved.field-0.0 in
    let s = setting whole tells content post worker in
    exits c.from_residual.result error (SaveFails s seen after) c.from_residual.ensures.1 (c.in_err-_saved.ensures.failed worker)

pub returns-clause-ok : goal.returns-clause-ok
returns-clause-ok g c worker =
    let whole = g.K.Desk.whole in
    let tells = g.D.Ticket.Ticket.tells in
    let content = g.D.Ticket.Ticket.content in
    let post = g.K.Desk.post (g.K.Desk.home c.args.desk.now) in
    let seen = g.K.Desk.seen c.args.desk.now in
    let post' = g.K.Desk.post (g.K.Desk.home c.save_next.new.desk) in
    let after = g.K.Desk.seen c.save_next.new.desk in
    let s = setting whole tells content post worker in
    let quiet = quiet-now whole tells content post post' worker after (ap g.K.Desk.post c.save_next.ensures.home) c.stands.ensures.lawful c.stands.ensures.legal in
    saved-one s seen after c.in_ok-_saved._saved quiet (c.in_ok-_saved.ensures.ok worker)
