use Rattle.std.proofs.Common.{[], ap}
use Rattle.tl_types.specs.declared.worker_id.WorkerId.{WorkerId}
use Rattle.tl_pieces.specs.Own.{Adds}
use Rattle.tl_pieces.proofs.Others.{rest-stays}
use Rattle.tl_work.specs.Setting.{setting}
use Rattle.tl_work.proofs.Finding.{found-adds}
use Rattle.tl_crew.proofs.Steps.{collected-idle, collected-one, on-err, quiet-now}
use Rattle.tl_crew.proofs.round.collect_one.Goals as goal

pub returns-in_err-_gone-clause-err : goal.returns-in_err-_gone-clause-err
returns-in_err-_gone-clause-err g c worker =
    let whole = g.K.Desk.whole in
    let tells = g.T.Ticket.tells in
    let content = g.T.Ticket.content in
    let post = g.K.Desk.post (g.K.Desk.home c.args.desk.now) in
    let seen = g.K.Desk.seen c.args.desk.now in
    let after = g.K.Desk.seen c.collect.new.self in
    let s = setting whole tells content post worker in
    on-err c.from_residual.result (Adds s [] seen after) (found-adds s seen after c.in_err-_gone.ensures.err.finds)

pub returns-in_err-_gone-clause-idle : goal.returns-in_err-_gone-clause-idle
returns-in_err-_gone-clause-idle g c =
    let whole = g.K.Desk.whole in
    let tells = g.T.Ticket.tells in
    let content = g.T.Ticket.content in
    let post = g.K.Desk.post (g.K.Desk.home c.args.desk.now) in
    let seen = g.K.Desk.seen c.args.desk.now in
    let after = g.K.Desk.seen c.collect.new.self in
    let s = setting whole tells content post (record { 0 = 0 }) in
    rest-stays s seen after (found-adds s seen after c.in_err-_gone.ensures.err.finds) c.requires.idle

pub returns-clause-ok : goal.returns-clause-ok
returns-clause-ok g c worker =
    let whole = g.K.Desk.whole in
    let tells = g.T.Ticket.tells in
    let content = g.T.Ticket.content in
    let post = g.K.Desk.post (g.K.Desk.home c.args.desk.now) in
    let seen = g.K.Desk.seen c.args.desk.now in
    let post' = g.K.Desk.post (g.K.Desk.home c.collect.new.self) in
    let after = g.K.Desk.seen c.collect.new.self in
    let quiet = quiet-now whole tells content post post' worker after (ap g.K.Desk.post c.collect.ensures.home) c.stands.ensures.lawful c.stands.ensures.legal in
    collected-one whole tells content post worker c.in_ok-_gone._gone seen after quiet c.in_ok-_gone.ensures.ok

pub returns-clause-idle : goal.returns-clause-idle
returns-clause-idle g c =
    let whole = g.K.Desk.whole in
    let tells = g.T.Ticket.tells in
    let content = g.T.Ticket.content in
    let post = g.K.Desk.post (g.K.Desk.home c.args.desk.now) in
    let seen = g.K.Desk.seen c.args.desk.now in
    let post' = g.K.Desk.post (g.K.Desk.home c.collect.new.self) in
    let after = g.K.Desk.seen c.collect.new.self in
    let worker : WorkerId = record { 0 = 0 } in
    let quiet = quiet-now whole tells content post post' worker after (ap g.K.Desk.post c.collect.ensures.home) c.stands.ensures.lawful c.stands.ensures.legal in
    let one = collected-one whole tells content post worker c.in_ok-_gone._gone seen after quiet c.in_ok-_gone.ensures.ok in
    collected-idle (setting whole tells content post worker) one.0 seen after c.requires.idle one.1
