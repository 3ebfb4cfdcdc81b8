use Rattle.std.proofs.Common.{[], ap}
use Rattle.tl_pieces.specs.Own.{Adds}
use Rattle.tl_pieces.proofs.Others.{rest-stays}
use Rattle.tl_types.specs.declared.worker_id.WorkerId.{WorkerId}
use Rattle.tl_work.specs.Setting.{setting}
use Rattle.tl_work.proofs.Finding.{found-adds}
use Rattle.tl_clients.proofs.Staying.{quiet-now}
use Rattle.tl_clients.proofs.Collecting.{collected-idle, collected-up-to, on-err}
use Rattle.tl_clients.proofs.counts.collect_up_to.Goals as goal

pub returns-in_err-done-clause-err : goal.returns-in_err-done-clause-err
returns-in_err-done-clause-err g c own =
    let whole = g.K.Desk.whole in
    let tells = g.T.Ticket.tells in
    let content = g.T.Ticket.content in
    let post = g.K.Desk.post (g.K.Desk.home c.args.desk.now) in
    let seen = g.K.Desk.seen c.args.desk.now in
    let after = g.K.Desk.seen c.collect.new.self in
    let s = setting whole tells content post own in
    on-err c.from_residual.result (Adds s [] seen after) (found-adds s seen after c.in_err-done.ensures.err.finds)

pub returns-in_err-done-clause-idle : goal.returns-in_err-done-clause-idle
returns-in_err-done-clause-idle g c =
    let whole = g.K.Desk.whole in
    let tells = g.T.Ticket.tells in
    let content = g.T.Ticket.content in
    let post = g.K.Desk.post (g.K.Desk.home c.args.desk.now) in
    let seen = g.K.Desk.seen c.args.desk.now in
    let after = g.K.Desk.seen c.collect.new.self in
    let s = setting whole tells content post (record { 0 = 0 }) in
    rest-stays s seen after (found-adds s seen after c.in_err-done.ensures.err.finds) c.requires.idle

pub returns-clause-ok : goal.returns-clause-ok
returns-clause-ok g c own =
    let whole = g.K.Desk.whole in
    let tells = g.T.Ticket.tells in
    let content = g.T.Ticket.content in
    let post = g.K.Desk.post (g.K.Desk.home c.args.desk.now) in
    let post' = g.K.Desk.post (g.K.Desk.home c.collect.new.self) in
    let seen = g.K.Desk.seen c.args.desk.now in
    let after = g.K.Desk.seen c.collect.new.self in
    let quiet = quiet-now whole tells content post post' own after (ap g.K.Desk.post c.collect.ensures.home) c.stands.ensures.lawful c.stands.ensures.legal in
    collected-up-to whole tells content post own c.args.n c.in_ok-done.done seen after quiet c.in_ok-done.ensures.ok

pub returns-clause-idle : goal.returns-clause-idle
returns-clause-idle g c =
    let whole = g.K.Desk.whole in
    let tells = g.T.Ticket.tells in
    let content = g.T.Ticket.content in
    let post = g.K.Desk.post (g.K.Desk.home c.args.desk.now) in
    let post' = g.K.Desk.post (g.K.Desk.home c.collect.new.self) in
    let seen = g.K.Desk.seen c.args.desk.now in
    let after = g.K.Desk.seen c.collect.new.self in
    let own : WorkerId = record { 0 = 0 } in
    let quiet = quiet-now whole tells content post post' own after (ap g.K.Desk.post c.collect.ensures.home) c.stands.ensures.lawful c.stands.ensures.legal in
    collected-idle (setting whole tells content post own) c.args.n c.in_ok-done.done seen after c.requires.idle
    (collected-up-to whole tells content post own c.args.n c.in_ok-done.done seen after quiet c.in_ok-done.ensures.ok)
