use Rattle.std.proofs.Common.{sym, subst}
use Rattle.tl_model.specs.declared.event.Act.TheVariants.{Shut}
use Rattle.tl_desk.specs.Finds.{Turns, is_any}
use Rattle.tl_desk.specs.Turns.{IsReading, with_act}
use Rattle.tl_work.specs.Setting.{setting}
use Rattle.tl_clients.proofs.Shutting.{gives-up-reading, shut-after, shut-rests}
use Rattle.tl_clients.proofs.waiting.wait_for.Goals as goal

pub returns-in-Err-clause-failed : goal.returns-in-Err-clause-failed
returns-in-Err-clause-failed g c =
    let whole = g.K.Desk.whole in
    let tells = g.D.Ticket.Ticket.tells in
    let content = g.D.Ticket.Ticket.content in
    let home = g.K.Desk.home c.args.desk.now in
    let post = g.K.Desk.post home in
    let before = g.K.Desk.seen c.args.desk.now in
    let s = setting whole tells content post c.args.worker in
    let f = c.args.file in
    let mid = g.K.Desk.seen c.serve.new.desk in
    let after = g.K.Desk.seen c.shut.new.self in
    let turn = subst (λ h. Turns whole (g.K.Desk.post h).actor mid after is_any (with_act (g.K.Desk.post h).actor (Shut f))) c.serve.ensures.home
    (c.shut.ensures.shut f (subst (λ h. IsReading mid (g.K.Desk.post h).actor f) (sym c.serve.ensures.home) c.in-Err.ensures.waiting.reading)) in
    let shut = shut-after s f mid after c.in-Err.ensures.waiting turn in
    gives-up-reading s f before mid after c.in-Err.error c.in-Err.ensures.failed shut

pub returns-in-Err-clause-alone : goal.returns-in-Err-clause-alone
returns-in-Err-clause-alone g c whole_is =
    let whole = g.K.Desk.whole in
    let tells = g.D.Ticket.Ticket.tells in
    let content = g.D.Ticket.Ticket.content in
    let home = g.K.Desk.home c.args.desk.now in
    let post = g.K.Desk.post home in
    let before = g.K.Desk.seen c.args.desk.now in
    let s = setting whole tells content post c.args.worker in
    let f = c.args.file in
    let mid = g.K.Desk.seen c.serve.new.desk in
    let after = g.K.Desk.seen c.shut.new.self in
    let turn = subst (λ h. Turns whole (g.K.Desk.post h).actor mid after is_any (with_act (g.K.Desk.post h).actor (Shut f))) c.serve.ensures.home
    (c.shut.ensures.shut f (subst (λ h. IsReading mid (g.K.Desk.post h).actor f) (sym c.serve.ensures.home) c.in-Err.ensures.waiting.reading)) in
    let shut = shut-after s f mid after c.in-Err.ensures.waiting turn in
    shut-rests s f mid after whole_is (c.serve.ensures.alone whole_is) c.in-Err.ensures.waiting shut

pub shut-requires-clause-reading : goal.shut-requires-clause-reading
shut-requires-clause-reading g c =
    let whole = g.K.Desk.whole in
    let tells = g.D.Ticket.Ticket.tells in
    let content = g.D.Ticket.Ticket.content in
    let home = g.K.Desk.home c.args.desk.now in
    let post = g.K.Desk.post home in
    let before = g.K.Desk.seen c.args.desk.now in
    let s = setting whole tells content post c.args.worker in
    let f = c.args.file in
    let mid = g.K.Desk.seen c.serve.new.desk in
    (f, subst (λ h. IsReading mid (g.K.Desk.post h).actor f) (sym c.serve.ensures.home) c.in-Err.ensures.waiting.reading)
