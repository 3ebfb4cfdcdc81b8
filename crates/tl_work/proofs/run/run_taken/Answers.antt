use Rattle.tl_work.specs.Runs.{is_input}
use Rattle.tl_work.specs.Setting.{setting}
use Rattle.tl_work.proofs.Among.{where-damaged}
use Rattle.tl_work.proofs.Making.{made-outputs, made-values}
use Rattle.tl_work.proofs.TakingUp.{damage-on}
use Rattle.tl_work.proofs.run.run_taken.Goals as goal

pub finish-requires-clause-outputs : goal.finish-requires-clause-outputs
finish-requires-clause-outputs g c =
    let post = g.K.Desk.post (g.K.Desk.home c.args.desk.now) in
    made-outputs (setting g.K.Desk.whole g.D.Ticket.Ticket.tells g.D.Ticket.Ticket.content post c.args.work.worker)
    (g.K.Desk.seen c.args.desk.now) c.args.work c.in-Ok.blocks.items c.requires.taken c.make.ensures.kinds c.in-Ok.ensures.made

pub finish-requires-clause-values : goal.finish-requires-clause-values
finish-requires-clause-values g c =
    let post = g.K.Desk.post (g.K.Desk.home c.args.desk.now) in
    made-values (setting g.K.Desk.whole g.D.Ticket.Ticket.tells g.D.Ticket.Ticket.content post c.args.work.worker)
    (g.K.Desk.seen c.args.desk.now) c.args.work c.in-Ok.blocks.items c.stands.ensures.lawful c.requires.taken c.in-Ok.ensures.made

pub returns-in-Err-clause-damaged : goal.returns-in-Err-clause-damaged
returns-in-Err-clause-damaged g c =
    let post = g.K.Desk.post (g.K.Desk.home c.args.desk.now) in
    let s = setting g.K.Desk.whole g.D.Ticket.Ticket.tells g.D.Ticket.Ticket.content post c.args.work.worker in
    let seen = g.K.Desk.seen c.args.desk.now in
    let new = g.K.Desk.seen c.give_back.new.desk in
    let ends = c.give_back.ensures.back.ended.ends in
    where-damaged c.in-Err.error _ _
    (λ damage among. damage-on s (is_input c.args.work.rec) seen new ends.more damage ends.came (c.requires.taken.damage damage among))
    c.in-Err.ensures.damaged
