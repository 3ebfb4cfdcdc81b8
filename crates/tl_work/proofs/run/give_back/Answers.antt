use Rattle.tl_work.specs.Setting.{setting}
use Rattle.tl_work.proofs.Ending.{back-ends}
use Rattle.tl_work.proofs.Finding.{found-none}
use Rattle.tl_work.proofs.run.give_back.Goals as goal

pub returns-clause-back : goal.returns-clause-back
returns-clause-back g c =
    let post = g.K.Desk.post (g.K.Desk.home c.args.desk.now) in
    let seen = g.K.Desk.seen c.args.desk.now in
    back-ends (setting g.K.Desk.whole g.T.Ticket.tells g.T.Ticket.content post c.args.work.worker) c.args.work
    seen seen (g.K.Desk.seen c.back.new.self) c.requires.taken (found-none g.K.Desk.whole post.actor seen) c.back.ensures.back
