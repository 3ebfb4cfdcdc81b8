use Rattle.std.proofs.Common.{sym, subst}
use Rattle.tl_cluster.specs.declared.work.Finish.{Finish}
use Rattle.tl_cluster.specs.declared.work.Work.{Work}
use Rattle.tl_desk.specs.Turns.{Finishes, GivesBack, IsUnlessLost}
use Rattle.tl_work.specs.Setting.{setting}
use Rattle.tl_work.proofs.Ending.{back-ends, done-ends, taken-stays, void-finish}
use Rattle.tl_work.proofs.run.finish.Goals as goal

pub returns-in-Ok-Installed-clause-ok : goal.returns-in-Ok-Installed-clause-ok
returns-in-Ok-Installed-clause-ok g c =
    let post = g.K.Desk.post (g.K.Desk.home c.args.desk.now) in
    let seen = g.K.Desk.seen c.args.desk.now in
    let new = g.K.Desk.seen c.done.new.self in
    done-ends (setting g.K.Desk.whole g.T.Ticket.tells g.T.Ticket.content post c.args.work.worker) c.args.work
    seen new c.requires.taken.for_actor c.requires.taken.on_worker
    (subst (λ (f : Finish). Finishes g.K.Desk.whole c.args.work seen new f) c.in-Ok-Installed.field-0-is c.in-Ok-Installed.ensures.ok)

pub returns-in-Ok-Void-clause-ok : goal.returns-in-Ok-Void-clause-ok
returns-in-Ok-Void-clause-ok g c =
    let post = g.K.Desk.post (g.K.Desk.home c.args.desk.now) in
    let seen = g.K.Desk.seen c.args.desk.now in
    let new = g.K.Desk.seen c.done.new.self in
    void-finish (setting g.K.Desk.whole g.T.Ticket.tells g.T.Ticket.content post c.args.work.worker) c.args.work
    seen new c.in-Ok-Void.field-0-0 c.in-Ok-Void.field-0-1 c.requires.taken
    (subst (λ (f : Finish). Finishes g.K.Desk.whole c.args.work seen new f) c.in-Ok-Void.field-0-is c.in-Ok-Void.ensures.ok)

pub back-requires-clause-claim : goal.back-requires-clause-claim
back-requires-clause-claim g c =
    let post = g.K.Desk.post (g.K.Desk.home c.args.desk.now) in
    let seen = g.K.Desk.seen c.args.desk.now in
    let new = g.K.Desk.seen c.done.new.self in
    subst (λ (w : Work g.row.T.Denot). IsUnlessLost new w) (sym c.in-Err.ensures.back.0)
    (taken-stays (setting g.K.Desk.whole g.T.Ticket.tells g.T.Ticket.content post c.args.work.worker) c.args.work
    seen new c.requires.taken c.in-Err.ensures.err.finds)

pub returns-clause-back : goal.returns-clause-back
returns-clause-back g c =
    let post = g.K.Desk.post (g.K.Desk.home c.args.desk.now) in
    let seen = g.K.Desk.seen c.args.desk.now in
    let mid = g.K.Desk.seen c.done.new.self in
    let new = g.K.Desk.seen c.back.new.self in
    back-ends (setting g.K.Desk.whole g.T.Ticket.tells g.T.Ticket.content post c.args.work.worker) c.args.work
    seen mid new c.requires.taken c.in-Err.ensures.err.finds
    (subst (λ (w : Work g.row.T.Denot). GivesBack g.K.Desk.whole w mid new) c.in-Err.ensures.back.0 c.back.ensures.back)
