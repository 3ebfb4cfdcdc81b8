use Rattle.std.proofs.Common.{◌≡◌, IfOk, IfErr, sym, ap, subst, arith}
use Rattle.tl_types.specs.declared.file_id.FileId.{FileId}
use Rattle.tl_model.specs.declared.reply.Reply.TheVariants.{Opened}
use Rattle.tl_model.specs.declared.command.Form.{Form}
use Rattle.tl_model.specs.declared.command.Command.TheVariants.{Read}
use Rattle.tl_model.specs.Namespace.{PathOf}
use Rattle.tl_desk.specs.Turns.{Calls}
use Rattle.tl_pieces.specs.Faults.{FaultCount}
use Rattle.tl_pieces.specs.Lines.{IsReadLine}
use Rattle.tl_work.specs.Setting.{setting}
use Rattle.tl_work.proofs.Finding.{found-adds}
use Rattle.tl_clients.specs.Waits.{IsWaiting, ServesAtLast, GivesUpReading}
use Rattle.tl_clients.proofs.OpenedReads.{call-rests, called-read, memory-ready, opened-waits, read-line, refused-line, ready-again, refused-idle, without-memory}
use Rattle.tl_clients.proofs.reading.read_line.Goals as goal

pub returns-in_default-call-clause-line : goal.returns-in_default-call-clause-line
returns-in_default-call-clause-line g c =
    let whole = g.K.Desk.whole in
    let tells = g.D.Ticket.Ticket.tells in
    let content = g.D.Ticket.Ticket.content in
    let home = g.K.Desk.home c.args.desk.now in
    let post = g.K.Desk.post home in
    let before = g.K.Desk.seen c.args.desk.now in
    let s = setting whole tells content post c.args.worker in
    let form : Form = c.args.form in
    let mid = g.K.Desk.seen c.call.new.self in
    let adds = found-adds s before mid c.in_default-call.ensures.err.finds in
    without-memory s _ _ _ _ before mid adds c.requires.idle

pub returns-in_default-call-clause-ready : goal.returns-in_default-call-clause-ready
returns-in_default-call-clause-ready g c =
    let whole = g.K.Desk.whole in
    let tells = g.D.Ticket.Ticket.tells in
    let content = g.D.Ticket.Ticket.content in
    let home = g.K.Desk.home c.args.desk.now in
    let post = g.K.Desk.post home in
    let before = g.K.Desk.seen c.args.desk.now in
    let s = setting whole tells content post c.args.worker in
    let form : Form = c.args.form in
    let mid = g.K.Desk.seen c.call.new.self in
    let adds = found-adds s before mid c.in_default-call.ensures.err.finds in
    memory-ready whole tells content post (g.K.Desk.post (g.K.Desk.home c.call.new.self)) c.args.worker before mid (ap g.K.Desk.post c.call.ensures.home) adds c.requires

pub wait_for-requires-clause-waiting : goal.wait_for-requires-clause-waiting
wait_for-requires-clause-waiting g c =
    let whole = g.K.Desk.whole in
    let tells = g.D.Ticket.Ticket.tells in
    let content = g.D.Ticket.Ticket.content in
    let home = g.K.Desk.home c.args.desk.now in
    let post = g.K.Desk.post home in
    let before = g.K.Desk.seen c.args.desk.now in
    let s = setting whole tells content post c.args.worker in
    let form : Form = c.args.form in
    let mid = g.K.Desk.seen c.call.new.self in
    let calls = subst (λ (p : PathOf). Calls whole post.actor (Read p c.args.prio form) before mid (c.in-Ok-call.at, c.in-Ok-call.reply)) c.in-Ok.ensures.cases c.in-Ok-call.ensures.ok in
    let called = called-read s c.args.path.now c.args.prio form (c.in-Ok-call.at, c.in-Ok-call.reply) before mid c.requires.idle calls in
    subst (λ h. IsWaiting (setting whole tells content (g.K.Desk.post h) c.args.worker) c.in-Opened.file mid) (sym c.call.ensures.home)
    (opened-waits s c.args.path.now c.args.prio form c.in-Ok-call.at c.in-Ok-call.reply c.in-Opened.file before mid c.in-Opened.is called)

pub wait_for-requires-clause-alone : goal.wait_for-requires-clause-alone
wait_for-requires-clause-alone g c whole_is =
    let whole = g.K.Desk.whole in
    let tells = g.D.Ticket.Ticket.tells in
    let content = g.D.Ticket.Ticket.content in
    let home = g.K.Desk.home c.args.desk.now in
    let post = g.K.Desk.post home in
    let before = g.K.Desk.seen c.args.desk.now in
    let s = setting whole tells content post c.args.worker in
    let form : Form = c.args.form in
    let mid = g.K.Desk.seen c.call.new.self in
    let calls = subst (λ (p : PathOf). Calls whole post.actor (Read p c.args.prio form) before mid (c.in-Ok-call.at, c.in-Ok-call.reply)) c.in-Ok.ensures.cases c.in-Ok-call.ensures.ok in
    let called = called-read s c.args.path.now c.args.prio form (c.in-Ok-call.at, c.in-Ok-call.reply) before mid c.requires.idle calls in
    call-rests s c.args.path.now c.args.prio form (c.in-Ok-call.at, c.in-Ok-call.reply) before mid whole_is (c.requires.alone whole_is) called

pub returns-in-Opened-clause-line : goal.returns-in-Opened-clause-line
returns-in-Opened-clause-line g c =
    let whole = g.K.Desk.whole in
    let tells = g.D.Ticket.Ticket.tells in
    let content = g.D.Ticket.Ticket.content in
    let home = g.K.Desk.home c.args.desk.now in
    let post = g.K.Desk.post home in
    let before = g.K.Desk.seen c.args.desk.now in
    let s = setting whole tells content post c.args.worker in
    let form : Form = c.args.form in
    let mid = g.K.Desk.seen c.call.new.self in
    let calls = subst (λ (p : PathOf). Calls whole post.actor (Read p c.args.prio form) before mid (c.in-Ok-call.at, c.in-Ok-call.reply)) c.in-Ok.ensures.cases c.in-Ok-call.ensures.ok in
    let called = called-read s c.args.path.now c.args.prio form (c.in-Ok-call.at, c.in-Ok-call.reply) before mid c.requires.idle calls in
    let after = g.K.Desk.seen c.wait_for.new.desk in
    let count : FaultCount = record { before = g.D.Depot.faults c.args.depot.now; now = g.D.Depot.faults c.wait_for.new.depot } in
    let served = c.wait_for.result in
    let ok = subst (λ h. IfOk served (ServesAtLast (setting whole tells content (g.K.Desk.post h) c.args.worker) c.in-Opened.file mid after)) c.call.ensures.home c.wait_for.ensures.ok in
    let failed = subst (λ h. IfErr served (GivesUpReading (setting whole tells content (g.K.Desk.post h) c.args.worker) c.in-Opened.file mid after)) c.call.ensures.home c.wait_for.ensures.failed in
    subst (λ r. IsReadLine s count (Read c.args.path.now c.args.prio form) before after r) (sym c.read_answer.ensures)
    (read-line s count c.args.path.now c.args.prio form c.in-Ok-call.at c.in-Ok-call.reply c.in-Opened.file before mid after served c.in-Opened.is called ok failed c.wait_for.ensures.fault)

pub returns-in_default-reply : goal.returns-in_default-reply
returns-in_default-reply g c =
    let whole = g.K.Desk.whole in
    let tells = g.D.Ticket.Ticket.tells in
    let content = g.D.Ticket.Ticket.content in
    let home = g.K.Desk.home c.args.desk.now in
    let post = g.K.Desk.post home in
    let before = g.K.Desk.seen c.args.desk.now in
    let s = setting whole tells content post c.args.worker in
    let form : Form = c.args.form in
    let mid = g.K.Desk.seen c.call.new.self in
    let calls = subst (λ (p : PathOf). Calls whole post.actor (Read p c.args.prio form) before mid (c.in-Ok-call.at, c.in-Ok-call.reply)) c.in-Ok.ensures.cases c.in-Ok-call.ensures.ok in
    let called = called-read s c.args.path.now c.args.prio form (c.in-Ok-call.at, c.in-Ok-call.reply) before mid c.requires.idle calls in
    let count : FaultCount = record { before = g.D.Depot.faults c.args.depot.now; now = g.D.Depot.faults c.args.depot.now } in
    let never : (f : FileId) → c.in-Ok-call.reply ≡ Opened f → ⊥ = λ f is. c.in_default-reply.not-Opened f is in
    record {
      line = refused-line s count c.args.path.now c.args.prio form c.in-Ok-call.at c.in-Ok-call.reply before mid never called;
      ready = ready-again whole post (g.K.Desk.post (g.K.Desk.home c.call.new.self)) c.args.worker before mid (ap g.K.Desk.post c.call.ensures.home) c.requires
          (refused-idle s c.args.path.now c.args.prio form c.in-Ok-call.at c.in-Ok-call.reply before mid never called)
          (λ is. call-rests s c.args.path.now c.args.prio form (c.in-Ok-call.at, c.in-Ok-call.reply) before mid is (c.requires.alone is) called);
      never_falls = omega arith;
      home = c.call.ensures.home;
    }
