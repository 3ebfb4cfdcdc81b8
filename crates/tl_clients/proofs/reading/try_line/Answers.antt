use Rattle.std.proofs.Common.{◌≡◌, IfOk, IfErr, sym, ap, subst, arith}
use Rattle.tl_types.specs.declared.file_id.FileId.{FileId}
use Rattle.tl_model.specs.declared.reply.Reply.TheVariants.{Opened}
use Rattle.tl_model.specs.declared.command.Form.{Form}
use Rattle.tl_model.specs.declared.command.Form.TheVariants.{Try}
use Rattle.tl_model.specs.declared.command.Command.TheVariants.{Read}
use Rattle.tl_model.specs.Namespace.{PathOf}
use Rattle.tl_desk.specs.Turns.{Calls}
use Rattle.tl_pieces.specs.Faults.{FaultCount}
use Rattle.tl_pieces.specs.Lines.{IsTryLine}
use Rattle.tl_work.specs.Setting.{setting}
use Rattle.tl_work.proofs.Finding.{found-adds}
use Rattle.tl_clients.specs.Waits.{IsWaiting, TriesOnce, TryFails}
use Rattle.tl_clients.proofs.OpenedReads.{call-rests, called-read, memory-ready, opened-waits, try-line, refused-try, ready-again, refused-idle, without-memory}
use Rattle.tl_clients.proofs.reading.try_line.Goals as goal

pub returns-in_default-call-clause-line : goal.returns-in_default-call-clause-line
returns-in_default-call-clause-line g c =
    let whole = g.K.Desk.whole in
    let tells = g.D.Ticket.Ticket.tells in
    let content = g.D.Ticket.Ticket.content in
    let home = g.K.Desk.home c.args.desk.now in
    let post = g.K.Desk.post home in
    let before = g.K.Desk.seen c.args.desk.now in
    let s = setting whole tells content post c.args.worker in
    let form : Form = Try in
    let mid = g.K.Desk.seen c.call.new.self in
    let adds = found-adds s before mid c.in_default-call.ensures.err.finds in
    without-memory s _ _ _ _ before mid adds c.requires.idle

pub returns-in_default-call-clause-ready : goal.returns-in_default-call-clause-ready
returns-in_default-call-clause-ready g c =
    let whole = g.K.Desk.whole in
    let tells = g.D.Ticket.Ticket.tells in
    let content = g.D.Ticket.Ticket.content in
    let home = g.K.Desk.home c.args.desk.now in
    let post = g.K.Desk.post home in
    let before = g.K.Desk.seen c.args.desk.now in
    let s = setting whole tells content post c.args.worker in
    let form : Form = Try in
    let mid = g.K.Desk.seen c.call.new.self in
    let adds = found-adds s before mid c.in_default-call.ensures.err.finds in
    memory-ready whole tells content post (g.K.Desk.post (g.K.Desk.home c.call.new.self)) c.args.worker before mid (ap g.K.Desk.post c.call.ensures.home) adds c.requires

pub try_for-requires-clause-waiting : goal.try_for-requires-clause-waiting
try_for-requires-clause-waiting g c =
    let whole = g.K.Desk.whole in
    let tells = g.D.Ticket.Ticket.tells in
    let content = g.D.Ticket.Ticket.content in
    let home = g.K.Desk.home c.args.desk.now in
    let post = g.K.Desk.post home in
    let before = g.K.Desk.seen c.args.desk.now in
    let s = setting whole tells content post c.args.worker in
    let form : Form = Try in
    let mid = g.K.Desk.seen c.call.new.self in
    let calls = subst (λ (p : PathOf). Calls whole post.actor (Read p c.args.prio form) before mid (c.in-Ok-call.at, c.in-Ok-call.reply)) c.in-Ok.ensures.cases c.in-Ok-call.ensures.ok in
    let called = called-read s c.args.path.now c.args.prio form (c.in-Ok-call.at, c.in-Ok-call.reply) before mid c.requires.idle calls in
    subst (λ h. IsWaiting (setting whole tells content (g.K.Desk.post h) c.args.worker) c.in-Opened.file mid) (sym c.call.ensures.home)
    (opened-waits s c.args.path.now c.args.prio form c.in-Ok-call.at c.in-Ok-call.reply c.in-Opened.file before mid c.in-Opened.is called)

pub try_for-requires-clause-alone : goal.try_for-requires-clause-alone
try_for-requires-clause-alone g c whole_is =
    let whole = g.K.Desk.whole in
    let tells = g.D.Ticket.Ticket.tells in
    let content = g.D.Ticket.Ticket.content in
    let home = g.K.Desk.home c.args.desk.now in
    let post = g.K.Desk.post home in
    let before = g.K.Desk.seen c.args.desk.now in
    let s = setting whole tells content post c.args.worker in
    let form : Form = Try in
    let mid = g.K.Desk.seen c.call.new.self in
    let calls = subst (λ (p : PathOf). Calls whole post.actor (Read p c.args.prio form) before mid (c.in-Ok-call.at, c.in-Ok-call.reply)) c.in-Ok.ensures.cases c.in-Ok-call.ensures.ok in
    let called = called-read s c.args.path.now c.args.prio form (c.in-Ok-call.at, c.in-Ok-call.reply) before mid c.requires.idle calls in
    call-rests s c.args.path.now c.args.prio form (c.in-Ok-call.at, c.in-Ok-call.reply) before mid whole_is (c.requires.alone whole_is) called

pub returns-in-Opened-clause-line : goal.returns-in-Opened-clause-line
returns-in-Opened-clause-line g c =
    let whole = g.K.Desk.whole in
    let tells = g.D.Ticket.Ticket.tells in
    let content = g.D.Ticket.Ticket.content in
    let home = g.K.Desk.home c.args.desk.now in
    let post = g.K.Desk.post home in
    let before = g.K.Desk.seen c.args.desk.now in
    let s = setting whole tells content post c.args.worker in
    let form : Form = Try in
    let mid = g.K.Desk.seen c.call.new.self in
    let calls = subst (λ (p : PathOf). Calls whole post.actor (Read p c.args.prio form) before mid (c.in-Ok-call.at, c.in-Ok-call.reply)) c.in-Ok.ensures.cases c.in-Ok-call.ensures.ok in
    let called = called-read s c.args.path.now c.args.prio form (c.in-Ok-call.at, c.in-Ok-call.reply) before mid c.requires.idle calls in
    let after = g.K.Desk.seen c.try_for.new.desk in
    let count : FaultCount = record { before = g.D.Depot.faults c.args.depot.now; now = g.D.Depot.faults c.try_for.new.depot } in
    let served = c.try_for.result in
    let ok = subst (λ h. IfOk served (TriesOnce (setting whole tells content (g.K.Desk.post h) c.args.worker) c.in-Opened.file mid after)) c.call.ensures.home c.try_for.ensures.ok in
    let failed = subst (λ h. IfErr served (TryFails (setting whole tells content (g.K.Desk.post h) c.args.worker) c.in-Opened.file mid after)) c.call.ensures.home c.try_for.ensures.failed in
    subst (λ r. IsTryLine s count (Read c.args.path.now c.args.prio form) before after r) (sym c.try_answer.ensures)
    (try-line s count c.args.path.now c.args.prio form c.in-Ok-call.at c.in-Ok-call.reply c.in-Opened.file before mid after served c.in-Opened.is called ok failed c.try_for.ensures.fault)

pub returns-in_default-reply : goal.returns-in_default-reply
returns-in_default-reply g c =
    let whole = g.K.Desk.whole in
    let tells = g.D.Ticket.Ticket.tells in
    let content = g.D.Ticket.Ticket.content in
    let home = g.K.Desk.home c.args.desk.now in
    let post = g.K.Desk.post home in
    let before = g.K.Desk.seen c.args.desk.now in
    let s = setting whole tells content post c.args.worker in
    let form : Form = Try in
    let mid = g.K.Desk.seen c.call.new.self in
    let calls = subst (λ (p : PathOf). Calls whole post.actor (Read p c.args.prio form) before mid (c.in-Ok-call.at, c.in-Ok-call.reply)) c.in-Ok.ensures.cases c.in-Ok-call.ensures.ok in
    let called = called-read s c.args.path.now c.args.prio form (c.in-Ok-call.at, c.in-Ok-call.reply) before mid c.requires.idle calls in
    let count : FaultCount = record { before = g.D.Depot.faults c.args.depot.now; now = g.D.Depot.faults c.args.depot.now } in
    let never : (f : FileId) → c.in-Ok-call.reply ≡ Opened f → ⊥ = λ f is. c.in_default-reply.not-Opened f is in
    record {
      line = refused-try s count c.args.path.now c.args.prio form c.in-Ok-call.at c.in-Ok-call.reply before mid never called;
      ready = ready-again whole post (g.K.Desk.post (g.K.Desk.home c.call.new.self)) c.args.worker before mid (ap g.K.Desk.post c.call.ensures.home) c.requires
          (refused-idle s c.args.path.now c.args.prio form c.in-Ok-call.at c.in-Ok-call.reply before mid never called)
          (λ is. call-rests s c.args.path.now c.args.prio form (c.in-Ok-call.at, c.in-Ok-call.reply) before mid is (c.requires.alone is) called);
      never_falls = omega arith;
      home = c.call.ensures.home;
    }
