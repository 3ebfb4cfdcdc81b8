use Rattle.std.proofs.Common.{◌++◌, Some, sym, ap, ◌∙◌, subst}
use Rattle.tl_work.specs.declared.error.WorkError.TheVariants.{NoMemory}
use Rattle.tl_work.specs.Setting.{setting}
use Rattle.tl_work.proofs.Among.{exits}
use Rattle.tl_work.proofs.Finding.{found-adds}
use Rattle.tl_clients.specs.Waits.{IsWaiting, LookFails, LooksOnce}
use Rattle.tl_clients.proofs.Looking.{fails-then, have-there, look-fails, looked-none, looked-once, looked-then, none-there, saved-there, waiting-stays}
use Rattle.tl_clients.proofs.waiting.look_once.Goals as goal

pub returns-in_err-block-clause-failed : goal.returns-in_err-block-clause-failed
returns-in_err-block-clause-failed g c =
    let whole = g.K.Desk.whole in
    let tells = g.D.Ticket.Ticket.tells in
    let content = g.D.Ticket.Ticket.content in
    let post = g.K.Desk.post (g.K.Desk.home c.args.desk.now) in
    let seen = g.K.Desk.seen c.args.desk.now in
    let s = setting whole tells content post c.args.worker in
    let f = c.args.file in
    let mid = g.K.Desk.seen c.look.new.self in
    exits c.from_residual.result NoMemory (LookFails s f seen mid) c.from_residual.ensures.1
    (look-fails s f seen mid NoMemory c.requires.waiting (found-adds s seen mid c.in_err-block.ensures.err.finds) tt)

pub serve_saved-requires-clause-waiting : goal.serve_saved-requires-clause-waiting
serve_saved-requires-clause-waiting g c =
    let whole = g.K.Desk.whole in
    let tells = g.D.Ticket.Ticket.tells in
    let content = g.D.Ticket.Ticket.content in
    let post = g.K.Desk.post (g.K.Desk.home c.args.desk.now) in
    let seen = g.K.Desk.seen c.args.desk.now in
    let s = setting whole tells content post c.args.worker in
    let f = c.args.file in
    let mid = g.K.Desk.seen c.look.new.self in
    let answer = c.in_ok-block.ensures.ok f c.requires.waiting.reading in
    let post' = g.K.Desk.post (g.K.Desk.home c.look.new.self) in
    let same = ap g.K.Desk.post c.look.ensures.home in
    let there = saved-there s f seen mid c.in_ok-block.field-0 c.in-Saved.saved c.in-Saved.is answer in
    subst (λ p. IsWaiting (setting whole tells content p c.args.worker) f mid) (sym same)
    (waiting-stays s f seen mid c.requires.waiting (found-adds s seen mid there.0))

pub serve_saved-requires-clause-saved : goal.serve_saved-requires-clause-saved
serve_saved-requires-clause-saved g c =
    let whole = g.K.Desk.whole in
    let tells = g.D.Ticket.Ticket.tells in
    let content = g.D.Ticket.Ticket.content in
    let post = g.K.Desk.post (g.K.Desk.home c.args.desk.now) in
    let seen = g.K.Desk.seen c.args.desk.now in
    let s = setting whole tells content post c.args.worker in
    let f = c.args.file in
    let mid = g.K.Desk.seen c.look.new.self in
    let answer = c.in_ok-block.ensures.ok f c.requires.waiting.reading in
    let post' = g.K.Desk.post (g.K.Desk.home c.look.new.self) in
    let same = ap g.K.Desk.post c.look.ensures.home in
    let there = saved-there s f seen mid c.in_ok-block.field-0 c.in-Saved.saved c.in-Saved.is answer in
    there.1

pub returns-in_err-serve_saved-in-Saved-clause-failed : goal.returns-in_err-serve_saved-in-Saved-clause-failed
returns-in_err-serve_saved-in-Saved-clause-failed g c =
    let whole = g.K.Desk.whole in
    let tells = g.D.Ticket.Ticket.tells in
    let content = g.D.Ticket.Ticket.content in
    let post = g.K.Desk.post (g.K.Desk.home c.args.desk.now) in
    let seen = g.K.Desk.seen c.args.desk.now in
    let s = setting whole tells content post c.args.worker in
    let f = c.args.file in
    let mid = g.K.Desk.seen c.look.new.self in
    let answer = c.in_ok-block.ensures.ok f c.requires.waiting.reading in
    let post' = g.K.Desk.post (g.K.Desk.home c.look.new.self) in
    let same = ap g.K.Desk.post c.look.ensures.home in
    let there = saved-there s f seen mid c.in_ok-block.field-0 c.in-Saved.saved c.in-Saved.is answer in
    let new = g.K.Desk.seen c.serve_saved.new.desk in
    let error = c.in_err-serve_saved-in-Saved.field-0.0 in
    let failed = subst (λ p. LookFails (setting whole tells content p c.args.worker) f mid new error) same c.in_err-serve_saved-in-Saved.ensures.failed in
    exits c.from_residual-in_err-serve_saved-in-Saved.result error (LookFails s f seen new) c.from_residual-in_err-serve_saved-in-Saved.ensures.1
    (fails-then s f seen mid new error (found-adds s seen mid there.0) failed)

pub returns-in-Have-clause-ok : goal.returns-in-Have-clause-ok
returns-in-Have-clause-ok g c =
    let whole = g.K.Desk.whole in
    let tells = g.D.Ticket.Ticket.tells in
    let content = g.D.Ticket.Ticket.content in
    let post = g.K.Desk.post (g.K.Desk.home c.args.desk.now) in
    let seen = g.K.Desk.seen c.args.desk.now in
    let s = setting whole tells content post c.args.worker in
    let f = c.args.file in
    let mid = g.K.Desk.seen c.look.new.self in
    let answer = c.in_ok-block.ensures.ok f c.requires.waiting.reading in
    looked-once s f seen mid c.in-Have.block c.requires.waiting
    (have-there s f seen mid c.in_ok-block.field-0 c.in-Have.block c.in-Have.is answer)

pub returns-in_ok-serve_saved-in-Saved-clause-ok : goal.returns-in_ok-serve_saved-in-Saved-clause-ok
returns-in_ok-serve_saved-in-Saved-clause-ok g c =
    let whole = g.K.Desk.whole in
    let tells = g.D.Ticket.Ticket.tells in
    let content = g.D.Ticket.Ticket.content in
    let post = g.K.Desk.post (g.K.Desk.home c.args.desk.now) in
    let seen = g.K.Desk.seen c.args.desk.now in
    let s = setting whole tells content post c.args.worker in
    let f = c.args.file in
    let mid = g.K.Desk.seen c.look.new.self in
    let answer = c.in_ok-block.ensures.ok f c.requires.waiting.reading in
    let post' = g.K.Desk.post (g.K.Desk.home c.look.new.self) in
    let same = ap g.K.Desk.post c.look.ensures.home in
    let there = saved-there s f seen mid c.in_ok-block.field-0 c.in-Saved.saved c.in-Saved.is answer in
    let new = g.K.Desk.seen c.serve_saved.new.desk in
    let block = c.in_ok-serve_saved-in-Saved.field-0 in
    let served = subst (λ p. LooksOnce (setting whole tells content p c.args.worker) f mid new (Some block)) same c.in_ok-serve_saved-in-Saved.ensures.ok in
    looked-then s f seen mid new block (found-adds s seen mid there.0) served

pub returns-in-NotYet-clause-ok : goal.returns-in-NotYet-clause-ok
returns-in-NotYet-clause-ok g c =
    let whole = g.K.Desk.whole in
    let tells = g.D.Ticket.Ticket.tells in
    let content = g.D.Ticket.Ticket.content in
    let post = g.K.Desk.post (g.K.Desk.home c.args.desk.now) in
    let seen = g.K.Desk.seen c.args.desk.now in
    let s = setting whole tells content post c.args.worker in
    let f = c.args.file in
    let mid = g.K.Desk.seen c.look.new.self in
    let answer = c.in_ok-block.ensures.ok f c.requires.waiting.reading in
    looked-none s f seen mid c.requires.waiting (none-there s f seen mid c.in_ok-block.field-0 c.in-NotYet.is answer)

pub returns-in-NotYet-clause-alone : goal.returns-in-NotYet-clause-alone
returns-in-NotYet-clause-alone g c whole_is =
    let whole = g.K.Desk.whole in
    let tells = g.D.Ticket.Ticket.tells in
    let content = g.D.Ticket.Ticket.content in
    let post = g.K.Desk.post (g.K.Desk.home c.args.desk.now) in
    let seen = g.K.Desk.seen c.args.desk.now in
    let s = setting whole tells content post c.args.worker in
    let f = c.args.file in
    let mid = g.K.Desk.seen c.look.new.self in
    let answer = c.in_ok-block.ensures.ok f c.requires.waiting.reading in
    let none = none-there s f seen mid c.in_ok-block.field-0 c.in-NotYet.is answer in
    none.0.came ∙ ap (λ es. es ++ seen) (none.0.alone whole_is)
