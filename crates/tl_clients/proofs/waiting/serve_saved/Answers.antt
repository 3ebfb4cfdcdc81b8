use Rattle.std.proofs.Common.{ap, ◌∙◌}
use Rattle.tl_types.specs.Block.{FileOutcome}
use Rattle.tl_work.specs.declared.error.WorkError.TheVariants.{NoMemory}
use Rattle.tl_work.specs.Setting.{setting}
use Rattle.tl_work.proofs.Among.{exits}
use Rattle.tl_work.proofs.Finding.{found-adds}
use Rattle.tl_pieces.proofs.Adding.{added-none}
use Rattle.tl_clients.specs.Waits.{LookFails}
use Rattle.tl_clients.proofs.Looking.{look-fails, looked-once, serves-served, why-fails}
use Rattle.tl_clients.proofs.waiting.serve_saved.Goals as goal

pub returns-in_err-outcome-clause-failed : goal.returns-in_err-outcome-clause-failed
returns-in_err-outcome-clause-failed g c =
    let whole = g.K.Desk.whole in
    let tells = g.D.Ticket.Ticket.tells in
    let content = g.D.Ticket.Ticket.content in
    let post = g.K.Desk.post (g.K.Desk.home c.args.desk.now) in
    let seen = g.K.Desk.seen c.args.desk.now in
    let s = setting whole tells content post c.args.worker in
    let f = c.args.file in
    let error = c.in_err-outcome.field-0.0 in
    exits c.from_residual.result error (LookFails s f seen seen) c.from_residual.ensures.1
    (look-fails s f seen seen error c.requires.waiting (added-none s seen)
    (why-fails s f seen c.args.saved.now error c.requires.saved c.in_err-outcome.ensures.damaged))

pub returns-in_err-loaded-clause-failed : goal.returns-in_err-loaded-clause-failed
returns-in_err-loaded-clause-failed g c =
    let whole = g.K.Desk.whole in
    let tells = g.D.Ticket.Ticket.tells in
    let content = g.D.Ticket.Ticket.content in
    let post = g.K.Desk.post (g.K.Desk.home c.args.desk.now) in
    let seen = g.K.Desk.seen c.args.desk.now in
    let s = setting whole tells content post c.args.worker in
    let f = c.args.file in
    let new = g.K.Desk.seen c.loaded.new.self in
    exits c.from_residual-in_err-loaded.result NoMemory (LookFails s f seen new) c.from_residual-in_err-loaded.ensures.1
    (look-fails s f seen new NoMemory c.requires.waiting (found-adds s seen new c.in_err-loaded.ensures.err.finds) tt)

pub returns-clause-ok : goal.returns-clause-ok
returns-clause-ok g c =
    let whole = g.K.Desk.whole in
    let tells = g.D.Ticket.Ticket.tells in
    let content = g.D.Ticket.Ticket.content in
    let post = g.K.Desk.post (g.K.Desk.home c.args.desk.now) in
    let seen = g.K.Desk.seen c.args.desk.now in
    let s = setting whole tells content post c.args.worker in
    let f = c.args.file in
    let new = g.K.Desk.seen c.loaded.new.self in
    let served = serves-served s seen new c.in_ok-block.block c.in_ok-loaded.field-0 c.in_ok-loaded.ensures.ok in
    looked-once s f seen new c.in_ok-loaded.field-0 c.requires.waiting (served.0 ∙ ap (λ (b : FileOutcome). b.file) c.in_ok-block.ensures ∙ c.new.ensures.file, served.1)
