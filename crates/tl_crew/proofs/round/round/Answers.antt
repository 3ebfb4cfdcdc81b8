use Rattle.std.proofs.Common.{[], Option, ap, ◌∙◌}
use Rattle.tl_types.specs.declared.record_id.RecordId.{RecordId}
use Rattle.tl_pieces.specs.Counts.{SaveOf}
use Rattle.tl_pieces.specs.Own.{Adds}
use Rattle.tl_work.specs.declared.error.WorkError.TheVariants.{NoMemory}
use Rattle.tl_work.specs.Saves.{SaveFails}
use Rattle.tl_work.specs.Setting.{setting}
use Rattle.tl_work.proofs.Among.{exits}
use Rattle.tl_crew.specs.Rounds.{CollectsOne, Cuts, SavesOne}
use Rattle.tl_crew.proofs.Steps.{for-post}
use Rattle.tl_crew.proofs.Rounding.{collect-cuts, save-cuts}
use Rattle.tl_crew.proofs.round.round.Goals as goal

pub returns-in_err-save_one-clause-failed : goal.returns-in_err-save_one-clause-failed
returns-in_err-save_one-clause-failed g c =
    let whole = g.K.Desk.whole in
    let tells = g.D.Ticket.Ticket.tells in
    let content = g.D.Ticket.Ticket.content in
    let post = g.K.Desk.post (g.K.Desk.home c.args.desk.now) in
    let seen = g.K.Desk.seen c.args.desk.now in
    let post' = g.K.Desk.post (g.K.Desk.home c.run_one.new.desk) in
    let ran_at = g.K.Desk.seen c.run_one.new.desk in
    let after = g.K.Desk.seen c.save_one.new.desk in
    let error = c.in_err-save_one.field-0.0 in
    let s = setting whole tells content post c.args.worker in
    let ran = c.in_ok-run_one.ensures.ok in
    let failed = for-post whole tells content post post' c.args.worker (λ t. SaveFails t ran_at after error) (ap g.K.Desk.post c.run_one.ensures.home) (c.in_err-save_one.ensures.failed c.args.worker) in
    exits c.from_residual-in_err-save_one.result error (Cuts s seen after) c.from_residual-in_err-save_one.ensures.1 (save-cuts s ran.0 seen ran_at after error ran.1 failed)

pub returns-in_err-collect_one-clause-failed : goal.returns-in_err-collect_one-clause-failed
returns-in_err-collect_one-clause-failed g c =
    let whole = g.K.Desk.whole in
    let tells = g.D.Ticket.Ticket.tells in
    let content = g.D.Ticket.Ticket.content in
    let post = g.K.Desk.post (g.K.Desk.home c.args.desk.now) in
    let seen = g.K.Desk.seen c.args.desk.now in
    let post' = g.K.Desk.post (g.K.Desk.home c.run_one.new.desk) in
    let post'' = g.K.Desk.post (g.K.Desk.home c.save_one.new.desk) in
    let ran_at = g.K.Desk.seen c.run_one.new.desk in
    let saved_at = g.K.Desk.seen c.save_one.new.desk in
    let after = g.K.Desk.seen c.collect_one.new.desk in
    let s = setting whole tells content post c.args.worker in
    let ran = c.in_ok-run_one.ensures.ok in
    let saved = for-post whole tells content post post' c.args.worker (λ t. (save : Option SaveOf) × SavesOne t save ran_at saved_at) (ap g.K.Desk.post c.run_one.ensures.home)
    (c.in_ok-save_one.ensures.ok c.args.worker) in
    let stays = for-post whole tells content post post'' c.args.worker (λ t. Adds t [] saved_at after) (ap g.K.Desk.post (c.save_one.ensures.home ∙ c.run_one.ensures.home))
    (c.in_err-collect_one.ensures.err c.args.worker) in
    exits c.from_residual-in_err-collect_one.result NoMemory (Cuts s seen after) c.from_residual-in_err-collect_one.ensures.1
    (collect-cuts s ran.0 saved.0 seen ran_at saved_at after ran.1 saved.1 stays)

pub returns-clause-ok : goal.returns-clause-ok
returns-clause-ok g c =
    let whole = g.K.Desk.whole in
    let tells = g.D.Ticket.Ticket.tells in
    let content = g.D.Ticket.Ticket.content in
    let post = g.K.Desk.post (g.K.Desk.home c.args.desk.now) in
    let seen = g.K.Desk.seen c.args.desk.now in
    let post' = g.K.Desk.post (g.K.Desk.home c.run_one.new.desk) in
    let post'' = g.K.Desk.post (g.K.Desk.home c.save_one.new.desk) in
    let ran_at = g.K.Desk.seen c.run_one.new.desk in
    let saved_at = g.K.Desk.seen c.save_one.new.desk in
    let after = g.K.Desk.seen c.collect_one.new.desk in
    let ran = c.in_ok-run_one.ensures.ok in
    let saved = for-post whole tells content post post' c.args.worker (λ t. (save : Option SaveOf) × SavesOne t save ran_at saved_at) (ap g.K.Desk.post c.run_one.ensures.home)
    (c.in_ok-save_one.ensures.ok c.args.worker) in
    let gone = for-post whole tells content post post'' c.args.worker (λ t. (gone : Option RecordId) × CollectsOne t gone saved_at after)
    (ap g.K.Desk.post (c.save_one.ensures.home ∙ c.run_one.ensures.home)) (c.in_ok-collect_one.ensures.ok c.args.worker) in (
      record { run = ran.0; save = saved.0; gone = gone.0 },
      record { ran_at = ran_at; saved_at = saved_at; ran = ran.1; saved = saved.1; collected = gone.1 },
    )
