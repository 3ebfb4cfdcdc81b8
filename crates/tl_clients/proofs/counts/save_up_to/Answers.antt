use Rattle.std.proofs.Common.{◌≡◌, true, ap, ◌∙◌, subst, arith}
use Rattle.tl_work.specs.Setting.{setting}
use Rattle.tl_work.proofs.Among.{exits}
use Rattle.tl_model.specs.Actors.{is_idle}
use Rattle.tl_model.specs.Past.{without_tickets}
use Rattle.tl_work.specs.Saves.{SaveFails, SavesNext}
use Rattle.tl_clients.specs.Counting.{SavingFails}
use Rattle.tl_clients.proofs.Staying.{for-post, quiet-now}
use Rattle.tl_clients.proofs.SavingUp.{saved-all, saved-one, saved-short, saving-fails}
use Rattle.tl_clients.proofs.counts.save_up_to.Goals as goal

pub returns-in_err-save_next-clause-failed : goal.returns-in_err-save_next-clause-failed
returns-in_err-save_next-clause-failed g c own =
    let whole = g.K.Desk.whole in
    let tells = g.D.Ticket.Ticket.tells in
    let content = g.D.Ticket.Ticket.content in
    let post = g.K.Desk.post (g.K.Desk.home c.args.desk.now) in
    let post' = g.K.Desk.post (g.K.Desk.home c.saves.desk) in
    let seen = g.K.Desk.seen c.args.desk.now in
    let mid = g.K.Desk.seen c.saves.desk in
    let after = g.K.Desk.seen c.save_next.new.desk in
    let s = setting whole tells content post own in
    let error = c.in_err-save_next.field-0.0 in
    let failed = for-post whole tells content post post' own (λ t. SaveFails t mid after error) (ap g.K.Desk.post c.saves.invariant.home) (c.in_err-save_next.ensures.failed own) in
    exits c.from_residual.result error (SavingFails s c.args.n seen after) c.from_residual.ensures.1
    (saving-fails s c.args.n c.saves.done seen mid after error (omega arith) (c.saves.invariant.saved own) failed)

pub returns-then-not-branch-clause-ok : goal.returns-then-not-branch-clause-ok
returns-then-not-branch-clause-ok g c own =
    let whole = g.K.Desk.whole in
    let tells = g.D.Ticket.Ticket.tells in
    let content = g.D.Ticket.Ticket.content in
    let post = g.K.Desk.post (g.K.Desk.home c.args.desk.now) in
    let post' = g.K.Desk.post (g.K.Desk.home c.saves.desk) in
    let post'' = g.K.Desk.post (g.K.Desk.home c.save_next.new.desk) in
    let seen = g.K.Desk.seen c.args.desk.now in
    let mid = g.K.Desk.seen c.saves.desk in
    let after = g.K.Desk.seen c.save_next.new.desk in
    let s = setting whole tells content post own in
    let b = c.in_ok-save_next.field-0 in
    let same = ap g.K.Desk.post c.saves.invariant.home in
    let same' = ap g.K.Desk.post (c.save_next.ensures.home ∙ c.saves.invariant.home) in
    let found = for-post whole tells content post post' own (λ t. SavesNext t mid after b) same (c.in_ok-save_next.ensures.ok own) in
    let quiet = quiet-now whole tells content post post'' own after same' c.stands.ensures.lawful c.stands.ensures.legal in
    saved-short s c.args.n c.saves.done seen mid after b c.if-not-branch.true c.saves.invariant.few quiet (c.saves.invariant.saved own) found

pub saves-preserved : goal.saves-preserved
saves-preserved g c =
    let whole = g.K.Desk.whole in
    let tells = g.D.Ticket.Ticket.tells in
    let content = g.D.Ticket.Ticket.content in
    let post = g.K.Desk.post (g.K.Desk.home c.args.desk.now) in
    let post' = g.K.Desk.post (g.K.Desk.home c.saves.desk) in
    let seen = g.K.Desk.seen c.args.desk.now in
    let mid = g.K.Desk.seen c.saves.desk in
    let after = g.K.Desk.seen c.save_next.new.desk in
    let b = c.in_ok-save_next.field-0 in
    let same = ap g.K.Desk.post c.saves.invariant.home in
    record {
      saved = λ own.
          saved-one (setting whole tells content post own) c.saves.done seen mid after b c.if-not-branch.false (c.saves.invariant.saved own)
          (for-post whole tells content post post' own (λ t. SavesNext t mid after b) same (c.in_ok-save_next.ensures.ok own));
      few = omega arith;
      idle = subst (λ p. is_idle (without_tickets after) p.actor ≡ true) same c.save_next.ensures.idle;
      home = c.save_next.ensures.home ∙ c.saves.invariant.home;
      never_falls = omega (arith, c.save_next.ensures.never_falls, c.saves.invariant.never_falls);
    }

pub returns-clause-ok : goal.returns-clause-ok
returns-clause-ok g c own =
    let whole = g.K.Desk.whole in
    let tells = g.D.Ticket.Ticket.tells in
    let content = g.D.Ticket.Ticket.content in
    let post = g.K.Desk.post (g.K.Desk.home c.args.desk.now) in
    let seen = g.K.Desk.seen c.args.desk.now in
    let mid = g.K.Desk.seen c.saves.desk in
    let s = setting whole tells content post own in
    saved-all s c.args.n c.saves.done seen mid (omega arith) (c.saves.invariant.saved own)
