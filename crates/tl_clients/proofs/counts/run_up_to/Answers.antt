use Rattle.std.proofs.Common.{◌≡◌, ◌+◌, true, Some, sym, ap, ◌∙◌, subst, arith}
use Rattle.tl_model.specs.Actors.{is_idle}
use Rattle.tl_model.specs.Past.{without_tickets}
use Rattle.tl_work.specs.declared.run.Ran.{Ran}
use Rattle.tl_work.specs.Runs.{RunFails, RunsNext}
use Rattle.tl_work.specs.Setting.{setting}
use Rattle.tl_work.proofs.Among.{exits}
use Rattle.tl_clients.specs.Counting.{WorkFails}
use Rattle.tl_clients.proofs.Staying.{for-post, idle-next, quiet-now}
use Rattle.tl_clients.proofs.Working.{never-lost, ran-lost, ran-one, work-fails, worked-all, worked-short}
use Rattle.tl_clients.proofs.counts.run_up_to.Goals as goal

pub returns-then-done-n-clause-ok : goal.returns-then-done-n-clause-ok
returns-then-done-n-clause-ok g c own =
    let whole = g.K.Desk.whole in
    let tells = g.D.Ticket.Ticket.tells in
    let content = g.D.Ticket.Ticket.content in
    let post = g.K.Desk.post (g.K.Desk.home c.args.desk.now) in
    let seen = g.K.Desk.seen c.args.desk.now in
    let mid = g.K.Desk.seen c.runs.desk in
    worked-all (setting whole tells content post own) c.args.worker c.args.n c.runs.done seen mid c.if-done-n.true (c.runs.invariant.ran own)

pub returns-in_err-ran-clause-failed : goal.returns-in_err-ran-clause-failed
returns-in_err-ran-clause-failed g c own =
    let whole = g.K.Desk.whole in
    let tells = g.D.Ticket.Ticket.tells in
    let content = g.D.Ticket.Ticket.content in
    let post = g.K.Desk.post (g.K.Desk.home c.args.desk.now) in
    let post' = g.K.Desk.post (g.K.Desk.home c.runs.desk) in
    let seen = g.K.Desk.seen c.args.desk.now in
    let mid = g.K.Desk.seen c.runs.desk in
    let after = g.K.Desk.seen c.run_next.new.desk in
    let error = c.in_err-ran.field-0.0 in
    let failed = for-post whole tells content post post' c.args.worker (λ t. RunFails t mid after error) (ap g.K.Desk.post c.runs.invariant.home) c.in_err-ran.ensures.failed in
    exits c.from_residual.result error (WorkFails (setting whole tells content post own) c.args.worker c.args.n seen after) c.from_residual.ensures.1
    (work-fails whole tells content post c.args.worker own c.args.n c.runs.done seen mid after error (omega arith) (c.runs.invariant.ran own) failed)

pub returns-in_default-clause-ok : goal.returns-in_default-clause-ok
returns-in_default-clause-ok g c own =
    let whole = g.K.Desk.whole in
    let tells = g.D.Ticket.Ticket.tells in
    let content = g.D.Ticket.Ticket.content in
    let post = g.K.Desk.post (g.K.Desk.home c.args.desk.now) in
    let post' = g.K.Desk.post (g.K.Desk.home c.runs.desk) in
    let post'' = g.K.Desk.post (g.K.Desk.home c.run_next.new.desk) in
    let seen = g.K.Desk.seen c.args.desk.now in
    let mid = g.K.Desk.seen c.runs.desk in
    let after = g.K.Desk.seen c.run_next.new.desk in
    let answer = c.in_ok-ran.field-0 in
    let found = for-post whole tells content post post' c.args.worker (λ t. RunsNext t mid after answer) (ap g.K.Desk.post c.runs.invariant.home) c.in_ok-ran.ensures.ok in
    let same = ap g.K.Desk.post (c.run_next.ensures.home ∙ c.runs.invariant.home) in
    let quiet = quiet-now whole tells content post post'' own after same c.stands.ensures.lawful c.stands.ensures.legal in
    worked-short whole tells content post c.args.worker own c.args.n c.runs.done seen mid after answer c.in_default.is c.runs.invariant.few quiet (c.runs.invariant.ran own) found

pub runs-preserved-in_default-ran : goal.runs-preserved-in_default-ran
runs-preserved-in_default-ran g c =
    let whole = g.K.Desk.whole in
    let tells = g.D.Ticket.Ticket.tells in
    let content = g.D.Ticket.Ticket.content in
    let post = g.K.Desk.post (g.K.Desk.home c.args.desk.now) in
    let post' = g.K.Desk.post (g.K.Desk.home c.runs.desk) in
    let seen = g.K.Desk.seen c.args.desk.now in
    let mid = g.K.Desk.seen c.runs.desk in
    let after = g.K.Desk.seen c.run_next.new.desk in
    let answer = c.in_ok-ran.field-0 in
    let same = ap g.K.Desk.post c.runs.invariant.home in
    let is = c.in-Some.is ∙ ap (λ (r : Ran). Some r) c.in_default-ran.is in
    let found = for-post whole tells content post post' c.args.worker (λ t. RunsNext t mid after answer) same c.in_ok-ran.ensures.ok in
    let actors = ap (λ p. p.actor) same in
    record {
      ran = λ own. ran-lost whole tells content post c.args.worker own c.runs.done seen mid after answer is (c.runs.invariant.ran own) found;
      few = c.runs.invariant.few;
      alone = λ w. never-lost mid after answer c.runs.done (c.runs.counter + 1) is (c.in_ok-ran.ensures.alone w);
      idle = subst (λ a. is_idle (without_tickets after) a ≡ true) actors
          (idle-next (without_tickets mid) (without_tickets after) post'.actor (subst (λ a. is_idle (without_tickets mid) a ≡ true) (sym actors) c.runs.invariant.idle)
          c.run_next.ensures.closed c.run_next.ensures.reads c.run_next.ensures.saves);
      home = c.run_next.ensures.home ∙ c.runs.invariant.home;
      never_falls = omega (arith, c.run_next.ensures.never_falls, c.runs.invariant.never_falls);
    }

pub runs-preserved : goal.runs-preserved
runs-preserved g c =
    let whole = g.K.Desk.whole in
    let tells = g.D.Ticket.Ticket.tells in
    let content = g.D.Ticket.Ticket.content in
    let post = g.K.Desk.post (g.K.Desk.home c.args.desk.now) in
    let post' = g.K.Desk.post (g.K.Desk.home c.runs.desk) in
    let seen = g.K.Desk.seen c.args.desk.now in
    let mid = g.K.Desk.seen c.runs.desk in
    let after = g.K.Desk.seen c.run_next.new.desk in
    let answer = c.in_ok-ran.field-0 in
    let same = ap g.K.Desk.post c.runs.invariant.home in
    let is = c.in-Some.is ∙ ap (λ (r : Ran). Some r) c.in-Installed.is in
    let found = for-post whole tells content post post' c.args.worker (λ t. RunsNext t mid after answer) same c.in_ok-ran.ensures.ok in
    let actors = ap (λ p. p.actor) same in
    record {
      ran = λ own. ran-one whole tells content post c.args.worker own c.runs.done seen mid after answer is (c.runs.invariant.ran own) found;
      few = omega arith;
      alone = λ w. ap (λ k. k + 1) (c.runs.invariant.alone w);
      idle = subst (λ a. is_idle (without_tickets after) a ≡ true) actors
          (idle-next (without_tickets mid) (without_tickets after) post'.actor (subst (λ a. is_idle (without_tickets mid) a ≡ true) (sym actors) c.runs.invariant.idle)
          c.run_next.ensures.closed c.run_next.ensures.reads c.run_next.ensures.saves);
      home = c.run_next.ensures.home ∙ c.runs.invariant.home;
      never_falls = omega (arith, c.run_next.ensures.never_falls, c.runs.invariant.never_falls);
    }
