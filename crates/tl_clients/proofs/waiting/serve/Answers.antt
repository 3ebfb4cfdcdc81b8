use Rattle.std.proofs.Common.{◌≡◌, ◌+◌, ◌≤◌, ◌<◌, ◌-◌, ◌^◌, true, None, Some, Option, refl, ap, ◌∙◌, subst, arith}
use Rattle.tl_types.specs.Block.{FileOutcome}
use Rattle.tl_model.specs.Actors.{open_claim, open_read, open_save}
use Rattle.tl_model.specs.Past.{without_tickets}
use Rattle.tl_model.specs.Rules.{is_lawful}
use Rattle.tl_work.specs.Runs.{RunFails, RunsNext, task_count}
use Rattle.tl_work.specs.Setting.{setting}
use Rattle.tl_work.proofs.Among.{exits}
use Rattle.tl_clients.specs.Waits.{FindsNothing, LookFails, LooksOnce, WaitFails}
use Rattle.tl_clients.proofs.Serving.{fail-rests, few-rounds, fewer-tasks, is-none, look-failed, look-rests, next-rests, not-yet-waited, on-exit, run-failed, still-waiting, wait-rests, waited-on, waited-round}
use Rattle.tl_clients.proofs.waiting.serve.Goals as goal

pub rounds-init : goal.rounds-init
rounds-init g c =
    let whole = g.K.Desk.whole in
    let tells = g.D.Ticket.Ticket.tells in
    let content = g.D.Ticket.Ticket.content in
    let home = g.K.Desk.home c.args.desk.now in
    let post = g.K.Desk.post home in
    let start = g.K.Desk.seen c.args.desk.now in
    let s = setting whole tells content post c.args.worker in
    let f = c.args.file in
    record {
      so_far = not-yet-waited s f start;
      waiting = c.requires.waiting;
      alone = c.requires.alone;
      fewer = λ h. omega arith;
      never_falls = omega arith;
      home = refl;
    }

pub returns-in_err-block-clause-failed : goal.returns-in_err-block-clause-failed
returns-in_err-block-clause-failed g c =
    let whole = g.K.Desk.whole in
    let tells = g.D.Ticket.Ticket.tells in
    let content = g.D.Ticket.Ticket.content in
    let home = g.K.Desk.home c.args.desk.now in
    let post = g.K.Desk.post home in
    let start = g.K.Desk.seen c.args.desk.now in
    let s = setting whole tells content post c.args.worker in
    let f = c.args.file in
    let before = g.K.Desk.seen c.rounds.desk in
    let inv = c.rounds.invariant in
    let mid = g.K.Desk.seen c.look_once.new.desk in
    let error = c.in_err-block.field-0.0 in
    let failed = subst (λ h. LookFails (setting whole tells content (g.K.Desk.post h) c.args.worker) f before mid error) inv.home c.in_err-block.ensures.failed in
    exits c.from_residual.result error (WaitFails s f start mid) c.from_residual.ensures.1 (look-failed s f start before mid error inv.so_far failed)

pub returns-in_err-block-clause-alone : goal.returns-in_err-block-clause-alone
returns-in_err-block-clause-alone g c whole_is =
    let whole = g.K.Desk.whole in
    let tells = g.D.Ticket.Ticket.tells in
    let content = g.D.Ticket.Ticket.content in
    let home = g.K.Desk.home c.args.desk.now in
    let post = g.K.Desk.post home in
    let start = g.K.Desk.seen c.args.desk.now in
    let s = setting whole tells content post c.args.worker in
    let f = c.args.file in
    let before = g.K.Desk.seen c.rounds.desk in
    let inv = c.rounds.invariant in
    let mid = g.K.Desk.seen c.look_once.new.desk in
    let error = c.in_err-block.field-0.0 in
    let failed = subst (λ h. LookFails (setting whole tells content (g.K.Desk.post h) c.args.worker) f before mid error) inv.home c.in_err-block.ensures.failed in
    wait-rests s f before mid whole_is (inv.alone whole_is) failed.came failed.waiting

pub returns-in-Some-clause-alone : goal.returns-in-Some-clause-alone
returns-in-Some-clause-alone g c whole_is =
    let whole = g.K.Desk.whole in
    let tells = g.D.Ticket.Ticket.tells in
    let content = g.D.Ticket.Ticket.content in
    let home = g.K.Desk.home c.args.desk.now in
    let post = g.K.Desk.post home in
    let start = g.K.Desk.seen c.args.desk.now in
    let s = setting whole tells content post c.args.worker in
    let f = c.args.file in
    let before = g.K.Desk.seen c.rounds.desk in
    let inv = c.rounds.invariant in
    let mid = g.K.Desk.seen c.look_once.new.desk in
    let some = subst (λ (o : Option FileOutcome). LooksOnce (setting whole tells content (g.K.Desk.post (g.K.Desk.home c.rounds.desk)) c.args.worker) f before mid o) c.in-Some.is c.in_ok-block.ensures.ok in
    let looked = subst (λ h. LooksOnce (setting whole tells content (g.K.Desk.post h) c.args.worker) f before mid (Some c.in-Some.block)) inv.home some in
    look-rests s f before mid c.in-Some.block whole_is (inv.alone whole_is) looked

pub returns-in_err-_ran-clause-failed : goal.returns-in_err-_ran-clause-failed
returns-in_err-_ran-clause-failed g c =
    let whole = g.K.Desk.whole in
    let tells = g.D.Ticket.Ticket.tells in
    let content = g.D.Ticket.Ticket.content in
    let home = g.K.Desk.home c.args.desk.now in
    let post = g.K.Desk.post home in
    let start = g.K.Desk.seen c.args.desk.now in
    let s = setting whole tells content post c.args.worker in
    let f = c.args.file in
    let before = g.K.Desk.seen c.rounds.desk in
    let inv = c.rounds.invariant in
    let mid = g.K.Desk.seen c.look_once.new.desk in
    let none = subst (λ (o : Option FileOutcome). LooksOnce (setting whole tells content (g.K.Desk.post (g.K.Desk.home c.rounds.desk)) c.args.worker) f before mid o) (is-none c.in_ok-block.field-0 c.in_default.not-Some) c.in_ok-block.ensures.ok in
    let looked = subst (λ h. LooksOnce (setting whole tells content (g.K.Desk.post h) c.args.worker) f before mid None) inv.home none in
    let so_far = waited-on s f start before mid inv.so_far looked.0 in
    let after = g.K.Desk.seen c.run_next.new.desk in
    let home_mid = c.look_once.ensures.home ∙ inv.home in
    let error = c.in_err-_ran.field-0.0 in
    let failed = subst (λ h. RunFails (setting whole tells content (g.K.Desk.post h) c.args.worker) mid after error) home_mid c.in_err-_ran.ensures.failed in
    exits c.from_residual-in_err-_ran.result error (WaitFails s f start after) c.from_residual-in_err-_ran.ensures.1
    (run-failed s f start mid after error so_far looked.1 failed)

pub returns-in_err-_ran-clause-waiting : goal.returns-in_err-_ran-clause-waiting
returns-in_err-_ran-clause-waiting g c =
    let whole = g.K.Desk.whole in
    let tells = g.D.Ticket.Ticket.tells in
    let content = g.D.Ticket.Ticket.content in
    let home = g.K.Desk.home c.args.desk.now in
    let post = g.K.Desk.post home in
    let start = g.K.Desk.seen c.args.desk.now in
    let s = setting whole tells content post c.args.worker in
    let f = c.args.file in
    let before = g.K.Desk.seen c.rounds.desk in
    let inv = c.rounds.invariant in
    let mid = g.K.Desk.seen c.look_once.new.desk in
    let none = subst (λ (o : Option FileOutcome). LooksOnce (setting whole tells content (g.K.Desk.post (g.K.Desk.home c.rounds.desk)) c.args.worker) f before mid o) (is-none c.in_ok-block.field-0 c.in_default.not-Some) c.in_ok-block.ensures.ok in
    let looked = subst (λ h. LooksOnce (setting whole tells content (g.K.Desk.post h) c.args.worker) f before mid None) inv.home none in
    let so_far = waited-on s f start before mid inv.so_far looked.0 in
    let after = g.K.Desk.seen c.run_next.new.desk in
    let home_mid = c.look_once.ensures.home ∙ inv.home in
    let closed = subst (λ h. open_claim (without_tickets after) (g.K.Desk.post h).actor ≡ None) home_mid c.run_next.ensures.closed in
    let reads = subst (λ h. open_read (without_tickets after) (g.K.Desk.post h).actor ≡ open_read (without_tickets mid) (g.K.Desk.post h).actor) home_mid c.run_next.ensures.reads in
    let saves = subst (λ h. open_save (without_tickets after) (g.K.Desk.post h).actor ≡ open_save (without_tickets mid) (g.K.Desk.post h).actor) home_mid c.run_next.ensures.saves in
    on-exit c.from_residual-in_err-_ran.result (still-waiting s f mid after looked.2 closed reads saves)

pub returns-in_err-_ran-clause-alone : goal.returns-in_err-_ran-clause-alone
returns-in_err-_ran-clause-alone g c whole_is =
    let whole = g.K.Desk.whole in
    let tells = g.D.Ticket.Ticket.tells in
    let content = g.D.Ticket.Ticket.content in
    let home = g.K.Desk.home c.args.desk.now in
    let post = g.K.Desk.post home in
    let start = g.K.Desk.seen c.args.desk.now in
    let s = setting whole tells content post c.args.worker in
    let f = c.args.file in
    let before = g.K.Desk.seen c.rounds.desk in
    let inv = c.rounds.invariant in
    let mid = g.K.Desk.seen c.look_once.new.desk in
    let none = subst (λ (o : Option FileOutcome). LooksOnce (setting whole tells content (g.K.Desk.post (g.K.Desk.home c.rounds.desk)) c.args.worker) f before mid o) (is-none c.in_ok-block.field-0 c.in_default.not-Some) c.in_ok-block.ensures.ok in
    let looked = subst (λ h. LooksOnce (setting whole tells content (g.K.Desk.post h) c.args.worker) f before mid None) inv.home none in
    let so_far = waited-on s f start before mid inv.so_far looked.0 in
    let after = g.K.Desk.seen c.run_next.new.desk in
    let home_mid = c.look_once.ensures.home ∙ inv.home in
    let error = c.in_err-_ran.field-0.0 in
    let failed = subst (λ h. RunFails (setting whole tells content (g.K.Desk.post h) c.args.worker) mid after error) home_mid c.in_err-_ran.ensures.failed in
    let closed = subst (λ h. open_claim (without_tickets after) (g.K.Desk.post h).actor ≡ None) home_mid c.run_next.ensures.closed in
    let reads = subst (λ h. open_read (without_tickets after) (g.K.Desk.post h).actor ≡ open_read (without_tickets mid) (g.K.Desk.post h).actor) home_mid c.run_next.ensures.reads in
    let saves = subst (λ h. open_save (without_tickets after) (g.K.Desk.post h).actor ≡ open_save (without_tickets mid) (g.K.Desk.post h).actor) home_mid c.run_next.ensures.saves in
    fail-rests s mid after error whole_is (wait-rests s f before mid whole_is (inv.alone whole_is) looked.0 looked.2) failed closed

pub rounds-preserved : goal.rounds-preserved
rounds-preserved g c =
    let whole = g.K.Desk.whole in
    let tells = g.D.Ticket.Ticket.tells in
    let content = g.D.Ticket.Ticket.content in
    let home = g.K.Desk.home c.args.desk.now in
    let post = g.K.Desk.post home in
    let start = g.K.Desk.seen c.args.desk.now in
    let s = setting whole tells content post c.args.worker in
    let f = c.args.file in
    let before = g.K.Desk.seen c.rounds.desk in
    let inv = c.rounds.invariant in
    let mid = g.K.Desk.seen c.look_once.new.desk in
    let none = subst (λ (o : Option FileOutcome). LooksOnce (setting whole tells content (g.K.Desk.post (g.K.Desk.home c.rounds.desk)) c.args.worker) f before mid o) (is-none c.in_ok-block.field-0 c.in_default.not-Some) c.in_ok-block.ensures.ok in
    let looked = subst (λ h. LooksOnce (setting whole tells content (g.K.Desk.post h) c.args.worker) f before mid None) inv.home none in
    let so_far = waited-on s f start before mid inv.so_far looked.0 in
    let after = g.K.Desk.seen c.run_next.new.desk in
    let home_mid = c.look_once.ensures.home ∙ inv.home in
    let closed = subst (λ h. open_claim (without_tickets after) (g.K.Desk.post h).actor ≡ None) home_mid c.run_next.ensures.closed in
    let reads = subst (λ h. open_read (without_tickets after) (g.K.Desk.post h).actor ≡ open_read (without_tickets mid) (g.K.Desk.post h).actor) home_mid c.run_next.ensures.reads in
    let saves = subst (λ h. open_save (without_tickets after) (g.K.Desk.post h).actor ≡ open_save (without_tickets mid) (g.K.Desk.post h).actor) home_mid c.run_next.ensures.saves in
    let end = c.in_ok-_ran._ran in
    let ran = subst (λ h. RunsNext (setting whole tells content (g.K.Desk.post h) c.args.worker) mid after end) home_mid c.in_ok-_ran.ensures.ok in
    let lawful = subst (λ h. is_lawful (g.K.Desk.post h).header mid ≡ true) home_mid c.stands-in-rounds.ensures.lawful in
    record {
      so_far = waited-round s f start mid after end so_far looked.1 ran;
      waiting = still-waiting s f mid after looked.2 closed reads saves;
      alone = λ whole_is. next-rests s mid after end whole_is (wait-rests s f before mid whole_is (inv.alone whole_is) looked.0 looked.2) ran closed;
      fewer = λ whole_is.
          let same : mid ≡ before = subst (λ (o : Option FileOutcome). FindsNothing before mid o) (is-none c.in_ok-block.field-0 c.in_default.not-Some) (c.in_ok-block.ensures.alone whole_is) in
          let less : task_count after < task_count mid = fewer-tasks s f mid after end lawful (wait-rests s f before mid whole_is (inv.alone whole_is) looked.0 looked.2) looked.2 looked.1 ran (c.in_ok-_ran.ensures.alone whole_is) in
          let kept : task_count mid ≡ task_count before = ap task_count same in
          let so : c.rounds.rounds + task_count before ≤ task_count start = inv.fewer whole_is in
          omega arith;
      never_falls = omega arith;
      home = c.run_next.ensures.home ∙ home_mid;
    }

pub unreachable-requires : goal.unreachable-requires
unreachable-requires g c =
    let whole = g.K.Desk.whole in
    let tells = g.D.Ticket.Ticket.tells in
    let content = g.D.Ticket.Ticket.content in
    let home = g.K.Desk.home c.args.desk.now in
    let post = g.K.Desk.post home in
    let start = g.K.Desk.seen c.args.desk.now in
    let s = setting whole tells content post c.args.worker in
    let f = c.args.file in
    let few : c.rounds.rounds < 2 ^ 64 - 1 = few-rounds post.header start c.rounds.rounds (task_count (g.K.Desk.seen c.rounds.desk)) c.stands.ensures.lawful (c.rounds.invariant.fewer c.rest.ensures.whole) in
    omega (arith, few, c.rounds-test.false)
