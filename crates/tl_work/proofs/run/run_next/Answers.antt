use Rattle.std.proofs.Common.{◌≡◌, ◌++◌, true, [], refl, ap, ◌∙◌, subst}
use Rattle.tl_model.specs.Rules.{is_lawful}
use Rattle.tl_work.specs.declared.error.WorkError.TheVariants.{NoMemory}
use Rattle.tl_pieces.specs.Faults.{IsDamage}
use Rattle.tl_work.specs.Loads.{WhereDamaged}
use Rattle.tl_work.specs.Runs.{DoneAlone, EndsWork, GivesBackWork, RunFails, end_of, is_input}
use Rattle.tl_work.specs.Setting.{setting}
use Rattle.tl_work.proofs.Among.{exits}
use Rattle.tl_work.proofs.Finding.{found-adds}
use Rattle.tl_work.proofs.Open.{reads-left, saves-left}
use Rattle.tl_work.proofs.RunningNext.{fails, for-worker, gives-up, leaves-fewer, none-next, run-reads, run-saves, runs-from, seen-quiet, some-work, still-closed, taken-here}
use Rattle.tl_work.proofs.run.run_next.Goals as goal

pub returns-in_err-work-clause-failed : goal.returns-in_err-work-clause-failed
returns-in_err-work-clause-failed g c =
    let whole = g.K.Desk.whole in
    let tells = g.D.Ticket.Ticket.tells in
    let content = g.D.Ticket.Ticket.content in
    let post = g.K.Desk.post (g.K.Desk.home c.args.desk.now) in
    let seen = g.K.Desk.seen c.args.desk.now in
    let mid = g.K.Desk.seen c.claim.new.self in
    let s = setting whole tells content post c.args.worker in
    let finds = c.in_err-work.ensures.err.finds in
    exits c.from_residual.result NoMemory (RunFails s seen mid) c.from_residual.ensures.1 ([], found-adds s seen mid finds)

pub returns-in_err-work-clause-closed : goal.returns-in_err-work-clause-closed
returns-in_err-work-clause-closed g c =
    let whole = g.K.Desk.whole in
    let tells = g.D.Ticket.Ticket.tells in
    let content = g.D.Ticket.Ticket.content in
    let post = g.K.Desk.post (g.K.Desk.home c.args.desk.now) in
    let seen = g.K.Desk.seen c.args.desk.now in
    let mid = g.K.Desk.seen c.claim.new.self in
    let s = setting whole tells content post c.args.worker in
    let finds = c.in_err-work.ensures.err.finds in
    still-closed s seen mid c.requires.idle finds

pub returns-in_err-work-clause-reads : goal.returns-in_err-work-clause-reads
returns-in_err-work-clause-reads g c =
    let whole = g.K.Desk.whole in
    let tells = g.D.Ticket.Ticket.tells in
    let content = g.D.Ticket.Ticket.content in
    let post = g.K.Desk.post (g.K.Desk.home c.args.desk.now) in
    let seen = g.K.Desk.seen c.args.desk.now in
    let mid = g.K.Desk.seen c.claim.new.self in
    let s = setting whole tells content post c.args.worker in
    let finds = c.in_err-work.ensures.err.finds in
    reads-left s [] seen mid refl (found-adds s seen mid finds)

pub returns-in_err-work-clause-saves : goal.returns-in_err-work-clause-saves
returns-in_err-work-clause-saves g c =
    let whole = g.K.Desk.whole in
    let tells = g.D.Ticket.Ticket.tells in
    let content = g.D.Ticket.Ticket.content in
    let post = g.K.Desk.post (g.K.Desk.home c.args.desk.now) in
    let seen = g.K.Desk.seen c.args.desk.now in
    let mid = g.K.Desk.seen c.claim.new.self in
    let s = setting whole tells content post c.args.worker in
    let finds = c.in_err-work.ensures.err.finds in
    saves-left s [] seen mid refl (found-adds s seen mid finds)

pub returns-in_default-clause-ok : goal.returns-in_default-clause-ok
returns-in_default-clause-ok g c =
    let whole = g.K.Desk.whole in
    let tells = g.D.Ticket.Ticket.tells in
    let content = g.D.Ticket.Ticket.content in
    let post = g.K.Desk.post (g.K.Desk.home c.args.desk.now) in
    let seen = g.K.Desk.seen c.args.desk.now in
    let mid = g.K.Desk.seen c.claim.new.self in
    let s = setting whole tells content post c.args.worker in
    let none = none-next whole tells content post c.args.worker seen mid c.in_ok-work.field-0 c.in_default.is c.in_ok-work.ensures.ok in
    (found-adds s seen mid none.0, none.1)

pub returns-in_default-clause-closed : goal.returns-in_default-clause-closed
returns-in_default-clause-closed g c =
    let whole = g.K.Desk.whole in
    let tells = g.D.Ticket.Ticket.tells in
    let content = g.D.Ticket.Ticket.content in
    let post = g.K.Desk.post (g.K.Desk.home c.args.desk.now) in
    let seen = g.K.Desk.seen c.args.desk.now in
    let mid = g.K.Desk.seen c.claim.new.self in
    let s = setting whole tells content post c.args.worker in
    let none = none-next whole tells content post c.args.worker seen mid c.in_ok-work.field-0 c.in_default.is c.in_ok-work.ensures.ok in
    still-closed s seen mid c.requires.idle none.0

pub returns-in_default-clause-reads : goal.returns-in_default-clause-reads
returns-in_default-clause-reads g c =
    let whole = g.K.Desk.whole in
    let tells = g.D.Ticket.Ticket.tells in
    let content = g.D.Ticket.Ticket.content in
    let post = g.K.Desk.post (g.K.Desk.home c.args.desk.now) in
    let seen = g.K.Desk.seen c.args.desk.now in
    let mid = g.K.Desk.seen c.claim.new.self in
    let s = setting whole tells content post c.args.worker in
    let none = none-next whole tells content post c.args.worker seen mid c.in_ok-work.field-0 c.in_default.is c.in_ok-work.ensures.ok in
    reads-left s [] seen mid refl (found-adds s seen mid none.0)

pub returns-in_default-clause-saves : goal.returns-in_default-clause-saves
returns-in_default-clause-saves g c =
    let whole = g.K.Desk.whole in
    let tells = g.D.Ticket.Ticket.tells in
    let content = g.D.Ticket.Ticket.content in
    let post = g.K.Desk.post (g.K.Desk.home c.args.desk.now) in
    let seen = g.K.Desk.seen c.args.desk.now in
    let mid = g.K.Desk.seen c.claim.new.self in
    let s = setting whole tells content post c.args.worker in
    let none = none-next whole tells content post c.args.worker seen mid c.in_ok-work.field-0 c.in_default.is c.in_ok-work.ensures.ok in
    saves-left s [] seen mid refl (found-adds s seen mid none.0)

pub run_taken-ran-requires-clause-taken : goal.run_taken-ran-requires-clause-taken
run_taken-ran-requires-clause-taken g c =
    let whole = g.K.Desk.whole in
    let tells = g.D.Ticket.Ticket.tells in
    let content = g.D.Ticket.Ticket.content in
    let post = g.K.Desk.post (g.K.Desk.home c.args.desk.now) in
    let seen = g.K.Desk.seen c.args.desk.now in
    let mid = g.K.Desk.seen c.claim.new.self in
    let s = setting whole tells content post c.args.worker in
    let work = c.in-Some.work in
    let claimed = some-work whole tells content post c.args.worker seen mid c.in_ok-work.field-0 work c.in-Some.is c.in_ok-work.ensures.ok in
    taken-here whole tells content post (g.K.Desk.post (g.K.Desk.home c.claim.new.self)) c.args.worker seen mid work (ap g.K.Desk.post c.claim.ensures.home) claimed

pub returns-in_err-ran-clause-failed : goal.returns-in_err-ran-clause-failed
returns-in_err-ran-clause-failed g c =
    let whole = g.K.Desk.whole in
    let tells = g.D.Ticket.Ticket.tells in
    let content = g.D.Ticket.Ticket.content in
    let post = g.K.Desk.post (g.K.Desk.home c.args.desk.now) in
    let seen = g.K.Desk.seen c.args.desk.now in
    let mid = g.K.Desk.seen c.claim.new.self in
    let s = setting whole tells content post c.args.worker in
    let after = g.K.Desk.seen c.run_taken-ran.new.desk in
    let work = c.in-Some.work in
    let same = ap g.K.Desk.post c.claim.ensures.home in
    let post' = g.K.Desk.post (g.K.Desk.home c.claim.new.self) in
    let claimed = some-work whole tells content post c.args.worker seen mid c.in_ok-work.field-0 work c.in-Some.is c.in_ok-work.ensures.ok in
    let quiet = seen-quiet s seen c.stands.ensures.lawful c.stands.ensures.legal in
    let back = for-worker whole tells content post post' c.args.worker seen mid work (λ t. GivesBackWork t work mid after) same claimed c.in_err-ran.ensures.back in
    let gave = gives-up whole tells content post c.args.worker seen mid after work quiet claimed back in
    let harmed = for-worker whole tells content post post' c.args.worker seen mid work (λ t. WhereDamaged (IsDamage t (is_input work.rec) after) c.in_err-ran.field-0.0) same claimed c.in_err-ran.ensures.damaged in
    exits c.from_residual-in_err-ran.result c.in_err-ran.field-0.0 (RunFails s seen after) c.from_residual-in_err-ran.ensures.1 (fails s seen after c.in_err-ran.field-0.0 gave harmed)

pub returns-in_err-ran-clause-reads : goal.returns-in_err-ran-clause-reads
returns-in_err-ran-clause-reads g c =
    let whole = g.K.Desk.whole in
    let tells = g.D.Ticket.Ticket.tells in
    let content = g.D.Ticket.Ticket.content in
    let post = g.K.Desk.post (g.K.Desk.home c.args.desk.now) in
    let seen = g.K.Desk.seen c.args.desk.now in
    let mid = g.K.Desk.seen c.claim.new.self in
    let s = setting whole tells content post c.args.worker in
    let after = g.K.Desk.seen c.run_taken-ran.new.desk in
    let work = c.in-Some.work in
    let same = ap g.K.Desk.post c.claim.ensures.home in
    let post' = g.K.Desk.post (g.K.Desk.home c.claim.new.self) in
    let claimed = some-work whole tells content post c.args.worker seen mid c.in_ok-work.field-0 work c.in-Some.is c.in_ok-work.ensures.ok in
    let quiet = seen-quiet s seen c.stands.ensures.lawful c.stands.ensures.legal in
    let back = for-worker whole tells content post post' c.args.worker seen mid work (λ t. GivesBackWork t work mid after) same claimed c.in_err-ran.ensures.back in
    let gave = gives-up whole tells content post c.args.worker seen mid after work quiet claimed back in
    run-reads s gave.0 seen after gave.2

pub returns-in_err-ran-clause-saves : goal.returns-in_err-ran-clause-saves
returns-in_err-ran-clause-saves g c =
    let whole = g.K.Desk.whole in
    let tells = g.D.Ticket.Ticket.tells in
    let content = g.D.Ticket.Ticket.content in
    let post = g.K.Desk.post (g.K.Desk.home c.args.desk.now) in
    let seen = g.K.Desk.seen c.args.desk.now in
    let mid = g.K.Desk.seen c.claim.new.self in
    let s = setting whole tells content post c.args.worker in
    let after = g.K.Desk.seen c.run_taken-ran.new.desk in
    let work = c.in-Some.work in
    let same = ap g.K.Desk.post c.claim.ensures.home in
    let post' = g.K.Desk.post (g.K.Desk.home c.claim.new.self) in
    let claimed = some-work whole tells content post c.args.worker seen mid c.in_ok-work.field-0 work c.in-Some.is c.in_ok-work.ensures.ok in
    let quiet = seen-quiet s seen c.stands.ensures.lawful c.stands.ensures.legal in
    let back = for-worker whole tells content post post' c.args.worker seen mid work (λ t. GivesBackWork t work mid after) same claimed c.in_err-ran.ensures.back in
    let gave = gives-up whole tells content post c.args.worker seen mid after work quiet claimed back in
    run-saves s gave.0 seen after gave.2

pub returns-clause-ok : goal.returns-clause-ok
returns-clause-ok g c =
    let whole = g.K.Desk.whole in
    let tells = g.D.Ticket.Ticket.tells in
    let content = g.D.Ticket.Ticket.content in
    let post = g.K.Desk.post (g.K.Desk.home c.args.desk.now) in
    let seen = g.K.Desk.seen c.args.desk.now in
    let mid = g.K.Desk.seen c.claim.new.self in
    let s = setting whole tells content post c.args.worker in
    let after = g.K.Desk.seen c.run_taken-ran.new.desk in
    let work = c.in-Some.work in
    let same = ap g.K.Desk.post c.claim.ensures.home in
    let post' = g.K.Desk.post (g.K.Desk.home c.claim.new.self) in
    let claimed = some-work whole tells content post c.args.worker seen mid c.in_ok-work.field-0 work c.in-Some.is c.in_ok-work.ensures.ok in
    let quiet = seen-quiet s seen c.stands.ensures.lawful c.stands.ensures.legal in
    let ended = for-worker whole tells content post post' c.args.worker seen mid work (λ t. EndsWork t work (end_of c.in_ok-ran.field-0) mid after) same claimed c.in_ok-ran.ensures.ok in
    let runs = runs-from whole tells content post c.args.worker seen mid after work (end_of c.in_ok-ran.field-0) quiet claimed ended in
    (work.rec, runs)

pub returns-clause-reads : goal.returns-clause-reads
returns-clause-reads g c =
    let whole = g.K.Desk.whole in
    let tells = g.D.Ticket.Ticket.tells in
    let content = g.D.Ticket.Ticket.content in
    let post = g.K.Desk.post (g.K.Desk.home c.args.desk.now) in
    let seen = g.K.Desk.seen c.args.desk.now in
    let mid = g.K.Desk.seen c.claim.new.self in
    let s = setting whole tells content post c.args.worker in
    let after = g.K.Desk.seen c.run_taken-ran.new.desk in
    let work = c.in-Some.work in
    let same = ap g.K.Desk.post c.claim.ensures.home in
    let post' = g.K.Desk.post (g.K.Desk.home c.claim.new.self) in
    let claimed = some-work whole tells content post c.args.worker seen mid c.in_ok-work.field-0 work c.in-Some.is c.in_ok-work.ensures.ok in
    let quiet = seen-quiet s seen c.stands.ensures.lawful c.stands.ensures.legal in
    let ended = for-worker whole tells content post post' c.args.worker seen mid work (λ t. EndsWork t work (end_of c.in_ok-ran.field-0) mid after) same claimed c.in_ok-ran.ensures.ok in
    let runs = runs-from whole tells content post c.args.worker seen mid after work (end_of c.in_ok-ran.field-0) quiet claimed ended in
    run-reads s (record { made = work.rec; end = end_of c.in_ok-ran.field-0 }) seen after runs

pub returns-clause-saves : goal.returns-clause-saves
returns-clause-saves g c =
    let whole = g.K.Desk.whole in
    let tells = g.D.Ticket.Ticket.tells in
    let content = g.D.Ticket.Ticket.content in
    let post = g.K.Desk.post (g.K.Desk.home c.args.desk.now) in
    let seen = g.K.Desk.seen c.args.desk.now in
    let mid = g.K.Desk.seen c.claim.new.self in
    let s = setting whole tells content post c.args.worker in
    let after = g.K.Desk.seen c.run_taken-ran.new.desk in
    let work = c.in-Some.work in
    let same = ap g.K.Desk.post c.claim.ensures.home in
    let post' = g.K.Desk.post (g.K.Desk.home c.claim.new.self) in
    let claimed = some-work whole tells content post c.args.worker seen mid c.in_ok-work.field-0 work c.in-Some.is c.in_ok-work.ensures.ok in
    let quiet = seen-quiet s seen c.stands.ensures.lawful c.stands.ensures.legal in
    let ended = for-worker whole tells content post post' c.args.worker seen mid work (λ t. EndsWork t work (end_of c.in_ok-ran.field-0) mid after) same claimed c.in_ok-ran.ensures.ok in
    let runs = runs-from whole tells content post c.args.worker seen mid after work (end_of c.in_ok-ran.field-0) quiet claimed ended in
    run-saves s (record { made = work.rec; end = end_of c.in_ok-ran.field-0 }) seen after runs

pub returns-clause-alone : goal.returns-clause-alone
returns-clause-alone g c whole_is =
    let whole = g.K.Desk.whole in
    let tells = g.D.Ticket.Ticket.tells in
    let content = g.D.Ticket.Ticket.content in
    let post = g.K.Desk.post (g.K.Desk.home c.args.desk.now) in
    let seen = g.K.Desk.seen c.args.desk.now in
    let mid = g.K.Desk.seen c.claim.new.self in
    let s = setting whole tells content post c.args.worker in
    let after = g.K.Desk.seen c.run_taken-ran.new.desk in
    let work = c.in-Some.work in
    let same = ap g.K.Desk.post c.claim.ensures.home in
    let post' = g.K.Desk.post (g.K.Desk.home c.claim.new.self) in
    let claimed = some-work whole tells content post c.args.worker seen mid c.in_ok-work.field-0 work c.in-Some.is c.in_ok-work.ensures.ok in
    let done = for-worker whole tells content post post' c.args.worker seen mid work (λ t. DoneAlone t work mid after c.in_ok-ran.field-0) same claimed (c.in_ok-ran.ensures.alone whole_is) in
    let lawful = subst (λ h. is_lawful (g.K.Desk.post h).header after ≡ true) (c.run_taken-ran.ensures.home ∙ c.claim.ensures.home) c.stands-2.ensures.lawful in
    leaves-fewer whole tells content post c.args.worker seen mid after work c.in_ok-ran.field-0 whole_is lawful claimed done

pub returns-in_default-clause-alone : goal.returns-in_default-clause-alone
returns-in_default-clause-alone g c whole_is =
    let whole = g.K.Desk.whole in
    let tells = g.D.Ticket.Ticket.tells in
    let content = g.D.Ticket.Ticket.content in
    let post = g.K.Desk.post (g.K.Desk.home c.args.desk.now) in
    let seen = g.K.Desk.seen c.args.desk.now in
    let mid = g.K.Desk.seen c.claim.new.self in
    let none = none-next whole tells content post c.args.worker seen mid c.in_ok-work.field-0 c.in_default.is c.in_ok-work.ensures.ok in
    none.0.came ∙ ap (λ es. es ++ seen) (none.0.alone whole_is)
