use Rattle.std.proofs.Common.{[]}
use Rattle.tl_pieces.specs.Counts.{GivenUp, Kept}
use Rattle.tl_work.specs.declared.error.WorkError.TheVariants.{NoMemory}
use Rattle.tl_work.specs.Saves.{SaveFails}
use Rattle.tl_work.specs.Setting.{setting}
use Rattle.tl_work.proofs.Among.{exits}
use Rattle.tl_work.proofs.Finding.{found-adds}
use Rattle.tl_pieces.proofs.Others.{rest-stays}
use Rattle.tl_work.proofs.SavingNext.{begun-with, none-begun, save-fails, save-idle, save-open, save-value, saved-next, unsaved-next}
use Rattle.tl_work.proofs.save.save_next.Goals as goal

pub returns-in_err-job-clause-failed : goal.returns-in_err-job-clause-failed
returns-in_err-job-clause-failed g c worker =
    let whole = g.K.Desk.whole in
    let tells = g.D.Ticket.Ticket.tells in
    let content = g.D.Ticket.Ticket.content in
    let post = g.K.Desk.post (g.K.Desk.home c.args.desk.now) in
    let seen = g.K.Desk.seen c.args.desk.now in
    let mid = g.K.Desk.seen c.save_begin.new.self in
    let s = setting whole tells content post worker in
    exits c.from_residual.result NoMemory (SaveFails s seen mid) c.from_residual.ensures.1 ([], found-adds s seen mid c.in_err-job.ensures.err.finds)

pub returns-in_err-job-clause-idle : goal.returns-in_err-job-clause-idle
returns-in_err-job-clause-idle g c =
    let whole = g.K.Desk.whole in
    let tells = g.D.Ticket.Ticket.tells in
    let content = g.D.Ticket.Ticket.content in
    let post = g.K.Desk.post (g.K.Desk.home c.args.desk.now) in
    let seen = g.K.Desk.seen c.args.desk.now in
    let mid = g.K.Desk.seen c.save_begin.new.self in
    let s = setting whole tells content post (record { 0 = 0 }) in
    rest-stays s seen mid (found-adds s seen mid c.in_err-job.ensures.err.finds) c.requires.idle

pub returns-in_default-clause-ok : goal.returns-in_default-clause-ok
returns-in_default-clause-ok g c worker =
    let whole = g.K.Desk.whole in
    let tells = g.D.Ticket.Ticket.tells in
    let content = g.D.Ticket.Ticket.content in
    let post = g.K.Desk.post (g.K.Desk.home c.args.desk.now) in
    let seen = g.K.Desk.seen c.args.desk.now in
    let mid = g.K.Desk.seen c.save_begin.new.self in
    let s = setting whole tells content post worker in
    let none = none-begun whole tells content post seen mid c.in_ok-job.field-0 c.in_default.is c.in_ok-job.ensures.ok in
    (found-adds s seen mid none.0, none.1)

pub returns-in_default-clause-idle : goal.returns-in_default-clause-idle
returns-in_default-clause-idle g c =
    let whole = g.K.Desk.whole in
    let tells = g.D.Ticket.Ticket.tells in
    let content = g.D.Ticket.Ticket.content in
    let post = g.K.Desk.post (g.K.Desk.home c.args.desk.now) in
    let seen = g.K.Desk.seen c.args.desk.now in
    let mid = g.K.Desk.seen c.save_begin.new.self in
    let s = setting whole tells content post (record { 0 = 0 }) in
    let none = none-begun whole tells content post seen mid c.in_ok-job.field-0 c.in_default.is c.in_ok-job.ensures.ok in
    rest-stays s seen mid (found-adds s seen mid none.0) c.requires.idle

pub saved-requires-clause-open : goal.saved-requires-clause-open
saved-requires-clause-open g c =
    let whole = g.K.Desk.whole in
    let tells = g.D.Ticket.Ticket.tells in
    let content = g.D.Ticket.Ticket.content in
    let post = g.K.Desk.post (g.K.Desk.home c.args.desk.now) in
    let seen = g.K.Desk.seen c.args.desk.now in
    let mid = g.K.Desk.seen c.save_begin.new.self in
    let job = c.in-Some.job in
    let begun = begun-with whole tells content post seen mid c.in_ok-job.field-0 job c.in-Some.is c.in_ok-job.ensures.ok in
    save-open whole tells content post seen mid job begun

pub saved-requires-clause-value : goal.saved-requires-clause-value
saved-requires-clause-value g c =
    let whole = g.K.Desk.whole in
    let tells = g.D.Ticket.Ticket.tells in
    let content = g.D.Ticket.Ticket.content in
    let post = g.K.Desk.post (g.K.Desk.home c.args.desk.now) in
    let seen = g.K.Desk.seen c.args.desk.now in
    let mid = g.K.Desk.seen c.save_begin.new.self in
    let job = c.in-Some.job in
    let begun = begun-with whole tells content post seen mid c.in_ok-job.field-0 job c.in-Some.is c.in_ok-job.ensures.ok in
    save-value whole tells content post seen mid job begun

pub unsave-requires-clause-open : goal.unsave-requires-clause-open
unsave-requires-clause-open g c =
    let whole = g.K.Desk.whole in
    let tells = g.D.Ticket.Ticket.tells in
    let content = g.D.Ticket.Ticket.content in
    let post = g.K.Desk.post (g.K.Desk.home c.args.desk.now) in
    let seen = g.K.Desk.seen c.args.desk.now in
    let mid = g.K.Desk.seen c.save_begin.new.self in
    let job = c.in-Some.job in
    let begun = begun-with whole tells content post seen mid c.in_ok-job.field-0 job c.in-Some.is c.in_ok-job.ensures.ok in
    save-open whole tells content post seen mid job begun

pub returns-in-Ok-clause-ok : goal.returns-in-Ok-clause-ok
returns-in-Ok-clause-ok g c worker =
    let whole = g.K.Desk.whole in
    let tells = g.D.Ticket.Ticket.tells in
    let content = g.D.Ticket.Ticket.content in
    let post = g.K.Desk.post (g.K.Desk.home c.args.desk.now) in
    let seen = g.K.Desk.seen c.args.desk.now in
    let mid = g.K.Desk.seen c.save_begin.new.self in
    let job = c.in-Some.job in
    let begun = begun-with whole tells content post seen mid c.in_ok-job.field-0 job c.in-Some.is c.in_ok-job.ensures.ok in
    let after = g.K.Desk.seen c.saved.new.self in
    saved-next whole tells content post worker seen mid after job begun c.saved.ensures.saved

pub returns-in-Ok-clause-idle : goal.returns-in-Ok-clause-idle
returns-in-Ok-clause-idle g c =
    let whole = g.K.Desk.whole in
    let tells = g.D.Ticket.Ticket.tells in
    let content = g.D.Ticket.Ticket.content in
    let post = g.K.Desk.post (g.K.Desk.home c.args.desk.now) in
    let seen = g.K.Desk.seen c.args.desk.now in
    let mid = g.K.Desk.seen c.save_begin.new.self in
    let job = c.in-Some.job in
    let begun = begun-with whole tells content post seen mid c.in_ok-job.field-0 job c.in-Some.is c.in_ok-job.ensures.ok in
    let after = g.K.Desk.seen c.saved.new.self in
    let s = setting whole tells content post (record { 0 = 0 }) in
    let saved = saved-next whole tells content post (record { 0 = 0 }) seen mid after job begun c.saved.ensures.saved in
    save-idle s saved.0 (Kept saved.1) seen after c.requires.idle saved.2

pub returns-in-Err-clause-failed : goal.returns-in-Err-clause-failed
returns-in-Err-clause-failed g c worker =
    let whole = g.K.Desk.whole in
    let tells = g.D.Ticket.Ticket.tells in
    let content = g.D.Ticket.Ticket.content in
    let post = g.K.Desk.post (g.K.Desk.home c.args.desk.now) in
    let seen = g.K.Desk.seen c.args.desk.now in
    let mid = g.K.Desk.seen c.save_begin.new.self in
    let job = c.in-Some.job in
    let begun = begun-with whole tells content post seen mid c.in_ok-job.field-0 job c.in-Some.is c.in_ok-job.ensures.ok in
    let after = g.K.Desk.seen c.unsave.new.self in
    let s = setting whole tells content post worker in
    save-fails s job.block.file seen after c.in-Err.error c.in-Err.ensures.undamaged
    (unsaved-next whole tells content post worker seen mid after job begun c.unsave.ensures.unsaved)

pub returns-in-Err-clause-idle : goal.returns-in-Err-clause-idle
returns-in-Err-clause-idle g c =
    let whole = g.K.Desk.whole in
    let tells = g.D.Ticket.Ticket.tells in
    let content = g.D.Ticket.Ticket.content in
    let post = g.K.Desk.post (g.K.Desk.home c.args.desk.now) in
    let seen = g.K.Desk.seen c.args.desk.now in
    let mid = g.K.Desk.seen c.save_begin.new.self in
    let job = c.in-Some.job in
    let begun = begun-with whole tells content post seen mid c.in_ok-job.field-0 job c.in-Some.is c.in_ok-job.ensures.ok in
    let after = g.K.Desk.seen c.unsave.new.self in
    let s = setting whole tells content post (record { 0 = 0 }) in
    save-idle s job.block.file GivenUp seen after c.requires.idle
    (unsaved-next whole tells content post (record { 0 = 0 }) seen mid after job begun c.unsave.ensures.unsaved)
