use Rattle.std.proofs.Common.{◌≡◌, true, Option, sym, subst}
use Rattle.tl_types.specs.Block.{FileOutcome}
use Rattle.tl_model.specs.declared.event.Act.TheVariants.{Shut}
use Rattle.tl_model.specs.Past.{events_with}
use Rattle.tl_model.specs.Rules.{is_lawful, is_legal}
use Rattle.tl_desk.specs.Finds.{Turns, is_any}
use Rattle.tl_desk.specs.Turns.{IsReading, with_act}
use Rattle.tl_work.specs.Setting.{setting}
use Rattle.tl_work.proofs.RunningNext.{seen-quiet}
use Rattle.tl_clients.specs.Waits.{LooksOnce}
use Rattle.tl_clients.proofs.Serving.{look-rests, wait-rests}
use Rattle.tl_clients.proofs.Shutting.{shut-after, shut-rests, tries-none, try-fails}
use Rattle.tl_clients.proofs.waiting.try_for.Goals as goal

pub shut-requires-clause-reading : goal.shut-requires-clause-reading
shut-requires-clause-reading g c =
    let whole = g.K.Desk.whole in
    let tells = g.D.Ticket.Ticket.tells in
    let content = g.D.Ticket.Ticket.content in
    let home = g.K.Desk.home c.args.desk.now in
    let post = g.K.Desk.post home in
    let before = g.K.Desk.seen c.args.desk.now in
    let s = setting whole tells content post c.args.worker in
    let f = c.args.file in
    let mid = g.K.Desk.seen c.look_once.new.desk in
    let looked = subst (λ (o : Option FileOutcome). LooksOnce s f before mid o) c.in-Ok-None.field-0-is c.in-Ok-None.ensures.ok in
    let waiting = looked.2 in
    (f, subst (λ h. IsReading mid (g.K.Desk.post h).actor f) (sym c.look_once.ensures.home) waiting.reading)

pub shut-requires-in-Err-clause-reading : goal.shut-requires-in-Err-clause-reading
shut-requires-in-Err-clause-reading g c =
    let whole = g.K.Desk.whole in
    let tells = g.D.Ticket.Ticket.tells in
    let content = g.D.Ticket.Ticket.content in
    let home = g.K.Desk.home c.args.desk.now in
    let post = g.K.Desk.post home in
    let before = g.K.Desk.seen c.args.desk.now in
    let s = setting whole tells content post c.args.worker in
    let f = c.args.file in
    let mid = g.K.Desk.seen c.look_once.new.desk in
    let failed = c.in-Err.ensures.failed in
    let waiting = failed.waiting in
    (f, subst (λ h. IsReading mid (g.K.Desk.post h).actor f) (sym c.look_once.ensures.home) waiting.reading)

pub returns-in-Ok-Some-clause-alone : goal.returns-in-Ok-Some-clause-alone
returns-in-Ok-Some-clause-alone g c whole_is =
    let whole = g.K.Desk.whole in
    let tells = g.D.Ticket.Ticket.tells in
    let content = g.D.Ticket.Ticket.content in
    let home = g.K.Desk.home c.args.desk.now in
    let post = g.K.Desk.post home in
    let before = g.K.Desk.seen c.args.desk.now in
    let s = setting whole tells content post c.args.worker in
    let f = c.args.file in
    let mid = g.K.Desk.seen c.look_once.new.desk in
    let looked = subst (λ (o : Option FileOutcome). LooksOnce s f before mid o) c.in-Ok-Some.field-0-is c.in-Ok-Some.ensures.ok in
    look-rests s f before mid c.in-Ok-Some.block whole_is (c.requires.alone whole_is) looked

pub returns-in-Ok-None-clause-ok : goal.returns-in-Ok-None-clause-ok
returns-in-Ok-None-clause-ok g c =
    let whole = g.K.Desk.whole in
    let tells = g.D.Ticket.Ticket.tells in
    let content = g.D.Ticket.Ticket.content in
    let home = g.K.Desk.home c.args.desk.now in
    let post = g.K.Desk.post home in
    let before = g.K.Desk.seen c.args.desk.now in
    let s = setting whole tells content post c.args.worker in
    let f = c.args.file in
    let mid = g.K.Desk.seen c.look_once.new.desk in
    let looked = subst (λ (o : Option FileOutcome). LooksOnce s f before mid o) c.in-Ok-None.field-0-is c.in-Ok-None.ensures.ok in
    let waiting = looked.2 in
    let after = g.K.Desk.seen c.shut.new.self in
    let turn = subst (λ h. Turns whole (g.K.Desk.post h).actor mid after is_any (with_act (g.K.Desk.post h).actor (Shut f))) c.look_once.ensures.home
    (c.shut.ensures.shut f (subst (λ h. IsReading mid (g.K.Desk.post h).actor f) (sym c.look_once.ensures.home) waiting.reading)) in
    let shut = shut-after s f mid after waiting turn in
    let lawful = subst (λ h. is_lawful (g.K.Desk.post h).header mid ≡ true) c.look_once.ensures.home c.stands.ensures.lawful in
    let legal = subst (λ h. tells ≡ true → is_legal (g.K.Desk.post h).header (events_with content mid) ≡ true) c.look_once.ensures.home c.stands.ensures.legal in
    tries-none s f before mid after (seen-quiet s mid lawful legal) looked shut

pub returns-in-Ok-None-clause-alone : goal.returns-in-Ok-None-clause-alone
returns-in-Ok-None-clause-alone g c whole_is =
    let whole = g.K.Desk.whole in
    let tells = g.D.Ticket.Ticket.tells in
    let content = g.D.Ticket.Ticket.content in
    let home = g.K.Desk.home c.args.desk.now in
    let post = g.K.Desk.post home in
    let before = g.K.Desk.seen c.args.desk.now in
    let s = setting whole tells content post c.args.worker in
    let f = c.args.file in
    let mid = g.K.Desk.seen c.look_once.new.desk in
    let looked = subst (λ (o : Option FileOutcome). LooksOnce s f before mid o) c.in-Ok-None.field-0-is c.in-Ok-None.ensures.ok in
    let waiting = looked.2 in
    let after = g.K.Desk.seen c.shut.new.self in
    let turn = subst (λ h. Turns whole (g.K.Desk.post h).actor mid after is_any (with_act (g.K.Desk.post h).actor (Shut f))) c.look_once.ensures.home
    (c.shut.ensures.shut f (subst (λ h. IsReading mid (g.K.Desk.post h).actor f) (sym c.look_once.ensures.home) waiting.reading)) in
    let shut = shut-after s f mid after waiting turn in
    shut-rests s f mid after whole_is (wait-rests s f before mid whole_is (c.requires.alone whole_is) looked.0 waiting) waiting shut

pub returns-in-Err-clause-failed : goal.returns-in-Err-clause-failed
returns-in-Err-clause-failed g c =
    let whole = g.K.Desk.whole in
    let tells = g.D.Ticket.Ticket.tells in
    let content = g.D.Ticket.Ticket.content in
    let home = g.K.Desk.home c.args.desk.now in
    let post = g.K.Desk.post home in
    let before = g.K.Desk.seen c.args.desk.now in
    let s = setting whole tells content post c.args.worker in
    let f = c.args.file in
    let mid = g.K.Desk.seen c.look_once.new.desk in
    let failed = c.in-Err.ensures.failed in
    let waiting = failed.waiting in
    let after = g.K.Desk.seen c.shut-in-Err.new.self in
    let turn = subst (λ h. Turns whole (g.K.Desk.post h).actor mid after is_any (with_act (g.K.Desk.post h).actor (Shut f))) c.look_once.ensures.home
    (c.shut-in-Err.ensures.shut f (subst (λ h. IsReading mid (g.K.Desk.post h).actor f) (sym c.look_once.ensures.home) waiting.reading)) in
    let shut = shut-after s f mid after waiting turn in
    try-fails s f before mid after c.in-Err.error failed shut

pub returns-in-Err-clause-alone : goal.returns-in-Err-clause-alone
returns-in-Err-clause-alone g c whole_is =
    let whole = g.K.Desk.whole in
    let tells = g.D.Ticket.Ticket.tells in
    let content = g.D.Ticket.Ticket.content in
    let home = g.K.Desk.home c.args.desk.now in
    let post = g.K.Desk.post home in
    let before = g.K.Desk.seen c.args.desk.now in
    let s = setting whole tells content post c.args.worker in
    let f = c.args.file in
    let mid = g.K.Desk.seen c.look_once.new.desk in
    let failed = c.in-Err.ensures.failed in
    let waiting = failed.waiting in
    let after = g.K.Desk.seen c.shut-in-Err.new.self in
    let turn = subst (λ h. Turns whole (g.K.Desk.post h).actor mid after is_any (with_act (g.K.Desk.post h).actor (Shut f))) c.look_once.ensures.home
    (c.shut-in-Err.ensures.shut f (subst (λ h. IsReading mid (g.K.Desk.post h).actor f) (sym c.look_once.ensures.home) waiting.reading)) in
    let shut = shut-after s f mid after waiting turn in
    shut-rests s f mid after whole_is (wait-rests s f before mid whole_is (c.requires.alone whole_is) failed.came waiting) waiting shut
