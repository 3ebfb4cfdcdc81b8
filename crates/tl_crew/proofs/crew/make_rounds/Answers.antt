use Rattle.std.proofs.Common.{◌≡◌, true, refl, ap, ◌∙◌, subst, arith}
use Rattle.tl_model.specs.Actors.{is_idle}
use Rattle.tl_model.specs.Past.{without_tickets}
use Rattle.tl_work.specs.Setting.{setting}
use Rattle.tl_crew.specs.Rounds.{Cuts, IsRound, NoCount, Round}
use Rattle.tl_crew.proofs.Steps.{for-post}
use Rattle.tl_crew.proofs.Rounding.{rounds-ended, rounds-fail, rounds-none, rounds-one}
use Rattle.tl_crew.proofs.crew.make_rounds.Goals as goal

pub rounds-init : goal.rounds-init
rounds-init g c =
    let post = g.K.Desk.post (g.K.Desk.home c.args.desk.now) in
    let s = setting g.K.Desk.whole g.D.Ticket.Ticket.tells g.D.Ticket.Ticket.content post c.args.worker in
    record {
      so_far = rounds-none s (g.H.Stop.noes c.args.stop.now) (g.K.Desk.seen c.args.desk.now);
      idle = c.requires.idle;
      told = c.requires.told;
      home = refl;
      never_falls = omega arith;
    }

pub returns-in-Err-clause-rounds : goal.returns-in-Err-clause-rounds
returns-in-Err-clause-rounds g c =
    let whole = g.K.Desk.whole in
    let tells = g.D.Ticket.Ticket.tells in
    let content = g.D.Ticket.Ticket.content in
    let post = g.K.Desk.post (g.K.Desk.home c.args.desk.now) in
    let post' = g.K.Desk.post (g.K.Desk.home c.rounds.desk) in
    let seen = g.K.Desk.seen c.args.desk.now in
    let mid = g.K.Desk.seen c.rounds.desk in
    let after = g.K.Desk.seen c.round.new.desk in
    let s = setting whole tells content post c.args.worker in
    let noes = g.H.Stop.noes c.args.stop.now in
    let now = g.H.Stop.noes c.rounds.stop in
    let now' = g.H.Stop.noes c.asked.new.self in
    let count : NoCount = record { before = noes; now = now' } in
    let one = (c.asked.ensures.no c.if-asked.false).1 in
    let cut = for-post whole tells content post post' c.args.worker (λ t. Cuts t mid after c.in-Err.error) (ap g.K.Desk.post c.rounds.invariant.home) c.in-Err.ensures.failed in
    rounds-ended s count seen after c.in-Err.error c.ended_by.result c.ended_by.ensures
    (rounds-fail s noes now now' seen mid after c.in-Err.error one c.rounds.invariant.so_far cut)

pub rounds-preserved : goal.rounds-preserved
rounds-preserved g c =
    let whole = g.K.Desk.whole in
    let tells = g.D.Ticket.Ticket.tells in
    let content = g.D.Ticket.Ticket.content in
    let post = g.K.Desk.post (g.K.Desk.home c.args.desk.now) in
    let post' = g.K.Desk.post (g.K.Desk.home c.rounds.desk) in
    let seen = g.K.Desk.seen c.args.desk.now in
    let mid = g.K.Desk.seen c.rounds.desk in
    let after = g.K.Desk.seen c.round.new.desk in
    let s = setting whole tells content post c.args.worker in
    let noes = g.H.Stop.noes c.args.stop.now in
    let now = g.H.Stop.noes c.rounds.stop in
    let now' = g.H.Stop.noes c.asked.new.self in
    let no = c.asked.ensures.no c.if-asked.false in
    let same = ap g.K.Desk.post c.rounds.invariant.home in
    let made = for-post whole tells content post post' c.args.worker (λ t. (round : Round) × IsRound t round mid after) same c.in_default.ensures.ok in
    record {
      so_far = rounds-one s noes now now' made.0 seen mid after no.1 c.rounds.invariant.so_far made.1;
      idle = subst (λ p. is_idle (without_tickets after) p.actor ≡ true) same c.round.ensures.idle;
      told = no.0 ∙ c.rounds.invariant.told;
      home = c.round.ensures.home ∙ c.rounds.invariant.home;
      never_falls = omega (arith, c.round.ensures.never_falls, c.rounds.invariant.never_falls);
    }
