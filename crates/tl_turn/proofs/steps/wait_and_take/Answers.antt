use Rattle.std.proofs.Common.{Some, arith, refl, ap, ◌∙◌}
use Rattle.tl_turn.proofs.Keeps.{draws, looks}
use Rattle.tl_turn.proofs.Turns.{away_of, waits_first, waits_on, has_come, has_out, found_state, has_taken}
use Rattle.tl_turn.proofs.steps.wait_and_take.Goals as goal

pub fetch_add-ticket-requires : goal.fetch_add-ticket-requires
fetch_add-ticket-requires g c = (c.requires.table.0, omega arith, draws g.S.Told.maker g.S.Told.log _ _ _ (away_of _ c.requires.away.0))

pub loop-init : goal.loop-init
loop-init g c =
    let drawn = c.fetch_add-ticket.ensures in
    record { table = drawn.0; waiting = waits_first g.S.Told.maker g.S.Told.log c.args.pass.now.me.0 _ c.args.pass.now.me _ refl c.requires.away.1 drawn.2 }

pub load-serving-requires : goal.load-serving-requires
load-serving-requires g c =
    let waiting = c.loop.invariant.waiting in
    (c.loop.invariant.table ∙ c.requires.table.0, omega arith, looks g.S.Told.maker g.S.Told.log _ _ _ waiting.0 (ap (λ m. m.0.role) waiting.1))

pub loop-preserved : goal.loop-preserved
loop-preserved g c =
    let looked = c.load-serving.ensures in
    record { table = looked.0 ∙ c.loop.invariant.table; waiting = waits_on g.S.Told.maker g.S.Told.log c.args.pass.now.me.0 _ _ c.loop.pass.me _ c.loop.invariant.waiting looked.2 c.if-serving-ticket.false }

pub exchange-requires : goal.exchange-requires
exchange-requires g c =
    let looked = c.load-serving.ensures in
    let come = has_come g.S.Told.maker g.S.Told.log c.args.pass.now.me.0 _ _ c.loop.pass.me _ c.loop.invariant.waiting looked.2 c.if-serving-ticket.true in
    (looked.0 ∙ c.loop.invariant.table ∙ c.requires.table.0, (Some come.0, has_out _ _ (ap (λ m. m.1) come.2)))

pub unwrap-requires : goal.unwrap-requires
unwrap-requires g c =
    let come = has_come g.S.Told.maker g.S.Told.log c.args.pass.now.me.0 _ _ c.loop.pass.me _ c.loop.invariant.waiting c.load-serving.ensures.2 c.if-serving-ticket.true in
    rw (found_state g.S.Told.maker g.S.Told.log c.args.pass.now.me.0 c.load-serving.new.seat.me c.exchange.result come c.exchange.ensures.2) refl

pub returns-then-serving-ticket : goal.returns-then-serving-ticket
returns-then-serving-ticket g c =
    let come = has_come g.S.Told.maker g.S.Told.log c.args.pass.now.me.0 _ _ c.loop.pass.me _ c.loop.invariant.waiting c.load-serving.ensures.2 c.if-serving-ticket.true in
    let taken = has_taken g.S.Told.maker g.S.Told.log c.args.pass.now.me.0 c.load-serving.new.seat.me _ c.exchange.result _ come c.exchange.ensures.2 c.exchange.ensures.3 c.unwrap.ensures in
    record { table = c.exchange.ensures.0 ∙ c.load-serving.ensures.0 ∙ c.loop.invariant.table; turn = taken.0; seen = taken.1; mine = taken.2; room = taken.3 }
