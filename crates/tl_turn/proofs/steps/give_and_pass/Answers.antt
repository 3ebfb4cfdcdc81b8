use Rattle.std.proofs.Common.{arith, ◌-◌, ap, ◌∙◌}
use Rattle.atomic_table.specs.Table.{rest}
use Rattle.tl_turn.specs.Plays.{Knowledge}
use Rattle.tl_turn.specs.declared.view.Role.TheVariants.{Away}
use Rattle.tl_turn.proofs.Keeps.{learns}
use Rattle.tl_turn.proofs.Turns.{serving_of, extends_from, passes_from, back_in, has_extended}
use Rattle.tl_turn.proofs.steps.give_and_pass.Goals as goal

pub load-known-requires : goal.load-known-requires
load-known-requires g c =
    let turn = serving_of _ c.requires.turn.0 in
    (c.requires.table.0, omega arith, learns g.S.Told.maker g.S.Told.log _ _ _ turn.0 turn.1)

pub fetch_add-requires : goal.fetch_add-requires
fetch_add-requires g c =
    let v = c.args.pass.now.me.0 in
    let turn = serving_of _ c.requires.turn.0 in
    let learnt = c.load-known.ensures in
    let back = back_in g.S.Told.maker g.S.Told.log v _ _ c.exchange.new.seat.me c.args.state c.requires.turn.1 learnt.2.0 c.exchange.ensures.3 in (
      c.exchange.ensures.0 ∙ learnt.0 ∙ c.requires.table.0,
      omega arith,
      extends_from g.S.Told.maker g.S.Told.log _ _ c.exchange.new.seat.me v turn.0 _ c.load-known.result c.args.state back turn.1 c.requires.log c.requires.room learnt.2.1 (ap (λ n. n - c.load-known.result) c.entries.ensures),
    )

pub fetch_add-served-requires : goal.fetch_add-served-requires
fetch_add-served-requires g c =
    let v = c.args.pass.now.me.0 in
    let turn = serving_of _ c.requires.turn.0 in
    let learnt = c.load-known.ensures in
    let back = back_in g.S.Told.maker g.S.Told.log v _ _ c.exchange.new.seat.me c.args.state c.requires.turn.1 learnt.2.0 c.exchange.ensures.3 in
    let grown = has_extended g.S.Told.maker g.S.Told.log v _ _ c.fetch_add.result c.args.state back c.fetch_add.ensures.2 in (
      c.fetch_add.ensures.0 ∙ c.exchange.ensures.0 ∙ learnt.0 ∙ c.requires.table.0,
      omega arith,
      passes_from g.S.Told.maker g.S.Told.log _ _ c.fetch_add.new.seat.me v turn.0 c.args.state _ grown turn.1,
    )

pub returns-clause-away : goal.returns-clause-away
returns-clause-away g c =
    let v = c.args.pass.now.me.0 in
    let back = back_in g.S.Told.maker g.S.Told.log v _ _ c.exchange.new.seat.me c.args.state c.requires.turn.1 c.load-known.ensures.2.0 c.exchange.ensures.3 in
    let grown = has_extended g.S.Told.maker g.S.Told.log v _ _ c.fetch_add.result c.args.state back c.fetch_add.ensures.2 in
    c.fetch_add-served.ensures.2 ∙ ap (λ (x : Knowledge g.row.S.Denot g.row.S-Entry.Denot). (record x.0 { role = Away }, rest x.1)) grown
