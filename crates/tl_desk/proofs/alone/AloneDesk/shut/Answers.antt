use Rattle.std.proofs.Common.{true, subst}
use Rattle.tl_model.specs.declared.event.Act.TheVariants.{Shut}
use Rattle.tl_desk.specs.Finds.{Turns, is_any}
use Rattle.tl_desk.specs.Turns.{with_act}
use Rattle.tl_desk.proofs.Owning.{turns}
use Rattle.tl_desk.proofs.alone.AloneDesk.shut.Goals as goal

pub returns-clause-shut : goal.returns-clause-shut
returns-clause-shut g c f reading =
    let old = c.args.self.now.cluster in
    let actor = c.args.self.now.actor in
    subst (λ x. Turns true actor old.events c.shut.new.self.events is_any (with_act actor (Shut x)))
    reading.2
    (turns actor old c.shut.new.self is_any (with_act actor (Shut reading.0.file)) _
    (c.shut.ensures reading.0 reading.1) tt)

pub returns-clause-home : goal.returns-clause-home
returns-clause-home g c =
    let turned = c.shut.ensures c.requires.reading.1.0 c.requires.reading.1.1 in
    λ i. record { actor = c.args.self.now.actor; header = turned.header i }
