use Rattle.std.proofs.Common.{rules, arith, ◌≡◌, ◌∙◌, ◌<◌, [], length, ap, subst, sym}
use Rattle.std.proofs.lemmas.List.{length-replicate}
use Rattle.tl_fleet.specs.Workers.{IsOnce, new_worker, new_workers}
use Rattle.tl_fleet.proofs.Once.{once_new}
use Rattle.tl_fleet.specs.Order.{StandsInOrder}
use Rattle.tl_fleet.proofs.Events.{new_stands}
use Rattle.tl_fleet.proofs.fleet.Fleet.new.Goals as goal

pub invariant_of-result : goal.invariant_of-result
invariant_of-result c =
    let count : length c.loop.fleet.items ≡ c.loop.counter = ap length c.loop.invariant ∙ length-replicate c.loop.counter (new_worker c.args.capacity) in
    let few : c.loop.counter < 256 = search rules in
    record { few = subst (λ n. n < 256) (sym count) few; once = subst IsOnce (sym c.loop.invariant) (once_new c.loop.counter c.args.capacity) }

pub returns-clause-stands : goal.returns-clause-stands
returns-clause-stands c sizes header workers capacity =
    let count : c.loop.counter ≡ c.args.workers = omega arith in
    subst (λ ws. StandsInOrder sizes header [] ws) (sym (c.loop.invariant ∙ ap (λ k. new_workers k c.args.capacity) count))
    (new_stands sizes header c.args.workers c.args.capacity workers capacity)
