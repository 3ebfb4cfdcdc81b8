use Rattle.std.proofs.Common.{rules, ◌≡◌, ◌∙◌, ap}
use Rattle.std.specs.Option.{option_map}
use Rattle.tl_fleet.specs.Workers.{found, found_block, worker_found}
use Rattle.tl_fleet.proofs.Places.{found_place}
use Rattle.tl_fleet.proofs.fleet.Fleet.find.Goals as goal

pub returns-clause-stands : goal.returns-clause-stands
returns-clause-stands c sizes header past stands =
    let is : option_map found_block c.find_in.result ≡ found c.args.f c.args.self.now = search rules in
    ap (option_map worker_found) is ∙ found_place sizes header past c.args.self.now c.args.f stands
