use Rattle.std.proofs.Common.{rules, ◌≡◌, ◌∙◌}
use Rattle.tl_fleet.specs.Workers.{is_resident}
use Rattle.tl_fleet.proofs.Places.{resident_same}
use Rattle.tl_fleet.proofs.fleet.Fleet.is_resident.Goals as goal

pub returns-clause-stands : goal.returns-clause-stands
returns-clause-stands c sizes header past stands =
    let is : c.resident_in.result ≡ is_resident c.args.f c.args.self.now = search rules in
    is ∙ resident_same sizes header past c.args.self.now c.args.f stands
