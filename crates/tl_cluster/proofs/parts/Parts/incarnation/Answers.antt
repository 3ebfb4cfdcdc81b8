use Rattle.std.proofs.Common.{◌≡◌, ◌<◌, Some, length, slice_get, option_map, subst, sym}
use Rattle.tl_fleet.specs.Workers.{incarnation_of}
use Rattle.tl_cluster.specs.Stands.{PartsState}
use Rattle.tl_cluster.proofs.parts.Parts.incarnation.Goals as goal

pub incarnation-requires : goal.incarnation-requires
incarnation-requires g c =
    let now : PartsState _ = c.args.self.now in
    record {
      worker = subst (λ (p : PartsState _). c.args.worker.0 < length p.workers) (sym c.self.view_is)
          (subst (λ n. c.args.worker.0 < n) (sym c.requires.stands.agrees.sized.1.0) c.requires.worker);
    }

pub returns : goal.returns
returns g c =
    let now : PartsState _ = c.args.self.now in
    c.requires.stands.agrees.losses c.args.worker c.incarnation.result
    (subst (λ (p : PartsState _). option_map incarnation_of (slice_get p.workers c.args.worker.0) ≡ Some c.incarnation.result) c.self.view_is c.incarnation.ensures)
