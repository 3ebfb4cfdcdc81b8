use Rattle.std.proofs.Common.{arith, drop, length, take, ◌-◌, ◌≡◌}
use Rattle.std.proofs.lemmas.Grind.{common_steps}
use Rattle.std.proofs.lemmas.List.{length-drop}
use Rattle.tl_io.specs.Sink.{Appends-more}
use Rattle.tl_io.proofs.tests.write_text.Goals as goal

pub pieces-preserved : goal.pieces-preserved
pieces-preserved g c =
    let at = c.pieces.at in
    let text = c.args.text.now in
    let rest : take (length text - at) (drop at text) ≡ drop at text = grind (arith, common_steps) in
    let bytes = rw rest at c.in_ok-at.ensures.bytes.bytes in
    let fits = rw (rest, length-drop at text) at c.in_ok-at.ensures.bytes.fits in
    record {
      told = Appends-more _ _ _ text at _ c.pieces.invariant.told bytes;
      faults = omega (arith, c.in_ok-at.ensures.never_falls);
      within = omega arith;
    }
