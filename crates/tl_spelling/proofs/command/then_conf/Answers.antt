use Rattle.std.proofs.Common.{[], ◌∷◌}
use Rattle.tl_script.specs.Commands.{with_conf}
use Rattle.tl_spelling.proofs.Printing.{kept_on, pair_step, put_kept}
use Rattle.tl_spelling.proofs.command.then_conf.Goals as goal

pub loop-pair-preserved : goal.loop-pair-preserved
loop-pair-preserved c =
    let p = c.pair-item.result in
    record {
      printed = pair_step c.args.out.now.items c.loop-pair.out.items c.then_pair.new.out.items c.args.pairs.now c.loop-pair.pair-index p c.pair-item.is c.loop-pair-test.true
          c.in_ok-then_pair.ensures.ok c.loop-pair.invariant.printed;
      kept = kept_on c.args.out.now.items c.loop-pair.out.items c.then_pair.new.out.items c.loop-pair.invariant.kept
          (put_kept c.loop-pair.out.items c.then_pair.new.out.items (with_conf ((p.0.items, p.1.items) ∷ [])) c.in_ok-then_pair.ensures.ok);
    }
