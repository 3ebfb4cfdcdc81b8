use Rattle.std.proofs.Common.{arith}
use Rattle.tl_types.proofs.Spelling.{part-short, spelled_len-more}
use Rattle.tl_types.proofs.path.spelling_len.Goals as goal

pub loop-part-preserved : goal.loop-part-preserved
loop-part-preserved c =
    let more = spelled_len-more c.args.parts.now c.loop-part.part-index c.part-item.result c.loop-part-test.true in
    let short = part-short c.args.parts.now c.loop-part.part-index c.part-item.result c.requires.components c.loop-part-test.true in
    record {
      spelled = grind (arith, more);
      bounded = grind (arith, short);
    }
