use Rattle.std.proofs.Common.{◌≡◌, ◌∙◌, false, Option, IfSome, ap, sym, subst}
use Rattle.tl_types.specs.Block.{FileOutcome}
use Rattle.tl_store.specs.Contents.{contents, has, without}
use Rattle.tl_bench.proofs.Gone.{gone, of_file}
use Rattle.tl_bench.proofs.blocks.renew.Goals as goal

pub put-requires : goal.put-requires
put-requires c =
    let blocks = c.args.store.now.blocks in
    let f = c.in-Some.file in
    let same : c.in-Some-remove.block.file ≡ f =
    subst (λ (o : Option FileOutcome). IfSome o (λ b. b.file ≡ f)) (sym c.in-Some-remove.ensures.removed) (of_file f blocks) in
    record { absent = ap (λ s. has c.in-Some-remove.block.file s.blocks) c.in-Some-remove.ensures.rest ∙ ap (λ g. has g (without f blocks)) same ∙ gone f blocks }
