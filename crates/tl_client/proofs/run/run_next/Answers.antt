use Rattle.std.proofs.Common.{◌≡◌, ℕ, true, List, length, map, Option, Some, sym, ap, ◌∙◌, subst}
use Rattle.std.specs.List.{AllByRecursion}
use Rattle.std.proofs.lemmas.List.Elements.{All-from_recursion}
use Rattle.tl_types.specs.Block.{FileOutcome}
use Rattle.tl_lang.specs.Job.{job_mean}
use Rattle.tl_model.specs.Values.{value}
use Rattle.tl_core.specs.declared.work.Work.{Work}
use Rattle.tl_core.specs.Done.{Blocks, file_of}
use Rattle.tl_core.specs.State.{State}
use Rattle.tl_core.specs.Taken.{Claimed}
use Rattle.tl_client.specs.Feeds.{IsWholeFeed, blocks_from, fed_outcome}
use Rattle.tl_client.specs.Pieces.{Events, told}
use Rattle.tl_client.proofs.Runs.{itself, whole-feeds, feeds-count, run-values, run-outputs, mean-count, kinds-count}
use Rattle.tl_client.proofs.run.run_next.Goals as goal

pub make-requires-clause-fed : goal.make-requires-clause-fed
make-requires-clause-fed c =
    let claimed : Claimed true itself c.args.cluster.now c.claim.new.self c.args.actor c.args.worker (Some c.in-Some.work) =
    subst (λ (o : Option (Work (List ℕ))). Claimed true itself c.args.cluster.now c.claim.new.self c.args.actor c.args.worker o) c.in-Some.is c.in_ok-work.ensures.ok in
    All-from_recursion IsWholeFeed c.in-Some.work.inputs.items (whole-feeds c.args.cluster.now claimed.6.1 c.in-Some.work.inputs.items claimed.6.6)

pub make-requires-clause-inputs : goal.make-requires-clause-inputs
make-requires-clause-inputs c =
    let claimed : Claimed true itself c.args.cluster.now c.claim.new.self c.args.actor c.args.worker (Some c.in-Some.work) =
    subst (λ (o : Option (Work (List ℕ))). Claimed true itself c.args.cluster.now c.claim.new.self c.args.actor c.args.worker o) c.in-Some.is c.in_ok-work.ensures.ok in
    feeds-count c.args.cluster.now claimed.6.1 c.in-Some.work.inputs.items claimed.6.6 ∙ sym claimed.6.4

pub done-requires-clause-outputs : goal.done-requires-clause-outputs
done-requires-clause-outputs c =
    let work = c.in-Some.work in
    let claimed : Claimed true itself c.args.cluster.now c.claim.new.self c.args.actor c.args.worker (Some c.in-Some.work) =
    subst (λ (o : Option (Work (List ℕ))). Claimed true itself c.args.cluster.now c.claim.new.self c.args.actor c.args.worker o) c.in-Some.is c.in_ok-work.ensures.ok in
    let means = job_mean work.core (map fed_outcome work.inputs.items) in
    let count : length means ≡ claimed.6.2 =
    mean-count work.core (map fed_outcome work.inputs.items)
    ∙ kinds-count work.core.program.program work.core.program.inputs work.core.program.outputs c.make.ensures.kinds ∙ claimed.6.5 in
    run-outputs c.args.cluster.now c.claim.new.self work.rec work.core claimed.6.0 claimed.6.1 claimed.6.2 means c.args.actor c.args.worker
    (ap (λ (s : State (List ℕ)). s.events) claimed.1) claimed.6.3 count
    ∙ ap (λ (bs : Blocks). Some (map file_of bs)) (sym c.in-Ok.ensures.blocks)

pub done-requires-clause-values : goal.done-requires-clause-values
done-requires-clause-values c =
    let work = c.in-Some.work in
    let claimed : Claimed true itself c.args.cluster.now c.claim.new.self c.args.actor c.args.worker (Some c.in-Some.work) =
    subst (λ (o : Option (Work (List ℕ))). Claimed true itself c.args.cluster.now c.claim.new.self c.args.actor c.args.worker o) c.in-Some.is c.in_ok-work.ensures.ok in
    let means = job_mean work.core (map fed_outcome work.inputs.items) in
    let made : AllByRecursion (λ block. true ≡ true → block.outcome ≡ value (told c.args.cluster.now.events) block.file) (blocks_from work.rec 0 means) =
    run-values c.args.cluster.now work.rec work.core claimed.6.0 claimed.6.1 claimed.6.2 work.inputs.items c.stands.ensures.lawful c.stands.ensures.values claimed.6.3 claimed.6.6 in
    let blocks : AllByRecursion (λ block. true ≡ true → block.outcome ≡ value (told c.args.cluster.now.events) block.file) c.in-Ok.blocks.items =
    subst (λ (bs : Blocks). AllByRecursion (λ block. true ≡ true → block.outcome ≡ value (told c.args.cluster.now.events) block.file) bs) (sym c.in-Ok.ensures.blocks) made in
    subst (λ (es : Events). AllByRecursion (λ (block : FileOutcome). true ≡ true → block.outcome ≡ value (told es) block.file) c.in-Ok.blocks.items)
    (sym (ap (λ (s : State (List ℕ)). s.events) claimed.1)) blocks
