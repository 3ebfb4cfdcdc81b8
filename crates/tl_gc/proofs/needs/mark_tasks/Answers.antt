use Rattle.std.proofs.Common.{rules, ◌≡◌, ◌∙◌, ap, length, map, slice_set, sym}
use Rattle.std.proofs.lemmas.Option.{slice_get-get_or}
use Rattle.tl_model.specs.Plan.{is_task}
use Rattle.tl_steps.proofs.Lists.{get_map}
use Rattle.tl_gc.specs.declared.kept.Kept.{Kept}
use Rattle.tl_gc.proofs.Lists.{length-map, length-set, over-all, over-next}
use Rattle.tl_gc.proofs.needs.mark_tasks.Goals as goal

pub loop-i-preserved : goal.loop-i-preserved
loop-i-preserved g c = (
  (λ past speaks.
      ap (λ b. slice_set c.loop-i.needed c.loop-i.i b) (c.is_task.ensures past speaks)
      ∙ over-next (map (λ (k : Kept). is_task past k.made) c.args.kept.now) c.args.needed.now c.loop-i.needed c.loop-i.i _
      (c.requires ∙ sym (length-map (λ (k : Kept). is_task past k.made) c.args.kept.now))
      (get_map (λ (k : Kept). is_task past k.made) c.args.kept.now c.loop-i.i _
      (slice_get-get_or c.args.kept.now c.loop-i.i c.index-kept-i.result c.loop-i-test.true))
      (c.loop-i.invariant.0 past speaks)),
  length-set c.loop-i.needed c.loop-i.i c.is_task.result ∙ c.loop-i.invariant.1,
)

pub returns-clause-tasks : goal.returns-clause-tasks
returns-clause-tasks g c = λ past speaks.
    c.loop-i.invariant.0 past speaks
    ∙ over-all (map (λ (k : Kept). is_task past k.made) c.args.kept.now) c.args.needed.now c.loop-i.i
    (let all : c.loop-i.i ≡ length c.args.kept.now = search rules in all ∙ sym (length-map (λ (k : Kept). is_task past k.made) c.args.kept.now))
    (c.requires ∙ sym (length-map (λ (k : Kept). is_task past k.made) c.args.kept.now))
