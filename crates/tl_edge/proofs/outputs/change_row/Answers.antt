use Rattle.std.proofs.Common.{◌∙◌, ap, map, slice_set}
use Rattle.tl_edge.specs.Data.{changed}
use Rattle.tl_steps.proofs.Lists.{set_changed, unchanged_past}
use Rattle.tl_edge.proofs.outputs.change_row.Goals as goal

pub returns-then-at-files : goal.returns-then-at-files
returns-then-at-files c =
    ap (λ x. slice_set c.args.files.now c.args.made.0 x) c.change_all.ensures
    ∙ set_changed c.args.files.now c.args.made.0 c.index-files-at.result (map (changed c.args.change))

pub returns-else-at-files : goal.returns-else-at-files
returns-else-at-files c = unchanged_past c.args.files.now c.args.made.0 (map (changed c.args.change)) c.if-at-files.false
