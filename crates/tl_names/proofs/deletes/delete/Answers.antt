use Rattle.std.proofs.Common.{Ok, ◌≡◌, length, sym, ap, ◌∙◌, inr, arith}
use Rattle.std.specs.Map.{remove_entry}
use Rattle.std.specs.Str.{bytes_eq}
use Rattle.std.proofs.lemmas.Bool.{true≢false}
use Rattle.slab.specs.Slab.{with_value}
use Rattle.tl_model.specs.Namespace.{parent}
use Rattle.tl_names.specs.Tables.{child_at, children_at}
use Rattle.tl_names.proofs.Places.{known_place}
use Rattle.tl_names.proofs.Taken.{delete_refused, dir_deleted, file_deleted, full_deleted, still_known}
use Rattle.tl_names.proofs.deletes.delete.Goals as goal

pub unset_child-requires : goal.unset_child-requires
unset_child-requires c = known_place c.args.dirs.now.slots c.requires (parent c.args.path.now) c.above-d.result c.above-d.ensures

pub unset_child-requires-in-Ok-Dir : goal.unset_child-requires-in-Ok-Dir
unset_child-requires-in-Ok-Dir c = known_place c.args.dirs.now.slots c.requires (parent c.args.path.now) c.above-d-in-Ok-Dir.result c.above-d-in-Ok-Dir.ensures

pub returns-then-child_count-gt0 : goal.returns-then-child_count-gt0
returns-then-child_count-gt0 c =
    full_deleted c.args.dirs.now.slots c.args.pins.now c.args.path.now c.in-Ok-Dir.emptied c.requires (sym c.in-Ok-Dir.ensures ∙ ap Ok c.in-Ok-Dir.field-0-is)
    (inr (let counted : c.child_count.result ≡ length (children_at c.args.dirs.now.slots c.in-Ok-Dir.emptied) = c.child_count.ensures in omega arith))

pub returns-in-Ok-File : goal.returns-in-Ok-File
returns-in-Ok-File c =
    file_deleted c.args.dirs.now c.unset_child.new.dirs c.args.pins.now c.remove.new.self c.args.path.now c.above-d.result c.in-Ok-File.file c.in-Ok-File.field-0-1 c.requires
    (sym c.in-Ok-File.ensures ∙ ap Ok c.in-Ok-File.field-0-is) c.above-d.ensures
    (c.unset_child.ensures.entries ∙ ap (λ name. with_value c.args.dirs.now c.above-d.result (remove_entry (bytes_eq name) (children_at c.args.dirs.now.slots c.above-d.result))) c.last_part.ensures)
    (ap (child_at c.unset_child.new.dirs.slots c.above-d.result) (sym c.last_part.ensures) ∙ c.unset_child.ensures.gone)
    c.remove.ensures.entries c.remove.ensures.gone

pub returns-else-child_count-gt0 : goal.returns-else-child_count-gt0
returns-else-child_count-gt0 c =
    dir_deleted c.args.dirs.now c.unset_child-in-Ok-Dir.new.dirs c.remove-names.new.self.slots c.args.pins.now c.args.path.now c.above-d-in-Ok-Dir.result c.in-Ok-Dir.emptied c.requires
    (λ empty. true≢false (sym (c.is_empty.ensures.1 empty) ∙ c.if-is_empty.false))
    (sym c.in-Ok-Dir.ensures ∙ ap Ok c.in-Ok-Dir.field-0-is) c.above-d-in-Ok-Dir.ensures
    (let counted : c.child_count.result ≡ length (children_at c.args.dirs.now.slots c.in-Ok-Dir.emptied) = c.child_count.ensures in omega arith)
    (c.unset_child-in-Ok-Dir.ensures.entries
    ∙ ap (λ name. with_value c.args.dirs.now c.above-d-in-Ok-Dir.result (remove_entry (bytes_eq name) (children_at c.args.dirs.now.slots c.above-d-in-Ok-Dir.result))) c.last_part-in-Ok-Dir.ensures)
    (ap (child_at c.unset_child-in-Ok-Dir.new.dirs.slots c.above-d-in-Ok-Dir.result) (sym c.last_part-in-Ok-Dir.ensures) ∙ c.unset_child-in-Ok-Dir.ensures.gone)
    c.remove-names.ensures.slots

pub remove-names-requires : goal.remove-names-requires
remove-names-requires c =
    still_known c.args.dirs.now c.unset_child-in-Ok-Dir.new.dirs c.requires c.args.path.now c.above-d-in-Ok-Dir.result c.in-Ok-Dir.emptied c.last_part-in-Ok-Dir.result.now
    (sym c.in-Ok-Dir.ensures ∙ ap Ok c.in-Ok-Dir.field-0-is) c.unset_child-in-Ok-Dir.ensures.entries

pub returns-in-Err : goal.returns-in-Err
returns-in-Err c = delete_refused c.args.dirs.now.slots c.args.pins.now c.args.path.now c.in-Err.refusal c.requires (sym c.in-Err.ensures)
