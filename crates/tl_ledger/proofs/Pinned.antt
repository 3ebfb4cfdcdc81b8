-- Which files are pinned, by the names' tables.
use Rattle.std.proofs.Common.{◌≡◌, Bool, true, false, ◌&&◌, if◌then◌else◌, [], ◌∷◌, Some, None, refl, sym, ap}
use Rattle.std.proofs.lemmas.Bool.{or_from, or_parts}
use Rattle.std.specs.List.{list_any}
use Rattle.std.specs.Option.{unwrap_or}
use Rattle.tl_types.specs.declared.file_id.FileId.{FileId}
use Rattle.tl_model.specs.History.{is_file_node, is_pinned_node}
use Rattle.tl_model.specs.Namespace.{Names, Node, dir, file}
use Rattle.tl_names.specs.Pins.{names_file, pin_of, pins_file}

node-unpinned : (f : FileId) (node : Node) → is_file_node f node ≡ false → is_pinned_node f node ≡ false
node-unpinned f dir none = refl
node-unpinned f (file g pinned) none = ap (λ b. b && pinned) none

-- a file that has no name is not pinned
unnamed-unpinned : (f : FileId) (names : Names) → list_any (names_file f) names ≡ false → list_any (pins_file f) names ≡ false
unnamed-unpinned f [] none = refl
unnamed-unpinned f (entry ∷ names) none =
    let parts = or_parts (names_file f entry) (list_any (names_file f) names) none in
    or_from (pins_file f entry) (list_any (pins_file f) names) (node-unpinned f entry.1 parts.0) (unnamed-unpinned f names parts.1)

by-name : (named pinned : Bool) → (named ≡ false → pinned ≡ false) → unwrap_or (if named then Some pinned else None) false ≡ pinned
by-name true pinned none = refl
by-name false pinned none = sym (none refl)

pub pinned-by-name : (names : Names) (f : FileId) → unwrap_or (pin_of names f) false ≡ list_any (pins_file f) names
pinned-by-name names f = by-name (list_any (names_file f) names) (list_any (pins_file f) names) (unnamed-unpinned f names)
