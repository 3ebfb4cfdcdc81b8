-- Which files are named and pinned after a change of the list of names.
use Rattle.std.proofs.Common.{◌≡◌, Bool, true, false, cond, [], ◌∷◌, Some, None, refl, sym, ap, ◌∙◌}
use Rattle.std.specs.Prelude.{not, ◌||◌, ◌&&◌}
use Rattle.std.specs.List.{list_any}
use Rattle.std.proofs.lemmas.Bool.{true≢false, or_parts, or_left, or_from}
use Rattle.std.proofs.lemmas.Option.{none-some}
use Rattle.tl_types.specs.Same.{path_same, path_same-Decides, file_same, file_same-Decides}
use Rattle.tl_types.specs.declared.file_id.FileId.{FileId}
use Rattle.tl_model.specs.Namespace.{PathOf, Node, dir, file, Names, node_at, with_pin, with_pinned, without_name}
use Rattle.tl_model.specs.History.{is_file_node, is_pinned_node}
use Rattle.tl_names.specs.Standing.{HasEachOnce}
use Rattle.tl_names.specs.Pins.{IsAlone, HasFilesOnce, names_file, pins_file}
use Rattle.tl_names.proofs.Lookups.{absent_head, without_none, moved_all}

-- a list in which nothing has the path
pinned_none : (p : PathOf) (pinned : Bool) (names : Names) → node_at names p ≡ None → with_pinned names p pinned ≡ names
pinned_none p pinned [] absent = refl
pinned_none p pinned (e ∷ es) absent =
    let parts : (path_same p e.0 ≡ false) × (node_at es p ≡ None) = absent_head p e es absent in
    ap (λ b. (e.0, cond b (with_pin pinned e.1) e.1) ∷ with_pinned es p pinned) parts.0 ∙ ap (λ rest. (e.0, e.1) ∷ rest) (pinned_none p pinned es parts.1)

or_swap : (a b c : Bool) → (a || (b || c)) ≡ (b || (a || c))
or_swap true true c = refl
or_swap true false c = refl
or_swap false true c = refl
or_swap false false c = refl

or_none : (b : Bool) → (b || false) ≡ b
or_none true = refl
or_none false = refl

-- what some node of the names passes, by the node at a path and the others
pub any_split : (test : Node → Bool) (p : PathOf) (n : Node) (names : Names) → HasEachOnce names → node_at names p ≡ Some n →
    list_any (λ e. test e.1) names ≡ (test n || list_any (λ e. test e.1) (without_name names p))
any_split test p n [] once found = absurd (none-some n found)
any_split test p n (e ∷ es) once found = by (path_same p e.0) refl found (any_split test p n es once.1)
  where
    by : (b : Bool) → path_same p e.0 ≡ b → cond b (Some e.1) (node_at es p) ≡ Some n →
        (node_at es p ≡ Some n → list_any (λ e. test e.1) es ≡ (test n || list_any (λ e. test e.1) (without_name es p))) →
        list_any (λ e. test e.1) (e ∷ es) ≡ (test n || list_any (λ e. test e.1) (cond (not b) (e ∷ without_name es p) (without_name es p)))
    by true at is more =
        let same : e.1 ≡ n = cc in
        let gone : node_at es p ≡ None = ap (node_at es) ((path_same-Decides p e.0).0 at) ∙ once.0 in
        ap (λ m. test m || list_any (λ e. test e.1) es) same ∙ ap (λ rest. test n || list_any (λ e. test e.1) rest) (sym (without_none p es gone))
    by false at is more = ap (λ b. test e.1 || b) (more is) ∙ or_swap (test e.1) (test n) (list_any (λ e. test e.1) (without_name es p))

-- what no node passes, none of fewer passes
any_fewer : (test : Node → Bool) (p : PathOf) (names : Names) → list_any (λ e. test e.1) names ≡ false → list_any (λ e. test e.1) (without_name names p) ≡ false
any_fewer test p [] none = refl
any_fewer test p (e ∷ es) none = by (path_same p e.0) (or_parts (test e.1) (list_any (λ e. test e.1) es) none) (any_fewer test p es (or_parts (test e.1) (list_any (λ e. test e.1) es) none).1)
  where
    by : (b : Bool) → (test e.1 ≡ false) × (list_any (λ e. test e.1) es ≡ false) → list_any (λ e. test e.1) (without_name es p) ≡ false →
        list_any (λ e. test e.1) (cond (not b) (e ∷ without_name es p) (without_name es p)) ≡ false
    by true parts more = more
    by false parts more = or_from (test e.1) (list_any (λ e. test e.1) (without_name es p)) parts.0 more

pub same_file : (f : FileId) → file_same f f ≡ true
same_file f = (file_same-Decides f f).1 refl

pub file_found : (f : FileId) (b : Bool) (p : PathOf) (names : Names) → HasEachOnce names → node_at names p ≡ Some (file f b) → list_any (names_file f) names ≡ true
file_found f b p names once found =
    any_split (is_file_node f) p (file f b) names once found ∙ or_left (file_same f f) (list_any (names_file f) (without_name names p)) (same_file f)

-- a file that has one name is not elsewhere
not_it : (f : FileId) (b : Bool) (p : PathOf) (m : Node) (es : Names) → HasEachOnce es → node_at es p ≡ Some (file f b) → IsAlone m es → is_file_node f m ≡ false
not_it f b p dir es once found alone = refl
not_it f b p (file g c) es once found alone = by (file_same f g) refl
  where
    by : (t : Bool) → file_same f g ≡ t → t ≡ false
    by false is = refl
    by true is = absurd (true≢false (sym (file_found f b p es once found) ∙ ap (λ h. list_any (names_file h) es) ((file_same-Decides f g).0 is) ∙ alone))

pub file_gone : (f : FileId) (b : Bool) (p : PathOf) (names : Names) → HasEachOnce names → HasFilesOnce names → node_at names p ≡ Some (file f b) →
    list_any (names_file f) (without_name names p) ≡ false
file_gone f b p [] once files found = refl
file_gone f b p (e ∷ es) once files found = by (path_same p e.0) refl found (file_gone f b p es once.1 files.1)
  where
    alone_as : (m : Node) → m ≡ file f b → IsAlone m es → list_any (names_file f) es ≡ false
    alone_as dir is alone = absurd cc
    alone_as (file g c) is alone = let same : g ≡ f = cc in ap (λ h. list_any (names_file h) es) (sym same) ∙ alone

    by : (t : Bool) → path_same p e.0 ≡ t → cond t (Some e.1) (node_at es p) ≡ Some (file f b) → (node_at es p ≡ Some (file f b) → list_any (names_file f) (without_name es p) ≡ false) →
        list_any (names_file f) (cond (not t) (e ∷ without_name es p) (without_name es p)) ≡ false
    by true at is more =
        let gone : node_at es p ≡ None = ap (node_at es) ((path_same-Decides p e.0).0 at) ∙ once.0 in
        let same : e.1 ≡ file f b = cc in
        ap (list_any (names_file f)) (without_none p es gone) ∙ alone_as e.1 same files.0
    by false at is more = or_from (names_file f e) (list_any (names_file f) (without_name es p)) (not_it f b p e.1 es once.1 is files.0) (more is)

alone_fewer : (p : PathOf) (m : Node) (es : Names) → IsAlone m es → IsAlone m (without_name es p)
alone_fewer p dir es alone = tt
alone_fewer p (file f b) es alone = any_fewer (is_file_node f) p es alone

pub without_files_once : (p : PathOf) (names : Names) → HasFilesOnce names → HasFilesOnce (without_name names p)
without_files_once p [] files = tt
without_files_once p (e ∷ es) files = by (path_same p e.0) (without_files_once p es files.1)
  where
    by : (b : Bool) → HasFilesOnce (without_name es p) → HasFilesOnce (cond (not b) (e ∷ without_name es p) (without_name es p))
    by true more = more
    by false more = (alone_fewer p e.1 es files.0, more)

-- ---- a pin set or cleared

still_file : (g : FileId) (pinned b : Bool) (m : Node) → is_file_node g (cond b (with_pin pinned m) m) ≡ is_file_node g m
still_file g pinned true dir = refl
still_file g pinned false dir = refl
still_file g pinned true (file f c) = refl
still_file g pinned false (file f c) = refl

pub pinned_files : (g : FileId) (p : PathOf) (pinned : Bool) (names : Names) → list_any (names_file g) (with_pinned names p pinned) ≡ list_any (names_file g) names
pinned_files g p pinned [] = refl
pinned_files g p pinned (e ∷ es) =
    ap (λ b. b || list_any (names_file g) (with_pinned es p pinned)) (still_file g pinned (path_same p e.0) e.1) ∙ ap (λ b. names_file g e || b) (pinned_files g p pinned es)

alone_pinned : (p : PathOf) (pinned b : Bool) (m : Node) (es : Names) → IsAlone m es → IsAlone (cond b (with_pin pinned m) m) (with_pinned es p pinned)
alone_pinned p pinned true dir es alone = tt
alone_pinned p pinned false dir es alone = tt
alone_pinned p pinned true (file f c) es alone = pinned_files f p pinned es ∙ alone
alone_pinned p pinned false (file f c) es alone = pinned_files f p pinned es ∙ alone

pub pinned_files_once : (p : PathOf) (pinned : Bool) (names : Names) → HasFilesOnce names → HasFilesOnce (with_pinned names p pinned)
pinned_files_once p pinned [] files = tt
pinned_files_once p pinned (e ∷ es) files = (alone_pinned p pinned (path_same p e.0) e.1 es files.0, pinned_files_once p pinned es files.1)

-- what is not named is not pinned
pinned_named : (f : FileId) (m : Node) → is_file_node f m ≡ false → is_pinned_node f m ≡ false
pinned_named f dir apart = refl
pinned_named f (file g b) apart = ap (λ t. t && b) apart

pub none_pinned : (f : FileId) (names : Names) → list_any (names_file f) names ≡ false → list_any (pins_file f) names ≡ false
none_pinned f [] none = refl
none_pinned f (e ∷ es) none =
    let parts : (names_file f e ≡ false) × (list_any (names_file f) es ≡ false) = or_parts (names_file f e) (list_any (names_file f) es) none in
    or_from (pins_file f e) (list_any (pins_file f) es) (pinned_named f e.1 parts.0) (none_pinned f es parts.1)

pub pin_others : (g f : FileId) (b : Bool) (p : PathOf) (pinned : Bool) (names : Names) → (g ≡ f → ⊥) → HasEachOnce names → node_at names p ≡ Some (file f b) →
    list_any (pins_file g) (with_pinned names p pinned) ≡ list_any (pins_file g) names
pin_others g f b p pinned [] apart once found = refl
pin_others g f b p pinned (e ∷ es) apart once found = by (path_same p e.0) refl found (pin_others g f b p pinned es apart once.1)
  where
    off : file_same g f ≡ false
    off = by_test (file_same g f) refl
      where
        by_test : (t : Bool) → file_same g f ≡ t → t ≡ false
        by_test false is = refl
        by_test true is = absurd (apart ((file_same-Decides g f).0 is))

    by : (t : Bool) → path_same p e.0 ≡ t → cond t (Some e.1) (node_at es p) ≡ Some (file f b) →
        (node_at es p ≡ Some (file f b) → list_any (pins_file g) (with_pinned es p pinned) ≡ list_any (pins_file g) es) →
        (is_pinned_node g (cond t (with_pin pinned e.1) e.1) || list_any (pins_file g) (with_pinned es p pinned)) ≡ (is_pinned_node g e.1 || list_any (pins_file g) es)
    by true at is more =
        let same : e.1 ≡ file f b = cc in
        let gone : node_at es p ≡ None = ap (node_at es) ((path_same-Decides p e.0).0 at) ∙ once.0 in
        ap (λ m. is_pinned_node g (with_pin pinned m) || list_any (pins_file g) (with_pinned es p pinned)) same
        ∙ ap (λ t. (t && pinned) || list_any (pins_file g) (with_pinned es p pinned)) off
        ∙ ap (list_any (pins_file g)) (pinned_none p pinned es gone)
        ∙ sym (ap (λ m. is_pinned_node g m || list_any (pins_file g) es) same ∙ ap (λ t. (t && b) || list_any (pins_file g) es) off)
    by false at is more = ap (λ t. is_pinned_node g e.1 || t) (more is)

pub pin_here : (f : FileId) (b : Bool) (p : PathOf) (pinned : Bool) (names : Names) → HasEachOnce names → HasFilesOnce names → node_at names p ≡ Some (file f b) →
    list_any (pins_file f) (with_pinned names p pinned) ≡ pinned
pin_here f b p pinned [] once files found = absurd (none-some (file f b) found)
pin_here f b p pinned (e ∷ es) once files found = by (path_same p e.0) refl found (pin_here f b p pinned es once.1 files.1)
  where
    alone_as : (m : Node) → m ≡ file f b → IsAlone m es → list_any (names_file f) es ≡ false
    alone_as dir is alone = absurd cc
    alone_as (file g c) is alone = let same : g ≡ f = cc in ap (λ h. list_any (names_file h) es) (sym same) ∙ alone

    by : (t : Bool) → path_same p e.0 ≡ t → cond t (Some e.1) (node_at es p) ≡ Some (file f b) → (node_at es p ≡ Some (file f b) → list_any (pins_file f) (with_pinned es p pinned) ≡ pinned) →
        (is_pinned_node f (cond t (with_pin pinned e.1) e.1) || list_any (pins_file f) (with_pinned es p pinned)) ≡ pinned
    by true at is more =
        let same : e.1 ≡ file f b = cc in
        let gone : node_at es p ≡ None = ap (node_at es) ((path_same-Decides p e.0).0 at) ∙ once.0 in
        ap (λ m. is_pinned_node f (with_pin pinned m) || list_any (pins_file f) (with_pinned es p pinned)) same
        ∙ ap (λ t. (t && pinned) || list_any (pins_file f) (with_pinned es p pinned)) (same_file f)
        ∙ ap (λ rest. pinned || list_any (pins_file f) rest) (pinned_none p pinned es gone)
        ∙ ap (λ t. pinned || t) (none_pinned f es (alone_as e.1 same files.0))
        ∙ or_none pinned
    by false at is more = ap (λ t. t || list_any (pins_file f) (with_pinned es p pinned)) (pinned_named f e.1 (not_it f b p e.1 es once.1 is files.0)) ∙ more is

-- ---- names moved

pub moved_any : (test : Node → Bool) (from to : PathOf) (names : Names) → list_any (λ e. test e.1) (moved_all from to names) ≡ list_any (λ e. test e.1) names
moved_any test from to [] = refl
moved_any test from to (e ∷ es) = ap (λ b. test e.1 || b) (moved_any test from to es)

alone_moved : (from to : PathOf) (m : Node) (es : Names) → IsAlone m es → IsAlone m (moved_all from to es)
alone_moved from to dir es alone = tt
alone_moved from to (file f b) es alone = moved_any (is_file_node f) from to es ∙ alone

pub moved_files_once : (from to : PathOf) (names : Names) → HasFilesOnce names → HasFilesOnce (moved_all from to names)
moved_files_once from to [] files = tt
moved_files_once from to (e ∷ es) files = (alone_moved from to e.1 es files.0, moved_files_once from to es files.1)
