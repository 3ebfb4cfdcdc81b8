-- A walk, one component further.
use Rattle.std.proofs.Common.{◌≡◌, ℕ, ◌+◌, ◌<◌, ◌≤◌, List, [], length, take, drop, get_or, Some, Result, sym, ap, ◌∙◌, arith, length-take}
use Rattle.std.specs.Prelude.{slice_get}
use Rattle.std.proofs.lemmas.List.{drop_more, get_or-take}
use Rattle.std.proofs.lemmas.Option.{get_or_from_slice_get}
use Rattle.tl_model.specs.declared.reply.Reply.{Reply}
use Rattle.tl_model.specs.Namespace.{PathOf}
use Rattle.tl_model.specs.Replies.{and_then}
use Rattle.tl_names.specs.declared.child.Child.{Child}
use Rattle.tl_names.specs.Tables.{Dirs, step, walk_from}

pub part_of_front : (path : PathOf) (len i : ℕ) (part : List ℕ) → i < len → slice_get path i ≡ Some part → get_or (take len path) i [] ≡ part
part_of_front path len i part within found = get_or-take len path i [] within ∙ get_or_from_slice_get path i part [] found

pub walked : (dirs : Dirs) (path : PathOf) (len i : ℕ) (part : List ℕ) (child : Child) (next found : Result Child Reply) → i < len → len ≤ length path →
    slice_get path i ≡ Some part → next ≡ step dirs part child → walk_from dirs (drop i (take len path)) child ≡ found →
    and_then next (walk_from dirs (drop (i + 1) (take len path))) ≡ found
walked dirs path len i part child next found below within at is so_far =
    let here : i < length (take len path) = omega (arith, length-take {A = List ℕ}) in
    ap (λ r. and_then r (walk_from dirs (drop (i + 1) (take len path)))) is
    ∙ ap (λ p. and_then (step dirs p child) (walk_from dirs (drop (i + 1) (take len path)))) (sym (part_of_front path len i part below at))
    ∙ sym (ap (λ more. walk_from dirs more child) (drop_more (take len path) i [] here))
    ∙ so_far
