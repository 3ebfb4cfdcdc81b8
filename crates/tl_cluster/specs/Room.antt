-- How much is under way: the open reads, claims and saves of all actors.
use Rattle.std.specs.Prelude.{ℕ, ◌+◌, List, [], ◌∷◌, Option, Some, None}
use Rattle.tl_types.specs.declared.actor.Actor.{Actor}
use Rattle.tl_model.specs.Past.{Past}
use Rattle.tl_model.specs.Actors.{open_read, open_claim, open_save, actors}

abbrev pub one_if_some : {A : Type 0} → Option A → ℕ
one_if_some None = 0
one_if_some (Some a) = 1

abbrev pub under_way_of : Past → Actor → ℕ
under_way_of past actor =
    one_if_some (open_read past actor) + one_if_some (open_claim past actor)
    + one_if_some (open_save past actor)

abbrev pub total_of : (Actor → ℕ) → List Actor → ℕ
total_of count [] = 0
total_of count (actor ∷ rest) = count actor + total_of count rest

abbrev pub under_way : Past → ℕ
under_way past = total_of (under_way_of past) actors
