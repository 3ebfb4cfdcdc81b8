-- A past with a drop more, and what of it the drop leaves as it was.
use Rattle.std.proofs.Common.{◌≡◌, Bool, true, false, not, ◌&&◌, ◌||◌, if◌then◌else◌, None, is_some, refl, sym, ap, ◌∙◌}
use Rattle.std.specs.List.{list_any}
use Rattle.std.proofs.lemmas.Bool.{and_parts, not-true}
use Rattle.tl_types.specs.Same.{actor_same, file_same, file_same-Decides}
use Rattle.tl_types.specs.declared.actor.Actor.{Actor}
use Rattle.tl_types.specs.declared.file_id.FileId.{FileId}
use Rattle.tl_types.specs.declared.record_id.RecordId.{RecordId}
use Rattle.tl_types.specs.declared.worker_id.WorkerId.{WorkerId}
use Rattle.tl_model.specs.Past.{Past}
use Rattle.tl_model.specs.History.{is_pinned}
use Rattle.tl_model.specs.Actors.{open_read, open_claim, open_save, actors, reads_file, is_read, claims_record, is_running}
use Rattle.tl_model.specs.Residency.{is_at, place, is_resident_on, is_saved, is_available}
use Rattle.tl_model.specs.Plan.{is_wanted}
use Rattle.tl_model.specs.Eviction.{may_go}
use Rattle.tl_model.specs.Rules.{can_drop}
use Rattle.tl_laws_drops.specs.Drops.{after_drop}

-- ---- tests

pub either-same : {A : Type 0} (b : Bool) (x : A) → (if b then x else x) ≡ x
either-same true x = refl
either-same false x = refl

-- a file is another than this one, whichever is asked first
pub other-way : (f g : FileId) (b : Bool) → file_same g f ≡ b → file_same f g ≡ false → file_same g f ≡ false
other-way f g true e h = absurd (let same : file_same f g ≡ true = (file_same-Decides f g).1 (sym ((file_same-Decides g f).0 e)) in cc)
other-way f g false e h = e

-- ---- what can be dropped

-- it is in the worker's memory
pub is-there : (past : Past) (worker : WorkerId) (f : FileId) → can_drop past worker f ≡ true → is_at worker (place past f) ≡ true
is-there past worker f can = (and_parts (is_resident_on past f worker) (may_go past f) can).0

-- and isn't wanted
pub is-unwanted : (past : Past) (worker : WorkerId) (f : FileId) → can_drop past worker f ≡ true → is_wanted past f ≡ false
is-unwanted past worker f can =
    not-true (is_wanted past f)
    (and_parts (not (is_pinned past f)) (not (is_wanted past f)) (and_parts (is_resident_on past f worker) (may_go past f) can).1).1

-- ---- what is open and running

pub read-same : (actor : Actor) (worker : WorkerId) (f : FileId) (past : Past) (a : Actor) → open_read (after_drop actor worker f past) a ≡ open_read past a
read-same actor worker f past a = either-same (actor_same a actor) (open_read past a)

pub claim-same : (actor : Actor) (worker : WorkerId) (f : FileId) (past : Past) (a : Actor) → open_claim (after_drop actor worker f past) a ≡ open_claim past a
claim-same actor worker f past a = either-same (actor_same a actor) (open_claim past a)

pub save-same : (actor : Actor) (worker : WorkerId) (f : FileId) (past : Past) (a : Actor) → open_save (after_drop actor worker f past) a ≡ open_save past a
save-same actor worker f past a = either-same (actor_same a actor) (open_save past a)

pub is-read-same : (actor : Actor) (worker : WorkerId) (f : FileId) (past : Past) (g : FileId) → is_read (after_drop actor worker f past) g ≡ is_read past g
is-read-same actor worker f past g = λ i. list_any (λ a. reads_file g (read-same actor worker f past a i)) actors

pub running-same : (actor : Actor) (worker : WorkerId) (f : FileId) (past : Past) (made : RecordId) → is_running (after_drop actor worker f past) made ≡ is_running past made
running-same actor worker f past made = λ i. list_any (λ a. claims_record made (claim-same actor worker f past a i)) actors

-- ---- where files are

pub place-of-other : (actor : Actor) (worker : WorkerId) (f : FileId) (past : Past) (g : FileId) → file_same g f ≡ false →
    place (after_drop actor worker f past) g ≡ place past g
place-of-other actor worker f past g other = ap (λ b. if b && is_at worker (place past g) then None else place past g) other

-- what is dropped from where it is, is nowhere
pub place-of-dropped : (actor : Actor) (worker : WorkerId) (f : FileId) (past : Past) → is_at worker (place past f) ≡ true →
    place (after_drop actor worker f past) f ≡ None
place-of-dropped actor worker f past there =
    ap (λ b. if b && is_at worker (place past f) then None else place past f) ((file_same-Decides f f).1 refl)
    ∙ ap (λ b. if b then None else place past f) there

pub available-other : (actor : Actor) (worker : WorkerId) (f : FileId) (past : Past) (g : FileId) → file_same g f ≡ false →
    is_available (after_drop actor worker f past) g ≡ is_available past g
available-other actor worker f past g other = ap (λ here. is_some here || is_saved past g) (place-of-other actor worker f past g other)
