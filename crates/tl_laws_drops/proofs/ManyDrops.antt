-- A list of drops, each of a file that may go at its time.
use Rattle.std.proofs.Common.{◌≡◌, Bool, true, false, ◌||◌, List, [], ◌∷◌, None, refl, ap, ◌∙◌}
use Rattle.tl_types.specs.Same.{file_same, file_same-Decides}
use Rattle.tl_types.specs.declared.actor.Actor.{Actor}
use Rattle.tl_types.specs.declared.file_id.FileId.{FileId}
use Rattle.tl_types.specs.declared.worker_id.WorkerId.{WorkerId}
use Rattle.tl_model.specs.declared.header.OrderRule.{OrderRule}
use Rattle.tl_model.specs.Past.{Past}
use Rattle.tl_model.specs.History.{calls_of, records}
use Rattle.tl_model.specs.Actors.{open_read, open_claim, open_save}
use Rattle.tl_model.specs.Residency.{place, saved_as, is_available}
use Rattle.tl_model.specs.Plan.{tasks, is_wanted, prios, ready, next}
use Rattle.tl_model.specs.Eviction.{may_go}
use Rattle.tl_laws_drops.proofs.Drop.{is-there, is-unwanted, read-same, claim-same, save-same, place-of-other, place-of-dropped}
use Rattle.tl_laws_drops.proofs.TasksKept.{tasks-same, wanted-same, may-go-same, wanted-stays, wanted-available}
use Rattle.tl_laws_drops.specs.Drops.{HasOneOfEach}
use Rattle.tl_laws_drops.proofs.Choosing.{prios-same, ready-same, next-same}
use Rattle.tl_laws_drops.specs.Drops.{drops_by, MayDrop, is_among}

first-unwanted : (actor : Actor) (d : WorkerId × FileId) (ds : List (WorkerId × FileId)) (past : Past) → MayDrop actor (d ∷ ds) past → is_wanted (drops_by actor ds past) d.1 ≡ false
first-unwanted actor d ds past may = is-unwanted (drops_by actor ds past) d.0 d.1 may.0

-- ---- what no drop concerns

pub calls-kept : (actor : Actor) (ds : List (WorkerId × FileId)) (past : Past) → calls_of (drops_by actor ds past) ≡ calls_of past
calls-kept actor [] past = refl
calls-kept actor (d ∷ ds) past = calls-kept actor ds past

pub saved-kept : (actor : Actor) (ds : List (WorkerId × FileId)) (past : Past) (g : FileId) → saved_as (drops_by actor ds past) g ≡ saved_as past g
saved-kept actor [] past g = refl
saved-kept actor (d ∷ ds) past g = saved-kept actor ds past g

pub read-kept : (actor : Actor) (ds : List (WorkerId × FileId)) (past : Past) (a : Actor) → open_read (drops_by actor ds past) a ≡ open_read past a
read-kept actor [] past a = refl
read-kept actor (d ∷ ds) past a = read-same actor d.0 d.1 (drops_by actor ds past) a ∙ read-kept actor ds past a

pub claim-kept : (actor : Actor) (ds : List (WorkerId × FileId)) (past : Past) (a : Actor) → open_claim (drops_by actor ds past) a ≡ open_claim past a
claim-kept actor [] past a = refl
claim-kept actor (d ∷ ds) past a = claim-same actor d.0 d.1 (drops_by actor ds past) a ∙ claim-kept actor ds past a

pub save-kept : (actor : Actor) (ds : List (WorkerId × FileId)) (past : Past) (a : Actor) → open_save (drops_by actor ds past) a ≡ open_save past a
save-kept actor [] past a = refl
save-kept actor (d ∷ ds) past a = save-same actor d.0 d.1 (drops_by actor ds past) a ∙ save-kept actor ds past a

-- ---- tasks, and what is wanted

pub tasks-kept : (actor : Actor) (ds : List (WorkerId × FileId)) (past : Past) → MayDrop actor ds past → tasks (drops_by actor ds past) ≡ tasks past
tasks-kept actor [] past may = refl
tasks-kept actor (d ∷ ds) past may = tasks-same actor d.0 d.1 (drops_by actor ds past) (first-unwanted actor d ds past may) ∙ tasks-kept actor ds past may.1

pub wanted-kept : (actor : Actor) (ds : List (WorkerId × FileId)) (past : Past) → MayDrop actor ds past → (g : FileId) → is_wanted (drops_by actor ds past) g ≡ is_wanted past g
wanted-kept actor [] past may g = refl
wanted-kept actor (d ∷ ds) past may g = wanted-same actor d.0 d.1 (drops_by actor ds past) (first-unwanted actor d ds past may) g ∙ wanted-kept actor ds past may.1 g

pub may-go-kept : (actor : Actor) (ds : List (WorkerId × FileId)) (past : Past) → MayDrop actor ds past → (g : FileId) → may_go (drops_by actor ds past) g ≡ may_go past g
may-go-kept actor [] past may g = refl
may-go-kept actor (d ∷ ds) past may g = may-go-same actor d.0 d.1 (drops_by actor ds past) (first-unwanted actor d ds past may) g ∙ may-go-kept actor ds past may.1 g

pub wanted-place-kept : (actor : Actor) (ds : List (WorkerId × FileId)) (past : Past) → MayDrop actor ds past →
    (g : FileId) → is_wanted past g ≡ true → place (drops_by actor ds past) g ≡ place past g
wanted-place-kept actor [] past may g wanted = refl
wanted-place-kept actor (d ∷ ds) past may g wanted =
    wanted-stays actor d.0 d.1 (drops_by actor ds past) (first-unwanted actor d ds past may) g (wanted-kept actor ds past may.1 g ∙ wanted)
    ∙ wanted-place-kept actor ds past may.1 g wanted

pub wanted-available-kept : (actor : Actor) (ds : List (WorkerId × FileId)) (past : Past) → MayDrop actor ds past →
    (g : FileId) → is_wanted past g ≡ true → is_available (drops_by actor ds past) g ≡ is_available past g
wanted-available-kept actor [] past may g wanted = refl
wanted-available-kept actor (d ∷ ds) past may g wanted =
    wanted-available actor d.0 d.1 (drops_by actor ds past) (first-unwanted actor d ds past may) g (wanted-kept actor ds past may.1 g ∙ wanted)
    ∙ wanted-available-kept actor ds past may.1 g wanted

-- ---- where the others are, and the dropped ones

or-both-false : (a b : Bool) → (a || b) ≡ false → (a ≡ false) × (b ≡ false)
or-both-false true b h = absurd (cc)
or-both-false false b h = (refl, h)

pub other-kept : (actor : Actor) (ds : List (WorkerId × FileId)) (past : Past) (g : FileId) → is_among g ds ≡ false → place (drops_by actor ds past) g ≡ place past g
other-kept actor [] past g none = refl
other-kept actor (d ∷ ds) past g none =
    let parts = or-both-false (file_same g d.1) (is_among g ds) none in
    place-of-other actor d.0 d.1 (drops_by actor ds past) g parts.0 ∙ other-kept actor ds past g parts.1

dropped-first : (actor : Actor) (d : WorkerId × FileId) (ds : List (WorkerId × FileId)) (past : Past) → MayDrop actor (d ∷ ds) past → (g : FileId) (b : Bool) → file_same g d.1 ≡ b →
    (is_among g ds ≡ true → place (drops_by actor ds past) g ≡ None) → (b || is_among g ds) ≡ true → place (drops_by actor (d ∷ ds) past) g ≡ None
dropped-first actor d ds past may g true e rest is =
    ap (place (drops_by actor (d ∷ ds) past)) ((file_same-Decides g d.1).0 e)
    ∙ place-of-dropped actor d.0 d.1 (drops_by actor ds past) (is-there (drops_by actor ds past) d.0 d.1 may.0)
dropped-first actor d ds past may g false e rest is = place-of-other actor d.0 d.1 (drops_by actor ds past) g e ∙ rest is

pub dropped-nowhere : (actor : Actor) (ds : List (WorkerId × FileId)) (past : Past) → MayDrop actor ds past → (g : FileId) → is_among g ds ≡ true → place (drops_by actor ds past) g ≡ None
dropped-nowhere actor [] past may g is = absurd (cc)
dropped-nowhere actor (d ∷ ds) past may g is = dropped-first actor d ds past may g (file_same g d.1) refl (dropped-nowhere actor ds past may.1 g) is

-- ---- priorities, and what is next

one-kept : (actor : Actor) (ds : List (WorkerId × FileId)) (past : Past) → HasOneOfEach (records past) → HasOneOfEach (records (drops_by actor ds past))
one-kept actor [] past one = one
one-kept actor (d ∷ ds) past one = one-kept actor ds past one

pub prios-kept : (actor : Actor) (ds : List (WorkerId × FileId)) (past : Past) → MayDrop actor ds past → HasOneOfEach (records past) → prios (drops_by actor ds past) ≡ prios past
prios-kept actor [] past may one = refl
prios-kept actor (d ∷ ds) past may one =
    prios-same actor d.0 d.1 (drops_by actor ds past) (first-unwanted actor d ds past may) (one-kept actor ds past one) ∙ prios-kept actor ds past may.1 one

pub ready-kept : (actor : Actor) (ds : List (WorkerId × FileId)) (past : Past) → MayDrop actor ds past → HasOneOfEach (records past) → ready (drops_by actor ds past) ≡ ready past
ready-kept actor [] past may one = refl
ready-kept actor (d ∷ ds) past may one =
    ready-same actor d.0 d.1 (drops_by actor ds past) (first-unwanted actor d ds past may) (one-kept actor ds past one) ∙ ready-kept actor ds past may.1 one

pub next-kept : (order : OrderRule) (actor : Actor) (ds : List (WorkerId × FileId)) (past : Past) → MayDrop actor ds past → HasOneOfEach (records past) → next order (drops_by actor ds past) ≡ next order past
next-kept order actor [] past may one = refl
next-kept order actor (d ∷ ds) past may one =
    next-same order actor d.0 d.1 (drops_by actor ds past) (first-unwanted actor d ds past may) (one-kept actor ds past one) ∙ next-kept order actor ds past may.1 one
