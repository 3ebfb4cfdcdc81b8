-- A file that is dropped while it isn't wanted changes no task.
use Rattle.std.proofs.Common.{◌≡◌, Bool, true, false, not, ◌&&◌, ◌||◌, List, [], ◌∷◌, refl, sym, ap, ◌∙◌}
use Rattle.std.specs.List.{list_any}
use Rattle.std.proofs.lemmas.Bool.{both_ways}
use Rattle.tl_types.specs.Same.{file_same, file_same-Decides}
use Rattle.tl_types.specs.declared.actor.Actor.{Actor}
use Rattle.tl_types.specs.declared.file_id.FileId.{FileId}
use Rattle.tl_types.specs.declared.record_id.RecordId.{RecordId}
use Rattle.tl_types.specs.declared.worker_id.WorkerId.{WorkerId}
use Rattle.tl_model.specs.declared.record.Record.{Record}
use Rattle.tl_model.specs.Past.{Past}
use Rattle.tl_model.specs.Tables.{Table, downward, answer_at, chosen}
use Rattle.tl_model.specs.History.{records, id_of, is_job, outputs_of, has_input, is_pinned}
use Rattle.tl_model.specs.Actors.{is_read, is_running}
use Rattle.tl_model.specs.Residency.{place, is_available, was_done}
use Rattle.tl_model.specs.Plan.{has_id, is_awaited, is_wanted_by, lacks, task_among, tasks, is_task, is_wanted}
use Rattle.tl_model.specs.Eviction.{may_go}
use Rattle.tl_laws_drops.specs.Drops.{after_drop}
use Rattle.tl_laws_drops.proofs.Drop.{is-read-same, running-same, place-of-other, available-other}

or-skip : (a b c : Bool) → (a || (b || c)) ≡ false → (a || c) ≡ false
or-skip true b c h = absurd (cc)
or-skip false true c h = absurd (cc)
or-skip false false c h = h

-- what isn't wanted by a table isn't wanted by that of the later records
later-wants-less : (past : Past) (f : FileId) (r : Record) (b : Bool) (table : Table Record Bool) → is_wanted_by past ((r, b) ∷ table) f ≡ false → is_wanted_by past table f ≡ false
later-wants-less past f r true table h = or-skip (is_read past f) (has_input f r && not (is_running past (id_of r))) (is_awaited past table f) h
later-wants-less past f r false table h = h

-- a table wants the same files
pub wanted-by-same : (actor : Actor) (worker : WorkerId) (f : FileId) (past : Past) (table : Table Record Bool) (g : FileId) →
    is_wanted_by (after_drop actor worker f past) table g ≡ is_wanted_by past table g
wanted-by-same actor worker f past table g =
    λ i. is-read-same actor worker f past g i || list_any (λ r. has_input g r && not (running-same actor worker f past (id_of r) i)) (chosen table)

lacks-at : (actor : Actor) (worker : WorkerId) (f : FileId) (past : Past) (table : Table Record Bool) → is_wanted_by past table f ≡ false →
    (g : FileId) (b : Bool) → file_same g f ≡ b → lacks (after_drop actor worker f past) table g ≡ lacks past table g
lacks-at actor worker f past table unwanted g true e =
    let later : Past = after_drop actor worker f past in
    let never : is_wanted_by past table g ≡ false = ap (is_wanted_by past table) ((file_same-Decides g f).0 e) ∙ unwanted in
    ap (λ b. b && not (is_available later g)) (wanted-by-same actor worker f past table g ∙ never) ∙ sym (ap (λ b. b && not (is_available past g)) never)
lacks-at actor worker f past table unwanted g false e =
    λ i. wanted-by-same actor worker f past table g i && not (available-other actor worker f past g e i)

-- and lacks the same
lacks-same : (actor : Actor) (worker : WorkerId) (f : FileId) (past : Past) (table : Table Record Bool) → is_wanted_by past table f ≡ false →
    (g : FileId) → lacks (after_drop actor worker f past) table g ≡ lacks past table g
lacks-same actor worker f past table unwanted g = lacks-at actor worker f past table unwanted g (file_same g f) refl

among-same : (actor : Actor) (worker : WorkerId) (f : FileId) (past : Past) (table : Table Record Bool) → is_wanted_by past table f ≡ false →
    (r : Record) → task_among (after_drop actor worker f past) table r ≡ task_among past table r
among-same actor worker f past table unwanted r =
    λ i. is_job r && (not (was_done past (id_of r)) || list_any (λ g. lacks-same actor worker f past table unwanted g i) (outputs_of r))

-- from the last record to the first
table-same : (actor : Actor) (worker : WorkerId) (f : FileId) (past : Past) (rs : List Record) → is_wanted_by past (downward (task_among past) rs) f ≡ false →
    downward (task_among (after_drop actor worker f past)) rs ≡ downward (task_among past) rs
table-same actor worker f past [] unwanted = refl
table-same actor worker f past (r ∷ rs) unwanted =
    let later : Past = after_drop actor worker f past in
    let table : Table Record Bool = downward (task_among past) rs in
    let rest : is_wanted_by past table f ≡ false = later-wants-less past f r (task_among past table r) table unwanted in
    ap (λ (u : Table Record Bool). (r, task_among later u r) ∷ u) (table-same actor worker f past rs rest)
    ∙ ap (λ (b : Bool). (r, b) ∷ table) (among-same actor worker f past table rest r)

-- ---- the law

-- what isn't wanted is dropped, and the tasks are the same
pub tasks-same : (actor : Actor) (worker : WorkerId) (f : FileId) (past : Past) → is_wanted past f ≡ false → tasks (after_drop actor worker f past) ≡ tasks past
tasks-same actor worker f past unwanted = table-same actor worker f past (records past) unwanted

pub is-task-same : (actor : Actor) (worker : WorkerId) (f : FileId) (past : Past) → is_wanted past f ≡ false →
    (made : RecordId) → is_task (after_drop actor worker f past) made ≡ is_task past made
is-task-same actor worker f past unwanted made = ap (answer_at (has_id made) false) (tasks-same actor worker f past unwanted)

pub wanted-same : (actor : Actor) (worker : WorkerId) (f : FileId) (past : Past) → is_wanted past f ≡ false →
    (g : FileId) → is_wanted (after_drop actor worker f past) g ≡ is_wanted past g
wanted-same actor worker f past unwanted g =
    ap (λ (table : Table Record Bool). is_wanted_by (after_drop actor worker f past) table g) (tasks-same actor worker f past unwanted)
    ∙ wanted-by-same actor worker f past (tasks past) g

pub may-go-same : (actor : Actor) (worker : WorkerId) (f : FileId) (past : Past) → is_wanted past f ≡ false →
    (g : FileId) → may_go (after_drop actor worker f past) g ≡ may_go past g
may-go-same actor worker f past unwanted g = ap (λ b. not (is_pinned past g) && not b) (wanted-same actor worker f past unwanted g)

-- ---- what is wanted stays where it is

apart-at : (past : Past) (f g : FileId) → is_wanted past f ≡ false → is_wanted past g ≡ true → (b : Bool) → file_same g f ≡ b → file_same g f ≡ false
apart-at past f g unwanted wanted true e =
    absurd (both_ways (is_wanted past g) (ap (is_wanted past) ((file_same-Decides g f).0 e) ∙ unwanted) wanted)
apart-at past f g unwanted wanted false e = e

-- a wanted file is another than the dropped one
pub apart : (past : Past) (f g : FileId) → is_wanted past f ≡ false → is_wanted past g ≡ true → file_same g f ≡ false
apart past f g unwanted wanted = apart-at past f g unwanted wanted (file_same g f) refl

pub wanted-stays : (actor : Actor) (worker : WorkerId) (f : FileId) (past : Past) → is_wanted past f ≡ false →
    (g : FileId) → is_wanted past g ≡ true → place (after_drop actor worker f past) g ≡ place past g
wanted-stays actor worker f past unwanted g wanted = place-of-other actor worker f past g (apart past f g unwanted wanted)

pub wanted-available : (actor : Actor) (worker : WorkerId) (f : FileId) (past : Past) → is_wanted past f ≡ false →
    (g : FileId) → is_wanted past g ≡ true → is_available (after_drop actor worker f past) g ≡ is_available past g
wanted-available actor worker f past unwanted g wanted = available-other actor worker f past g (apart past f g unwanted wanted)
