-- The file that is saved next, from its Save to its end.
use Rattle.std.proofs.Common.{◌≡◌, ℕ, Bool, true, List, [], ◌∷◌, length, Option, Some, None, if◌then◌else◌, refl, sym, ap, ◌∙◌, subst}
use Rattle.std.specs.List.{list_all}
use Rattle.tl_types.specs.declared.actor.Actor.{Actor}
use Rattle.tl_types.specs.declared.file_id.FileId.{FileId}
use Rattle.tl_types.specs.declared.worker_id.WorkerId.{WorkerId}
use Rattle.tl_model.specs.declared.event.Act.{Act}
use Rattle.tl_model.specs.declared.event.Act.TheVariants.{Save, Unsave}
use Rattle.tl_model.specs.declared.event.Event.{Event}
use Rattle.tl_model.specs.Actors.{is_idle, open_save, save_after}
use Rattle.tl_model.specs.Checkpoints.{next_save}
use Rattle.tl_model.specs.Past.{act_with, events_with, without_tickets}
use Rattle.tl_model.specs.Values.{value}
use Rattle.tl_laws_drops.specs.Drops.{DropsFollow}
use Rattle.tl_laws_drops.proofs.ManyDrops.{save-kept}
use Rattle.tl_laws_drops.proofs.Tickets.{drops-without-tickets}
use Rattle.tl_cluster.specs.declared.saving.SaveJob.{SaveJob}
use Rattle.tl_cluster.specs.Saves.{saving}
use Rattle.tl_desk.specs.Finds.{Finds, Post, Turns, is_any}
use Rattle.tl_desk.specs.Turns.{Begins, IsBlockOf, with_act}
use Rattle.tl_pieces.specs.Setting.{Setting, Events, event_by}
use Rattle.tl_pieces.specs.Counts.{GivenUp, IsKeptAs, IsSave, Kept, SaveEnd, save_ending, save_of, saved_as}
use Rattle.tl_pieces.proofs.Adding.{added-then}
use Rattle.tl_pieces.proofs.Others.{save-stays}
use Rattle.tl_pieces.proofs.Pieced.{save-adds}
use Rattle.tl_work.specs.declared.error.WorkError.{WorkError}
use Rattle.tl_work.specs.declared.error.WorkError.TheVariants.{StoreFault, Damaged, NoMemory}
use Rattle.tl_work.specs.Saves.{SaveFails, SavesNext, is_undamaged}
use Rattle.tl_work.specs.Setting.{setting}
use Rattle.tl_work.proofs.Finding.{drops-add, found-adds, same-actor}
use Rattle.tl_work.proofs.Open.{closed-left, has-idle, idle-has, leaves_claim, leaves_read, reads-left}
use Rattle.tl_work.proofs.TakingUp.{values-left}

abbrev pub IsFirst : {T : Type 0} → Bool → (T → List ℕ) → Post → SaveJob → Events T → Type 0
IsFirst tells content post job found =
    (next_save post.header (without_tickets found) ≡ Some job.block.file)
    × (job.place ≡ length found)
    × IsBlockOf tells content found job.block.file job.block

abbrev pub BeginsWith : {T : Type 0} → Bool → Bool → (T → List ℕ) → Post → Events T → Events T → SaveJob → Type 0
BeginsWith whole tells content post seen mid job = Begins whole tells content post seen mid (Some job)

pub begun-with : {T : Type 0} (whole tells : Bool) (content : T → List ℕ) (post : Post) (seen mid : Events T) (answer : Option SaveJob) (job : SaveJob) →
    answer ≡ Some job → Begins whole tells content post seen mid answer → BeginsWith whole tells content post seen mid job
begun-with whole tells content post seen mid answer job is b =
    subst (λ (o : Option SaveJob). Begins whole tells content post seen mid o) is b

pub none-begun : {T : Type 0} (whole tells : Bool) (content : T → List ℕ) (post : Post) (seen mid : Events T) (answer : Option SaveJob) →
    answer ≡ None → Begins whole tells content post seen mid answer →
    Finds whole post.actor seen mid × (next_save post.header (without_tickets mid) ≡ None)
none-begun {T} whole tells content post seen mid answer is b =
    let none : Begins whole tells content post seen mid None = subst (λ (o : Option SaveJob). Begins whole tells content post seen mid o) is b in
    (none.finds, none.so)

-- what an act of the actor leaves of its save, and drops after it
save-turned : {T : Type 0} (actor : Actor) (act : Act T) (found new : Events T) → DropsFollow actor (event_by actor act ∷ found) new →
    open_save (without_tickets new) actor ≡ save_after (act_with {U = Unit {0}} (λ _. tt) act) (open_save (without_tickets found) actor)
save-turned {T} actor act found new d =
    ap (λ (es : Events T). open_save (without_tickets es) actor) d.1
    ∙ ap (λ past. open_save past actor) (drops-without-tickets actor d.0 (event_by actor act ∷ found))
    ∙ save-kept actor d.0 (without_tickets (event_by actor act ∷ found)) actor
    ∙ ap (λ b. if b then save_after (act_with {U = Unit {0}} (λ _. tt) act) (open_save (without_tickets found) actor) else open_save (without_tickets found) actor) (same-actor actor)

pub save-open : {T : Type 0} (whole tells : Bool) (content : T → List ℕ) (post : Post) (seen mid : Events T) (job : SaveJob) →
    BeginsWith whole tells content post seen mid job → open_save (without_tickets mid) job.actor ≡ Some job.block.file
save-open whole tells content post seen mid job b =
    ap (open_save (without_tickets mid)) b.0 ∙ save-turned post.actor (Save job.block.file) b.1.found mid b.1.turned

pub save-value : {T : Type 0} (whole tells : Bool) (content : T → List ℕ) (post : Post) (seen mid : Events T) (job : SaveJob) →
    BeginsWith whole tells content post seen mid job → tells ≡ true → job.block.outcome ≡ value (events_with content mid) job.block.file
save-value {T} whole tells content post seen mid job b told =
    b.1.so.2.1 told
    ∙ sym (ap (λ (es : Events T). value (events_with content es) job.block.file) b.1.turned.1
    ∙ values-left content post.actor b.1.turned.0 (event_by post.actor (Save job.block.file) ∷ b.1.found) job.block.file)

-- a save that was begun and ended so
ended-save : {T : Type 0} (whole tells : Bool) (content : T → List ℕ) (post : Post) (worker : WorkerId) (seen mid found after : Events T) (job : SaveJob) (end : SaveEnd) →
    (b : BeginsWith whole tells content post seen mid job) → Finds whole post.actor mid found →
    DropsFollow post.actor (event_by post.actor (save_ending job.block.file end) ∷ found) after →
    IsKeptAs (setting whole tells content post worker) b.1.found job.block.file end →
    IsSave (setting whole tells content post worker) (record { file = job.block.file; end = end }) seen after
ended-save {T} whole tells content post worker seen mid found after job end b finds turned told =
    let s : Setting T = setting whole tells content post worker in
    let begun : Events T = event_by post.actor (Save job.block.file) ∷ b.1.found in
    record {
      found_at = b.1.found;
      ended_at = found;
      found = found-adds s seen b.1.found b.1.finds;
      first = b.1.so.0;
      begun = added-then s [] begun mid found (drops-add s begun mid b.1.turned) (found-adds s mid found finds);
      ended = drops-add s (event_by post.actor (save_ending job.block.file end) ∷ found) after turned;
      told = told;
    }

pub saved-next : {T : Type 0} (whole tells : Bool) (content : T → List ℕ) (post : Post) (worker : WorkerId) (seen mid after : Events T) (job : SaveJob) →
    BeginsWith whole tells content post seen mid job → Turns whole job.actor mid after is_any (saving job) →
    SavesNext (setting whole tells content post worker) seen after true
saved-next {T} whole tells content post worker seen mid after job b t =
    let act : Act T = saved_as job.block.file job.block.outcome in
    let finds : Finds whole post.actor mid t.found = subst (λ (a : Actor). Finds whole a mid t.found) b.0 t.finds in
    let turned : DropsFollow post.actor (event_by post.actor act ∷ t.found) after =
    subst (λ (a : Actor). DropsFollow a (event_by a act ∷ t.found) after) b.0 t.turned in
    (job.block.file, job.block.outcome, ended-save whole tells content post worker seen mid t.found after job (Kept job.block.outcome) b finds turned b.1.so.2.1)

pub unsaved-next : {T : Type 0} (whole tells : Bool) (content : T → List ℕ) (post : Post) (worker : WorkerId) (seen mid after : Events T) (job : SaveJob) →
    BeginsWith whole tells content post seen mid job → Turns whole job.actor mid after is_any (with_act job.actor (Unsave job.block.file)) →
    IsSave (setting whole tells content post worker) (record { file = job.block.file; end = GivenUp }) seen after
unsaved-next {T} whole tells content post worker seen mid after job b t =
    let act : Act T = Unsave job.block.file in
    let finds : Finds whole post.actor mid t.found = subst (λ (a : Actor). Finds whole a mid t.found) b.0 t.finds in
    let turned : DropsFollow post.actor (event_by post.actor act ∷ t.found) after =
    subst (λ (a : Actor). DropsFollow a (event_by a act ∷ t.found) after) b.0 t.turned in
    ended-save whole tells content post worker seen mid t.found after job GivenUp b finds turned tt

ends-leave-read : (T : Type 0) (actor : Actor) (f : FileId) (end : SaveEnd) →
    list_all (λ (e : Event T). leaves_read e.act) (save_of {T = T} actor (record { file = f; end = end })) ≡ true
ends-leave-read T actor f (Kept outcome) = refl
ends-leave-read T actor f GivenUp = refl

ends-leave-claim : (T : Type 0) (actor : Actor) (f : FileId) (end : SaveEnd) →
    list_all (λ (e : Event T). leaves_claim e.act) (save_of {T = T} actor (record { file = f; end = end })) ≡ true
ends-leave-claim T actor f (Kept outcome) = refl
ends-leave-claim T actor f GivenUp = refl

ends-save : (T : Type 0) (f : FileId) (end : SaveEnd) (o : Option FileId) → save_after (act_with {T = T} {U = Unit {0}} (λ _. tt) (save_ending f end)) o ≡ None
ends-save T f (Kept outcome) o = refl
ends-save T f GivenUp o = refl

-- after it its actor is idle
pub save-idle : {T : Type 0} (s : Setting T) (f : FileId) (end : SaveEnd) (before after : Events T) → is_idle (without_tickets before) s.actor ≡ true →
    IsSave s (record { file = f; end = end }) before after → is_idle (without_tickets after) s.actor ≡ true
save-idle {T} s f end before after idle save =
    let has = idle-has (without_tickets before) s.actor idle in
    let adds = save-adds s (record { file = f; end = end }) before after save in
    let act : Act T = save_ending f end in
    has-idle (without_tickets after) s.actor
    (reads-left s _ before after (ends-leave-read T s.actor f end) adds ∙ has.read)
    (closed-left s _ before after (ends-leave-claim T s.actor f end) adds has.claim)
    (save-stays s (event_by s.actor act ∷ save.ended_at) after save.ended
    ∙ ap (λ b. if b then save_after (act_with {U = Unit {0}} (λ _. tt) act) (open_save (without_tickets save.ended_at) s.actor) else open_save (without_tickets save.ended_at) s.actor) (same-actor s.actor)
    ∙ ends-save T f end (open_save (without_tickets save.ended_at) s.actor))

-- why a save was given up
pub save-fails : {T : Type 0} (s : Setting T) (f : FileId) (before after : Events T) (error : WorkError) → is_undamaged error →
    IsSave s (record { file = f; end = GivenUp }) before after → SaveFails s before after error
save-fails s f before after StoreFault u save = (f, save)
save-fails s f before after (Damaged damage) u save = absurd u
save-fails s f before after NoMemory u save = (save_of s.actor (record { file = f; end = GivenUp }), save-adds s (record { file = f; end = GivenUp }) before after save)
