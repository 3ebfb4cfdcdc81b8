-- The events that a turn adds are its actor's.
use Rattle.std.proofs.Common.{◌≡◌, ◌≢◌, ◌⊎◌, inl, inr, ℕ, zero, suc, Bool, true, false, List, [], ◌∷◌, Option, Some, None, refl, sym, ap, ◌∙◌, subst, arith}
use Rattle.std.proofs.lemmas.List.Elements.{All-cons}
use Rattle.tl_types.specs.Block.{FileOutcome}
use Rattle.tl_types.specs.declared.actor.Actor.{Actor}
use Rattle.tl_types.specs.declared.file_id.FileId.{FileId}
use Rattle.tl_types.specs.declared.worker_id.WorkerId.{WorkerId}
use Rattle.tl_model.specs.declared.command.Command.{Command}
use Rattle.tl_model.specs.declared.reply.Reply.{Reply}
use Rattle.tl_model.specs.declared.event.Act.{Act}
use Rattle.tl_model.specs.declared.event.Act.TheVariants.{Back, Call, Claim, Collect, Done, Drop, Free, Load, Save, Saved, Served}
use Rattle.tl_model.specs.declared.event.Event.{Event}
use Rattle.tl_model.specs.Residency.{is_resident}
use Rattle.tl_laws_drops.specs.Drops.{with_drops}
use Rattle.tl_turn.specs.Log.{IsAddedBy}
use Rattle.tl_turn.proofs.Logs.{adds_none}
use Rattle.tl_cluster.specs.declared.look.Look.{Look}
use Rattle.tl_cluster.specs.declared.look.Look.TheVariants as look
use Rattle.tl_cluster.specs.declared.saving.SaveJob.{SaveJob}
use Rattle.tl_cluster.specs.declared.work.Finish.{Finish}
use Rattle.tl_cluster.specs.declared.work.Finish.TheVariants as finish
use Rattle.tl_cluster.specs.declared.work.Work.{Work}
use Rattle.tl_cluster.specs.Called.{Called, MadePut, after_call, freed, put_made, with_freed, with_saved}
use Rattle.tl_cluster.specs.Collected.{LetGo}
use Rattle.tl_cluster.specs.Losses.{incarnation}
use Rattle.tl_cluster.specs.Looks.{IsServed, Loaded, Looked}
use Rattle.tl_cluster.specs.Saves.{Begun}
use Rattle.tl_cluster.specs.State.{State, past_of}
use Rattle.tl_cluster.specs.Turned.{Turned}
use Rattle.tl_cluster.specs.Works.{Claimed, Finished}
use Rattle.tl_seats.specs.Seats.{number_of}

-- the actor's turn left the header, and added events of the actor alone
pub record IsItsTurn {T : Type 0} (actor : Actor) (old new : State T) : Type 0 where
  pub header : new.header ≡ old.header
  pub added : IsAddedBy number_of actor.0 old.events new.events

pub one-more : {T : Type 0} (actor : Actor) (act : Act T) (seen log : List (Event T)) → IsAddedBy number_of actor.0 seen log →
    IsAddedBy number_of actor.0 seen (record { actor = actor; act = act } ∷ log)
one-more {T} actor act seen log (added, is, all) =
    let e : Event T = record { actor = actor; act = act } in
    (e ∷ added, ap (λ (l : List (Event T)). e ∷ l) is, All-cons (λ (x : Event T). number_of x ≡ actor.0) e added refl all)

drops-more : {T : Type 0} (actor : Actor) (ds : List (WorkerId × FileId)) (seen log : List (Event T)) → IsAddedBy number_of actor.0 seen log →
    IsAddedBy number_of actor.0 seen (with_drops actor ds log)
drops-more actor [] seen log h = h
drops-more actor (d ∷ ds) seen log h = one-more actor (Drop d.0 d.1) seen (with_drops actor ds log) (drops-more actor ds seen log h)

pub turned : {T : Type 0} (actor : Actor) (old new : State T) (main : List (Event T)) (blocks : FileId → Option FileOutcome) →
    IsAddedBy number_of actor.0 old.events main → Turned actor old main blocks new → IsItsTurn actor old new
turned {T} actor old new main blocks own t = record {
  header = t.header;
  added = subst (λ (es : List (Event T)). IsAddedBy number_of actor.0 old.events es) (sym t.events) (drops-more actor t.drops old.events main own);
}

pub one-turned : {T : Type 0} (actor : Actor) (act : Act T) (old new : State T) (blocks : FileId → Option FileOutcome) →
    Turned actor old (record { actor = actor; act = act } ∷ old.events) blocks new → IsItsTurn actor old new
one-turned actor act old new blocks t =
    turned actor old new _ blocks (one-more actor act old.events old.events (adds_none number_of actor.0 old.events)) t

pub nothing : {T : Type 0} (actor : Actor) (old new : State T) → new ≡ old → IsItsTurn actor old new
nothing {T} actor old new same =
    subst (λ (s : State T). IsItsTurn actor old s) (sym same) (record { header = refl; added = adds_none number_of actor.0 old.events })

-- ---- each turn

saved-more : {T : Type 0} (actor : Actor) (put : Option MadePut) (seen log : List (Event T)) → IsAddedBy number_of actor.0 seen log →
    IsAddedBy number_of actor.0 seen (with_saved actor put log)
saved-more actor None seen log h = h
saved-more actor (Some put) seen log h = one-more actor (Saved put.file put.len put.digest) seen log h

freed-more : {T : Type 0} (actor : Actor) (f : Option FileId) (seen log : List (Event T)) → IsAddedBy number_of actor.0 seen log →
    IsAddedBy number_of actor.0 seen (with_freed actor f log)
freed-more actor None seen log h = h
freed-more actor (Some f) seen log h = one-more actor (Free f) seen log h

pub call-adds : {T : Type 0} (actor : Actor) (command : Command T) (reply : Reply) (events : List (Event T)) →
    IsAddedBy number_of actor.0 events (after_call actor command reply events)
call-adds {T} actor command reply events =
    let called : List (Event T) = record { actor = actor; act = Call command reply } ∷ events in
    freed-more actor (freed events command) events (with_saved actor (put_made reply command) called)
    (saved-more actor (put_made reply command) events called
    (one-more actor (Call command reply) events events (adds_none number_of actor.0 events)))

pub call-leaves : {T : Type 0} (actor : Actor) (old new : State T) (command : Command T) (answer : ℕ × Reply) → Called old new actor command answer →
    IsItsTurn actor old new
call-leaves actor old new command answer c = turned actor old new _ _ (call-adds actor command answer.1 old.events) c.2

pub look-leaves : {T : Type 0} (tells : Bool) (content : T → List ℕ) (actor : Actor) (f : FileId) (old new : State T) (found : Look T) →
    Looked tells content old new actor f found → IsItsTurn actor old new
look-leaves tells content actor f old new (look.Have block) l = one-turned actor (Served block.file l.2.0) old new _ l.2.2
look-leaves tells content actor f old new (look.Saved saved) l = nothing actor old new l.2
look-leaves tells content actor f old new look.NotYet l = nothing actor old new l.1

is-so-or-not : (b : Bool) → (b ≡ true) ⊎ (b ≡ false)
is-so-or-not true = inl refl
is-so-or-not false = inr refl

served-leaves : {T : Type 0} (actor : Actor) (answer : FileOutcome) (old new : State T) (events : List (Event T)) (blocks : FileId → Option FileOutcome) →
    IsAddedBy number_of actor.0 old.events events → IsServed old new actor answer events blocks → IsItsTurn actor old new
served-leaves actor answer old new events blocks own s =
    turned actor old new _ blocks (one-more actor (Served answer.file s.0) old.events events own) s.2

pub load-leaves : {T : Type 0} (actor : Actor) (worker : WorkerId) (block answer : FileOutcome) (old new : State T) →
    Loaded old new actor worker block answer → IsItsTurn actor old new
load-leaves {T} actor worker block answer old new l =
    let none : IsAddedBy number_of actor.0 old.events old.events = adds_none number_of actor.0 old.events in
    elim (is-so-or-not (is_resident (past_of old) block.file)) [
      | inl there ↦ served-leaves actor answer old new old.events _ none (l.0 there).1
      | inr gone ↦
          served-leaves actor block old new (record { actor = actor; act = Load worker block.file } ∷ old.events) _
          (one-more actor (Load worker block.file) old.events old.events none) (l.1 gone).1
    ]

pub claim-leaves : {T : Type 0} (tells : Bool) (content : T → List ℕ) (actor : Actor) (worker : WorkerId) (old new : State T) (work : Option (Work T)) →
    Claimed tells content old new actor worker work → IsItsTurn actor old new
claim-leaves tells content actor worker old new None c = nothing actor old new c.1
claim-leaves tells content actor worker old new (Some work) c = one-turned actor (Claim worker work.rec) old new _ c.1

pub done-leaves : {T : Type 0} (work : Work T) (blocks : List FileOutcome) (old new : State T) (ended : Finish) →
    Finished old new work blocks ended → IsItsTurn work.actor old new
done-leaves work blocks old new finish.Installed d = one-turned work.actor (Done work.worker work.rec) old new _ d.1
done-leaves work blocks old new (finish.Void at_claim now) d = nothing work.actor old new d.3

pub same-or-not : (a b : ℕ) → (a ≡ b) ⊎ (a ≢ b)
same-or-not zero zero = inl refl
same-or-not zero (suc b) = inr (λ e. absurd (omega arith))
same-or-not (suc a) zero = inr (λ e. absurd (omega arith))
same-or-not (suc a) (suc b) = elim (same-or-not a b) [ inl e ↦ inl (ap suc e) | inr apart ↦ inr (λ e. apart (omega arith)) ]

pub back-leaves : {T : Type 0} (work : Work T) (old new : State T) (blocks : FileId → Option FileOutcome) →
    (incarnation old.events work.worker ≡ work.incarnation → Turned work.actor old (record { actor = work.actor; act = Back work.rec } ∷ old.events) blocks new) →
    (incarnation old.events work.worker ≢ work.incarnation → new ≡ old) → IsItsTurn work.actor old new
back-leaves work old new blocks stands lost =
    elim (same-or-not (incarnation old.events work.worker) work.incarnation) [
      | inl same ↦ one-turned work.actor (Back work.rec) old new blocks (stands same)
      | inr other ↦ nothing work.actor old new (lost other)
    ]

pub begun-leaves : {T : Type 0} (actor : Actor) (old new : State T) (job : Option SaveJob) → Begun old new actor job → IsItsTurn actor old new
begun-leaves actor old new None b = nothing actor old new b.1
begun-leaves actor old new (Some job) b = one-turned actor (Save job.block.file) old new _ b.4

pub let-go-leaves : {T : Type 0} (actor : Actor) (k : ℕ) (old new : State T) → LetGo actor k old new → IsItsTurn actor old new
let-go-leaves actor zero old new same = nothing actor old new same
let-go-leaves {T} actor (suc k) old new l =
    let before = let-go-leaves actor k old l.0 l.1 in
    let t = l.2.2 in
    record {
      header = t.header ∙ before.header;
      added = subst (λ (es : List (Event T)). IsAddedBy number_of actor.0 old.events es) (sym t.events)
          (drops-more actor t.drops old.events (record { actor = actor; act = Collect l.2.0 } ∷ l.0.events)
          (one-more actor (Collect l.2.0) old.events l.0.events before.added));
    }

-- what the seat owes when it leaves
pub leaving : {T : Type 0} (actor : Actor) (number : ℕ) (seen : List (Event T)) (old new : State T) → number ≡ actor.0 → seen ≡ old.events →
    IsItsTurn actor old new → IsAddedBy number_of number seen new.events
leaving {T} actor number seen old new same found t =
    subst (λ (n : ℕ). IsAddedBy number_of n seen new.events) (sym same)
    (subst (λ (es : List (Event T)). IsAddedBy number_of actor.0 es new.events) (sym found) t.added)
