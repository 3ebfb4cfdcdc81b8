-- A call of which a file may be freed.
use Rattle.std.proofs.Common.{◌≡◌, ℕ, ◌+◌, ◌≤◌, Bool, true, false, if◌then◌else◌, List, ◌∷◌, Option, Some, None, Result, Ok, Err, refl, sym, ap, ◌∙◌, subst, arith}
use Rattle.std.proofs.lemmas.Bool.{and_from}
use Rattle.tl_types.specs.Same.{actor_same, actor_same-Decides, file_same, file_same-Decides}
use Rattle.tl_types.specs.declared.actor.Actor.{Actor}
use Rattle.tl_types.specs.declared.file_id.FileId.{FileId}
use Rattle.tl_model.specs.declared.command.Command.{Command}
use Rattle.tl_model.specs.declared.command.Command.TheVariants.{Free as free}
use Rattle.tl_model.specs.declared.reply.Reply.{Reply}
use Rattle.tl_model.specs.declared.reply.Reply.TheVariants.{Fine}
use Rattle.tl_model.specs.declared.event.Act.TheVariants.{Call, Free}
use Rattle.tl_model.specs.declared.event.Event.{Event}
use Rattle.tl_model.specs.declared.saved.Saved.{Saved as Keeping}
use Rattle.tl_model.specs.Past.{Past, events_with, without_tickets}
use Rattle.tl_model.specs.Namespace.{Names, PathOf}
use Rattle.tl_model.specs.Replies.{refusal_of, unless, walk_to_file}
use Rattle.tl_model.specs.History.{calls_of, names, names_of}
use Rattle.tl_model.specs.Actors.{open_claim, open_save}
use Rattle.tl_model.specs.Residency.{is_resident, saved_as}
use Rattle.tl_model.specs.Values.{value}
use Rattle.tl_model.specs.Rules.{Owed, Nothing, ToDrop, ToFree, is_file, lawful_judge, legal_judge, ok_file, owed_after_call, owed_free, pays, size_of}
use Rattle.tl_laws.proofs.Permits.{client-known, holds-two, permits}
use Rattle.tl_laws.proofs.Tickets.{names-with}
use Rattle.tl_fleet.specs.Workers.{all_without, found, held_count}
use Rattle.tl_fleet.proofs.Events.{free_stands}
use Rattle.tl_fleet.proofs.Found.{freed as found-freed}
use Rattle.tl_fleet.proofs.Held.{freed_fewer}
use Rattle.tl_fleet.proofs.Incarnations.{mapped_same}
use Rattle.tl_store.specs.Contents.{without}
use Rattle.tl_vault.specs.Vault.{Places}
use Rattle.tl_cluster.specs.declared.parts.calling.PutCopy.{PutCopy}
use Rattle.tl_cluster.specs.Called.{MadePut, after_call, freed, if_resident, put_made, with_freed, with_saved}
use Rattle.tl_cluster.specs.Calls.{IsCopyOfPut, workers_without}
use Rattle.tl_cluster.specs.Kept.{IsKept}
use Rattle.tl_cluster.specs.Room.{under_way}
use Rattle.tl_cluster.specs.Stands.{Agrees, PartsState}
use Rattle.tl_cluster.proofs.Calls.{IsCall, Keeps, blocks-stay, called, called_plain, is_free, jobs-stay, keeps-none, kept-stays, made-none, permitted, put-record-stays, puts-none, saved-stays, sized-stays, sound-stays, told-call, told-sized-stays}
use Rattle.tl_cluster.proofs.Carry.{if-none, same_either}
use Rattle.tl_cluster.proofs.Count.{under_way-few}
use Rattle.tl_cluster.proofs.Told.{plain-told}

-- the parts after a call
abbrev pub called_parts : {T : Type 0} → PartsState T → Actor → Command T → Reply → Places T → ℕ → PartsState T
called_parts parts actor command reply vault room = record {
  header = parts.header;
  events = after_call actor command reply parts.events;
  spare = room;
  workers = workers_without (freed parts.events command) parts.workers;
  vault = vault;
}

-- a call that is no free takes no file out of memory
not-freed : {T : Type 0} (events : List (Event T)) (command : Command T) → is_free command ≡ false → freed events command ≡ None
not-freed events (free path) other = absurd (cc)
not-freed events _ other = refl

-- a free puts nothing
free-none : (T : Type 0) (path : PathOf) (reply : Reply) → put_made {T = T} reply (free path) ≡ None
free-none T path reply = made-none reply

-- ---- a free that takes nothing away

-- a free whose path names no file in memory leaves nothing owed
owes-nothing : (T : Type 0) (past : Past) (actor : Actor) (path : PathOf) (reply : Reply) →
    owed_free past actor (walk_to_file (names past) path) Nothing ≡ Nothing → owed_after_call {T = T} past actor reply (free path) Nothing ≡ Nothing
owes-nothing T past actor path Fine h = h
owes-nothing T past actor path _ h = refl

freed-nothing : {T : Type 0} (tells : Bool) (content : T → List ℕ) (parts : PartsState T) (actor : Actor) (path : PathOf) (reply : Reply)
    (put : Option (PutCopy T)) (vault : Places T) (room : ℕ) →
    IsCall tells content parts actor (free path) reply → IsCopyOfPut content (free path) put → Keeps parts reply put vault →
    owed_free (without_tickets parts.events) actor (walk_to_file (names (without_tickets parts.events)) path) Nothing ≡ Nothing →
    48 + held_count parts.workers ≤ room →
    Agrees tells content (record parts { events = record { actor = actor; act = Call (free path) reply } ∷ parts.events; spare = room; vault = vault })
freed-nothing {T} tells content parts actor path reply put vault room c copy k owes enough =
    called_plain tells content parts actor (free path) reply put vault room c k (owes-nothing T (without_tickets parts.events) actor path reply owes)
    (λ f o. puts-none {T = T} reply (free path) f o (free-none T path reply))
    (λ f o. keeps-none content reply (free path) put f o copy (free-none T path reply)) enough

-- ---- a free of a file in memory

if-true : {A : Type 0} (b : Bool) (x y : A) → b ≡ true → (if b then x else y) ≡ x
if-true true x y h = refl
if-true false x y h = absurd (cc)

if-false : {A : Type 0} (b : Bool) (x y : A) → b ≡ false → (if b then x else y) ≡ y
if-false true x y h = absurd (cc)
if-false false x y h = refl

-- the free of this file is owed
owes-free : (past : Past) (actor : Actor) (path : PathOf) (f : FileId) (later : Owed) → walk_to_file (names past) path ≡ Ok f → is_resident past f ≡ true →
    owed_free past actor (walk_to_file (names past) path) later ≡ ToFree actor f
owes-free past actor path f later is here = ap (λ w. owed_free past actor w later) is ∙ if-true (is_resident past f) (ToFree actor f) later here

freed-file : {T : Type 0} (tells : Bool) (content : T → List ℕ) (parts : PartsState T) (actor : Actor) (path : PathOf) (f : FileId)
    (put : Option (PutCopy T)) (vault : Places T) (room : ℕ) →
    IsCall tells content parts actor (free path) Fine → Keeps parts Fine put vault →
    walk_to_file (names (without_tickets parts.events)) path ≡ Ok f → is_resident (without_tickets parts.events) f ≡ true →
    48 + held_count parts.workers ≤ room →
    Agrees tells content (record parts {
      events = record { actor = actor; act = Free f } ∷ record { actor = actor; act = Call (free path) Fine } ∷ parts.events;
      spare = room;
      workers = all_without f parts.workers;
      vault = vault;
    })
freed-file {T} tells content parts actor path f put vault room c k names_it here enough =
    let events = parts.events in
    let past : Past = without_tickets events in
    let told = events_with content events in
    let command : Command T = free path in
    let a = c.stands.agrees in
    let e : Event T = record { actor = actor; act = Call command Fine } in
    let told_e : Event (List ℕ) = record { actor = actor; act = Call (free path) Fine } in
    let next : Event T = record { actor = actor; act = Free f } in
    let told_next : Event (List ℕ) = record { actor = actor; act = Free f } in
    let me : actor_same actor actor ≡ true = (actor_same-Decides actor actor).1 refl in
    let it : file_same f f ≡ true = (file_same-Decides f f).1 refl in
    let told_past : without_tickets told ≡ past = plain-told content events in
    let told_names : walk_to_file (names (without_tickets told)) path ≡ Ok f =
    subst (λ (p : Past). walk_to_file (names p) path ≡ Ok f) (sym told_past) names_it in
    let told_here : is_resident (without_tickets told) f ≡ true = subst (λ (p : Past). is_resident p f ≡ true) (sym told_past) here in
    let few : under_way (without_tickets (next ∷ e ∷ events)) ≤ 48 = under_way-few (without_tickets (next ∷ e ∷ events)) in
    let fewer : held_count (all_without f parts.workers) ≤ held_count parts.workers = freed_fewer f parts.workers in
    record {
      lawful = holds-two lawful_judge parts.header events e next a.lawful (client-known actor c.client) (permitted tells content parts actor command Fine c)
          (ap (λ o. pays {T = T} o actor (Free f)) (owes-free past actor path f Nothing names_it here) ∙ and_from _ _ me it) (client-known actor c.client)
          (and_from _ _ (and_from _ _ me (ap (λ w. is_file (ok_file w) f) names_it ∙ it)) here) refl;
      permitted = λ tell.
          permits (legal_judge parts.header) parts.header (told_e ∷ told) told_next (told-call tells content parts actor command Fine c tell)
          (ap (λ o. pays {T = List ℕ} o actor (Free f)) (owes-free (without_tickets told) actor path f
          (if (legal_judge parts.header).owes_drop (told_e ∷ told) then ToDrop else Nothing) told_names told_here) ∙ and_from _ _ me it)
          (client-known actor c.client)
          (and_from _ _ (and_from _ _ me (ap (λ w. is_file (ok_file w) f) told_names ∙ it)) told_here);
      sized = (
        a.sized.0,
        free_stands a.sized.0 parts.header (without_tickets (e ∷ events)) parts.workers
            (sized-stays a.sized.0 parts actor command Fine a.sized.1) actor f,
      );
      told_sized = λ tell. free_stands (size_of (told_next ∷ told_e ∷ told)) parts.header (without_tickets (e ∷ events)) parts.workers
          (told-sized-stays content parts actor command Fine (a.told_sized tell)) actor f;
      blocks = λ g w b there. blocks-stay tells content parts actor command Fine c g w b
          (if-none (file_same g f) (found g parts.workers) (w, b) (sym (found-freed g f parts.workers) ∙ there));
      losses = λ w n there. a.losses w n (sym (mapped_same (without f) w.0 parts.workers) ∙ there);
      sound = sound-stays tells content parts actor command Fine c;
      kept = λ g. subst (λ (o : Option (Keeping _)). IsKept tells content (value (told_next ∷ told_e ∷ told) g) (saved_as past g) o)
          (sym (k.kept g)) (kept-stays tells content parts actor command Fine g c);
      saved = λ g known is. saved-stays tells content parts actor command Fine g known c is;
      puts = λ g p is. put-record-stays tells content parts actor command Fine g p a is;
      jobs = λ b claim e'. jobs-stay tells content parts actor command Fine c b claim
          (sym (same_either (actor_same b actor) (open_claim (without_tickets (e ∷ events)) b)) ∙ e');
      places = λ b g e'. k.places g ∙ a.places b g (sym (same_either (actor_same b actor) (open_save past b))
          ∙ sym (same_either (actor_same b actor) (open_save (without_tickets (e ∷ events)) b)) ∙ e');
      room = omega arith;
    }

-- ---- any call

-- what a free leaves, by whether the file that it names is in memory
by-place : {T : Type 0} (tells : Bool) (content : T → List ℕ) (parts : PartsState T) (actor : Actor) (path : PathOf) (reply : Reply) (f : FileId)
    (put : Option (PutCopy T)) (vault : Places T) (room : ℕ) (b : Bool) →
    IsCall tells content parts actor (free path) reply → IsCopyOfPut content (free path) put → Keeps parts reply put vault →
    walk_to_file (names (without_tickets parts.events)) path ≡ Ok f → reply ≡ Fine → is_resident (without_tickets parts.events) f ≡ b →
    48 + held_count parts.workers ≤ room →
    Agrees tells content (record {
      header = parts.header;
      events = with_freed actor (if b then Some f else None) (record { actor = actor; act = Call (free path) reply } ∷ parts.events);
      spare = room;
      workers = workers_without (if b then Some f else None) parts.workers;
      vault = vault;
    })
by-place tells content parts actor path reply f put vault room true c copy k names_it fine here enough =
    subst (λ (r : Reply). Agrees tells content (record parts {
      events = record { actor = actor; act = Free f } ∷ record { actor = actor; act = Call (free path) r } ∷ parts.events;
      spare = room;
      workers = all_without f parts.workers;
      vault = vault;
    })) (sym fine)
    (freed-file tells content parts actor path f put vault room
    (subst (λ (r : Reply). IsCall tells content parts actor (free path) r) fine c)
    (subst (λ (r : Reply). Keeps parts r put vault) fine k) names_it here enough)
by-place tells content parts actor path reply f put vault room false c copy k names_it fine here enough =
    freed-nothing tells content parts actor path reply put vault room c copy k
    (ap (λ w. owed_free (without_tickets parts.events) actor w Nothing) names_it
    ∙ if-false (is_resident (without_tickets parts.events) f) (ToFree actor f) Nothing here) enough

by-walk : {T : Type 0} (tells : Bool) (content : T → List ℕ) (parts : PartsState T) (actor : Actor) (path : PathOf) (reply : Reply)
    (put : Option (PutCopy T)) (vault : Places T) (room : ℕ) (w : Result FileId Reply) →
    IsCall tells content parts actor (free path) reply → IsCopyOfPut content (free path) put → Keeps parts reply put vault →
    walk_to_file (names_of (calls_of parts.events)) path ≡ w → 48 + held_count parts.workers ≤ room →
    Agrees tells content (record {
      header = parts.header;
      events = with_freed actor (if_resident (without_tickets parts.events) (ok_file w))
          (record { actor = actor; act = Call (free path) reply } ∷ parts.events);
      spare = room;
      workers = workers_without (if_resident (without_tickets parts.events) (ok_file w)) parts.workers;
      vault = vault;
    })
by-walk tells content parts actor path reply put vault room (Ok f) c copy k e enough =
    by-place tells content parts actor path reply f put vault room (is_resident (without_tickets parts.events) f) c copy k
    (ap (λ (n : Names). walk_to_file n path) (names-with (λ _. tt) parts.events) ∙ e)
    (c.is ∙ ap (λ w. unless (refusal_of w) Fine) e) refl enough
by-walk tells content parts actor path reply put vault room (Err refusal) c copy k e enough =
    freed-nothing tells content parts actor path reply put vault room c copy k
    (ap (λ w. owed_free (without_tickets parts.events) actor w Nothing) (ap (λ (n : Names). walk_to_file n path) (names-with (λ _. tt) parts.events) ∙ e)) enough

free_call : {T : Type 0} (tells : Bool) (content : T → List ℕ) (parts : PartsState T) (actor : Actor) (path : PathOf) (reply : Reply)
    (put : Option (PutCopy T)) (vault : Places T) (room : ℕ) →
    IsCall tells content parts actor (free path) reply → IsCopyOfPut content (free path) put → Keeps parts reply put vault →
    48 + held_count parts.workers ≤ room → Agrees tells content (called_parts parts actor (free path) reply vault room)
free_call {T} tells content parts actor path reply put vault room c copy k enough =
    let o : Option FileId = freed parts.events (free path) in
    subst (λ (m : Option MadePut). Agrees tells content (record {
      header = parts.header;
      events = with_freed actor o (with_saved actor m (record { actor = actor; act = Call (free path) reply } ∷ parts.events));
      spare = room;
      workers = workers_without o parts.workers;
      vault = vault;
    })) (sym (free-none T path reply))
    (by-walk tells content parts actor path reply put vault room (walk_to_file (names_of (calls_of parts.events)) path) c copy k refl enough)

other_call : {T : Type 0} (tells : Bool) (content : T → List ℕ) (parts : PartsState T) (actor : Actor) (command : Command T) (reply : Reply)
    (put : Option (PutCopy T)) (vault : Places T) (room : ℕ) →
    IsCall tells content parts actor command reply → IsCopyOfPut content command put → Keeps parts reply put vault →
    is_free command ≡ false → 48 + held_count parts.workers ≤ room → Agrees tells content (called_parts parts actor command reply vault room)
other_call tells content parts actor command reply put vault room c copy k other enough =
    subst (λ (o : Option FileId). Agrees tells content (record {
      header = parts.header;
      events = with_freed actor o (with_saved actor (put_made reply command) (record { actor = actor; act = Call command reply } ∷ parts.events));
      spare = room;
      workers = workers_without o parts.workers;
      vault = vault;
    })) (sym (not-freed parts.events command other))
    (called tells content parts actor command reply put vault room c copy k other enough)

-- any call, with what follows it, keeps the parts in step
pub any_call : {T : Type 0} (tells : Bool) (content : T → List ℕ) (parts : PartsState T) (actor : Actor) (command : Command T) (reply : Reply)
    (put : Option (PutCopy T)) (vault : Places T) (room : ℕ) →
    IsCall tells content parts actor command reply → IsCopyOfPut content command put → Keeps parts reply put vault →
    48 + held_count parts.workers ≤ room → Agrees tells content (called_parts parts actor command reply vault room)
any_call tells content parts actor (free path) reply put vault room c copy k enough = free_call tells content parts actor path reply put vault room c copy k enough
any_call tells content parts actor command reply put vault room c copy k enough = other_call tells content parts actor command reply put vault room c copy k refl enough
