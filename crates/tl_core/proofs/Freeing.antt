-- A call of which a file may be freed.
use Rattle.std.proofs.Common.{◌≡◌, ℕ, ◌<◌, ◌≤◌, Bool, true, false, ◌&&◌, not, if◌then◌else◌, filter, List, [], ◌∷◌, ◌++◌, length, Option, Some, None, is_some, option_map, Result, Ok, Err, refl, sym, ap, ◌∙◌, subst, arith}
use Rattle.std.specs.List.{AllByRecursion}
use Rattle.std.proofs.lemmas.Bool.{and_from}
use Rattle.tl_types.specs.Same.{actor_same, actor_same-Decides, file_same, file_same-Decides}
use Rattle.tl_types.specs.declared.actor.Actor.{Actor}
use Rattle.tl_types.specs.declared.file_id.FileId.{FileId}
use Rattle.tl_types.specs.declared.worker_id.WorkerId.{WorkerId}
use Rattle.tl_model.specs.declared.command.Command.{Command}
use Rattle.tl_model.specs.declared.command.Command.TheVariants.{Put, Job, Read, Delete, Mkdir, Rename, Pin, Unpin, List as list, Stat, Free as free}
use Rattle.tl_model.specs.declared.reply.Reply.{Reply}
use Rattle.tl_model.specs.declared.reply.Reply.TheVariants.{Made, Fine, Opened, Listed, Stated, Exists, NoSuch, NotFile, NotDir, NotEmpty, TooDeep, IntoItself, TooMany}
use Rattle.tl_model.specs.declared.event.Act.TheVariants.{Call, Free}
use Rattle.tl_model.specs.declared.event.Event.{Event}
use Rattle.tl_model.specs.declared.header.Header.{Header}
use Rattle.tl_model.specs.declared.record.Record.TheVariants as kind
use Rattle.tl_model.specs.Past.{Past, command_with, events_with, without_tickets}
use Rattle.tl_model.specs.Namespace.{Names, PathOf}
use Rattle.tl_model.specs.Replies.{refusal_of, unless, walk_to_file}
use Rattle.tl_model.specs.History.{calls_of, names, names_of, records, record_made, reply_after}
use Rattle.tl_model.specs.Actors.{is_idle, open_claim}
use Rattle.tl_model.specs.Residency.{place, is_resident}
use Rattle.tl_model.specs.Rules.{Owed, Nothing, ToFree, owed_after_call, owed_free, pays, is_file, ok_file, lawful_judge, put_has_its_bytes}
use Rattle.tl_laws.proofs.Permits.{holds-two, client-known}
use Rattle.tl_laws.proofs.Numbering.{get-within}
use Rattle.tl_laws.proofs.Tickets.{names-with}
use Rattle.tl_core.specs.declared.resident.Resident.{Resident}
use Rattle.tl_core.specs.Puts.{KeptPut, kept_by}
use Rattle.tl_core.specs.Residents.{Residents, file_held, found, worker_of, is_other, without_file}
use Rattle.tl_core.specs.Room.{under_way}
use Rattle.tl_core.specs.State.{Stands, IsHeld, undropped_judge}
use Rattle.tl_core.specs.Called.{IsFitting, MadePut, after_call, file_to_free, freed, if_resident, put_made, with_freed, with_saved}
use Rattle.tl_core.proofs.Told.{plain-told}
use Rattle.tl_core.proofs.Count.{under_way-few}
use Rattle.tl_core.proofs.Held.{all-filter, all-map, found-left}
use Rattle.tl_core.proofs.Carry.{same_either}
use Rattle.tl_core.proofs.Looking.{resident-found}
use Rattle.tl_core.proofs.Losing.{maps_either}
use Rattle.tl_core.proofs.Calling.{record-stays, value-stays}
use Rattle.tl_core.proofs.Calls.{permitted, told_permitted, called, called_plain, blocks-stay, sound-stays, jobs-stay, is_free}

-- a call that is no free takes no file out of memory
not-freed : {T : Type 0} (events : List (Event T)) (command : Command T) → is_free command ≡ false → freed events command ≡ None
not-freed events (Put path len digest ticket) h = refl
not-freed events (Job core prio inputs outputs) h = refl
not-freed events (Read path prio form) h = refl
not-freed events (Delete path) h = refl
not-freed events (Mkdir path) h = refl
not-freed events (Rename from to) h = refl
not-freed events (Pin path) h = refl
not-freed events (Unpin path) h = refl
not-freed events (list path) h = refl
not-freed events (Stat path) h = refl
not-freed events (free path) h = absurd (cc)

-- ---- a free that takes nothing away

-- a free whose path names no file in memory leaves nothing owed
owes-nothing : (T : Type 0) (past : Past) (actor : Actor) (path : PathOf) (reply : Reply) → owed_free past actor (walk_to_file (names past) path) Nothing ≡ Nothing →
    owed_after_call {T = T} past actor reply (free path) Nothing ≡ Nothing
owes-nothing T past actor path (Made made) h = refl
owes-nothing T past actor path Fine h = h
owes-nothing T past actor path (Opened g) h = refl
owes-nothing T past actor path (Listed entries) h = refl
owes-nothing T past actor path (Stated s) h = refl
owes-nothing T past actor path Exists h = refl
owes-nothing T past actor path NoSuch h = refl
owes-nothing T past actor path NotFile h = refl
owes-nothing T past actor path NotDir h = refl
owes-nothing T past actor path NotEmpty h = refl
owes-nothing T past actor path TooDeep h = refl
owes-nothing T past actor path IntoItself h = refl
owes-nothing T past actor path TooMany h = refl

-- no put is kept by it
keeps-none : {T : Type 0} (path : PathOf) (reply : Reply) (f : FileId) (o : Option (KeptPut T)) → kept_by reply (free path) f o ≡ o
keeps-none path (Made made) f o = refl
keeps-none path Fine f o = refl
keeps-none path (Opened g) f o = refl
keeps-none path (Listed entries) f o = refl
keeps-none path (Stated s) f o = refl
keeps-none path Exists f o = refl
keeps-none path NoSuch f o = refl
keeps-none path NotFile f o = refl
keeps-none path NotDir f o = refl
keeps-none path NotEmpty f o = refl
keeps-none path TooDeep f o = refl
keeps-none path IntoItself f o = refl
keeps-none path TooMany f o = refl

-- nor is a put made
makes-none : (T : Type 0) (path : PathOf) (reply : Reply) → put_made {T = T} reply (free path) ≡ None
makes-none T path (Made made) = refl
makes-none T path Fine = refl
makes-none T path (Opened g) = refl
makes-none T path (Listed entries) = refl
makes-none T path (Stated s) = refl
makes-none T path Exists = refl
makes-none T path NoSuch = refl
makes-none T path NotFile = refl
makes-none T path NotDir = refl
makes-none T path NotEmpty = refl
makes-none T path TooDeep = refl
makes-none T path IntoItself = refl
makes-none T path TooMany = refl

freed-nothing : {T : Type 0} (tells : Bool) (content : T → List ℕ) (header : Header) (events : List (Event T)) (residents : Residents) (spare room : ℕ) (actor : Actor) (path : PathOf) (reply : Reply) →
    Stands tells content header events residents spare → reply ≡ reply_after (calls_of events) (free path) → actor.0 < 8 → is_idle (without_tickets events) actor ≡ true →
    owed_free (without_tickets events) actor (walk_to_file (names (without_tickets events)) path) Nothing ≡ Nothing → 48 ≤ room →
    Stands tells content header (record { actor = actor; act = Call (free path) reply } ∷ events) residents room
freed-nothing tells content header events residents spare room actor path reply s is client idle owes enough =
    let told_owes : owed_free (without_tickets (events_with content events)) actor (walk_to_file (names (without_tickets (events_with content events))) path) Nothing ≡ Nothing =
    subst (λ (p : Past). owed_free p actor (walk_to_file (names p) path) Nothing ≡ Nothing) (sym (plain-told content events)) owes in
    called_plain tells content header events residents spare room actor (free path) reply s is client idle tt (λ tell. refl)
    (owes-nothing _ (without_tickets events) actor path reply owes) (owes-nothing _ (without_tickets (events_with content events)) actor path reply told_owes)
    (keeps-none path reply) enough

-- ---- a free of a file in memory

elsewhere : (f : FileId) (r : Resident) (place : Option WorkerId) (b : Bool) → file_same r.block.file f ≡ b → not b ≡ true → place ≡ Some r.worker → (if b then None else place) ≡ Some r.worker
elsewhere f r place true e stays at = absurd (cc)
elsewhere f r place false e stays at = at

others : (f g : FileId) (residents : Residents) → AllByRecursion (λ r. r.block.file ≡ g → is_other f r ≡ not (file_same g f)) residents
others f g [] = tt
others f g (r ∷ residents) = (λ same. ap (λ (h : FileId). not (file_same h f)) same, others f g residents)

found-other : (f g : FileId) (residents : Residents) → found g (filter (is_other f) residents) ≡ (if not (file_same g f) then found g residents else None)
found-other f g residents = found-left g (not (file_same g f)) (is_other f) residents (others f g residents)

if-true : {A : Type 0} (b : Bool) (x y : A) → b ≡ true → (if b then x else y) ≡ x
if-true true x y h = refl
if-true false x y h = absurd (cc)

if-false : {A : Type 0} (b : Bool) (x y : A) → b ≡ false → (if b then x else y) ≡ y
if-false true x y h = absurd (cc)
if-false false x y h = refl

-- the free of this file is owed
owes-free : (past : Past) (actor : Actor) (path : PathOf) (f : FileId) → walk_to_file (names past) path ≡ Ok f → is_resident past f ≡ true →
    owed_free past actor (walk_to_file (names past) path) Nothing ≡ ToFree actor f
owes-free past actor path f is here = ap (λ w. owed_free past actor w Nothing) is ∙ if-true (is_resident past f) (ToFree actor f) Nothing here

freed-file : {T : Type 0} (tells : Bool) (content : T → List ℕ) (header : Header) (events : List (Event T)) (residents : Residents) (spare room : ℕ) (actor : Actor) (path : PathOf) (f : FileId) →
    Stands tells content header events residents spare → Fine ≡ reply_after (calls_of events) (free path) → actor.0 < 8 → is_idle (without_tickets events) actor ≡ true →
    walk_to_file (names (without_tickets events)) path ≡ Ok f → is_resident (without_tickets events) f ≡ true → 48 ≤ room →
    Stands tells content header (record { actor = actor; act = Free f } ∷ record { actor = actor; act = Call (free path) Fine } ∷ events) (filter (is_other f) residents) room
freed-file {T} tells content header events residents spare room actor path f s is client idle names_it here enough =
    let past : Past = without_tickets events in
    let command : Command _ = free path in
    let told : List (Event (List ℕ)) = events_with content events in
    let e : Event _ = record { actor = actor; act = Call command Fine } in
    let told_e : Event (List ℕ) = record { actor = actor; act = Call (free path) Fine } in
    let next : Event _ = record { actor = actor; act = Free f } in
    let told_next : Event (List ℕ) = record { actor = actor; act = Free f } in
    let me : actor_same actor actor ≡ true = (actor_same-Decides actor actor).1 refl in
    let it : file_same f f ≡ true = (file_same-Decides f f).1 refl in
    let told_names : walk_to_file (names (without_tickets told)) path ≡ Ok f =
    subst (λ (p : Past). walk_to_file (names p) path ≡ Ok f) (sym (plain-told content events)) names_it in
    let told_here : is_resident (without_tickets told) f ≡ true = subst (λ (p : Past). is_resident p f ≡ true) (sym (plain-told content events)) here in
    record {
      lawful = holds-two lawful_judge header events e next s.lawful (client-known actor client) (permitted header events actor command Fine is client idle)
          (ap (λ o. pays {T = T} o actor (Free f)) (owes-free past actor path f names_it here) ∙ and_from _ _ me it) (client-known actor client)
          (and_from _ _ (and_from _ _ me (ap (λ w. is_file (ok_file w) f) names_it ∙ it)) here) refl;
      told = λ tell. holds-two (undropped_judge header) header told told_e told_next (s.told tell) (client-known actor client)
          (told_permitted content header events actor command Fine is client idle refl)
          (ap (λ o. pays {T = List ℕ} o actor (Free f)) (owes-free (without_tickets told) actor path f told_names told_here) ∙ and_from _ _ me it) (client-known actor client)
          (and_from _ _ (and_from _ _ me (ap (λ w. is_file (ok_file w) f) told_names ∙ it)) told_here) refl;
      places = λ g. ap (option_map worker_of) (found-other f g residents) ∙ maps_either worker_of (file_same g f) (found g residents)
          ∙ ap (λ (w : Option WorkerId). if file_same g f then None else w) (s.places g);
      blocks = all-filter (IsHeld tells content (e ∷ events)) (IsHeld tells content (next ∷ e ∷ events)) (is_other f)
          (λ r h stays. (elsewhere f r (place past r.block.file) (file_same r.block.file f) refl stays h.0, h.1)) residents
          (blocks-stay tells content header events residents spare room actor command Fine s is);
      sound = sound-stays tells content header events residents spare room actor command Fine s is tt;
      saved = s.saved;
      puts = λ g put k.
          let old = s.puts g put k in (
            record-stays (records past) (record_made Fine (command_with {U = Unit {0}} (λ _. tt) command) (names past)) g.rec.0 (kind.Put g.rec) old.0,
            value-stays content events actor command Fine g (get-within (records past) g.rec.0 (kind.Put g.rec) old.0) ∙ old.1,
          );
      whole = s.whole;
      jobs = λ a claim k. jobs-stay tells content header events residents spare room actor command Fine s a claim
          (sym (same_either (actor_same a actor) (open_claim (without_tickets (e ∷ events)) a)) ∙ k);
      room = let few : under_way (without_tickets (next ∷ e ∷ events)) ≤ 48 = under_way-few (without_tickets (next ∷ e ∷ events)) in omega arith;
    }

-- ---- any call

-- what a free leaves, by the walk of its path and by whether the file is in memory
by-place : {T : Type 0} (tells : Bool) (content : T → List ℕ) (header : Header) (events : List (Event T)) (residents : Residents) (spare room : ℕ) (actor : Actor) (path : PathOf) (reply : Reply)
    (f : FileId) (b : Bool) →
    Stands tells content header events residents spare → reply ≡ reply_after (calls_of events) (free path) → actor.0 < 8 → is_idle (without_tickets events) actor ≡ true →
    walk_to_file (names (without_tickets events)) path ≡ Ok f → reply ≡ Fine → is_resident (without_tickets events) f ≡ b → 48 ≤ room →
    Stands tells content header (with_freed actor (if b then Some f else None) (record { actor = actor; act = Call (free path) reply } ∷ events))
    (without_file (if b then Some f else None) residents) room
by-place tells content header events residents spare room actor path reply f true s is client idle names_it fine here enough =
    subst (λ (r : Reply). Stands tells content header (record { actor = actor; act = Free f } ∷ record { actor = actor; act = Call (free path) r } ∷ events) (filter (is_other f) residents) room) (sym fine)
    (freed-file tells content header events residents spare room actor path f s (sym fine ∙ is) client idle names_it here enough)
by-place tells content header events residents spare room actor path reply f false s is client idle names_it fine here enough =
    freed-nothing tells content header events residents spare room actor path reply s is client idle
    (ap (λ w. owed_free (without_tickets events) actor w Nothing) names_it ∙ if-false (is_resident (without_tickets events) f) (ToFree actor f) Nothing here) enough

by-walk : {T : Type 0} (tells : Bool) (content : T → List ℕ) (header : Header) (events : List (Event T)) (residents : Residents) (spare room : ℕ) (actor : Actor) (path : PathOf) (reply : Reply)
    (w : Result FileId Reply) →
    Stands tells content header events residents spare → reply ≡ reply_after (calls_of events) (free path) → actor.0 < 8 → is_idle (without_tickets events) actor ≡ true →
    walk_to_file (names_of (calls_of events)) path ≡ w → 48 ≤ room →
    Stands tells content header (with_freed actor (if_resident (without_tickets events) (ok_file w)) (record { actor = actor; act = Call (free path) reply } ∷ events))
    (without_file (if_resident (without_tickets events) (ok_file w)) residents) room
by-walk tells content header events residents spare room actor path reply (Ok f) s is client idle e enough =
    by-place tells content header events residents spare room actor path reply f (is_resident (without_tickets events) f) s is client idle
    (ap (λ (n : Names). walk_to_file n path) (names-with (λ _. tt) events) ∙ e) (is ∙ ap (λ w. unless (refusal_of w) Fine) e) refl enough
by-walk tells content header events residents spare room actor path reply (Err refusal) s is client idle e enough =
    freed-nothing tells content header events residents spare room actor path reply s is client idle
    (ap (λ w. owed_free (without_tickets events) actor w Nothing) (ap (λ (n : Names). walk_to_file n path) (names-with (λ _. tt) events) ∙ e)) enough

freed_call : {T : Type 0} (tells : Bool) (content : T → List ℕ) (header : Header) (events : List (Event T)) (residents : Residents) (spare room : ℕ) (actor : Actor) (path : PathOf) (reply : Reply) →
    Stands tells content header events residents spare → reply ≡ reply_after (calls_of events) (free path) → actor.0 < 8 → is_idle (without_tickets events) actor ≡ true → 48 ≤ room →
    Stands tells content header (after_call actor (free path) reply events) (without_file (freed events (free path)) residents) room
freed_call {T} tells content header events residents spare room actor path reply s is client idle enough =
    let o : Option FileId = freed events (free path) in
    subst (λ (put : Option MadePut). Stands tells content header (with_freed actor o (with_saved actor put (record { actor = actor; act = Call (free path) reply } ∷ events))) (without_file o residents) room)
    (sym (makes-none T path reply))
    (by-walk tells content header events residents spare room actor path reply (walk_to_file (names_of (calls_of events)) path) s is client idle refl enough)

other_call : {T : Type 0} (tells : Bool) (content : T → List ℕ) (header : Header) (events : List (Event T)) (residents : Residents) (spare room : ℕ) (actor : Actor) (command : Command T) (reply : Reply) →
    Stands tells content header events residents spare → reply ≡ reply_after (calls_of events) command → actor.0 < 8 → is_idle (without_tickets events) actor ≡ true →
    IsFitting command → (tells ≡ true → put_has_its_bytes (command_with content command) ≡ true) → is_free command ≡ false → 48 ≤ room →
    Stands tells content header (after_call actor command reply events) (without_file (freed events command) residents) room
other_call tells content header events residents spare room actor command reply s is client idle fits bytes other enough =
    subst (λ (o : Option FileId). Stands tells content header (with_freed actor o (with_saved actor (put_made reply command) (record { actor = actor; act = Call command reply } ∷ events)))
    (without_file o residents) room) (sym (not-freed events command other))
    (called tells content header events residents spare room actor command reply s is client idle fits bytes other enough)

pub any_call : {T : Type 0} (tells : Bool) (content : T → List ℕ) (header : Header) (events : List (Event T)) (residents : Residents) (spare room : ℕ) (actor : Actor) (command : Command T) (reply : Reply) →
    Stands tells content header events residents spare → reply ≡ reply_after (calls_of events) command → actor.0 < 8 → is_idle (without_tickets events) actor ≡ true →
    IsFitting command → (tells ≡ true → put_has_its_bytes (command_with content command) ≡ true) → 48 ≤ room →
    Stands tells content header (after_call actor command reply events) (without_file (freed events command) residents) room
any_call tells content header events residents spare room actor (Put path len digest ticket) reply s is client idle fits bytes enough =
    other_call tells content header events residents spare room actor (Put path len digest ticket) reply s is client idle fits bytes refl enough
any_call tells content header events residents spare room actor (Job core prio inputs outputs) reply s is client idle fits bytes enough =
    other_call tells content header events residents spare room actor (Job core prio inputs outputs) reply s is client idle fits bytes refl enough
any_call tells content header events residents spare room actor (Read path prio form) reply s is client idle fits bytes enough =
    other_call tells content header events residents spare room actor (Read path prio form) reply s is client idle fits bytes refl enough
any_call tells content header events residents spare room actor (Delete path) reply s is client idle fits bytes enough =
    other_call tells content header events residents spare room actor (Delete path) reply s is client idle fits bytes refl enough
any_call tells content header events residents spare room actor (Mkdir path) reply s is client idle fits bytes enough =
    other_call tells content header events residents spare room actor (Mkdir path) reply s is client idle fits bytes refl enough
any_call tells content header events residents spare room actor (Rename from to) reply s is client idle fits bytes enough =
    other_call tells content header events residents spare room actor (Rename from to) reply s is client idle fits bytes refl enough
any_call tells content header events residents spare room actor (Pin path) reply s is client idle fits bytes enough =
    other_call tells content header events residents spare room actor (Pin path) reply s is client idle fits bytes refl enough
any_call tells content header events residents spare room actor (Unpin path) reply s is client idle fits bytes enough =
    other_call tells content header events residents spare room actor (Unpin path) reply s is client idle fits bytes refl enough
any_call tells content header events residents spare room actor (list path) reply s is client idle fits bytes enough =
    other_call tells content header events residents spare room actor (list path) reply s is client idle fits bytes refl enough
any_call tells content header events residents spare room actor (Stat path) reply s is client idle fits bytes enough =
    other_call tells content header events residents spare room actor (Stat path) reply s is client idle fits bytes refl enough
any_call tells content header events residents spare room actor (free path) reply s is client idle fits bytes enough =
    freed_call tells content header events residents spare room actor path reply s is client idle enough

-- ---- a file that a free names is in memory where it is found

pub freed-held : {T : Type 0} (tells : Bool) (content : T → List ℕ) (header : Header) (events : List (Event T)) (residents : Residents) (spare : ℕ) (o : Option FileId) →
    Stands tells content header events residents spare → file_held residents o ≡ if_resident (without_tickets events) o
freed-held tells content header events residents spare None s = refl
freed-held tells content header events residents spare (Some f) s =
    ap (λ b. if b then Some f else None) (sym (resident-found tells content header events residents spare f (found f residents) s refl))
