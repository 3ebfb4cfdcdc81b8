-- The turn of a call.
use Rattle.std.proofs.Common.{◌≡◌, ℕ, ◌<◌, ◌≤◌, ◌==◌, Bool, true, false, ◌&&◌, ◌||◌, if◌then◌else◌, List, [], ◌∷◌, ◌++◌, length, slice_get, Option, Some, option_map, unwrap_or, refl, sym, ap, ◌∙◌, subst, arith, length-append}
use Rattle.std.specs.List.{AllByRecursion}
use Rattle.std.specs.Option.{option_and_then}
use Rattle.std.proofs.lemmas.Bool.{and_from, and_parts, lt-ltb}
use Rattle.std.proofs.lemmas.Bool.Decides.{Decides-eqb}
use Rattle.std.proofs.lemmas.Slice.Eq.{bytes_eq-Decides}
use Rattle.sha2.specs.Sha256.{sha256}
use Rattle.tl_types.specs.Outcome.{outcome_size, digest_of}
use Rattle.tl_types.specs.Same.{actor_same, actor_same-Decides, file_same, file_same-Decides, digest_same-Decides}
use Rattle.tl_types.specs.declared.actor.Actor.{Actor}
use Rattle.tl_types.specs.declared.digest.Digest.{Digest}
use Rattle.tl_types.specs.declared.file_id.FileId.{FileId}
use Rattle.tl_types.specs.declared.record_id.RecordId.{RecordId}
use Rattle.tl_types.specs.declared.outcome.Outcome.{Outcome}
use Rattle.tl_types.specs.declared.outcome.Outcome.TheVariants.{Value}
use Rattle.tl_model.specs.declared.command.Command.{Command}
use Rattle.tl_model.specs.declared.command.Command.TheVariants.{Put, Job, Read, Delete, Mkdir, Rename, Pin, Unpin, List as list, Stat, Free as free}
use Rattle.tl_model.specs.declared.reply.Reply.{Reply}
use Rattle.tl_model.specs.declared.reply.Reply.TheVariants.{Made, Fine, Opened, Listed, Stated, Exists, NoSuch, NotFile, NotDir, NotEmpty, TooDeep, IntoItself, TooMany}
use Rattle.tl_model.specs.declared.event.Act.TheVariants.{Call, Saved}
use Rattle.tl_model.specs.declared.event.Event.{Event}
use Rattle.tl_model.specs.declared.header.Header.{Header}
use Rattle.tl_model.specs.declared.record.Record.TheVariants as kind
use Rattle.tl_model.specs.Past.{Past, command_with, events_with, without_tickets}
use Rattle.tl_model.specs.Namespace.{PathOf}
use Rattle.tl_model.specs.Replies.{reply_same}
use Rattle.tl_model.specs.History.{calls_of, names, names_of, records, records_of, record_made, record_at, reply_after}
use Rattle.tl_model.specs.Actors.{OpenClaim, open_claim, open_save, is_idle, saves_file}
use Rattle.tl_model.specs.Values.{outcomes_of, value, no_outcome}
use Rattle.tl_model.specs.Rules.{Nothing, owed_after_call, is_permitted, lawful_judge, put_has_its_bytes, put_of, has_digest, has_size_and_digest, digest_is, size_of}
use Rattle.tl_laws.proofs.Permits.{holds-one, holds-two, client-known}
use Rattle.tl_laws.proofs.Numbering.{get-last, get-within}
use Rattle.tl_laws.proofs.Refusals.{put_made as put-number}
use Rattle.tl_laws.proofs.Tickets.{records-with, reply_after-with}
use Rattle.tl_core.specs.Residents.{Residents}
use Rattle.tl_core.specs.Puts.{KeptPut, kept_put, kept_by, as_saved, IsWhole}
use Rattle.tl_core.specs.Room.{under_way}
use Rattle.tl_core.specs.State.{Stands, IsHeld, IsSound, IsJobAt, undropped_judge}
use Rattle.tl_core.specs.Called.{put_made, with_saved, IsFitting}
use Rattle.tl_core.proofs.Told.{plain-told}
use Rattle.tl_core.proofs.Count.{under_way-few}
use Rattle.tl_core.proofs.Held.{all-map}
use Rattle.tl_core.proofs.Carry.{same_either}
use Rattle.tl_core.proofs.Calling.{reply-same, put-stays, sound-made, fitting-plain, record-stays, all-append, value-stays, outcome-count}

same-reply : {T : Type 0} (events : List (Event T)) (command : Command T) (reply : Reply) → reply ≡ reply_after (calls_of events) command →
    reply_same (reply_after (calls_of events) command) reply ≡ true
same-reply events command reply is = ap (reply_same (reply_after (calls_of events) command)) is ∙ reply-same (reply_after (calls_of events) command)

pub permitted : {T : Type 0} (header : Header) (events : List (Event T)) (actor : Actor) (command : Command T) (reply : Reply) →
    reply ≡ reply_after (calls_of events) command → actor.0 < 8 → is_idle (without_tickets events) actor ≡ true →
    is_permitted lawful_judge header events (without_tickets events) actor (Call command reply) ≡ true
permitted header events actor command reply is client idle =
    and_from _ _ (and_from _ _ (and_from _ _ (lt-ltb actor.0 8 client) idle) refl) (same-reply events command reply is)

pub told_permitted : {T : Type 0} (content : T → List ℕ) (header : Header) (events : List (Event T)) (actor : Actor) (command : Command T) (reply : Reply) →
    reply ≡ reply_after (calls_of events) command → actor.0 < 8 → is_idle (without_tickets events) actor ≡ true → put_has_its_bytes (command_with content command) ≡ true →
    is_permitted (undropped_judge header) header (events_with content events) (without_tickets (events_with content events)) actor (Call (command_with content command) reply) ≡ true
told_permitted content header events actor command reply is client idle bytes =
    let told_idle : is_idle (without_tickets (events_with content events)) actor ≡ true =
    subst (λ (p : Past). is_idle p actor ≡ true) (sym (plain-told content events)) idle in
    and_from _ _ (and_from _ _ (and_from _ _ (lt-ltb actor.0 8 client) told_idle) bytes)
    (ap (λ (r : Reply). reply_same r reply) (reply_after-with content events command) ∙ same-reply events command reply is)

-- ---- what a call leaves of what was known

pub blocks-stay : {T : Type 0} (tells : Bool) (content : T → List ℕ) (header : Header) (events : List (Event T)) (residents : Residents) (spare room : ℕ) (actor : Actor) (command : Command T) (reply : Reply) →
    Stands tells content header events residents spare → reply ≡ reply_after (calls_of events) command →
    AllByRecursion (IsHeld tells content (record { actor = actor; act = Call command reply } ∷ events)) residents
blocks-stay tells content header events residents spare room actor command reply s is =
    let past : Past = without_tickets events in
    let more = record_made reply (command_with {U = Unit {0}} (λ _. tt) command) (names past) in
    all-map (IsHeld tells content events) (IsHeld tells content (record { actor = actor; act = Call command reply } ∷ events))
    (λ r h.
    let known : r.block.file.rec.0 < length (records past) = h.1.0 in
    let counted : length (records past) ≡ length (records_of (calls_of events)) = ap length (records-with (λ _. tt) events) in
    let longer : r.block.file.rec.0 < length (records past ++ more) = omega (arith, length-append (records past) more) in
    let before : r.block.file.rec.0 < length (records_of (calls_of events)) = omega arith in (
      h.0,
      (
        longer,
        ap (λ o. has_digest o (record { 0 = digest_of r.block.outcome }))
            (put-stays reply command (names_of (calls_of events)) (length (records_of (calls_of events))) r.block.file (put_of events r.block.file) (same-reply events command reply is) before) ∙ h.1.1,
        λ tell. h.1.2 tell ∙ sym (value-stays content events actor command reply r.block.file known),
      ),
    ))
    residents s.blocks

pub sound-stays : {T : Type 0} (tells : Bool) (content : T → List ℕ) (header : Header) (events : List (Event T)) (residents : Residents) (spare room : ℕ) (actor : Actor) (command : Command T) (reply : Reply) →
    Stands tells content header events residents spare → reply ≡ reply_after (calls_of events) command → IsFitting command →
    AllByRecursion IsSound (records (without_tickets (record { actor = actor; act = Call command reply } ∷ events)))
sound-stays tells content header events residents spare room actor command reply s is fits =
    let past : Past = without_tickets events in
    let plain = command_with {U = Unit {0}} (λ _. tt) command in
    all-append IsSound (records past) (record_made reply plain (names past)) s.sound
    (sound-made reply plain (names past) (length (records past)) (is ∙ sym (reply_after-with (λ _. tt) events command)) (fitting-plain (λ _. tt) command fits))

pub jobs-stay : {T : Type 0} (tells : Bool) (content : T → List ℕ) (header : Header) (events : List (Event T)) (residents : Residents) (spare room : ℕ) (actor : Actor) (command : Command T) (reply : Reply) →
    Stands tells content header events residents spare → (a : Actor) (claim : OpenClaim) →
    open_claim (without_tickets (record { actor = actor; act = Call command reply } ∷ events)) a ≡ Some claim →
    IsJobAt (without_tickets (record { actor = actor; act = Call command reply } ∷ events)) claim.made
jobs-stay tells content header events residents spare room actor command reply s a claim e =
    let past : Past = without_tickets events in
    let job = s.jobs a claim (sym (same_either (actor_same a actor) (open_claim past a)) ∙ e) in
    (job.0, record-stays (records past) (record_made reply (command_with {U = Unit {0}} (λ _. tt) command) (names past)) claim.made.0 job.0 job.1, job.2)

-- ---- a call that is no accepted put

pub called_plain : {T : Type 0} (tells : Bool) (content : T → List ℕ) (header : Header) (events : List (Event T)) (residents : Residents) (spare room : ℕ) (actor : Actor) (command : Command T) (reply : Reply) →
    Stands tells content header events residents spare → reply ≡ reply_after (calls_of events) command → actor.0 < 8 → is_idle (without_tickets events) actor ≡ true →
    IsFitting command → (tells ≡ true → put_has_its_bytes (command_with content command) ≡ true) →
    owed_after_call (without_tickets events) actor reply command Nothing ≡ Nothing →
    owed_after_call (without_tickets (events_with content events)) actor reply (command_with content command) Nothing ≡ Nothing →
    ((f : FileId) (o : Option (KeptPut T)) → kept_by reply command f o ≡ o) → 48 ≤ room →
    Stands tells content header (record { actor = actor; act = Call command reply } ∷ events) residents room
called_plain tells content header events residents spare room actor command reply s is client idle fits bytes owes told_owes kept enough =
    let past : Past = without_tickets events in
    let e : Event _ = record { actor = actor; act = Call command reply } in
    let told_e : Event (List ℕ) = record { actor = actor; act = Call (command_with content command) reply } in
    record {
      lawful = holds-one lawful_judge header events e s.lawful (client-known actor client) (permitted header events actor command reply is client idle) owes;
      told = λ tell. holds-one (undropped_judge header) header (events_with content events) told_e (s.told tell) (client-known actor client)
          (told_permitted content header events actor command reply is client idle (bytes tell)) told_owes;
      places = s.places;
      blocks = blocks-stay tells content header events residents spare room actor command reply s is;
      sound = sound-stays tells content header events residents spare room actor command reply s is fits;
      saved = λ f. s.saved f ∙ ap (option_map as_saved) (sym (kept f (kept_put events f)));
      puts = λ f put k.
          let old = s.puts f put (sym (kept f (kept_put events f)) ∙ k) in (
            record-stays (records past) (record_made reply (command_with {U = Unit {0}} (λ _. tt) command) (names past)) f.rec.0 (kind.Put f.rec) old.0,
            value-stays content events actor command reply f (get-within (records past) f.rec.0 (kind.Put f.rec) old.0) ∙ old.1,
          );
      whole = λ f put k. s.whole f put (sym (kept f (kept_put events f)) ∙ k);
      jobs = jobs-stay tells content header events residents spare room actor command reply s;
      room = let few : under_way (without_tickets (record { actor = actor; act = Call command reply } ∷ events)) ≤ 48 =
          under_way-few (without_tickets (record { actor = actor; act = Call command reply } ∷ events)) in omega arith;
    }

-- ---- an accepted put

or-true : (a b : Bool) → b ≡ true → (a || b) ≡ true
or-true true b h = refl
or-true false b h = h

if-true : {A : Type 0} (b : Bool) (x y : A) → b ≡ true → (if b then x else y) ≡ x
if-true true x y h = refl
if-true false x y h = absurd (cc)

new-value : {T : Type 0} (content : T → List ℕ) (events : List (Event T)) (actor : Actor) (path : PathOf) (len : ℕ) (digest : Digest) (ticket : T) (made : RecordId) →
    made.0 ≡ length (records (without_tickets events)) →
    value (events_with content (record { actor = actor; act = Call (Put path len digest ticket) (Made made) } ∷ events)) (record { rec = made; out = 0 }) ≡ Value (content ticket)
new-value content events actor path len digest ticket made is =
    let table = outcomes_of (calls_of (events_with content events)) in
    ap (λ (o : Option (List Outcome)). unwrap_or (option_and_then (λ (outcomes : List Outcome). slice_get outcomes 0) o) no_outcome)
    (get-last table (Value (content ticket) ∷ []) made.0 (is ∙ sym (outcome-count content events)))

saved-if : {T : Type 0} (b : Bool) (put : KeptPut T) (o : Option (KeptPut T)) →
    (if b then Some (as_saved put) else option_map as_saved o) ≡ option_map as_saved (if b then Some put else o)
saved-if true put o = refl
saved-if false put o = refl

puts-if : {T : Type 0} (content : T → List ℕ) (events : List (Event T)) (actor : Actor) (path : PathOf) (len : ℕ) (digest : Digest) (ticket : T) (made : RecordId)
    (f : FileId) (o : Option (KeptPut T)) (put : KeptPut T) (b : Bool) → file_same f (record { rec = made; out = 0 }) ≡ b →
    made.0 ≡ length (records (without_tickets events)) →
    (o ≡ Some put → (record_at (without_tickets events) f.rec ≡ Some (kind.Put f.rec)) × (value (events_with content events) f ≡ Value (content put.ticket))) →
    (if b then Some (record { ticket = ticket; len = len; digest = digest }) else o) ≡ Some put →
    (record_at (without_tickets (record { actor = actor; act = Call (Put path len digest ticket) (Made made) } ∷ events)) f.rec ≡ Some (kind.Put f.rec))
    × (value (events_with content (record { actor = actor; act = Call (Put path len digest ticket) (Made made) } ∷ events)) f ≡ Value (content put.ticket))
puts-if content events actor path len digest ticket made f o put true e is old k =
    let same : f ≡ record { rec = made; out = 0 } = (file_same-Decides f (record { rec = made; out = 0 })).0 e in
    let it : record { ticket = ticket; len = len; digest = digest } ≡ put = cc in (
      subst (λ (g : FileId). record_at (without_tickets (record { actor = actor; act = Call (Put path len digest ticket) (Made made) } ∷ events)) g.rec ≡ Some (kind.Put g.rec)) (sym same)
          (get-last (records (without_tickets events)) (kind.Put made) made.0 is),
      ap (value (events_with content (record { actor = actor; act = Call (Put path len digest ticket) (Made made) } ∷ events))) same
          ∙ new-value content events actor path len digest ticket made is ∙ ap (λ (p : KeptPut _). Value (content p.ticket)) it,
    )
puts-if content events actor path len digest ticket made f o put false e is old k =
    let was = old k in
    let past : Past = without_tickets events in (
      record-stays (records past) (kind.Put made ∷ []) f.rec.0 (kind.Put f.rec) was.0,
      value-stays content events actor (Put path len digest ticket) (Made made) f (get-within (records past) f.rec.0 (kind.Put f.rec) was.0) ∙ was.1,
    )

whole-if : {T : Type 0} (tells : Bool) (content : T → List ℕ) (path : PathOf) (len : ℕ) (digest : Digest) (ticket : T) (o : Option (KeptPut T)) (put : KeptPut T) (b : Bool) →
    len ≤ 1048576 → (tells ≡ true → put_has_its_bytes (Put path len digest (content ticket)) ≡ true) → (o ≡ Some put → IsWhole tells content put) →
    (if b then Some (record { ticket = ticket; len = len; digest = digest }) else o) ≡ Some put → IsWhole tells content put
whole-if tells content path len digest ticket o put true fits bytes old k =
    let it : record { ticket = ticket; len = len; digest = digest } ≡ put = cc in
    subst (λ (p : KeptPut _). IsWhole tells content p) it (
      fits,
      λ tell.
          let parts = and_parts (len == length (content ticket)) (digest_is (Value (content ticket)) digest) (bytes tell) in (
            sym ((Decides-eqb len (length (content ticket))).0 parts.0),
            (bytes_eq-Decides (sha256 (content ticket)) digest.0).0 parts.1,
          ),
    )
whole-if tells content path len digest ticket o put false fits bytes old k = old k

called_put : {T : Type 0} (tells : Bool) (content : T → List ℕ) (header : Header) (events : List (Event T)) (residents : Residents) (spare room : ℕ) (actor : Actor) (path : PathOf) (len : ℕ) (digest : Digest) (ticket : T) (made : RecordId) →
    Stands tells content header events residents spare → Made made ≡ reply_after (calls_of events) (Put path len digest ticket) → actor.0 < 8 → is_idle (without_tickets events) actor ≡ true →
    len ≤ 1048576 → (tells ≡ true → put_has_its_bytes (Put path len digest (content ticket)) ≡ true) → 48 ≤ room →
    Stands tells content header (record { actor = actor; act = Saved (record { rec = made; out = 0 }) len digest }
    ∷ record { actor = actor; act = Call (Put path len digest ticket) (Made made) } ∷ events) residents room
called_put tells content header events residents spare room actor path len digest ticket made s is client idle fits bytes enough =
    let past : Past = without_tickets events in
    let f : FileId = record { rec = made; out = 0 } in
    let command : Command _ = Put path len digest ticket in
    let e : Event _ = record { actor = actor; act = Call command (Made made) } in
    let told_e : Event (List ℕ) = record { actor = actor; act = Call (Put path len digest (content ticket)) (Made made) } in
    let next : Event _ = record { actor = actor; act = Saved f len digest } in
    let told_next : Event (List ℕ) = record { actor = actor; act = Saved f len digest } in
    let same = same-reply events command (Made made) is in
    let number : made ≡ record { 0 = length (records_of (calls_of events)) } =
    put-number (names_of (calls_of events)) (length (records_of (calls_of events))) path len digest ticket made same in
    let at : made.0 ≡ length (records past) = ap (λ (r : RecordId). r.0) number ∙ sym (ap length (records-with (λ _. tt) events)) in
    let me : actor_same actor actor ≡ true = (actor_same-Decides actor actor).1 refl in
    let it : file_same f f ≡ true = (file_same-Decides f f).1 refl in
    let pay : (actor_same actor actor && file_same f f) ≡ true = and_from _ _ me it in
    let lawful_saves : has_size_and_digest (put_of (e ∷ events) f) len digest ≡ true =
    ap (λ (o : Option (ℕ × Digest)). has_size_and_digest o len digest) (if-true (file_same f f) (Some (len, digest)) (put_of events f) it)
    ∙ and_from _ _ ((Decides-eqb len len).1 refl) ((digest_same-Decides digest digest).1 refl) in
    record {
      lawful = holds-two lawful_judge header events e next s.lawful (client-known actor client) (permitted header events actor command (Made made) is client idle) pay (client-known actor client)
          (and_from _ _ (or-true (saves_file f (open_save (without_tickets (e ∷ events)) actor)) _ pay) lawful_saves) refl;
      told = λ tell.
          let told = events_with content events in
          let val : value (told_e ∷ told) f ≡ Value (content ticket) = new-value content events actor path len digest ticket made at in
          let parts = and_parts (len == length (content ticket)) (digest_is (Value (content ticket)) digest) (bytes tell) in
          let size : (size_of (told_e ∷ told) f == len) ≡ true =
          (Decides-eqb (size_of (told_e ∷ told) f) len).1 (ap outcome_size val ∙ sym ((Decides-eqb len (length (content ticket))).0 parts.0)) in
          let digests : digest_is (value (told_e ∷ told) f) digest ≡ true = ap (λ (o : Outcome). digest_is o digest) val ∙ parts.1 in
          holds-two (undropped_judge header) header told told_e told_next (s.told tell) (client-known actor client)
          (told_permitted content header events actor command (Made made) is client idle (bytes tell)) pay (client-known actor client)
          (and_from _ _ (or-true (saves_file f (open_save (without_tickets (told_e ∷ told)) actor)) _ pay) (and_from _ _ size digests)) refl;
      places = s.places;
      blocks = blocks-stay tells content header events residents spare room actor command (Made made) s is;
      sound = sound-stays tells content header events residents spare room actor command (Made made) s is fits;
      saved = λ g. ap (λ (o : Option _). if file_same g f then Some (record { size = len; digest = digest }) else o) (s.saved g)
          ∙ saved-if (file_same g f) (record { ticket = ticket; len = len; digest = digest }) (kept_put events g);
      puts = λ g put k. puts-if content events actor path len digest ticket made g (kept_put events g) put (file_same g f) refl at (s.puts g put) k;
      whole = λ g put k. whole-if tells content path len digest ticket (kept_put events g) put (file_same g f) fits bytes (s.whole g put) k;
      jobs = λ a claim k. jobs-stay tells content header events residents spare room actor command (Made made) s a claim
          (sym (same_either (actor_same a actor) (open_claim (without_tickets (e ∷ events)) a)) ∙ k);
      room = let few : under_way (without_tickets (next ∷ e ∷ events)) ≤ 48 = under_way-few (without_tickets (next ∷ e ∷ events)) in omega arith;
    }

-- ---- any call but a free

abbrev pub is_free : {T : Type 0} → Command T → Bool
is_free (free path) = true
is_free _ = false

pub called : {T : Type 0} (tells : Bool) (content : T → List ℕ) (header : Header) (events : List (Event T)) (residents : Residents) (spare room : ℕ) (actor : Actor) (command : Command T) (reply : Reply) →
    Stands tells content header events residents spare → reply ≡ reply_after (calls_of events) command → actor.0 < 8 → is_idle (without_tickets events) actor ≡ true →
    IsFitting command → (tells ≡ true → put_has_its_bytes (command_with content command) ≡ true) →
    is_free command ≡ false → 48 ≤ room →
    Stands tells content header (with_saved actor (put_made reply command) (record { actor = actor; act = Call command reply } ∷ events)) residents room
called tells content header events residents spare room actor (Put path len digest ticket) (Made made) s is client idle fits bytes other enough =
    called_put tells content header events residents spare room actor path len digest ticket made s is client idle fits bytes enough
called tells content header events residents spare room actor (Job core prio inputs outputs) (Made made) s is client idle fits bytes other enough =
    called_plain tells content header events residents spare room actor (Job core prio inputs outputs) (Made made) s is client idle fits bytes refl refl (λ f o. refl) enough
called tells content header events residents spare room actor (Read path prio form) (Made made) s is client idle fits bytes other enough =
    called_plain tells content header events residents spare room actor (Read path prio form) (Made made) s is client idle fits bytes refl refl (λ f o. refl) enough
called tells content header events residents spare room actor (Delete path) (Made made) s is client idle fits bytes other enough =
    called_plain tells content header events residents spare room actor (Delete path) (Made made) s is client idle fits bytes refl refl (λ f o. refl) enough
called tells content header events residents spare room actor (Mkdir path) (Made made) s is client idle fits bytes other enough =
    called_plain tells content header events residents spare room actor (Mkdir path) (Made made) s is client idle fits bytes refl refl (λ f o. refl) enough
called tells content header events residents spare room actor (Rename from to) (Made made) s is client idle fits bytes other enough =
    called_plain tells content header events residents spare room actor (Rename from to) (Made made) s is client idle fits bytes refl refl (λ f o. refl) enough
called tells content header events residents spare room actor (Pin path) (Made made) s is client idle fits bytes other enough =
    called_plain tells content header events residents spare room actor (Pin path) (Made made) s is client idle fits bytes refl refl (λ f o. refl) enough
called tells content header events residents spare room actor (Unpin path) (Made made) s is client idle fits bytes other enough =
    called_plain tells content header events residents spare room actor (Unpin path) (Made made) s is client idle fits bytes refl refl (λ f o. refl) enough
called tells content header events residents spare room actor (list path) (Made made) s is client idle fits bytes other enough =
    called_plain tells content header events residents spare room actor (list path) (Made made) s is client idle fits bytes refl refl (λ f o. refl) enough
called tells content header events residents spare room actor (Stat path) (Made made) s is client idle fits bytes other enough =
    called_plain tells content header events residents spare room actor (Stat path) (Made made) s is client idle fits bytes refl refl (λ f o. refl) enough
called tells content header events residents spare room actor (free path) (Made made) s is client idle fits bytes other enough =
    called_plain tells content header events residents spare room actor (free path) (Made made) s is client idle fits bytes refl refl (λ f o. refl) enough
called tells content header events residents spare room actor (Put path len digest ticket) Fine s is client idle fits bytes other enough =
    called_plain tells content header events residents spare room actor (Put path len digest ticket) Fine s is client idle fits bytes refl refl (λ f o. refl) enough
called tells content header events residents spare room actor (Job core prio inputs outputs) Fine s is client idle fits bytes other enough =
    called_plain tells content header events residents spare room actor (Job core prio inputs outputs) Fine s is client idle fits bytes refl refl (λ f o. refl) enough
called tells content header events residents spare room actor (Read path prio form) Fine s is client idle fits bytes other enough =
    called_plain tells content header events residents spare room actor (Read path prio form) Fine s is client idle fits bytes refl refl (λ f o. refl) enough
called tells content header events residents spare room actor (Delete path) Fine s is client idle fits bytes other enough =
    called_plain tells content header events residents spare room actor (Delete path) Fine s is client idle fits bytes refl refl (λ f o. refl) enough
called tells content header events residents spare room actor (Mkdir path) Fine s is client idle fits bytes other enough =
    called_plain tells content header events residents spare room actor (Mkdir path) Fine s is client idle fits bytes refl refl (λ f o. refl) enough
called tells content header events residents spare room actor (Rename from to) Fine s is client idle fits bytes other enough =
    called_plain tells content header events residents spare room actor (Rename from to) Fine s is client idle fits bytes refl refl (λ f o. refl) enough
called tells content header events residents spare room actor (Pin path) Fine s is client idle fits bytes other enough =
    called_plain tells content header events residents spare room actor (Pin path) Fine s is client idle fits bytes refl refl (λ f o. refl) enough
called tells content header events residents spare room actor (Unpin path) Fine s is client idle fits bytes other enough =
    called_plain tells content header events residents spare room actor (Unpin path) Fine s is client idle fits bytes refl refl (λ f o. refl) enough
called tells content header events residents spare room actor (list path) Fine s is client idle fits bytes other enough =
    called_plain tells content header events residents spare room actor (list path) Fine s is client idle fits bytes refl refl (λ f o. refl) enough
called tells content header events residents spare room actor (Stat path) Fine s is client idle fits bytes other enough =
    called_plain tells content header events residents spare room actor (Stat path) Fine s is client idle fits bytes refl refl (λ f o. refl) enough
called tells content header events residents spare room actor (free path) Fine s is client idle fits bytes other enough = absurd (cc)
called tells content header events residents spare room actor command (Opened g) s is client idle fits bytes other enough =
    called_plain tells content header events residents spare room actor command (Opened g) s is client idle fits bytes refl refl (λ f o. refl) enough
called tells content header events residents spare room actor command (Listed entries) s is client idle fits bytes other enough =
    called_plain tells content header events residents spare room actor command (Listed entries) s is client idle fits bytes refl refl (λ f o. refl) enough
called tells content header events residents spare room actor command (Stated st) s is client idle fits bytes other enough =
    called_plain tells content header events residents spare room actor command (Stated st) s is client idle fits bytes refl refl (λ f o. refl) enough
called tells content header events residents spare room actor command Exists s is client idle fits bytes other enough =
    called_plain tells content header events residents spare room actor command Exists s is client idle fits bytes refl refl (λ f o. refl) enough
called tells content header events residents spare room actor command NoSuch s is client idle fits bytes other enough =
    called_plain tells content header events residents spare room actor command NoSuch s is client idle fits bytes refl refl (λ f o. refl) enough
called tells content header events residents spare room actor command NotFile s is client idle fits bytes other enough =
    called_plain tells content header events residents spare room actor command NotFile s is client idle fits bytes refl refl (λ f o. refl) enough
called tells content header events residents spare room actor command NotDir s is client idle fits bytes other enough =
    called_plain tells content header events residents spare room actor command NotDir s is client idle fits bytes refl refl (λ f o. refl) enough
called tells content header events residents spare room actor command NotEmpty s is client idle fits bytes other enough =
    called_plain tells content header events residents spare room actor command NotEmpty s is client idle fits bytes refl refl (λ f o. refl) enough
called tells content header events residents spare room actor command TooDeep s is client idle fits bytes other enough =
    called_plain tells content header events residents spare room actor command TooDeep s is client idle fits bytes refl refl (λ f o. refl) enough
called tells content header events residents spare room actor command IntoItself s is client idle fits bytes other enough =
    called_plain tells content header events residents spare room actor command IntoItself s is client idle fits bytes refl refl (λ f o. refl) enough
called tells content header events residents spare room actor command TooMany s is client idle fits bytes other enough =
    called_plain tells content header events residents spare room actor command TooMany s is client idle fits bytes refl refl (λ f o. refl) enough
