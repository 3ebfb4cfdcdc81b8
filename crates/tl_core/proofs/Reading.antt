-- A read is served or given up.
use Rattle.std.proofs.Common.{◌≡◌, ℕ, ◌+◌, ◌-◌, ◌<◌, ◌≤◌, Bool, true, if◌then◌else◌, bytes_eq, List, ◌∷◌, Some, None, is_some, option_map, refl, sym, ap, ◌∙◌, subst, arith}
use Rattle.std.proofs.lemmas.Bool.{and_from}
use Rattle.std.proofs.lemmas.Slice.Eq.{bytes_eq-Decides}
use Rattle.tl_types.specs.Outcome.{digest_of}
use Rattle.tl_types.specs.Same.{actor_same, actor_same-Decides, file_same-Decides}
use Rattle.tl_types.specs.declared.actor.Actor.{Actor}
use Rattle.tl_types.specs.declared.digest.Digest.{Digest}
use Rattle.tl_types.specs.declared.file_id.FileId.{FileId}
use Rattle.tl_model.specs.declared.event.Act.{Act}
use Rattle.tl_model.specs.declared.event.Act.TheVariants.{Served, Shut}
use Rattle.tl_model.specs.declared.event.Event.{Event}
use Rattle.tl_model.specs.declared.header.Header.{Header}
use Rattle.tl_model.specs.Past.{Past, events_with, without_tickets}
use Rattle.tl_model.specs.Values.{value}
use Rattle.tl_model.specs.Actors.{OpenRead, open_read, open_claim, open_save, reads_file}
use Rattle.tl_model.specs.Residency.{is_resident}
use Rattle.tl_model.specs.Rules.{lawful_judge, has_digest, put_of}
use Rattle.tl_laws.proofs.Permits.{holds-one, actor-known}
use Rattle.tl_core.specs.declared.resident.Resident.{Resident}
use Rattle.tl_core.specs.Residents.{Residents, found}
use Rattle.tl_core.specs.Room.{one_if_some, under_way_of, under_way}
use Rattle.tl_core.specs.State.{Stands, Fits, IsHeld, undropped_judge}
use Rattle.tl_core.proofs.Told.{plain-told}
use Rattle.tl_core.proofs.Count.{marks, under_way-less, read_ended}
use Rattle.tl_core.proofs.Held.{found-is}
use Rattle.tl_core.proofs.Carry.{same_either}

-- the actor's open read is on a resident file
record IsReading (past : Past) (actor : Actor) (f : FileId) : Type 0 where
  reading : reads_file f (open_read past actor) ≡ true
  resident : is_resident past f ≡ true

pub reads-it : (past : Past) (actor : Actor) (read : OpenRead) → open_read past actor ≡ Some read → reads_file read.file (open_read past actor) ≡ true
reads-it past actor read is = ap (reads_file read.file) is ∙ (file_same-Decides read.file read.file).1 refl

-- one thing less is under way after a read of the actor has ended
ended : (past : Past) (actor : Actor) (act : Act (Unit {0})) (read : OpenRead) → open_read past actor ≡ Some read → actor.0 < 16 →
    ((a : Actor) → under_way_of (record { actor = actor; act = act } ∷ past) a
    ≡ one_if_some (if actor_same a actor then None else open_read past a) + one_if_some (if actor_same a actor then open_claim past a else open_claim past a)
    + one_if_some (if actor_same a actor then open_save past a else open_save past a)) →
    under_way (record { actor = actor; act = act } ∷ past) + 1 ≤ under_way past
ended past actor act read is known counts = under_way-less past (record { actor = actor; act = act } ∷ past) actor known (λ a.
    let one : (actor_same a actor ≡ true) → one_if_some (open_read past a) ≡ 1 =
    λ e. ap (λ x. one_if_some (open_read past x)) ((actor_same-Decides a actor).0 e) ∙ ap one_if_some is in
    let less = read_ended (actor_same a actor) (open_read past a) (open_claim past a) (open_save past a) one in
    let P : ℕ → Type 0 = λ n. n + marks actor a ≤ under_way_of past a in
    subst P (sym (counts a)) less)

pub served : {T : Type 0} (tells : Bool) (content : T → List ℕ) (header : Header) (events : List (Event T)) (residents : Residents) (spare : ℕ)
    (actor : Actor) (digest : Digest) (read : OpenRead) (it : Resident) →
    Stands tells content header events residents spare → open_read (without_tickets events) actor ≡ Some read → found read.file residents ≡ Some it →
    digest.0 ≡ digest_of it.block.outcome → actor.0 < 16 →
    Stands tells content header (record { actor = actor; act = Served read.file digest } ∷ events) residents (spare - 1)
served tells content header events residents spare actor digest read it s is here digests known =
    let past : Past = without_tickets events in
    let known_of = found-is (IsHeld tells content events) read.file residents it s.blocks here in
    let fits : Fits tells content events it.block = known_of.0.1 in
    let resident : is_resident past read.file ≡ true = ap is_some (sym (s.places read.file) ∙ ap (option_map (λ (r : Resident). r.worker)) here) in
    let reading : IsReading past actor read.file = record { reading = reads-it past actor read is; resident = resident } in
    let told_reading : IsReading (without_tickets (events_with content events)) actor read.file =
    subst (λ (p : Past). IsReading p actor read.file) (sym (plain-told content events)) reading in
    let digest_here : has_digest (put_of events read.file) digest ≡ true =
    ap (λ (d : List ℕ). has_digest (put_of events read.file) (record { 0 = d })) digests
    ∙ ap (λ (f : FileId). has_digest (put_of events f) (record { 0 = digest_of it.block.outcome })) (sym known_of.1) ∙ fits.1 in
    let one_less : under_way (record { actor = actor; act = Served read.file digest } ∷ past) + 1 ≤ under_way past =
    ended past actor (Served read.file digest) read is known (λ a. refl) in
    record {
      lawful = holds-one lawful_judge header events (record { actor = actor; act = Served read.file digest }) s.lawful (actor-known actor known)
          (and_from _ _ (and_from _ _ reading.reading reading.resident) digest_here) refl;
      told = λ tell.
          let same : bytes_eq (digest_of (value (events_with content events) read.file)) digest.0 ≡ true =
          (bytes_eq-Decides (digest_of (value (events_with content events) read.file)) digest.0).1
          (ap (λ (f : FileId). digest_of (value (events_with content events) f)) (sym known_of.1) ∙ ap digest_of (sym (fits.2 tell)) ∙ sym digests) in
          holds-one (undropped_judge header) header (events_with content events) (record { actor = actor; act = Served read.file digest }) (s.told tell) (actor-known actor known)
          (and_from _ _ (and_from _ _ told_reading.reading told_reading.resident) same) refl;
      places = s.places;
      blocks = s.blocks;
      sound = s.sound;
      saved = s.saved;
      puts = s.puts;
      whole = s.whole;
      jobs = λ a claim is. s.jobs a claim (sym (same_either (actor_same a actor) (open_claim past a)) ∙ is);
      room = let r : under_way past ≤ spare = s.room in omega arith;
    }

-- a read is given up
pub shut : {T : Type 0} (tells : Bool) (content : T → List ℕ) (header : Header) (events : List (Event T)) (residents : Residents) (spare : ℕ)
    (actor : Actor) (read : OpenRead) →
    Stands tells content header events residents spare → open_read (without_tickets events) actor ≡ Some read → actor.0 < 16 →
    Stands tells content header (record { actor = actor; act = Shut read.file } ∷ events) residents (spare - 1)
shut tells content header events residents spare actor read s is known =
    let past : Past = without_tickets events in
    let reading : reads_file read.file (open_read past actor) ≡ true = reads-it past actor read is in
    let told_reading : reads_file read.file (open_read (without_tickets (events_with content events)) actor) ≡ true =
    subst (λ (p : Past). reads_file read.file (open_read p actor) ≡ true) (sym (plain-told content events)) reading in
    let one_less : under_way (record { actor = actor; act = Shut read.file } ∷ past) + 1 ≤ under_way past =
    ended past actor (Shut read.file) read is known (λ a. refl) in
    record {
      lawful = holds-one lawful_judge header events (record { actor = actor; act = Shut read.file }) s.lawful (actor-known actor known) reading refl;
      told = λ tell. holds-one (undropped_judge header) header (events_with content events) (record { actor = actor; act = Shut read.file }) (s.told tell) (actor-known actor known) told_reading refl;
      places = s.places;
      blocks = s.blocks;
      sound = s.sound;
      saved = s.saved;
      puts = s.puts;
      whole = s.whole;
      jobs = λ a claim is. s.jobs a claim (sym (same_either (actor_same a actor) (open_claim past a)) ∙ is);
      room = let r : under_way past ≤ spare = s.room in omega arith;
    }

-- there is room for the event that ends a read
pub room_to_end : (past : Past) (actor : Actor) (read : OpenRead) (spare : ℕ) → open_read past actor ≡ Some read → actor.0 < 16 → under_way past ≤ spare → 0 < spare
room_to_end past actor read spare is known room =
    let less : under_way (record { actor = actor; act = Shut read.file } ∷ past) + 1 ≤ under_way past = ended past actor (Shut read.file) read is known (λ a. refl) in
    omega arith
