-- A read is served or given up.
use Rattle.std.proofs.Common.{◌≡◌, ℕ, ◌+◌, ◌<◌, ◌≤◌, Bool, true, if◌then◌else◌, bytes_eq, List, ◌∷◌, Option, Some, None, is_some, option_map, refl, sym, ap, ◌∙◌, subst, arith}
use Rattle.std.proofs.lemmas.Bool.{and_from}
use Rattle.std.proofs.lemmas.Slice.Eq.{bytes_eq-Decides}
use Rattle.tl_types.specs.Block.{FileOutcome}
use Rattle.tl_types.specs.Outcome.{digest_of}
use Rattle.tl_types.specs.Same.{actor_same, actor_same-Decides, file_same-Decides}
use Rattle.tl_types.specs.declared.actor.Actor.{Actor}
use Rattle.tl_types.specs.declared.digest.Digest.{Digest}
use Rattle.tl_types.specs.declared.file_id.FileId.{FileId}
use Rattle.tl_types.specs.declared.worker_id.WorkerId.{WorkerId}
use Rattle.tl_model.specs.declared.event.Act.{Act}
use Rattle.tl_model.specs.declared.event.Act.TheVariants.{Served, Shut}
use Rattle.tl_model.specs.Past.{Past, events_with, without_tickets}
use Rattle.tl_model.specs.Values.{value}
use Rattle.tl_model.specs.Actors.{OpenRead, open_read, open_claim, open_save, reads_file}
use Rattle.tl_model.specs.Residency.{is_resident}
use Rattle.tl_model.specs.Rules.{has_digest, put_of, size_of}
use Rattle.tl_fleet.proofs.Events.{served_stands}
use Rattle.tl_fleet.specs.Workers.{Workers, all_touched, found, held_count}
use Rattle.tl_fleet.proofs.Found.{found_file, one_touched}
use Rattle.tl_fleet.proofs.Held.{touched_held}
use Rattle.tl_fleet.proofs.Incarnations.{mapped_same}
use Rattle.tl_store.specs.Contents.{touched}
use Rattle.tl_cluster.specs.Main.{with_served, with_shut}
use Rattle.tl_cluster.specs.Room.{one_if_some, under_way_of, under_way}
use Rattle.tl_cluster.specs.State.{block_found, held}
use Rattle.tl_cluster.specs.Stands.{Agrees, Fits, PartsState, Stands}
use Rattle.tl_cluster.proofs.Count.{marks, under_way-less, read_ended}
use Rattle.tl_cluster.proofs.Carry.{same_either}
use Rattle.tl_cluster.proofs.Settling.{agrees-once}
use Rattle.tl_cluster.proofs.Steps.{found-resident, goes-on, told-goes-on}

pub reads-it : (past : Past) (actor : Actor) (read : OpenRead) → open_read past actor ≡ Some read → reads_file read.file (open_read past actor) ≡ true
reads-it past actor read is = ap (reads_file read.file) is ∙ (file_same-Decides read.file read.file).1 refl

-- one thing less is under way after a read of the actor has ended
pub ended : (past : Past) (actor : Actor) (act : Act (Unit {0})) (read : OpenRead) → open_read past actor ≡ Some read → actor.0 < 16 →
    ((a : Actor) → under_way_of (record { actor = actor; act = act } ∷ past) a
    ≡ one_if_some (if actor_same a actor then None else open_read past a) + one_if_some (if actor_same a actor then open_claim past a else open_claim past a)
    + one_if_some (if actor_same a actor then open_save past a else open_save past a)) →
    under_way (record { actor = actor; act = act } ∷ past) + 1 ≤ under_way past
ended past actor act read is known counts = under_way-less past (record { actor = actor; act = act } ∷ past) actor known (λ a.
    let one : (actor_same a actor ≡ true) → one_if_some (open_read past a) ≡ 1 =
    λ e. ap (λ x. one_if_some (open_read past x)) ((actor_same-Decides a actor).0 e) ∙ ap one_if_some is in
    let less = read_ended (actor_same a actor) (open_read past a) (open_claim past a) (open_save past a) one in
    let P : ℕ → Type 0 = λ n. n + marks actor a ≤ under_way_of past a in
    subst P (sym (counts a)) less)

pub served : {T : Type 0} (tells : Bool) (content : T → List ℕ) (parts : PartsState T) (actor : Actor) (digest : Digest) (read : OpenRead)
    (worker : WorkerId) (block : FileOutcome) →
    Stands tells content parts → open_read (without_tickets parts.events) actor ≡ Some read → found read.file parts.workers ≡ Some (worker, block) →
    digest.0 ≡ digest_of block.outcome → actor.0 < 16 →
    Agrees tells content (with_served actor read.file digest parts)
served tells content parts actor digest read worker block s is here digests known =
    let past : Past = without_tickets parts.events in
    let a : Agrees tells content parts = s.agrees in
    let fits : Fits tells content parts.events block = a.blocks read.file worker block here in
    let of_it : block.file ≡ read.file = found_file read.file worker block parts.workers here in
    let resident : is_resident past read.file ≡ true = sym (found-resident tells content parts a read.file) ∙ ap is_some here in
    let reading : reads_file read.file (open_read past actor) ≡ true = reads-it past actor read is in
    let digest_here : has_digest (put_of parts.events read.file) digest ≡ true =
    ap (λ (d : List ℕ). has_digest (put_of parts.events read.file) (record { 0 = d })) digests
    ∙ ap (λ (f : FileId). has_digest (put_of parts.events f) (record { 0 = digest_of block.outcome })) (sym of_it) ∙ fits.1 in
    let one_less : under_way (record { actor = actor; act = Served read.file digest } ∷ past) + 1 ≤ under_way past =
    ended past actor (Served read.file digest) read is known (λ b. refl) in
    let room : under_way past + held_count parts.workers ≤ parts.spare = a.room in
    let counted : held_count (all_touched read.file parts.workers) ≡ held_count parts.workers =
    touched_held read.file parts.workers (agrees-once tells content parts a) in
    record {
      lawful = goes-on tells content parts actor (Served read.file digest) s known (and_from _ _ (and_from _ _ reading resident) digest_here) refl;
      permitted = λ tell.
          let same : bytes_eq (digest_of (value (events_with content parts.events) read.file)) digest.0 ≡ true =
          (bytes_eq-Decides (digest_of (value (events_with content parts.events) read.file)) digest.0).1
          (ap (λ (f : FileId). digest_of (value (events_with content parts.events) f)) (sym of_it) ∙ ap digest_of (sym (fits.2 tell)) ∙ sym digests) in
          told-goes-on tells content parts actor (Served read.file digest) s known tell (and_from _ _ (and_from _ _ reading resident) same);
      sized = (a.sized.0, served_stands a.sized.0 parts.header past parts.workers a.sized.1 actor read.file digest);
      told_sized = λ tell. served_stands (size_of (events_with content parts.events)) parts.header past parts.workers (a.told_sized tell) actor read.file digest;
      blocks = λ f w b there. a.blocks f w b (sym (one_touched f read.file parts.workers) ∙ there);
      losses = λ w n there. a.losses w n (sym (mapped_same (touched read.file) w.0 parts.workers) ∙ there);
      sound = a.sound;
      kept = a.kept;
      saved = a.saved;
      puts = a.puts;
      jobs = λ b claim e. a.jobs b claim (sym (same_either (actor_same b actor) (open_claim past b)) ∙ e);
      places = λ b f e. a.places b f (sym (same_either (actor_same b actor) (open_save past b)) ∙ e);
      room = omega arith;
    }

pub shut : {T : Type 0} (tells : Bool) (content : T → List ℕ) (parts : PartsState T) (actor : Actor) (read : OpenRead) →
    Stands tells content parts → open_read (without_tickets parts.events) actor ≡ Some read → actor.0 < 16 →
    Agrees tells content (with_shut actor read.file parts)
shut tells content parts actor read s is known =
    let past : Past = without_tickets parts.events in
    let a : Agrees tells content parts = s.agrees in
    let reading : reads_file read.file (open_read past actor) ≡ true = reads-it past actor read is in
    let one_less : under_way (record { actor = actor; act = Shut read.file } ∷ past) + 1 ≤ under_way past =
    ended past actor (Shut read.file) read is known (λ b. refl) in
    let room : under_way past + held_count parts.workers ≤ parts.spare = a.room in
    record {
      lawful = goes-on tells content parts actor (Shut read.file) s known reading refl;
      permitted = λ tell. told-goes-on tells content parts actor (Shut read.file) s known tell reading;
      sized = a.sized;
      told_sized = a.told_sized;
      blocks = a.blocks;
      losses = a.losses;
      sound = a.sound;
      kept = a.kept;
      saved = a.saved;
      puts = a.puts;
      jobs = λ b claim e. a.jobs b claim (sym (same_either (actor_same b actor) (open_claim past b)) ∙ e);
      places = λ b f e. a.places b f (sym (same_either (actor_same b actor) (open_save past b)) ∙ e);
      room = omega arith;
    }

found-of : (o : Option (WorkerId × FileOutcome)) (block : FileOutcome) → option_map block_found o ≡ Some block → (worker : WorkerId) × (o ≡ Some (worker, block))
found-of None block is = absurd (cc)
found-of (Some found) block is =
    let same : found.1 ≡ block = cc in
    (found.0, λ i. Some (found.0, same i))

-- a file that is held is found on a worker
pub found-held : (f : FileId) (workers : Workers) (block : FileOutcome) → held f workers ≡ Some block → (worker : WorkerId) × (found f workers ≡ Some (worker, block))
found-held f workers block is = found-of (found f workers) block is

-- a read of the file is served by the block that is held
pub serves : {T : Type 0} (tells : Bool) (content : T → List ℕ) (parts : PartsState T) (actor : Actor) (f : FileId) (digest : Digest) → Stands tells content parts →
    ((read : OpenRead) × (open_read (without_tickets parts.events) actor ≡ Some read) × (read.file ≡ f)) →
    ((block : FileOutcome) × (held f parts.workers ≡ Some block) × (digest.0 ≡ digest_of block.outcome)) → actor.0 < 16 →
    Agrees tells content (with_served actor f digest parts)
serves tells content parts actor f digest s reading holding known =
    let at = found-held f parts.workers holding.0 holding.1 in
    subst (λ (g : FileId). Agrees tells content (with_served actor g digest parts)) reading.2
    (served tells content parts actor digest reading.0 at.0 holding.0 s reading.1
    (ap (λ (g : FileId). found g parts.workers) reading.2 ∙ at.1) holding.2 known)

-- there is room for the event that ends a read
pub room_to_end : (past : Past) (actor : Actor) (read : OpenRead) (held spare : ℕ) → open_read past actor ≡ Some read → actor.0 < 16 →
    under_way past + held ≤ spare → 0 < spare
room_to_end past actor read held spare is known room =
    let less : under_way (record { actor = actor; act = Shut read.file } ∷ past) + 1 ≤ under_way past = ended past actor (Shut read.file) read is known (λ b. refl) in
    omega arith
