-- What a done job brings.
use Rattle.std.proofs.Common.{◌≡◌, ℕ, zero, suc, ◌+◌, ◌-◌, ◌<◌, ◌≤◌, ◌==◌, nat_lt, nat_le, Bool, true, false, cond, ◌&&◌, ◌||◌, if◌then◌else◌, List, [], ◌∷◌, length, map, Option, Some, None, is_some, option_map, refl, sym, ap, ◌∙◌, subst, arith}
use Rattle.std.specs.List.{AllByRecursion, list_any}
use Rattle.std.proofs.lemmas.Bool.{and_from, and_parts}
use Rattle.std.proofs.lemmas.Bool.Decides.{nat_tests, Decides-eqb}
use Rattle.tl_types.specs.Block.{FileOutcome}
use Rattle.tl_types.specs.Outcome.{digest_of}
use Rattle.tl_types.specs.Same.{actor_same, worker_same-Decides, record_same, record_same-Decides, file_same}
use Rattle.tl_types.specs.declared.actor.Actor.{Actor}
use Rattle.tl_types.specs.declared.digest.Digest.{Digest}
use Rattle.tl_types.specs.declared.file_id.FileId.{FileId}
use Rattle.tl_types.specs.declared.record_id.RecordId.{RecordId}
use Rattle.tl_types.specs.declared.worker_id.WorkerId.{WorkerId}
use Rattle.tl_model.specs.declared.event.Act.TheVariants.{Done}
use Rattle.tl_model.specs.declared.event.Event.{Event}
use Rattle.tl_model.specs.declared.header.Header.{Header}
use Rattle.tl_model.specs.declared.record.Record.{Record}
use Rattle.tl_model.specs.declared.record.Record.TheVariants as kind
use Rattle.tl_model.specs.Past.{Past, events_with, without_tickets}
use Rattle.tl_model.specs.History.{records, record_at, id_of, is_job, output_count, outputs_of, files_from, is_output, has_output}
use Rattle.tl_model.specs.Actors.{OpenClaim, open_claim}
use Rattle.tl_model.specs.Residency.{place, place_after}
use Rattle.tl_model.specs.Values.{value}
use Rattle.tl_model.specs.Rules.{lawful_judge, is_open_on, has_digest, all_permitted, is_quiet}
use Rattle.tl_laws.proofs.Permits.{holds-one, actor-known}
use Rattle.tl_laws.specs.Numbers.{Numbered}
use Rattle.tl_laws.proofs.Numbering.{all-numbered, get-within}
use Rattle.tl_laws.proofs.Tickets.{records-with}
use Rattle.tl_core.specs.declared.resident.Resident.{Resident}
use Rattle.tl_core.specs.Residents.{Residents, found, held, worker_of, block_of}
use Rattle.tl_core.specs.Brought.{with_blocks}
use Rattle.tl_core.specs.Done.{Blocks, file_of, first_block, or_else}
use Rattle.tl_core.specs.Puts.{KeptPut, kept_put}
use Rattle.tl_core.specs.Room.{under_way}
use Rattle.tl_core.specs.State.{Stands, IsHeld, IsJobAt, undropped_judge}
use Rattle.tl_core.proofs.KeptPuts.{length-and-digest, put_of-kept}
use Rattle.tl_core.proofs.Told.{plain-told}
use Rattle.tl_core.proofs.Carry.{none_or}
use Rattle.tl_core.proofs.Held.{all-map, all-with_blocks, on, found-with_blocks, IfAbsent}
use Rattle.tl_core.proofs.Working.{claim-ended}

-- ---- the outputs of a record

within-none : (k o : ℕ) → (nat_le k o && nat_lt o (k + 0)) ≡ false
within-none k o = grind (arith, nat_tests)

within-more : (k n o : ℕ) → ((o == k) || (nat_le (k + 1) o && nat_lt o ((k + 1) + n))) ≡ (nat_le k o && nat_lt o (k + suc n))
within-more k n o = grind (arith, nat_tests)

within-all : (n o : ℕ) → (nat_le 0 o && nat_lt o (0 + n)) ≡ nat_lt o n
within-all n o = grind (arith, nat_tests)

and-or : (a b c : Bool) → ((a && b) || (a && c)) ≡ (a && (b || c))
and-or true b c = refl
and-or false b c = refl

and-none : (a : Bool) → false ≡ (a && false)
and-none true = refl
and-none false = refl

files-any : (f : FileId) (id : RecordId) (k n : ℕ) →
    list_any (file_same f) (files_from id k n) ≡ (record_same f.rec id && (nat_le k f.out && nat_lt f.out (k + n)))
files-any f id k zero = and-none (record_same f.rec id) ∙ ap (λ b. record_same f.rec id && b) (sym (within-none k f.out))
files-any f id k (suc n) =
    ap (λ b. (record_same f.rec id && (f.out == k)) || b) (files-any f id (k + 1) n)
    ∙ and-or (record_same f.rec id) (f.out == k) (nat_le (k + 1) f.out && nat_lt f.out ((k + 1) + n))
    ∙ ap (λ b. record_same f.rec id && b) (within-more k n f.out)

some-cond : (b : Bool) (block : FileOutcome) (later : Option FileOutcome) → is_some (cond b (Some block) later) ≡ (b || is_some later)
some-cond true block later = refl
some-cond false block later = refl

any-first : (f : FileId) (blocks : Blocks) → is_some (first_block f blocks) ≡ list_any (file_same f) (map file_of blocks)
any-first f [] = refl
any-first f (block ∷ blocks) =
    some-cond (file_same f block.file) block (first_block f blocks) ∙ ap (λ b. file_same f block.file || b) (any-first f blocks)

output-at : (past : Past) (f : FileId) (made : RecordId) (o : Option Record) (files : List FileId) → record_at past made ≡ o → option_map outputs_of o ≡ Some files →
    Numbered (records past) → list_any (file_same f) files ≡ is_output past f made
output-at past f made None files e is n = absurd (cc)
output-at past f made (Some r) files e is n =
    let same : outputs_of r ≡ files = cc in
    let id : id_of r ≡ made = n made.0 r e in
    ap (list_any (file_same f)) (sym same) ∙ files-any f (id_of r) 0 (output_count r)
    ∙ ap (λ b. record_same f.rec (id_of r) && b) (within-all (output_count r) f.out)
    ∙ ap (λ (x : RecordId). record_same f.rec x && nat_lt f.out (output_count r)) id
    ∙ ap (λ (x : Option Record). record_same f.rec made && has_output x f.out) (sym e)

-- a block is among those of a record's outputs where its file is an output of the record
first-output : (past : Past) (f : FileId) (made : RecordId) (blocks : Blocks) → option_map outputs_of (record_at past made) ≡ Some (map file_of blocks) →
    Numbered (records past) → is_some (first_block f blocks) ≡ is_output past f made
first-output past f made blocks is n = any-first f blocks ∙ output-at past f made (record_at past made) (map file_of blocks) refl is n

or-true : (a b : Bool) → b ≡ true → (a || b) ≡ true
or-true true b h = refl
or-true false b h = h

same-any : (f : FileId) (xs : List FileId) → list_any (file_same f) (f ∷ xs) ≡ true
same-any f xs = ap (λ b. b || list_any (file_same f) xs) (and_from _ _ ((record_same-Decides f.rec f.rec).1 refl) ((Decides-eqb f.out f.out).1 refl))

each-any : (blocks : Blocks) → AllByRecursion (λ b. list_any (file_same b.file) (map file_of blocks) ≡ true) blocks
each-any [] = tt
each-any (block ∷ blocks) = (
  same-any block.file (map file_of blocks),
  all-map (λ b. list_any (file_same b.file) (map file_of blocks) ≡ true) (λ b. list_any (file_same b.file) (map file_of (block ∷ blocks)) ≡ true)
      (λ b h. or-true (file_same b.file block.file) _ h) blocks (each-any blocks),
)

-- ---- the turn

-- the records of a cluster are numbered
pub stands-numbered : {T : Type 0} (tells : Bool) (content : T → List ℕ) (header : Header) (events : List (Event T)) (residents : Residents) (spare : ℕ) →
    Stands tells content header events residents spare → Numbered (records (without_tickets events))
stands-numbered tells content header events residents spare s =
    subst Numbered (sym (records-with (λ _. tt) events))
    (all-numbered lawful_judge header events (and_parts (all_permitted lawful_judge header events) (is_quiet lawful_judge events) s.lawful).0)

-- what a put made isn't made by a job
put-or-job : {T : Type 0} (tells : Bool) (content : T → List ℕ) (header : Header) (events : List (Event T)) (residents : Residents) (spare : ℕ) (f : FileId) (made : RecordId)
    (digest : Digest) (o : Option (KeptPut T)) → Stands tells content header events residents spare → kept_put events f ≡ o → f.rec ≡ made →
    IsJobAt (without_tickets events) made → has_digest (option_map length-and-digest o) digest ≡ true
put-or-job tells content header events residents spare f made digest None s is same job = refl
put-or-job tells content header events residents spare f made digest (Some put) s is same job =
    let at : record_at (without_tickets events) made ≡ Some (kind.Put f.rec) = ap (record_at (without_tickets events)) (sym same) ∙ (s.puts f put is).0 in
    let it : Some job.0 ≡ Some (kind.Put f.rec) = sym job.1 ∙ at in
    let r : job.0 ≡ kind.Put f.rec = cc in
    let no : true ≡ false = sym job.2 ∙ ap is_job r in
    absurd (cc)

within-records : (past : Past) (made : RecordId) → IsJobAt past made → made.0 < length (records past)
within-records past made job = get-within (records past) made.0 job.0 job.1

place-done : (past : Past) (worker : WorkerId) (made : RecordId) (f : FileId) (here : Option WorkerId) (there : Option Resident) (first : Option FileOutcome) →
    option_map worker_of there ≡ here → is_some first ≡ is_output past f made →
    option_map worker_of (or_else there (option_map (on worker) first)) ≡ place_after past (Done worker made) f here
place-done past worker made f (Some x) (Some r) first e is = e
place-done past worker made f None (Some r) first e is = absurd (cc)
place-done past worker made f (Some x) None first e is = absurd (cc)
place-done past worker made f None None (Some block) e is = ap (λ b. if b then Some worker else None) is
place-done past worker made f None None None e is = ap (λ b. if b then Some worker else None) is

maps-or : (there : Option Resident) (first : Option FileOutcome) (worker : WorkerId) →
    option_map block_of (or_else there (option_map (on worker) first)) ≡ or_else (option_map block_of there) first
maps-or (Some r) first worker = refl
maps-or None (Some block) worker = refl
maps-or None None worker = refl

-- the block that is held of each file after blocks were brought
pub held-done : (f : FileId) (worker : WorkerId) (blocks : Blocks) (residents : Residents) →
    held f (with_blocks worker blocks residents) ≡ or_else (held f residents) (first_block f blocks)
held-done f worker blocks residents =
    ap (option_map block_of) (found-with_blocks f worker blocks residents) ∙ maps-or (found f residents) (first_block f blocks) worker

all-both : {A : Type 0} (P Q : A → Type 0) (xs : List A) → AllByRecursion P xs → AllByRecursion Q xs → AllByRecursion (λ x. P x × Q x) xs
all-both P Q [] ps qs = tt
all-both P Q (x ∷ xs) ps qs = ((ps.0, qs.0), all-both P Q xs ps.1 qs.1)

-- a block that comes to the worker is held there
comes : {T : Type 0} (tells : Bool) (content : T → List ℕ) (header : Header) (events : List (Event T)) (residents : Residents) (spare : ℕ)
    (actor : Actor) (worker : WorkerId) (made : RecordId) (block : FileOutcome) → Stands tells content header events residents spare →
    IsJobAt (without_tickets events) made → is_output (without_tickets events) block.file made ≡ true →
    (tells ≡ true → block.outcome ≡ value (events_with content events) block.file) →
    IfAbsent (IsHeld tells content (record { actor = actor; act = Done worker made } ∷ events)) worker residents block
comes tells content header events residents spare actor worker made block s job is_out val = λ gone.
    let past : Past = without_tickets events in
    let same : block.file.rec ≡ made = (record_same-Decides block.file.rec made).0 (and_parts (record_same block.file.rec made) (has_output (record_at past made) block.file.out) is_out).0 in
    let nowhere : place past block.file ≡ None = sym (s.places block.file) ∙ ap (option_map worker_of) gone in (
      ap (place_after past (Done worker made) block.file) nowhere ∙ ap (λ b. if b then Some worker else None) is_out,
      (
        subst (λ (r : RecordId). r.0 < length (records past)) (sym same) (within-records past made job),
        ap (λ o. has_digest o (record { 0 = digest_of block.outcome })) (put_of-kept events block.file)
            ∙ put-or-job tells content header events residents spare block.file made (record { 0 = digest_of block.outcome }) (kept_put events block.file) s refl same job,
        val,
      ),
    )

pub done : {T : Type 0} (tells : Bool) (content : T → List ℕ) (header : Header) (events : List (Event T)) (residents : Residents) (spare : ℕ)
    (actor : Actor) (worker : WorkerId) (made : RecordId) (blocks : Blocks) →
    Stands tells content header events residents spare → open_claim (without_tickets events) actor ≡ Some (record { worker = worker; made = made }) → actor.0 < 16 →
    option_map outputs_of (record_at (without_tickets events) made) ≡ Some (map file_of blocks) →
    AllByRecursion (λ block. tells ≡ true → block.outcome ≡ value (events_with content events) block.file) blocks →
    Stands tells content header (record { actor = actor; act = Done worker made } ∷ events) (with_blocks worker blocks residents) (spare - 1)
done tells content header events residents spare actor worker made blocks s is known outputs values =
    let past : Past = without_tickets events in
    let numbers = stands-numbered tells content header events residents spare s in
    let job = s.jobs actor (record { worker = worker; made = made }) is in
    let claim : OpenClaim = record { worker = worker; made = made } in
    let own : is_open_on (open_claim past actor) worker made ≡ true =
    ap (λ o. is_open_on o worker made) is ∙ and_from _ _ ((worker_same-Decides worker worker).1 refl) ((record_same-Decides made made).1 refl) in
    let told_own : is_open_on (open_claim (without_tickets (events_with content events)) actor) worker made ≡ true =
    subst (λ (p : Past). is_open_on (open_claim p actor) worker made ≡ true) (sym (plain-told content events)) own in
    let one_less : under_way (record { actor = actor; act = Done worker made } ∷ past) + 1 ≤ under_way past =
    claim-ended past actor (Done worker made) claim is known (λ a. refl) in
    record {
      lawful = holds-one lawful_judge header events (record { actor = actor; act = Done worker made }) s.lawful (actor-known actor known) own refl;
      told = λ tell. holds-one (undropped_judge header) header (events_with content events) (record { actor = actor; act = Done worker made }) (s.told tell) (actor-known actor known) told_own refl;
      places = λ f. ap (option_map worker_of) (found-with_blocks f worker blocks residents)
          ∙ place-done past worker made f (place past f) (found f residents) (first_block f blocks) (s.places f) (first-output past f made blocks outputs numbers);
      blocks = all-with_blocks (IsHeld tells content (record { actor = actor; act = Done worker made } ∷ events)) worker blocks residents
          (all-map (IsHeld tells content events) (IsHeld tells content (record { actor = actor; act = Done worker made } ∷ events))
          (λ r h. (ap (place_after past (Done worker made) r.block.file) h.0, h.1)) residents s.blocks)
          (all-map (λ b. (list_any (file_same b.file) (map file_of blocks) ≡ true) × (tells ≡ true → b.outcome ≡ value (events_with content events) b.file))
          (IfAbsent (IsHeld tells content (record { actor = actor; act = Done worker made } ∷ events)) worker residents)
          (λ b h. comes tells content header events residents spare actor worker made b s job
          (sym (output-at past b.file made (record_at past made) (map file_of blocks) refl outputs numbers) ∙ h.0) h.1)
          blocks (all-both (λ b. list_any (file_same b.file) (map file_of blocks) ≡ true) (λ b. tells ≡ true → b.outcome ≡ value (events_with content events) b.file) blocks (each-any blocks) values));
      sound = s.sound;
      saved = s.saved;
      puts = s.puts;
      whole = s.whole;
      jobs = λ a other e. s.jobs a other (none_or (actor_same a actor) (open_claim past a) other e);
      room = let r : under_way past ≤ spare = s.room in omega arith;
    }
