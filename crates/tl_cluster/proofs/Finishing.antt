-- A job is done: what it brings, and what is held then.
use Rattle.std.proofs.Common.{◌≡◌, ℕ, zero, suc, ◌+◌, ◌<◌, ◌≤◌, ◌==◌, ◌⊎◌, inl, inr, nat_lt, nat_le, Bool, true, false, not, cond, ◌&&◌, ◌||◌, if◌then◌else◌, List, [], ◌∷◌, length, map, filter, slice_get, Option, Some, None, is_some, is_none, option_map, refl, sym, ap, ◌∙◌, subst, arith}
use Rattle.std.specs.List.{AllByRecursion}
use Rattle.std.specs.Option.{option_map_or}
use Rattle.std.proofs.lemmas.Bool.{and_from, and_parts}
use Rattle.std.proofs.lemmas.Bool.Decides.{nat_tests}
use Rattle.std.specs.declared.cmp.Ordering.TheVariants.{Less}
use Rattle.tl_types.specs.Block.{FileOutcome}
use Rattle.tl_types.specs.Outcome.{digest_of, outcome_size}
use Rattle.tl_types.specs.Same.{actor_same, file_cmp, file_same, record_same, record_same-Decides, worker_same-Decides}
use Rattle.tl_types.specs.declared.actor.Actor.{Actor}
use Rattle.tl_types.specs.declared.digest.Digest.{Digest}
use Rattle.tl_types.specs.declared.file_id.FileId.{FileId}
use Rattle.tl_types.specs.declared.record_id.RecordId.{RecordId}
use Rattle.tl_types.specs.declared.worker_id.WorkerId.{WorkerId}
use Rattle.tl_model.specs.declared.event.Act.TheVariants.{Done}
use Rattle.tl_model.specs.declared.header.Header.{Header}
use Rattle.tl_model.specs.declared.record.Record.{Record}
use Rattle.tl_model.specs.declared.record.Record.TheVariants as kind
use Rattle.tl_model.specs.Past.{Past, events_with, without_tickets}
use Rattle.tl_model.specs.History.{files_from, has_output, id_of, is_job, is_output, output_count, outputs_of, record_at, records}
use Rattle.tl_model.specs.Actors.{open_claim, open_save}
use Rattle.tl_model.specs.Eviction.{Sizes}
use Rattle.tl_model.specs.Residency.{place}
use Rattle.tl_model.specs.Rules.{has_digest, is_open_on, or_first, put_of, size_of}
use Rattle.tl_model.specs.Values.{value}
use Rattle.tl_laws.specs.Numbers.{Numbered}
use Rattle.tl_laws.proofs.Numbering.{get-within}
use Rattle.tl_store.specs.Contents.{Blocks, block_of, block_size, has}
use Rattle.tl_fleet.specs.Events.{among, file_of, files_of, installed_each}
use Rattle.tl_fleet.specs.Order.{Ascends, StandsInOrder}
use Rattle.tl_fleet.specs.Workers.{Workers, found, held_count, incarnation_of, installed, is_resident, put_front, worker_found}
use Rattle.tl_fleet.proofs.Copies.{block_is}
use Rattle.tl_fleet.proofs.Files.{Distinct, among_filtered, ascends_distinct, ascends_filtered, either, has_among, same_is, same_self}
use Rattle.tl_fleet.proofs.Found.{each_brought}
use Rattle.tl_fleet.proofs.Held.{each_installed_held}
use Rattle.tl_fleet.proofs.Incarnations.{changed_same}
use Rattle.tl_fleet.proofs.Places.{found_some, resident_same}
use Rattle.tl_fleet.proofs.Several.{done_stands}
use Rattle.tl_fleet.proofs.Sizes.{stands_by_other}
use Rattle.tl_fleet.proofs.Sooner.{lesser_output}
use Rattle.tl_fleet.proofs.Steps.{each_there}
use Rattle.tl_cluster.specs.Jobs.{missing_of, with_done}
use Rattle.tl_cluster.specs.Room.{under_way}
use Rattle.tl_cluster.specs.Stands.{Agrees, Fits, IsJobAt, PartsState, Stands}
use Rattle.tl_cluster.specs.State.{block_found, held}
use Rattle.tl_cluster.specs.Works.{first_block}
use Rattle.tl_cluster.proofs.Carry.{if-none, same_either}
use Rattle.tl_cluster.proofs.Claiming.{lawful-numbered}
use Rattle.tl_cluster.proofs.Count.{under_way-few}
use Rattle.tl_cluster.proofs.Steps.{goes-on, told-goes-on}

-- ---- the outputs of a record

within-none : (k o : ℕ) → (nat_le k o && nat_lt o (k + 0)) ≡ false
within-none k o = grind (arith, nat_tests)

within-more : (k n o : ℕ) → ((o == k) || (nat_le (k + 1) o && nat_lt o ((k + 1) + n))) ≡ (nat_le k o && nat_lt o (k + suc n))
within-more k n o = grind (arith, nat_tests)

within-all : (n o : ℕ) → (nat_le 0 o && nat_lt o (0 + n)) ≡ nat_lt o n
within-all n o = grind (arith, nat_tests)

and-or : (a b c : Bool) → ((a && b) || (a && c)) ≡ (a && (b || c))
and-or true b c = refl
and-or false b c = refl

and-none : (a : Bool) → false ≡ (a && false)
and-none true = refl
and-none false = refl

files-any : (f : FileId) (id : RecordId) (k n : ℕ) →
    among f (files_from id k n) ≡ (record_same f.rec id && (nat_le k f.out && nat_lt f.out (k + n)))
files-any f id k zero = and-none (record_same f.rec id) ∙ ap (λ b. record_same f.rec id && b) (sym (within-none k f.out))
files-any f id k (suc n) =
    ap (λ b. (record_same f.rec id && (f.out == k)) || b) (files-any f id (k + 1) n)
    ∙ and-or (record_same f.rec id) (f.out == k) (nat_le (k + 1) f.out && nat_lt f.out ((k + 1) + n))
    ∙ ap (λ b. record_same f.rec id && b) (within-more k n f.out)

later-outputs : (id : RecordId) (j k n : ℕ) → j < k → AllByRecursion (λ g. file_cmp (record { rec = id; out = j }) g ≡ Less) (files_from id k n)
later-outputs id j k zero l = tt
later-outputs id j k (suc n) l =
    (lesser_output (record { rec = id; out = j }) (record { rec = id; out = k }) refl l, later-outputs id j (k + 1) n (omega arith))

outputs-ascend : (id : RecordId) (k n : ℕ) → Ascends (files_from id k n)
outputs-ascend id k zero = tt
outputs-ascend id k (suc n) = (later-outputs id k (k + 1) n (omega arith), outputs-ascend id (k + 1) n)

-- the files are the outputs of the record, in order
record AreOutputFiles (past : Past) (made : RecordId) (files : List FileId) : Type 0 where
  ascends : Ascends files
  same : (f : FileId) → among f files ≡ is_output past f made

output-files : (past : Past) (made : RecordId) (o : Option Record) (files : List FileId) → record_at past made ≡ o → option_map outputs_of o ≡ Some files →
    Numbered (records past) → AreOutputFiles past made files
output-files past made None files e is n = absurd (cc)
output-files past made (Some r) files e is n =
    let same : outputs_of r ≡ files = cc in
    let id : id_of r ≡ made = n made.0 r e in
    record {
      ascends = subst Ascends same (outputs-ascend (id_of r) 0 (output_count r));
      same = λ f.
          ap (among f) (sym same) ∙ files-any f (id_of r) 0 (output_count r)
          ∙ ap (λ b. record_same f.rec (id_of r) && b) (within-all (output_count r) f.out)
          ∙ ap (λ (x : RecordId). record_same f.rec x && nat_lt f.out (output_count r)) id
          ∙ ap (λ (x : Option Record). record_same f.rec made && has_output x f.out) (sym e);
    }

-- ---- the blocks of those that are in no memory

files-missing : (ws : Workers) (bs : Blocks) → files_of (missing_of ws bs) ≡ filter (λ f. not (is_resident f ws)) (files_of bs)
files-missing ws [] = refl
files-missing ws (b ∷ bs) = elim (not (is_resident b.file ws)) as (λ t. files_of (cond t (b ∷ missing_of ws bs) (missing_of ws bs)) ≡
    cond t (b.file ∷ filter (λ f. not (is_resident f ws)) (files_of bs)) (filter (λ f. not (is_resident f ws)) (files_of bs))) [
      | true ↦ ap (λ fs. b.file ∷ fs) (files-missing ws bs)
      | false ↦ files-missing ws bs
    ]

all-missing : (P : FileOutcome → Type 0) (ws : Workers) (bs : Blocks) → AllByRecursion P bs → AllByRecursion P (missing_of ws bs)
all-missing P ws [] all = tt
all-missing P ws (b ∷ bs) all = elim (not (is_resident b.file ws)) as (λ t. AllByRecursion P (cond t (b ∷ missing_of ws bs) (missing_of ws bs))) [
  | true ↦ (all.0, all-missing P ws bs all.1)
  | false ↦ all-missing P ws bs all.1
]

not-true : (b : Bool) → not b ≡ true → b ≡ false
not-true true h = absurd (cc)
not-true false h = refl

one-absent : (ws : Workers) (b : FileOutcome) (bs : Blocks) (t : Bool) → not (is_resident b.file ws) ≡ t → AllByRecursion (λ c. is_resident c.file ws ≡ false) bs →
    AllByRecursion (λ c. is_resident c.file ws ≡ false) (cond t (b ∷ bs) bs)
one-absent ws b bs true e all = (not-true (is_resident b.file ws) e, all)
one-absent ws b bs false e all = all

pub missing-absent : (ws : Workers) (bs : Blocks) → AllByRecursion (λ b. is_resident b.file ws ≡ false) (missing_of ws bs)
missing-absent ws [] = tt
missing-absent ws (b ∷ bs) = one-absent ws b (missing_of ws bs) (not (is_resident b.file ws)) refl (missing-absent ws bs)

not-some : {A : Type 0} (o : Option A) → not (is_some o) ≡ is_none o
not-some None = refl
not-some (Some a) = refl

pub missing-ascend : (past : Past) (made : RecordId) (ws : Workers) (bs : Blocks) → Numbered (records past) →
    option_map outputs_of (record_at past made) ≡ Some (map file_of bs) → Ascends (files_of (missing_of ws bs))
missing-ascend past made ws bs n outputs =
    let files = output-files past made (record_at past made) (map file_of bs) refl outputs n in
    subst Ascends (sym (files-missing ws bs)) (ascends_filtered (λ f. not (is_resident f ws)) (files_of bs) files.ascends)

-- a file is among the missing ones where it is an output that is in no memory
pub missing-are : (sizes : Sizes) (header : Header) (past : Past) (made : RecordId) (ws : Workers) (bs : Blocks) → StandsInOrder sizes header past ws → Numbered (records past) →
    option_map outputs_of (record_at past made) ≡ Some (map file_of bs) → (f : FileId) →
    among f (files_of (missing_of ws bs)) ≡ (is_output past f made && is_none (place past f))
missing-are sizes header past made ws bs stands n outputs f =
    let files = output-files past made (record_at past made) (map file_of bs) refl outputs n in
    ap (among f) (files-missing ws bs) ∙ among_filtered (λ g. not (is_resident g ws)) f (files_of bs)
    ∙ ap (λ b. b && not (is_resident f ws)) (files.same f)
    ∙ ap (λ b. is_output past f made && b) (ap not (resident_same sizes header past ws f stands) ∙ not-some (place past f))

-- ---- sizes

-- sizes with those of these blocks
abbrev pub sizes_of : Blocks → Sizes → Sizes
sizes_of bs sizes f = option_map_or block_size (block_of f bs) (sizes f)

not-same : (f g : FileId) (fs : List FileId) → among g fs ≡ false → among f fs ≡ true → file_same f g ≡ false
not-same f g fs off there = elim (either (file_same f g)) [
  | inl t ↦
      let no : true ≡ false = sym there ∙ ap (λ x. among x fs) (same_is f g t) ∙ off in
      absurd (cc)
  | inr t ↦ t
]

own-blocks : (bs : Blocks) → Distinct (files_of bs) → AllByRecursion (λ b. block_of b.file bs ≡ Some b) bs
own-blocks [] d = tt
own-blocks (b ∷ bs) d = (
  ap (λ t. cond t (Some b) (block_of b.file bs)) (same_self b.file),
  each_there (λ c. block_of c.file bs ≡ Some c) (λ c. block_of c.file (b ∷ bs) ≡ Some c) bs
      (λ c there e.
      ap (λ t. cond t (Some b) (block_of c.file bs)) (not-same c.file b.file (files_of bs) d.0 (sym (has_among c.file bs) ∙ there)) ∙ e)
      (own-blocks bs d.1),
)

pub own-sizes : (bs : Blocks) (sizes : Sizes) → Ascends (files_of bs) → AllByRecursion (λ b. block_size b ≡ sizes_of bs sizes b.file) bs
own-sizes bs sizes ascends =
    each_there (λ b. block_of b.file bs ≡ Some b) (λ b. block_size b ≡ sizes_of bs sizes b.file) bs
    (λ b there e. ap (λ (o : Option FileOutcome). option_map_or block_size o (sizes b.file)) (sym e)) (own-blocks bs (ascends_distinct (files_of bs) ascends))

none-here : (o : Option FileOutcome) → is_some o ≡ false → o ≡ None
none-here None h = refl
none-here (Some b) h = absurd (cc)

off-there : (a : Bool) (o : Option WorkerId) → is_some o ≡ true → (a && is_none o) ≡ false
off-there true None h = absurd (cc)
off-there false None h = absurd (cc)
off-there true (Some w) h = refl
off-there false (Some w) h = refl

pub stands-sized : (sizes : Sizes) (header : Header) (past : Past) (made : RecordId) (ws : Workers) (bs : Blocks) → StandsInOrder sizes header past ws →
    ((f : FileId) → among f (files_of bs) ≡ (is_output past f made && is_none (place past f))) → StandsInOrder (sizes_of bs sizes) header past ws
stands-sized sizes header past made ws bs stands are =
    stands_by_other sizes (sizes_of bs sizes) header past ws
    (λ f there. ap (λ (o : Option FileOutcome). option_map_or block_size o (sizes f))
    (none-here (block_of f bs) (has_among f bs ∙ are f ∙ off-there (is_output past f made) (place past f) there))) stands

-- ---- what is found

each-incarnation : (w : WorkerId) (bs : Blocks) (i : ℕ) (ws : Workers) →
    option_map incarnation_of (slice_get (installed_each w bs ws) i) ≡ option_map incarnation_of (slice_get ws i)
each-incarnation w [] i ws = refl
each-incarnation w (b ∷ bs) i ws = each-incarnation w bs i (installed w b ws) ∙ changed_same (put_front b) i w.0 ws

found-after : (w v : WorkerId) (b : FileOutcome) (o : Option FileOutcome) (before : Option (WorkerId × FileOutcome)) →
    option_map_or (λ c. Some (w, c)) o before ≡ Some (v, b) → (o ≡ Some b) ⊎ (before ≡ Some (v, b))
found-after w v b None before is = inr is
found-after w v b (Some c) before is =
    let pair : (w, c) ≡ (v, b) = cc in
    inl (ap (λ (p : WorkerId × FileOutcome). Some p.1) pair)

one-block : (P : FileOutcome → Type 0) (b c : FileOutcome) (t : Bool) (o : Option FileOutcome) → P c → (o ≡ Some b → P b) → cond t (Some c) o ≡ Some b → P b
one-block P b c true o here later is = let same : c ≡ b = cc in subst P same here
one-block P b c false o here later is = later is

at-block : (P : FileOutcome → Type 0) (g : FileId) (b : FileOutcome) (bs : Blocks) → AllByRecursion P bs → block_of g bs ≡ Some b → P b
at-block P g b [] all is = absurd (cc)
at-block P g b (c ∷ bs) all is = one-block P b c (file_same g c.file) (block_of g bs) all.0 (λ e. at-block P g b bs all.1 e) is

-- what a put made isn't made by a job
put-or-job : (past : Past) (f : FileId) (made : RecordId) (digest : Digest) (o : Option (ℕ × Digest)) →
    ((put : ℕ × Digest) → o ≡ Some put → record_at past f.rec ≡ Some (kind.Put f.rec)) → f.rec ≡ made → IsJobAt past made → has_digest o digest ≡ true
put-or-job past f made digest None puts same job = refl
put-or-job past f made digest (Some put) puts same job =
    let at : record_at past made ≡ Some (kind.Put f.rec) = ap (record_at past) (sym same) ∙ puts put refl in
    let it : Some job.0 ≡ Some (kind.Put f.rec) = sym job.1 ∙ at in
    let r : job.0 ≡ kind.Put f.rec = cc in
    let no : true ≡ false = sym job.2 ∙ ap is_job r in
    absurd (cc)

-- a block of an output of a job fits
output-fits : {T : Type 0} (tells : Bool) (content : T → List ℕ) (parts : PartsState T) (made : RecordId) (block : FileOutcome) → Agrees tells content parts →
    IsJobAt (without_tickets parts.events) made → is_output (without_tickets parts.events) block.file made ≡ true →
    (tells ≡ true → block.outcome ≡ value (events_with content parts.events) block.file) → Fits tells content parts.events block
output-fits tells content parts made block a job is_out val =
    let past : Past = without_tickets parts.events in
    let same : block.file.rec ≡ made =
    (record_same-Decides block.file.rec made).0 (and_parts (record_same block.file.rec made) (has_output (record_at past made) block.file.out) is_out).0 in (
      subst (λ (r : RecordId). r.0 < length (records past)) (sym same) (get-within (records past) made.0 job.0 job.1),
      put-or-job past block.file made (record { 0 = digest_of block.outcome }) (put_of parts.events block.file) (a.puts block.file) same job,
      val,
    )

pub finished : {T : Type 0} (tells : Bool) (content : T → List ℕ) (parts : PartsState T) (actor : Actor) (worker : WorkerId) (made : RecordId) (blocks : Blocks) (spare : ℕ) →
    Stands tells content parts → actor.0 < 16 → worker.0 < parts.header.workers →
    open_claim (without_tickets parts.events) actor ≡ Some (record { worker = worker; made = made }) →
    option_map outputs_of (record_at (without_tickets parts.events) made) ≡ Some (map file_of blocks) →
    AllByRecursion (λ block. tells ≡ true → block.outcome ≡ value (events_with content parts.events) block.file) blocks →
    51 + held_count parts.workers + length (missing_of parts.workers blocks) ≤ spare →
    Agrees tells content (with_done actor worker made (missing_of parts.workers blocks) (record parts { spare = spare }))
finished tells content parts actor worker made blocks spare s known within is outputs values enough =
    let past : Past = without_tickets parts.events in
    let told = events_with content parts.events in
    let a : Agrees tells content parts = s.agrees in
    let ws : Workers = parts.workers in
    let bs : Blocks = missing_of ws blocks in
    let n = lawful-numbered parts.header parts.events a.lawful in
    let job : IsJobAt past made = a.jobs actor (record { worker = worker; made = made }) is in
    let own : is_open_on (open_claim past actor) worker made ≡ true =
    ap (λ o. is_open_on o worker made) is ∙ and_from _ _ ((worker_same-Decides worker worker).1 refl) ((record_same-Decides made made).1 refl) in
    let ascends : Ascends (files_of bs) = missing-ascend past made ws blocks n outputs in
    let are : (f : FileId) → among f (files_of bs) ≡ (is_output past f made && is_none (place past f)) =
    missing-are a.sized.0 parts.header past made ws blocks a.sized.1 n outputs in
    let there : worker.0 < length ws = subst (λ (k : ℕ). worker.0 < k) (sym a.sized.1.0) within in
    let told_values = all-missing (λ block. tells ≡ true → block.outcome ≡ value told block.file) ws blocks values in
    let sizes : Sizes = sizes_of bs a.sized.0 in
    let counted : held_count (installed_each worker bs ws) ≡ held_count ws + length bs = each_installed_held worker bs ws there in
    let few : under_way (record { actor = actor; act = Done worker made } ∷ past) ≤ 48 = under_way-few (record { actor = actor; act = Done worker made } ∷ past) in
    record {
      lawful = goes-on tells content parts actor (Done worker made) s known own refl;
      permitted = λ tell. told-goes-on tells content parts actor (Done worker made) s known tell own;
      sized = (
        sizes,
        done_stands sizes parts.header past actor worker made bs ws (stands-sized a.sized.0 parts.header past made ws bs a.sized.1 are) within ascends are
            (own-sizes bs a.sized.0 ascends),
      );
      told_sized = λ tell.
          done_stands (size_of told) parts.header past actor worker made bs ws (a.told_sized tell) within ascends are
          (each_there (λ b. tells ≡ true → b.outcome ≡ value told b.file) (λ b. block_size b ≡ size_of told b.file) bs
          (λ b here e. ap outcome_size (e tell)) told_values);
      blocks = λ g v b here. elim (found-after worker v b (block_of g bs) (found g ws) (sym (each_brought g worker bs ws there (missing-absent ws blocks) ascends) ∙ here)) [
        | inl new ↦
            let of_it : b.file ≡ g = block_is g bs b new in
            let among_them : among b.file (files_of bs) ≡ true = sym (has_among b.file bs) ∙ ap (λ (f : FileId). has f bs) of_it ∙ ap is_some new in
            output-fits tells content parts made b a job
            (and_parts (is_output past b.file made) (is_none (place past b.file)) (sym (are b.file) ∙ among_them)).0
            (at-block (λ c. tells ≡ true → c.outcome ≡ value told c.file) g b bs told_values new)
        | inr old ↦ a.blocks g v b old
      ];
      losses = λ w k here. a.losses w k (sym (each-incarnation worker bs w.0 ws) ∙ here);
      sound = a.sound;
      kept = a.kept;
      saved = a.saved;
      puts = a.puts;
      jobs = λ b other e. a.jobs b other (if-none (actor_same b actor) (open_claim past b) other e);
      places = λ b f e. a.places b f (sym (same_either (actor_same b actor) (open_save past b)) ∙ e);
      room = omega arith;
    }

-- ---- what is held

none-twice : (t : Bool) → ◌≡◌ {A = Option FileOutcome} None (if t then None else None)
none-twice true = refl
none-twice false = refl

block-step : (same here there : Bool) (b : FileOutcome) (rest left : Option FileOutcome) → left ≡ (if there then None else rest) → (same ≡ true → here ≡ there) →
    cond (not here) (cond same (Some b) left) left ≡ (if there then None else cond same (Some b) rest)
block-step true true true b rest left e at = e
block-step true true false b rest left e at = let no : true ≡ false = at refl in absurd (cc)
block-step true false true b rest left e at = let no : false ≡ true = at refl in absurd (cc)
block-step true false false b rest left e at = refl
block-step false true there b rest left e at = e
block-step false false there b rest left e at = e

block-cond : (g : FileId) (t : Bool) (b : FileOutcome) (bs : Blocks) → block_of g (cond t (b ∷ bs) bs) ≡ cond t (cond (file_same g b.file) (Some b) (block_of g bs)) (block_of g bs)
block-cond g true b bs = refl
block-cond g false b bs = refl

block-missing : (g : FileId) (ws : Workers) (bs : Blocks) → block_of g (missing_of ws bs) ≡ (if is_resident g ws then None else block_of g bs)
block-missing g ws [] = none-twice (is_resident g ws)
block-missing g ws (b ∷ bs) =
    block-cond g (not (is_resident b.file ws)) b (missing_of ws bs)
    ∙ block-step (file_same g b.file) (is_resident b.file ws) (is_resident g ws) b (block_of g bs) (block_of g (missing_of ws bs)) (block-missing g ws bs)
    (λ same. ap (λ f. is_resident f ws) (sym (same_is g b.file same)))

held-step : (w : WorkerId) (resident : Bool) (o : Option (WorkerId × FileOutcome)) (first : Option FileOutcome) → resident ≡ is_some (option_map worker_found o) →
    option_map block_found (option_map_or (λ b. Some (w, b)) (if resident then None else first) o) ≡ or_first (option_map block_found o) first
held-step w true None first e = absurd (cc)
held-step w true (Some x) first e = refl
held-step w false None None e = refl
held-step w false None (Some b) e = refl
held-step w false (Some x) first e = absurd (cc)

-- the block that is held of each file after the missing ones were brought
pub held-done : (f : FileId) (w : WorkerId) (ws : Workers) (blocks : Blocks) → w.0 < length ws → Ascends (files_of (missing_of ws blocks)) →
    held f (installed_each w (missing_of ws blocks) ws) ≡ or_first (held f ws) (first_block f blocks)
held-done f w ws blocks there ascends =
    ap (option_map block_found) (each_brought f w (missing_of ws blocks) ws there (missing-absent ws blocks) ascends
    ∙ ap (λ (o : Option FileOutcome). option_map_or (λ b. Some (w, b)) o (found f ws)) (block-missing f ws blocks))
    ∙ held-step w (is_resident f ws) (found f ws) (block_of f blocks) (found_some 0 f ws)
