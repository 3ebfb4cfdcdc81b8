-- What stays while events of other actors come.
use Rattle.std.proofs.Common.{◌≡◌, ◌≤◌, ◌<◌, ◌+◌, ℕ, zero, suc, Bool, true, false, ◌&&◌, cond, if◌then◌else◌, List, [], ◌∷◌, ◌++◌, length, map, slice_get, Option, Some, None, IsSome, is_none, is_some, option_map, refl, sym, ap, ◌∙◌, subst, arith, append-nil, length-append}
use Rattle.std.specs.List.{AllByRecursion}
use Rattle.std.proofs.lemmas.Bool.{and_from, and_parts}
use Rattle.std.proofs.lemmas.List.{nil_from_length}
use Rattle.std.proofs.lemmas.List.Elements.{filter-append}
use mathlib.Core.List.{IsSuffix}
use Rattle.tl_types.specs.Block.{FileOutcome}
use Rattle.tl_types.specs.Same.{actor_same, actor_same-Decides, worker_same, worker_same-Decides}
use Rattle.tl_types.specs.declared.actor.Actor.{Actor}
use Rattle.tl_types.specs.declared.file_id.FileId.{FileId}
use Rattle.tl_types.specs.declared.record_id.RecordId.{RecordId}
use Rattle.tl_types.specs.declared.worker_id.WorkerId.{WorkerId}
use Rattle.tl_model.specs.declared.event.Act.{Act}
use Rattle.tl_model.specs.declared.event.Act.TheVariants.{Call, Lose}
use Rattle.tl_model.specs.declared.event.Event.{Event}
use Rattle.tl_model.specs.declared.header.Header.{Header}
use Rattle.tl_model.specs.declared.record.Record.{Record}
use Rattle.tl_model.specs.Actors.{OpenRead, is_idle, open_claim, open_read, open_save}
use Rattle.tl_model.specs.History.{HistoryOf, calls_of, files_from, id_of, names_of, output_count, outputs_of, record_at, record_made, records, records_of, with_call}
use Rattle.tl_model.specs.Past.{Past, act_with, events_with, without_tickets}
use Rattle.tl_model.specs.Residency.{SavedAs, saved_as}
use Rattle.tl_model.specs.Rules.{is_lawful, lawful_judge, may_claim}
use Rattle.tl_model.specs.Values.{value}
use Rattle.tl_laws.specs.Others.{AreOfOthers, LoseNot, loses}
use Rattle.tl_laws.proofs.Apart.{claims-apart, no-claim-apart, reads-apart, saves-apart}
use Rattle.tl_laws.proofs.Numbering.{get-within}
use Rattle.tl_laws.proofs.Tickets.{records-with}
use Rattle.tl_laws_values.proofs.Told.{outcome-stays}
use Rattle.tl_steps.proofs.Saving.{saved-stays-as}
use Rattle.tl_steps.proofs.Within.{all-within}
use Rattle.tl_turn.specs.Log.{entries_by, is_by}
use Rattle.tl_cluster.specs.declared.work.Work.{Work}
use Rattle.tl_cluster.specs.Losses.{incarnation}
use Rattle.tl_cluster.specs.Losses as losses
use Rattle.tl_cluster.specs.Saves.{saved_block}
use Rattle.tl_cluster.specs.Works.{file_of}
use Rattle.tl_cluster.proofs.Calling.{record-stays}
use Rattle.tl_cluster.proofs.Calls.{made-within}
use Rattle.tl_cluster.proofs.Steps.{lawful-permitted}
use Rattle.tl_desk.specs.Finds.{Finds}
use Rattle.tl_desk.specs.Turns.{AreOutputs, AreValues, IsReading, IsSavedBlock, IsUnlessLost}
use Rattle.tl_seats.specs.Seats.{number_of}

-- ---- whose events came

not-its : (actor other : Actor) (b c : Bool) → (other.0 ≡ actor.0 → b ≡ true) → (c ≡ true → actor ≡ other) → b ≡ false → c ≡ false
not-its actor other b false its same none = refl
not-its actor other b true its same none =
    let e : actor ≡ other = same refl in
    let yes : b ≡ true = its (sym (ap (λ (a : Actor). a.0) e)) in
    absurd (cc)

kept-none : {A : Type 0} (b : Bool) (x : A) (xs : List A) → cond b (x ∷ xs) xs ≡ [] → (b ≡ false) × (xs ≡ [])
kept-none true x xs h = absurd (cc)
kept-none false x xs h = (refl, h)

-- events of which none has the actor's number are of others
are-of-others : {T : Type 0} (actor : Actor) (more : List (Event T)) → entries_by number_of actor.0 more ≡ [] → AreOfOthers actor more
are-of-others actor [] none = tt
are-of-others actor (e ∷ more) none =
    let parts = kept-none (is_by number_of actor.0 e) e (entries_by number_of actor.0 more) none in
    let other : Actor = e.actor in (
      not-its actor other (actor_same other actor) (actor_same actor other)
          (λ (same : other.0 ≡ actor.0). (actor_same-Decides other actor).1 (λ i. record { 0 = same i }))
          (actor_same-Decides actor other).0 parts.0,
      are-of-others actor more parts.1,
    )

-- where the seat's entries are those that it had seen, events of others came
pub finds : {T : Type 0} (actor : Actor) (seen found mine : List (Event T)) → IsSuffix seen found →
    entries_by number_of actor.0 found ≡ mine → entries_by number_of actor.0 seen ≡ mine → Finds false actor seen found
finds {T} actor seen found mine grown now before =
    let others : List (Event T) = grown.0 in
    let own : List (Event T) → List (Event T) = entries_by number_of actor.0 in
    let all : own others ++ own seen ≡ own seen =
    sym (filter-append (is_by number_of actor.0) others seen) ∙ ap own grown.1 ∙ now ∙ sym before in
    let none : length (own others) ≡ 0 = omega (arith, sym (length-append (own others) (own seen)) ∙ ap length all) in
    record {
      others = others;
      came = sym grown.1;
      theirs = are-of-others actor others (nil_from_length (own others) none);
      alone = λ whole. absurd (cc);
    }

-- ---- what the actor has open

pub read-found : {T : Type 0} (actor : Actor) (seen found : List (Event T)) → Finds false actor seen found →
    open_read (without_tickets found) actor ≡ open_read (without_tickets seen) actor
read-found actor seen found f =
    ap (λ es. open_read (without_tickets es) actor) f.came ∙ reads-apart actor f.others seen f.theirs

pub save-found : {T : Type 0} (actor : Actor) (seen found : List (Event T)) → Finds false actor seen found →
    open_save (without_tickets found) actor ≡ open_save (without_tickets seen) actor
save-found actor seen found f =
    ap (λ es. open_save (without_tickets es) actor) f.came ∙ saves-apart actor f.others seen f.theirs

none-of : {A : Type 0} (x : Option A) → is_none x ≡ true → x ≡ None
none-of None h = refl
none-of (Some x) h = absurd (cc)

no-claim-found : {T : Type 0} (actor : Actor) (seen found : List (Event T)) → Finds false actor seen found →
    is_none (open_claim (without_tickets seen) actor) ≡ true → is_none (open_claim (without_tickets found) actor) ≡ true
no-claim-found actor seen found f none =
    ap (λ es. is_none (open_claim (without_tickets es) actor)) f.came
    ∙ ap is_none (no-claim-apart actor f.others seen f.theirs (none-of (open_claim (without_tickets seen) actor) none))

-- an idle actor is found idle
pub idle-found : {T : Type 0} (actor : Actor) (seen found : List (Event T)) → Finds false actor seen found →
    is_idle (without_tickets seen) actor ≡ true → is_idle (without_tickets found) actor ≡ true
idle-found actor seen found f idle =
    let past : Past = without_tickets seen in
    let now : Past = without_tickets found in
    let all = and_parts (is_none (open_read past actor) && is_none (open_claim past actor)) (is_none (open_save past actor)) idle in
    let two = and_parts (is_none (open_read past actor)) (is_none (open_claim past actor)) all.0 in
    and_from (is_none (open_read now actor) && is_none (open_claim now actor)) (is_none (open_save now actor))
    (and_from (is_none (open_read now actor)) (is_none (open_claim now actor))
    (ap is_none (read-found actor seen found f) ∙ two.0) (no-claim-found actor seen found f two.1))
    (ap is_none (save-found actor seen found f) ∙ all.1)

-- one that may claim may still
pub may-claim-found : {T : Type 0} (actor : Actor) (seen found : List (Event T)) → Finds false actor seen found →
    may_claim (without_tickets seen) actor ≡ true → may_claim (without_tickets found) actor ≡ true
may-claim-found actor seen found f may =
    let past : Past = without_tickets seen in
    let now : Past = without_tickets found in
    let both = and_parts (is_none (open_claim past actor)) (is_none (open_save past actor)) may in
    and_from (is_none (open_claim now actor)) (is_none (open_save now actor))
    (no-claim-found actor seen found f both.0) (ap is_none (save-found actor seen found f) ∙ both.1)

-- the file that it reads is the same
pub reading-found : {T : Type 0} (actor : Actor) (file : FileId) (seen found : List (Event T)) → Finds false actor seen found →
    IsReading seen actor file → IsReading found actor file
reading-found actor file seen found f reading = (reading.0, read-found actor seen found f ∙ reading.1, reading.2)

-- ---- the claim of a job, unless its worker is lost

more-losses : (n m : ℕ) (b : Bool) → n ≤ m → n ≤ (if b then m + 1 else m)
more-losses n m true less = omega arith
more-losses n m false less = less

-- a worker is lost no less often later
pub losses-grow : {T : Type 0} (worker : WorkerId) (more events : List (Event T)) → incarnation events worker ≤ incarnation (more ++ events) worker
losses-grow worker [] events = let n : ℕ = incarnation events worker in omega arith
losses-grow worker (e ∷ more) events =
    more-losses (incarnation events worker) (incarnation (more ++ events) worker) (losses.loses worker e.act) (losses-grow worker more events)

same-losses : (n m : ℕ) (b : Bool) → n ≤ m → (if b then m + 1 else m) ≡ n → (b ≡ false) × (m ≡ n)
same-losses n m true less same = absurd (omega arith)
same-losses n m false less same = (refl, same)

other-worker : (a b : WorkerId) (c : Bool) → worker_same b a ≡ c → worker_same a b ≡ false → c ≡ false
other-worker a b false is other = refl
other-worker a b true is other =
    let e : b ≡ a = (worker_same-Decides b a).0 is in
    let yes : worker_same a b ≡ true = (worker_same-Decides a b).1 (sym e) in
    absurd (cc)

loses-not : {T : Type 0} (worker : WorkerId) (act : Act T) → losses.loses worker act ≡ false → loses worker act ≡ false
loses-not worker (Lose other) none = other-worker worker other (worker_same other worker) refl none
loses-not worker act none = refl

not-lost : {T : Type 0} (worker : WorkerId) (more events : List (Event T)) →
    incarnation (more ++ events) worker ≡ incarnation events worker → LoseNot worker more
not-lost worker [] events same = tt
not-lost worker (e ∷ more) events same =
    let step = same-losses (incarnation events worker) (incarnation (more ++ events) worker) (losses.loses worker e.act)
    (losses-grow worker more events) same in
    (loses-not worker e.act step.0, not-lost worker more events step.1)

claim-later : {T : Type 0} (work : Work T) (more seen : List (Event T)) → AreOfOthers work.actor more → IsUnlessLost seen work →
    incarnation (more ++ seen) work.worker ≡ work.incarnation →
    open_claim (without_tickets (more ++ seen)) work.actor ≡ Some (record { worker = work.worker; made = work.rec })
claim-later work more seen theirs u same =
    let n : ℕ = incarnation seen work.worker in
    let grown : n ≤ incarnation (more ++ seen) work.worker = losses-grow work.worker more seen in
    let least : work.incarnation ≤ n = u.never_less in
    let before : n ≡ work.incarnation = omega arith in
    claims-apart work.actor more seen (record { worker = work.worker; made = work.rec }) theirs
    (not-lost work.worker more seen (same ∙ sym before)) (u.still before)

-- the claim is found open unless its worker was lost
pub claim-found : {T : Type 0} (actor : Actor) (work : Work T) (seen found : List (Event T)) → Finds false actor seen found → work.actor ≡ actor →
    IsUnlessLost seen work → incarnation found work.worker ≡ work.incarnation →
    open_claim (without_tickets found) work.actor ≡ Some (record { worker = work.worker; made = work.rec })
claim-found {T} actor work seen found f mine u same =
    ap (λ (es : List (Event T)). open_claim (without_tickets es) work.actor) f.came
    ∙ claim-later work f.others seen (subst (λ (a : Actor). AreOfOthers a f.others) (sym mine) f.theirs) u
    (ap (λ (es : List (Event T)). incarnation es work.worker) (sym f.came) ∙ same)

-- ---- records, and what files hold

records-more : {T : Type 0} (actor : Actor) (act : Act T) (calls : HistoryOf T) →
    (more : List Record) × (records_of (with_call actor act calls) ≡ records_of calls ++ more)
records-more actor (Call command reply) calls = (record_made reply command (names_of calls), refl)
records-more actor act calls = ([], sym (append-nil (records_of calls)))

-- a record stands where it stood
pub record-later : {T : Type 0} (more seen : List (Event T)) (made : RecordId) (r : Record) →
    record_at (without_tickets seen) made ≡ Some r → record_at (without_tickets (more ++ seen)) made ≡ Some r
record-later [] seen made r is = is
record-later (e ∷ more) seen made r is =
    let past : Past = without_tickets (more ++ seen) in
    let grown = records-more e.actor (act_with {U = Unit {0}} (λ _. tt) e.act) (calls_of past) in
    ap (λ (rs : List Record). slice_get rs made.0) grown.1
    ∙ record-stays (records past) grown.0 made.0 r (record-later more seen made r is)

count-later : {T : Type 0} (more seen : List (Event T)) → length (records_of (calls_of seen)) ≤ length (records_of (calls_of (more ++ seen)))
count-later [] seen = let n : ℕ = length (records_of (calls_of seen)) in omega arith
count-later (e ∷ more) seen =
    let grown = records-more e.actor e.act (calls_of (more ++ seen)) in
    let before : length (records_of (calls_of seen)) ≤ length (records_of (calls_of (more ++ seen))) = count-later more seen in
    omega (arith, ap length grown.1, length-append (records_of (calls_of (more ++ seen))) grown.0)

within-told : {T : Type 0} (content : T → List ℕ) (more seen : List (Event T)) (f : FileId) → f.rec.0 < length (records (without_tickets seen)) →
    f.rec.0 < length (records_of (calls_of (events_with content (more ++ seen))))
within-told content more seen f within =
    omega (arith, ap length (records-with {U = Unit {0}} (λ _. tt) seen), ap length (records-with content (more ++ seen)), count-later more seen)

-- what a file of an accepted record holds stays
pub value-later : {T : Type 0} (content : T → List ℕ) (more seen : List (Event T)) (f : FileId) → f.rec.0 < length (records (without_tickets seen)) →
    value (events_with content (more ++ seen)) f ≡ value (events_with content seen) f
value-later content [] seen f within = refl
value-later content (e ∷ more) seen f within =
    outcome-stays e.actor (act_with content e.act) (calls_of (events_with content (more ++ seen))) f (within-told content more seen f within)
    ∙ value-later content more seen f within

pub value-found : {T : Type 0} (content : T → List ℕ) (actor : Actor) (seen found : List (Event T)) (f : FileId) → Finds false actor seen found →
    f.rec.0 < length (records (without_tickets seen)) → value (events_with content found) f ≡ value (events_with content seen) f
value-found {T} content actor seen found f finds within =
    ap (λ (es : List (Event T)). value (events_with content es) f) finds.came ∙ value-later content finds.others seen f within

-- ---- what is saved

pub saved-found : {T : Type 0} (header : Header) (actor : Actor) (seen found : List (Event T)) (block : FileOutcome) → Finds false actor seen found →
    is_lawful header found ≡ true → IsSavedBlock seen block → IsSavedBlock found block
saved-found {T} header actor seen found block f lawful saved =
    let ok : is_lawful header (f.others ++ seen) ≡ true = ap (is_lawful header) (sym f.came) ∙ lawful in
    ap (λ (es : List (Event T)). saved_as (without_tickets es) block.file) f.came
    ∙ saved-stays-as lawful_judge header f.others seen (lawful-permitted header (f.others ++ seen) ok) block.file (saved_block block) saved

pub saved-within : {T : Type 0} (header : Header) (seen : List (Event T)) (f : FileId) (known : SavedAs) → is_lawful header seen ≡ true →
    saved_as (without_tickets seen) f ≡ Some known → f.rec.0 < length (records (without_tickets seen))
saved-within header seen f known lawful saved =
    made-within (without_tickets seen) f
    ((all-within lawful_judge header seen (lawful-permitted header seen lawful)).saved f (ap (λ (o : Option SavedAs). is_some o) saved))

pub save-within : {T : Type 0} (header : Header) (seen : List (Event T)) (actor : Actor) (f : FileId) → is_lawful header seen ≡ true →
    open_save (without_tickets seen) actor ≡ Some f → f.rec.0 < length (records (without_tickets seen))
save-within header seen actor f lawful open_ =
    made-within (without_tickets seen) f ((all-within lawful_judge header seen (lawful-permitted header seen lawful)).saves actor f open_)

-- ---- the outputs of a job

some-record : {A B : Type 0} (g : A → B) (o : Option A) (y : B) → option_map g o ≡ Some y → (x : A) × (o ≡ Some x) × (g x ≡ y)
some-record g None y is = absurd (cc)
some-record g (Some x) y is = (x, refl, cc)

pub outputs-found : {T : Type 0} (actor : Actor) (seen found : List (Event T)) (made : RecordId) (blocks : List FileOutcome) → Finds false actor seen found →
    AreOutputs seen made blocks → AreOutputs found made blocks
outputs-found {T} actor seen found made blocks f are =
    let one = some-record outputs_of (record_at (without_tickets seen) made) (map file_of blocks) are in
    ap (λ (es : List (Event T)). option_map outputs_of (record_at (without_tickets es) made)) f.came
    ∙ ap (λ (o : Option Record). option_map outputs_of o) (record-later f.others seen made one.0 one.1)
    ∙ ap Some one.2

of-record : (made : RecordId) (k n : ℕ) (blocks : List FileOutcome) → files_from made k n ≡ map file_of blocks →
    AllByRecursion (λ (block : FileOutcome). block.file.rec ≡ made) blocks
of-record made k n [] is = tt
of-record made k zero (block ∷ blocks) is = absurd (cc)
of-record made k (suc n) (block ∷ blocks) is =
    let first : record { rec = made; out = k } ≡ block.file = cc in
    let later : files_from made (k + 1) n ≡ map file_of blocks = cc in
    (sym (ap (λ (g : FileId). g.rec) first), of-record made (k + 1) n blocks later)

values-each : {T : Type 0} (tells : Bool) (content : T → List ℕ) (actor : Actor) (seen found : List (Event T)) (made : RecordId) (blocks : List FileOutcome) →
    Finds false actor seen found → made.0 < length (records (without_tickets seen)) → AllByRecursion (λ (block : FileOutcome). block.file.rec ≡ made) blocks →
    AreValues tells content seen blocks → AreValues tells content found blocks
values-each tells content actor seen found made [] f within of are = tt
values-each tells content actor seen found made (block ∷ blocks) f within of are = (
  (λ tell. are.0 tell ∙ sym (value-found content actor seen found block.file f
      (subst (λ (id : RecordId). id.0 < length (records (without_tickets seen))) (sym of.0) within))),
  values-each tells content actor seen found made blocks f within of.1 are.1,
)

-- the blocks of a job's outputs hold what they held
pub values-found : {T : Type 0} (tells : Bool) (content : T → List ℕ) (header : Header) (actor : Actor) (seen found : List (Event T)) (made : RecordId)
    (blocks : List FileOutcome) → Finds false actor seen found → is_lawful header seen ≡ true → AreOutputs seen made blocks →
    AreValues tells content seen blocks → AreValues tells content found blocks
values-found tells content header actor seen found made blocks f lawful outputs are =
    let past : Past = without_tickets seen in
    let one = some-record outputs_of (record_at past made) (map file_of blocks) outputs in
    let numbered : id_of one.0 ≡ made =
    (all-within lawful_judge header seen (lawful-permitted header seen lawful)).numbered made.0 one.0 one.1 in
    values-each tells content actor seen found made blocks f (get-within (records past) made.0 one.0 one.1)
    (of-record made 0 (output_count one.0) blocks (ap (λ (id : RecordId). files_from id 0 (output_count one.0)) (sym numbered) ∙ one.2)) are

-- ---- one read alone

pub is-open : {A : Type 0} (o : Option A) (x : A) → o ≡ Some x → IsSome o
is-open None x is = absurd (cc)
is-open (Some y) x is = refl

pub reads-that : {T : Type 0} (events : List (Event T)) (actor : Actor) (file : FileId) → IsReading events actor file → (read : OpenRead) →
    open_read (without_tickets events) actor ≡ Some read → file ≡ read.file
reads-that events actor file reading read is =
    let same : Some reading.0 ≡ Some read = sym reading.1 ∙ is in
    let it : reading.0 ≡ read = cc in
    sym reading.2 ∙ ap (λ (r : OpenRead). r.file) it
