-- A job that is done leaves fewer tasks.
use Rattle.std.proofs.Common.{◌≡◌, ℕ, zero, suc, ◌+◌, ◌<◌, ◌≤◌, Bool, true, false, not, ◌&&◌, ◌||◌, if◌then◌else◌, List, [], ◌∷◌, length, slice_get, Option, Some, None, is_some, refl, sym, ap, ◌∙◌, subst, arith}
use Rattle.std.specs.List.{AllByRecursion, list_any}
use Rattle.std.proofs.lemmas.Bool.{and_parts, and_from, both_ways, lt-ltb}
use Rattle.tl_types.specs.Same.{actor_same, actor_same-Decides, record_same, record_same-Decides}
use Rattle.tl_types.specs.declared.actor.Actor.{Actor}
use Rattle.tl_types.specs.declared.file_id.FileId.{FileId}
use Rattle.tl_types.specs.declared.record_id.RecordId.{RecordId}
use Rattle.tl_types.specs.declared.worker_id.WorkerId.{WorkerId}
use Rattle.tl_model.specs.declared.event.Act.TheVariants.{Done}
use Rattle.tl_model.specs.declared.record.Record.{Record}
use Rattle.tl_model.specs.Past.{Past}
use Rattle.tl_model.specs.Tables.{Table, downward, chosen}
use Rattle.tl_model.specs.History.{records, records_of, record_at, id_of, is_job, output_count, outputs_of, files_from, has_input, has_output, is_output}
use Rattle.tl_model.specs.Actors.{OpenClaim, open_read, open_claim, actors, reads_file, is_read, claims_record, is_running}
use Rattle.tl_model.specs.Residency.{place, place_after, is_resident, is_saved, is_available, was_done}
use Rattle.tl_model.specs.Plan.{is_awaited, is_wanted_by, lacks, task_among, tasks, is_task}
use Rattle.tl_laws.specs.Numbers.{Numbered}
use Rattle.tl_laws.proofs.Ready.{after, task-at}
use Rattle.tl_laws_drops.specs.Drops.{MayDrop, drops_by}
use Rattle.tl_laws_drops.proofs.Drop.{either-same}
use Rattle.tl_laws_drops.proofs.ManyDrops.{calls-kept, claim-kept, read-kept, tasks-kept, wanted-available-kept}
use Rattle.tl_laws_progress.specs.Done.{after_done}
use Rattle.tl_laws_progress.specs.Runs.{with_claim, with_done, after_claim}

-- ---- tests

pub or-left : (a b : Bool) → a ≡ true → (a || b) ≡ true
or-left true b h = refl
or-left false b h = absurd (cc)

pub or-right : (a b : Bool) → b ≡ true → (a || b) ≡ true
or-right true b h = refl
or-right false b h = h

or-keeps : (a b c d : Bool) → (a ≡ true → c ≡ true) → (b ≡ true → d ≡ true) → (a || b) ≡ true → (c || d) ≡ true
or-keeps true b c d f g h = or-left c d (f refl)
or-keeps false b c d f g h = or-right c d (g h)

not-keeps : (a b : Bool) → (b ≡ true → a ≡ true) → not a ≡ true → not b ≡ true
not-keeps true b f h = absurd (cc)
not-keeps false true f h = absurd (let no : false ≡ true = f refl in cc)
not-keeps false false f h = refl

any-keeps : {A : Type 0} (p q : A → Bool) (xs : List A) → ((x : A) → p x ≡ true → q x ≡ true) → list_any p xs ≡ true → list_any q xs ≡ true
any-keeps p q [] f h = absurd (cc)
any-keeps p q (x ∷ xs) f h = or-keeps (p x) (list_any p xs) (q x) (list_any q xs) (f x) (any-keeps p q xs f) h

-- ---- tables

-- the same records, and where the first table chooses one so does the second
abbrev pub Within : Table Record Bool → Table Record Bool → Type 0
Within [] [] = Unit {0}
Within (e ∷ t) (f ∷ u) = (e.0 ≡ f.0) × (e.1 ≡ true → f.1 ≡ true) × Within t u
Within _ _ = ⊥

any-head : (p : Record → Bool) (x y : Record) (b c : Bool) (t u : Table Record Bool) → x ≡ y → (b ≡ true → c ≡ true) → (list_any p (chosen t) ≡ true → list_any p (chosen u) ≡ true) →
    list_any p (if b then x ∷ chosen t else chosen t) ≡ true → list_any p (if c then y ∷ chosen u else chosen u) ≡ true
any-head p x y true true t u e f g h = or-keeps (p x) (list_any p (chosen t)) (p y) (list_any p (chosen u)) (λ k. ap p (sym e) ∙ k) g h
any-head p x y true false t u e f g h = absurd (let no : false ≡ true = f refl in cc)
any-head p x y false true t u e f g h = or-right (p y) (list_any p (chosen u)) (g h)
any-head p x y false false t u e f g h = g h

any-within : (p : Record → Bool) (t u : Table Record Bool) → Within t u → list_any p (chosen t) ≡ true → list_any p (chosen u) ≡ true
any-within p [] [] w h = h
any-within p (e ∷ t) (f ∷ u) w h = any-head p e.0 f.0 e.1 f.1 t u w.0 w.1 (any-within p t u w.2) h
any-within p [] (f ∷ u) w h = absurd w
any-within p (e ∷ t) [] w h = absurd w

count-head : (x y : Record) (b c : Bool) (t u : Table Record Bool) → (b ≡ true → c ≡ true) → length (chosen t) ≤ length (chosen u) →
    length (if b then x ∷ chosen t else chosen t) ≤ length (if c then y ∷ chosen u else chosen u)
count-head x y true true t u f le = omega arith
count-head x y true false t u f le = absurd (let no : false ≡ true = f refl in cc)
count-head x y false true t u f le = omega arith
count-head x y false false t u f le = le

count-within : (t u : Table Record Bool) → Within t u → length (chosen t) ≤ length (chosen u)
count-within [] [] w = omega arith
count-within (e ∷ t) (f ∷ u) w = count-head e.0 f.0 e.1 f.1 t u w.1 (count-within t u w.2)
count-within [] (f ∷ u) w = absurd w
count-within (e ∷ t) [] w = absurd w

count-more : (x y : Record) (b c : Bool) (t u : Table Record Bool) → (b ≡ true → c ≡ true) → length (chosen t) < length (chosen u) →
    length (if b then x ∷ chosen t else chosen t) < length (if c then y ∷ chosen u else chosen u)
count-more x y true true t u f le = omega arith
count-more x y true false t u f le = absurd (let no : false ≡ true = f refl in cc)
count-more x y false true t u f le = omega arith
count-more x y false false t u f le = le

count-here : (x y : Record) (b c : Bool) (t u : Table Record Bool) → b ≡ false → c ≡ true → length (chosen t) ≤ length (chosen u) →
    length (if b then x ∷ chosen t else chosen t) < length (if c then y ∷ chosen u else chosen u)
count-here x y true c t u e f le = absurd (cc)
count-here x y false true t u e f le = omega arith
count-here x y false false t u e f le = absurd (cc)

within-trans : (s t u : Table Record Bool) → Within s t → Within t u → Within s u
within-trans [] [] [] v w = tt
within-trans (e ∷ s) (f ∷ t) (g ∷ u) v w = (v.0 ∙ w.0, λ k. w.1 (v.1 k), within-trans s t u v.2 w.2)
within-trans [] (f ∷ t) u v w = absurd v
within-trans (e ∷ s) [] u v w = absurd v
within-trans [] [] (g ∷ u) v w = absurd w
within-trans (e ∷ s) (f ∷ t) [] v w = absurd w

-- the first table chooses fewer where it chooses none but those that the second does, and one record less
fewer-within : (f g : Table Record Bool → Record → Bool) (rs : List Record) (i : ℕ) (r : Record) → slice_get rs i ≡ Some r → Within (downward f rs) (downward g rs) →
    g (downward g (after rs i)) r ≡ true → f (downward f (after rs i)) r ≡ false → length (chosen (downward f rs)) < length (chosen (downward g rs))
fewer-within f g [] i r at w was isnt = absurd (cc)
fewer-within f g (x ∷ xs) zero r at w was isnt =
    let same : x ≡ r = cc in
    let t = downward f xs in
    let u = downward g xs in
    count-here x x (f t x) (g u x) t u (ap (f t) same ∙ isnt) (ap (g u) same ∙ was) (count-within t u w.2)
fewer-within f g (x ∷ xs) (suc i) r at w was isnt =
    let t = downward f xs in
    let u = downward g xs in
    count-more x x (f t x) (g u x) t u w.1 (fewer-within f g xs i r at w.2 was isnt)

-- ---- a later past of the same records

-- the record stands at the place of its number
abbrev pub IsAt : Past → Record → Type 0
IsAt past r = record_at past (id_of r) ≡ Some r

all-at : {A : Type 0} (P : A → Type 0) (xs : List A) → ((i : ℕ) (x : A) → slice_get xs i ≡ Some x → P x) → AllByRecursion P xs
all-at P [] h = tt
all-at P (x ∷ xs) h = (h 0 x refl, all-at P xs (λ i y at. h (suc i) y at))

at-its-place : (past : Past) → Numbered (records past) → (i : ℕ) (r : Record) → slice_get (records past) i ≡ Some r → IsAt past r
at-its-place past n i r at = ap (λ (id : RecordId). slice_get (records past) id.0) (n i r at) ∙ at

-- the record runs if it ran
abbrev pub RunsStill : Past → Past → Record → Type 0
RunsStill past ahead r = is_running past (id_of r) ≡ true → is_running ahead (id_of r) ≡ true

-- what is wanted by the table and available stays available
abbrev pub Keeps : Past → Past → Table Record Bool → Type 0
Keeps past ahead u = (f : FileId) → is_wanted_by past u f ≡ true → is_available past f ≡ true → is_available ahead f ≡ true

-- more was done, what is wanted and available stays available, the same reads are open, and of what is a task then all that ran still runs
pub record IsAhead (past ahead : Past) : Type 0 where
  pub done : (made : RecordId) → was_done past made ≡ true → was_done ahead made ≡ true
  pub keeps : Keeps past ahead (tasks past)
  pub reads : (f : FileId) → is_read ahead f ≡ true → is_read past f ≡ true
  pub runs : (table : Table Record Bool) (r : Record) → IsAt past r → task_among ahead table r ≡ true → RunsStill past ahead r

-- what a table wants, that of earlier records too wants
wants-more : (past : Past) (r : Record) (b : Bool) (u : Table Record Bool) (f : FileId) → is_wanted_by past u f ≡ true → is_wanted_by past ((r, b) ∷ u) f ≡ true
wants-more past r true u f h =
    or-keeps (is_read past f) (is_awaited past u f) (is_read past f) (is_awaited past ((r, true) ∷ u) f) (λ k. k)
    (or-right (has_input f r && not (is_running past (id_of r))) (is_awaited past u f)) h
wants-more past r false u f h = h

any-where : {A : Type 0} (P : A → Type 0) (p q : A → Bool) (xs : List A) → ((x : A) → P x → p x ≡ true → q x ≡ true) → AllByRecursion P xs →
    list_any p xs ≡ true → list_any q xs ≡ true
any-where P p q [] f all h = absurd (cc)
any-where P p q (x ∷ xs) f all h = or-keeps (p x) (list_any p xs) (q x) (list_any q xs) (f x all.0) (any-where P p q xs f all.1) h

-- of the chosen records all that ran still run
abbrev pub AllRunStill : Past → Past → Table Record Bool → Type 0
AllRunStill past ahead t = AllByRecursion (RunsStill past ahead) (chosen t)

awaits-less : (past ahead : Past) (t u : Table Record Bool) → Within t u → AllRunStill past ahead t → (f : FileId) → is_awaited ahead t f ≡ true → is_awaited past u f ≡ true
awaits-less past ahead t u w still f h =
    let waits : Past → Record → Bool = λ p r. has_input f r && not (is_running p (id_of r)) in
    any-within (waits past) t u w
    (any-where (RunsStill past ahead) (waits ahead) (waits past) (chosen t)
    (λ r runs m.
    let parts = and_parts (has_input f r) (not (is_running ahead (id_of r))) m in
    and_from (has_input f r) (not (is_running past (id_of r))) parts.0 (not-keeps (is_running ahead (id_of r)) (is_running past (id_of r)) runs parts.1)) still h)

lacks-less : (past ahead : Past) → IsAhead past ahead → (t u : Table Record Bool) → Within t u → AllRunStill past ahead t → Keeps past ahead u →
    (f : FileId) → lacks ahead t f ≡ true → lacks past u f ≡ true
lacks-less past ahead a t u w still keeps f h =
    let parts = and_parts (is_wanted_by ahead t f) (not (is_available ahead f)) h in
    let wanted : is_wanted_by past u f ≡ true =
    or-keeps (is_read ahead f) (is_awaited ahead t f) (is_read past f) (is_awaited past u f) (a.reads f) (awaits-less past ahead t u w still f) parts.0 in
    and_from (is_wanted_by past u f) (not (is_available past f)) wanted (not-keeps (is_available ahead f) (is_available past f) (keeps f wanted) parts.1)

task-less : (past ahead : Past) → IsAhead past ahead → (t u : Table Record Bool) → Within t u → AllRunStill past ahead t → Keeps past ahead u →
    (r : Record) → task_among ahead t r ≡ true → task_among past u r ≡ true
task-less past ahead a t u w still keeps r h =
    let parts = and_parts (is_job r) _ h in
    and_from _ _ parts.0
    (or-keeps (not (was_done ahead (id_of r))) (list_any (lacks ahead t) (outputs_of r)) (not (was_done past (id_of r))) (list_any (lacks past u) (outputs_of r))
    (not-keeps (was_done ahead (id_of r)) (was_done past (id_of r)) (a.done (id_of r)))
    (any-keeps (lacks ahead t) (lacks past u) (outputs_of r) (lacks-less past ahead a t u w still keeps)) parts.1)

all-chosen : (P : Record → Type 0) (r : Record) (b : Bool) (t : Table Record Bool) → (b ≡ true → P r) → AllByRecursion P (chosen t) →
    AllByRecursion P (if b then r ∷ chosen t else chosen t)
all-chosen P r true t h all = (h refl, all)
all-chosen P r false t h all = all

-- from the last record to the first
tables-within : (past ahead : Past) → IsAhead past ahead → (rs : List Record) → AllByRecursion (IsAt past) rs → Keeps past ahead (downward (task_among past) rs) →
    Within (downward (task_among ahead) rs) (downward (task_among past) rs) × AllRunStill past ahead (downward (task_among ahead) rs)
tables-within past ahead a [] at keeps = (tt, tt)
tables-within past ahead a (r ∷ rs) at keeps =
    let t = downward (task_among ahead) rs in
    let u = downward (task_among past) rs in
    let rest : Keeps past ahead u = λ f wanted here. keeps f (wants-more past r (task_among past u r) u f wanted) here in
    let later = tables-within past ahead a rs at.1 rest in (
      (refl, task-less past ahead a t u later.0 later.1 rest r, later.0),
      all-chosen (RunsStill past ahead) r (task_among ahead t r) t (a.runs t r at.0) later.1,
    )

-- the tasks of the later past are tasks before
tasks-within : (past ahead : Past) → Numbered (records past) → IsAhead past ahead → Within (downward (task_among ahead) (records past)) (tasks past)
tasks-within past ahead n a = (tables-within past ahead a (records past) (all-at (IsAt past) (records past) (at-its-place past n)) a.keeps).0

-- ---- a claim

claim-reads : (past : Past) (actor : Actor) (worker : WorkerId) (made : RecordId) (f : FileId) → is_read (with_claim actor worker made past) f ≡ is_read past f
claim-reads past actor worker made f = λ i. list_any (λ a. reads_file f (either-same (actor_same a actor) (open_read past a) i)) actors

-- what ran runs after the claim too
abbrev pub ClaimEndsNone : Past → Actor → WorkerId → RecordId → Type 0
ClaimEndsNone past actor worker made = (other : RecordId) → is_running past other ≡ true → is_running (with_claim actor worker made past) other ≡ true

claim-ahead : (past : Past) (actor : Actor) (worker : WorkerId) (made : RecordId) → ClaimEndsNone past actor worker made → IsAhead past (with_claim actor worker made past)
claim-ahead past actor worker made still = record {
  done = λ other h. h;
  keeps = λ f wanted h. h;
  reads = λ f h. sym (claim-reads past actor worker made f) ∙ h;
  runs = λ table r at task. still (id_of r);
}

pub idle-ends-none : (past : Past) (actor : Actor) (worker : WorkerId) (made : RecordId) → ((made : RecordId) → is_running past made ≡ false) → ClaimEndsNone past actor worker made
idle-ends-none past actor worker made idle = λ other runs. absurd (both_ways (is_running past other) (idle other) runs)

claimed-still : (b : Bool) (o : Option OpenClaim) (new : Option OpenClaim) (other : RecordId) → (b ≡ true → o ≡ None) → claims_record other o ≡ true →
    claims_record other (if b then new else o) ≡ true
claimed-still true o new other free h = absurd (both_ways (claims_record other o) (ap (claims_record other) (free refl)) h)
claimed-still false o new other free h = h

-- where the actor has no claim open
pub free-ends-none : (past : Past) (actor : Actor) (worker : WorkerId) (made : RecordId) → open_claim past actor ≡ None → ClaimEndsNone past actor worker made
free-ends-none past actor worker made free = λ other runs.
    any-keeps (λ a. claims_record other (open_claim past a)) (λ a. claims_record other (open_claim (with_claim actor worker made past) a)) actors
    (λ a h. claimed-still (actor_same a actor) (open_claim past a) (Some (record { worker = worker; made = made })) other
    (λ same. ap (open_claim past) ((actor_same-Decides a actor).0 same) ∙ free) h) runs

-- ---- a done

some-stays : (past : Past) (worker : WorkerId) (made : RecordId) (f : FileId) (here : Option WorkerId) → is_some here ≡ true → is_some (place_after past (Done worker made) f here) ≡ true
some-stays past worker made f (Some w) h = refl
some-stays past worker made f None h = absurd (cc)

brings : (past : Past) (worker : WorkerId) (made : RecordId) (f : FileId) (here : Option WorkerId) → is_output past f made ≡ true → is_some (place_after past (Done worker made) f here) ≡ true
brings past worker made f (Some w) h = refl
brings past worker made f None h = ap (λ b. is_some (if b then Some worker else None)) h

done-keeps : (past : Past) (actor : Actor) (worker : WorkerId) (made : RecordId) (f : FileId) → is_available past f ≡ true → is_available (with_done actor worker made past) f ≡ true
done-keeps past actor worker made f h =
    or-keeps (is_resident past f) (is_saved past f) (is_resident (with_done actor worker made past) f) (is_saved past f)
    (some-stays past worker made f (place past f)) (λ k. k) h

-- nothing of a record's outputs is missing
none-missing : (p : FileId → Bool) (id : RecordId) (k n : ℕ) → ((o : ℕ) → o < k + n → p (record { rec = id; out = o }) ≡ false) → list_any p (files_from id k n) ≡ false
none-missing p id k zero h = refl
none-missing p id k (suc n) h =
    ap (λ b. b || list_any p (files_from id (k + 1) n)) (h k (omega arith)) ∙ none-missing p id (k + 1) n (λ o less. h o (omega arith))

false-after : (a b c : Bool) → b ≡ false → c ≡ false → (a && (b || c)) ≡ false
false-after true b c e f = ap (λ x. x || c) e ∙ f
false-after false b c e f = refl

false-right : (a b : Bool) → b ≡ false → (a && b) ≡ false
false-right true b e = e
false-right false b e = refl

-- the job that was done is no task
done-is-no-task : (past : Past) (actor : Actor) (worker : WorkerId) (r : Record) (t : Table Record Bool) → IsAt past r →
    task_among (with_done actor worker (id_of r) past) t r ≡ false
done-is-no-task past actor worker r t at =
    let ahead = with_done actor worker (id_of r) past in
    let did : was_done ahead (id_of r) ≡ true = or-left (record_same (id_of r) (id_of r)) _ ((record_same-Decides (id_of r) (id_of r)).1 refl) in
    let there : (o : ℕ) → o < 0 + output_count r → lacks ahead t (record { rec = id_of r; out = o }) ≡ false = λ o less.
    let f : FileId = record { rec = id_of r; out = o } in
    let small : o < output_count r = omega arith in
    let out : is_output past f (id_of r) ≡ true =
    and_from _ _ ((record_same-Decides (id_of r) (id_of r)).1 refl) (ap (λ x. has_output x o) at ∙ lt-ltb o (output_count r) small) in
    let resident : is_resident ahead f ≡ true = brings past worker (id_of r) f (place past f) out in
    let available : is_available ahead f ≡ true = or-left (is_resident ahead f) (is_saved ahead f) resident in
    false-right (is_wanted_by ahead t f) (not (is_available ahead f)) (ap not available) in
    false-after (is_job r) (not (was_done ahead (id_of r))) (list_any (lacks ahead t) (outputs_of r)) (ap not did) (none-missing (lacks ahead t) (id_of r) 0 (output_count r) there)

-- ---- a claim, drops, and its done

records-kept : (actor : Actor) (ds : List (WorkerId × FileId)) (past : Past) → records (drops_by actor ds past) ≡ records past
records-kept actor ds past = ap records_of (calls-kept actor ds past)

done-kept : (actor : Actor) (ds : List (WorkerId × FileId)) (past : Past) (made : RecordId) → was_done (drops_by actor ds past) made ≡ was_done past made
done-kept actor [] past made = refl
done-kept actor (d ∷ ds) past made = done-kept actor ds past made

done-reads : (past : Past) (actor : Actor) (worker : WorkerId) (made : RecordId) (ds : List (WorkerId × FileId)) (f : FileId) →
    is_read (with_done actor worker made (drops_by actor ds past)) f ≡ is_read past f
done-reads past actor worker made ds f =
    λ i. list_any (λ a. reads_file f ((either-same (actor_same a actor) (open_read (drops_by actor ds past) a) ∙ read-kept actor ds past a) i)) actors

runs-still : (b : Bool) (o now : Option OpenClaim) (worker : WorkerId) (made other : RecordId) → record_same other made ≡ false → now ≡ (if b then Some (record { worker = worker; made = made }) else o) →
    claims_record other (if b then Some (record { worker = worker; made = made }) else o) ≡ true → claims_record other (if b then None else now) ≡ true
runs-still true o now worker made other apart e h = absurd (both_ways (record_same other made) apart h)
runs-still false o now worker made other apart e h = ap (claims_record other) e ∙ h

-- the record that is done is the only one that runs no more
other-runs : (past : Past) (actor : Actor) (worker : WorkerId) (made other : RecordId) (ds : List (WorkerId × FileId)) → record_same other made ≡ false →
    is_running (with_claim actor worker made past) other ≡ true → is_running (with_done actor worker made (after_claim actor worker made ds past)) other ≡ true
other-runs past actor worker made other ds apart runs =
    let claimed = with_claim actor worker made past in
    let dropped = after_claim actor worker made ds past in
    any-keeps (λ a. claims_record other (open_claim claimed a)) (λ a. claims_record other (open_claim (with_done actor worker made dropped) a)) actors
    (λ a h. runs-still (actor_same a actor) (open_claim past a) (open_claim dropped a) worker made other apart (claim-kept actor ds claimed a) h) runs

-- and that one is no task
tasks-run : (past : Past) (actor : Actor) (worker : WorkerId) (r : Record) (ds : List (WorkerId × FileId)) → IsAt past r → (table : Table Record Bool) (other : Record) → IsAt past other →
    task_among (with_done actor worker (id_of r) (after_claim actor worker (id_of r) ds past)) table other ≡ true → (b : Bool) → record_same (id_of other) (id_of r) ≡ b →
    RunsStill (with_claim actor worker (id_of r) past) (with_done actor worker (id_of r) (after_claim actor worker (id_of r) ds past)) other
tasks-run past actor worker r ds at table other here task true e =
    let dropped = after_claim actor worker (id_of r) ds past in
    let both : Some other ≡ Some r = sym here ∙ ap (record_at past) ((record_same-Decides (id_of other) (id_of r)).0 e) ∙ at in
    let same : other ≡ r = cc in
    let kept : IsAt dropped r = ap (λ rs. slice_get rs (id_of r).0) (records-kept actor ds (with_claim actor worker (id_of r) past)) ∙ at in
    absurd (both_ways (task_among (with_done actor worker (id_of r) dropped) table other)
    (ap (task_among (with_done actor worker (id_of r) dropped) table) same ∙ done-is-no-task dropped actor worker r table kept) task)
tasks-run past actor worker r ds at table other here task false e = other-runs past actor worker (id_of r) (id_of other) ds e

done-ahead : (past : Past) (actor : Actor) (worker : WorkerId) (r : Record) (ds : List (WorkerId × FileId)) → IsAt past r → MayDrop actor ds (with_claim actor worker (id_of r) past) →
    IsAhead (with_claim actor worker (id_of r) past) (with_done actor worker (id_of r) (after_claim actor worker (id_of r) ds past))
done-ahead past actor worker r ds at may =
    let claimed = with_claim actor worker (id_of r) past in
    let dropped = after_claim actor worker (id_of r) ds past in
    record {
      done = λ made h. or-right (record_same made (id_of r)) (was_done dropped made) (done-kept actor ds claimed made ∙ h);
      keeps = λ f wanted h. done-keeps dropped actor worker (id_of r) f (wanted-available-kept actor ds claimed may f wanted ∙ h);
      reads = λ f h. sym (done-reads claimed actor worker (id_of r) ds f) ∙ h;
      runs = λ table other here task. tasks-run past actor worker r ds at table other here task (record_same (id_of other) (id_of r)) refl;
    }

-- a task that is claimed and done leaves fewer tasks, whatever is dropped after each that may go
pub run-leaves-fewer : (past : Past) (actor : Actor) (worker : WorkerId) (i : ℕ) (r : Record) → Numbered (records past) → ClaimEndsNone past actor worker (id_of r) →
    slice_get (records past) i ≡ Some r → is_task past (id_of r) ≡ true → (claimed finished : List (WorkerId × FileId)) →
    MayDrop actor claimed (with_claim actor worker (id_of r) past) →
    MayDrop actor finished (with_done actor worker (id_of r) (after_claim actor worker (id_of r) claimed past)) →
    length (chosen (tasks (drops_by actor finished (with_done actor worker (id_of r) (after_claim actor worker (id_of r) claimed past))))) < length (chosen (tasks past))
run-leaves-fewer past actor worker i r n still at task claimed finished may_first may_last =
    let first = with_claim actor worker (id_of r) past in
    let dropped = after_claim actor worker (id_of r) claimed past in
    let ahead = with_done actor worker (id_of r) dropped in
    let rs = records past in
    let place : IsAt past r = at-its-place past n i r at in
    let kept : IsAt dropped r = ap (λ rs. slice_get rs (id_of r).0) (records-kept actor claimed first) ∙ place in
    let same : tasks (drops_by actor finished ahead) ≡ downward (task_among ahead) rs =
    tasks-kept actor finished ahead may_last ∙ ap (downward (task_among ahead)) (records-kept actor claimed first) in
    let within : Within (downward (task_among ahead) rs) (tasks past) =
    within-trans (downward (task_among ahead) rs) (downward (task_among first) rs) (tasks past)
    (tasks-within first ahead n (done-ahead past actor worker r claimed place may_first))
    (tasks-within past first n (claim-ahead past actor worker (id_of r) still)) in
    subst (λ table. length (chosen table) < length (chosen (tasks past))) (sym same)
    (fewer-within (task_among ahead) (task_among past) rs i r at within (sym (task-at past i r n at) ∙ task)
    (done-is-no-task dropped actor worker r (downward (task_among ahead) (after rs i)) kept))

-- and with no drops, where nothing else runs
pub done-leaves-fewer : (past : Past) (actor : Actor) (worker : WorkerId) (i : ℕ) (r : Record) → Numbered (records past) → ((made : RecordId) → is_running past made ≡ false) →
    slice_get (records past) i ≡ Some r → is_task past (id_of r) ≡ true →
    length (chosen (tasks (after_done actor worker (id_of r) past))) < length (chosen (tasks past))
done-leaves-fewer past actor worker i r n idle at task = run-leaves-fewer past actor worker i r n (idle-ends-none past actor worker (id_of r) idle) at task [] [] tt tt
