-- What a job is fed is what its inputs hold, and what it makes is what its outputs hold.
use Rattle.std.proofs.Common.{◌≡◌, ◌==◌, ℕ, suc, ◌+◌, Bool, true, false, if◌then◌else◌, List, [], ◌∷◌, length, map, slice_get, Option, Some, None, unwrap_or, option_and_then, option_map, refl, sym, ap, ◌∙◌, arith}
use Rattle.std.specs.List.{AllByRecursion}
use Rattle.std.proofs.lemmas.Bool.{and_parts, eqb-true}
use Rattle.std.proofs.lemmas.List.{length-map}
use Rattle.tl_types.specs.Block.{FileOutcome}
use Rattle.tl_types.specs.declared.actor.Actor.{Actor}
use Rattle.tl_types.specs.declared.file_id.FileId.{FileId}
use Rattle.tl_types.specs.declared.worker_id.WorkerId.{WorkerId}
use Rattle.tl_types.specs.declared.record_id.RecordId.{RecordId}
use Rattle.tl_types.specs.declared.outcome.Outcome.{Outcome}
use Rattle.tl_lang.specs.declared.expr.Expr.{Expr}
use Rattle.tl_lang.specs.declared.job.JobSpecCore.{JobSpecCore}
use Rattle.tl_lang.specs.Job.{job_mean}
use Rattle.tl_lang.specs.declared.program.Program.{Program}
use Rattle.tl_lang.specs.Kinds.{KindsHold, outputs_differ, refusal_in}
use Rattle.tl_lang.specs.Mean.{outcomes, values}
use Rattle.tl_lang.specs.Names.{Names}
use Rattle.tl_model.specs.declared.event.Act.TheVariants.{Claim}
use Rattle.tl_model.specs.declared.record.Record.{Record}
use Rattle.tl_model.specs.declared.record.Record.TheVariants as kind
use Rattle.tl_model.specs.declared.saved.Saved.{Saved}
use Rattle.tl_model.specs.declared.saved.Saved.TheVariants.{Held, Failed}
use Rattle.tl_model.specs.Past.{without_tickets}
use Rattle.tl_model.specs.Residency.{SavedAs}
use Rattle.tl_model.specs.History.{calls_of, records_of, record_at, outputs_of, files_from}
use Rattle.tl_model.specs.Rules.{lawful_judge, all_permitted, is_lawful, is_quiet}
use Rattle.tl_model.specs.Values.{Outcomes, no_outcome, outcome_in, outcomes_of, value}
use Rattle.tl_laws.specs.Order.{HasOlderInputs}
use Rattle.tl_laws.proofs.Order.{all-ordered, all-get}
use Rattle.tl_laws.proofs.Tickets.{records-with}
use Rattle.tl_laws_values.proofs.Told.{job-at}
use Rattle.tl_core.specs.declared.work.Feed.{Feed}
use Rattle.tl_core.specs.declared.work.Feed.TheVariants.{Have, Kept}
use Rattle.tl_core.specs.Answers.{IsSavedFor}
use Rattle.tl_core.specs.Done.{file_of}
use Rattle.tl_core.specs.Residents.{held}
use Rattle.tl_core.specs.State.{State}
use Rattle.tl_core.specs.Taken.{IsFed, AreFed}
use Rattle.tl_client.specs.Feeds.{IsWhole, IsWholeFeed, blocks_from, fed_outcome, saved_outcome}
use Rattle.tl_client.specs.Pieces.{Events, told}

-- a ticket that is its own content
abbrev pub itself : List ℕ → List ℕ
itself bytes = bytes

-- ---- as many outcomes as outputs

outcomes-count : (inputs : Option (List (List ℕ))) (conf : Names (List ℕ)) (fuel : ℕ) (outputs : List Expr) → length (outcomes inputs conf fuel outputs) ≡ length outputs
outcomes-count None conf fuel outputs = length-map outputs _
outcomes-count (Some texts) conf fuel outputs = length-map outputs _

pub mean-count : (core : JobSpecCore) (inputs : List Outcome) → length (job_mean core inputs) ≡ length core.program.program.outputs
mean-count core inputs = outcomes-count (values inputs) core.conf core.fuel core.program.program.outputs

count-if : (n outputs : ℕ) (b : Bool) (refusals : Option ℕ) → (n == outputs) ≡ b → (if b then refusals else Some outputs_differ) ≡ None → n ≡ outputs
count-if n outputs true refusals e h = eqb-true n outputs e
count-if n outputs false refusals e h = absurd (cc)

-- where the kind rules hold there are as many outputs as the job has
pub kinds-count : (program : Program) (inputs outputs : ℕ) → KindsHold program inputs outputs → length program.outputs ≡ outputs
kinds-count program inputs outputs kinds = count-if (length program.outputs) outputs (length program.outputs == outputs) (refusal_in inputs program.outputs) refl kinds

-- ---- what a job is fed

pub saved-whole : (known : SavedAs) (outcome : Outcome) (saved : Saved (List ℕ)) → IsSavedFor true itself known outcome saved → IsWhole saved
saved-whole known outcome (Held bytes len digest) h = (h.1, (h.2 refl).1, (h.2 refl).2)
saved-whole known outcome (Failed code) h = tt

pub saved-is : (known : SavedAs) (outcome : Outcome) (saved : Saved (List ℕ)) → IsSavedFor true itself known outcome saved → saved_outcome saved ≡ outcome
saved-is known outcome (Held bytes len digest) h = sym (h.2 refl).0
saved-is known outcome (Failed code) h = sym (h.1 refl)

whole-feed : (state : State (List ℕ)) (f : FileId) (feed : Feed (List ℕ)) → IsFed true itself state f feed → IsWholeFeed feed
whole-feed state f (Have block) h = tt
whole-feed state f (Kept g saved) h = saved-whole h.2.0 (value (told state.events) f) saved h.2.2

pub whole-feeds : (state : State (List ℕ)) (fs : List FileId) (feeds : List (Feed (List ℕ))) → AreFed true itself state fs feeds → AllByRecursion IsWholeFeed feeds
whole-feeds state [] [] h = tt
whole-feeds state (f ∷ fs) (feed ∷ feeds) h = (whole-feed state f feed h.0, whole-feeds state fs feeds h.1)
whole-feeds state [] (feed ∷ feeds) h = absurd h
whole-feeds state (f ∷ fs) [] h = absurd h

pub feeds-count : (state : State (List ℕ)) (fs : List FileId) (feeds : List (Feed (List ℕ))) → AreFed true itself state fs feeds → length feeds ≡ length fs
feeds-count state [] [] h = refl
feeds-count state (f ∷ fs) (feed ∷ feeds) h = ap suc (feeds-count state fs feeds h.1)
feeds-count state [] (feed ∷ feeds) h = absurd h
feeds-count state (f ∷ fs) [] h = absurd h

-- each block that is held is what its file holds
abbrev pub HeldAreValues : State (List ℕ) → Type 0
HeldAreValues state = (f : FileId) (block : FileOutcome) → held f state.residents ≡ Some block → true ≡ true → block.outcome ≡ value (told state.events) f

feed-is : (state : State (List ℕ)) (f : FileId) (feed : Feed (List ℕ)) → HeldAreValues state → IsFed true itself state f feed → fed_outcome feed ≡ value (told state.events) f
feed-is state f (Have block) known h = known f block h.1 refl
feed-is state f (Kept g saved) known h = saved-is h.2.0 (value (told state.events) f) saved h.2.2

feeds-are : (state : State (List ℕ)) (fs : List FileId) (feeds : List (Feed (List ℕ))) → HeldAreValues state → AreFed true itself state fs feeds →
    map fed_outcome feeds ≡ map (value (told state.events)) fs
feeds-are state [] [] known h = refl
feeds-are state (f ∷ fs) (feed ∷ feeds) known h =
    ap (λ o. o ∷ map fed_outcome feeds) (feed-is state f feed known h.0) ∙ ap (λ os. value (told state.events) f ∷ os) (feeds-are state fs feeds known h.1)
feeds-are state [] (feed ∷ feeds) known h = absurd h
feeds-are state (f ∷ fs) [] known h = absurd h

-- ---- what a job makes

pub block-files : (made : RecordId) (k : ℕ) (os : List Outcome) → map file_of (blocks_from made k os) ≡ files_from made k (length os)
block-files made k [] = refl
block-files made k (o ∷ os) = ap (λ fs. record { rec = made; out = k } ∷ fs) (block-files made (k + 1) os)

block-values : (table : Outcomes) (made : RecordId) (all : List Outcome) (k : ℕ) (os : List Outcome) → slice_get table made.0 ≡ Some all →
    ((i : ℕ) → slice_get os i ≡ slice_get all (k + i)) → AllByRecursion (λ block. true ≡ true → block.outcome ≡ outcome_in table block.file) (blocks_from made k os)
block-values table made all k [] at same = tt
block-values table made all k (o ∷ os) at same =
    let here : slice_get all k ≡ Some o = ap (slice_get all) (let e : k ≡ k + 0 = omega arith in e) ∙ sym (same 0) in (
      λ t. sym (ap (λ x. unwrap_or (option_and_then (λ outcomes. slice_get outcomes k) x) no_outcome) at ∙ ap (λ x. unwrap_or x no_outcome) here),
      block-values table made all (k + 1) os at (λ i. same (suc i) ∙ ap (slice_get all) (let e : k + suc i ≡ k + 1 + i = omega arith in e)),
    )

-- the blocks that a job makes of what it is fed are what its outputs hold
pub run-values : (state : State (List ℕ)) (made : RecordId) (core : JobSpecCore) (prio : ℕ) (inputs : List FileId) (outputs : ℕ) (feeds : List (Feed (List ℕ))) →
    is_lawful state.header state.events ≡ true → HeldAreValues state →
    record_at (without_tickets state.events) made ≡ Some (kind.Job made core prio inputs outputs) → AreFed true itself state inputs feeds →
    AllByRecursion (λ block. true ≡ true → block.outcome ≡ value (told state.events) block.file) (blocks_from made 0 (job_mean core (map fed_outcome feeds)))
run-values state made core prio inputs outputs feeds lawful known at fed =
    let events : Events = state.events in
    let job : Record = kind.Job made core prio inputs outputs in
    let ok = (and_parts (all_permitted lawful_judge state.header events) (is_quiet lawful_judge events) lawful).0 in
    let place : slice_get (records_of (calls_of events)) made.0 ≡ Some job = ap (λ (rs : List Record). slice_get rs made.0) (sym (records-with (λ _. tt) events)) ∙ at in
    let told_place : slice_get (records_of (calls_of (told events))) made.0 ≡ Some job = ap (λ (rs : List Record). slice_get rs made.0) (records-with itself events) ∙ place in
    let older : HasOlderInputs job = all-get HasOlderInputs (records_of (calls_of events)) made.0 job (all-ordered lawful_judge state.header events ok).older place in
    let table : Outcomes = outcomes_of (calls_of (told events)) in
    let means : slice_get table made.0 ≡ Some (job_mean core (map (value (told events)) inputs)) = job-at (calls_of (told events)) made.0 made core prio inputs outputs told_place older in
    let fed_means : slice_get table made.0 ≡ Some (job_mean core (map fed_outcome feeds)) =
    means ∙ ap (λ (os : List Outcome). Some (job_mean core os)) (sym (feeds-are state inputs feeds known fed)) in
    block-values table made (job_mean core (map fed_outcome feeds)) 0 (job_mean core (map fed_outcome feeds)) fed_means
    (λ i. ap (slice_get (job_mean core (map fed_outcome feeds))) (let e : i ≡ 0 + i = omega arith in e))

-- the files of the blocks that a job makes are its outputs
pub run-outputs : (state after : State (List ℕ)) (made : RecordId) (core : JobSpecCore) (prio : ℕ) (inputs : List FileId) (outputs : ℕ) (means : List Outcome)
    (actor : Actor) (worker : WorkerId) → after.events ≡ record { actor = actor; act = Claim worker made } ∷ state.events →
    record_at (without_tickets state.events) made ≡ Some (kind.Job made core prio inputs outputs) → length means ≡ outputs →
    option_map outputs_of (record_at (without_tickets after.events) made) ≡ Some (map file_of (blocks_from made 0 means))
run-outputs state after made core prio inputs outputs means actor worker events at count =
    ap (λ (es : Events). option_map outputs_of (record_at (without_tickets es) made)) events
    ∙ ap (option_map outputs_of) at ∙ ap (λ n. Some (files_from made 0 n)) (sym count) ∙ ap Some (sym (block-files made 0 means))
