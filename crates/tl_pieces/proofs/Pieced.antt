-- What each piece adds of its actor's own events.
use Rattle.std.proofs.Common.{◌≡◌, ℕ, true, List, [], ◌∷◌, ◌++◌, length, map, Option, Some, None, Result, Ok, Err, refl, subst}
use Rattle.tl_types.specs.Block.{FileOutcome}
use Rattle.tl_types.specs.declared.record_id.RecordId.{RecordId}
use Rattle.tl_types.specs.declared.worker_id.WorkerId.{WorkerId}
use Rattle.tl_types.specs.declared.file_id.FileId.{FileId}
use Rattle.tl_model.specs.declared.answer.Answer.{Answer}
use Rattle.tl_model.specs.declared.answer.Answer.TheVariants.{Said, Read, NotYet, Count, Lost}
use Rattle.tl_model.specs.declared.answer.Counted.TheVariants as counted
use Rattle.tl_model.specs.declared.answer.ClientError.{ClientError}
use Rattle.tl_model.specs.declared.answer.ClientError.TheVariants.{StoreFault, Damaged, NoMemory}
use Rattle.tl_model.specs.declared.answer.Damage.{Damage}
use Rattle.tl_model.specs.declared.command.Command.{Command}
use Rattle.tl_model.specs.declared.command.Command.TheVariants.{Put, Free as free}
use Rattle.tl_model.specs.declared.event.Act.{Act}
use Rattle.tl_model.specs.declared.event.Act.TheVariants.{Call, Collect, Save, Saved, Shut}
use Rattle.tl_model.specs.declared.reply.Reply.TheVariants.{Made, Opened}
use Rattle.tl_model.specs.Namespace.{PathOf}
use Rattle.tl_pieces.specs.Setting.{Setting, Events, event_by}
use Rattle.tl_pieces.specs.Own.{Adds}
use Rattle.tl_pieces.specs.Runs.{runs_of}
use Rattle.tl_pieces.specs.Calls.{IsCalled, IsPut, IsSaid, followers}
use Rattle.tl_pieces.specs.Reading.{IsNotYet, IsRead, IsReadGivenUp, IsReadOut, IsServed, IsTried, IsTriedOut, IsTryGivenUp, served_of}
use Rattle.tl_pieces.specs.Counts.{IsCollectAnswer, IsLoss, IsSave, IsSaveAnswer, IsSavingGivenUp, IsWorkAnswer, IsWorkGivenUp, Kept, GivenUp, LetGo, SaveEnd, SaveOf, Saving, collect_of, save_ending, save_of, saves_of}
use Rattle.tl_pieces.specs.Faults.{FaultCount}
use Rattle.tl_pieces.specs.Lines.{AddsSome, Ended, IsLine, Numbered, Unnumbered}
use Rattle.tl_pieces.proofs.Adding.{added-both, added-then}
use Rattle.tl_pieces.proofs.Begun.{ran-adds}
use Rattle.tl_pieces.proofs.Placing.{adds-one, called-adds, no_drop, served-adds}

-- ---- calls

followers-opened : {T : Type 0} (at : Events T) (command : Command T) (f : FileId) → followers at command (Opened f) ≡ []
followers-opened at (Put path len digest ticket) f = refl
followers-opened at (free path) f = refl
followers-opened at command f = refl

pub opened-adds : {T : Type 0} (s : Setting T) (command : Command T) (number : ℕ) (f : FileId) (before after : Events T) → IsCalled s command number (Opened f) before after →
    Adds s (event_by s.actor (Call command (Opened f)) ∷ []) before after
opened-adds {T} s command number f before after c =
    subst (λ (acts : List (Act T)). Adds s (map (event_by s.actor) (acts ++ Call command (Opened f) ∷ [])) before after) (followers-opened c.called_at command f)
    (called-adds s command number (Opened f) before after c)

pub put-adds : {T : Type 0} (s : Setting T) (path : PathOf) (text : List ℕ) (number : ℕ) (made : RecordId) (before after : Events T) → (p : IsPut s path text before after (Said number (Made made))) →
    Adds s (event_by s.actor (Saved (record { rec = made; out = 0 }) (length text) p.digest)
    ∷ event_by s.actor (Call (Put path (length text) p.digest p.ticket) (Made made)) ∷ []) before after
put-adds s path text number made before after p = called-adds s (Put path (length text) p.digest p.ticket) number (Made made) before after p.said

-- ---- reads

pub is-served-adds : {T : Type 0} (s : Setting T) (block : FileOutcome) (before after : Events T) → (r : IsServed s block before after) →
    Adds s (served_of s block.file r.digest r.found_at) before after
is-served-adds s block before after r =
    added-then s (served_of s block.file r.digest r.found_at) before r.found_at after r.found (served-adds s block.file r.digest r.found_at after r.served)

pub read-out-adds : {T : Type 0} (s : Setting T) (command : Command T) (number : ℕ) (block : FileOutcome) (before after : Events T) →
    (r : IsReadOut s command number block before after) →
    Adds s (served_of s block.file r.served.digest r.served.found_at ++ (runs_of s.actor s.worker r.runs ++ event_by s.actor (Call command (Opened block.file)) ∷ [])) before after
read-out-adds {T} s command number block before after r =
    let call : Events T = event_by s.actor (Call command (Opened block.file)) ∷ [] in
    let runs : Events T = runs_of s.actor s.worker r.runs in
    added-both s (runs ++ call) (served_of s block.file r.served.digest r.served.found_at) before r.ran_at after
    (added-both s call runs before r.opened_at r.ran_at (opened-adds s command number block.file before r.opened_at r.opened) (ran-adds s s.worker _ r.runs r.opened_at r.ran_at r.ran))
    (is-served-adds s block r.ran_at after r.served)

pub read-given-up-adds : {T : Type 0} (s : Setting T) (command : Command T) (number : ℕ) (before after : Events T) →
    (r : IsReadGivenUp s command number before after) →
    Adds s (event_by s.actor (Shut r.file) ∷ runs_of s.actor s.worker r.runs ++ event_by s.actor (Call command (Opened r.file)) ∷ []) before after
read-given-up-adds {T} s command number before after r =
    let call : Events T = event_by s.actor (Call command (Opened r.file)) ∷ [] in
    let runs : Events T = runs_of s.actor s.worker r.runs in
    added-both s (runs ++ call) (event_by s.actor (Shut r.file) ∷ []) before r.ran_at after
    (added-both s call runs before r.opened_at r.ran_at (opened-adds s command number r.file before r.opened_at r.opened) (ran-adds s s.worker _ r.runs r.opened_at r.ran_at r.ran))
    r.shut

pub tried-out-adds : {T : Type 0} (s : Setting T) (command : Command T) (number : ℕ) (block : FileOutcome) (before after : Events T) →
    (r : IsTriedOut s command number block before after) →
    Adds s (served_of s block.file r.served.digest r.served.found_at ++ event_by s.actor (Call command (Opened block.file)) ∷ []) before after
tried-out-adds s command number block before after r =
    added-both s (event_by s.actor (Call command (Opened block.file)) ∷ []) (served_of s block.file r.served.digest r.served.found_at) before r.opened_at after
    (opened-adds s command number block.file before r.opened_at r.opened) (is-served-adds s block r.opened_at after r.served)

pub not-yet-adds : {T : Type 0} (s : Setting T) (command : Command T) (number : ℕ) (file : FileId) (before after : Events T) → IsNotYet s command number file before after →
    Adds s (event_by s.actor (Shut file) ∷ event_by s.actor (Call command (Opened file)) ∷ []) before after
not-yet-adds s command number file before after r =
    added-both s (event_by s.actor (Call command (Opened file)) ∷ []) (event_by s.actor (Shut file) ∷ []) before r.opened_at after
    (opened-adds s command number file before r.opened_at r.opened) r.shut

pub try-given-up-adds : {T : Type 0} (s : Setting T) (command : Command T) (number : ℕ) (before after : Events T) → (r : IsTryGivenUp s command number before after) →
    Adds s (event_by s.actor (Shut r.file) ∷ event_by s.actor (Call command (Opened r.file)) ∷ []) before after
try-given-up-adds s command number before after r =
    added-both s (event_by s.actor (Call command (Opened r.file)) ∷ []) (event_by s.actor (Shut r.file) ∷ []) before r.opened_at after
    (opened-adds s command number r.file before r.opened_at r.opened) r.shut

-- ---- saves and collections

ending-kept : (T : Type 0) (f : FileId) (end : SaveEnd) → no_drop (save_ending {T = T} f end) ≡ true
ending-kept T f (Kept outcome) = refl
ending-kept T f GivenUp = refl

pub save-adds : {T : Type 0} (s : Setting T) (save : SaveOf) (before after : Events T) → IsSave s save before after → Adds s (save_of s.actor save) before after
save-adds {T} s save before after r =
    added-both s (event_by s.actor (Save save.file) ∷ []) (event_by s.actor (save_ending save.file save.end) ∷ []) before r.ended_at after
    (added-then s (event_by s.actor (Save save.file) ∷ []) before r.found_at r.ended_at r.found (adds-one s (Save save.file) r.found_at r.ended_at refl r.begun))
    (adds-one s (save_ending save.file save.end) r.ended_at after (ending-kept T save.file save.end) r.ended)

pub saves-add : {T : Type 0} (s : Setting T) (saves : List SaveOf) (before after : Events T) → Saving s saves before after → Adds s (saves_of s.actor saves) before after
saves-add s [] before after r = r
saves-add {T} s (save ∷ earlier) before after r =
    added-both s (saves_of {T = T} s.actor earlier) (save_of s.actor save) before r.0 after (saves-add s earlier before r.0 r.1) (save-adds s save r.0 after r.2)

pub let-go-adds : {T : Type 0} (s : Setting T) (records : List RecordId) (before after : Events T) → LetGo s records before after →
    Adds s (map (collect_of s.actor) records) before after
let-go-adds s [] before after r = r
let-go-adds {T} s (made ∷ earlier) before after r =
    added-both s (map (collect_of {T = T} s.actor) earlier) (collect_of s.actor made ∷ []) before r.0 after (let-go-adds s earlier before r.0 r.1)
    (adds-one s (Collect made) r.0 after refl r.3)

-- ---- lines

pub said-some : {T : Type 0} (s : Setting T) (command : Command T) (before after : Events T) (answer : Answer) → IsSaid s command before after answer → AddsSome s before after
said-some s command before after (Said number reply) c = (_, called-adds s command number reply before after c)
said-some s command before after answer c = absurd c

pub read-some : {T : Type 0} (s : Setting T) (command : Command T) (before after : Events T) (answer : Answer) → IsRead s command before after answer → AddsSome s before after
read-some s command before after (Said number reply) r = (_, called-adds s command number reply before after r.1)
read-some s command before after (Read number block) r = (_, read-out-adds s command number block before after r)
read-some s command before after answer r = absurd r

pub tried-some : {T : Type 0} (s : Setting T) (command : Command T) (before after : Events T) (answer : Answer) → IsTried s command before after answer → AddsSome s before after
tried-some s command before after (Said number reply) r = (_, called-adds s command number reply before after r.1)
tried-some s command before after (Read number block) r = (_, tried-out-adds s command number block before after r)
tried-some s command before after (NotYet number file) r = (_, not-yet-adds s command number file before after r)
tried-some s command before after answer r = absurd r

pub loss-some : {T : Type 0} (s : Setting T) (worker : WorkerId) (before after : Events T) (answer : Answer) → IsLoss s worker before after answer → AddsSome s before after
loss-some s worker before after (Lost lost) r = (_, r.1)
loss-some s worker before after answer r = absurd r

pub work-some : {T : Type 0} (s : Setting T) (worker : WorkerId) (n : ℕ) (before after : Events T) (answer : Answer) → IsWorkAnswer s worker n before after answer → AddsSome s before after
work-some s worker n before after (Count counted.Work k) r = (_, ran-adds s worker _ r.runs before after r.ran)
work-some s worker n before after answer r = absurd r

pub save-some : {T : Type 0} (s : Setting T) (n : ℕ) (before after : Events T) (answer : Answer) → IsSaveAnswer s n before after answer → AddsSome s before after
save-some s n before after (Count counted.Save k) r = (_, saves-add s r.saves before after r.saved)
save-some s n before after answer r = absurd r

pub collect-some : {T : Type 0} (s : Setting T) (n : ℕ) (before after : Events T) (answer : Answer) → IsCollectAnswer s n before after answer → AddsSome s before after
collect-some s n before after (Count counted.Collect k) r = (_, let-go-adds s r.records before after r.gone)
collect-some s n before after answer r = absurd r

pub work-given-up-some : {T : Type 0} (s : Setting T) (worker : WorkerId) (n : ℕ) (before after : Events T) → IsWorkGivenUp s worker n before after → AddsSome s before after
work-given-up-some s worker n before after r = (_, ran-adds s worker _ (r.last ∷ r.earlier) before after r.ran)

pub saving-given-up-some : {T : Type 0} (s : Setting T) (n : ℕ) (before after : Events T) → IsSavingGivenUp s n before after → AddsSome s before after
saving-given-up-some s n before after r = (_, saves-add s (record { file = r.file; end = GivenUp } ∷ r.earlier) before after r.saved)

pub numbered-some : {T : Type 0} (s : Setting T) (before after : Events T) (p : ℕ → Type 0) → ((number : ℕ) → p number → AddsSome s before after) →
    (number : Option ℕ) → Numbered p number → AddsSome s before after
numbered-some s before after p go (Some number) h = go number h
numbered-some s before after p go None h = absurd h

pub unnumbered-some : {T : Type 0} (s : Setting T) (before after : Events T) (p : Type 0) → (p → AddsSome s before after) →
    (number : Option ℕ) → Unnumbered p number → AddsSome s before after
unnumbered-some s before after p go (Some number) h = absurd h
unnumbered-some s before after p go None h = go h

ended-some : {T : Type 0} (s : Setting T) (count : FaultCount) (p : Answer → Type 0) (p' : Option ℕ → Type 0) (p'' : Option ℕ → Damage → Type 0) (before after : Events T) →
    ((answer : Answer) → p answer → AddsSome s before after) → ((number : Option ℕ) → p' number → AddsSome s before after) → ((number : Option ℕ) (damage : Damage) → p'' number damage → AddsSome s before after) →
    (result : Result Answer ClientError) → Ended s count p p' p'' before after result → AddsSome s before after
ended-some s count p p' p'' before after go go' go'' (Ok answer) h = go answer h
ended-some s count p p' p'' before after go go' go'' (Err (StoreFault number)) h = go' number h.0
ended-some s count p p' p'' before after go go' go'' (Err (Damaged number damage)) h = go'' number damage h
ended-some s count p p' p'' before after go go' go'' (Err NoMemory) h = h

pub line-some : {T : Type 0} (s : Setting T) (count : FaultCount) (p : Answer → Type 0) (p' : Option ℕ → Type 0) (p'' : Option ℕ → Damage → Type 0) (before after : Events T) →
    ((answer : Answer) → p answer → AddsSome s before after) → ((number : Option ℕ) → p' number → AddsSome s before after) → ((number : Option ℕ) (damage : Damage) → p'' number damage → AddsSome s before after) →
    (result : Result Answer ClientError) → IsLine s count p p' p'' before after result → AddsSome s before after
line-some s count p p' p'' before after go go' go'' result l = ended-some s count p p' p'' before after go go' go'' result l.ended
