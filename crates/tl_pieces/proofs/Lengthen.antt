-- What stands of a line stands where others' events came after it.
use Rattle.std.proofs.Common.{ℕ, Bool, List, [], ◌∷◌, ◌++◌, Option, Some, None, Result, Ok, Err, sym, ap, ◌∙◌, append_assoc}
use Rattle.tl_types.specs.Block.{FileOutcome}
use Rattle.tl_types.specs.declared.file_id.FileId.{FileId}
use Rattle.tl_types.specs.declared.record_id.RecordId.{RecordId}
use Rattle.tl_types.specs.declared.worker_id.WorkerId.{WorkerId}
use Rattle.tl_model.specs.declared.answer.Answer.{Answer}
use Rattle.tl_model.specs.declared.answer.Answer.TheVariants.{Said, Read, NotYet, Count, Lost}
use Rattle.tl_model.specs.declared.answer.Counted.TheVariants as counted
use Rattle.tl_model.specs.declared.answer.ClientError.{ClientError}
use Rattle.tl_model.specs.declared.answer.ClientError.TheVariants.{StoreFault, Damaged, NoMemory}
use Rattle.tl_model.specs.declared.answer.Damage.{Damage}
use Rattle.tl_model.specs.declared.command.Command.{Command}
use Rattle.tl_model.specs.declared.event.Act.TheVariants.{Collect, Lose, Shut}
use Rattle.tl_model.specs.declared.reply.Reply.{Reply}
use Rattle.tl_model.specs.Namespace.{PathOf}
use Rattle.tl_model.specs.Past.{Past}
use Rattle.tl_pieces.specs.Setting.{Setting, Events, event_by}
use Rattle.tl_pieces.specs.Own.{Adds}
use Rattle.tl_pieces.specs.Calls.{IsCalled, IsPut, IsSaid, call_of}
use Rattle.tl_pieces.specs.Reading.{IsNotYet, IsRead, IsReadGivenUp, IsReadOut, IsServed, IsTried, IsTriedOut, IsTryGivenUp, is_missing, served_of}
use Rattle.tl_pieces.specs.Counts.{IsCollectAnswer, IsCollected, IsCount, IsLoss, IsSave, IsSaveAnswer, IsSaving, IsSavingGivenUp, IsWorkAnswer, IsWorkGivenUp, IsWorked, GivenUp, LetGo, SaveOf, Saving, save_ending}
use Rattle.tl_pieces.specs.Faults.{FaultCount, IsDamage, IsReadDamaged, IsTryDamaged, IsWorkDamaged, is_input_of_last, is_read_or_input}
use Rattle.tl_pieces.specs.Lines.{AddsSome, Ended, IsLine, Numbered, Unnumbered}
use Rattle.tl_pieces.proofs.Adding.{added-on}
use Rattle.tl_pieces.proofs.Longer.{moment-on, moment-since}
use Rattle.tl_pieces.proofs.Others.{rest-stays}
use Rattle.tl_pieces.proofs.Begun.{ran-on}

-- ---- calls

pub called-on : {T : Type 0} (s : Setting T) (command : Command T) (number : ℕ) (reply : Reply) (before between after : Events T) → Adds s [] between after →
    IsCalled s command number reply before between → IsCalled s command number reply before after
called-on s command number reply before between after a c = record {
  called_at = c.called_at;
  found = c.found;
  numbered = c.numbered;
  replied = c.replied;
  called = added-on s [] (call_of s.actor command reply c.called_at ++ c.called_at) between after c.called a;
}

pub said-on : {T : Type 0} (s : Setting T) (command : Command T) (before between after : Events T) → Adds s [] between after → (answer : Answer) →
    IsSaid s command before between answer → IsSaid s command before after answer
said-on s command before between after a (Said number reply) c = called-on s command number reply before between after a c
said-on s command before between after a answer c = absurd c

pub put-on : {T : Type 0} (s : Setting T) (path : PathOf) (text : List ℕ) (before between after : Events T) → Adds s [] between after → (answer : Answer) →
    IsPut s path text before between answer → IsPut s path text before after answer
put-on s path text before between after a answer p = record {
  ticket = p.ticket;
  digest = p.digest;
  told = p.told;
  of_text = p.of_text;
  said = said-on s _ before between after a answer p.said;
}

-- ---- reads

pub served-on : {T : Type 0} (s : Setting T) (block : FileOutcome) (before between after : Events T) → Adds s [] between after →
    IsServed s block before between → IsServed s block before after
served-on s block before between after a r = record {
  found_at = r.found_at;
  digest = r.digest;
  found = r.found;
  there = r.there;
  served = added-on s [] (served_of s block.file r.digest r.found_at ++ r.found_at) between after r.served a;
  of_block = r.of_block;
  told = r.told;
}

read-out-on : {T : Type 0} (s : Setting T) (command : Command T) (number : ℕ) (block : FileOutcome) (before between after : Events T) → Adds s [] between after →
    IsReadOut s command number block before between → IsReadOut s command number block before after
read-out-on s command number block before between after a r = record {
  opened_at = r.opened_at;
  ran_at = r.ran_at;
  runs = r.runs;
  opened = r.opened;
  ran = r.ran;
  kept_up = r.kept_up;
  served = served-on s block r.ran_at between after a r.served;
}

pub read-on : {T : Type 0} (s : Setting T) (command : Command T) (before between after : Events T) → Adds s [] between after → (answer : Answer) →
    IsRead s command before between answer → IsRead s command before after answer
read-on s command before between after a (Said number reply) r = (r.0, called-on s command number reply before between after a r.1)
read-on s command before between after a (Read number block) r = read-out-on s command number block before between after a r
read-on s command before between after a answer r = absurd r

pub read-given-up-on : {T : Type 0} (s : Setting T) (command : Command T) (before between after : Events T) → Adds s [] between after → (number : ℕ) →
    IsReadGivenUp s command number before between → IsReadGivenUp s command number before after
read-given-up-on s command before between after a number r = record {
  file = r.file;
  opened_at = r.opened_at;
  ran_at = r.ran_at;
  runs = r.runs;
  opened = r.opened;
  ran = r.ran;
  kept_up = r.kept_up;
  shut = added-on s (event_by s.actor (Shut r.file) ∷ []) r.ran_at between after r.shut a;
}

tried-out-on : {T : Type 0} (s : Setting T) (command : Command T) (number : ℕ) (block : FileOutcome) (before between after : Events T) → Adds s [] between after →
    IsTriedOut s command number block before between → IsTriedOut s command number block before after
tried-out-on s command number block before between after a r = record {
  opened_at = r.opened_at;
  opened = r.opened;
  served = served-on s block r.opened_at between after a r.served;
}

pub try-given-up-on : {T : Type 0} (s : Setting T) (command : Command T) (before between after : Events T) → Adds s [] between after → (number : ℕ) →
    IsTryGivenUp s command number before between → IsTryGivenUp s command number before after
try-given-up-on s command before between after a number r = record {
  file = r.file;
  opened_at = r.opened_at;
  opened = r.opened;
  shut = added-on s (event_by s.actor (Shut r.file) ∷ []) r.opened_at between after r.shut a;
}

not-yet-on : {T : Type 0} (s : Setting T) (command : Command T) (number : ℕ) (file : FileId) (before between after : Events T) → Adds s [] between after →
    IsNotYet s command number file before between → IsNotYet s command number file before after
not-yet-on s command number file before between after a r = record {
  opened_at = r.opened_at;
  opened = r.opened;
  missing = moment-on s (is_missing file) [] r.opened_at between after r.missing a;
  shut = added-on s (event_by s.actor (Shut file) ∷ []) r.opened_at between after r.shut a;
}

pub tried-on : {T : Type 0} (s : Setting T) (command : Command T) (before between after : Events T) → Adds s [] between after → (answer : Answer) →
    IsTried s command before between answer → IsTried s command before after answer
tried-on s command before between after a (Said number reply) r = (r.0, called-on s command number reply before between after a r.1)
tried-on s command before between after a (Read number block) r = tried-out-on s command number block before between after a r
tried-on s command before between after a (NotYet number file) r = not-yet-on s command number file before between after a r
tried-on s command before between after a answer r = absurd r

-- ---- counts

count-on : {T : Type 0} (s : Setting T) (nothing_left : Past → Bool) (n k : ℕ) (between after : Events T) → Adds s [] between after →
    IsCount s nothing_left n k between → IsCount s nothing_left n k after
count-on s nothing_left n k between after a c = record {
  within = c.within;
  short = λ few. moment-since s nothing_left between after after a (moment-on s nothing_left [] between between after (c.short few) a);
}

pub loss-on : {T : Type 0} (s : Setting T) (worker : WorkerId) (before between after : Events T) → Adds s [] between after → (answer : Answer) →
    IsLoss s worker before between answer → IsLoss s worker before after answer
loss-on s worker before between after a (Lost lost) r = (r.0, added-on s (event_by s.actor (Lose worker) ∷ []) before between after r.1 a)
loss-on s worker before between after a answer r = absurd r

worked-on : {T : Type 0} (s : Setting T) (worker : WorkerId) (n k : ℕ) (before between after : Events T) → Adds s [] between after →
    IsWorked s worker n k before between → IsWorked s worker n k before after
worked-on s worker n k before between after a r = record {
  runs = r.runs;
  ran = ran-on s worker _ r.runs before between after r.ran a;
  kept_up = r.kept_up;
  counted = r.counted;
  enough = count-on s _ n k between after a r.enough;
}

pub work-on : {T : Type 0} (s : Setting T) (worker : WorkerId) (n : ℕ) (before between after : Events T) → Adds s [] between after → (answer : Answer) →
    IsWorkAnswer s worker n before between answer → IsWorkAnswer s worker n before after answer
work-on s worker n before between after a (Count counted.Work k) r = worked-on s worker n k before between after a r
work-on s worker n before between after a answer r = absurd r

pub work-given-up-on : {T : Type 0} (s : Setting T) (worker : WorkerId) (n : ℕ) (before between after : Events T) → Adds s [] between after →
    IsWorkGivenUp s worker n before between → IsWorkGivenUp s worker n before after
work-given-up-on s worker n before between after a r = record {
  last = r.last;
  earlier = r.earlier;
  ran = ran-on s worker _ (r.last ∷ r.earlier) before between after r.ran a;
  kept_up = r.kept_up;
  failed = r.failed;
  fewer = r.fewer;
}

save-on : {T : Type 0} (s : Setting T) (save : SaveOf) (before between after : Events T) → Adds s [] between after → IsSave s save before between → IsSave s save before after
save-on s save before between after a r = record {
  found_at = r.found_at;
  ended_at = r.ended_at;
  found = r.found;
  first = r.first;
  begun = r.begun;
  ended = added-on s [] (event_by s.actor (save_ending save.file save.end) ∷ r.ended_at) between after r.ended a;
  told = r.told;
}

pub saves-on : {T : Type 0} (s : Setting T) (saves : List SaveOf) (before between after : Events T) → Adds s [] between after →
    Saving s saves before between → Saving s saves before after
saves-on s [] before between after a r = added-on s [] before between after r a
saves-on s (save ∷ earlier) before between after a r = (r.0, r.1, save-on s save r.0 between after a r.2)

saving-on : {T : Type 0} (s : Setting T) (n k : ℕ) (before between after : Events T) → Adds s [] between after → IsSaving s n k before between → IsSaving s n k before after
saving-on s n k before between after a r = record {
  saves = r.saves;
  saved = saves-on s r.saves before between after a r.saved;
  kept = r.kept;
  counted = r.counted;
  enough = count-on s _ n k between after a r.enough;
}

pub save-answer-on : {T : Type 0} (s : Setting T) (n : ℕ) (before between after : Events T) → Adds s [] between after → (answer : Answer) →
    IsSaveAnswer s n before between answer → IsSaveAnswer s n before after answer
save-answer-on s n before between after a (Count counted.Save k) r = saving-on s n k before between after a r
save-answer-on s n before between after a answer r = absurd r

pub saving-given-up-on : {T : Type 0} (s : Setting T) (n : ℕ) (before between after : Events T) → Adds s [] between after →
    IsSavingGivenUp s n before between → IsSavingGivenUp s n before after
saving-given-up-on s n before between after a r = record {
  file = r.file;
  earlier = r.earlier;
  saved = saves-on s (record { file = r.file; end = GivenUp } ∷ r.earlier) before between after a r.saved;
  kept = r.kept;
  fewer = r.fewer;
}

pub let-go-on : {T : Type 0} (s : Setting T) (records : List RecordId) (before between after : Events T) → Adds s [] between after →
    LetGo s records before between → LetGo s records before after
let-go-on s [] before between after a r = added-on s [] before between after r a
let-go-on s (made ∷ earlier) before between after a r = (r.0, r.1, r.2, added-on s [] (event_by s.actor (Collect made) ∷ r.0) between after r.3 a)

collected-on : {T : Type 0} (s : Setting T) (n k : ℕ) (before between after : Events T) → Adds s [] between after → IsCollected s n k before between → IsCollected s n k before after
collected-on s n k before between after a r = record {
  records = r.records;
  gone = let-go-on s r.records before between after a r.gone;
  counted = r.counted;
  enough = count-on s _ n k between after a r.enough;
}

pub collect-on : {T : Type 0} (s : Setting T) (n : ℕ) (before between after : Events T) → Adds s [] between after → (answer : Answer) →
    IsCollectAnswer s n before between answer → IsCollectAnswer s n before after answer
collect-on s n before between after a (Count counted.Collect k) r = collected-on s n k before between after a r
collect-on s n before between after a answer r = absurd r

-- ---- lines

pub damage-on : {T : Type 0} (s : Setting T) (is_loaded : Past → FileId → Bool) (damage : Damage) (between after : Events T) → Adds s [] between after →
    IsDamage s is_loaded between damage → IsDamage s is_loaded after damage
damage-on s is_loaded damage between after a d = record {
  file = d.file;
  at = d.at;
  later = a.more ++ d.later;
  within = a.came ∙ ap (λ es. a.more ++ es) d.within ∙ sym (append_assoc a.more d.later d.at);
  loaded = d.loaded;
  kept = d.kept;
  differs = d.differs;
  untold = d.untold;
}

pub read-damaged-on : {T : Type 0} (s : Setting T) (command : Command T) (damage : Damage) (before between after : Events T) → Adds s [] between after → (number : ℕ) →
    IsReadDamaged s command before between damage number → IsReadDamaged s command before after damage number
unfolding read-given-up-on
read-damaged-on s command damage before between after a number d =
    (read-given-up-on s command before between after a number d.0, damage-on s (is_read_or_input d.0.file d.0.runs) damage between after a d.1)

pub try-damaged-on : {T : Type 0} (s : Setting T) (command : Command T) (damage : Damage) (before between after : Events T) → Adds s [] between after → (number : ℕ) →
    IsTryDamaged s command before between damage number → IsTryDamaged s command before after damage number
unfolding try-given-up-on
try-damaged-on s command damage before between after a number d =
    (try-given-up-on s command before between after a number d.0, damage-on s (is_read_or_input d.0.file []) damage between after a d.1)

pub work-damaged-on : {T : Type 0} (s : Setting T) (worker : WorkerId) (n : ℕ) (damage : Damage) (before between after : Events T) → Adds s [] between after →
    IsWorkDamaged s worker n before between damage → IsWorkDamaged s worker n before after damage
unfolding work-given-up-on
work-damaged-on s worker n damage before between after a d =
    (work-given-up-on s worker n before between after a d.0, damage-on s (is_input_of_last (d.0.last ∷ [])) damage between after a d.1)

pub some-on : {T : Type 0} (s : Setting T) (before between after : Events T) → Adds s [] between after → AddsSome s before between → AddsSome s before after
some-on s before between after a r = (r.0, added-on s r.0 before between after r.1 a)

pub numbered-on : (p q : ℕ → Type 0) → ((number : ℕ) → p number → q number) → (number : Option ℕ) → Numbered p number → Numbered q number
numbered-on p q go (Some number) h = go number h
numbered-on p q go None h = h

pub unnumbered-on : (p q : Type 0) → (p → q) → (number : Option ℕ) → Unnumbered p number → Unnumbered q number
unnumbered-on p q go (Some number) h = h
unnumbered-on p q go None h = go h

ended-on : {T : Type 0} (s : Setting T) (count : FaultCount) (p q : Answer → Type 0) (p' q' : Option ℕ → Type 0) (p'' q'' : Option ℕ → Damage → Type 0) (before between after : Events T) → Adds s [] between after →
    ((answer : Answer) → p answer → q answer) → ((number : Option ℕ) → p' number → q' number) → ((number : Option ℕ) (damage : Damage) → p'' number damage → q'' number damage) →
    (result : Result Answer ClientError) → Ended s count p p' p'' before between result → Ended s count q q' q'' before after result
ended-on s count p q p' q' p'' q'' before between after a go go' go'' (Ok answer) h = go answer h
ended-on s count p q p' q' p'' q'' before between after a go go' go'' (Err (StoreFault number)) h = (go' number h.0, h.1)
ended-on s count p q p' q' p'' q'' before between after a go go' go'' (Err (Damaged number damage)) h = go'' number damage h
ended-on s count p q p' q' p'' q'' before between after a go go' go'' (Err NoMemory) h = some-on s before between after a h

pub line-on : {T : Type 0} (s : Setting T) (count : FaultCount) (p q : Answer → Type 0) (p' q' : Option ℕ → Type 0) (p'' q'' : Option ℕ → Damage → Type 0) (before between after : Events T) → Adds s [] between after →
    ((answer : Answer) → p answer → q answer) → ((number : Option ℕ) → p' number → q' number) → ((number : Option ℕ) (damage : Damage) → p'' number damage → q'' number damage) →
    (result : Result Answer ClientError) → IsLine s count p p' p'' before between result → IsLine s count q q' q'' before after result
line-on s count p q p' q' p'' q'' before between after a go go' go'' result l = record {
  ended = ended-on s count p q p' q' p'' q'' before between after a go go' go'' result l.ended;
  rest = rest-stays s between after a l.rest;
}
