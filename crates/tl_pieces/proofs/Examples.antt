-- Lines of short journals.
use Rattle.std.proofs.Common.{◌≡◌, ℕ, Bool, true, false, List, [], ◌∷◌, None, is_none, Ok, refl, sym, ap, arith, if◌then◌else◌}
use Rattle.tl_types.specs.Same.{actor_same-Decides}
use Rattle.tl_types.specs.Outcome.{digest_of}
use Rattle.tl_types.specs.declared.digest.Digest.{Digest}
use Rattle.tl_types.specs.declared.outcome.Outcome.TheVariants.{Value}
use Rattle.tl_types.specs.declared.worker_id.WorkerId.{WorkerId}
use Rattle.tl_model.specs.declared.answer.Answer.TheVariants.{Count, Lost, Read, Said}
use Rattle.tl_model.specs.declared.answer.Counted.TheVariants as counted
use Rattle.tl_model.specs.declared.event.Act.TheVariants.{Call, Lose}
use Rattle.tl_model.specs.declared.header.Header.{Header}
use Rattle.tl_model.specs.declared.header.OrderRule.{OrderRule}
use Rattle.tl_model.specs.declared.header.OrderRule.TheVariants.{Strict, Shares}
use Rattle.tl_model.specs.declared.reply.Reply.TheVariants.{Made, Opened}
use Rattle.tl_model.specs.Actors.{is_idle}
use Rattle.tl_model.specs.Past.{Past, without_tickets}
use Rattle.tl_model.specs.Plan.{next}
use Rattle.tl_pieces.specs.Setting.{Setting, event_by}
use Rattle.tl_pieces.specs.Moments.{is_quiet_end}
use Rattle.tl_pieces.specs.Calls.{IsCalled, IsPut}
use Rattle.tl_pieces.specs.Reading.{IsServed}
use Rattle.tl_pieces.specs.Counts.{IsCount, nothing_is_next, nothing_is_unneeded, nothing_to_save}
use Rattle.tl_pieces.specs.Faults.{FaultCount}
use Rattle.tl_pieces.specs.Lines.{IsCollectLine, IsLoseLine, IsPutLine, IsReadLine, IsSaveLine, IsTryLine, IsWorkLine}
use Rattle.tl_pieces.specs.Worked.{a_file, after_put, after_read, read_of, the_path}
use Rattle.tl_pieces.proofs.Adding.{added-none}
use Rattle.tl_pieces.proofs.Longer.{moment-now}
use Rattle.tl_pieces.proofs.Placing.{adds-one}

-- ---- a put and a read

put-is : {T : Type 0} (s : Setting T) (text : List ℕ) (digest : Digest) (ticket : T) → digest.0 ≡ digest_of (Value text) → (s.tells ≡ true → s.content ticket ≡ text) →
    IsPut s the_path text [] (after_put s text digest ticket) (Said 0 (Made (record { 0 = 0 })))
put-is s text digest ticket of_text told = record {
  ticket = ticket;
  digest = digest;
  told = told;
  of_text = of_text;
  said = record { called_at = []; found = added-none s []; numbered = refl; replied = refl; called = added-none s (after_put s text digest ticket) };
}

-- of an actor that is itself
idle-put : {T : Type 0} (s : Setting T) (text : List ℕ) (digest : Digest) (ticket : T) → is_idle (without_tickets (after_put s text digest ticket)) s.actor ≡ true
idle-put s text digest ticket = rw ((actor_same-Decides s.actor s.actor).1 refl) refl

idle-read : {T : Type 0} (s : Setting T) (text : List ℕ) (digest : Digest) (ticket : T) → is_idle (without_tickets (after_read s text digest ticket)) s.actor ≡ true
idle-read s text digest ticket = rw ((actor_same-Decides s.actor s.actor).1 refl) refl

pub put-line : {T : Type 0} (s : Setting T) (count : FaultCount) (text : List ℕ) (digest : Digest) (ticket : T) → digest.0 ≡ digest_of (Value text) →
    (s.tells ≡ true → s.content ticket ≡ text) →
    IsPutLine s count the_path text [] (after_put s text digest ticket) (Ok (Said 0 (Made (record { 0 = 0 }))))
put-line s count text digest ticket of_text told = record {
  ended = put-is s text digest ticket of_text told;
  rest = idle-put s text digest ticket;
}

opened : {T : Type 0} (s : Setting T) (text : List ℕ) (digest : Digest) (ticket : T) →
    IsCalled s read_of 1 (Opened a_file) (after_put s text digest ticket) (event_by s.actor (Call read_of (Opened a_file)) ∷ after_put s text digest ticket)
opened s text digest ticket = record {
  called_at = after_put s text digest ticket;
  found = added-none s (after_put s text digest ticket);
  numbered = refl;
  replied = refl;
  called = added-none s (event_by s.actor (Call read_of (Opened a_file)) ∷ after_put s text digest ticket);
}

served : {T : Type 0} (s : Setting T) (text : List ℕ) (digest : Digest) (ticket : T) → digest.0 ≡ digest_of (Value text) → (s.tells ≡ true → s.content ticket ≡ text) →
    IsServed s (record { file = a_file; outcome = Value text }) (event_by s.actor (Call read_of (Opened a_file)) ∷ after_put s text digest ticket) (after_read s text digest ticket)
served s text digest ticket of_text told = record {
  found_at = event_by s.actor (Call read_of (Opened a_file)) ∷ after_put s text digest ticket;
  digest = digest;
  found = added-none s (event_by s.actor (Call read_of (Opened a_file)) ∷ after_put s text digest ticket);
  there = refl;
  served = added-none s (after_read s text digest ticket);
  of_block = of_text;
  told = λ tells. ap Value (sym (told tells));
}

pub read-line : {T : Type 0} (s : Setting T) (count : FaultCount) (text : List ℕ) (digest : Digest) (ticket : T) → digest.0 ≡ digest_of (Value text) →
    (s.tells ≡ true → s.content ticket ≡ text) →
    IsReadLine s count read_of (after_put s text digest ticket) (after_read s text digest ticket) (Ok (Read 1 (record { file = a_file; outcome = Value text })))
read-line s count text digest ticket of_text told = record {
  ended = record {
    opened_at = event_by s.actor (Call read_of (Opened a_file)) ∷ after_put s text digest ticket;
    ran_at = event_by s.actor (Call read_of (Opened a_file)) ∷ after_put s text digest ticket;
    runs = [];
    opened = opened s text digest ticket;
    ran = added-none s (event_by s.actor (Call read_of (Opened a_file)) ∷ after_put s text digest ticket);
    kept_up = refl;
    served = served s text digest ticket of_text told;
  };
  rest = idle-read s text digest ticket;
}

pub try-line : {T : Type 0} (s : Setting T) (count : FaultCount) (text : List ℕ) (digest : Digest) (ticket : T) → digest.0 ≡ digest_of (Value text) →
    (s.tells ≡ true → s.content ticket ≡ text) →
    IsTryLine s count read_of (after_put s text digest ticket) (after_read s text digest ticket) (Ok (Read 1 (record { file = a_file; outcome = Value text })))
try-line s count text digest ticket of_text told = record {
  ended = record {
    opened_at = event_by s.actor (Call read_of (Opened a_file)) ∷ after_put s text digest ticket;
    opened = opened s text digest ticket;
    served = served s text digest ticket of_text told;
  };
  rest = idle-read s text digest ticket;
}

-- ---- the empty journal

quiet-if : (b : Bool) → (if b then true else true) ≡ true
quiet-if true = refl
quiet-if false = refl

empty-quiet : {T : Type 0} (s : Setting T) → is_quiet_end s [] ≡ true
empty-quiet s = quiet-if s.tells

nothing-next : (order : OrderRule) → next order [] ≡ None
nothing-next Strict = refl
nothing-next Shares = refl

none-next : (header : Header) → nothing_is_next header [] ≡ true
none-next header = ap is_none (nothing-next header.order)

nothing-short : {T : Type 0} (s : Setting T) (nothing_left : Past → Bool) (n : ℕ) → nothing_left [] ≡ true → IsCount s nothing_left n 0 []
nothing-short s nothing_left n so = record { within = omega arith; short = λ few. moment-now s nothing_left [] (empty-quiet s) so }

pub work-line : {T : Type 0} (s : Setting T) (count : FaultCount) (worker : WorkerId) (n : ℕ) → IsWorkLine s count worker n [] [] (Ok (Count counted.Work 0))
work-line s count worker n = record {
  ended = record { runs = []; ran = added-none s []; kept_up = refl; counted = refl; enough = nothing-short s (nothing_is_next s.header) n (none-next s.header) };
  rest = refl;
}

pub save-line : {T : Type 0} (s : Setting T) (count : FaultCount) (n : ℕ) → IsSaveLine s count n [] [] (Ok (Count counted.Save 0))
save-line s count n = record {
  ended = record { saves = []; saved = added-none s []; kept = refl; counted = refl; enough = nothing-short s (nothing_to_save s.header) n refl };
  rest = refl;
}

pub collect-line : {T : Type 0} (s : Setting T) (count : FaultCount) (n : ℕ) → IsCollectLine s count n [] [] (Ok (Count counted.Collect 0))
collect-line s count n = record {
  ended = record { records = []; gone = added-none s []; counted = refl; enough = nothing-short s nothing_is_unneeded n refl };
  rest = refl;
}

pub lose-line : {T : Type 0} (s : Setting T) (count : FaultCount) (worker : WorkerId) → IsLoseLine s count worker [] (event_by s.actor (Lose worker) ∷ []) (Ok (Lost worker))
lose-line s count worker = record {
  ended = (refl, adds-one s (Lose worker) [] (event_by s.actor (Lose worker) ∷ []) refl (added-none s (event_by s.actor (Lose worker) ∷ [])));
  rest = rw ((actor_same-Decides s.actor s.actor).1 refl) refl;
}
