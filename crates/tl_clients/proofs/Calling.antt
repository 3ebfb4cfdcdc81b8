-- A desk's call as a piece of its actor's line.
use Rattle.std.proofs.Common.{◌≡◌, ℕ, Bool, true, false, ◌&&◌, List, [], ◌∷◌, ◌++◌, map, Option, Some, None, Result, Ok, Err, IfOk, OnErr, if◌then◌else◌, refl, ap, subst}
use Rattle.std.specs.List.{list_all}
use Rattle.tl_types.specs.declared.actor.Actor.{Actor}
use Rattle.tl_types.specs.declared.file_id.FileId.{FileId}
use Rattle.tl_types.specs.declared.worker_id.WorkerId.{WorkerId}
use Rattle.tl_model.specs.declared.answer.Answer.{Answer}
use Rattle.tl_model.specs.declared.answer.Answer.TheVariants.{Said}
use Rattle.tl_model.specs.declared.answer.ClientError.TheVariants.{NoMemory}
use Rattle.tl_model.specs.declared.answer.Damage.{Damage}
use Rattle.tl_model.specs.declared.command.Command.{Command}
use Rattle.tl_model.specs.declared.command.Command.TheVariants.{Put, Free as free}
use Rattle.tl_model.specs.declared.event.Act.{Act}
use Rattle.tl_model.specs.declared.event.Act.TheVariants.{Call, Free}
use Rattle.tl_model.specs.declared.event.Event.{Event}
use Rattle.tl_model.specs.declared.reply.Reply.{Reply}
use Rattle.tl_model.specs.declared.reply.Reply.TheVariants.{Made, Fine, Opened, Listed, Stated, Exists, NoSuch, NotFile, NotDir, NotEmpty, TooDeep, IntoItself, TooMany}
use Rattle.tl_model.specs.Past.{Past, without_tickets}
use Rattle.tl_model.specs.History.{calls_of, names_of, reply_after}
use Rattle.tl_model.specs.Replies.{refusal_of, unless, walk_to_file}
use Rattle.tl_model.specs.Residency.{is_resident}
use Rattle.tl_model.specs.Rules.{ok_file}
use Rattle.tl_cluster.specs.Called.{after_call, if_resident, made_of, with_freed, with_saved}
use Rattle.tl_desk.specs.Finds.{Post, Stays, is_any}
use Rattle.tl_desk.specs.Turns.{Calls}
use Rattle.tl_pieces.specs.Setting.{Setting, Events, event_by}
use Rattle.tl_pieces.specs.Own.{Adds}
use Rattle.tl_pieces.specs.Calls.{IsCalled, call_of, free_of}
use Rattle.tl_pieces.specs.Faults.{FaultCount}
use Rattle.tl_pieces.specs.Lines.{IsLine, IsNamesLine}
use Rattle.tl_pieces.proofs.Placing.{called-adds}
use Rattle.tl_work.specs.Setting.{setting}
use Rattle.tl_work.proofs.Finding.{drops-add, found-adds}
use Rattle.tl_clients.specs.Asks.{asks_no_read}
use Rattle.tl_clients.specs.Ready.{IsReady}
use Rattle.tl_clients.proofs.Resting.{idle-on, opens_nothing, ready-on}

freed-if : {T : Type 0} (actor : Actor) (f : FileId) (call : Event T) (events : Events T) (last : Act T) (b : Bool) → call ≡ event_by actor last →
    with_freed actor (if b then Some f else None) (call ∷ events) ≡ map (event_by actor) ((if b then Free f ∷ [] else []) ++ last ∷ []) ++ events
freed-if actor f call events last true is = ap (λ c. event_by actor (Free f) ∷ c ∷ events) is
freed-if actor f call events last false is = ap (λ c. c ∷ events) is

free-fine : {T : Type 0} (actor : Actor) (path : List (List ℕ)) (events : Events T) (found : Result FileId Reply) →
    with_freed actor (if_resident (without_tickets events) (ok_file found)) (event_by actor (Call (free path) Fine) ∷ events)
    ≡ map (event_by actor) (free_of (without_tickets events) found ++ Call (free path) Fine ∷ []) ++ events
free-fine actor path events (Ok f) = freed-if actor f (event_by actor (Call (free path) Fine)) events (Call (free path) Fine) (is_resident (without_tickets events) f) refl
free-fine actor path events (Err refusal) = refl

unfound : (reply : Reply) (found : Result FileId Reply) → reply ≡ unless (refusal_of found) Fine → (reply ≡ Fine → ⊥) → ok_file found ≡ None
unfound reply (Ok f) is not = absurd (not is)
unfound reply (Err refusal) is not = refl

none-made : (reply : Reply) → made_of reply None ≡ None
none-made (Made made) = refl
none-made reply = refl

-- what a call and what follows it leave
pub after-is : {T : Type 0} (actor : Actor) (command : Command T) (reply : Reply) (events : Events T) → reply ≡ reply_after (calls_of events) command →
    after_call actor command reply events ≡ call_of actor command reply events ++ events
after-is actor (Put path len digest ticket) (Made made) events is = refl
after-is actor (Put path len digest ticket) Fine events is = refl
after-is actor (Put path len digest ticket) (Opened f) events is = refl
after-is actor (Put path len digest ticket) (Listed entries) events is = refl
after-is actor (Put path len digest ticket) (Stated status) events is = refl
after-is actor (Put path len digest ticket) Exists events is = refl
after-is actor (Put path len digest ticket) NoSuch events is = refl
after-is actor (Put path len digest ticket) NotFile events is = refl
after-is actor (Put path len digest ticket) NotDir events is = refl
after-is actor (Put path len digest ticket) NotEmpty events is = refl
after-is actor (Put path len digest ticket) TooDeep events is = refl
after-is actor (Put path len digest ticket) IntoItself events is = refl
after-is actor (Put path len digest ticket) TooMany events is = refl
after-is actor (free path) Fine events is = free-fine actor path events (walk_to_file (names_of (calls_of events)) path)
after-is {T} actor (free path) reply events is =
    ap (λ f. with_freed {T = T} actor (if_resident (without_tickets events) f) (event_by actor (Call (free path) reply) ∷ events))
    (unfound reply (walk_to_file (names_of (calls_of events)) path) is (λ e. absurd (cc)))
after-is {T} actor command reply events is =
    ap (λ put. with_saved {T = T} actor put (event_by actor (Call command reply) ∷ events)) (none-made reply)

-- a desk's call is one of the line
pub calls-called : {T : Type 0} (s : Setting T) (command : Command T) (answer : ℕ × Reply) (seen new : Events T) →
    Calls s.whole s.actor command seen new answer → IsCalled s command answer.0 answer.1 seen new
calls-called {T} s command answer seen new c = record {
  called_at = c.found;
  found = found-adds s seen c.found c.finds;
  numbered = c.so.0;
  replied = c.so.1;
  called = subst (λ (es : Events T). Adds s [] es new) (after-is s.actor command answer.1 c.found c.so.1)
      (drops-add s (after_call s.actor command answer.1 c.found) new c.turned);
}

-- ---- what it opens

free-opens : (T : Type 0) (actor : Actor) (f : FileId) (command : Command T) (reply : Reply) (b : Bool) → asks_no_read command ≡ true →
    list_all (λ (e : Event T). opens_nothing e.act) (map (event_by actor) ((if b then Free f ∷ [] else []) ++ Call command reply ∷ [])) ≡ true
free-opens T actor f command reply true h = ap (λ b. b && true) h
free-opens T actor f command reply false h = ap (λ b. b && true) h

found-opens : (T : Type 0) (actor : Actor) (past : Past) (found : Result FileId Reply) (command : Command T) (reply : Reply) → asks_no_read command ≡ true →
    list_all (λ (e : Event T). opens_nothing e.act) (map (event_by actor) (free_of past found ++ Call command reply ∷ [])) ≡ true
found-opens T actor past (Ok f) command reply h = free-opens T actor f command reply (is_resident past f) h
found-opens T actor past (Err refusal) command reply h = ap (λ b. b && true) h

-- a call that opens no read, and what follows it, open nothing
pub call-opens-nothing : {T : Type 0} (actor : Actor) (command : Command T) (reply : Reply) (at : Events T) → asks_no_read command ≡ true →
    list_all (λ (e : Event T). opens_nothing e.act) (call_of actor command reply at) ≡ true
call-opens-nothing actor (Put path len digest ticket) (Made made) at h = refl
call-opens-nothing {T} actor (free path) Fine at h =
    found-opens T actor (without_tickets at) (walk_to_file (names_of (calls_of at)) path) (free path) Fine h
call-opens-nothing actor (Put path len digest ticket) reply at h = refl
call-opens-nothing actor (free path) reply at h = refl
call-opens-nothing actor command reply at h = ap (λ b. b && true) h

-- ---- a line of one call

-- a client whose call was made or not is ready still
pub call-ready : {T E : Type 0} (whole tells : Bool) (content : T → List ℕ) (post post' : Post) (worker : WorkerId) (command : Command T)
    (result : Result (ℕ × Reply) E) (seen new : Events T) → asks_no_read command ≡ true → post' ≡ post → IsReady whole post worker seen →
    IfOk result (Calls whole post.actor command seen new) → OnErr result (Stays whole post.actor seen new is_any) → IsReady whole post' worker new
call-ready {T} whole tells content post post' worker command (Ok answer) seen new no_read same ready ok err =
    let s : Setting T = setting whole tells content post worker in
    let called = calls-called s command answer seen new ok in
    ready-on whole tells content post post' worker (call_of post.actor command answer.1 called.called_at) seen new same
    (called-adds s command answer.0 answer.1 seen new called)
    (call-opens-nothing post.actor command answer.1 called.called_at no_read) ready
call-ready {T} whole tells content post post' worker command (Err error) seen new no_read same ready ok err =
    let s : Setting T = setting whole tells content post worker in
    ready-on whole tells content post post' worker [] seen new same (found-adds s seen new err.finds) refl ready

-- the line of a call that was made
pub said-line : {T : Type 0} (whole tells : Bool) (content : T → List ℕ) (post : Post) (worker : WorkerId) (count : FaultCount) (command : Command T)
    (answer : ℕ × Reply) (seen new : Events T) → asks_no_read command ≡ true → IsReady whole post worker seen → Calls whole post.actor command seen new answer →
    IsNamesLine (setting whole tells content post worker) count command seen new (Ok (Said answer.0 answer.1))
said-line {T} whole tells content post worker count command answer seen new no_read ready c =
    let s : Setting T = setting whole tells content post worker in
    let called = calls-called s command answer seen new c in
    record {
      ended = called;
      rest = idle-on s (call_of post.actor command answer.1 called.called_at) seen new (called-adds s command answer.0 answer.1 seen new called)
          (call-opens-nothing post.actor command answer.1 called.called_at no_read) ready.idle;
    }

-- a line for which memory ran out
pub memory-line : {T : Type 0} (whole tells : Bool) (content : T → List ℕ) (post : Post) (worker : WorkerId) (count : FaultCount)
    (answered : Answer → Type 0) (failed : Option ℕ → Type 0) (damaged : Option ℕ → Damage → Type 0) (seen new : Events T) →
    Adds (setting whole tells content post worker) [] seen new → IsReady whole post worker seen →
    IsLine (setting whole tells content post worker) count answered failed damaged seen new (Err NoMemory)
memory-line {T} whole tells content post worker count answered failed damaged seen new a ready =
    record { ended = ([], a); rest = idle-on (setting whole tells content post worker) [] seen new a refl ready.idle }
