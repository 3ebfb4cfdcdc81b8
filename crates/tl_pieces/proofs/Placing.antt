-- Acts of an actor that stand right after some events are what it added to them.
use Rattle.std.proofs.Common.{◌≡◌, ℕ, Bool, true, false, not, List, [], ◌∷◌, ◌++◌, map, cond, Result, Ok, Err, if◌then◌else◌, refl, ap, ◌∙◌}
use Rattle.std.specs.List.{list_all}
use Rattle.std.proofs.lemmas.Bool.{and_from, and_parts}
use Rattle.tl_types.specs.Same.{actor_same, actor_same-Decides}
use Rattle.tl_types.specs.declared.actor.Actor.{Actor}
use Rattle.tl_types.specs.declared.digest.Digest.{Digest}
use Rattle.tl_types.specs.declared.file_id.FileId.{FileId}
use Rattle.tl_types.specs.declared.worker_id.WorkerId.{WorkerId}
use Rattle.tl_model.specs.declared.command.Command.{Command}
use Rattle.tl_model.specs.declared.command.Command.TheVariants.{Put, Free as free}
use Rattle.tl_model.specs.declared.event.Act.{Act}
use Rattle.tl_model.specs.declared.event.Act.TheVariants.{Call, Free, Load, Served}
use Rattle.tl_model.specs.declared.reply.Reply.{Reply}
use Rattle.tl_model.specs.declared.reply.Reply.TheVariants.{Made, Fine}
use Rattle.tl_model.specs.History.{calls_of, names_of}
use Rattle.tl_model.specs.Past.{Past, without_tickets}
use Rattle.tl_model.specs.Replies.{walk_to_file}
use Rattle.tl_model.specs.Residency.{is_resident}
use Rattle.tl_pieces.specs.Setting.{Setting, Events, event_by}
use Rattle.tl_pieces.specs.Own.{Adds, Does, is_by, is_drop, is_own, own}
use Rattle.tl_pieces.specs.Calls.{IsCalled, call_of, followers, free_of}
use Rattle.tl_pieces.specs.Reading.{load_of, served_of}
use Rattle.tl_pieces.proofs.Adding.{added-on, added-then, all-append}

abbrev pub no_drop : {T : Type 0} → Act T → Bool
no_drop act = not (is_drop act)

own-act : {T : Type 0} (actor : Actor) (act : Act T) → no_drop act ≡ true → is_own actor (event_by actor act) ≡ true
own-act actor act kept = and_from (actor_same actor actor) (not (is_drop act)) ((actor_same-Decides actor actor).1 refl) kept

own-acts : {T : Type 0} (actor : Actor) (acts : List (Act T)) → list_all no_drop acts ≡ true → own actor (map (event_by actor) acts) ≡ map (event_by actor) acts
own-acts actor [] kept = refl
own-acts {T} actor (act ∷ acts) kept =
    let parts = and_parts (no_drop act) (list_all no_drop acts) kept in
    let rest : Events T = own actor (map (event_by actor) acts) in
    ap (λ b. cond b (event_by actor act ∷ rest) rest) (own-act actor act parts.0)
    ∙ ap (λ (es : Events T). event_by actor act ∷ es) (own-acts actor acts parts.1)

by-acts : {T : Type 0} (actor : Actor) (acts : List (Act T)) → list_all (is_by actor) (map (event_by actor) acts) ≡ true
by-acts actor [] = refl
by-acts actor (act ∷ acts) = and_from (actor_same actor actor) (list_all (is_by actor) (map (event_by actor) acts)) ((actor_same-Decides actor actor).1 refl) (by-acts actor acts)

pub adds-acts : {T : Type 0} (s : Setting T) (acts : List (Act T)) (at after : Events T) → list_all no_drop acts ≡ true →
    Adds s [] (map (event_by s.actor) acts ++ at) after → Adds s (map (event_by s.actor) acts) at after
adds-acts s acts at after kept a =
    added-on s (map (event_by s.actor) acts) at (map (event_by s.actor) acts ++ at) after
    (record { more = map (event_by s.actor) acts; came = refl; own = own-acts s.actor acts kept; alone = λ whole. by-acts s.actor acts }) a

pub adds-one : {T : Type 0} (s : Setting T) (act : Act T) (at after : Events T) → no_drop act ≡ true → Does s act at after → Adds s (event_by s.actor act ∷ []) at after
adds-one s act at after kept a = adds-acts s (act ∷ []) at after (and_from (no_drop act) true kept refl) a

-- ---- a call and what follows it

free-no-drop : (T : Type 0) (f : FileId) (b : Bool) → list_all (no_drop {T = T}) (if b then Free f ∷ [] else []) ≡ true
free-no-drop T f true = refl
free-no-drop T f false = refl

free-found : (T : Type 0) (past : Past) (found : Result FileId Reply) → list_all (no_drop {T = T}) (free_of past found) ≡ true
free-found T past (Ok f) = free-no-drop T f (is_resident past f)
free-found T past (Err refusal) = refl

followers-kept : {T : Type 0} (at : Events T) (command : Command T) (reply : Reply) → list_all no_drop (followers at command reply) ≡ true
followers-kept at (Put path len digest ticket) (Made made) = refl
followers-kept {T} at (free path) Fine = free-found T (without_tickets at) (walk_to_file (names_of (calls_of at)) path)
followers-kept at command reply = refl

pub called-adds : {T : Type 0} (s : Setting T) (command : Command T) (number : ℕ) (reply : Reply) (before after : Events T) → (c : IsCalled s command number reply before after) →
    Adds s (call_of s.actor command reply c.called_at) before after
called-adds s command number reply before after c =
    added-then s (call_of s.actor command reply c.called_at) before c.called_at after c.found
    (adds-acts s (followers c.called_at command reply ++ Call command reply ∷ []) c.called_at after
    (all-append no_drop (followers c.called_at command reply) (Call command reply ∷ []) (followers-kept c.called_at command reply) refl) c.called)

-- ---- a Served, and the Load before it

load-no-drop : (T : Type 0) (worker : WorkerId) (f : FileId) (b : Bool) → list_all (no_drop {T = T}) (if b then [] else Load worker f ∷ []) ≡ true
load-no-drop T worker f true = refl
load-no-drop T worker f false = refl

pub served-adds : {T : Type 0} (s : Setting T) (f : FileId) (digest : Digest) (at after : Events T) → Adds s [] (served_of s f digest at ++ at) after →
    Adds s (served_of s f digest at) at after
served-adds {T} s f digest at after a =
    adds-acts s (Served f digest ∷ load_of (without_tickets at) s.worker f) at after (load-no-drop T s.worker f (is_resident (without_tickets at) f)) a
