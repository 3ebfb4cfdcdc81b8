-- Where an actor has the journal to itself, no call comes between its own events.
use Rattle.std.proofs.Common.{◌≡◌, ℕ, Bool, true, false, ◌&&◌, not, [], ◌∷◌, ◌++◌, length, refl, ap, ◌∙◌}
use Rattle.std.specs.List.{list_all}
use Rattle.std.proofs.lemmas.Bool.{and_parts}
use Rattle.tl_types.specs.Same.{actor_same}
use Rattle.tl_types.specs.Block.{FileOutcome}
use Rattle.tl_types.specs.declared.actor.Actor.{Actor}
use Rattle.tl_types.specs.declared.file_id.FileId.{FileId}
use Rattle.tl_model.specs.declared.command.Command.{Command}
use Rattle.tl_model.specs.declared.event.Act.{Act}
use Rattle.tl_model.specs.declared.event.Act.TheVariants.{Drop}
use Rattle.tl_model.specs.declared.reply.Reply.{Reply}
use Rattle.tl_model.specs.declared.reply.Reply.TheVariants.{Opened}
use Rattle.tl_model.specs.History.{HistoryOf, calls_of, reply_after, with_call}
use Rattle.tl_model.specs.Journal.{call_count}
use Rattle.tl_pieces.specs.Setting.{Setting, Events}
use Rattle.tl_pieces.specs.Own.{Adds, is_by, is_drop, is_own, own}
use Rattle.tl_pieces.specs.Calls.{IsCalled}
use Rattle.tl_pieces.specs.Reading.{IsReadOut}
use Rattle.tl_pieces.proofs.Others.{own-none}

drop-calls : {T : Type 0} (actor : Actor) (same : Bool) (act : Act T) (calls : HistoryOf T) → same ≡ true → (same && not (is_drop act)) ≡ false → with_call actor act calls ≡ calls
drop-calls actor false act calls is h = absurd (cc)
drop-calls actor true (Drop worker f) calls is h = refl
drop-calls actor true act calls is h = absurd (cc)

drops-call-nothing : {T : Type 0} (actor : Actor) (before more : Events T) → own actor more ≡ [] → list_all (is_by actor) more ≡ true → calls_of (more ++ before) ≡ calls_of before
drops-call-nothing actor before [] none all = refl
drops-call-nothing actor before (e ∷ more) none all =
    let parts = own-none (is_own actor e) e (own actor more) none in
    let mine = and_parts (is_by actor e) (list_all (is_by actor) more) all in
    drop-calls e.actor (actor_same actor e.actor) e.act (calls_of (more ++ before)) mine.0 parts.0 ∙ drops-call-nothing actor before more parts.1 mine.1

pub same-calls : {T : Type 0} (s : Setting T) (before after : Events T) → s.whole ≡ true → Adds s [] before after → calls_of after ≡ calls_of before
same-calls s before after whole a = ap calls_of a.came ∙ drops-call-nothing s.actor before a.more a.own (a.alone whole)

pub owned-call : {T : Type 0} (s : Setting T) (command : Command T) (number : ℕ) (reply : Reply) (before after : Events T) → s.whole ≡ true → IsCalled s command number reply before after →
    (number ≡ call_count before) × (reply ≡ reply_after (calls_of before) command)
owned-call {T} s command number reply before after whole c =
    let same = same-calls s before c.called_at whole c.found in
    (c.numbered ∙ ap (λ (calls : HistoryOf T). length calls) same, c.replied ∙ ap (λ (calls : HistoryOf T). reply_after calls command) same)

opened-of : (f g : FileId) → Opened f ≡ Opened g → f ≡ g
opened-of f g e = cc

pub owned-read : {T : Type 0} (s : Setting T) (command : Command T) (number : ℕ) (block : FileOutcome) (f : FileId) (before after : Events T) → s.whole ≡ true →
    reply_after (calls_of before) command ≡ Opened f → IsReadOut s command number block before after → block.file ≡ f
owned-read s command number block f before after whole is r =
    opened-of block.file f ((owned-call s command number (Opened block.file) before r.opened_at whole r.opened).1 ∙ is)
