-- Records that were let go in one turn.
use Rattle.std.proofs.Common.{◌≡◌, ℕ, zero, suc, Bool, true, List, [], ◌∷◌, length, map, Result, Ok, Err, IfOk, OnErr, is_none, refl, sym, ap, ◌∙◌, subst}
use Rattle.std.specs.List.{list_all}
use Rattle.tl_types.specs.declared.actor.Actor.{Actor}
use Rattle.tl_types.specs.declared.record_id.RecordId.{RecordId}
use Rattle.tl_types.specs.declared.worker_id.WorkerId.{WorkerId}
use Rattle.tl_model.specs.declared.event.Act.TheVariants.{Collect}
use Rattle.tl_model.specs.declared.event.Event.{Event}
use Rattle.tl_model.specs.Actors.{is_idle}
use Rattle.tl_model.specs.Past.{without_tickets}
use Rattle.tl_desk.specs.Finds.{Post}
use Rattle.tl_desk.specs.Turns.{Collects, LetsGo}
use Rattle.tl_pieces.specs.Setting.{Setting, Events, event_by}
use Rattle.tl_pieces.specs.Own.{Adds}
use Rattle.tl_pieces.specs.Counts.{IsCollected, LetGo, collect_of}
use Rattle.tl_pieces.specs.Lines.{AddsSome}
use Rattle.tl_pieces.specs.Moments.{is_quiet_end}
use Rattle.tl_pieces.proofs.Adding.{added-none, added-then}
use Rattle.tl_pieces.proofs.Pieced.{let-go-adds}
use Rattle.tl_work.specs.Setting.{setting}
use Rattle.tl_work.proofs.Finding.{drops-add, found-adds}
use Rattle.tl_work.proofs.Open.{closed-left, has-idle, idle-has, leaves_claim, leaves_read, leaves_save, reads-left, saves-left}

let-go-all : {T : Type 0} (s : Setting T) (k : ℕ) (found new : Events T) → LetsGo s.actor k found new → (records : List RecordId) × LetGo s records found new × (length records ≡ k)
let-go-all {T} s zero found new l = ([], subst (λ (es : Events T). Adds s [] found es) (sym l) (added-none s found), refl)
let-go-all s (suc k) found new l =
    let earlier = let-go-all s k found l.0 l.2 in
    (l.1 ∷ earlier.0, (l.0, earlier.1, l.3, drops-add s (event_by s.actor (Collect l.1) ∷ l.0) new l.4), ap suc earlier.2)

let-go-then : {T : Type 0} (s : Setting T) (records : List RecordId) (before between after : Events T) → Adds s [] before between → LetGo s records between after → LetGo s records before after
let-go-then s [] before between after a l = added-then s [] before between after a l
let-go-then s (made ∷ earlier) before between after a l = (l.0, let-go-then s earlier before between l.0 a l.1, l.2, l.3)

pub collected-up-to : {T : Type 0} (whole tells : Bool) (content : T → List ℕ) (post : Post) (own : WorkerId) (n k : ℕ) (seen new : Events T) →
    is_quiet_end (setting whole tells content post own) new ≡ true → Collects whole post.actor n seen new k → IsCollected (setting whole tells content post own) n k seen new
collected-up-to {T} whole tells content post own n k seen new quiet c =
    let s : Setting T = setting whole tells content post own in
    let gone = let-go-all s k c.found new c.let_go in
    record {
      records = gone.0;
      gone = let-go-then s gone.0 seen c.found new (found-adds s seen c.found c.finds) gone.1;
      counted = sym gone.2;
      enough = record {
        within = c.most;
        short = λ h. record { at = new; later = []; within = refl; own = refl; quiet = quiet; so = ap is_none (c.none_left h) };
      };
    }

leave-read : (T : Type 0) (actor : Actor) (records : List RecordId) → list_all (λ (e : Event T). leaves_read e.act) (map (collect_of {T = T} actor) records) ≡ true
leave-read T actor [] = refl
leave-read T actor (made ∷ records) = leave-read T actor records

leave-save : (T : Type 0) (actor : Actor) (records : List RecordId) → list_all (λ (e : Event T). leaves_save e.act) (map (collect_of {T = T} actor) records) ≡ true
leave-save T actor [] = refl
leave-save T actor (made ∷ records) = leave-save T actor records

leave-claim : (T : Type 0) (actor : Actor) (records : List RecordId) → list_all (λ (e : Event T). leaves_claim e.act) (map (collect_of {T = T} actor) records) ≡ true
leave-claim T actor [] = refl
leave-claim T actor (made ∷ records) = leave-claim T actor records

-- after it its actor is idle
pub collected-idle : {T : Type 0} (s : Setting T) (n k : ℕ) (before after : Events T) → is_idle (without_tickets before) s.actor ≡ true →
    IsCollected s n k before after → is_idle (without_tickets after) s.actor ≡ true
collected-idle {T} s n k before after idle c =
    let has = idle-has (without_tickets before) s.actor idle in
    let adds = let-go-adds s c.records before after c.gone in
    has-idle (without_tickets after) s.actor
    (reads-left s _ before after (leave-read T s.actor c.records) adds ∙ has.read)
    (closed-left s _ before after (leave-claim T s.actor c.records) adds has.claim)
    (saves-left s _ before after (leave-save T s.actor c.records) adds ∙ has.save)

pub collected-either : {T E : Type 0} (s : Setting T) (n : ℕ) (before after : Events T) (result : Result ℕ E) → IfOk result (λ k. IsCollected s n k before after) →
    OnErr result (Adds s [] before after) → AddsSome s before after
collected-either {T} s n before after (Ok k) ok failed =
    let c : IsCollected s n k before after = ok in (map (collect_of {T = T} s.actor) c.records, let-go-adds s c.records before after c.gone)
collected-either s n before after (Err error) ok failed = ([], failed)

-- an error says what is so of each
pub on-err : {A E : Type 0} (result : Result A E) (P : Type 0) → P → OnErr result P
on-err (Ok a) P p = tt
on-err (Err error) P p = p
