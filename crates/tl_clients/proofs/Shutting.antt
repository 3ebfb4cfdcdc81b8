-- A read that is given up.
use Rattle.std.proofs.Common.{◌≡◌, true, [], ◌∷◌, None, if◌then◌else◌, refl, ap, ◌∙◌}
use Rattle.tl_types.specs.declared.actor.Actor.{Actor}
use Rattle.tl_types.specs.declared.file_id.FileId.{FileId}
use Rattle.tl_model.specs.declared.event.Act.TheVariants.{Shut}
use Rattle.tl_model.specs.Actors.{open_read}
use Rattle.tl_model.specs.Past.{without_tickets}
use Rattle.tl_laws_drops.specs.Drops.{DropsFollow}
use Rattle.tl_laws_drops.proofs.ManyDrops.{read-kept}
use Rattle.tl_laws_drops.proofs.Tickets.{drops-without-tickets}
use Rattle.tl_desk.specs.Finds.{Turns, is_any}
use Rattle.tl_desk.specs.Turns.{with_act}
use Rattle.tl_pieces.specs.Setting.{Setting, Events, event_by}
use Rattle.tl_pieces.specs.Own.{Adds}
use Rattle.tl_pieces.specs.Moments.{is_quiet_end}
use Rattle.tl_pieces.proofs.Adding.{added-own, added-then}
use Rattle.tl_work.specs.declared.error.WorkError.{WorkError}
use Rattle.tl_work.specs.declared.error.WorkError.TheVariants.{StoreFault, Damaged, NoMemory}
use Rattle.tl_work.specs.Runs.{NothingRuns}
use Rattle.tl_work.proofs.Finding.{same-actor, turn-adds}
use Rattle.tl_work.proofs.Open.{closed-left, has-idle, saves-left}
use Rattle.tl_work.proofs.TakingUp.{damage-on}
use Rattle.tl_clients.specs.Waits.{GivesUpReading, IsWaiting, LookFails, LooksOnce, ShutAfter, TriesOnce, TryFails, WaitFails, WhyLookFails, is_file}
use Rattle.tl_clients.proofs.Looking.{free-claim, free-save}
use Rattle.tl_clients.proofs.Serving.{nothing-runs-after}

shut-turned : {T : Type 0} (actor : Actor) (f : FileId) (found new : Events T) → DropsFollow actor (event_by actor (Shut f) ∷ found) new → open_read (without_tickets new) actor ≡ None
shut-turned {T} actor f found new d =
    ap (λ (es : Events T). open_read (without_tickets es) actor) d.1
    ∙ ap (λ past. open_read past actor) (drops-without-tickets actor d.0 (event_by actor (Shut f) ∷ found))
    ∙ read-kept actor d.0 (without_tickets (event_by actor (Shut f) ∷ found)) actor
    ∙ ap (λ b. if b then None else open_read (without_tickets found) actor) (same-actor actor)

pub shut-after : {T : Type 0} (s : Setting T) (f : FileId) (mid after : Events T) → IsWaiting s f mid → Turns s.whole s.actor mid after is_any (with_act s.actor (Shut f)) → ShutAfter s f mid after
shut-after {T} s f mid after w t =
    let adds = turn-adds s mid after is_any (Shut f) refl t in
    record {
      shut = adds;
      idle = has-idle (without_tickets after) s.actor
          (shut-turned s.actor f t.found after t.turned)
          (closed-left s _ mid after refl adds (free-claim (without_tickets mid) s.actor w.free))
          (saves-left s _ mid after refl adds ∙ free-save (without_tickets mid) s.actor w.free);
    }

pub shut-rests : {T : Type 0} (s : Setting T) (f : FileId) (mid after : Events T) → s.whole ≡ true → NothingRuns mid → IsWaiting s f mid → ShutAfter s f mid after → NothingRuns after
shut-rests s f mid after whole none w h =
    nothing-runs-after s _ mid after whole h.shut none (closed-left s _ mid after refl h.shut (free-claim (without_tickets mid) s.actor w.free))

pub gives-up-reading : {T : Type 0} (s : Setting T) (f : FileId) (before mid after : Events T) (error : WorkError) → WaitFails s f before mid error → ShutAfter s f mid after →
    GivesUpReading s f before after error
gives-up-reading s f before mid after error failed h = record { ran_at = mid; failed = failed; shut = h.shut; idle = h.idle }

-- others' events came before
shut-then : {T : Type 0} (s : Setting T) (f : FileId) (before mid after : Events T) → Adds s [] before mid → ShutAfter s f mid after → ShutAfter s f before after
shut-then s f before mid after a h = record { shut = added-then s _ before mid after a h.shut; idle = h.idle }

why-on : {T : Type 0} (s : Setting T) (f : FileId) (mid after : Events T) (error : WorkError) → ShutAfter s f mid after → WhyLookFails s f mid error → WhyLookFails s f after error
why-on s f mid after StoreFault h why = tt
why-on s f mid after (Damaged damage) h why = damage-on s (is_file f) mid after h.shut.more damage h.shut.came why
why-on s f mid after NoMemory h why = tt

pub try-fails : {T : Type 0} (s : Setting T) (f : FileId) (before mid after : Events T) (error : WorkError) → LookFails s f before mid error → ShutAfter s f mid after →
    TryFails s f before after error
try-fails s f before mid after error l h = (shut-then s f before mid after l.came h, why-on s f mid after error h l.why)

pub tries-none : {T : Type 0} (s : Setting T) (f : FileId) (before mid after : Events T) → is_quiet_end s mid ≡ true → LooksOnce s f before mid None → ShutAfter s f mid after →
    TriesOnce s f before after None
tries-none s f before mid after quiet l h = (
  shut-then s f before mid after l.0 h,
  record {
    at = mid;
    later = h.shut.more;
    within = h.shut.came;
    own = added-own s [] before mid l.0;
    quiet = quiet;
    so = l.1;
  },
)
