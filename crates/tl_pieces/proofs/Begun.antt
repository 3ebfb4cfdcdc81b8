-- A run adds its claim and its end, and was begun at a moment.
use Rattle.std.proofs.Common.{◌≡◌, Bool, true, false, List, [], ◌∷◌, ◌++◌, refl, sym, ap, ◌∙◌, append_assoc}
use Rattle.tl_types.specs.declared.worker_id.WorkerId.{WorkerId}
use Rattle.tl_model.specs.declared.event.Act.TheVariants.{Claim}
use Rattle.tl_model.specs.Actors.{open_claim}
use Rattle.tl_model.specs.Past.{Past, without_tickets}
use Rattle.tl_pieces.specs.Setting.{Setting, Events, event_by}
use Rattle.tl_pieces.specs.Moments.{Moment}
use Rattle.tl_pieces.specs.Own.{Adds}
use Rattle.tl_pieces.specs.Runs.{IsRun, Lost, Ran, Run, ending, run_of, runs_of}
use Rattle.tl_pieces.proofs.Others.{claim-opens, claim-same, claim-stays, some-not-none}
use Rattle.tl_pieces.proofs.Adding.{added-both, added-on, added-own, added-then}

pub run-adds : {T : Type 0} (s : Setting T) (worker : WorkerId) (is_so : Past → Bool) (run : Run) (before after : Events T) → IsRun s worker is_so run before after →
    Adds s (run_of s.actor worker run) before after
run-adds {T} s worker is_so run before after r =
    let claim : Events T = event_by s.actor (Claim worker run.made) ∷ [] in
    added-then s (run_of s.actor worker run) before r.looked_at after r.looks
    (added-both s claim (ending s.actor worker run.made run.end) r.looked_at r.claimed_at after r.claims r.ends)

pub run-moment : {T : Type 0} (s : Setting T) (worker : WorkerId) (is_so : Past → Bool) (run : Run) (before after : Events T) → IsRun s worker is_so run before after →
    Moment s is_so before after
run-moment s worker is_so run before after r = record {
  at = r.looked_at;
  later = r.ends.more ++ r.claims.more;
  within = r.ends.came ∙ ap (λ es. r.ends.more ++ es) r.claims.came ∙ sym (append_assoc r.ends.more r.claims.more r.looked_at);
  own = added-own s [] before r.looked_at r.looks;
  quiet = r.quiet;
  so = r.so;
}

pub ran-adds : {T : Type 0} (s : Setting T) (worker : WorkerId) (is_so : Past → Bool) (runs : List Run) (before after : Events T) → Ran s worker is_so runs before after →
    Adds s (runs_of s.actor worker runs) before after
ran-adds s worker is_so [] before after r = r
ran-adds {T} s worker is_so (run ∷ earlier) before after r =
    added-both s (runs_of {T = T} s.actor worker earlier) (run_of s.actor worker run) before r.0 after (ran-adds s worker is_so earlier before r.0 r.1)
    (run-adds s worker is_so run r.0 after r.2)

-- others' events before a run
pub run-then : {T : Type 0} (s : Setting T) (worker : WorkerId) (is_so : Past → Bool) (run : Run) (before between after : Events T) → Adds s [] before between →
    IsRun s worker is_so run between after → IsRun s worker is_so run before after
run-then s worker is_so run before between after a r = record {
  looked_at = r.looked_at;
  claimed_at = r.claimed_at;
  looks = added-then s [] before between r.looked_at a r.looks;
  quiet = r.quiet;
  so = r.so;
  claims = r.claims;
  ends = r.ends;
  closed = r.closed;
}

-- others' events after a run
pub run-on : {T : Type 0} (s : Setting T) (worker : WorkerId) (is_so : Past → Bool) (run : Run) (before between after : Events T) →
    IsRun s worker is_so run before between → Adds s [] between after → IsRun s worker is_so run before after
run-on s worker is_so run before between after r a = record {
  looked_at = r.looked_at;
  claimed_at = r.claimed_at;
  looks = r.looks;
  quiet = r.quiet;
  so = r.so;
  claims = r.claims;
  ends = added-on s (ending s.actor worker run.made run.end) r.claimed_at between after r.ends a;
  closed = claim-stays s between after a r.closed;
}

-- others' events before runs, and after them
pub ran-then : {T : Type 0} (s : Setting T) (worker : WorkerId) (is_so : Past → Bool) (runs : List Run) (before between after : Events T) → Adds s [] before between →
    Ran s worker is_so runs between after → Ran s worker is_so runs before after
ran-then s worker is_so [] before between after a r = added-then s [] before between after a r
ran-then s worker is_so (run ∷ earlier) before between after a r = (r.0, ran-then s worker is_so earlier before between r.0 a r.1, r.2)

pub ran-on : {T : Type 0} (s : Setting T) (worker : WorkerId) (is_so : Past → Bool) (runs : List Run) (before between after : Events T) →
    Ran s worker is_so runs before between → Adds s [] between after → Ran s worker is_so runs before after
ran-on s worker is_so [] before between after r a = added-on s [] before between after r a
ran-on s worker is_so (run ∷ earlier) before between after r a = (r.0, r.1, run-on s worker is_so run r.0 between after r.2 a)

pub ran-both : {T : Type 0} (s : Setting T) (worker : WorkerId) (is_so : Past → Bool) (first then : List Run) (before between after : Events T) →
    Ran s worker is_so first before between → Ran s worker is_so then between after → Ran s worker is_so (then ++ first) before after
ran-both s worker is_so first [] before between after a b = ran-on s worker is_so first before between after a b
ran-both s worker is_so first (run ∷ earlier) before between after a b = (b.0, ran-both s worker is_so first earlier before between b.0 a b.1, b.2)

-- ---- who loses a run

not-true : (b : Bool) → (b ≡ true → ⊥) → b ≡ false
not-true true h = absurd (h refl)
not-true false h = refl

pub lost-by-others : {T : Type 0} (s : Setting T) (worker : WorkerId) (is_so : Past → Bool) (run : Run) (before after : Events T) → IsRun s worker is_so run before after →
    run.end ≡ Lost → s.whole ≡ false
lost-by-others {T} s worker is_so run before after r lost = not-true s.whole (λ whole.
    let none : ending {T = T} s.actor worker run.made run.end ≡ [] = ap (ending {T = T} s.actor worker run.made) lost in
    let claimed = claim-opens s.actor worker run.made r.looked_at r.claims.more r.claims.own (r.claims.alone whole) in
    let stays = claim-same s.actor r.claimed_at r.ends.more (r.ends.own ∙ none) (r.ends.alone whole) in
    some-not-none _ (sym (stays ∙ ap (λ es. open_claim (without_tickets es) s.actor) r.claims.came ∙ claimed) ∙ ap (λ es. open_claim (without_tickets es) s.actor) (sym r.ends.came) ∙ r.closed))
