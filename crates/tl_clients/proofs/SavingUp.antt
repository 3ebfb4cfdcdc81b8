-- Saves one after another.
use Rattle.std.proofs.Common.{◌≡◌, ◌≤◌, ◌<◌, ◌+◌, ℕ, Bool, true, false, List, [], ◌∷◌, ◌++◌, length, Result, Ok, Err, IfOk, IfErr, is_none, refl, sym, ap, subst, arith}
use Rattle.std.specs.List.{list_all}
use Rattle.tl_model.specs.declared.answer.ClientError.{ClientError}
use Rattle.tl_model.specs.Actors.{is_idle}
use Rattle.tl_model.specs.Past.{without_tickets}
use Rattle.tl_pieces.specs.Setting.{Setting, Events}
use Rattle.tl_pieces.specs.Counts.{IsSaving, Kept, SaveOf, Saving, is_kept, nothing_to_save, saves_of}
use Rattle.tl_pieces.specs.Faults.{FaultCount, StoreFailed}
use Rattle.tl_pieces.specs.Lines.{AddsSome, IsSaveLine}
use Rattle.tl_pieces.specs.Moments.{is_quiet_end}
use Rattle.tl_pieces.specs.Own.{Adds}
use Rattle.tl_pieces.proofs.Adding.{added-both, added-none, added-on}
use Rattle.tl_pieces.proofs.Pieced.{saves-add, saving-given-up-some}
use Rattle.tl_work.specs.declared.error.WorkError.{WorkError}
use Rattle.tl_work.specs.declared.error.WorkError.TheVariants.{StoreFault, Damaged, NoMemory}
use Rattle.tl_work.specs.Saves.{SaveFails, SavesNext}
use Rattle.tl_clients.specs.Counting.{SavingFails, unnumbered}
use Rattle.tl_clients.proofs.Staying.{count-all, count-short}

-- so many saves, each of which was kept
pub record SavedSoFar {T : Type 0} (s : Setting T) (k : ℕ) (before after : Events T) : Type 0 where
  pub saves : List SaveOf
  pub saved : Saving s saves before after
  pub kept : list_all is_kept saves ≡ true
  pub counted : k ≡ length saves

pub saved-none : {T : Type 0} (s : Setting T) (events : Events T) → SavedSoFar s 0 events events
saved-none s events = record { saves = []; saved = added-none s events; kept = refl; counted = refl }

pub saved-one : {T : Type 0} (s : Setting T) (k : ℕ) (before mid after : Events T) (b : Bool) → b ≡ true → SavedSoFar s k before mid → SavesNext s mid after b → SavedSoFar s (k + 1) before after
saved-one {T} s k before mid after b is r n =
    let next : SavesNext s mid after true = subst (λ (c : Bool). SavesNext s mid after c) is n in
    let same : k ≡ length r.saves = r.counted in
    record {
      saves = record { file = next.0; end = Kept next.1 } ∷ r.saves;
      saved = (mid, r.saved, next.2);
      kept = r.kept;
      counted = omega arith;
    }

saving-on : {T : Type 0} (s : Setting T) (saves : List SaveOf) (before between after : Events T) → Saving s saves before between → Adds s [] between after → Saving s saves before after
saving-on s [] before between after r a = added-on s [] before between after r a
saving-on s (save ∷ earlier) before between after r a = (
  r.0,
  r.1,
  record {
    found_at = r.2.found_at;
    ended_at = r.2.ended_at;
    found = r.2.found;
    first = r.2.first;
    begun = r.2.begun;
    ended = added-on s [] _ between after r.2.ended a;
    told = r.2.told;
  },
)

pub saved-all : {T : Type 0} (s : Setting T) (n k : ℕ) (before after : Events T) → k ≡ n → SavedSoFar s k before after → IsSaving s n k before after
saved-all s n k before after all r = record {
  saves = r.saves;
  saved = r.saved;
  kept = r.kept;
  counted = r.counted;
  enough = count-all s (nothing_to_save s.header) n k after all;
}

pub saved-short : {T : Type 0} (s : Setting T) (n k : ℕ) (before mid after : Events T) (b : Bool) → b ≡ false → k ≤ n → is_quiet_end s after ≡ true → SavedSoFar s k before mid →
    SavesNext s mid after b → IsSaving s n k before after
saved-short s n k before mid after b is few quiet r found =
    let none : SavesNext s mid after false = subst (λ (c : Bool). SavesNext s mid after c) is found in
    record {
      saves = r.saves;
      saved = saving-on s r.saves before mid after r.saved none.0;
      kept = r.kept;
      counted = r.counted;
      enough = count-short s (nothing_to_save s.header) n k after few quiet (ap is_none none.1);
    }

pub saving-fails : {T : Type 0} (s : Setting T) (n k : ℕ) (before mid after : Events T) (error : WorkError) → k < n → SavedSoFar s k before mid → SaveFails s mid after error →
    SavingFails s n before after error
saving-fails s n k before mid after StoreFault few r f = record {
  file = f.0;
  earlier = r.saves;
  saved = (mid, r.saved, f.1);
  kept = r.kept;
  fewer = subst (λ m. m < n) r.counted few;
}
saving-fails s n k before mid after (Damaged damage) few r f = absurd f
saving-fails {T} s n k before mid after NoMemory few r f =
    (f.0 ++ saves_of {T = T} s.actor r.saves, added-both s (saves_of {T = T} s.actor r.saves) f.0 before mid after (saves-add s r.saves before mid r.saved) f.1)

pub saving-fails-some : {T : Type 0} (s : Setting T) (n : ℕ) (before after : Events T) (error : WorkError) → SavingFails s n before after error → AddsSome s before after
saving-fails-some s n before after StoreFault f = saving-given-up-some s n before after f
saving-fails-some s n before after (Damaged damage) f = absurd f
saving-fails-some s n before after NoMemory f = f

save-failed : {T : Type 0} (s : Setting T) (count : FaultCount) (n : ℕ) (before after : Events T) (error : WorkError) → SavingFails s n before after error →
    (error ≡ StoreFault → StoreFailed count) → is_idle (without_tickets after) s.actor ≡ true → IsSaveLine s count n before after (Err (unnumbered error))
save-failed s count n before after StoreFault f rises idle = record { ended = (f, rises refl); rest = idle }
save-failed s count n before after (Damaged damage) f rises idle = absurd f
save-failed s count n before after NoMemory f rises idle = record { ended = f; rest = idle }

pub save-line-failed : {T : Type 0} (s : Setting T) (count : FaultCount) (n : ℕ) (before after : Events T) (error : WorkError) (told : ClientError) → told ≡ unnumbered error →
    SavingFails s n before after error → (error ≡ StoreFault → StoreFailed count) → is_idle (without_tickets after) s.actor ≡ true → IsSaveLine s count n before after (Err told)
save-line-failed s count n before after error told is f rises idle =
    subst (λ (e : ClientError). IsSaveLine s count n before after (Err e)) (sym is) (save-failed s count n before after error f rises idle)

pub saving-either : {T : Type 0} (s : Setting T) (n : ℕ) (before after : Events T) (result : Result ℕ WorkError) → IfOk result (λ k. IsSaving s n k before after) →
    IfErr result (SavingFails s n before after) → AddsSome s before after
saving-either {T} s n before after (Ok k) ok failed =
    let w : IsSaving s n k before after = ok in (saves_of {T = T} s.actor w.saves, saves-add s w.saves before after w.saved)
saving-either s n before after (Err error) ok failed = saving-fails-some s n before after error failed
