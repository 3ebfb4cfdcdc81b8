-- Faults among the inputs of a job, and how counts of faults rise.
use Rattle.std.proofs.Common.{◌≡◌, inl, inr, ◌<◌, ℕ, zero, suc, Bool, List, [], ◌∷◌, length, sym, subst, Result, Ok, Err, IfErr, arith}
use lib.ListN.{get_or}
use Rattle.std.specs.Result.{IsErrAnd}
use Rattle.tl_model.specs.declared.answer.Damage.{Damage}
use Rattle.tl_cluster.specs.declared.work.Feed.{Feed}
use Rattle.tl_work.specs.declared.error.WorkError.{WorkError}
use Rattle.tl_work.specs.declared.error.WorkError.TheVariants.{StoreFault, Damaged, NoMemory}
use Rattle.tl_work.specs.Loads.{IsDamageAmong, IsFeedDamage, WhereDamaged}

pub among : {T : Type 0} (tells : Bool) (content : T → List ℕ) (feeds : List (Feed T)) (i : ℕ) (feed : Feed T)
    (damage : Damage) → i < length feeds → feed ≡ get_or feeds i feed → IsFeedDamage tells content damage feed →
    IsDamageAmong tells content feeds damage
among tells content [] i feed damage few at h = absurd (omega arith)
among {T} tells content (x ∷ feeds) zero feed damage few at h =
    inl (subst (λ (y : Feed T). IsFeedDamage tells content damage y) at h)
among tells content (x ∷ feeds) (suc i) feed damage few at h =
    inr (among tells content feeds i feed damage (omega arith) at h)

-- what is so of each damage
pub where-damaged : (e : WorkError) (P Q : Damage → Type 0) → ((damage : Damage) → P damage → Q damage) →
    WhereDamaged P e → WhereDamaged Q e
where-damaged (Damaged damage) P Q f h = f damage h
where-damaged StoreFault P Q f h = tt
where-damaged NoMemory P Q f h = tt

-- what is so of the error with which a function exits
pub exits : {A E : Type 0} (r : Result A E) (e : E) (Q : E → Type 0) → IsErrAnd r (λ y. y ≡ e) → Q e → IfErr r Q
exits (Ok a) e Q h q = tt
exits (Err x) e Q h q = subst Q (sym h) q
