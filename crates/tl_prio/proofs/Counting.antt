-- There are fewer claims than events.
use Rattle.std.proofs.Common.{◌≡◌, arith, ℕ, suc, ◌+◌, ◌-◌, ◌^◌, ◌<◌, ◌≤◌, ◌==◌, Bool, true, false, if◌then◌else◌, [], ◌∷◌, length, Some, refl, ap}
use Rattle.tl_types.specs.Same.{actor_same-Decides}
use Rattle.tl_types.specs.declared.actor.Actor.{Actor}
use Rattle.tl_types.specs.declared.record_id.RecordId.{RecordId}
use Rattle.tl_types.specs.declared.worker_id.WorkerId.{WorkerId}
use Rattle.tl_model.specs.declared.event.Act.{Act}
use Rattle.tl_model.specs.declared.event.Act.TheVariants.{Claim}
use Rattle.tl_model.specs.Past.{Past}
use Rattle.tl_model.specs.History.{records}
use Rattle.tl_model.specs.Actors.{open_claim}
use Rattle.tl_model.specs.Plan.{claims, claims_after, prio}
use Rattle.tl_steps.specs.Within.{IsWithin}

-- ---- no more than events

one-at-most : (b : Bool) (n : ℕ) → (if b then n + 1 else n) ≤ suc n
one-at-most true n = omega arith
one-at-most false n = omega arith

after-few : (past : Past) (act : Act (Unit {0})) (p n m : ℕ) → n ≤ m → claims_after past act p n ≤ suc m
after-few past (Claim worker made) p n m few = let most = one-at-most (prio past made == p) n in omega arith
after-few past act p n m few = omega arith

pub few-claims : (past : Past) (p : ℕ) → claims past p ≤ length past
few-claims [] p = omega arith
few-claims (e ∷ past) p = after-few past e.act p (claims past p) (length past) (few-claims past p)

-- ---- where all events are claims nothing was accepted

same-before : (b : Bool) (n m : ℕ) → n ≤ m → (if b then n + 1 else n) ≡ suc m → n ≡ m
same-before true n m few is = omega arith
same-before false n m few is = absurd (omega arith)

all-after : (past : Past) (actor : Actor) (act : Act (Unit {0})) (p : ℕ) → (claims past p ≡ length past → records past ≡ []) →
    claims_after past act p (claims past p) ≡ suc (length past) → records (record { actor = actor; act = act } ∷ past) ≡ []
all-after past actor (Claim worker made) p before is = before (same-before (prio past made == p) (claims past p) (length past) (few-claims past p) is)
all-after past actor act p before is = let few = few-claims past p in absurd (omega arith)

all-claims : (past : Past) (p : ℕ) → claims past p ≡ length past → records past ≡ []
all-claims [] p is = refl
all-claims (e ∷ past) p is = all-after past e.actor e.act p (all-claims past p) is

-- a claim is of a record that was accepted
claim-here : (past : Past) (actor : Actor) (worker : WorkerId) (made : RecordId) →
    open_claim (record { actor = actor; act = Claim worker made } ∷ past) actor ≡ Some (record { worker = worker; made = made })
claim-here past actor worker made =
    ap (λ b. if b then Some (record { worker = worker; made = made }) else open_claim past actor) ((actor_same-Decides actor actor).1 refl)

fewer-after : (past : Past) (actor : Actor) (act : Act (Unit {0})) (p : ℕ) → IsWithin (record { actor = actor; act = act } ∷ past) →
    claims_after past act p (claims past p) ≤ length past
fewer-after past actor (Claim worker made) p within =
    let most = after-few past (Claim worker made) p (claims past p) (length past) (few-claims past p) in
    let accepted = within.claims actor (record { worker = worker; made = made }) (claim-here past actor worker made) in
    let never : claims_after past (Claim worker made) p (claims past p) ≡ suc (length past) → ⊥ = λ is.
    let empty = ap length (all-after past actor (Claim worker made) p (all-claims past p) is) in omega arith in
    omega arith
fewer-after past actor act p within = few-claims past p

-- there are fewer than events, where there are events
fewer : (past : Past) (p : ℕ) → IsWithin past → claims past p ≤ length past - 1
fewer [] p within = omega arith
fewer (e ∷ past) p within = let few = fewer-after past e.actor e.act p within in omega arith

pub room-for-one : (past : Past) (p : ℕ) → IsWithin past → length past < 2 ^ 64 → claims past p + 1 < 2 ^ 64
room-for-one past p within short = let few = fewer past p within in omega arith
