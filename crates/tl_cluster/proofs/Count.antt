-- What is under way is less by one after an actor ended something, and never more than three for each actor.
use Rattle.std.proofs.Common.{◌≡◌, ℕ, zero, suc, ◌+◌, ◌*◌, ◌<◌, ◌≤◌, Bool, true, false, if◌then◌else◌, List, [], ◌∷◌, length, Option, Some, None, refl, arith}
use Rattle.tl_types.specs.declared.actor.Actor.{Actor}
use Rattle.tl_types.specs.Same.{actor_same}
use Rattle.tl_model.specs.Past.{Past}
use Rattle.tl_model.specs.Actors.{open_read, open_claim, open_save, actors}
use Rattle.tl_cluster.specs.Room.{one_if_some, under_way_of, total_of, under_way}

-- 1 for the actor itself
abbrev pub marks : Actor → Actor → ℕ
marks actor a = if actor_same a actor then 1 else 0

pub total-less : (f g h : Actor → ℕ) (xs : List Actor) → ((a : Actor) → g a + h a ≤ f a) → total_of g xs + total_of h xs ≤ total_of f xs
total-less f g h [] each = omega arith
total-less f g h (a ∷ xs) each =
    let here : g a + h a ≤ f a = each a in
    let rest : total_of g xs + total_of h xs ≤ total_of f xs = total-less f g h xs each in
    omega arith

pub total-few : (f : Actor → ℕ) (xs : List Actor) → ((a : Actor) → f a ≤ 3) → total_of f xs ≤ 3 * length xs
total-few f [] each = omega arith
total-few f (a ∷ xs) each =
    let here : f a ≤ 3 = each a in
    let rest : total_of f xs ≤ 3 * length xs = total-few f xs each in
    omega arith

one-few : {A : Type 0} (o : Option A) → one_if_some o ≤ 1
one-few None = omega arith
one-few (Some a) = omega arith

under_way_of-few : (past : Past) (a : Actor) → under_way_of past a ≤ 3
under_way_of-few past a =
    let r : one_if_some (open_read past a) ≤ 1 = one-few (open_read past a) in
    let c : one_if_some (open_claim past a) ≤ 1 = one-few (open_claim past a) in
    let s : one_if_some (open_save past a) ≤ 1 = one-few (open_save past a) in
    omega arith

-- at most three for each of sixteen actors
pub under_way-few : (past : Past) → under_way past ≤ 48
under_way-few past = total-few (under_way_of past) actors (under_way_of-few past)

pub marks-once : (n : ℕ) → n < 16 → 1 ≤ total_of (marks (record { 0 = n })) actors
marks-once zero h = omega arith
marks-once (suc zero) h = omega arith
marks-once (suc (suc zero)) h = omega arith
marks-once (suc (suc (suc zero))) h = omega arith
marks-once (suc (suc (suc (suc zero)))) h = omega arith
marks-once (suc (suc (suc (suc (suc zero))))) h = omega arith
marks-once (suc (suc (suc (suc (suc (suc zero)))))) h = omega arith
marks-once (suc (suc (suc (suc (suc (suc (suc zero))))))) h = omega arith
marks-once (suc (suc (suc (suc (suc (suc (suc (suc zero)))))))) h = omega arith
marks-once (suc (suc (suc (suc (suc (suc (suc (suc (suc zero))))))))) h = omega arith
marks-once (suc (suc (suc (suc (suc (suc (suc (suc (suc (suc zero)))))))))) h = omega arith
marks-once (suc (suc (suc (suc (suc (suc (suc (suc (suc (suc (suc zero))))))))))) h = omega arith
marks-once (suc (suc (suc (suc (suc (suc (suc (suc (suc (suc (suc (suc zero)))))))))))) h = omega arith
marks-once (suc (suc (suc (suc (suc (suc (suc (suc (suc (suc (suc (suc (suc zero))))))))))))) h = omega arith
marks-once (suc (suc (suc (suc (suc (suc (suc (suc (suc (suc (suc (suc (suc (suc zero)))))))))))))) h = omega arith
marks-once (suc (suc (suc (suc (suc (suc (suc (suc (suc (suc (suc (suc (suc (suc (suc zero))))))))))))))) h = omega arith
marks-once (suc (suc (suc (suc (suc (suc (suc (suc (suc (suc (suc (suc (suc (suc (suc (suc n)))))))))))))))) h = absurd (omega arith)

pub under_way-less : (past after : Past) (actor : Actor) → actor.0 < 16 → ((a : Actor) → under_way_of after a + marks actor a ≤ under_way_of past a) →
    under_way after + 1 ≤ under_way past
under_way-less past after actor known each =
    let once : 1 ≤ total_of (marks actor) actors = marks-once actor.0 known in
    let less : total_of (under_way_of after) actors + total_of (marks actor) actors ≤ total_of (under_way_of past) actors =
    total-less (under_way_of past) (under_way_of after) (marks actor) actors each in
    omega arith

-- a read, a claim or a save is ended where `b` says that it is this actor's
pub read_ended : {R C S : Type 0} (b : Bool) (r : Option R) (c : Option C) (s : Option S) → (b ≡ true → one_if_some r ≡ 1) →
    one_if_some (if b then None else r) + one_if_some (if b then c else c) + one_if_some (if b then s else s) + (if b then 1 else 0)
    ≤ one_if_some r + one_if_some c + one_if_some s
read_ended true r c s h = let e : one_if_some r ≡ 1 = h refl in omega arith
read_ended false r c s h = omega arith

pub claim_ended : {R C S : Type 0} (b : Bool) (r : Option R) (c : Option C) (s : Option S) → (b ≡ true → one_if_some c ≡ 1) →
    one_if_some (if b then r else r) + one_if_some (if b then None else c) + one_if_some (if b then s else s) + (if b then 1 else 0)
    ≤ one_if_some r + one_if_some c + one_if_some s
claim_ended true r c s h = let e : one_if_some c ≡ 1 = h refl in omega arith
claim_ended false r c s h = omega arith

pub total-same : (f g : Actor → ℕ) (xs : List Actor) → ((a : Actor) → f a ≡ g a) → total_of f xs ≡ total_of g xs
total-same f g [] each = refl
total-same f g (a ∷ xs) each =
    let here : f a ≡ g a = each a in
    let rest : total_of f xs ≡ total_of g xs = total-same f g xs each in
    omega arith

-- nothing is opened or ended where each actor has as much as before
pub under_way-same : (past after : Past) → ((a : Actor) → under_way_of after a ≡ under_way_of past a) → under_way after ≡ under_way past
under_way-same past after each = total-same (under_way_of after) (under_way_of past) actors each

pub nothing_ended : {R C S : Type 0} (b : Bool) (r : Option R) (c : Option C) (s : Option S) →
    one_if_some (if b then r else r) + one_if_some (if b then c else c) + one_if_some (if b then s else s)
    ≡ one_if_some r + one_if_some c + one_if_some s
nothing_ended true r c s = refl
nothing_ended false r c s = refl

pub save_ended : {R C S : Type 0} (b : Bool) (r : Option R) (c : Option C) (s : Option S) → (b ≡ true → one_if_some s ≡ 1) →
    one_if_some (if b then r else r) + one_if_some (if b then c else c) + one_if_some (if b then None else s) + (if b then 1 else 0)
    ≤ one_if_some r + one_if_some c + one_if_some s
save_ended true r c s h = let e : one_if_some s ≡ 1 = h refl in omega arith
save_ended false r c s h = omega arith
