-- A cluster's facts carried along equations.
use Rattle.std.proofs.Common.{◌≡◌, ◌≤◌, ℕ, arith, Bool, true, false, if◌then◌else◌, List, Option, Some, None, IsSome, Result, Ok, Err, IfOk, refl, sym, subst}
use Rattle.tl_model.specs.declared.event.Event.{Event}
use Rattle.tl_model.specs.declared.header.Header.{Header}
use Rattle.tl_core.specs.Residents.{Residents}
use Rattle.tl_model.specs.Past.{without_tickets}
use Rattle.tl_core.specs.Room.{under_way}
use Rattle.tl_core.specs.State.{Stands}

pub carried : {T : Type 0} (tells : Bool) (content : T → List ℕ) (header header' : Header) (events events' : List (Event T)) (residents residents' : Residents)
    (spare spare' : ℕ) → header' ≡ header → events' ≡ events → residents' ≡ residents → spare' ≡ spare →
    Stands tells content header events residents spare → Stands tells content header' events' residents' spare'
carried {T} tells content header header' events events' residents residents' spare spare' h e r p s =
    let P : Header → Type 0 = λ x. Stands tells content x events residents spare in
    let Q : List (Event T) → Type 0 = λ x. Stands tells content header' x residents spare in
    let R : Residents → Type 0 = λ x. Stands tells content header' events' x spare in
    let S : ℕ → Type 0 = λ x. Stands tells content header' events' residents' x in
    subst S (sym p) (subst R (sym r) (subst Q (sym e) (subst P (sym h) s)))

-- more room may be there
pub roomier : {T : Type 0} (tells : Bool) (content : T → List ℕ) (header : Header) (events : List (Event T)) (residents : Residents) (spare more : ℕ) → spare ≤ more →
    Stands tells content header events residents spare → Stands tells content header events residents more
roomier tells content header events residents spare more longer s = record {
  lawful = s.lawful;
  told = s.told;
  places = s.places;
  blocks = s.blocks;
  sound = s.sound;
  saved = s.saved;
  puts = s.puts;
  whole = s.whole;
  jobs = s.jobs;
  room = let few : under_way (without_tickets events) ≤ spare = s.room in omega arith;
}

-- the value that is there
pub value_of : {A : Type 0} (o : Option A) → IsSome o → (a : A) × (o ≡ Some a)
value_of None h = absurd (cc)
value_of (Some a) h = (a, refl)

pub if_ok : {A E : Type 0} (r : Result A E) (P Q : A → Type 0) → ((a : A) → P a → Q a) → IfOk r P → IfOk r Q
if_ok (Ok a) P Q f h = f a h
if_ok (Err e) P Q f h = h

pub same_either : {A : Type 0} (b : Bool) (a : A) → (if b then a else a) ≡ a
same_either true a = refl
same_either false a = refl

-- what is there unless b was there before
pub none_or : {A : Type 0} (b : Bool) (o : Option A) (a : A) → (if b then None else o) ≡ Some a → o ≡ Some a
none_or true o a is = absurd (cc)
none_or false o a is = is
