use Rattle.std.proofs.Common.{◌≡◌, ◌+◌, ◌≤◌, List, [], ◌∷◌, ◌++◌, length, reverse, arith}
use Rattle.std.proofs.lemmas.List.{reverse-append}
use Rattle.tl_types.specs.declared.actor.Actor.{Actor}
use Rattle.tl_model.specs.declared.event.Act.{Act}
use Rattle.tl_model.specs.declared.event.Act.TheVariants.{Call, Served, Shut, Claim, Done, Back, Lose, Free, Drop, Load, Save, Saved, Unsave, Collect}
use Rattle.tl_model.specs.declared.event.Event.{Event}
use Rattle.tl_model.specs.History.{HistoryOf, with_call}
use Rattle.tl_model.specs.Journal.{call_count, calls_in}

counted : {T : Type 0} (actor : Actor) (act : Act T) (calls : HistoryOf T) → length (with_call actor act calls) ≡ length calls + calls_in act
counted actor (Call command reply) calls = omega arith
counted actor (Served f digest) calls = omega arith
counted actor (Shut f) calls = omega arith
counted actor (Claim w r) calls = omega arith
counted actor (Done w r) calls = omega arith
counted actor (Back r) calls = omega arith
counted actor (Lose w) calls = omega arith
counted actor (Free f) calls = omega arith
counted actor (Drop w f) calls = omega arith
counted actor (Load w f) calls = omega arith
counted actor (Save f) calls = omega arith
counted actor (Saved f n digest) calls = omega arith
counted actor (Unsave f) calls = omega arith
counted actor (Collect r) calls = omega arith

-- an event more is a call more where it is one
pub call_count_more : {T : Type 0} (e : Event T) (events : List (Event T)) → call_count (e ∷ events) ≡ call_count events + calls_in e.act
call_count_more e events = counted e.actor e.act _

pub calls_small : {T : Type 0} (act : Act T) → calls_in act ≤ 1
calls_small (Call command reply) = omega arith
calls_small (Served f digest) = omega arith
calls_small (Shut f) = omega arith
calls_small (Claim w r) = omega arith
calls_small (Done w r) = omega arith
calls_small (Back r) = omega arith
calls_small (Lose w) = omega arith
calls_small (Free f) = omega arith
calls_small (Drop w f) = omega arith
calls_small (Load w f) = omega arith
calls_small (Save f) = omega arith
calls_small (Saved f n digest) = omega arith
calls_small (Unsave f) = omega arith
calls_small (Collect r) = omega arith

-- there are no more calls than events
pub call_count-le : {T : Type 0} (events : List (Event T)) → call_count events ≤ length events
call_count-le [] = omega arith
call_count-le (e ∷ events) = omega (arith, call_count_more e events, call_count-le events, calls_small e.act)

pub reverse_push : {X : Type 0} (xs : List X) (x : X) → reverse (xs ++ x ∷ []) ≡ x ∷ reverse xs
reverse_push xs x = reverse-append xs (x ∷ [])
