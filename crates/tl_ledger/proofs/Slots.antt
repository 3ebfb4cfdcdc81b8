-- A graph of a past has a slot for each accepted record.
use Rattle.std.proofs.Common.{◌≡◌, ◌+◌, ◌<◌, ◌^◌, ℕ, zero, suc, List, [], ◌∷◌, ◌++◌, length, map, slice_get, slice_set, Option, Some, None, refl, sym, ap, ◌∙◌, arith, length-append}
use Rattle.std.specs.Option.{option_map_or}
use Rattle.tl_types.specs.declared.actor.Actor.{Actor}
use Rattle.tl_model.specs.declared.event.Act.{Act}
use Rattle.tl_model.specs.declared.event.Act.TheVariants.{Call, Served, Shut, Claim, Done, Back, Lose, Free, Drop, Load, Save, Saved, Unsave, Collect}
use Rattle.tl_model.specs.declared.record.Record.{Record}
use Rattle.tl_model.specs.History.{names, record_made, records}
use Rattle.tl_model.specs.Past.{Past}
use Rattle.tl_lineage.specs.Slots.{removed}
use Rattle.tl_lineage.specs.Standing.{slots_after, slots_of}
use Rattle.tl_lineage.specs.declared.slot.Slot.{Slot}
use Rattle.tl_lineage.specs.declared.slot.Slot.TheVariants.{Kept}

set-length : {A : Type 0} (xs : List A) (n : ℕ) (x : A) → length (slice_set xs n x) ≡ length xs
set-length [] n x = refl
set-length (y ∷ xs) zero x = refl
set-length (y ∷ xs) (suc n) x = ap suc (set-length xs n x)

removed-length : (n : ℕ) (slots : List Slot) (o : Option Slot) → length (option_map_or (λ slot. slice_set slots n (removed slot)) o slots) ≡ length slots
removed-length n slots None = refl
removed-length n slots (Some slot) = set-length slots n (removed slot)

pub map-length : {A B : Type 0} (f : A → B) (xs : List A) → length (map f xs) ≡ length xs
map-length f [] = refl
map-length f (x ∷ xs) = ap suc (map-length f xs)

pub fewer : {A : Type 0} (x : A) (xs : List A) → length (x ∷ xs) < 2 ^ 64 → length xs < 2 ^ 64
fewer x xs few = omega arith

more-length : (slots : List Slot) (rs more : List Record) → length slots ≡ length rs → length (slots ++ map Kept more) ≡ length (rs ++ more)
more-length slots rs more e =
    length-append slots (map Kept more) ∙ ap (λ n. n + length (map Kept more)) e ∙ ap (λ n. length rs + n) (map-length Kept more) ∙ sym (length-append rs more)

after-length : (past : Past) (actor : Actor) (act : Act (Unit {0})) → length (slots_of past) ≡ length (records past) →
    length (slots_after past act (slots_of past)) ≡ length (records (record { actor = actor; act = act } ∷ past))
after-length past actor (Call command reply) h = more-length (slots_of past) (records past) (record_made reply command (names past)) h
after-length past actor (Collect made) h = removed-length made.0 (slots_of past) (slice_get (slots_of past) made.0) ∙ h
after-length past actor (Served file digest) h = h
after-length past actor (Shut file) h = h
after-length past actor (Claim worker made) h = h
after-length past actor (Done worker made) h = h
after-length past actor (Back made) h = h
after-length past actor (Lose worker) h = h
after-length past actor (Free file) h = h
after-length past actor (Drop worker file) h = h
after-length past actor (Load worker file) h = h
after-length past actor (Save file) h = h
after-length past actor (Saved file size digest) h = h
after-length past actor (Unsave file) h = h

pub slots-length : (past : Past) → length (slots_of past) ≡ length (records past)
slots-length [] = refl
slots-length (e ∷ past) = after-length past e.actor e.act (slots-length past)
