-- What slots that stand for records give.
use Rattle.std.proofs.Common.{◌≡◌, ℕ, zero, suc, ◌+◌, Bool, true, false, ◌&&◌, ◌||◌, not, cond, List, [], ◌∷◌, ◌++◌, map, length, slice_get, Option, Some, None, is_some, option_map, refl, sym, ap, ◌∙◌, subst, arith, append-nil}
use Rattle.std.specs.Prelude.{◌==◌, option_and_then, slice_set, count_by, if◌then◌else◌}
use Rattle.std.specs.Option.{option_map_or}
use Rattle.std.proofs.lemmas.Bool.{eq-eqb, ne_eqb}
use Rattle.std.proofs.lemmas.List.Sums.{sum_by-cons}
use Rattle.tl_types.specs.declared.file_id.FileId.{FileId}
use Rattle.tl_model.specs.declared.command.Command.{Command}
use Rattle.tl_model.specs.declared.command.Command.TheVariants as command
use Rattle.tl_model.specs.declared.reply.Reply.{Reply}
use Rattle.tl_model.specs.declared.reply.Reply.TheVariants.{Made}
use Rattle.tl_model.specs.declared.event.Act.{Act}
use Rattle.tl_model.specs.declared.event.Act.TheVariants.{Call, Collect}
use Rattle.tl_model.specs.declared.record.Record.{Record}
use Rattle.tl_model.specs.declared.record.Record.TheVariants.{Put, Job}
use Rattle.tl_model.specs.Namespace.{Names}
use Rattle.tl_model.specs.Past.{Past, Plain}
use Rattle.tl_model.specs.History.{has_input, names, records, record_made}
use Rattle.tl_lineage.specs.declared.slot.Slot.{Slot}
use Rattle.tl_lineage.specs.declared.slot.Slot.TheVariants.{Kept}
use Rattle.tl_lineage.specs.Slots.{has_read, kept_in, removed, with_removed}
use Rattle.tl_lineage.specs.Standing.{is_gone, slot_of, slots_after, Stand, StandFor}

abbrev AtEach : (ℕ → Bool) → List Record → List Slot → Type 0
AtEach gone rs slots = (n : ℕ) → slice_get slots n ≡ option_map (slot_of (gone n)) (slice_get rs n)

more-at : (gone : ℕ → Bool) (rs : List Record) (slots : List Slot) (r : Record) (n : ℕ) → AtEach gone rs slots → gone (length slots) ≡ false →
    slice_get (slots ++ Kept r ∷ []) n ≡ option_map (slot_of (gone n)) (slice_get (rs ++ r ∷ []) n)
more-at gone [] [] r zero h e = ap (λ b. Some (slot_of b r)) (sym e)
more-at gone [] [] r (suc n) h e = refl
more-at gone [] (slot ∷ slots) r n h e = let at = h 0 in absurd (cc)
more-at gone (q ∷ rs) [] r n h e = let at = h 0 in absurd (cc)
more-at gone (q ∷ rs) (slot ∷ slots) r zero h e = h 0
more-at gone (q ∷ rs) (slot ∷ slots) r (suc n) h e = more-at (λ k. gone (suc k)) rs slots r n (λ k. h (suc k)) e

one-more : (gone : ℕ → Bool) (rs : List Record) (slots : List Slot) (r : Record) → StandFor gone rs slots → gone (length slots) ≡ false →
    StandFor gone (rs ++ r ∷ []) (slots ++ Kept r ∷ [])
one-more gone rs slots r stand e = record { each = λ n. more-at gone rs slots r n stand.each e }

none-more : (gone : ℕ → Bool) (rs : List Record) (slots : List Slot) → StandFor gone rs slots → StandFor gone (rs ++ []) (slots ++ [])
none-more gone rs slots stand =
    let P : List Record → Type 0 = λ all. StandFor gone all (slots ++ []) in
    let Q : List Slot → Type 0 = λ all. StandFor gone rs all in
    subst P (sym (append-nil rs)) (subst Q (sym (append-nil slots)) stand)

called : (reply : Reply) (c : Command (Unit {0})) (now : Names) (gone : ℕ → Bool) (rs : List Record) (slots : List Slot) → StandFor gone rs slots → gone (length slots) ≡ false →
    StandFor gone (rs ++ record_made reply c now) (slots ++ map Kept (record_made reply c now))
called (Made made) (command.Put path len digest ticket) now gone rs slots stand e = one-more gone rs slots _ stand e
called (Made made) (command.Job core prio inputs outputs) now gone rs slots stand e = one-more gone rs slots _ stand e
called _ _ now gone rs slots stand e = none-more gone rs slots stand

-- the slots after the record of a number is removed, from the front
abbrev removed_at : ℕ → List Slot → List Slot
removed_at n [] = []
removed_at zero (slot ∷ slots) = removed slot ∷ slots
removed_at (suc n) (slot ∷ slots) = slot ∷ removed_at n slots

past-first : (slot : Slot) (slots : List Slot) (n : ℕ) (o : Option Slot) →
    option_map_or (λ old. slot ∷ slice_set slots n (removed old)) o (slot ∷ slots) ≡ slot ∷ option_map_or (λ old. slice_set slots n (removed old)) o slots
past-first slot slots n None = refl
past-first slot slots n (Some old) = refl

with-removed : (n : ℕ) (slots : List Slot) → with_removed n slots ≡ removed_at n slots
with-removed n [] = refl
with-removed zero (slot ∷ slots) = refl
with-removed (suc n) (slot ∷ slots) = past-first slot slots n (slice_get slots n) ∙ ap (λ rest. slot ∷ rest) (with-removed n slots)

removed-slot : (b : Bool) (r : Record) → removed (slot_of b r) ≡ slot_of true r
removed-slot false r = refl
removed-slot true (Put id) = refl
removed-slot true (Job id core prio inputs outputs) = refl

removed-first : (b : Bool) (slot : Slot) (r : Record) → Some slot ≡ Some (slot_of b r) → Some (removed slot) ≡ Some (slot_of true r)
removed-first b slot r e = let same : slot ≡ slot_of b r = cc in ap Some (ap removed same ∙ removed-slot b r)

less-at : (gone now : ℕ → Bool) (rs : List Record) (slots : List Slot) (m n : ℕ) → AtEach gone rs slots → now m ≡ true →
    ((k : ℕ) → (k ≡ m → ⊥) → now k ≡ gone k) → slice_get (removed_at m slots) n ≡ option_map (slot_of (now n)) (slice_get rs n)
less-at gone now [] [] m n h it others = refl
less-at gone now [] (slot ∷ slots) m n h it others = let at = h 0 in absurd (cc)
less-at gone now (q ∷ rs) [] m n h it others = let at = h 0 in absurd (cc)
less-at gone now (q ∷ rs) (slot ∷ slots) zero zero h it others = removed-first (gone 0) slot q (h 0) ∙ ap (λ b. Some (slot_of b q)) (sym it)
less-at gone now (q ∷ rs) (slot ∷ slots) zero (suc n) h it others =
    h (suc n) ∙ ap (λ b. option_map (slot_of b) (slice_get rs n)) (sym (others (suc n) (λ e. omega arith)))
less-at gone now (q ∷ rs) (slot ∷ slots) (suc m) zero h it others = h 0 ∙ ap (λ b. Some (slot_of b q)) (sym (others 0 (λ e. omega arith)))
less-at gone now (q ∷ rs) (slot ∷ slots) (suc m) (suc n) h it others =
    less-at (λ k. gone (suc k)) (λ k. now (suc k)) rs slots m n (λ k. h (suc k)) it (λ k differs. others (suc k) (λ e. differs (omega arith)))

collected : (gone : ℕ → Bool) (rs : List Record) (slots : List Slot) (m : ℕ) → StandFor gone rs slots →
    StandFor (λ n. n == m || gone n) rs (with_removed m slots)
collected gone rs slots m stand = record {
  each = λ n. ap (λ all. slice_get all n) (with-removed m slots)
      ∙ less-at gone (λ k. k == m || gone k) rs slots m n stand.each
      (ap (λ b. b || gone m) (eq-eqb m m refl)) (λ k differs. ap (λ b. b || gone k) (ne_eqb k m differs));
}

-- slots that stand for a past stand for it with an event more
pub next-stands : (past : Past) (slots : List Slot) (event : Plain) → Stand past slots → is_gone past (length slots) ≡ false →
    Stand (event ∷ past) (slots_after past event.act slots)
next-stands past slots event stand e = after event.act
  where
    after : (act : Act (Unit {0})) → Stand (record { actor = event.actor; act = act } ∷ past) (slots_after past act slots)
    after (Call c reply) = called reply c (names past) (is_gone past) (records past) slots stand e
    after (Collect made) = collected (is_gone past) (records past) slots made.0 stand
    after _ = stand

read-slot : (f : FileId) (b : Bool) (r : Record) → has_read f (slot_of b r) ≡ has_input f r
read-slot f false r = refl
read-slot f true (Put id) = refl
read-slot f true (Job id core prio inputs outputs) = refl

read-first : (f : FileId) (b : Bool) (slot : Slot) (r : Record) → Some slot ≡ Some (slot_of b r) → has_read f slot ≡ has_input f r
read-first f b slot r e = let same : slot ≡ slot_of b r = cc in ap (has_read f) same ∙ read-slot f b r

pub readers-at : (f : FileId) (gone : ℕ → Bool) (rs : List Record) (slots : List Slot) → AtEach gone rs slots →
    count_by (has_read f) slots ≡ count_by (has_input f) rs
readers-at f gone [] [] h = refl
readers-at f gone [] (slot ∷ slots) h = let at = h 0 in absurd (cc)
readers-at f gone (q ∷ rs) [] h = let at = h 0 in absurd (cc)
readers-at f gone (q ∷ rs) (slot ∷ slots) h =
    let one : has_read f slot ≡ has_input f q = read-first f (gone 0) slot q (h 0) in
    let rest : count_by (has_read f) slots ≡ count_by (has_input f) rs = readers-at f (λ k. gone (suc k)) rs slots (λ k. h (suc k)) in
    sum_by-cons (λ x. cond (has_read f x) 1 0) slot slots ∙ ap (λ b. cond b 1 0 + count_by (has_read f) slots) one
    ∙ ap (λ n. cond (has_input f q) 1 0 + n) rest ∙ sym (sum_by-cons (λ x. cond (has_input f x) 1 0) q rs)

pub found-at : (gone : Bool) (slot : Option Slot) (r : Option Record) → slot ≡ option_map (slot_of gone) r →
    option_and_then kept_in slot ≡ (if is_some r && not gone then r else None)
found-at gone slot r e = ap (option_and_then kept_in) e ∙ of_slot gone r
  where
    of_slot : (b : Bool) (o : Option Record) → option_and_then kept_in (option_map (slot_of b) o) ≡ (if is_some o && not b then o else None)
    of_slot b None = refl
    of_slot false (Some q) = refl
    of_slot true (Some (Put id)) = refl
    of_slot true (Some (Job id core prio inputs outputs)) = refl
