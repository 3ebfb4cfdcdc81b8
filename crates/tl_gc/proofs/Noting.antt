-- What is kept stands for the past with one event more.
use Rattle.std.proofs.Common.{◌≡◌, ◌∙◌, arith, inl, inr, subst, ℕ, ◌<◌, Bool, true, false, ◌&&◌, ◌||◌, not, List, [], ◌∷◌, ◌++◌, length, map, slice_get, Option, Some, None, refl, sym, ap, append-nil}
use Rattle.tl_types.specs.Same.{file_same, file_same-Decides, record_same, record_same-Decides}
use Rattle.tl_types.specs.declared.actor.Actor.{Actor}
use Rattle.tl_types.specs.declared.file_id.FileId.{FileId}
use Rattle.tl_types.specs.declared.record_id.RecordId.{RecordId}
use Rattle.tl_model.specs.declared.header.Header.{Header}
use Rattle.tl_model.specs.declared.command.Command.{Command}
use Rattle.tl_model.specs.declared.command.Command.TheVariants as command
use Rattle.tl_model.specs.declared.reply.Reply.{Reply}
use Rattle.tl_model.specs.declared.reply.Reply.TheVariants.{Made}
use Rattle.tl_model.specs.declared.event.Act.{Act}
use Rattle.tl_model.specs.declared.event.Act.TheVariants.{Call, Collect, Saved}
use Rattle.tl_model.specs.declared.record.Record.{Record}
use Rattle.tl_model.specs.declared.record.Record.TheVariants as kind
use Rattle.tl_model.specs.declared.event.Event.{Event}
use Rattle.tl_model.specs.Past.{Past, act_with, event_with, without_tickets}
use Rattle.tl_model.specs.Rules.{all_permitted, lawful_judge}
use Rattle.tl_model.specs.History.{files_at, id_of, inputs_of, is_named, names, output_count, outputs_of, record_made, records}
use Rattle.tl_model.specs.Actors.{actors}
use Rattle.tl_model.specs.Residency.{collects, is_collected, is_saved, saved_as}
use Rattle.tl_laws.specs.Numbers.{Numbered}
use Rattle.tl_laws.specs.Made.{IsOutputOf}
use Rattle.tl_laws_needs.proofs.Next.{event-next}
use Rattle.tl_laws_needs.proofs.Sound.{past-numbered, permitted-before}
use Rattle.tl_laws.proofs.Growing.{IsGrown, last-grows}
use Rattle.tl_steps.specs.Steps.{UnnamesOnly, added, changed_at, is_gone, new_seat, next_of, saves_now, seat_after}
use Rattle.tl_steps.specs.Within.{IsWithin}
use Rattle.tl_steps.proofs.Files.{after, each-file, is-output, new-number, not-true, not-yet, saved-same}
use Rattle.tl_steps.proofs.Lists.{get_map, map_after, map_append, map_same}
use Rattle.tl_steps.proofs.Named.{NoNewNames, accepted-named, named-same}
use Rattle.tl_steps.proofs.Seats.{seats-after}
use Rattle.tl_steps.proofs.Within.{all-within}
use Rattle.tl_gc.specs.declared.kept.Kept.{Kept}
use Rattle.tl_gc.specs.Data.{GcData, gc_after, kept_after, maker_of, new_output, noted_at, output_after, records_after, touched, with_kept}
use Rattle.tl_gc.specs.Standing.{HasRoomForAll, StandsFor, kept_in, kept_of, output_of}
use Rattle.tl_gc.proofs.Collected.{collected-within}
use Rattle.tl_gc.proofs.Lists.{get-changed, get-changed-other, length-changed, length-map, map-at-each, same_or_not}

-- ---- the records that were there

output-same : (actor : Actor) (act : Act (Unit {0})) (past : Past) (gone : Option FileId) (f : FileId) → IsOutputOf (records past) f →
    UnnamesOnly past (record { actor = actor; act = act }) gone → NoNewNames past (after actor act past) →
    output_after act gone (output_of past f) ≡ output_of (after actor act past) f
output-same actor act past gone f is only older =
    λ i. record { file = f; is_saved = saved-same act f (saved_as past f) i; is_named = named-same past (record { actor = actor; act = act }) gone f only older is i }

kept-same : (actor : Actor) (act : Act (Unit {0})) (past : Past) (gone : Option FileId) (at : ℕ) (r : Record) → Numbered (records past) → slice_get (records past) at ≡ Some r →
    UnnamesOnly past (record { actor = actor; act = act }) gone → NoNewNames past (after actor act past) →
    kept_after act gone (kept_in past r) ≡ kept_in (after actor act past) r
kept-same actor act past gone at r numbered got only older =
    let now = after actor act past in
    let outputs = map_after (output_of past) (output_after act gone) (outputs_of r)
    ∙ each-file (λ f. output_after act gone (output_of past f)) (output_of now) (id_of r) 0 (output_count r) (output_count r) (omega arith)
    (λ j less. output-same actor act past gone (record { rec = id_of r; out = j }) (is-output (records past) r at j numbered got less) only older) in
    λ i. record { made = id_of r; inputs = inputs_of r; outputs = outputs i; is_collected = is_collected now (id_of r) }

-- ---- the records that an act leaves as they were

-- it is not this record, by number, that is changed
abbrev Misses : Option RecordId → ℕ → Type 0
Misses None i = Unit {0}
Misses (Some made) i = made.0 ≡ i → ⊥

and-not : (b : Bool) → (b && not b) ≡ false
and-not true = refl
and-not false = refl

other-file : (f g : FileId) (i : ℕ) → f.rec.0 ≡ i → (g.rec.0 ≡ i → ⊥) → file_same f g ≡ false
other-file f g i at other = not-true (file_same f g) (λ t. other (sym (ap (λ (h : FileId). h.rec.0) ((file_same-Decides f g).0 t)) ∙ at))

not-gone : (gone : Option FileId) (f : FileId) (i : ℕ) → Misses (maker_of gone) i → f.rec.0 ≡ i → is_gone gone f ≡ false
not-gone None f i other at = refl
not-gone (Some g) f i other at = other-file f g i at other

keeps-name : (actor : Actor) (act : Act (Unit {0})) (past : Past) (lost : Option FileId) (i : ℕ) (f : FileId) → UnnamesOnly past (record { actor = actor; act = act }) lost →
    Misses (touched act lost) i → f.rec.0 ≡ i → is_gone lost f ≡ false
keeps-name actor (Saved g size digest) past lost i f only other at = only f ∙ and-not (is_named past f)
keeps-name actor (Collect made) past lost i f only other at = only f ∙ and-not (is_named past f)
keeps-name actor act past lost i f only other at = not-gone lost f i other at

saves-other : (act : Act (Unit {0})) (lost : Option FileId) (i : ℕ) (f : FileId) → Misses (touched act lost) i → f.rec.0 ≡ i → saves_now act f ≡ false
saves-other (Saved g size digest) lost i f other at = other-file f g i at other
saves-other act lost i f other at = refl

collects-other : (act : Act (Unit {0})) (lost : Option FileId) (i : ℕ) (id : RecordId) → Misses (touched act lost) i → id.0 ≡ i → collects id act ≡ false
collects-other (Collect made) lost i id other at =
    not-true (record_same id made) (λ t. other (sym (ap (λ (m : RecordId). m.0) ((record_same-Decides id made).0 t)) ∙ at))
collects-other act lost i id other at = refl

and-true : (b : Bool) → b ≡ (b && true)
and-true true = refl
and-true false = refl

spared : (actor : Actor) (act : Act (Unit {0})) (past : Past) (gone : Option FileId) (i : ℕ) (r : Record) → UnnamesOnly past (record { actor = actor; act = act }) gone →
    Misses (touched act gone) i → (id_of r).0 ≡ i → kept_in past r ≡ kept_after act gone (kept_in past r)
spared actor act past gone i r only other at =
    let outputs = each-file (output_of past) (λ f. output_after act gone (output_of past f)) (id_of r) 0 (output_count r) (output_count r) (omega arith)
    (λ j less k. record {
      file = record { rec = id_of r; out = j };
      is_saved = sym (saves-other act gone i (record { rec = id_of r; out = j }) other at) k || is_saved past (record { rec = id_of r; out = j });
      is_named = (and-true (is_named past (record { rec = id_of r; out = j }))
          ∙ ap (λ b. is_named past (record { rec = id_of r; out = j }) && not b) (sym (keeps-name actor act past gone i (record { rec = id_of r; out = j }) only other at))) k;
    })
    ∙ sym (map_after (output_of past) (output_after act gone) (outputs_of r)) in
    λ k. record {
      made = id_of r;
      inputs = inputs_of r;
      outputs = outputs k;
      is_collected = sym (collects-other act gone i (id_of r) other at) k || is_collected past (id_of r);
    }

noted-same : (actor : Actor) (act : Act (Unit {0})) (past : Past) (gone : Option FileId) (o : Option RecordId) → touched act gone ≡ o → Numbered (records past) →
    UnnamesOnly past (record { actor = actor; act = act }) gone →
    noted_at o act gone (map (kept_in past) (records past)) ≡ map (λ r. kept_after act gone (kept_in past r)) (records past)
noted-same actor act past gone None is numbered only =
    map_same (kept_in past) (λ r. kept_after act gone (kept_in past r)) (records past)
    (λ i r got. spared actor act past gone i r only (subst (λ (o : Option RecordId). Misses o i) (sym is) tt) (ap (λ (id : RecordId). id.0) (numbered i r got)))
noted-same actor act past gone (Some made) is numbered only =
    let kept = map (kept_in past) (records past) in
    map-at-each (λ r. kept_after act gone (kept_in past r)) (changed_at made.0 (kept_after act gone) kept) (records past)
    (length-changed kept made.0 (kept_after act gone) ∙ length-map (kept_in past) (records past))
    (λ i r got. elim (same_or_not made.0 i) [
      | inl same ↦
          ap (slice_get (changed_at made.0 (kept_after act gone) kept)) (sym same)
          ∙ get-changed kept made.0 (kept_after act gone) (kept_in past r) (ap (slice_get kept) same ∙ get_map (kept_in past) (records past) i r got)
      | inr other ↦
          get-changed-other kept made.0 i (kept_after act gone) other
          ∙ get_map (kept_in past) (records past) i r got
          ∙ ap (λ (k : Kept). Some k)
          (spared actor act past gone i r only (subst (λ (o : Option RecordId). Misses o i) (sym is) other) (ap (λ (id : RecordId). id.0) (numbered i r got)))
    ])

changed-same : (actor : Actor) (act : Act (Unit {0})) (past : Past) (gone : Option FileId) → Numbered (records past) →
    UnnamesOnly past (record { actor = actor; act = act }) gone → NoNewNames past (after actor act past) →
    records_after act gone (map (kept_in past) (records past)) ≡ map (kept_in (after actor act past)) (records past)
changed-same actor act past gone numbered only older =
    noted-same actor act past gone (touched act gone) refl numbered only
    ∙ map_same (λ r. kept_after act gone (kept_in past r)) (kept_in (after actor act past)) (records past)
    (λ at r got. kept-same actor act past gone at r numbered got only older)

-- ---- a record that a call adds

-- all that was let go was accepted
abbrev CollectsAccepted : Past → Type 0
CollectsAccepted past = (made : RecordId) → is_collected past made ≡ true → made.0 < length (records past)

record-new : (actor : Actor) (c : Command (Unit {0})) (reply : Reply) (past : Past) (r : Record) → IsWithin past → CollectsAccepted past →
    records (after actor (Call c reply) past) ≡ records past ++ r ∷ [] → Numbered (records (after actor (Call c reply) past)) →
    ((j : ℕ) → j < output_count r → is_named (after actor (Call c reply) past) (record { rec = id_of r; out = j }) ≡ true) →
    kept_of r ≡ kept_in (after actor (Call c reply) past) r
record-new actor c reply past r within accepted is numbered named =
    let now = after actor (Call c reply) past in
    let number : (id_of r).0 ≡ length (records past) = new-number past now r is numbered in
    let uncollected : is_collected past (id_of r) ≡ false =
    not-true (is_collected past (id_of r)) (λ e. let less : (id_of r).0 < length (records past) = accepted (id_of r) e in absurd (omega arith)) in
    let outputs = each-file new_output (output_of now) (id_of r) 0 (output_count r) (output_count r) (omega arith)
    (λ j less i. record {
      file = record { rec = id_of r; out = j };
      is_saved = sym (not-true (is_saved past (record { rec = id_of r; out = j })) (λ e. not-yet past (id_of r) j number (within.saved (record { rec = id_of r; out = j }) e))) i;
      is_named = sym (named j less) i;
    }) in
    λ i. record { made = id_of r; inputs = inputs_of r; outputs = outputs i; is_collected = sym uncollected i }

-- there is a place for each record that is added
abbrev RoomFor : Option Kept → List Record → Type 0
RoomFor next [] = Unit {0}
RoomFor next (r ∷ rs) = next ≡ Some (kept_of r)

-- the records, once those are added that an event adds
abbrev AddedTo : Past → Option Kept → List Kept → Type 0
AddedTo now next kept = with_kept next kept ≡ map (kept_in now) (records now)

none-added : (now : Past) (rs : List Record) (kept : List Kept) → records now ≡ rs → kept ≡ map (kept_in now) rs → AddedTo now None kept
none-added now rs kept is same = same ∙ ap (map (kept_in now)) (sym is)

one-added : (now : Past) (rs : List Record) (r : Record) (next : Option Kept) (kept : List Kept) → records now ≡ rs ++ r ∷ [] → kept ≡ map (kept_in now) rs →
    next ≡ Some (kept_of r) → kept_of r ≡ kept_in now r → AddedTo now next kept
one-added now rs r next kept is same room new =
    ap (λ o. with_kept o kept) room
    ∙ (λ i. same i ++ new i ∷ [])
    ∙ sym (map_append (kept_in now) rs (r ∷ []))
    ∙ ap (map (kept_in now)) (sym is)

call-added : (actor : Actor) (reply : Reply) (c : Command (Unit {0})) (past : Past) (next : Option Kept) (kept : List Kept) → IsWithin past → CollectsAccepted past →
    IsGrown past (Call c reply) → Numbered (records (after actor (Call c reply) past)) → RoomFor next (record_made reply c (names past)) →
    kept ≡ map (kept_in (after actor (Call c reply) past)) (records past) → AddedTo (after actor (Call c reply) past) (next_of (Call c reply) next) kept
call-added actor (Made made) (command.Put path len digest ticket) past next kept within accepted grows numbered room same =
    let c = command.Put path len digest ticket in
    let r = kind.Put made in
    one-added (after actor (Call c (Made made)) past) (records past) r next kept refl same room
    (record-new actor c (Made made) past r within accepted refl numbered (λ j less. accepted-named past (Made made) c r grows refl j less))
call-added actor (Made made) (command.Job core prio read outputs) past next kept within accepted grows numbered room same =
    let c = command.Job core prio read outputs in
    let r = kind.Job made core prio (files_at (names past) read) (length outputs) in
    one-added (after actor (Call c (Made made)) past) (records past) r next kept refl same room
    (record-new actor c (Made made) past r within accepted refl numbered
    (λ j less. accepted-named past (Made made) c r grows refl j less))
call-added actor reply c past next kept within accepted grows numbered room same =
    none-added (after actor (Call c reply) past) (records past) kept (append-nil (records past)) same

act-added : (actor : Actor) (act : Act (Unit {0})) (past : Past) (next : Option Kept) (kept : List Kept) → IsWithin past → CollectsAccepted past →
    IsGrown past act → Numbered (records (after actor act past)) → RoomFor next (added past act) → kept ≡ map (kept_in (after actor act past)) (records past) →
    AddedTo (after actor act past) (next_of act next) kept
act-added actor (Call c reply) past next kept within accepted grows numbered room same = call-added actor reply c past next kept within accepted grows numbered room same
act-added actor act past next kept within accepted grows numbered room same = none-added (after actor act past) (records past) kept refl same

-- ---- one event

room-for : (gc : GcData) (rs : List Record) → HasRoomForAll gc rs → RoomFor gc.next rs
room-for gc [] room = tt
room-for gc (r ∷ rs) room = room

stands-after : (actor : Actor) (act : Act (Unit {0})) (past : Past) (gone : Option FileId) (gc : GcData) → StandsFor gc past → HasRoomForAll gc (added past act) →
    UnnamesOnly past (record { actor = actor; act = act }) gone → NoNewNames past (after actor act past) → IsWithin past → CollectsAccepted past →
    IsGrown past act → Numbered (records (after actor act past)) → StandsFor (gc_after (record { actor = actor; act = act }) gone gc) (after actor act past)
stands-after actor act past gone gc stands room only older within accepted grows numbered =
    let changed = ap (records_after act gone) stands.kept ∙ changed-same actor act past gone stands.numbered only older in
    record {
      kept = act-added actor act past gc.next (records_after act gone gc.kept) within accepted grows numbered (room-for gc (added past act) room) changed;
      seats = ap (map (seat_after (record { actor = actor; act = act }))) stands.seats ∙ seats-after (record { actor = actor; act = act }) past;
      numbered = numbered;
    }

-- nothing is kept of the empty past
pub stands-empty : StandsFor (record { kept = []; seats = map new_seat actors; next = None }) []
stands-empty = record { kept = refl; seats = refl; numbered = λ i r got. absurd (cc) }

-- whether there is a place for a record does not matter
pub stands-same : (old new : GcData) (past : Past) → new.kept ≡ old.kept → new.seats ≡ old.seats → StandsFor old past → StandsFor new past
stands-same old new past kept seats stands = record { kept = kept ∙ stands.kept; seats = seats ∙ stands.seats; numbered = stands.numbered }

-- what stood for a past stands, after an event that the rules permit, for the past with the event
pub noted : {T : Type 0} (header : Header) (event : Event T) (past : List (Event T)) (gone : Option FileId) (gc : GcData) → StandsFor gc (without_tickets past) →
    HasRoomForAll gc (added (without_tickets past) (act_with (λ _. tt) event.act)) → UnnamesOnly (without_tickets past) (event_with (λ _. tt) event) gone →
    all_permitted lawful_judge header (event ∷ past) ≡ true → StandsFor (gc_after (event_with (λ _. tt) event) gone gc) (without_tickets (event ∷ past))
noted header event past gone gc stands room only permitted =
    let before = permitted-before lawful_judge header event past permitted in
    stands-after event.actor (act_with (λ _. tt) event.act) (without_tickets past) gone gc stands room only
    (event-next lawful_judge header event past permitted).named (all-within lawful_judge header past before)
    (collected-within lawful_judge header past before) (last-grows lawful_judge header event past permitted) (past-numbered lawful_judge header (event ∷ past) permitted)
