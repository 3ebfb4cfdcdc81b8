-- What is kept stands for the past with one event more.
use Rattle.std.proofs.Common.{◌≡◌, ◌∙◌, arith, ℕ, suc, ◌<◌, ◌≤◌, ◌^◌, true, List, [], ◌∷◌, ◌++◌, length, map, Option, Some, None, refl, sym, ap, subst, append-nil}
use Rattle.std.specs.List.{AllByRecursion}
use Rattle.tl_types.specs.declared.actor.Actor.{Actor}
use Rattle.tl_types.specs.declared.file_id.FileId.{FileId}
use Rattle.tl_model.specs.declared.header.Header.{Header}
use Rattle.tl_model.specs.declared.command.Command.{Command}
use Rattle.tl_model.specs.declared.command.Command.TheVariants as command
use Rattle.tl_model.specs.declared.reply.Reply.{Reply}
use Rattle.tl_model.specs.declared.reply.Reply.TheVariants.{Made}
use Rattle.tl_model.specs.declared.event.Act.{Act}
use Rattle.tl_model.specs.declared.event.Act.TheVariants.{Call}
use Rattle.tl_model.specs.declared.record.Record.{Record}
use Rattle.tl_model.specs.declared.record.Record.TheVariants as kind
use Rattle.tl_model.specs.declared.event.Event.{Event}
use Rattle.tl_model.specs.Past.{Past, act_with, event_with, without_tickets}
use Rattle.tl_model.specs.Rules.{Judge, all_permitted, lawful_judge}
use Rattle.tl_model.specs.History.{files_at, inputs_of, names, record_made, records}
use Rattle.tl_model.specs.Actors.{actors}
use Rattle.tl_laws.specs.Numbers.{Numbered}
use Rattle.tl_laws.specs.Order.{HasOlderInputs}
use Rattle.tl_laws.proofs.Growing.{IsGrown, last-grows}
use Rattle.tl_laws.proofs.Order.{all-ordered}
use Rattle.tl_laws.proofs.Tickets.{records-with}
use Rattle.tl_laws_needs.proofs.Next.{event-next}
use Rattle.tl_laws_needs.proofs.Sound.{past-numbered, permitted-before}
use Rattle.tl_steps.specs.Steps.{UnnamesOnly, added, next_of}
use Rattle.tl_steps.specs.Within.{IsWithin}
use Rattle.tl_steps.proofs.Files.{after}
use Rattle.tl_steps.proofs.Lists.{map_append}
use Rattle.tl_steps.proofs.Named.{NoNewNames, accepted-named}
use Rattle.tl_steps.proofs.Within.{all-within}
use Rattle.tl_edge.specs.declared.kept.Kept.{Kept}
use Rattle.tl_edge.specs.declared.output.Output.{Output}
use Rattle.tl_edge.specs.Data.{EdgeData, edge_after, files_after, new_save, next_number, save_next, taken_up, with_files, with_inputs}
use Rattle.tl_edge.specs.Standing.{HasRoomForAll, StandsFor, files_in, kept_of, outputs_in}
use Rattle.tl_edge.proofs.Changes.{RoomFor, files-same, next-is, outputs-new, saves-after}

-- the records and their files, once those are added that an event adds
abbrev AddedTo : Past → Option Kept → List (List FileId) → List (List Output) → Type 0
AddedTo now next inputs files = (with_inputs next inputs ≡ map inputs_of (records now)) × (with_files next files ≡ files_in now (records now))

none-added : (now : Past) (rs : List Record) (inputs : List (List FileId)) (files : List (List Output)) → records now ≡ rs → inputs ≡ map inputs_of rs → files ≡ files_in now rs →
    AddedTo now None inputs files
none-added now rs inputs files is same_inputs same_files =
    (same_inputs ∙ ap (map inputs_of) (sym is), same_files ∙ ap (files_in now) (sym is))

one-added : (now : Past) (rs : List Record) (r : Record) (next : Option Kept) (inputs : List (List FileId)) (files : List (List Output)) → records now ≡ rs ++ r ∷ [] →
    inputs ≡ map inputs_of rs → files ≡ files_in now rs → next ≡ Some (kept_of r) → (kept_of r).outputs ≡ outputs_in now r → AddedTo now next inputs files
one-added now rs r next inputs files is same_inputs same_files room outputs = (
  ap (λ o. with_inputs o inputs) room
      ∙ ap (λ xs. xs ++ inputs_of r ∷ []) same_inputs
      ∙ sym (map_append inputs_of rs (r ∷ []))
      ∙ ap (map inputs_of) (sym is),
  ap (λ o. with_files o files) room
      ∙ (λ i. same_files i ++ outputs i ∷ [])
      ∙ sym (map_append (outputs_in now) rs (r ∷ []))
      ∙ ap (files_in now) (sym is),
)

call-added : (actor : Actor) (reply : Reply) (c : Command (Unit {0})) (past : Past) (next : Option Kept) (inputs : List (List FileId)) (files : List (List Output)) → IsWithin past →
    IsGrown past (Call c reply) → Numbered (records (after actor (Call c reply) past)) → AllByRecursion HasOlderInputs (records (after actor (Call c reply) past)) → RoomFor next (record_made reply c (names past)) →
    inputs ≡ map inputs_of (records past) → files ≡ files_in (after actor (Call c reply) past) (records past) →
    AddedTo (after actor (Call c reply) past) (next_of (Call c reply) next) inputs files
call-added actor (Made made) (command.Put path len digest ticket) past next inputs files within grows numbered older room same_inputs same_files =
    let c = command.Put path len digest ticket in
    let r = kind.Put made in
    one-added (after actor (Call c (Made made)) past) (records past) r next inputs files refl same_inputs same_files room
    (outputs-new actor c (Made made) past r within refl numbered older (λ j less. accepted-named past (Made made) c r grows refl j less))
call-added actor (Made made) (command.Job core prio read outputs) past next inputs files within grows numbered older room same_inputs same_files =
    let c = command.Job core prio read outputs in
    let r = kind.Job made core prio (files_at (names past) read) (length outputs) in
    one-added (after actor (Call c (Made made)) past) (records past) r next inputs files refl same_inputs same_files room
    (outputs-new actor c (Made made) past r within refl numbered older (λ j less. accepted-named past (Made made) c r grows refl j less))
call-added actor reply c past next inputs files within grows numbered older room same_inputs same_files =
    none-added (after actor (Call c reply) past) (records past) inputs files (append-nil (records past)) same_inputs same_files

act-added : (actor : Actor) (act : Act (Unit {0})) (past : Past) (next : Option Kept) (inputs : List (List FileId)) (files : List (List Output)) → IsWithin past →
    IsGrown past act → Numbered (records (after actor act past)) → AllByRecursion HasOlderInputs (records (after actor act past)) → RoomFor next (added past act) →
    inputs ≡ map inputs_of (records past) → files ≡ files_in (after actor act past) (records past) → AddedTo (after actor act past) (next_of act next) inputs files
act-added actor (Call c reply) past next inputs files within grows numbered older room same_inputs same_files =
    call-added actor reply c past next inputs files within grows numbered older room same_inputs same_files
act-added actor act past next inputs files within grows numbered older room same_inputs same_files =
    none-added (after actor act past) (records past) inputs files refl same_inputs same_files

room-for : (edge : EdgeData) (rs : List Record) → HasRoomForAll edge rs → RoomFor edge.next rs
room-for edge [] room = tt
room-for edge (r ∷ rs) room = room

-- what stood for a past stands, after an event, for the past with the event
pub stands-after : (header : Header) (actor : Actor) (act : Act (Unit {0})) (past : Past) (gone : Option FileId) (edge : EdgeData) → StandsFor header edge past →
    HasRoomForAll edge (added past act) → UnnamesOnly past (record { actor = actor; act = act }) gone → NoNewNames past (after actor act past) → IsWithin past →
    IsGrown past act → Numbered (records (after actor act past)) → AllByRecursion HasOlderInputs (records (after actor act past)) → length (after actor act past) < 2 ^ 64 →
    StandsFor header (edge_after (record { actor = actor; act = act }) gone edge) (after actor act past)
stands-after header actor act past gone edge stands room only names_older within grows numbered older few =
    let now = after actor act past in
    let few_now : suc (length past) < 2 ^ 64 = few in
    let place = room-for edge (added past act) room in
    let changed : List (List Output) = taken_up (next_of act edge.next) (files_after edge.inputs edge.count gone act edge.files) in
    let files : changed ≡ files_in now (records past) =
    (λ i. taken_up (next_of act edge.next) (files_after (stands.inputs i) (stands.count i) gone act (stands.files i)))
    ∙ files-same edge.next gone actor act past within.numbered place only names_older few_now in
    let all = act-added actor act past edge.next edge.inputs changed within grows numbered older place stands.inputs files in
    let le : length past ≤ length past = omega arith in
    record {
      inputs = all.0;
      files = all.1;
      saves = ap (map (save_next (record { actor = actor; act = act }))) stands.saves ∙ saves-after (record { actor = actor; act = act }) past;
      count = ap (λ n. next_number n) stands.count ∙ next-is (length past) (length past) le few_now ∙ omega arith;
      hot = stands.hot;
    }

-- nothing is kept of the empty past
pub stands-empty : (header : Header) (n : ℕ) → n ≡ header.hot → StandsFor header (record { inputs = []; files = []; saves = map new_save actors; count = 0; hot = n; next = None }) []
stands-empty header n hot = record { inputs = refl; files = refl; saves = refl; count = refl; hot = hot }

-- whether there is a place for a record does not matter
pub stands-same : (header : Header) (old new : EdgeData) (past : Past) → new.inputs ≡ old.inputs → new.files ≡ old.files → new.saves ≡ old.saves → new.count ≡ old.count → new.hot ≡ old.hot →
    StandsFor header old past → StandsFor header new past
stands-same header old new past inputs files saves count hot stands = record {
  inputs = inputs ∙ stands.inputs;
  files = files ∙ stands.files;
  saves = saves ∙ stands.saves;
  count = count ∙ stands.count;
  hot = hot ∙ stands.hot;
}

older-inputs : {T : Type 0} (judge : Judge T) (header : Header) (events : List (Event T)) → all_permitted judge header events ≡ true →
    AllByRecursion HasOlderInputs (records (without_tickets events))
older-inputs judge header events ok = subst (AllByRecursion HasOlderInputs) (sym (records-with (λ _. tt) events)) (all-ordered judge header events ok).older

-- the same of an event that the rules permit
pub noted : {T : Type 0} (header : Header) (event : Event T) (past : List (Event T)) (gone : Option FileId) (edge : EdgeData) → StandsFor header edge (without_tickets past) →
    HasRoomForAll edge (added (without_tickets past) (act_with (λ _. tt) event.act)) → UnnamesOnly (without_tickets past) (event_with (λ _. tt) event) gone →
    all_permitted lawful_judge header (event ∷ past) ≡ true → length (event ∷ past) < 2 ^ 64 →
    StandsFor header (edge_after (event_with (λ _. tt) event) gone edge) (without_tickets (event ∷ past))
noted header event past gone edge stands room only permitted few =
    let before = permitted-before lawful_judge header event past permitted in
    stands-after header event.actor (act_with (λ _. tt) event.act) (without_tickets past) gone edge stands room only
    (event-next lawful_judge header event past permitted).named (all-within lawful_judge header past before)
    (last-grows lawful_judge header event past permitted) (past-numbered lawful_judge header (event ∷ past) permitted) (older-inputs lawful_judge header (event ∷ past) permitted)
    (subst (λ (n : ℕ). n < 2 ^ 64) (sym (without-length (event ∷ past))) few)
  where
    without-length : {T : Type 0} (events : List (Event T)) → length (without_tickets events) ≡ length events
    without-length [] = refl
    without-length (e ∷ events) = ap suc (without-length events)
