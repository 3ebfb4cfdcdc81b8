-- How often each kind of event stands in a journal, and the line that says so.
use Rattle.std.specs.Prelude.{ℕ, Bool, true, false, List, [], ◌∷◌, ◌++◌, codes, count_by}
use Rattle.std.specs.Fmt.{decimal}
use Rattle.serde_json.specs.Data as json
use Rattle.serde_json.specs.Data.{Members, no_members, number, unsigned}
use Rattle.tl_model.specs.declared.event.Act.{Act}
use Rattle.tl_model.specs.declared.event.Act.TheVariants as act
use Rattle.tl_model.specs.declared.event.Event.{Event}
use Rattle.tl_model.specs.declared.reply.Reply.{Reply}
use Rattle.tl_model.specs.declared.reply.Reply.TheVariants.{Made}
use Rattle.tl_report.specs.declared.tally.Key.{Key}
use Rattle.tl_report.specs.declared.tally.Key.TheVariants.{Calls, Claims, Collected, Done, Drops, Loads, Losses, Records, Saved, Served}

abbrev pub is_made : Reply → Bool
is_made (Made made) = true
is_made _ = false

-- whether the key counts the act
abbrev pub counts : {T : Type 0} → Key → Act T → Bool
counts Calls (act.Call command reply) = true
counts Claims (act.Claim worker id) = true
counts Collected (act.Collect id) = true
counts Done (act.Done worker id) = true
counts Drops (act.Drop worker file) = true
counts Loads (act.Load worker file) = true
counts Losses (act.Lose worker) = true
counts Records (act.Call command reply) = is_made reply
counts Saved (act.Saved file len digest) = true
counts Served (act.Served file digest) = true
counts _ _ = false

abbrev pub how_many : {T : Type 0} → Key → List (Event T) → ℕ
how_many key events = count_by (λ event. counts key event.act) events

abbrev pub key_word : Key → List ℕ
key_word Calls = codes "calls"
key_word Claims = codes "claims"
key_word Collected = codes "collected"
key_word Done = codes "done"
key_word Drops = codes "drops"
key_word Loads = codes "loads"
key_word Losses = codes "losses"
key_word Records = codes "records"
key_word Saved = codes "saved"
key_word Served = codes "served"

-- the key between quote marks, a colon, and its count
abbrev pub member : (Key → ℕ) → Key → List ℕ
member count key = codes "\"" ++ (key_word key ++ (codes "\":" ++ decimal (count key)))

-- the members, a comma between, and the closing brace
abbrev pub members_text : (Key → ℕ) → List Key → List ℕ
members_text count [] = codes "}"
members_text count (key ∷ []) = member count key ++ codes "}"
members_text count (key ∷ next ∷ keys) = member count key ++ 0x2C ∷ members_text count (next ∷ keys)

-- the keys in the order of their bytes
abbrev pub keys : List Key
keys = Calls ∷ Claims ∷ Collected ∷ Done ∷ Drops ∷ Loads ∷ Losses ∷ Records ∷ Saved ∷ Served ∷ []

-- a JSON object without spaces
abbrev pub object_text : (Key → ℕ) → List ℕ
object_text count = codes "{" ++ members_text count keys

-- the object of the counts, and a line feed
abbrev pub summary : {T : Type 0} → List (Event T) → List ℕ
summary events = object_text (λ key. how_many key events) ++ codes "\n"

-- the same object as the JSON library has it
abbrev pub members : (Key → ℕ) → List Key → Members
members count [] = no_members
members count (key ∷ keys) = json.member (key_word key) (number (unsigned (count key))) (members count keys)
