-- Journals as texts: the header's line, a line an event, and in version 2 a line that ends them.
use Rattle.std.specs.Prelude.{ℕ, List, [], ◌∷◌, ◌++◌, codes, decimal, drop, length}
use Rattle.std.specs.List.{flat_map}
use Rattle.tl_model.specs.declared.command.Command.{Command}
use Rattle.tl_model.specs.declared.command.Command.TheVariants.{Put}
use Rattle.tl_model.specs.declared.event.Act.{Act}
use Rattle.tl_model.specs.declared.event.Act.TheVariants.{Call}
use Rattle.tl_model.specs.declared.event.Event.{Event}
use Rattle.tl_model.specs.declared.header.Header.{Header}
use Rattle.tl_model.specs.declared.header.Version.{Version}
use Rattle.tl_model.specs.declared.header.Version.TheVariants.{One, Two}
use Rattle.tl_model.specs.Past.{event_with}
use Rattle.tl_report.specs.Words.{spaced}
use Rattle.tl_script.specs.Script.{order_text}
use Rattle.tl_spelling.specs.Events.{event_text}

abbrev pub version_word : Version → List ℕ
version_word One = codes "1"
version_word Two = codes "2"

-- the numbers of the header, and behind them its order as a script has it
abbrev pub header_text : Header → List ℕ
header_text h =
    spaced (codes "journal" ∷ version_word h.version ∷ codes "workers" ∷ decimal h.workers
    ∷ codes "capacity" ∷ decimal h.capacity ∷ codes "hot" ∷ decimal h.hot ∷ [])
    ++ order_text h.version h.order

-- a text, and the line feed that ends it
abbrev pub line_of : List ℕ → List ℕ
line_of text = text ++ codes "\n"

-- the last line of version 2 says how many events there are
abbrev pub end_text : Version → ℕ → List ℕ
end_text One count = []
end_text Two count = line_of (spaced (codes "end" ∷ decimal count ∷ []))

-- the lines of the events, in their order
abbrev pub event_lines : List (Event (List ℕ)) → List ℕ
event_lines events = flat_map (λ event. line_of (event_text event)) events

-- the text of a journal of these events, the first of them first
abbrev pub spelled_journal : Header → List (Event (List ℕ)) → List ℕ
spelled_journal header events =
    line_of (header_text header) ++ (event_lines events ++ end_text header.version (length events))

-- how many puts an act is
abbrev pub puts_in : {T : Type 0} → Act T → ℕ
puts_in (Call (Put path len digest ticket) reply) = 1
puts_in act = 0

-- the first of the texts, and none of bytes where there is no text
abbrev pub next_source : List (List ℕ) → List ℕ
next_source [] = []
next_source (source ∷ sources) = source

-- the events; in the place of each put's ticket stand its bytes, the first source for the first put
abbrev pub told_by : {T : Type 0} → List (List ℕ) → List (Event T) → List (Event (List ℕ))
told_by sources [] = []
told_by sources (event ∷ events) =
    event_with (λ _. next_source sources) event ∷ told_by (drop (puts_in event.act) sources) events
