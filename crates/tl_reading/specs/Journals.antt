-- Which text is a journal, and which line of another text is the first that is in none.
use Rattle.std.specs.Prelude.{◌≡◌, ℕ, ◌-◌, ◌≤◌, List, ◌++◌, length, map, reverse, Result, Ok, Err}
use Rattle.std.specs.List.{All, AllByRecursion, flat_map}
use Rattle.tl_model.specs.declared.event.Event.{Event}
use Rattle.tl_model.specs.declared.header.Header.{Header}
use Rattle.tl_model.specs.declared.header.Version.{Version}
use Rattle.tl_model.specs.declared.header.Version.TheVariants.{One, Two}
use Rattle.tl_model.specs.Journal.{Ledger}
use Rattle.tl_script.specs.Lines.{IsOther}
use Rattle.tl_spelling.specs.Journals.{line_of, spelled_journal}
use Rattle.tl_spelling.specs.Shown.{IsJournal, shown}
use Rattle.tl_reading.specs.declared.journal.ReadError.{ReadError}
use Rattle.tl_reading.specs.declared.journal.ReadError.TheVariants.{Unread, NoMemory}

-- the text is that of a journal of this header and these events
pub record Spells (text : List ℕ) (header : Header) (events : List (Event (List ℕ))) : Type 0 where
  pub journal : IsJournal header events
  pub spelled_so : text ≡ spelled_journal header events

-- how many lines end the events of a journal
abbrev pub end_lines : Version → ℕ
end_lines One = 0
end_lines Two = 1

-- no line feed stands in the line
abbrev pub IsLine : List ℕ → Type 0
IsLine = All (IsOther 10)

-- the lines, a line feed behind each
abbrev pub lines_text : List (List ℕ) → List ℕ
lines_text lines = flat_map line_of lines

-- the text begins with these lines
abbrev pub BeginsWith : List (List ℕ) → List ℕ → Type 0
BeginsWith lines text = (rest : List ℕ) × (text ≡ lines_text lines ++ rest)

-- the text of some journal begins with these lines
abbrev pub BeginJournal : List (List ℕ) → Type 0
BeginJournal lines =
    (header : Header) × (events : List (Event (List ℕ))) × IsJournal header events
    × BeginsWith lines (spelled_journal header events)

-- the text begins with so many lines with which some journal's text begins too
abbrev pub Fits : ℕ → List ℕ → Type 0
Fits count text =
    (lines : List (List ℕ)) × (length lines ≡ count) × AllByRecursion IsLine lines
    × BeginsWith lines text × BeginJournal lines

-- the text is no journal; the lines before this one begin one, and with this one they do not
pub record IsFirstUnread (text : List ℕ) (line : ℕ) : Type 0 where
  pub counted : 1 ≤ line
  pub none : (header : Header) (events : List (Event (List ℕ))) → ¬ Spells text header events
  pub before : Fits (line - 1) text
  pub not_with : ¬ Fits line text

-- why a text is not read: the first line that is in no journal, or want of memory
abbrev pub IsUnread : List ℕ → ReadError → Type 0
IsUnread text (Unread line) = IsFirstUnread text line
IsUnread text NoMemory = Unit {0}

-- the journal is read, unless memory ran out, and each event as its text shows it
abbrev pub ReadsJournal : Result (Ledger (List ℕ)) ReadError → Header → List (Event (List ℕ))
    → Type 0
ReadsJournal (Ok journal) header events =
    (journal.header ≡ header) × (reverse journal.events ≡ map shown events)
ReadsJournal (Err (Unread line)) header events = ⊥
ReadsJournal (Err NoMemory) header events = Unit {0}
