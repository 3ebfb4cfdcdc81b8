-- What is printed for an answer: words with one space between, and the line that they stand in.
use Rattle.std.specs.Prelude.{ℕ, if◌then◌else◌, List, [], ◌∷◌, ◌++◌, length, map, codes, Option, Some, None, Result, Ok, Err}
use Rattle.std.specs.Fmt.{decimal}
use Rattle.hex.specs.Hex.{encode_lower}
use Rattle.tl_types.specs.Outcome.{digest_of}
use Rattle.tl_types.specs.declared.file_id.FileId.{FileId}
use Rattle.tl_types.specs.declared.outcome.Outcome.{Outcome}
use Rattle.tl_types.specs.declared.outcome.Outcome.TheVariants.{Value, Fault}
use Rattle.tl_text.specs.File.{file_text}
use Rattle.tl_text.specs.Quoted.{quoted}
use Rattle.tl_model.specs.declared.answer.Answer.{Answer}
use Rattle.tl_model.specs.declared.answer.Answer.TheVariants.{Said, Read, NotYet, Count, Lost, Peeked}
use Rattle.tl_model.specs.declared.answer.ClientError.{ClientError}
use Rattle.tl_model.specs.declared.answer.ClientError.TheVariants.{StoreFault, Damaged, NoMemory}
use Rattle.tl_model.specs.declared.answer.Counted.{Counted}
use Rattle.tl_model.specs.declared.answer.Counted.TheVariants.{Work, Save, Collect}
use Rattle.tl_model.specs.declared.answer.Damage.{Damage}
use Rattle.tl_model.specs.declared.command.Form.{Form}
use Rattle.tl_model.specs.declared.command.Form.TheVariants.{Cat, Sum, Try}
use Rattle.tl_model.specs.declared.reply.Entry.{Entry}
use Rattle.tl_model.specs.declared.reply.Reply.{Reply}
use Rattle.tl_model.specs.declared.reply.Reply.TheVariants.{Made, Fine, Opened, Listed, Stated, Exists, NoSuch, NotFile, NotDir, NotEmpty, TooDeep, IntoItself, TooMany}
use Rattle.tl_model.specs.declared.reply.Status.{Status}
use Rattle.tl_model.specs.declared.reply.Status.TheVariants.{File, Dir}

-- the words with a space between
abbrev pub spaced : List (List ℕ) → List ℕ
spaced [] = []
spaced (word ∷ []) = word
spaced (word ∷ next ∷ words) = word ++ 0x20 ∷ spaced (next ∷ words)

-- a child's name, with `/` after a directory's
abbrev pub entry_word : Entry → List ℕ
entry_word entry = entry.name ++ (if entry.dir then codes "/" else [])

-- what a path names
abbrev pub status_words : Status → List ℕ
status_words (File file pinned) = spaced (codes "stat" ∷ codes "file" ∷ file_text file ∷ (if pinned then codes "pinned" else codes "loose") ∷ [])
status_words (Dir children) = spaced (codes "stat" ∷ codes "dir" ∷ decimal children ∷ [])

-- what the namespace replies
abbrev pub reply_words : Reply → List ℕ
reply_words (Made made) = spaced (codes "made" ∷ decimal made.0 ∷ [])
reply_words Fine = codes "ok"
reply_words (Opened file) = spaced (codes "open" ∷ file_text file ∷ [])
reply_words (Listed entries) = spaced (codes "list" ∷ decimal (length entries) ∷ map entry_word entries)
reply_words (Stated status) = status_words status
reply_words Exists = codes "exists"
reply_words NoSuch = codes "nosuch"
reply_words NotFile = codes "notfile"
reply_words NotDir = codes "notdir"
reply_words NotEmpty = codes "notempty"
reply_words TooDeep = codes "toodeep"
reply_words IntoItself = codes "intoitself"
reply_words TooMany = codes "toomany"

-- the bytes of a file, as its reader asked for them: quoted, or their digest
abbrev pub value_word : Form → List ℕ → List ℕ
value_word Cat bytes = quoted bytes
value_word Sum bytes = encode_lower (digest_of (Value bytes))
value_word Try bytes = quoted bytes

-- what a file holds: its length and its bytes, or its fault's code
abbrev pub outcome_words : Form → FileId → Outcome → List ℕ
outcome_words form file (Value bytes) = spaced (codes "file" ∷ file_text file ∷ decimal (length bytes) ∷ value_word form bytes ∷ [])
outcome_words form file (Fault code) = spaced (codes "failed" ∷ file_text file ∷ decimal code ∷ [])

abbrev pub counted_word : Counted → List ℕ
counted_word Work = codes "work"
counted_word Save = codes "save"
counted_word Collect = codes "collect"

-- what a client is answered
abbrev pub answer_words : Form → Answer → List ℕ
answer_words form (Said at reply) = reply_words reply
answer_words form (Read at block) = outcome_words form block.file block.outcome
answer_words form (NotYet at file) = spaced (codes "notyet" ∷ file_text file ∷ [])
answer_words form (Count counted n) = spaced (counted_word counted ∷ decimal n ∷ [])
answer_words form (Lost worker) = spaced (codes "lose" ∷ decimal worker.0 ∷ [])
answer_words form (Peeked publishes reply) = spaced (codes "peek" ∷ decimal publishes ∷ reply_words reply ∷ [])

-- the length and digest that were kept, and those that came
abbrev pub damage_words : Damage → List ℕ
damage_words damage = spaced (decimal damage.kept_len ∷ encode_lower damage.kept.0 ∷ decimal damage.got_len ∷ encode_lower damage.got.0 ∷ [])

-- why a client was not answered; want of memory has no words
abbrev pub error_words : ClientError → List ℕ
error_words (StoreFault at) = codes "fault store"
error_words (Damaged at damage) = spaced (codes "fault" ∷ codes "damage" ∷ damage_words damage ∷ [])
error_words NoMemory = []

abbrev pub words_of : Form → Result Answer ClientError → List ℕ
words_of form (Ok answer) = answer_words form answer
words_of form (Err error) = error_words error

-- the number of the call, where one stands in the history
abbrev pub answer_number : Answer → Option ℕ
answer_number (Said at reply) = Some at
answer_number (Read at block) = Some at
answer_number (NotYet at file) = Some at
answer_number (Count counted n) = None
answer_number (Lost worker) = None
answer_number (Peeked publishes reply) = None

abbrev pub error_number : ClientError → Option ℕ
error_number (StoreFault at) = at
error_number (Damaged at damage) = at
error_number NoMemory = None

abbrev pub number_of : Result Answer ClientError → Option ℕ
number_of (Ok answer) = answer_number answer
number_of (Err error) = error_number error

-- the number, or `-` where there is none
abbrev pub number_word : Option ℕ → List ℕ
number_word (Some n) = decimal n
number_word None = codes "-"

-- the call's number, the client, the words, and a line feed
abbrev pub transcript_line : ℕ → Result Answer ClientError → Form → List ℕ
transcript_line client said form = spaced (number_word (number_of said) ∷ decimal client ∷ words_of form said ∷ []) ++ codes "\n"
