-- A reply as its first word, and what stands behind the word's space.
use Rattle.std.specs.Prelude.{ℕ, Bool, if◌then◌else◌, List, [], ◌∷◌, ◌++◌, codes, decimal, length}
use Rattle.tl_text.specs.File.{file_text}
use Rattle.tl_model.specs.declared.reply.Entry.{Entry}
use Rattle.tl_model.specs.declared.reply.Reply.{Reply}
use Rattle.tl_model.specs.declared.reply.Reply.TheVariants as reply
use Rattle.tl_model.specs.declared.reply.Status.{Status}
use Rattle.tl_model.specs.declared.reply.Status.TheVariants.{File, Dir}
use Rattle.tl_report.specs.Words.{entry_word}
use Rattle.tl_reading.specs.declared.saying.Saying.{Saying}
use Rattle.tl_reading.specs.declared.saying.Saying.TheVariants as saying

abbrev pub saying_text : Saying → List ℕ
saying_text saying.Made = codes "made"
saying_text saying.Fine = codes "ok"
saying_text saying.Opened = codes "open"
saying_text saying.Listed = codes "list"
saying_text saying.Stated = codes "stat"
saying_text saying.Exists = codes "exists"
saying_text saying.NoSuch = codes "nosuch"
saying_text saying.NotFile = codes "notfile"
saying_text saying.NotDir = codes "notdir"
saying_text saying.NotEmpty = codes "notempty"
saying_text saying.TooDeep = codes "toodeep"
saying_text saying.IntoItself = codes "intoitself"
saying_text saying.TooMany = codes "toomany"

abbrev pub saying_of : Reply → Saying
saying_of (reply.Made made) = saying.Made
saying_of reply.Fine = saying.Fine
saying_of (reply.Opened file) = saying.Opened
saying_of (reply.Listed entries) = saying.Listed
saying_of (reply.Stated status) = saying.Stated
saying_of reply.Exists = saying.Exists
saying_of reply.NoSuch = saying.NoSuch
saying_of reply.NotFile = saying.NotFile
saying_of reply.NotDir = saying.NotDir
saying_of reply.NotEmpty = saying.NotEmpty
saying_of reply.TooDeep = saying.TooDeep
saying_of reply.IntoItself = saying.IntoItself
saying_of reply.TooMany = saying.TooMany

-- whether the file is pinned
abbrev pub pin_text : Bool → List ℕ
pin_text pinned = if pinned then codes "pinned" else codes "loose"

-- the names, a space behind each, and then more
abbrev pub listed : List Entry → List ℕ → List ℕ
listed [] more = more
listed (entry ∷ entries) more = entry_word entry ++ 0x20 ∷ listed entries more

-- what a path names, a space, and then more
abbrev pub status_and : Status → List ℕ → List ℕ
status_and (File file pinned) more =
    codes "file " ++ (file_text file ++ 0x20 ∷ (pin_text pinned ++ 0x20 ∷ more))
status_and (Dir children) more = codes "dir " ++ (decimal children ++ 0x20 ∷ more)

-- where a space and more follow the reply, what stands behind its first word and a space
abbrev pub behind : Reply → List ℕ → List ℕ
behind (reply.Made made) more = decimal made.0 ++ 0x20 ∷ more
behind (reply.Opened file) more = file_text file ++ 0x20 ∷ more
behind (reply.Listed entries) more = decimal (length entries) ++ 0x20 ∷ listed entries more
behind (reply.Stated status) more = status_and status more
behind said more = more
