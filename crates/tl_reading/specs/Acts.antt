-- An act as its word, and what stands behind the word's space.
use Rattle.std.specs.Prelude.{ℕ, List, ◌∷◌, ◌++◌, bytes_eq, codes, decimal, Option}
use Rattle.std.specs.Map.{lookup}
use Rattle.hex.specs.Hex.{encode_lower}
use Rattle.tl_text.specs.File.{file_text}
use Rattle.tl_model.specs.declared.event.Act.{Act}
use Rattle.tl_model.specs.declared.event.Act.TheVariants as act
use Rattle.tl_report.specs.Words.{reply_words}
use Rattle.tl_spelling.specs.Commands.{command_text}
use Rattle.tl_reading.specs.declared.deed.Deed.{Deed}
use Rattle.tl_reading.specs.declared.deed.Deed.TheVariants as deed

abbrev pub deed_text : Deed → List ℕ
deed_text deed.Call = codes "call"
deed_text deed.Served = codes "served"
deed_text deed.Shut = codes "shut"
deed_text deed.Claim = codes "claim"
deed_text deed.Done = codes "done"
deed_text deed.Back = codes "back"
deed_text deed.Lose = codes "lose"
deed_text deed.Free = codes "free"
deed_text deed.Drop = codes "drop"
deed_text deed.Load = codes "load"
deed_text deed.Save = codes "save"
deed_text deed.Saved = codes "saved"
deed_text deed.Unsave = codes "unsave"
deed_text deed.Collect = codes "collect"

-- what stands beside these bytes
abbrev pub found_in : {T : Type 0} → List (List ℕ × T) → List ℕ → Option T
found_in table word = lookup (λ spelled. bytes_eq spelled word) table

abbrev pub deed_of : Act (List ℕ) → Deed
deed_of (act.Call command reply) = deed.Call
deed_of (act.Served file digest) = deed.Served
deed_of (act.Shut file) = deed.Shut
deed_of (act.Claim worker made) = deed.Claim
deed_of (act.Done worker made) = deed.Done
deed_of (act.Back made) = deed.Back
deed_of (act.Lose worker) = deed.Lose
deed_of (act.Free file) = deed.Free
deed_of (act.Drop worker file) = deed.Drop
deed_of (act.Load worker file) = deed.Load
deed_of (act.Save file) = deed.Save
deed_of (act.Saved file size digest) = deed.Saved
deed_of (act.Unsave file) = deed.Unsave
deed_of (act.Collect made) = deed.Collect

-- what stands behind the word and a space
abbrev pub about : Act (List ℕ) → List ℕ
about (act.Call command reply) = reply_words reply ++ 0x20 ∷ command_text command
about (act.Served file digest) = file_text file ++ 0x20 ∷ encode_lower digest.0
about (act.Shut file) = file_text file
about (act.Claim worker made) = decimal worker.0 ++ 0x20 ∷ decimal made.0
about (act.Done worker made) = decimal worker.0 ++ 0x20 ∷ decimal made.0
about (act.Back made) = decimal made.0
about (act.Lose worker) = decimal worker.0
about (act.Free file) = file_text file
about (act.Drop worker file) = decimal worker.0 ++ 0x20 ∷ file_text file
about (act.Load worker file) = decimal worker.0 ++ 0x20 ∷ file_text file
about (act.Save file) = file_text file
about (act.Saved file size digest) = file_text file
about (act.Unsave file) = file_text file
about (act.Collect made) = decimal made.0
