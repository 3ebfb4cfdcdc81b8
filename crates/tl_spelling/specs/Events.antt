-- Events as a journal spells them, a line each.
use Rattle.std.specs.Prelude.{ℕ, List, [], ◌∷◌, ◌++◌, codes, decimal}
use Rattle.hex.specs.Hex.{encode_lower}
use Rattle.tl_text.specs.File.{file_text}
use Rattle.tl_model.specs.declared.event.Act.{Act}
use Rattle.tl_model.specs.declared.event.Act.TheVariants.{Call, Served, Shut, Claim, Done, Back, Lose, Free, Drop, Load, Save, Saved, Unsave, Collect}
use Rattle.tl_model.specs.declared.event.Event.{Event}
use Rattle.tl_report.specs.Words.{spaced, reply_words}
use Rattle.tl_spelling.specs.Commands.{command_text}

-- what is done, in words; the size and the digest of what was saved are not among them
abbrev pub act_words : Act (List ℕ) → List (List ℕ)
act_words (Call command reply) = codes "call" ∷ reply_words reply ∷ command_text command ∷ []
act_words (Served file digest) = codes "served" ∷ file_text file ∷ encode_lower digest.0 ∷ []
act_words (Shut file) = codes "shut" ∷ file_text file ∷ []
act_words (Claim worker made) = codes "claim" ∷ decimal worker.0 ∷ decimal made.0 ∷ []
act_words (Done worker made) = codes "done" ∷ decimal worker.0 ∷ decimal made.0 ∷ []
act_words (Back made) = codes "back" ∷ decimal made.0 ∷ []
act_words (Lose worker) = codes "lose" ∷ decimal worker.0 ∷ []
act_words (Free file) = codes "free" ∷ file_text file ∷ []
act_words (Drop worker file) = codes "drop" ∷ decimal worker.0 ∷ file_text file ∷ []
act_words (Load worker file) = codes "load" ∷ decimal worker.0 ∷ file_text file ∷ []
act_words (Save file) = codes "save" ∷ file_text file ∷ []
act_words (Saved file size digest) = codes "saved" ∷ file_text file ∷ []
act_words (Unsave file) = codes "unsave" ∷ file_text file ∷ []
act_words (Collect made) = codes "collect" ∷ decimal made.0 ∷ []

-- the actor and what it did
abbrev pub event_text : Event (List ℕ) → List ℕ
event_text event = spaced (decimal event.actor.0 ∷ act_words event.act)
