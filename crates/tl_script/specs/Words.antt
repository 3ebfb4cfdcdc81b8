-- The words of a command.
use Rattle.std.specs.Prelude.{ℕ, List, codes, bytes_eq, Option}
use Rattle.std.specs.Map.{lookup}
use Rattle.tl_script.specs.declared.word.Verb.{Verb}
use Rattle.tl_script.specs.declared.word.Verb.TheVariants as verb
use Rattle.tl_script.specs.declared.word.Mark.{Mark}
use Rattle.tl_script.specs.declared.word.Mark.TheVariants as mark

-- the word that a command begins with
abbrev pub verb_text : Verb → List ℕ
verb_text verb.Put = codes "put"
verb_text verb.Job = codes "job"
verb_text verb.Cat = codes "cat"
verb_text verb.Sum = codes "sum"
verb_text verb.Try = codes "try"
verb_text verb.Delete = codes "delete"
verb_text verb.Mkdir = codes "mkdir"
verb_text verb.Rename = codes "rename"
verb_text verb.Pin = codes "pin"
verb_text verb.Unpin = codes "unpin"
verb_text verb.List = codes "list"
verb_text verb.Stat = codes "stat"
verb_text verb.Free = codes "free"
verb_text verb.Lose = codes "lose"
verb_text verb.Work = codes "work"

-- the words between the arguments of a job
abbrev pub mark_text : Mark → List ℕ
mark_text mark.Conf = codes "conf"
mark_text mark.In = codes "in"
mark_text mark.Out = codes "out"
mark_text mark.Run = codes "run"

-- the word beside these bytes
abbrev pub found_in : List (List ℕ × Verb) → List ℕ → Option Verb
found_in table word = lookup (λ spelled. bytes_eq spelled word) table
