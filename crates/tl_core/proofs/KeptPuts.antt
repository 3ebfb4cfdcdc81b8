-- The put of a file is known with its ticket or without.
use Rattle.std.proofs.Common.{◌≡◌, ℕ, Bool, true, false, if◌then◌else◌, List, [], ◌∷◌, Option, Some, option_map, refl, ap, ◌∙◌}
use Rattle.tl_types.specs.Same.{file_same}
use Rattle.tl_types.specs.declared.digest.Digest.{Digest}
use Rattle.tl_types.specs.declared.file_id.FileId.{FileId}
use Rattle.tl_model.specs.declared.command.Command.{Command}
use Rattle.tl_model.specs.declared.command.Command.TheVariants.{Put, Job, Read, Delete, Mkdir, Rename, Pin, Unpin, List as list, Stat, Free as free}
use Rattle.tl_model.specs.declared.reply.Reply.{Reply}
use Rattle.tl_model.specs.declared.reply.Reply.TheVariants.{Made, Fine, Opened, Listed, Stated, Exists, NoSuch, NotFile, NotDir, NotEmpty, TooDeep, IntoItself, TooMany}
use Rattle.tl_model.specs.declared.event.Act.{Act}
use Rattle.tl_model.specs.declared.event.Act.TheVariants.{Call, Served, Shut, Claim, Done, Back, Lose, Free, Drop, Load, Save, Saved, Unsave, Collect}
use Rattle.tl_model.specs.declared.event.Event.{Event}
use Rattle.tl_model.specs.Rules.{put_of, put_as, put_in}
use Rattle.tl_core.specs.Puts.{KeptPut, kept_put, kept_by, kept_after}

abbrev pub length-and-digest : {T : Type 0} → KeptPut T → ℕ × Digest
length-and-digest put = (put.len, put.digest)

put-if : {T : Type 0} (b : Bool) (put : KeptPut T) (o : Option (KeptPut T)) →
    (if b then Some (length-and-digest put) else option_map length-and-digest o) ≡ option_map length-and-digest (if b then Some put else o)
put-if true put o = refl
put-if false put o = refl

put-by : {T : Type 0} (reply : Reply) (command : Command T) (f : FileId) (o : Option (KeptPut T)) →
    put_as reply command f (option_map length-and-digest o) ≡ option_map length-and-digest (kept_by reply command f o)
put-by (Made made) (Put path len digest ticket) f o =
    put-if (file_same f (record { rec = made; out = 0 })) (record { ticket = ticket; len = len; digest = digest }) o
put-by (Made made) (Job core prio inputs outputs) f o = refl
put-by (Made made) (Read path prio form) f o = refl
put-by (Made made) (Delete path) f o = refl
put-by (Made made) (Mkdir path) f o = refl
put-by (Made made) (Rename from to) f o = refl
put-by (Made made) (Pin path) f o = refl
put-by (Made made) (Unpin path) f o = refl
put-by (Made made) (list path) f o = refl
put-by (Made made) (Stat path) f o = refl
put-by (Made made) (free path) f o = refl
put-by Fine command f o = refl
put-by (Opened g) command f o = refl
put-by (Listed entries) command f o = refl
put-by (Stated status) command f o = refl
put-by Exists command f o = refl
put-by NoSuch command f o = refl
put-by NotFile command f o = refl
put-by NotDir command f o = refl
put-by NotEmpty command f o = refl
put-by TooDeep command f o = refl
put-by IntoItself command f o = refl
put-by TooMany command f o = refl

put-after : {T : Type 0} (act : Act T) (f : FileId) (o : Option (KeptPut T)) →
    put_in act f (option_map length-and-digest o) ≡ option_map length-and-digest (kept_after act f o)
put-after (Call command reply) f o = put-by reply command f o
put-after (Served file digest) f o = refl
put-after (Shut file) f o = refl
put-after (Claim worker made) f o = refl
put-after (Done worker made) f o = refl
put-after (Back made) f o = refl
put-after (Lose worker) f o = refl
put-after (Free file) f o = refl
put-after (Drop worker file) f o = refl
put-after (Load worker file) f o = refl
put-after (Save file) f o = refl
put-after (Saved file size digest) f o = refl
put-after (Unsave file) f o = refl
put-after (Collect made) f o = refl

-- the put of a file is known with its ticket or without
pub put_of-kept : {T : Type 0} (events : List (Event T)) (f : FileId) → put_of events f ≡ option_map length-and-digest (kept_put events f)
put_of-kept [] f = refl
put_of-kept (e ∷ events) f = ap (put_in e.act f) (put_of-kept events f) ∙ put-after e.act f (kept_put events f)
