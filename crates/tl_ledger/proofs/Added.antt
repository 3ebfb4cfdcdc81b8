-- The record that a call adds is the one that was made ready for it.
use Rattle.std.proofs.Common.{◌≡◌, ◌<◌, ℕ, Bool, true, false, List, [], ◌∷◌, length, Option, Some, None, Result, Ok, Err, refl, sym, ap, ◌∙◌}
use Rattle.std.proofs.lemmas.Bool.{leb-false}
use Rattle.tl_types.specs.Same.{record_same-Decides}
use Rattle.tl_types.specs.declared.file_id.FileId.{FileId}
use Rattle.tl_types.specs.declared.record_id.RecordId.{RecordId}
use Rattle.tl_model.specs.declared.command.Command.{Command}
use Rattle.tl_model.specs.declared.command.Command.TheVariants.{Put, Job, Read, Delete, Mkdir, Rename, Pin, Unpin, List as list, Stat, Free as free}
use Rattle.tl_model.specs.declared.event.Act.{Act}
use Rattle.tl_model.specs.declared.event.Act.TheVariants.{Call, Served, Shut, Claim, Done, Back, Lose, Free, Drop, Load, Save, Saved, Unsave, Collect}
use Rattle.tl_model.specs.declared.record.Record.{Record}
use Rattle.tl_model.specs.declared.record.Record.TheVariants as kind
use Rattle.tl_model.specs.declared.reply.Reply.{Reply}
use Rattle.tl_model.specs.declared.reply.Reply.TheVariants.{Made, Fine, Opened, Listed, Stated, Exists, NoSuch, NotFile, NotDir, NotEmpty, TooDeep, IntoItself, TooMany}
use Rattle.tl_model.specs.History.{file_at, files_at, id_of, names, record_made}
use Rattle.tl_model.specs.Namespace.{Names, PathOf, node_at}
use Rattle.tl_model.specs.Past.{Past, command_with}
use Rattle.tl_model.specs.Replies.{count_refusal, inputs_refusal, new_refusal, or_else, outputs_refusal, refusal_of, refuse_where, reply_same, reply_to, walk_to_file}
use Rattle.tl_model.specs.Rules.{ok_file}
use Rattle.tl_laws.proofs.Paths.{walk_to_file-finds}
use Rattle.tl_laws.proofs.Refusals.{inputs-refuse, inputs-unrefused, job_made, new_refusal-refuses, or_else-refuses, outputs-refuse, put_made, refuse_where-refuses, unrefused}
use Rattle.tl_steps.specs.Steps.{accepts, accepts_with, added}
use Rattle.tl_prio.specs.Data.{OrderData}
use Rattle.tl_prio.specs.Standing.{StandsBefore, StandsFor}
use Rattle.tl_ledger.specs.Naming.{files_named, record_for, with_found}
use Rattle.tl_ledger.specs.Parts.{HaveRoom, IsAtHand, PartsData, list_of}

-- ---- inputs

found-named : (names : Names) (path : PathOf) (files : List FileId) (x : Result FileId Reply) (later : Option Reply) → walk_to_file names path ≡ x →
    or_else (refusal_of x) later ≡ None → (with_found (ok_file x) files ≡ file_at (node_at names path) files) × (later ≡ None)
found-named names path files (Ok f) later e is =
    let found = walk_to_file-finds names path f e in (sym (ap (λ o. file_at o files) found.1), is)
found-named names path files (Err r) later e is = absurd (cc)

-- where no input is refused, what the walks find is what the paths name
pub files-named : (names : Names) (paths : List PathOf) → inputs_refusal names paths ≡ None → files_named names paths ≡ files_at names paths
files-named names [] is = refl
files-named names (path ∷ paths) is =
    let one = found-named names path (files_named names paths) (walk_to_file names path) (inputs_refusal names paths) refl is in
    one.0 ∙ ap (file_at (node_at names path)) (files-named names paths one.1)

-- ---- numbers

second-none : (a b : Option Reply) → or_else a b ≡ None → b ≡ None
second-none None b h = h
second-none (Some r) b h = absurd (cc)

where-none : (b : Bool) (r : Reply) → refuse_where b r ≡ None → b ≡ false
where-none true r h = absurd (cc)
where-none false r h = refl

-- what isn't refused for its count has room for one more
uncounted : (count : ℕ) → count_refusal count ≡ None → count < 1048576
uncounted count h = leb-false 1048576 count (where-none _ TooMany h)

pub put-below : {T : Type 0} (names : Names) (count : ℕ) (path : PathOf) (len : ℕ) (digest : _) (ticket : T) (made : RecordId) →
    reply_to names count (Put path len digest ticket) ≡ Made made → count < 1048576
put-below names count path len digest ticket made is =
    uncounted count (second-none (new_refusal names path) (count_refusal count)
    (unrefused (or_else (new_refusal names path) (count_refusal count)) (record { 0 = count }) made
    (or_else-refuses (new_refusal names path) (count_refusal count) (new_refusal-refuses names path) (refuse_where-refuses _ TooMany refl)) is))

pub job-below : (T : Type 0) (names : Names) (count : ℕ) (core : _) (prio : ℕ) (inputs outputs : List PathOf) (made : RecordId) →
    reply_to {T = T} names count (Job core prio inputs outputs) ≡ Made made → count < 1048576
job-below T names count core prio inputs outputs made is =
    let outs = or_else (outputs_refusal names count 0 outputs) (count_refusal count) in
    uncounted count (second-none (outputs_refusal names count 0 outputs) (count_refusal count)
    (second-none (inputs_refusal names inputs) outs
    (unrefused (or_else (inputs_refusal names inputs) outs) (record { 0 = count }) made
    (or_else-refuses (inputs_refusal names inputs) outs (inputs-refuse names inputs)
    (or_else-refuses (outputs_refusal names count 0 outputs) (count_refusal count) (outputs-refuse names count 0 outputs) (refuse_where-refuses _ TooMany refl))) is)))

-- ---- the record

-- what is known of a record that a call adds
pub record IsRecord (names : Names) (count : ℕ) (added : List Record) (rec : Option Record) : Type 0 where
  pub it : Record
  pub at_hand : rec ≡ Some it
  pub number : (id_of it).0 ≡ count
  pub limit : count < 1048576
  pub same : added ≡ list_of rec

put-record : {T : Type 0} (names : Names) (count : ℕ) (path : PathOf) (len : ℕ) (digest : _) (ticket : T) (made : RecordId) (rec : Option Record) →
    Made made ≡ reply_to names count (Put path len digest ticket) → made ≡ record { 0 = count } →
    rec ≡ Some (kind.Put (record { 0 = count })) → IsRecord names count (kind.Put made ∷ []) rec
put-record names count path len digest ticket made rec is number at = record {
  it = kind.Put (record { 0 = count });
  at_hand = at;
  number = refl;
  limit = put-below names count path len digest ticket made (sym is);
  same = ap (λ id. kind.Put id ∷ []) number ∙ sym (ap list_of at);
}

job-record : (T : Type 0) (names : Names) (count : ℕ) (core : _) (prio : ℕ) (inputs outputs : List PathOf) (made : RecordId) (rec : Option Record) →
    Made made ≡ reply_to {T = T} names count (Job core prio inputs outputs) → made ≡ record { 0 = count } →
    rec ≡ Some (kind.Job (record { 0 = count }) core prio (files_named names inputs) (length outputs)) →
    IsRecord names count (kind.Job made core prio (files_at names inputs) (length outputs) ∷ []) rec
job-record T names count core prio inputs outputs made rec is number at = record {
  it = kind.Job (record { 0 = count }) core prio (files_named names inputs) (length outputs);
  at_hand = at;
  number = refl;
  limit = job-below T names count core prio inputs outputs made (sym is);
  same = ap (λ id. kind.Job id core prio (files_at names inputs) (length outputs) ∷ []) number
      ∙ ap (λ files. kind.Job (record { 0 = count }) core prio files (length outputs) ∷ [])
      (sym (files-named names inputs (inputs-unrefused T names count core prio inputs outputs made (sym is))))
      ∙ sym (ap list_of at);
}

made-self : (made : RecordId) → reply_same (Made made) (Made made) ≡ true
made-self made = (record_same-Decides made made).1 refl

-- the record that was made ready for a call is the one that the call adds
pub call-record : {T : Type 0} (names : Names) (count : ℕ) (command : Command T) (reply : Reply) (rec : Option Record) →
    reply ≡ reply_to names count command → rec ≡ record_for (record { 0 = count }) names command →
    accepts_with reply (command_with {U = Unit {0}} (λ _. tt) command) ≡ true → IsRecord names count (record_made reply command names) rec
call-record names count (Put path len digest ticket) (Made made) rec is at h =
    put-record names count path len digest ticket made rec is
    (put_made names count path len digest ticket made (ap (λ r. reply_same r (Made made)) (sym is) ∙ made-self made)) at
call-record {T} names count (Job core prio inputs outputs) (Made made) rec is at h =
    job-record T names count core prio inputs outputs made rec is
    (job_made T names count core prio inputs outputs made (ap (λ r. reply_same r (Made made)) (sym is) ∙ made-self made)) at
call-record names count (Read path prio form) (Made made) rec is at h = absurd (cc)
call-record names count (Delete path) (Made made) rec is at h = absurd (cc)
call-record names count (Mkdir path) (Made made) rec is at h = absurd (cc)
call-record names count (Rename from to) (Made made) rec is at h = absurd (cc)
call-record names count (Pin path) (Made made) rec is at h = absurd (cc)
call-record names count (Unpin path) (Made made) rec is at h = absurd (cc)
call-record names count (list path) (Made made) rec is at h = absurd (cc)
call-record names count (Stat path) (Made made) rec is at h = absurd (cc)
call-record names count (free path) (Made made) rec is at h = absurd (cc)
call-record names count command Fine rec is at h = absurd (cc)
call-record names count command (Opened f) rec is at h = absurd (cc)
call-record names count command (Listed entries) rec is at h = absurd (cc)
call-record names count command (Stated status) rec is at h = absurd (cc)
call-record names count command Exists rec is at h = absurd (cc)
call-record names count command NoSuch rec is at h = absurd (cc)
call-record names count command NotFile rec is at h = absurd (cc)
call-record names count command NotDir rec is at h = absurd (cc)
call-record names count command NotEmpty rec is at h = absurd (cc)
call-record names count command TooDeep rec is at h = absurd (cc)
call-record names count command IntoItself rec is at h = absurd (cc)
call-record names count command TooMany rec is at h = absurd (cc)

-- it is at hand
pub at-hand : {T : Type 0} (parts : PartsData) (names : Names) (count : ℕ) (command : Command T) (reply : Reply) (rec : Option Record) →
    reply ≡ reply_to names count command → rec ≡ record_for (record { 0 = count }) names command →
    ((r : Record) → rec ≡ Some r → HaveRoom parts r) → IsAtHand parts count (Call (command_with (λ _. tt) command) reply) rec
at-hand parts names count command reply rec is at room h =
    let found = call-record names count command reply rec is at h in
    (found.it, found.at_hand, room found.it found.at_hand, found.number, found.limit)

none-made : (names : Names) (command : Command (Unit {0})) (reply : Reply) → accepts_with reply command ≡ false → record_made reply command names ≡ []
none-made names (Put path len digest ticket) (Made made) h = absurd (cc)
none-made names (Job core prio inputs outputs) (Made made) h = absurd (cc)
none-made names (Read path prio form) (Made made) h = refl
none-made names (Delete path) (Made made) h = refl
none-made names (Mkdir path) (Made made) h = refl
none-made names (Rename from to) (Made made) h = refl
none-made names (Pin path) (Made made) h = refl
none-made names (Unpin path) (Made made) h = refl
none-made names (list path) (Made made) h = refl
none-made names (Stat path) (Made made) h = refl
none-made names (free path) (Made made) h = refl
none-made names command Fine h = refl
none-made names command (Opened f) h = refl
none-made names command (Listed entries) h = refl
none-made names command (Stated status) h = refl
none-made names command Exists h = refl
none-made names command NoSuch h = refl
none-made names command NotFile h = refl
none-made names command NotDir h = refl
none-made names command NotEmpty h = refl
none-made names command TooDeep h = refl
none-made names command IntoItself h = refl
none-made names command TooMany h = refl

-- an act that adds a record is no claim
pub unclaimed : (order : OrderData) (past : Past) (act : Act (Unit {0})) → accepts act ≡ true → StandsFor order past → StandsBefore act order past
unclaimed order past (Call command reply) h stand = stand
unclaimed order past act h stand = absurd (cc)

-- an act that accepts nothing adds no record
pub none-added : (past : Past) (act : Act (Unit {0})) → accepts act ≡ false → added past act ≡ []
none-added past (Call command reply) h = none-made (names past) command reply h
none-added past (Served file digest) h = refl
none-added past (Shut file) h = refl
none-added past (Claim worker made) h = refl
none-added past (Done worker made) h = refl
none-added past (Back made) h = refl
none-added past (Lose worker) h = refl
none-added past (Free file) h = refl
none-added past (Drop worker file) h = refl
none-added past (Load worker file) h = refl
none-added past (Save file) h = refl
none-added past (Saved file size digest) h = refl
none-added past (Unsave file) h = refl
none-added past (Collect made) h = refl
