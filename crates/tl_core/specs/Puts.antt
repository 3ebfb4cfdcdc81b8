-- What is kept of a put: its ticket, with the length and the digest of its bytes.
use Rattle.std.specs.Prelude.{◌≡◌, ◌≤◌, ℕ, Bool, true, List, [], ◌∷◌, length, Option, Some, None, if◌then◌else◌}
use Rattle.std.specs.Borrow.{Bor}
use Rattle.sha2.specs.Sha256.{sha256}
use Rattle.tl_types.specs.Same.{file_same}
use Rattle.tl_types.specs.declared.digest.Digest.{Digest}
use Rattle.tl_types.specs.declared.file_id.FileId.{FileId}
use Rattle.tl_model.specs.declared.command.Command.{Command}
use Rattle.tl_model.specs.declared.command.Command.TheVariants.{Put}
use Rattle.tl_model.specs.declared.reply.Reply.{Reply}
use Rattle.tl_model.specs.declared.reply.Reply.TheVariants.{Made}
use Rattle.tl_model.specs.declared.event.Act.{Act}
use Rattle.tl_model.specs.declared.event.Act.TheVariants.{Call}
use Rattle.tl_model.specs.declared.event.Event.{Event}
use Rattle.tl_model.specs.declared.saved.Saved.{Saved}
use Rattle.tl_model.specs.declared.saved.Saved.TheVariants as save
use Rattle.tl_model.specs.Residency.{SavedAs}

pub record KeptPut (T : Type 0) : Type 0 where
  pub ticket : T
  pub len : ℕ
  pub digest : Digest

abbrev pub kept_by : {T : Type 0} → Reply → Command T → FileId → Option (KeptPut T) → Option (KeptPut T)
kept_by (Made made) (Put path len digest ticket) f before =
    if file_same f (record { rec = made; out = 0 }) then Some (record { ticket = ticket; len = len; digest = digest }) else before
kept_by _ _ f before = before

abbrev pub kept_after : {T : Type 0} → Act T → FileId → Option (KeptPut T) → Option (KeptPut T)
kept_after (Call command reply) f before = kept_by reply command f before
kept_after _ f before = before

-- the put that made the file
abbrev pub kept_put : {T : Type 0} → List (Event T) → FileId → Option (KeptPut T)
kept_put [] f = None
kept_put (e ∷ events) f = kept_after e.act f (kept_put events f)

-- the size and the digest of a put's file
abbrev pub as_saved : {T : Type 0} → KeptPut T → SavedAs
as_saved put = record { size = put.len; digest = put.digest }

-- a put is no longer than a file may be, and where the bytes are told, its length and digest are theirs
abbrev pub IsWhole : {T : Type 0} → Bool → (T → List ℕ) → KeptPut T → Type 0
IsWhole tells content put =
    (put.len ≤ 1048576) × (tells ≡ true → (length (content put.ticket) ≡ put.len) × (sha256 (content put.ticket) ≡ put.digest.0))

-- what references to a put's ticket, its length and its digest show
abbrev pub seen : {T : Type 0} → (Bor T × ℕ × Digest) → KeptPut T
seen put = record { ticket = put.0.now; len = put.1; digest = put.2 }

-- a saved value of the put: a ticket for the same bytes, with their length and digest
abbrev pub IsCopy : {T : Type 0} → (T → List ℕ) → KeptPut T → Saved T → Type 0
IsCopy content put (save.Held ticket len digest) = (content ticket ≡ content put.ticket) × (len ≡ put.len) × (digest ≡ put.digest)
IsCopy content put (save.Failed code) = ⊥
