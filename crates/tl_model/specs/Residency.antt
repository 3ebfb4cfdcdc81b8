-- Where files are: in a worker's memory, in the checkpoint store, or in neither.
use Rattle.std.specs.Prelude.{ℕ, ◌+◌, Bool, false, ◌&&◌, ◌||◌, not, List, [], ◌∷◌, length, Option, Some, None, is_some, is_none, if◌then◌else◌}
use Rattle.std.specs.List.{list_any, list_all}
use Rattle.tl_types.specs.Same.{file_same, record_same, worker_same}
use Rattle.tl_types.specs.declared.digest.Digest.{Digest}
use Rattle.tl_types.specs.declared.file_id.FileId.{FileId}
use Rattle.tl_types.specs.declared.record_id.RecordId.{RecordId}
use Rattle.tl_types.specs.declared.worker_id.WorkerId.{WorkerId}
use Rattle.tl_model.specs.declared.record.Record.{Record}
use Rattle.tl_model.specs.declared.event.Act.{Act}
use Rattle.tl_model.specs.declared.event.Act.TheVariants.{Served, Claim, Done, Lose, Free, Drop, Load, Saved, Collect}
use Rattle.tl_model.specs.Past.{Past}
use Rattle.tl_model.specs.History.{record_at, is_output, has_input}

abbrev pub is_at : WorkerId → Option WorkerId → Bool
is_at worker None = false
is_at worker (Some other) = worker_same worker other

-- where a file is after an act, where before it it was here
abbrev pub place_after : Past → Act (Unit {0}) → FileId → Option WorkerId → Option WorkerId
place_after past (Load worker g) f here = if file_same f g then Some worker else here
place_after past (Done worker made) f None = if is_output past f made then Some worker else None
place_after past (Lose worker) f here = if is_at worker here then None else here
place_after past (Drop worker g) f here = if file_same f g && is_at worker here then None else here
place_after past (Free g) f here = if file_same f g then None else here
place_after past _ f here = here

-- the worker where a file is resident: the last event that concerned it there brought it. A load brings a file, a
-- done brings each output that is resident nowhere, and a loss, a drop and a free take it away
abbrev pub place : Past → FileId → Option WorkerId
place [] f = None
place (e ∷ past) f = place_after past e.act f (place past f)

abbrev pub is_resident : Past → FileId → Bool
is_resident past f = is_some (place past f)

abbrev pub is_resident_on : Past → FileId → WorkerId → Bool
is_resident_on past f worker = is_at worker (place past f)

-- the size and the digest with which a file was saved
pub record SavedAs : Type 0 where
  pub size : ℕ
  pub digest : Digest

abbrev pub saved_after : Act (Unit {0}) → FileId → Option SavedAs → Option SavedAs
saved_after (Saved g size digest) f before = if file_same f g then Some (record { size = size; digest = digest }) else before
saved_after _ f before = before

abbrev pub saved_as : Past → FileId → Option SavedAs
saved_as [] f = None
saved_as (e ∷ past) f = saved_after e.act f (saved_as past f)

-- a file is saved once Saved stands in the past
abbrev pub is_saved : Past → FileId → Bool
is_saved past f = is_some (saved_as past f)

-- in memory or saved
abbrev pub is_available : Past → FileId → Bool
is_available past f = is_resident past f || is_saved past f

abbrev pub all_available : Past → List FileId → Bool
all_available past fs = list_all (is_available past) fs

abbrev pub collects : RecordId → Act (Unit {0}) → Bool
collects made (Collect other) = record_same made other
collects made _ = false

abbrev pub is_collected : Past → RecordId → Bool
is_collected past made = list_any (λ e. collects made e.act) past

-- a record is kept from its acceptance to its Collect
abbrev pub is_kept : Past → RecordId → Bool
is_kept past made = is_some (record_at past made) && not (is_collected past made)

abbrev pub does : RecordId → Act (Unit {0}) → Bool
does made (Done worker other) = record_same made other
does made _ = false

-- a job was done
abbrev pub was_done : Past → RecordId → Bool
was_done past made = list_any (λ e. does made e.act) past

abbrev pub claim_reads : Past → FileId → Option Record → Bool
claim_reads past f None = false
claim_reads past f (Some r) = has_input f r

-- the record of this number has the file as input
abbrev pub reads_of_claim : Past → FileId → RecordId → Bool
reads_of_claim past f made = claim_reads past f (record_at past made)

-- an act brings a file, serves it, or claims a record with it as a resident input
abbrev pub uses : Past → Act (Unit {0}) → FileId → Bool
uses past (Load worker g) f = file_same f g
uses past (Done worker made) f = is_output past f made && is_none (place past f)
uses past (Served g digest) f = file_same f g
uses past (Claim worker made) f = reads_of_claim past f made && is_resident past f
uses past _ f = false

-- the last place where the file was brought, was served, or was a resident input at a claim
abbrev pub recency : Past → FileId → ℕ
recency [] f = 0
recency (e ∷ past) f = if uses past e.act f then length past else recency past f

-- whether an act is a read of a file: a Served, or a Claim of a record with it as input
abbrev pub is_use : Past → Act (Unit {0}) → FileId → Bool
is_use past (Served g digest) f = file_same f g
is_use past (Claim worker made) f = reads_of_claim past f made
is_use past _ f = false

-- how often a file was read, one for each Served and one for each Claim
abbrev pub reads : Past → FileId → ℕ
reads [] f = 0
reads (e ∷ past) f = if is_use past e.act f then reads past f + 1 else reads past f
