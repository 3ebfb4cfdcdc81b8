-- Which files are saved next: leaves of the lineage first, and then what is read often.
use Rattle.std.specs.Prelude.{ℕ, nat_lt, nat_le, Bool, ◌&&◌, not, List, [], ◌∷◌, ◌++◌, length, filter, Option, if◌then◌else◌}
use Rattle.std.specs.List.{list_any}
use Rattle.tl_types.specs.declared.file_id.FileId.{FileId}
use Rattle.tl_types.specs.declared.record_id.RecordId.{RecordId}
use Rattle.tl_model.specs.declared.header.Header.{Header}
use Rattle.tl_model.specs.Past.{Past}
use Rattle.tl_model.specs.Tables.{sort_by}
use Rattle.tl_model.specs.History.{records, files, has_input, is_named}
use Rattle.tl_model.specs.Actors.{is_being_saved}
use Rattle.tl_model.specs.Residency.{is_resident, is_saved, does, reads}
use Rattle.tl_model.specs.Eviction.{first_of}

-- named, in memory, not saved, and no save of it open
abbrev pub can_be_saved : Past → FileId → Bool
can_be_saved past f = is_named past f && is_resident past f && not (is_saved past f) && not (is_being_saved past f)

-- no record has it as input
abbrev pub is_leaf : Past → FileId → Bool
is_leaf past f = not (list_any (has_input f) (records past))

-- the place of the record's last Done
abbrev pub last_done : Past → RecordId → ℕ
last_done [] made = 0
last_done (e ∷ past) made = if does made e.act then length past else last_done past made

-- leaves in the order of their records' last Done; the outputs of one record stay in order
abbrev pub done_sooner : Past → FileId → FileId → Bool
done_sooner past g f = nat_lt (last_done past g.rec) (last_done past f.rec)

abbrev pub leaves : Past → List FileId
leaves past = sort_by (done_sooner past) (filter (λ f. can_be_saved past f && is_leaf past f) (files past))

abbrev pub is_hot : Header → Past → FileId → Bool
is_hot header past f = nat_le header.hot (reads past f)

-- what is read more goes first, and among equals the least file
abbrev pub read_more : Past → FileId → FileId → Bool
read_more past g f = nat_lt (reads past f) (reads past g)

abbrev pub hot_files : Header → Past → List FileId
hot_files header past = sort_by (read_more past) (filter (λ f. can_be_saved past f && not (is_leaf past f) && is_hot header past f) (files past))

-- the files to be saved, in their order
abbrev pub edge : Header → Past → List FileId
edge header past = leaves past ++ hot_files header past

abbrev pub next_save : Header → Past → Option FileId
next_save header past = first_of (edge header past)
