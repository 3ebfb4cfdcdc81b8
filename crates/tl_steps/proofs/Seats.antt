-- What actors have open is what the past says.
use Rattle.std.proofs.Common.{◌≡◌, List, ◌∷◌, map}
use Rattle.tl_types.specs.declared.file_id.FileId.{FileId}
use Rattle.tl_types.specs.declared.record_id.RecordId.{RecordId}
use Rattle.tl_model.specs.Past.{Past, Plain}
use Rattle.tl_model.specs.Actors.{actors, claims_record, is_read, is_running, reads_file}
use Rattle.tl_steps.specs.declared.seat.Seat.{Seat}
use Rattle.tl_steps.specs.Steps.{is_read_at, is_running_at, seat_after, seat_of}
use Rattle.tl_steps.proofs.Lists.{any_map, map_after}

abbrev pub seats_of : Past → List Seat
seats_of past = map (seat_of past) actors

pub seats-after : (e : Plain) (past : Past) → map (seat_after e) (seats_of past) ≡ seats_of (e ∷ past)
seats-after e past = map_after (seat_of past) (seat_after e) actors

pub read-same : (past : Past) (f : FileId) → is_read_at (seats_of past) f ≡ is_read past f
read-same past f = any_map (λ (seat : Seat). reads_file f seat.read) (seat_of past) actors

pub running-same : (past : Past) (made : RecordId) → is_running_at (seats_of past) made ≡ is_running past made
running-same past made = any_map (λ (seat : Seat). claims_record made seat.claim) (seat_of past) actors
