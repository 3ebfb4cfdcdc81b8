-- What is evicted from a worker's memory. Sizes are those of what the files hold, and so are handed in.
use Rattle.std.specs.Prelude.{ℕ, zero, suc, ◌+◌, nat_lt, Bool, ◌&&◌, not, List, [], ◌∷◌, filter, sum_by, Option, Some, None, is_some, is_none}
use Rattle.tl_types.specs.declared.file_id.FileId.{FileId}
use Rattle.tl_types.specs.declared.worker_id.WorkerId.{WorkerId}
use Rattle.tl_model.specs.declared.header.Header.{Header}
use Rattle.tl_model.specs.Past.{Past}
use Rattle.tl_model.specs.Tables.{first_by}
use Rattle.tl_model.specs.History.{files, is_pinned}
use Rattle.tl_model.specs.Residency.{is_resident_on, recency}
use Rattle.tl_model.specs.Plan.{is_wanted}

-- the size of each file: the length of its value, and 0 of a fault
abbrev pub Sizes : Type 0
Sizes = FileId → ℕ

abbrev pub files_on : Past → WorkerId → List FileId
files_on past worker = filter (λ f. is_resident_on past f worker) (files past)

-- how many bytes the files on a worker have together
abbrev pub used : Sizes → Past → WorkerId → ℕ
used sizes past worker = sum_by sizes (files_on past worker)

-- a file may be evicted that is neither pinned nor wanted
abbrev pub may_go : Past → FileId → Bool
may_go past f = not (is_pinned past f) && not (is_wanted past f)

-- less recently used; files stand in order, so that among equals the least is first
abbrev pub goes_sooner : Past → FileId → FileId → Bool
goes_sooner past g f = nat_lt (recency past g) (recency past f)

-- the file on the worker that may go and has least recency, and among these the least file
abbrev pub victim : Past → WorkerId → Option FileId
victim past worker = first_by (goes_sooner past) (filter (may_go past) (files_on past worker))

abbrev pub is_over : Sizes → Header → Past → WorkerId → Bool
is_over sizes header past worker = nat_lt header.capacity (used sizes past worker)

-- over its capacity, with a victim
abbrev pub must_drop : Sizes → Header → Past → WorkerId → Bool
must_drop sizes header past worker = is_over sizes header past worker && is_some (victim past worker)

abbrev pub workers_from : ℕ → ℕ → List WorkerId
workers_from n zero = []
workers_from n (suc k) = record { 0 = n } ∷ workers_from (n + 1) k

abbrev pub workers : Header → List WorkerId
workers header = workers_from 0 header.workers

abbrev pub first_of : {R : Type 0} → List R → Option R
first_of [] = None
first_of (r ∷ rs) = Some r

-- the least worker that is over its capacity and has a victim
abbrev pub first_to_drop : Sizes → Header → Past → Option WorkerId
first_to_drop sizes header past = first_of (filter (must_drop sizes header past) (workers header))

-- no worker must drop a file
abbrev pub is_settled : Sizes → Header → Past → Bool
is_settled sizes header past = is_none (first_to_drop sizes header past)
