-- A fleet stands in order by sizes of which only those of the files in memory matter.
use Rattle.std.proofs.Common.{◌≡◌, ◌∙◌, ℕ, ◌+◌, true, [], ◌∷◌, is_some, sym}
use Rattle.tl_types.specs.declared.file_id.FileId.{FileId}
use Rattle.tl_model.specs.declared.header.Header.{Header}
use Rattle.tl_model.specs.Eviction.{Sizes}
use Rattle.tl_model.specs.Past.{Past}
use Rattle.tl_model.specs.Residency.{place}
use Rattle.tl_store.specs.Contents.{Blocks}
use Rattle.tl_fleet.specs.Order.{Sight, IsOfFile, StandsAt, EachStands, StandsInOrder, sight_of}
use Rattle.tl_fleet.specs.Workers.{Workers}
use Rattle.tl_fleet.proofs.Steps.{each_there, number, some_at}

abbrev AgreeInMemory : Sizes → Sizes → Sight → Type 0
AgreeInMemory sizes other s = (f : FileId) → is_some (s.place f) ≡ true → other f ≡ sizes f

stands_by : (sizes other : Sizes) (s : Sight) → AgreeInMemory sizes other s → (n : ℕ) (bs : Blocks) → StandsAt sizes s n bs → StandsAt other s n bs
stands_by sizes other s same n bs h = record {
  resident = h.resident;
  order = h.order;
  files = each_there (IsOfFile sizes s) (IsOfFile other s) bs
      (λ b there of. (of.0 ∙ sym (same b.file (some_at (number n) (s.place b.file) (sym (h.resident b.file) ∙ there))), of.1)) h.files;
}

each_by : (sizes other : Sizes) (header : Header) (s : Sight) → AgreeInMemory sizes other s → (n : ℕ) (ws : Workers) → EachStands sizes header s n ws → EachStands other header s n ws
each_by sizes other header s same n [] h = tt
each_by sizes other header s same n (w ∷ ws) h = ((h.0.0, stands_by sizes other s same n w.store.blocks h.0.1), each_by sizes other header s same (n + 1) ws h.1)

pub stands_by_other : (sizes other : Sizes) (header : Header) (past : Past) (ws : Workers) → ((f : FileId) → is_some (place past f) ≡ true → other f ≡ sizes f) →
    StandsInOrder sizes header past ws → StandsInOrder other header past ws
stands_by_other sizes other header past ws same h = (h.0, each_by sizes other header (sight_of past) same 0 ws h.1, h.2)
