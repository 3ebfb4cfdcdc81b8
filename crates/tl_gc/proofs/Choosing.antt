-- The first record that was not let go and is not needed is the least one that is kept and not needed.
use Rattle.std.proofs.Common.{◌≡◌, ◌∙◌, ℕ, suc, Bool, true, false, ◌&&◌, not, if◌then◌else◌, List, [], ◌∷◌, filter, length, map, slice_get, Option, Some, is_some, option_map, refl, sym, ap}
use Rattle.tl_types.specs.declared.record_id.RecordId.{RecordId}
use Rattle.tl_model.specs.declared.record.Record.{Record}
use Rattle.tl_model.specs.Past.{Past}
use Rattle.tl_model.specs.History.{id_of, record_at, records}
use Rattle.tl_model.specs.Residency.{is_collected}
use Rattle.tl_model.specs.Eviction.{first_of}
use Rattle.tl_model.specs.Needs.{garbage, is_garbage, is_needed}
use Rattle.tl_laws.specs.Numbers.{Numbered}
use Rattle.tl_gc.specs.Data.{GcData, first_free, found_garbage}
use Rattle.tl_gc.specs.Standing.{StandsFor, kept_in}
use Rattle.tl_gc.proofs.Lists.{length-map}
use Rattle.tl_gc.proofs.Marking.{all_kept, tasks_of, walked-needs}

chosen-if : (b : Bool) (r : Record) (rs : List Record) (later : Option RecordId) → later ≡ option_map id_of (first_of rs) →
    (if b then Some (id_of r) else later) ≡ option_map id_of (first_of (if b then r ∷ rs else rs))
chosen-if true r rs later is = refl
chosen-if false r rs later is = is

first-is : (past : Past) (rs : List Record) → ((i : ℕ) (r : Record) → slice_get rs i ≡ Some r → is_some (record_at past (id_of r)) ≡ true) →
    first_free (map (kept_in past) rs) (map (λ r. is_needed past (id_of r)) rs) ≡ option_map id_of (first_of (filter (is_garbage past) rs))
first-is past [] known = refl
first-is past (r ∷ rs) known =
    let later = first_free (map (kept_in past) rs) (map (λ x. is_needed past (id_of x)) rs) in
    ap (λ b. if (b && not (is_collected past (id_of r))) && not (is_needed past (id_of r)) then Some (id_of r) else later) (sym (known 0 r refl))
    ∙ chosen-if (is_garbage past r) r (filter (is_garbage past) rs) later (first-is past rs (λ i x at. known (suc i) x at))

is-known : (past : Past) (i : ℕ) (r : Record) → Numbered (records past) → slice_get (records past) i ≡ Some r → is_some (record_at past (id_of r)) ≡ true
is-known past i r numbered at = ap (λ (id : RecordId). is_some (slice_get (records past) id.0)) (numbered i r at) ∙ ap is_some at

-- what is found in what stands for a past
pub garbage-same : (gc : GcData) (past : Past) → StandsFor gc past → found_garbage gc.seats gc.kept (tasks_of past gc.kept) ≡ garbage past
garbage-same gc past stands =
    (λ i. found_garbage (stands.seats i) (stands.kept i) (tasks_of past (stands.kept i)))
    ∙ ap (first_free (all_kept past)) (walked-needs past (length (all_kept past)) stands.numbered (length-map (kept_in past) (records past)))
    ∙ first-is past (records past) (λ i r at. is-known past i r stands.numbered at)
