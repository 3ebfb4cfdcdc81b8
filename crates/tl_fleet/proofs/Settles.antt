-- What a fleet that stands in order for a past must drop is what the past says.
use Rattle.std.proofs.Common.{◌≡◌, ◌∙◌, ℕ, ◌+◌, Bool, true, false, not, ◌&&◌, if◌then◌else◌, List, [], ◌∷◌, length, filter, Option, Some, None, is_some, refl, sym, ap}
use Rattle.std.specs.Prelude.{nat_lt, sum_by, option_map}
use Rattle.std.specs.List.{AllByRecursion}
use Rattle.std.specs.Option.{option_map_or}
use Rattle.std.proofs.lemmas.List.Sums.{sum_by-cons}
use Rattle.tl_types.specs.declared.file_id.FileId.{FileId}
use Rattle.tl_types.specs.declared.worker_id.WorkerId.{WorkerId}
use Rattle.tl_model.specs.declared.header.Header.{Header}
use Rattle.tl_model.specs.Past.{Past}
use Rattle.tl_model.specs.Tables.{first_by}
use Rattle.tl_model.specs.History.{files}
use Rattle.tl_model.specs.Residency.{is_resident_on, recency}
use Rattle.tl_model.specs.Eviction as past
use Rattle.tl_model.specs.Eviction.{Sizes, files_on, used, may_go, goes_sooner, is_over, must_drop, workers_from, first_of}
use Rattle.tl_store.specs.Contents.{Blocks, block_size, used_by, victim}
use Rattle.tl_fleet.specs.Workers.{Workers, first_to_drop_from, first_to_drop}
use Rattle.tl_fleet.specs.Order.{Ascends, IsSooner, InOrder, IsOfFile, StandsAt, EachStands, StandsInOrder, IsNumbered, ExceptsBy, sight_of, is_made, due, due_on}
use Rattle.tl_fleet.proofs.Sooner.{sooner_asym}
use Rattle.tl_fleet.specs.Events.{among, files_of}
use Rattle.tl_fleet.proofs.Files.{has_among, all_among, ascends_filtered, ascends_distinct, distinct_all, Distinct, among_filtered, same_sum}
use Rattle.tl_fleet.proofs.Least.{FilesInOrder, goes, least_one, least_of_same, least_last, least_first, victim_last}
use Rattle.tl_fleet.proofs.Pasts.{files_ascend, made_among}

each_sooner : (recency : FileId → ℕ) (f : FileId) (blocks : Blocks) → AllByRecursion (λ b. IsSooner recency b.file f) blocks → AllByRecursion (λ g. IsSooner recency g f) (files_of blocks)
each_sooner recency f [] h = tt
each_sooner recency f (b ∷ bs) h = (h.0, each_sooner recency f bs h.1)

pub files_in_order : (recency : FileId → ℕ) (blocks : Blocks) → InOrder recency blocks → FilesInOrder recency (files_of blocks)
files_in_order recency [] h = tt
files_in_order recency (b ∷ bs) h = (each_sooner recency b.file bs h.0, files_in_order recency bs h.1)

pub order_distinct : (recency : FileId → ℕ) (fs : List FileId) → FilesInOrder recency fs → Distinct fs
order_distinct recency [] h = tt
order_distinct recency (f ∷ fs) h =
    (distinct_all (λ f g. IsSooner recency g f) (λ f s. sooner_asym recency f f s s) f fs h.0, order_distinct recency fs h.1)

made_of : (sizes : Sizes) (p : Past) (blocks : Blocks) → AllByRecursion (IsOfFile sizes (sight_of p)) blocks → AllByRecursion (λ f. is_made p f ≡ true) (files_of blocks)
made_of sizes p [] h = tt
made_of sizes p (b ∷ bs) h = (h.0.1, made_of sizes p bs h.1)

used_sizes : (sizes : Sizes) (p : Past) (blocks : Blocks) → AllByRecursion (IsOfFile sizes (sight_of p)) blocks → used_by blocks ≡ sum_by sizes (files_of blocks)
used_sizes sizes p [] h = refl
used_sizes sizes p (b ∷ bs) h =
    sum_by-cons block_size b bs ∙ ap (λ n. n + used_by bs) h.0.0 ∙ ap (λ n. sizes b.file + n) (used_sizes sizes p bs h.1) ∙ sym (sum_by-cons sizes b.file (files_of bs))

both_so : (m r : Bool) → (r ≡ true → m ≡ true) → (m && r) ≡ r
both_so m true h = ap (λ b. b && true) (h refl)
both_so true false h = refl
both_so false false h = refl

twice : (b : Bool) → b ≡ not (not b)
twice true = refl
twice false = refl

module _ (sizes : Sizes) (header : Header) (p : Past) (numbered : IsNumbered p) where
  there : (n : ℕ) (blocks : Blocks) → StandsAt sizes (sight_of p) n blocks → (g : FileId) → among g (files_on p (record { 0 = n })) ≡ among g (files_of blocks)
  there n blocks stands g =
      let is : is_resident_on p g (record { 0 = n }) ≡ among g (files_of blocks) = sym (stands.resident g) ∙ has_among g blocks in
      among_filtered (λ f. is_resident_on p f (record { 0 = n })) g (files p)
      ∙ both_so (among g (files p)) (is_resident_on p g (record { 0 = n }))
      (λ r. made_among p g numbered (all_among (λ f. is_made p f ≡ true) (files_of blocks) g (made_of sizes p blocks stands.files) (sym is ∙ r)))
      ∙ is

  on_ascend : (n : ℕ) → Ascends (files_on p (record { 0 = n }))
  on_ascend n = ascends_filtered (λ f. is_resident_on p f (record { 0 = n })) (files p) (files_ascend p numbered)

  same_used : (n : ℕ) (blocks : Blocks) → StandsAt sizes (sight_of p) n blocks → used_by blocks ≡ used sizes p (record { 0 = n })
  same_used n blocks stands =
      used_sizes sizes p blocks stands.files
      ∙ same_sum sizes (files_of blocks) (files_on p (record { 0 = n })) (order_distinct (recency p) (files_of blocks) (files_in_order (recency p) blocks stands.order))
      (ascends_distinct (files_on p (record { 0 = n })) (on_ascend n)) (λ g. sym (there n blocks stands g))

  same_victim : (excepted : FileId → Bool) → ExceptsBy p excepted → (n : ℕ) (blocks : Blocks) → StandsAt sizes (sight_of p) n blocks →
      victim excepted blocks ≡ past.victim p (record { 0 = n })
  same_victim excepted just n blocks stands =
      victim_last excepted blocks
      ∙ least_one (recency p) (goes excepted (files_of blocks)) _ _
      (least_last (recency p) excepted (files_of blocks) (files_in_order (recency p) blocks stands.order))
      (least_of_same (recency p) (λ g. among g (filter (may_go p) (files_on p (record { 0 = n })))) (goes excepted (files_of blocks))
      (first_by (goes_sooner p) (filter (may_go p) (files_on p (record { 0 = n }))))
      (λ g. among_filtered (may_go p) g (files_on p (record { 0 = n })) ∙ ap (λ b. b && may_go p g) (there n blocks stands g)
      ∙ ap (λ b. among g (files_of blocks) && b) (twice (may_go p g) ∙ ap not (sym (just g))))
      (least_first (recency p) (filter (may_go p) (files_on p (record { 0 = n }))) (ascends_filtered (may_go p) (files_on p (record { 0 = n })) (on_ascend n))))

  next_due : (over : Bool) (v : Option FileId) (w : WorkerId) (rest : Option (WorkerId × FileId)) (ws : List WorkerId) → past.victim p w ≡ v → rest ≡ due_on p (first_of ws) →
      option_map_or (λ f. Some (w, f)) (if over then v else None) rest ≡ due_on p (first_of (if (over && is_some v) then w ∷ ws else ws))
  next_due true (Some f) w rest ws e h = sym (ap (option_map (λ g. (w, g))) e)
  next_due true None w rest ws e h = h
  next_due false (Some f) w rest ws e h = h
  next_due false None w rest ws e h = h

  due_from : (excepted : FileId → Bool) → ExceptsBy p excepted → (n : ℕ) (workers : Workers) → EachStands sizes header (sight_of p) n workers →
      first_to_drop_from n excepted workers ≡ due_on p (first_of (filter (must_drop sizes header p) (workers_from n (length workers))))
  due_from excepted just n [] each = refl
  due_from excepted just n (w ∷ ws) each =
      let here : StandsAt sizes (sight_of p) n w.store.blocks = each.0.1 in
      let over : nat_lt w.store.capacity (used_by w.store.blocks) ≡ is_over sizes header p (record { 0 = n }) =
      ap (λ c. nat_lt c (used_by w.store.blocks)) each.0.0 ∙ ap (λ u. nat_lt header.capacity u) (same_used n w.store.blocks here) in
      let v : victim excepted w.store.blocks ≡ past.victim p (record { 0 = n }) = same_victim excepted just n w.store.blocks here in
      ap (λ b. option_map_or (λ f. Some (record { 0 = n }, f)) (if b then victim excepted w.store.blocks else None) (first_to_drop_from (n + 1) excepted ws)) over
      ∙ ap (λ o. option_map_or (λ f. Some (record { 0 = n }, f)) (if (is_over sizes header p (record { 0 = n })) then o else None) (first_to_drop_from (n + 1) excepted ws)) v
      ∙ next_due (is_over sizes header p (record { 0 = n })) (past.victim p (record { 0 = n })) (record { 0 = n }) (first_to_drop_from (n + 1) excepted ws)
      (filter (must_drop sizes header p) (workers_from (n + 1) (length ws))) refl (due_from excepted just (n + 1) ws each.1)

-- the least worker that must drop a file, and the file
pub same_due : (sizes : Sizes) (header : Header) (p : Past) (excepted : FileId → Bool) (workers : Workers) → IsNumbered p → ExceptsBy p excepted → StandsInOrder sizes header p workers →
    first_to_drop excepted workers ≡ due sizes header p
same_due sizes header p excepted workers numbered just stands =
    due_from sizes header p numbered excepted just 0 workers stands.1
    ∙ ap (λ k. due_on p (first_of (filter (must_drop sizes header p) (workers_from 0 k)))) stands.0
