-- The workers stand in order after an event that brings or uses several files, and after one that concerns no file in memory.
use Rattle.std.proofs.Common.{◌≡◌, ◌∙◌, ℕ, zero, suc, ◌+◌, ◌<◌, ◌⊎◌, inl, inr, Bool, true, false, ◌&&◌, ◌||◌, if◌then◌else◌, List, [], ◌∷◌, ◌++◌, length, slice_get, Option, Some, None, is_some, is_none, refl, sym, ap, subst, arith}
use Rattle.std.specs.List.{AllByRecursion, list_any}
use Rattle.std.specs.declared.cmp.Ordering.TheVariants.{Less}
use Rattle.std.proofs.lemmas.Bool.{and_parts}
use Rattle.tl_types.specs.Block.{FileOutcome}
use Rattle.tl_types.specs.Same.{file_cmp, file_same, record_same, record_same-Decides}
use Rattle.tl_types.specs.declared.actor.Actor.{Actor}
use Rattle.tl_types.specs.declared.file_id.FileId.{FileId}
use Rattle.tl_types.specs.declared.record_id.RecordId.{RecordId}
use Rattle.tl_types.specs.declared.worker_id.WorkerId.{WorkerId}
use Rattle.tl_model.specs.declared.header.Header.{Header}
use Rattle.tl_model.specs.declared.record.Record.{Record}
use Rattle.tl_model.specs.declared.event.Act.{Act}
use Rattle.tl_model.specs.declared.event.Act.TheVariants.{Call, Served, Shut, Claim, Done, Back, Lose, Free, Drop, Load, Save, Saved, Unsave, Collect}
use Rattle.tl_model.specs.Past.{Past, Plain}
use Rattle.tl_model.specs.History.{records_of, calls_of, with_call, record_at, has_output, is_output}
use Rattle.tl_model.specs.Residency.{place, place_after, recency, uses, reads_of_claim, is_resident, is_at}
use Rattle.tl_model.specs.Eviction.{Sizes}
use Rattle.tl_store.specs.Contents.{Blocks, block_size, has}
use Rattle.tl_fleet.specs.Workers as worker
use Rattle.tl_fleet.specs.Workers.{Workers, has_file}
use Rattle.tl_fleet.specs.Order.{Ascends, Sight, sight_of, is_made, IsOfFile, EachStands, Stands, StandsInOrder}
use Rattle.tl_fleet.specs.Events.{among, files_of, installed_each, touched_each, after_done, after_claim, concerns_memory}
use Rattle.tl_fleet.proofs.Sooner.{lesser_asym}
use Rattle.tl_fleet.proofs.Files.{same_is, either, has_among}
use Rattle.tl_fleet.proofs.Steps.{brought, used_at, number, IsNewest, each_there, some_at, stays}
use Rattle.tl_fleet.proofs.Events.{stands_brought, stands_used, used_before}

-- ---- the same is known of the files in memory

each_like : (old sizes : Sizes) (header : Header) (s t : Sight) → ((f : FileId) → t.place f ≡ s.place f) → ((f : FileId) → is_some (s.place f) ≡ true → t.recency f ≡ s.recency f) →
    ((f : FileId) → s.is_made f ≡ true → (sizes f ≡ old f) × (t.is_made f ≡ true)) → (n : ℕ) (ws : Workers) → EachStands old header s n ws → EachStands sizes header t n ws
each_like old sizes header s t places recencies made n [] h = tt
each_like old sizes header s t places recencies made n (w ∷ ws) h = (
  (
    h.0.0,
    stays old s sizes t n w.store.blocks h.0.1 (λ f. h.0.1.resident f ∙ ap (is_at (number n)) (sym (places f)))
        (λ f there. recencies f (some_at (number n) (s.place f) (sym (h.0.1.resident f) ∙ there))) made,
  ),
  each_like old sizes header s t places recencies made (n + 1) ws h.1,
)

stands_like : (old sizes : Sizes) (header : Header) (s t : Sight) (ws : Workers) → Stands old header s ws → ((f : FileId) → t.place f ≡ s.place f) →
    ((f : FileId) → is_some (s.place f) ≡ true → t.recency f ≡ s.recency f) → ((f : FileId) → s.is_made f ≡ true → (sizes f ≡ old f) × (t.is_made f ≡ true)) → Stands sizes header t ws
stands_like old sizes header s t ws h places recencies made = (h.0, each_like old sizes header s t places recencies made 0 ws h.1, λ f v e. h.2 f v (sym (places f) ∙ e))

-- ---- one file after another

abbrev all_brought : WorkerId → List FileId → ℕ → Sight → Sight
all_brought w [] time s = s
all_brought w (f ∷ fs) time s = all_brought w fs time (brought w f time s)

abbrev all_used : List FileId → ℕ → Sight → Sight
all_used [] time s = s
all_used (f ∷ fs) time s = all_used fs time (used_at f time s)

-- each file in memory was used sooner, or then, and is lesser than each of these
abbrev IsNewestOf : Sight → ℕ → List FileId → Type 0
IsNewestOf s time fs = (f : FileId) → is_some (s.place f) ≡ true → (s.recency f < time) ⊎ ((s.recency f ≡ time) × AllByRecursion (λ g. file_cmp f g ≡ Less) fs)

newest_first : (s : Sight) (time : ℕ) (g : FileId) (gs : List FileId) → IsNewestOf s time (g ∷ gs) → IsNewest s time g
newest_first s time g gs newest f off there = elim (newest f there) [ inl l ↦ inl l | inr l ↦ inr (l.0, l.1.0) ]

module _ (s : Sight) (time : ℕ) (g : FileId) (gs : List FileId) (newest : IsNewestOf s time (g ∷ gs)) (ascends : Ascends (g ∷ gs)) where
  newest_now : (f : FileId) → (file_same f g ≡ false → is_some (s.place f) ≡ true) →
      ((if file_same f g then time else s.recency f) < time) ⊎ (((if file_same f g then time else s.recency f) ≡ time) × AllByRecursion (λ h. file_cmp f h ≡ Less) gs)
  newest_now f there = elim (either (file_same f g)) [
    | inl t ↦ inr (ap (λ b. if b then time else s.recency f) t, subst (λ x. AllByRecursion (λ h. file_cmp x h ≡ Less) gs) (sym (same_is f g t)) ascends.0)
    | inr t ↦
        let same : (if file_same f g then time else s.recency f) ≡ s.recency f = ap (λ b. if b then time else s.recency f) t in
        elim (newest f (there t)) [
          | inl l ↦ inl (omega arith)
          | inr l ↦ inr (same ∙ l.0, l.1.1)
        ]
  ]

  newest_used : IsNewestOf (used_at g time s) time gs
  newest_used f there = newest_now f (λ off. there)

  newest_brought : (w : WorkerId) → IsNewestOf (brought w g time s) time gs
  newest_brought w f there = newest_now f (λ off. sym (ap (λ b. is_some (if b then Some w else s.place f)) off) ∙ there)

pub at_each : (s : Sight) (f : FileId) (sizes : Sizes) (header : Header) (n : ℕ) (ws : Workers) → s.place f ≡ None → EachStands sizes header s n ws → list_any (has_file f) ws ≡ false
at_each s f sizes header n [] e h = refl
at_each s f sizes header n (w ∷ ws) e h = ap (λ b. b || list_any (has_file f) ws) (h.0.1.resident f ∙ ap (is_at (number n)) e) ∙ at_each s f sizes header (n + 1) ws e h.1

pub not_same : (g f : FileId) → file_cmp g f ≡ Less → file_same f g ≡ false
not_same g f l = elim (either (file_same f g)) [
  | inl t ↦ let at : f ≡ g = same_is f g t in absurd (lesser_asym g g (ap (file_cmp g) (sym at) ∙ l) (ap (file_cmp g) (sym at) ∙ l))
  | inr t ↦ t
]

still_none : (w : WorkerId) (g : FileId) (time : ℕ) (s : Sight) (bs : Blocks) → AllByRecursion (λ h. file_cmp g h ≡ Less) (files_of bs) → AllByRecursion (λ b. s.place b.file ≡ None) bs →
    AllByRecursion (λ b. (if file_same b.file g then Some w else s.place b.file) ≡ None) bs
still_none w g time s [] l h = tt
still_none w g time s (b ∷ bs) l h = (ap (λ x. if x then Some w else s.place b.file) (not_same g b.file l.0) ∙ h.0, still_none w g time s bs l.1 h.1)

module _ (sizes : Sizes) (header : Header) (time : ℕ) where
  each_used : (fs : List FileId) (s : Sight) (ws : Workers) → Stands sizes header s ws → Ascends fs → IsNewestOf s time fs → Stands sizes header (all_used fs time s) (touched_each fs ws)
  each_used [] s ws h ascends newest = h
  each_used (f ∷ fs) s ws h ascends newest =
      each_used fs (used_at f time s) (worker.all_touched f ws) (stands_used sizes header s ws h f time (newest_first s time f fs newest)) ascends.1 (newest_used s time f fs newest ascends)

  each_brought : (w : WorkerId) → w.0 < header.workers → (bs : Blocks) (s : Sight) (ws : Workers) → Stands sizes header s ws → Ascends (files_of bs) → IsNewestOf s time (files_of bs) →
      AllByRecursion (λ b. s.place b.file ≡ None) bs → AllByRecursion (IsOfFile sizes s) bs → Stands sizes header (all_brought w (files_of bs) time s) (installed_each w bs ws)
  each_brought w known [] s ws h ascends newest none of = h
  each_brought w known (b ∷ bs) s ws h ascends newest none of =
      each_brought w known bs (brought w b.file time s) (worker.installed w b ws)
      (stands_brought sizes header s ws h w b time known (at_each s b.file sizes header 0 ws none.0 h.1) of.0 (newest_first s time b.file (files_of bs) newest))
      ascends.1 (newest_brought s time b.file (files_of bs) newest ascends w) (still_none w b.file time s bs ascends.0 none.1) of.1

-- ---- what is known at the end

either_of : {A : Type 0} (a b : Bool) (x y : A) → (if b then x else (if a then x else y)) ≡ (if (a || b) then x else y)
either_of true true x y = refl
either_of true false x y = refl
either_of false b x y = refl

used_place : (fs : List FileId) (time : ℕ) (s : Sight) (f : FileId) → (all_used fs time s).place f ≡ s.place f
used_place [] time s f = refl
used_place (g ∷ fs) time s f = used_place fs time (used_at g time s) f

used_recency : (fs : List FileId) (time : ℕ) (s : Sight) (f : FileId) → (all_used fs time s).recency f ≡ (if among f fs then time else s.recency f)
used_recency [] time s f = refl
used_recency (g ∷ fs) time s f = used_recency fs time (used_at g time s) f ∙ either_of (file_same f g) (among f fs) time (s.recency f)

used_made : (fs : List FileId) (time : ℕ) (s : Sight) (f : FileId) → (all_used fs time s).is_made f ≡ s.is_made f
used_made [] time s f = refl
used_made (g ∷ fs) time s f = used_made fs time (used_at g time s) f

brought_place : (w : WorkerId) (fs : List FileId) (time : ℕ) (s : Sight) (f : FileId) → (all_brought w fs time s).place f ≡ (if among f fs then Some w else s.place f)
brought_place w [] time s f = refl
brought_place w (g ∷ fs) time s f = brought_place w fs time (brought w g time s) f ∙ either_of (file_same f g) (among f fs) (Some w) (s.place f)

brought_recency : (w : WorkerId) (fs : List FileId) (time : ℕ) (s : Sight) (f : FileId) → (all_brought w fs time s).recency f ≡ (if among f fs then time else s.recency f)
brought_recency w [] time s f = refl
brought_recency w (g ∷ fs) time s f = brought_recency w fs time (brought w g time s) f ∙ either_of (file_same f g) (among f fs) time (s.recency f)

brought_made : (w : WorkerId) (fs : List FileId) (time : ℕ) (s : Sight) (f : FileId) → (all_brought w fs time s).is_made f ≡ s.is_made f
brought_made w [] time s f = refl
brought_made w (g ∷ fs) time s f = brought_made w fs time (brought w g time s) f

-- ---- a claim

and_on : (a b : Bool) → b ≡ true → (a && b) ≡ a
and_on true b h = h
and_on false b h = refl

now_newest_of : (past : Past) (fs : List FileId) → IsNewestOf (sight_of past) (length past) fs
now_newest_of past fs f there = inl (used_before past f there)

pub claim_stands : (sizes : Sizes) (header : Header) (past : Past) (actor : Actor) (w : WorkerId) (made : RecordId) (fs : List FileId) (ws : Workers) → StandsInOrder sizes header past ws → Ascends fs →
    ((f : FileId) → is_resident past f ≡ true → among f fs ≡ reads_of_claim past f made) → StandsInOrder sizes header (after_claim actor w made past) (touched_each fs ws)
claim_stands sizes header past actor w made fs ws h ascends just =
    let s = sight_of past in
    let now = length past in
    stands_like sizes sizes header (all_used fs now s) (sight_of (after_claim actor w made past)) (touched_each fs ws)
    (each_used sizes header now fs s ws h ascends (now_newest_of past fs))
    (λ f. sym (used_place fs now s f))
    (λ f there.
    let here : is_resident past f ≡ true = ap is_some (sym (used_place fs now s f)) ∙ there in
    ap (λ b. if b then now else recency past f) (and_on (reads_of_claim past f made) (is_resident past f) here ∙ sym (just f here)) ∙ sym (used_recency fs now s f))
    (λ f m. (refl, sym (used_made fs now s f) ∙ m))

-- ---- a done

brings : (w : WorkerId) (x m : Bool) → m ≡ (x && true) → (if x then Some w else None) ≡ (if m then Some w else None)
brings w true true e = refl
brings w true false e = absurd (cc)
brings w false true e = absurd (cc)
brings w false false e = refl

keeps : (v w : WorkerId) (x m : Bool) → m ≡ (x && false) → Some v ≡ (if m then Some w else Some v)
keeps v w true true e = absurd (cc)
keeps v w false true e = absurd (cc)
keeps v w x false e = refl

place_done : (past : Past) (w : WorkerId) (made : RecordId) (f : FileId) (o : Option WorkerId) (m : Bool) → m ≡ (is_output past f made && is_none o) →
    place_after past (Done w made) f o ≡ (if m then Some w else o)
place_done past w made f None m e = brings w (is_output past f made) m e
place_done past w made f (Some v) m e = keeps v w (is_output past f made) m e

none_is : (o : Option WorkerId) → is_none o ≡ true → o ≡ None
none_is None h = refl
none_is (Some v) h = absurd (cc)

output_made : (past : Past) (f : FileId) (made : RecordId) → is_output past f made ≡ true → is_made past f ≡ true
output_made past f made h =
    let parts = and_parts (record_same f.rec made) (has_output (record_at past made) f.out) h in
    ap (λ r. has_output (record_at past r) f.out) ((record_same-Decides f.rec made).0 parts.0) ∙ parts.1

pub done_stands : (sizes : Sizes) (header : Header) (past : Past) (actor : Actor) (w : WorkerId) (made : RecordId) (bs : Blocks) (ws : Workers) → StandsInOrder sizes header past ws → w.0 < header.workers →
    Ascends (files_of bs) → ((f : FileId) → among f (files_of bs) ≡ (is_output past f made && is_none (place past f))) → AllByRecursion (λ b. block_size b ≡ sizes b.file) bs →
    StandsInOrder sizes header (after_done actor w made past) (installed_each w bs ws)
done_stands sizes header past actor w made bs ws h known ascends just long =
    let s = sight_of past in
    let now = length past in
    let fs = files_of bs in
    let parts : (b : FileOutcome) → has b.file bs ≡ true → (is_output past b.file made ≡ true) × (is_none (place past b.file) ≡ true) =
    λ b there. and_parts (is_output past b.file made) (is_none (place past b.file)) (sym (just b.file) ∙ sym (has_among b.file bs) ∙ there) in
    stands_like sizes sizes header (all_brought w fs now s) (sight_of (after_done actor w made past)) (installed_each w bs ws)
    (each_brought sizes header now w known bs s ws h ascends (now_newest_of past fs)
    (each_there (λ b. block_size b ≡ sizes b.file) (λ b. s.place b.file ≡ None) bs (λ b there l. none_is (place past b.file) (parts b there).1) long)
    (each_there (λ b. block_size b ≡ sizes b.file) (IsOfFile sizes s) bs (λ b there l. (l, output_made past b.file made (parts b there).0)) long))
    (λ f. place_done past w made f (place past f) (among f fs) (just f) ∙ sym (brought_place w fs now s f))
    (λ f there. ap (λ b. if b then now else recency past f) (sym (just f)) ∙ sym (brought_recency w fs now s f))
    (λ f m. (refl, sym (brought_made w fs now s f) ∙ m))

-- ---- an event that concerns no file in memory

other_place : (past : Past) (act : Act (Unit {0})) (f : FileId) (o : Option WorkerId) → concerns_memory act ≡ false → place_after past act f o ≡ o
other_place past (Call command reply) f o h = refl
other_place past (Served g digest) f o h = absurd (cc)
other_place past (Shut g) f o h = refl
other_place past (Claim w made) f o h = absurd (cc)
other_place past (Done w made) f o h = absurd (cc)
other_place past (Back made) f o h = refl
other_place past (Lose w) f o h = absurd (cc)
other_place past (Free g) f o h = absurd (cc)
other_place past (Drop w g) f o h = absurd (cc)
other_place past (Load w g) f o h = absurd (cc)
other_place past (Save g) f o h = refl
other_place past (Saved g size digest) f o h = refl
other_place past (Unsave g) f o h = refl
other_place past (Collect made) f o h = refl

other_uses : (past : Past) (act : Act (Unit {0})) (f : FileId) → concerns_memory act ≡ false → uses past act f ≡ false
other_uses past (Call command reply) f h = refl
other_uses past (Served g digest) f h = absurd (cc)
other_uses past (Shut g) f h = refl
other_uses past (Claim w made) f h = absurd (cc)
other_uses past (Done w made) f h = absurd (cc)
other_uses past (Back made) f h = refl
other_uses past (Lose w) f h = refl
other_uses past (Free g) f h = refl
other_uses past (Drop w g) f h = refl
other_uses past (Load w g) f h = absurd (cc)
other_uses past (Save g) f h = refl
other_uses past (Saved g size digest) f h = refl
other_uses past (Unsave g) f h = refl
other_uses past (Collect made) f h = refl

get_longer : (rs more : List Record) (i : ℕ) (out : ℕ) → has_output (slice_get rs i) out ≡ true → has_output (slice_get (rs ++ more) i) out ≡ true
get_longer [] more i out h = absurd (cc)
get_longer (r ∷ rs) more zero out h = h
get_longer (r ∷ rs) more (suc i) out h = get_longer rs more i out h

abbrev made_in : List Record → FileId → Bool
made_in rs f = has_output (slice_get rs f.rec.0) f.out

still_made : (past : Past) (actor : Actor) (act : Act (Unit {0})) (f : FileId) → is_made past f ≡ true → made_in (records_of (with_call actor act (calls_of past))) f ≡ true
still_made past actor (Call command reply) f h = get_longer (records_of (calls_of past)) _ f.rec.0 f.out h
still_made past actor (Served g digest) f h = h
still_made past actor (Shut g) f h = h
still_made past actor (Claim w made) f h = h
still_made past actor (Done w made) f h = h
still_made past actor (Back made) f h = h
still_made past actor (Lose w) f h = h
still_made past actor (Free g) f h = h
still_made past actor (Drop w g) f h = h
still_made past actor (Load w g) f h = h
still_made past actor (Save g) f h = h
still_made past actor (Saved g size digest) f h = h
still_made past actor (Unsave g) f h = h
still_made past actor (Collect made) f h = h

pub other_stands : (old sizes : Sizes) (header : Header) (past : Past) (e : Plain) (ws : Workers) → concerns_memory e.act ≡ false → ((f : FileId) → is_made past f ≡ true → sizes f ≡ old f) →
    StandsInOrder old header past ws → StandsInOrder sizes header (e ∷ past) ws
other_stands old sizes header past e ws off same h =
    stands_like old sizes header (sight_of past) (sight_of (e ∷ past)) ws h
    (λ f. other_place past e.act f (place past f) off)
    (λ f there. ap (λ b. if b then length past else recency past f) (other_uses past e.act f off))
    (λ f m. (same f m, still_made past e.actor e.act f m))
