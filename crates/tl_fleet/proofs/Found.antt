-- What is found of a file after a change of workers.
use Rattle.std.proofs.Common.{◌≡◌, ◌∙◌, ℕ, zero, suc, ◌+◌, ◌<◌, ◌≤◌, inl, inr, Bool, true, false, not, ◌&&◌, cond, if◌then◌else◌, List, [], ◌∷◌, length, map, Option, Some, None, is_some, refl, sym, ap, subst, arith}
use Rattle.std.specs.List.{AllByRecursion, list_any}
use Rattle.std.specs.Option.{option_map, option_map_or}
use Rattle.std.proofs.lemmas.Bool.{or_parts}
use Rattle.std.proofs.lemmas.Bool.Decides.{Decides-eqb}
use Rattle.std.proofs.lemmas.Option.{none-some, some_pair_parts}
use Rattle.tl_types.specs.Block.{FileOutcome}
use Rattle.tl_types.specs.Same.{file_same}
use Rattle.tl_types.specs.declared.file_id.FileId.{FileId}
use Rattle.tl_types.specs.declared.worker_id.WorkerId.{WorkerId}
use Rattle.tl_model.specs.Residency.{is_at}
use Rattle.tl_store.specs.Contents.{Blocks, block_of, touched, without}
use Rattle.tl_fleet.specs.Events.{among, files_of, installed_each, touched_each}
use Rattle.tl_fleet.specs.Order.{Ascends}
use Rattle.tl_fleet.specs.Workers.{IsOnce, Workers, all_touched, all_without, changed_at, copies, copies_in, emptied, found, found_from, has_file, installed, is_resident, lost, put_front, with_blocks, worker_found}
use Rattle.tl_fleet.specs.declared.worker.Worker.{Worker}
use Rattle.tl_fleet.proofs.Copies.{block_is, copies_some}
use Rattle.tl_fleet.proofs.Files.{Distinct, ascends_distinct, either, has_among, same_is, same_turned}
use Rattle.tl_fleet.proofs.Places.{found_some}
use Rattle.tl_fleet.proofs.Steps.{number, off_worker}

-- ---- the block of a file among those of one worker

none_is : (o : Option FileOutcome) → is_some o ≡ false → o ≡ None
none_is None h = refl
none_is (Some b) h = absurd (cc)

block_cond : (g : FileId) (t : Bool) (b : FileOutcome) (bs : Blocks) → block_of g (cond t (b ∷ bs) bs) ≡ cond t (cond (file_same g b.file) (Some b) (block_of g bs)) (block_of g bs)
block_cond g true b bs = refl
block_cond g false b bs = refl

-- a block b, by tests whether f is its file, whether g is f, and whether g is its file
without_step : (fb gf gb : Bool) (b : FileOutcome) (rest left : Option FileOutcome) → left ≡ (if gf then None else rest) → (fb ≡ true → gf ≡ false → gb ≡ false) → (fb ≡ false → gb ≡ true → gf ≡ false) →
    cond (not fb) (cond gb (Some b) left) left ≡ (if gf then None else cond gb (Some b) rest)
without_step true true gb b rest left e other apart = e
without_step true false true b rest left e other apart = let no : true ≡ false = other refl refl in absurd (cc)
without_step true false false b rest left e other apart = e
without_step false true true b rest left e other apart = let no : true ≡ false = apart refl refl in absurd (cc)
without_step false true false b rest left e other apart = e
without_step false false true b rest left e other apart = refl
without_step false false false b rest left e other apart = e

none_either : (t : Bool) → ◌≡◌ {A = Option FileOutcome} None (if t then None else None)
none_either true = refl
none_either false = refl

block_without : (g f : FileId) (bs : Blocks) → block_of g (without f bs) ≡ (if file_same g f then None else block_of g bs)
block_without g f [] = none_either (file_same g f)
block_without g f (b ∷ bs) =
    block_cond g (not (file_same f b.file)) b (without f bs)
    ∙ without_step (file_same f b.file) (file_same g f) (file_same g b.file) b (block_of g bs) (block_of g (without f bs)) (block_without g f bs)
    (λ on off. ap (file_same g) (sym (same_is f b.file on)) ∙ off)
    (λ off on. same_turned g f ∙ ap (file_same f) (same_is g b.file on) ∙ off)

touched_at : (g f : FileId) (bs : Blocks) (o : Option FileOutcome) → block_of f bs ≡ o → block_of g (option_map_or (λ b. b ∷ without f bs) o bs) ≡ block_of g bs
touched_at g f bs None e = refl
touched_at g f bs (Some b) e =
    let is : b.file ≡ f = block_is f bs b e in
    let front = λ (x : Bool). cond x (Some b) (block_of g (without f bs)) in
    elim (either (file_same g f)) [
      | inl t ↦ ap front (ap (file_same g) is ∙ t) ∙ sym e ∙ ap (λ x. block_of x bs) (sym (same_is g f t))
      | inr t ↦ ap front (ap (file_same g) is ∙ t) ∙ block_without g f bs ∙ ap (λ x. if x then None else block_of g bs) t
    ]

block_touched : (g f : FileId) (bs : Blocks) → block_of g (touched f bs) ≡ block_of g bs
block_touched g f bs = touched_at g f bs (block_of f bs) refl

-- ---- workers

abbrev Found : Type 0
Found = Option (WorkerId × FileOutcome)

-- the block on worker n, or else what is found later
abbrev here_or : ℕ → Option FileOutcome → Found → Found
here_or n o later = option_map_or (λ block. Some (number n, block)) o later

abbrev found_at : WorkerId → Found → Bool
found_at w o = is_at w (option_map worker_found o)

abbrev block_on : FileId → Worker → Option FileOutcome
block_on g worker = block_of g worker.store.blocks

abbrev KeepsBlock : FileId → (Worker → Worker) → Type 0
KeepsBlock g change = (w : Worker) → block_on g (change w) ≡ block_on g w

abbrev TakesBlock : FileId → (Worker → Worker) → Type 0
TakesBlock g change = (w : Worker) → block_on g (change w) ≡ None

module _ (g : FileId) (change : Worker → Worker) where
  mapped : KeepsBlock g change → (n : ℕ) (ws : Workers) → found_from n g (map change ws) ≡ found_from n g ws
  mapped same n [] = refl
  mapped same n (w ∷ ws) = ap (λ o. here_or n o (found_from (n + 1) g (map change ws))) (same w) ∙ ap (here_or n (block_on g w)) (mapped same (n + 1) ws)

  mapped_away : TakesBlock g change → (n : ℕ) (ws : Workers) → found_from n g (map change ws) ≡ None
  mapped_away none n [] = refl
  mapped_away none n (w ∷ ws) = ap (λ o. here_or n o (found_from (n + 1) g (map change ws))) (none w) ∙ mapped_away none (n + 1) ws

  kept : KeepsBlock g change → (n k : ℕ) (ws : Workers) → found_from n g (changed_at k change ws) ≡ found_from n g ws
  kept same n zero [] = refl
  kept same n (suc k) [] = refl
  kept same n zero (w ∷ ws) = ap (λ o. here_or n o (found_from (n + 1) g ws)) (same w)
  kept same n (suc k) (w ∷ ws) = ap (here_or n (block_on g w)) (kept same (n + 1) k ws)

-- ---- a file is used, or freed

pub one_touched : (g f : FileId) (ws : Workers) → found g (all_touched f ws) ≡ found g ws
one_touched g f ws = mapped g (with_blocks (touched f)) (λ w. block_touched g f w.store.blocks) 0 ws

pub each_touched : (g : FileId) (fs : List FileId) (ws : Workers) → found g (touched_each fs ws) ≡ found g ws
each_touched g [] ws = refl
each_touched g (f ∷ fs) ws = each_touched g fs (all_touched f ws) ∙ one_touched g f ws

taken_out : (g f : FileId) → file_same g f ≡ true → TakesBlock g (with_blocks (without f))
taken_out g f t w = block_without g f w.store.blocks ∙ ap (λ x. if x then None else block_on g w) t

left_in : (g f : FileId) → file_same g f ≡ false → KeepsBlock g (with_blocks (without f))
left_in g f t w = block_without g f w.store.blocks ∙ ap (λ x. if x then None else block_on g w) t

pub freed : (g f : FileId) (ws : Workers) → found g (all_without f ws) ≡ (if file_same g f then None else found g ws)
freed g f ws = elim (either (file_same g f)) [
  | inl t ↦ mapped_away g (with_blocks (without f)) (taken_out g f t) 0 ws ∙ ap (λ x. if x then None else found g ws) (sym t)
  | inr t ↦ mapped g (with_blocks (without f)) (left_in g f t) 0 ws ∙ ap (λ x. if x then None else found g ws) (sym t)
]

-- ---- a file goes from one worker

none_step : (n : ℕ) (o : Option FileOutcome) (later : Found) (own count : ℕ) → (is_some o ≡ true → 1 ≤ own) → own + count ≡ 0 → (count ≡ 0 → later ≡ None) → here_or n o later ≡ None
none_step n None later own count here e rest = rest (omega arith)
none_step n (Some b) later own count here e rest = let some : 1 ≤ own = here refl in absurd (omega arith)

none_found : (g : FileId) (n : ℕ) (ws : Workers) → copies g ws ≡ 0 → found_from n g ws ≡ None
none_found g n [] e = refl
none_found g n (w ∷ ws) e =
    none_step n (block_on g w) (found_from (n + 1) g ws) (copies_in g w.store.blocks) (copies g ws) (copies_some g w.store.blocks) e (none_found g (n + 1) ws)

later_step : (v : WorkerId) (n : ℕ) (o : Option FileOutcome) (later : Found) → v.0 < n → found_at v later ≡ false → found_at v (here_or n o later) ≡ false
later_step v n None later l e = e
later_step v n (Some b) later l e = off_worker v.0 n (λ same. omega arith)

-- what is found from worker n on is on no earlier one
not_earlier : (g : FileId) (v : WorkerId) (n : ℕ) (ws : Workers) → v.0 < n → found_at v (found_from n g ws) ≡ false
not_earlier g v n [] l = refl
not_earlier g v n (w ∷ ws) l = later_step v n (block_on g w) (found_from (n + 1) g ws) l (not_earlier g v (n + 1) ws (omega arith))

taken_here : (v : WorkerId) (n : ℕ) (o : Option FileOutcome) (later : Found) (own count : ℕ) → (is_some o ≡ true → 1 ≤ own) → own + count ≤ 1 → (count ≡ 0 → later ≡ None) → found_at v later ≡ false →
    v.0 ≡ n → later ≡ (if found_at v (here_or n o later) then None else here_or n o later)
taken_here v n None later own count here once none off at = ap (λ x. if x then None else later) (sym off)
taken_here v n (Some b) later own count here once none off at =
    let some : 1 ≤ own = here refl in
    none (omega arith) ∙ ap (λ x. if x then None else Some (number n, b)) (sym ((Decides-eqb v.0 n).1 at))

taken_there : (v : WorkerId) (n : ℕ) (o : Option FileOutcome) (later now : Found) → now ≡ (if found_at v later then None else later) →
    (v.0 ≡ n → ⊥) → here_or n o now ≡ (if found_at v (here_or n o later) then None else here_or n o later)
taken_there v n None later now so off = so
taken_there v n (Some b) later now so off = ap (λ x. if x then None else Some (number n, b)) (sym (off_worker v.0 n off))

taken : (g : FileId) (change : Worker → Worker) → TakesBlock g change → (v : WorkerId) (n k : ℕ) (ws : Workers) → copies g ws ≤ 1 → v.0 ≡ n + k →
    found_from n g (changed_at k change ws) ≡ (if found_at v (found_from n g ws) then None else found_from n g ws)
taken g change none v n zero [] once at = refl
taken g change none v n (suc k) [] once at = refl
taken g change none v n zero (w ∷ ws) once at =
    ap (λ o. here_or n o (found_from (n + 1) g ws)) (none w)
    ∙ taken_here v n (block_on g w) (found_from (n + 1) g ws) (copies_in g w.store.blocks) (copies g ws) (copies_some g w.store.blocks) once (none_found g (n + 1) ws)
    (not_earlier g v (n + 1) ws (omega arith)) (omega arith)
taken g change none v n (suc k) (w ∷ ws) once at =
    taken_there v n (block_on g w) (found_from (n + 1) g ws) (found_from (n + 1) g (changed_at k change ws))
    (taken g change none v (n + 1) k ws (omega arith) (omega arith)) (λ same. omega arith)

pub lost_there : (g : FileId) (w : WorkerId) (ws : Workers) → IsOnce ws → found g (lost w ws) ≡ (if is_at w (option_map worker_found (found g ws)) then None else found g ws)
lost_there g w ws once = taken g emptied (λ x. refl) w 0 w.0 ws (once g) (omega arith)

pub dropped_there : (g f : FileId) (w : WorkerId) (ws : Workers) → IsOnce ws →
    found g (changed_at w.0 (with_blocks (without f)) ws) ≡ (if file_same g f && is_at w (option_map worker_found (found g ws)) then None else found g ws)
dropped_there g f w ws once =
    let gone = λ (x : Bool). if x && found_at w (found g ws) then None else found g ws in
    elim (either (file_same g f)) [
      | inl t ↦ taken g (with_blocks (without f)) (taken_out g f t) w 0 w.0 ws (once g) (omega arith) ∙ ap gone (sym t)
      | inr t ↦ kept g (with_blocks (without f)) (left_in g f t) 0 w.0 ws ∙ ap gone (sym t)
    ]

-- ---- a file comes

brought_first : (g : FileId) (w : WorkerId) (block : FileOutcome) → file_same g block.file ≡ true → (n k : ℕ) (ws : Workers) → k < length ws → list_any (has_file g) ws ≡ false → w.0 ≡ n + k →
    found_from n g (changed_at k (with_blocks (put_front block)) ws) ≡ Some (w, block)
brought_first g w block t n k [] l absent at = absurd (omega arith)
brought_first g w block t n zero (x ∷ ws) l absent at =
    let here : n ≡ w.0 = omega arith in
    ap (λ y. here_or n (cond y (Some block) (block_on g x)) (found_from (n + 1) g ws)) t ∙ (λ i. Some (record { 0 = here i }, block))
brought_first g w block t n (suc k) (x ∷ ws) l absent at =
    let parts = or_parts (has_file g x) (list_any (has_file g) ws) absent in
    ap (λ o. here_or n o (found_from (n + 1) g (changed_at k (with_blocks (put_front block)) ws))) (none_is (block_on g x) parts.0)
    ∙ brought_first g w block t (n + 1) k ws (omega arith) parts.1 (omega arith)

pub one_brought : (g : FileId) (w : WorkerId) (block : FileOutcome) (ws : Workers) → w.0 < length ws → is_resident block.file ws ≡ false →
    found g (installed w block ws) ≡ (if file_same g block.file then Some (w, block) else found g ws)
one_brought g w block ws l absent =
    let now = λ (x : Bool). if x then Some (w, block) else found g ws in
    elim (either (file_same g block.file)) [
      | inl t ↦ brought_first g w block t 0 w.0 ws l (ap (λ x. list_any (has_file x) ws) (same_is g block.file t) ∙ absent) (omega arith) ∙ ap now (sym t)
      | inr t ↦ kept g (with_blocks (put_front block)) (λ x. ap (λ y. cond y (Some block) (block_on g x)) t) 0 w.0 ws ∙ ap now (sym t)
    ]

-- ---- several files come

length_changed : (k : ℕ) (change : Worker → Worker) (ws : Workers) → length (changed_at k change ws) ≡ length ws
length_changed zero change [] = refl
length_changed (suc k) change [] = refl
length_changed zero change (w ∷ ws) = refl
length_changed (suc k) change (w ∷ ws) = ap suc (length_changed k change ws)

still_absent : (f : FileId) (w : WorkerId) (b : FileOutcome) (ws : Workers) → w.0 < length ws → is_resident b.file ws ≡ false → file_same f b.file ≡ false → is_resident f ws ≡ false →
    is_resident f (installed w b ws) ≡ false
still_absent f w b ws l absent off before =
    found_some 0 f (installed w b ws)
    ∙ ap (λ o. is_some (option_map worker_found o)) (one_brought f w b ws l absent ∙ ap (λ x. if x then Some (w, b) else found f ws) off)
    ∙ sym (found_some 0 f ws) ∙ before

all_absent : (w : WorkerId) (b : FileOutcome) (ws : Workers) → w.0 < length ws → is_resident b.file ws ≡ false → (bs : Blocks) → among b.file (files_of bs) ≡ false →
    AllByRecursion (λ c. is_resident c.file ws ≡ false) bs → AllByRecursion (λ c. is_resident c.file (installed w b ws) ≡ false) bs
all_absent w b ws l absent [] off h = tt
all_absent w b ws l absent (c ∷ bs) off h =
    let parts = or_parts (file_same b.file c.file) (among b.file (files_of bs)) off in
    (still_absent c.file w b ws l absent (same_turned c.file b.file ∙ parts.0) h.0, all_absent w b ws l absent bs parts.1 h.1)

abbrev brought_or : WorkerId → Option FileOutcome → Found → Found
brought_or w o before = option_map_or (λ block. Some (w, block)) o before

each_step : (w : WorkerId) (gb : Bool) (b : FileOutcome) (o : Option FileOutcome) (before : Found) → (gb ≡ true → o ≡ None) →
    brought_or w o (if gb then Some (w, b) else before) ≡ brought_or w (cond gb (Some b) o) before
each_step w true b None before none = refl
each_step w true b (Some c) before none = let no : Some c ≡ None = none refl in absurd (cc)
each_step w false b o before none = refl

distinct_brought : (g : FileId) (w : WorkerId) (bs : Blocks) (ws : Workers) → w.0 < length ws → AllByRecursion (λ b. is_resident b.file ws ≡ false) bs → Distinct (files_of bs) →
    found g (installed_each w bs ws) ≡ brought_or w (block_of g bs) (found g ws)
distinct_brought g w [] ws l absent apart = refl
distinct_brought g w (b ∷ bs) ws l absent apart =
    distinct_brought g w bs (installed w b ws) (subst (λ k. w.0 < k) (sym (length_changed w.0 (with_blocks (put_front b)) ws)) l) (all_absent w b ws l absent.0 bs apart.0 absent.1) apart.1
    ∙ ap (brought_or w (block_of g bs)) (one_brought g w b ws l absent.0)
    ∙ each_step w (file_same g b.file) b (block_of g bs) (found g ws)
    (λ t. none_is (block_of g bs) (has_among g bs ∙ ap (λ x. among x (files_of bs)) (same_is g b.file t) ∙ apart.0))

pub each_brought : (g : FileId) (w : WorkerId) (bs : Blocks) (ws : Workers) → w.0 < length ws → AllByRecursion (λ b. is_resident b.file ws ≡ false) bs → Ascends (files_of bs) →
    found g (installed_each w bs ws) ≡ option_map_or (λ b. Some (w, b)) (block_of g bs) (found g ws)
each_brought g w bs ws l absent ascends = distinct_brought g w bs ws l absent (ascends_distinct (files_of bs) ascends)

-- ---- what is found

of_step : (g : FileId) (v : WorkerId) (b : FileOutcome) (n m : ℕ) (bs : Blocks) (o : Option FileOutcome) (later : Found) → block_of g bs ≡ o → here_or n o later ≡ Some (v, b) →
    (later ≡ Some (v, b) → (b.file ≡ g) × (v.0 < n + 1 + m)) → (b.file ≡ g) × (v.0 < n + suc m)
of_step g v b n m bs None later e h rest = let r = rest h in (r.0, omega (arith, r.1))
of_step g v b n m bs (Some c) later e h rest =
    let parts = some_pair_parts (number n) v c b h in
    let here : n ≡ v.0 = ap (λ (x : WorkerId). x.0) parts.0 in
    (ap (λ (x : FileOutcome). x.file) (sym parts.1) ∙ block_is g bs c e, omega arith)

found_is : (g : FileId) (v : WorkerId) (b : FileOutcome) (n : ℕ) (ws : Workers) → found_from n g ws ≡ Some (v, b) → (b.file ≡ g) × (v.0 < n + length ws)
found_is g v b n [] e = absurd (none-some (v, b) e)
found_is g v b n (w ∷ ws) e = of_step g v b n (length ws) w.store.blocks (block_on g w) (found_from (n + 1) g ws) refl e (found_is g v b (n + 1) ws)

pub found_file : (g : FileId) (v : WorkerId) (b : FileOutcome) (ws : Workers) → found g ws ≡ Some (v, b) → b.file ≡ g
found_file g v b ws e = (found_is g v b 0 ws e).0

pub found_within : (g : FileId) (v : WorkerId) (b : FileOutcome) (ws : Workers) → found g ws ≡ Some (v, b) → v.0 < length ws
found_within g v b ws e = omega (arith, (found_is g v b 0 ws e).1)
