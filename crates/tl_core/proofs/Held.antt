-- What is known of a block that is found.
use Rattle.std.proofs.Common.{◌≡◌, Bool, true, false, cond, if◌then◌else◌, filter, List, [], ◌∷◌, ◌++◌, Option, Some, None, is_some, option_map, refl, sym, ap, ◌∙◌, subst}
use Rattle.std.specs.List.{AllByRecursion}
use Rattle.tl_types.specs.Same.{file_same, file_same-Decides}
use Rattle.tl_types.specs.declared.file_id.FileId.{FileId}
use Rattle.tl_types.specs.declared.worker_id.WorkerId.{WorkerId}
use Rattle.tl_core.specs.declared.resident.Resident.{Resident}
use Rattle.tl_types.specs.Block.{FileOutcome}
use Rattle.tl_core.specs.Residents.{Residents, is_of, found}
use Rattle.tl_core.specs.Brought.{with_block, with_blocks}
use Rattle.tl_core.specs.Done.{Blocks, first_block, or_else}

found_at : (P : Resident → Type 0) (f : FileId) (r : Resident) (rest : Residents) (b : Bool) (it : Resident) → is_of f r ≡ b → P r → AllByRecursion P rest →
    ((it : Resident) → AllByRecursion P rest → found f rest ≡ Some it → P it × (it.block.file ≡ f)) →
    cond b (Some r) (found f rest) ≡ Some it → P it × (it.block.file ≡ f)
found_at P f r rest true it e p ps later is =
    let same : r ≡ it = cc in
    let here : f ≡ r.block.file = (file_same-Decides f r.block.file).0 e in
    (subst P same p, sym (here ∙ ap (λ (x : Resident). x.block.file) same))
found_at P f r rest false it e p ps later is = later it ps is

-- it is one of the residents, and of the file
pub found-is : (P : Resident → Type 0) (f : FileId) (residents : Residents) (it : Resident) → AllByRecursion P residents → found f residents ≡ Some it →
    P it × (it.block.file ≡ f)
found-is P f [] it all is = absurd (cc)
found-is P f (r ∷ rest) it all is = found_at P f r rest (is_of f r) it refl all.0 all.1 (λ x ps e. found-is P f rest x ps e) is

-- ---- what holds of all

pub all-map : {A : Type 0} (P Q : A → Type 0) → ((a : A) → P a → Q a) → (xs : List A) → AllByRecursion P xs → AllByRecursion Q xs
all-map P Q f [] h = tt
all-map P Q f (x ∷ xs) h = (f x h.0, all-map P Q f xs h.1)

all-filter-at : {A : Type 0} (P Q : A → Type 0) (p : A → Bool) (x : A) (rest : List A) (b : Bool) → p x ≡ b → (p x ≡ true → Q x) → AllByRecursion Q rest →
    AllByRecursion Q (cond b (x ∷ rest) rest)
all-filter-at P Q p x rest true e q qs = (q e, qs)
all-filter-at P Q p x rest false e q qs = qs

pub all-filter : {A : Type 0} (P Q : A → Type 0) (p : A → Bool) → ((a : A) → P a → p a ≡ true → Q a) → (xs : List A) → AllByRecursion P xs → AllByRecursion Q (filter p xs)
all-filter P Q p f [] h = tt
all-filter P Q p f (x ∷ xs) h = all-filter-at P Q p x (filter p xs) (p x) refl (f x h.0) (all-filter P Q p f xs h.1)

-- ---- what is left of a file, where all that is of it is kept or none

left_at : (f : FileId) (keep of kept : Bool) (r : Resident) (rest all : Residents) → is_of f r ≡ of → (r.block.file ≡ f → kept ≡ keep) →
    found f rest ≡ (if keep then found f all else None) →
    found f (cond kept (r ∷ rest) rest) ≡ (if keep then cond (is_of f r) (Some r) (found f all) else None)
left_at f true true true r rest all e k later = ap (λ b. cond b (Some r) (found f rest)) e ∙ ap (λ b. cond b (Some r) (found f all)) (sym e)
left_at f true true false r rest all e k later = absurd (let h : false ≡ true = k (sym ((file_same-Decides f r.block.file).0 e)) in cc)
left_at f true false true r rest all e k later = ap (λ b. cond b (Some r) (found f rest)) e ∙ later ∙ ap (λ b. cond b (Some r) (found f all)) (sym e)
left_at f true false false r rest all e k later = later ∙ ap (λ b. cond b (Some r) (found f all)) (sym e)
left_at f false true true r rest all e k later = absurd (let h : true ≡ false = k (sym ((file_same-Decides f r.block.file).0 e)) in cc)
left_at f false true false r rest all e k later = later
left_at f false false true r rest all e k later = ap (λ b. cond b (Some r) (found f rest)) e ∙ later
left_at f false false false r rest all e k later = later

pub found-left : (f : FileId) (keep : Bool) (p : Resident → Bool) (residents : Residents) → AllByRecursion (λ r. r.block.file ≡ f → p r ≡ keep) residents →
    found f (filter p residents) ≡ (if keep then found f residents else None)
found-left f true p [] h = refl
found-left f false p [] h = refl
found-left f keep p (r ∷ rest) h = left_at f keep (is_of f r) (p r) r (filter p rest) rest refl h.0 (found-left f keep p rest h.1)

-- ---- what is found after blocks were brought

pub or_else-none : {A : Type 0} (o : Option A) → or_else o None ≡ o
or_else-none None = refl
or_else-none (Some a) = refl

or_else-assoc : {A : Type 0} (a b c : Option A) → or_else (or_else a b) c ≡ or_else a (or_else b c)
or_else-assoc None b c = refl
or_else-assoc (Some a) b c = refl

-- a block on a worker
abbrev pub on : WorkerId → FileOutcome → Resident
on worker block = record { worker = worker; block = block }

abbrev pub if_some : Bool → Resident → Option Resident
if_some b r = if b then Some r else None

appended_at : (f : FileId) (b : Bool) (x : Resident) (more : Option Resident) (rest longer : Residents) → found f longer ≡ or_else (found f rest) more →
    cond b (Some x) (found f longer) ≡ or_else (cond b (Some x) (found f rest)) more
appended_at f true x more rest longer e = refl
appended_at f false x more rest longer e = e

alone_at : (b : Bool) (r : Resident) → cond b (Some r) None ≡ if_some b r
alone_at true r = refl
alone_at false r = refl

pub found-appended : (f : FileId) (residents : Residents) (r : Resident) → found f (residents ++ r ∷ []) ≡ or_else (found f residents) (if_some (is_of f r) r)
found-appended f [] r = alone_at (is_of f r) r
found-appended f (x ∷ rest) r = appended_at f (is_of f x) x (if_some (is_of f r) r) rest (rest ++ r ∷ []) (found-appended f rest r)

some-or : {A : Type 0} (o more : Option A) → is_some o ≡ true → o ≡ or_else o more
some-or None more h = absurd (cc)
some-or (Some a) more h = refl

brought_at : (f : FileId) (worker : WorkerId) (block : FileOutcome) (residents : Residents) (of there : Bool) → file_same f block.file ≡ of → is_some (found block.file residents) ≡ there →
    found f (if there then residents else residents ++ on worker block ∷ []) ≡ or_else (found f residents) (if_some of (on worker block))
brought_at f worker block residents true true e h =
    some-or (found f residents) (Some (on worker block)) (ap (λ (g : FileId). is_some (found g residents)) ((file_same-Decides f block.file).0 e) ∙ h)
brought_at f worker block residents false true e h = sym (or_else-none (found f residents))
brought_at f worker block residents of false e h =
    found-appended f residents (on worker block) ∙ ap (λ b. or_else (found f residents) (if_some b (on worker block))) e

found-with_block : (f : FileId) (worker : WorkerId) (block : FileOutcome) (residents : Residents) →
    found f (with_block worker block residents) ≡ or_else (found f residents) (if_some (file_same f block.file) (on worker block))
found-with_block f worker block residents = brought_at f worker block residents (file_same f block.file) (is_some (found block.file residents)) refl refl

first_at : (worker : WorkerId) (block : FileOutcome) (b : Bool) (later : Option FileOutcome) →
    or_else (if_some b (on worker block)) (option_map (on worker) later) ≡ option_map (on worker) (cond b (Some block) later)
first_at worker block true later = refl
first_at worker block false later = refl

-- a file that was there stays as it was, and else the first of the blocks is found
pub found-with_blocks : (f : FileId) (worker : WorkerId) (blocks : Blocks) (residents : Residents) →
    found f (with_blocks worker blocks residents) ≡ or_else (found f residents) (option_map (on worker) (first_block f blocks))
found-with_blocks f worker [] residents = sym (or_else-none (found f residents))
found-with_blocks f worker (block ∷ blocks) residents =
    found-with_blocks f worker blocks (with_block worker block residents)
    ∙ ap (λ o. or_else o (option_map (on worker) (first_block f blocks))) (found-with_block f worker block residents)
    ∙ or_else-assoc (found f residents) (if_some (file_same f block.file) (on worker block)) (option_map (on worker) (first_block f blocks))
    ∙ ap (or_else (found f residents)) (first_at worker block (file_same f block.file) (first_block f blocks))

none-or : {A : Type 0} (o more : Option A) → or_else o more ≡ None → o ≡ None
none-or None more e = refl
none-or (Some a) more e = absurd (cc)

-- what holds of the residents and of each block whose file was in no memory
abbrev pub IfAbsent : (Resident → Type 0) → WorkerId → Residents → FileOutcome → Type 0
IfAbsent P worker residents block = found block.file residents ≡ None → P (on worker block)

pub all-appended : (P : Resident → Type 0) (residents : Residents) (r : Resident) → AllByRecursion P residents → P r → AllByRecursion P (residents ++ r ∷ [])
all-appended P [] r ps p = (p, tt)
all-appended P (x ∷ rest) r ps p = (ps.0, all-appended P rest r ps.1 p)

not-some : {A : Type 0} (o : Option A) → is_some o ≡ false → o ≡ None
not-some None h = refl
not-some (Some a) h = absurd (cc)

all-with_block-at : (P : Resident → Type 0) (worker : WorkerId) (block : FileOutcome) (residents : Residents) (there : Bool) → is_some (found block.file residents) ≡ there →
    AllByRecursion P residents → IfAbsent P worker residents block → AllByRecursion P (if there then residents else residents ++ on worker block ∷ [])
all-with_block-at P worker block residents true h ps p = ps
all-with_block-at P worker block residents false h ps p = all-appended P residents (on worker block) ps (p (not-some (found block.file residents) h))

pub all-with_blocks : (P : Resident → Type 0) (worker : WorkerId) (blocks : Blocks) (residents : Residents) → AllByRecursion P residents →
    AllByRecursion (IfAbsent P worker residents) blocks → AllByRecursion P (with_blocks worker blocks residents)
all-with_blocks P worker [] residents ps h = ps
all-with_blocks P worker (block ∷ blocks) residents ps h =
    all-with_blocks P worker blocks (with_block worker block residents)
    (all-with_block-at P worker block residents (is_some (found block.file residents)) refl ps h.0)
    (all-map (IfAbsent P worker residents) (IfAbsent P worker (with_block worker block residents))
    (λ b p gone. p (none-or (found b.file residents) (if_some (file_same b.file block.file) (on worker block)) (sym (found-with_block b.file worker block residents) ∙ gone)))
    blocks h.1)
