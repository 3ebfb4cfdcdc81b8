-- A refusal accepts nothing, and what is accepted gets the next number.
use Rattle.std.proofs.Common.{◌≡◌, ℕ, ◌+◌, Bool, true, false, if◌then◌else◌, List, [], ◌∷◌, ◌++◌, Option, Some, None, is_some, Result, Ok, Err, refl, sym, ap, ◌∙◌}
use Rattle.std.proofs.lemmas.Bool.Decides.{Decides-eqb}
use Rattle.tl_types.specs.declared.record_id.RecordId.{RecordId}
use Rattle.tl_model.specs.declared.command.Command.TheVariants.{Put, Job}
use Rattle.tl_model.specs.declared.reply.Reply.{Reply}
use Rattle.tl_model.specs.declared.reply.Reply.TheVariants.{Made, Fine, Opened, Listed, Stated, Exists, NoSuch, NotFile, NotDir, NotEmpty, TooDeep, IntoItself, TooMany}
use Rattle.tl_model.specs.Namespace.{PathOf, Node, dir, file, Names, node_at, with_name, is_below}
use Rattle.tl_model.specs.Replies.{and_then, walk_on, walk, want_dir, want_file, walk_to_file, walk_to_parent, refusal_of, or_else, refuse_where, unless, new_refusal, count_refusal, inputs_refusal, outputs_refusal, is_full, delete_refusal, rename_refusal, is_too_deep, reply_to, reply_same}

-- a reply that is no refusal
abbrev pub accepts : Reply → Bool
accepts (Made made) = true
accepts Fine = true
accepts (Opened f) = true
accepts (Listed entries) = true
accepts (Stated status) = true
accepts _ = false

-- a refusal, where there is one, accepts nothing
abbrev pub OnlyRefuses : Option Reply → Type 0
OnlyRefuses None = Unit {0}
OnlyRefuses (Some refusal) = accepts refusal ≡ false

abbrev pub OnlyRefusesOr : {A : Type 0} → Result A Reply → Type 0
OnlyRefusesOr (Ok a) = Unit {0}
OnlyRefusesOr (Err refusal) = accepts refusal ≡ false

pub or_else-refuses : (a b : Option Reply) → OnlyRefuses a → OnlyRefuses b → OnlyRefuses (or_else a b)
or_else-refuses None b h k = k
or_else-refuses (Some r) b h k = h

pub refuse_where-refuses : (holds : Bool) (r : Reply) → accepts r ≡ false → OnlyRefuses (refuse_where holds r)
refuse_where-refuses true r h = h
refuse_where-refuses false r h = tt

pub refusal_of-refuses : {A : Type 0} (x : Result A Reply) → OnlyRefusesOr x → OnlyRefuses (refusal_of x)
refusal_of-refuses (Ok a) h = tt
refusal_of-refuses (Err r) h = h

pub and_then-refuses : {A B : Type 0} (x : Result A Reply) (go : A → Result B Reply) → OnlyRefusesOr x → ((a : A) → OnlyRefusesOr (go a)) → OnlyRefusesOr (and_then x go)
and_then-refuses (Ok a) go h k = k a
and_then-refuses (Err r) go h k = h

pub walk_on-refuses : (names : Names) (at : PathOf) (node : Option Node) (rest : List (List ℕ)) → OnlyRefusesOr (walk_on names at node rest)
walk_on-refuses names at None rest = refl
walk_on-refuses names at (Some dir) [] = tt
walk_on-refuses names at (Some (file f pinned)) [] = tt
walk_on-refuses names at (Some (file f pinned)) (part ∷ rest) = refl
walk_on-refuses names at (Some dir) (part ∷ rest) = walk_on-refuses names (at ++ part ∷ []) (node_at names (at ++ part ∷ [])) rest

pub walk-refuses : (names : Names) (path : PathOf) → OnlyRefusesOr (walk names path)
walk-refuses names path = walk_on-refuses names [] (node_at names []) path

pub want_dir-refuses : (node : Node) → OnlyRefusesOr (want_dir node)
want_dir-refuses dir = tt
want_dir-refuses (file f pinned) = refl

pub want_file-refuses : (node : Node) → OnlyRefusesOr (want_file node)
want_file-refuses dir = refl
want_file-refuses (file f pinned) = tt

pub walk_to_file-refuses : (names : Names) (path : PathOf) → OnlyRefusesOr (walk_to_file names path)
walk_to_file-refuses names path = and_then-refuses (walk names path) want_file (walk-refuses names path) want_file-refuses

pub new_refusal-refuses : (names : Names) (path : PathOf) → OnlyRefuses (new_refusal names path)
new_refusal-refuses names [] = refl
new_refusal-refuses names (part ∷ rest) =
    or_else-refuses (refusal_of (walk_to_parent names (part ∷ rest))) (refuse_where (is_some (node_at names (part ∷ rest))) Exists)
    (refusal_of-refuses (walk_to_parent names (part ∷ rest)) (and_then-refuses (walk names _) want_dir (walk-refuses names _) want_dir-refuses))
    (refuse_where-refuses (is_some (node_at names (part ∷ rest))) Exists refl)

pub inputs-refuse : (names : Names) (paths : List PathOf) → OnlyRefuses (inputs_refusal names paths)
inputs-refuse names [] = tt
inputs-refuse names (path ∷ paths) =
    or_else-refuses (refusal_of (walk_to_file names path)) (inputs_refusal names paths)
    (refusal_of-refuses (walk_to_file names path) (walk_to_file-refuses names path)) (inputs-refuse names paths)

pub outputs-refuse : (names : Names) (count k : ℕ) (paths : List PathOf) → OnlyRefuses (outputs_refusal names count k paths)
outputs-refuse names count k [] = tt
outputs-refuse names count k (path ∷ paths) =
    let later = with_name names path (file (record { rec = record { 0 = count }; out = k }) false) in
    or_else-refuses (new_refusal names path) (outputs_refusal later count (k + 1) paths) (new_refusal-refuses names path) (outputs-refuse later count (k + 1) paths)

full-refuses : (full : Bool) (node : Node) → OnlyRefusesOr {A = Node} (if full then Err NotEmpty else Ok node)
full-refuses true node = refl
full-refuses false node = tt

pub delete-refuses : (names : Names) (path : PathOf) → OnlyRefuses (delete_refusal names path)
delete-refuses names path =
    refusal_of-refuses (and_then (walk names path) (λ node. if is_full names path node then Err NotEmpty else Ok node))
    (and_then-refuses (walk names path) (λ node. if is_full names path node then Err NotEmpty else Ok node) (walk-refuses names path)
    (λ node. full-refuses (is_full names path node) node))

-- where nothing refuses and what is answered so is Made, it has this number
made_unless : (refusal : Option Reply) (next made : RecordId) → OnlyRefuses refusal → reply_same (unless refusal (Made next)) (Made made) ≡ true → made ≡ next
made_unless None next made h same = let e : next.0 ≡ made.0 = (Decides-eqb next.0 made.0).0 same in λ i. record { 0 = sym e i }
made_unless (Some Fine) next made h same = absurd (cc)
made_unless (Some (Made other)) next made h same = absurd (cc)
made_unless (Some (Opened f)) next made h same = absurd (cc)
made_unless (Some (Listed entries)) next made h same = absurd (cc)
made_unless (Some (Stated status)) next made h same = absurd (cc)
made_unless (Some Exists) next made h same = absurd (cc)
made_unless (Some NoSuch) next made h same = absurd (cc)
made_unless (Some NotFile) next made h same = absurd (cc)
made_unless (Some NotDir) next made h same = absurd (cc)
made_unless (Some NotEmpty) next made h same = absurd (cc)
made_unless (Some TooDeep) next made h same = absurd (cc)
made_unless (Some IntoItself) next made h same = absurd (cc)
made_unless (Some TooMany) next made h same = absurd (cc)

-- an accepted put is given the next number
pub put_made : {T : Type 0} (names : Names) (count : ℕ) (path : PathOf) (len : ℕ) (digest : _) (ticket : T) (made : RecordId) →
    reply_same (reply_to names count (Put path len digest ticket)) (Made made) ≡ true → made ≡ record { 0 = count }
put_made names count path len digest ticket made same =
    made_unless (or_else (new_refusal names path) (count_refusal count)) (record { 0 = count }) made
    (or_else-refuses (new_refusal names path) (count_refusal count) (new_refusal-refuses names path) (refuse_where-refuses _ TooMany refl)) same

-- an accepted job likewise
pub job_made : (T : Type 0) (names : Names) (count : ℕ) (core : _) (prio : ℕ) (inputs outputs : List PathOf) (made : RecordId) →
    reply_same (reply_to {T = T} names count (Job core prio inputs outputs)) (Made made) ≡ true → made ≡ record { 0 = count }
job_made T names count core prio inputs outputs made same =
    made_unless (or_else (inputs_refusal names inputs) (or_else (outputs_refusal names count 0 outputs) (count_refusal count))) (record { 0 = count }) made
    (or_else-refuses (inputs_refusal names inputs) (or_else (outputs_refusal names count 0 outputs) (count_refusal count)) (inputs-refuse names inputs)
    (or_else-refuses (outputs_refusal names count 0 outputs) (count_refusal count) (outputs-refuse names count 0 outputs) (refuse_where-refuses _ TooMany refl))) same

pub rename-refuses : (names : Names) (from to : PathOf) → OnlyRefuses (rename_refusal names from to)
rename-refuses names from to =
    or_else-refuses (refusal_of (walk names from)) _ (refusal_of-refuses (walk names from) (walk-refuses names from))
    (or_else-refuses (refuse_where (is_below to from) IntoItself) _ (refuse_where-refuses (is_below to from) IntoItself refl)
    (or_else-refuses (new_refusal names to) (refuse_where (is_too_deep names from to) TooDeep) (new_refusal-refuses names to)
    (refuse_where-refuses (is_too_deep names from to) TooDeep refl)))

-- where the reply is Made, nothing refused
pub unrefused : (refusal : Option Reply) (next made : RecordId) → OnlyRefuses refusal → unless refusal (Made next) ≡ Made made → refusal ≡ None
unrefused None next made h is = refl
unrefused (Some r) next made h is = let no : false ≡ true = sym h ∙ ap accepts is in absurd (cc)

pub or-none : (a b : Option Reply) → or_else a b ≡ None → (a ≡ None) × (b ≡ None)
or-none None b h = (refl, h)
or-none (Some r) b h = absurd (cc)

-- the inputs of an accepted job are not refused
pub inputs-unrefused : (T : Type 0) (names : Names) (count : ℕ) (core : _) (prio : ℕ) (inputs outputs : List PathOf) (made : RecordId) →
    reply_to {T = T} names count (Job core prio inputs outputs) ≡ Made made → inputs_refusal names inputs ≡ None
inputs-unrefused T names count core prio inputs outputs made is =
    (or-none (inputs_refusal names inputs) (or_else (outputs_refusal names count 0 outputs) (count_refusal count))
    (unrefused (or_else (inputs_refusal names inputs) (or_else (outputs_refusal names count 0 outputs) (count_refusal count))) (record { 0 = count }) made
    (or_else-refuses (inputs_refusal names inputs) (or_else (outputs_refusal names count 0 outputs) (count_refusal count)) (inputs-refuse names inputs)
    (or_else-refuses (outputs_refusal names count 0 outputs) (count_refusal count) (outputs-refuse names count 0 outputs) (refuse_where-refuses _ TooMany refl))) is)).0
