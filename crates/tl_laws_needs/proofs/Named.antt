-- What a call leaves named: no file of an older record gets a name again, and a new record's inputs are named.
use Rattle.std.proofs.Common.{◌≡◌, ℕ, ◌<◌, ◌≤◌, ◌⊎◌, inl, inr, true, List, [], ◌∷◌, Option, Some, None, refl, sym, ap, ◌∙◌, arith, Result, Ok, Err}
use Rattle.std.specs.List.{AllByRecursion, list_any}
use Rattle.std.proofs.lemmas.Bool.{or_left, or_right, or_cases}
use Rattle.tl_types.specs.Same.{file_same-Decides}
use Rattle.tl_types.specs.declared.file_id.FileId.{FileId}
use Rattle.tl_types.specs.declared.record_id.RecordId.{RecordId}
use Rattle.tl_model.specs.declared.command.Command.{Command}
use Rattle.tl_model.specs.declared.command.Command.TheVariants.{Put, Job, Read}
use Rattle.tl_model.specs.declared.reply.Reply.{Reply}
use Rattle.tl_model.specs.declared.reply.Reply.TheVariants.{Made, Opened}
use Rattle.tl_model.specs.Namespace.{PathOf, Node, dir, file, Names, node_at}
use Rattle.tl_model.specs.Replies.{walk_to_file, opened, reply_to, reply_same}
use Rattle.tl_model.specs.History.{names_after, file_at, files_at, record_made, inputs_of, is_file_node}
use Rattle.tl_laws.proofs.Refusals.{OnlyRefusesOr, walk_to_file-refuses, put_made, job_made}
use Rattle.tl_laws.proofs.Paths.{node-among, walk_to_file-finds}
use Rattle.tl_laws.specs.Order.{EachNode}
use Rattle.tl_laws.proofs.Order.{NodeFact, files_made, each-after, all-map}

-- the names have the file
abbrev pub IsIn : Names → FileId → Type 0
IsIn names f = list_any (λ entry. is_file_node f entry.1) names ≡ true

-- a fact of the files that are named
abbrev pub OfFile : (FileId → Type 0) → Node → Type 0
OfFile P dir = Unit {0}
OfFile P (file f pinned) = P f

of-file : (P : FileId → Type 0) → NodeFact (OfFile P)
of-file P = record { of_dir = tt; of_pin = λ f was now h. h }

-- ---- each name is named

in-more : (entry : PathOf × Node) (names : Names) (node : Node) → OfFile (IsIn names) node → OfFile (IsIn (entry ∷ names)) node
in-more entry names dir h = tt
in-more entry names (file f pinned) h = or_right (is_file_node f entry.1) (list_any (λ e. is_file_node f e.1) names) h

in-first : (path : PathOf) (node : Node) (names : Names) → OfFile (IsIn ((path, node) ∷ names)) node
in-first path dir names = tt
in-first path (file f pinned) names = or_left (is_file_node f (file f pinned)) (list_any (λ e. is_file_node f e.1) names) ((file_same-Decides f f).1 refl)

pub each-is-in : (names : Names) → EachNode (OfFile (IsIn names)) names
each-is-in [] = tt
each-is-in (entry ∷ names) = (
  in-first entry.0 entry.1 names,
  all-map (λ e. OfFile (IsIn names) e.1) (λ e. OfFile (IsIn (entry ∷ names)) e.1) (λ e h. in-more entry names e.1 h) names (each-is-in names),
)

node-holds : (P : FileId → Type 0) (f : FileId) (node : Node) → OfFile P node → is_file_node f node ≡ true → P f
node-holds P f dir h is = absurd (cc)
node-holds P f (file g pinned) h is = let same : f ≡ g = (file_same-Decides f g).0 is in rw same h

-- what holds of each file that is named holds of one that the names have
pub in-holds : (P : FileId → Type 0) (f : FileId) (names : Names) → EachNode (OfFile P) names → IsIn names f → P f
in-holds P f [] all is = absurd (cc)
in-holds P f (entry ∷ names) all is = elim (or_cases (is_file_node f entry.1) (list_any (λ e. is_file_node f e.1) names) is) [
  | inl here ↦ node-holds P f entry.1 all.0 here
  | inr later ↦ in-holds P f names all.1 later
]

-- ---- the files that paths name

file-holds : (P : FileId → Type 0) (names : Names) (path : PathOf) (o : Option Node) (files : List FileId) → node_at names path ≡ o → EachNode (OfFile P) names →
    AllByRecursion P files → AllByRecursion P (file_at o files)
file-holds P names path None files e all h = h
file-holds P names path (Some dir) files e all h = h
file-holds P names path (Some (file f pinned)) files e all h = (node-among (OfFile P) names path (file f pinned) all e, h)

files-hold : (P : FileId → Type 0) (names : Names) (paths : List PathOf) → EachNode (OfFile P) names → AllByRecursion P (files_at names paths)
files-hold P names [] all = tt
files-hold P names (path ∷ paths) all = file-holds P names path (node_at names path) (files_at names paths) refl all (files-hold P names paths all)

-- the inputs of a record that a call adds are named when it is accepted
pub new-inputs-named : {T : Type 0} (reply : Reply) (command : Command T) (names : Names) →
    AllByRecursion (λ r. AllByRecursion (IsIn names) (inputs_of r)) (record_made reply command names)
new-inputs-named (Made made) (Put path len digest ticket) names = (tt, tt)
new-inputs-named (Made made) (Job core prio inputs outputs) names = (files-hold (IsIn names) names inputs (each-is-in names), tt)
new-inputs-named reply command names = tt

-- ---- names after a call

-- an accepted record is given the next number
made-next : {T : Type 0} (reply : Reply) (command : Command T) (names : Names) (n : ℕ) (made : RecordId) (i : ℕ) → reply_same (reply_to names n command) reply ≡ true →
    reply ≡ Made made → i < files_made command → made.0 ≡ n
made-next (Made other) (Put path len digest ticket) names n made i same is few =
    let it : other ≡ made = cc in
    ap (λ (r : RecordId). r.0) (sym it ∙ put_made names n path len digest ticket other same)
made-next {T} (Made other) (Job core prio inputs outputs) names n made i same is few =
    let it : other ≡ made = cc in
    ap (λ (r : RecordId). r.0) (sym it ∙ job_made T names n core prio inputs outputs other same)
made-next (Made other) command names n made i same is few = absurd (omega arith)
made-next reply command names n made i same is few = absurd (cc)

-- the file was named, or is of a record that is new
abbrev pub WasOrNew : Names → ℕ → FileId → Type 0
WasOrNew names n f = IsIn names f ⊎ (n ≤ f.rec.0)

was-or-new : (names : Names) (n : ℕ) (node : Node) → OfFile (IsIn names) node → OfFile (WasOrNew names n) node
was-or-new names n dir h = tt
was-or-new names n (file f pinned) h = inl h

old-of : (names : Names) (n : ℕ) (f : FileId) → f.rec.0 < n → WasOrNew names n f → IsIn names f
old-of names n f old (inl h) = h
old-of names n f old (inr more) = absurd (omega arith)

-- a file of an older record that is named after a call was named before it
pub named-before : {T : Type 0} (reply : Reply) (command : Command T) (names : Names) (n : ℕ) (f : FileId) → reply_same (reply_to names n command) reply ≡ true →
    f.rec.0 < n → IsIn (names_after reply command names) f → IsIn names f
named-before reply command names n f same old is =
    let P : FileId → Type 0 = WasOrNew names n in
    let all : EachNode (OfFile P) names =
    all-map (λ e. OfFile (IsIn names) e.1) (λ e. OfFile P e.1) (λ e h. was-or-new names n e.1 h) names (each-is-in names) in
    let after : EachNode (OfFile P) (names_after reply command names) =
    each-after (OfFile P) (of-file P) reply command names all
    (λ made i made_is few. inr (let next : made.0 ≡ n = made-next reply command names n made i same made_is few in let le : n ≤ made.0 = omega arith in le)) in
    old-of names n f old (in-holds P f (names_after reply command names) after is)

-- ---- an opened read

opened-file : (names : Names) (path : PathOf) (f : FileId) (x : Result FileId Reply) → walk_to_file names path ≡ x → OnlyRefusesOr x →
    reply_same (opened x) (Opened f) ≡ true → IsIn names f
opened-file names path f (Ok g) e refuses same =
    let it : g ≡ f = (file_same-Decides g f).0 same in
    let found = walk_to_file-finds names path g e in
    rw (← it) (node-among (OfFile (IsIn names)) names path (file g found.0) (each-is-in names) found.1)
opened-file names path f (Err (Opened g)) e refuses same = absurd (cc)
opened-file names path f (Err reply) e refuses same = absurd (cc)

-- a read is opened on a file that is named
pub opened-is-named : (T : Type 0) (names : Names) (n : ℕ) (path : PathOf) (prio : ℕ) (form : _) (f : FileId) →
    reply_same (reply_to {T = T} names n (Read path prio form)) (Opened f) ≡ true → IsIn names f
opened-is-named T names n path prio form f same =
    opened-file names path f (walk_to_file names path) refl (walk_to_file-refuses names path) same
