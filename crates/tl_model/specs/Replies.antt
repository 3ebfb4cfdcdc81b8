-- The reply to a command: the first refusal that holds, else what is done.
use Rattle.std.specs.Prelude.{ℕ, ◌+◌, ◌==◌, nat_lt, nat_le, Bool, true, false, ◌&&◌, ◌||◌, not, List, [], ◌∷◌, ◌++◌, length, map, Option, Some, None, is_some, if◌then◌else◌, Result, Ok, Err}
use Rattle.std.specs.List.{list_any}
use Rattle.std.specs.Cmp.Lexicographic.{slice_cmp, pointwise}
use Rattle.std.specs.Ordering.{nat_cmp, is_lt}
use Rattle.std.specs.Str.{bytes_eq}
use Rattle.tl_types.specs.Same.{file_same, record_same}
use Rattle.tl_types.specs.Path.{spelled}
use Rattle.tl_types.specs.declared.file_id.FileId.{FileId}
use Rattle.tl_model.specs.declared.command.Command.{Command}
use Rattle.tl_model.specs.declared.command.Command.TheVariants.{Put, Job, Read, Delete, Mkdir, Rename, Pin, Unpin, List as list, Stat, Free}
use Rattle.tl_model.specs.declared.reply.Entry.{Entry}
use Rattle.tl_model.specs.declared.reply.Status.{Status}
use Rattle.tl_model.specs.declared.reply.Status.TheVariants as status
use Rattle.tl_model.specs.declared.reply.Reply.{Reply}
use Rattle.tl_model.specs.declared.reply.Reply.TheVariants.{Made, Fine, Opened, Listed, Stated, Exists, NoSuch, NotFile, NotDir, NotEmpty, TooDeep, IntoItself, TooMany}
use Rattle.tl_model.specs.Tables.{sort_by}
use Rattle.tl_model.specs.Namespace.{PathOf, Node, dir, file, Names, node_at, is_dir, is_below, parent, last_part, children, with_name, moved}

-- as many records as there may be
abbrev pub record_limit : ℕ
record_limit = 1048576

-- what is found at a path, or the refusal
abbrev pub Found : Type 0
Found = Result Node Reply

abbrev pub and_then : {A B : Type 0} → Result A Reply → (A → Result B Reply) → Result B Reply
and_then (Ok a) go = go a
and_then (Err refusal) go = Err refusal

-- on from a place that names this, by the components that are left
abbrev pub walk_on : Names → PathOf → Option Node → List (List ℕ) → Found
walk_on names at None rest = Err NoSuch
walk_on names at (Some node) [] = Ok node
walk_on names at (Some (file f pinned)) (part ∷ rest) = Err NotDir
walk_on names at (Some dir) (part ∷ rest) = walk_on names (at ++ part ∷ []) (node_at names (at ++ part ∷ [])) rest

-- from `/`, component by component
abbrev pub walk : Names → PathOf → Found
walk names path = walk_on names [] (node_at names []) path

abbrev pub want_dir : Node → Found
want_dir dir = Ok dir
want_dir (file f pinned) = Err NotDir

abbrev pub want_file : Node → Result FileId Reply
want_file dir = Err NotFile
want_file (file f pinned) = Ok f

abbrev pub walk_to_file : Names → PathOf → Result FileId Reply
walk_to_file names path = and_then (walk names path) want_file

-- the parent's walk
abbrev pub walk_to_parent : Names → PathOf → Found
walk_to_parent names path = and_then (walk names (parent path)) want_dir

abbrev pub refusal_of : {A : Type 0} → Result A Reply → Option Reply
refusal_of (Ok a) = None
refusal_of (Err refusal) = Some refusal

-- the first refusal
abbrev pub or_else : Option Reply → Option Reply → Option Reply
or_else (Some refusal) later = Some refusal
or_else None later = later

abbrev pub refuse_where : Bool → Reply → Option Reply
refuse_where holds refusal = if holds then Some refusal else None

-- the refusal, or else this reply
abbrev pub unless : Option Reply → Reply → Reply
unless (Some refusal) reply = refusal
unless None reply = reply

-- why no name can be made at a path
abbrev pub new_refusal : Names → PathOf → Option Reply
new_refusal names [] = Some Exists
new_refusal names (part ∷ rest) =
    or_else (refusal_of (walk_to_parent names (part ∷ rest))) (refuse_where (is_some (node_at names (part ∷ rest))) Exists)

-- why a record can't be added after so many
abbrev pub count_refusal : ℕ → Option Reply
count_refusal count = refuse_where (nat_le record_limit count) TooMany

-- the first input that isn't a file
abbrev pub inputs_refusal : Names → List PathOf → Option Reply
inputs_refusal names [] = None
inputs_refusal names (path ∷ paths) = or_else (refusal_of (walk_to_file names path)) (inputs_refusal names paths)

-- the first output that can't be made, as if the earlier ones had been made
abbrev pub outputs_refusal : Names → ℕ → ℕ → List PathOf → Option Reply
outputs_refusal names count k [] = None
outputs_refusal names count k (path ∷ paths) =
    or_else (new_refusal names path)
    (outputs_refusal (with_name names path (file (record { rec = record { 0 = count }; out = k }) false)) count (k + 1) paths)

abbrev pub has_children : Names → PathOf → Bool
has_children names path = nat_lt 0 (length (children names path))

-- `/`, or a directory with a name in it
abbrev pub is_full : Names → PathOf → Node → Bool
is_full names path (file f pinned) = false
is_full names path dir = length path == 0 || has_children names path

abbrev pub delete_refusal : Names → PathOf → Option Reply
delete_refusal names path = refusal_of (and_then (walk names path) (λ node. if is_full names path node then Err NotEmpty else Ok node))

-- at most 16 components and 1,024 bytes
abbrev pub within_limits : PathOf → Bool
within_limits path = nat_le (length path) 16 && nat_le (length (spelled path)) 1024

-- a path that the move takes along would be no path
abbrev pub is_too_deep : Names → PathOf → PathOf → Bool
is_too_deep names from to = list_any (λ entry. is_below entry.0 from && not (within_limits (moved from to entry.0))) names

abbrev pub rename_refusal : Names → PathOf → PathOf → Option Reply
rename_refusal names from to =
    or_else (refusal_of (walk names from))
    (or_else (refuse_where (is_below to from) IntoItself)
    (or_else (new_refusal names to) (refuse_where (is_too_deep names from to) TooDeep)))

-- the entry of a child
abbrev pub entry_of : PathOf × Node → Entry
entry_of child = record { name = last_part child.0; dir = is_dir child.1 }

abbrev pub name_before : Entry → Entry → Bool
name_before a b = is_lt (slice_cmp nat_cmp a.name b.name)

abbrev pub listing : Names → PathOf → List Entry
listing names path = sort_by name_before (map entry_of (children names path))

abbrev pub reply_to_list : Names → PathOf → Found → Reply
reply_to_list names path (Ok dir) = Listed (listing names path)
reply_to_list names path (Ok (file f pinned)) = NotDir
reply_to_list names path (Err refusal) = refusal

abbrev pub reply_to_stat : Names → PathOf → Found → Reply
reply_to_stat names path (Ok dir) = Stated (status.Dir (length (children names path)))
reply_to_stat names path (Ok (file f pinned)) = Stated (status.File f pinned)
reply_to_stat names path (Err refusal) = refusal

abbrev pub opened : Result FileId Reply → Reply
opened (Ok f) = Opened f
opened (Err refusal) = refusal

-- the reply to a command on these names, after so many records
abbrev pub reply_to : {T : Type 0} → Names → ℕ → Command T → Reply
reply_to names count (Put path len digest ticket) = unless (or_else (new_refusal names path) (count_refusal count)) (Made (record { 0 = count }))
reply_to names count (Job core prio inputs outputs) =
    unless (or_else (inputs_refusal names inputs) (or_else (outputs_refusal names count 0 outputs) (count_refusal count))) (Made (record { 0 = count }))
reply_to names count (Read path prio form) = opened (walk_to_file names path)
reply_to names count (Delete path) = unless (delete_refusal names path) Fine
reply_to names count (Mkdir path) = unless (new_refusal names path) Fine
reply_to names count (Rename from to) = unless (rename_refusal names from to) Fine
reply_to names count (Pin path) = unless (refusal_of (walk_to_file names path)) Fine
reply_to names count (Unpin path) = unless (refusal_of (walk_to_file names path)) Fine
reply_to names count (list path) = reply_to_list names path (walk names path)
reply_to names count (Stat path) = reply_to_stat names path (walk names path)
reply_to names count (Free path) = unless (refusal_of (walk_to_file names path)) Fine

-- ---- the same reply

abbrev pub bool_same : Bool → Bool → Bool
bool_same a b = if a then b else not b

abbrev pub entry_same : Entry → Entry → Bool
entry_same a b = bytes_eq a.name b.name && bool_same a.dir b.dir

abbrev pub status_same : Status → Status → Bool
status_same (status.File f pinned) (status.File g also) = file_same f g && bool_same pinned also
status_same (status.Dir n) (status.Dir m) = n == m
status_same _ _ = false

abbrev pub reply_same : Reply → Reply → Bool
reply_same (Made a) (Made b) = record_same a b
reply_same Fine Fine = true
reply_same (Opened f) (Opened g) = file_same f g
reply_same (Listed a) (Listed b) = pointwise entry_same a b
reply_same (Stated a) (Stated b) = status_same a b
reply_same Exists Exists = true
reply_same NoSuch NoSuch = true
reply_same NotFile NotFile = true
reply_same NotDir NotDir = true
reply_same NotEmpty NotEmpty = true
reply_same TooDeep TooDeep = true
reply_same IntoItself IntoItself = true
reply_same TooMany TooMany = true
reply_same _ _ = false
