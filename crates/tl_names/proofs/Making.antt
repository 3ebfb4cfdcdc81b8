-- The answers to commands that make names.
use Rattle.std.proofs.Common.{◌≡◌, ℕ, ◌+◌, Bool, true, false, List, [], ◌∷◌, ◌++◌, length, Option, Some, None, is_some, Result, Ok, Err, refl, sym, ap, ◌∙◌, subst}
use Rattle.std.specs.Prelude.{nat_le}
use Rattle.std.proofs.lemmas.Bool.{true≢false}
use Rattle.tl_types.specs.declared.digest.Digest.{Digest}
use Rattle.tl_types.specs.declared.file_id.FileId.{FileId}
use Rattle.tl_types.specs.declared.record_id.RecordId.{RecordId}
use Rattle.tl_lang.specs.declared.job.JobSpecCore.{JobSpecCore}
use Rattle.tl_model.specs.declared.command.Command.{Command}
use Rattle.tl_model.specs.declared.command.Command.TheVariants.{Put, Job, Mkdir}
use Rattle.tl_model.specs.declared.reply.Reply.{Reply}
use Rattle.tl_model.specs.declared.reply.Reply.TheVariants.{Made, Fine, Exists, NoSuch, NotDir, TooMany}
use Rattle.tl_model.specs.Namespace.{PathOf, Node, dir, file, Names, node_at, parent, with_name, with_outputs}
use Rattle.tl_model.specs.Replies.{Found, and_then, count_refusal, inputs_refusal, new_refusal, or_else, outputs_refusal, record_limit, refusal_of, refuse_where, reply_to, unless, walk, walk_on, walk_to_parent, want_dir}
use Rattle.tl_model.specs.History.{names_after, record_made}
use Rattle.tl_names.specs.Answers.{Answers, Tables, tables, is_accepted}
use Rattle.tl_names.specs.Pins.{MakesFiles, PinList, PinsStandFor}
use Rattle.tl_names.specs.Standing.{StandsFor}
use Rattle.tl_names.specs.Tables.{Dirs, file_of, first_refusal, place, room_for, IsTree, MakesDir}
use Rattle.tl_names.proofs.Answered.{file_refuses, file_same_walk, kept_answers, names_kept, no_record, room_refuses, same_count}
use Rattle.tl_names.proofs.Lookups.{without_none}
use Rattle.tl_names.proofs.Made.{Makes, makes_dir}
use Rattle.tl_names.proofs.Outputs.{begins_upto, ends_upto, output_node}
use Rattle.tl_names.proofs.Replied.{room_same}

some_is : (a b : Reply) → Some a ≡ Some b → a ≡ b
some_is a b same = cc

ok_room : (r : Result ℕ Reply) → None ≡ refusal_of r → (d : ℕ) × (r ≡ Ok d)
ok_room (Ok d) none = (d, refl)
ok_room (Err e) none = absurd cc

err_room : (r : Result ℕ Reply) (e : Reply) → Some e ≡ refusal_of r → r ≡ Err e
err_room (Ok d) e some = absurd cc
err_room (Err f) e some = ap Err (some_is f e (sym some))

-- ---- a new directory

pub mkdir_made : (old new : Dirs) → IsTree old → (path : PathOf) → None ≡ refusal_of (room_for old path) → MakesDir old new path → (pins : PinList) (count : ℕ) →
    Answers (tables old pins) (tables new pins) count (Mkdir path) Fine
mkdir_made old new tree path none made pins count =
    let room : (d : ℕ) × (room_for old path ≡ Ok d) = ok_room (room_for old path) none in
    let makes : Makes old new path dir = makes_dir old new tree path room.0 room.1 made in
    record {
      said = λ names stands. sym (ap (λ o. unless o Fine) (room_same old names stands path ∙ ap refusal_of room.1));
      names = λ names stands. makes.stands names stands;
      pins = λ names stands stand. same_count pins (with_name names path dir) count [] refl
          (subst (λ rest. PinsStandFor pins ((path, dir) ∷ rest) count) (sym (without_none path names (makes.free names stands))) (record { found = stand.found; once = (tt, stand.once); made = stand.made }));
      unchanged = λ no. absurd (true≢false no);
      tree = makes.tree;
    }

pub mkdir_refused : (old new : Dirs) → IsTree old → (path : PathOf) (r : Reply) → Some r ≡ refusal_of (room_for old path) → new ≡ old → (pins : PinList) (count : ℕ) →
    Answers (tables old pins) (tables new pins) count (Mkdir path) r
mkdir_refused old new tree path r refused same pins count =
    subst (λ dirs. Answers (tables old pins) (tables dirs pins) count (Mkdir path) r) (sym same)
    (kept_answers (tables old pins) count (Mkdir path) r tree (room_refuses old path r (err_room (room_for old path) r refused))
    (λ names stands. sym (ap (λ o. unless o Fine) (room_same old names stands path ∙ sym refused))))

-- ---- refusals, by the names

walk_on_refuses : (names : Names) (at : PathOf) (o : Option Node) (rest : List (List ℕ)) (r : Reply) → walk_on names at o rest ≡ Err r → is_accepted r ≡ false
walk_on_refuses names at None rest r is = let same : NoSuch ≡ r = cc in ap is_accepted (sym same)
walk_on_refuses names at (Some dir) [] r is = absurd cc
walk_on_refuses names at (Some (file f b)) [] r is = absurd cc
walk_on_refuses names at (Some (file f b)) (n ∷ rest) r is = let same : NotDir ≡ r = cc in ap is_accepted (sym same)
walk_on_refuses names at (Some dir) (n ∷ rest) r is = walk_on_refuses names (at ++ n ∷ []) (node_at names (at ++ n ∷ [])) rest r is

parent_refuses : (names : Names) (path : PathOf) (w : Found) (r : Reply) → walk names path ≡ w → and_then w want_dir ≡ Err r → is_accepted r ≡ false
parent_refuses names path (Err e) r at is = let same : e ≡ r = cc in walk_on_refuses names [] (node_at names []) path r (at ∙ ap Err same)
parent_refuses names path (Ok dir) r at is = absurd cc
parent_refuses names path (Ok (file f b)) r at is = let same : NotDir ≡ r = cc in ap is_accepted (sym same)

where_refuses : (b : Bool) (e r : Reply) → is_accepted e ≡ false → refuse_where b e ≡ Some r → is_accepted r ≡ false
where_refuses true e r kept is = let same : e ≡ r = cc in ap is_accepted (sym same) ∙ kept
where_refuses false e r kept is = absurd cc

-- of two tests, the one that refuses
or_refuses : (a b : Option Reply) (r : Reply) → ((e : Reply) → a ≡ Some e → is_accepted e ≡ false) → ((e : Reply) → b ≡ Some e → is_accepted e ≡ false) → or_else a b ≡ Some r → is_accepted r ≡ false
or_refuses (Some e) b r first second is = let same : e ≡ r = cc in first r (ap Some same)
or_refuses None b r first second is = second r is

new_refuses : (names : Names) (path : PathOf) (r : Reply) → new_refusal names path ≡ Some r → is_accepted r ≡ false
new_refuses names [] r is = let same : Exists ≡ r = cc in ap is_accepted (sym same)
new_refuses names (part ∷ rest) r is =
    or_refuses (refusal_of (walk_to_parent names (part ∷ rest))) (refuse_where (is_some (node_at names (part ∷ rest))) Exists) r
    (λ e refused. parent_refuses names (parent (part ∷ rest)) (walk names (parent (part ∷ rest))) e refl (err_is (walk_to_parent names (part ∷ rest)) e refused))
    (λ e refused. where_refuses (is_some (node_at names (part ∷ rest))) Exists e refl refused) is
  where
    err_is : (w : Found) (e : Reply) → refusal_of w ≡ Some e → w ≡ Err e
    err_is (Ok n) e refused = absurd cc
    err_is (Err f) e refused = ap Err (some_is f e refused)

outputs_refuses : (names : Names) (count k : ℕ) (paths : List PathOf) (r : Reply) → outputs_refusal names count k paths ≡ Some r → is_accepted r ≡ false
outputs_refuses names count k [] r is = absurd cc
outputs_refuses names count k (path ∷ paths) r is =
    or_refuses (new_refusal names path) (outputs_refusal (with_name names path (output_node count k)) count (k + 1) paths) r (λ e refused. new_refuses names path e refused)
    (λ e refused. outputs_refuses (with_name names path (output_node count k)) count (k + 1) paths e refused) is

count_refuses : (count : ℕ) (r : Reply) → count_refusal count ≡ Some r → is_accepted r ≡ false
count_refuses count r is = where_refuses (nat_le record_limit count) TooMany r refl is

files_refuse : (names : Names) (count : ℕ) (paths : List PathOf) (r : Reply) → or_else (outputs_refusal names count 0 paths) (count_refusal count) ≡ Some r → is_accepted r ≡ false
files_refuse names count paths r is = or_refuses (outputs_refusal names count 0 paths) (count_refusal count) r (λ e refused. outputs_refuses names count 0 paths e refused) (λ e refused. count_refuses count e refused) is

-- an answer that changes nothing, where the names tell that it is a refusal
refused_answers : (t : Tables) (count : ℕ) (c : Command (Unit {0})) (r : Reply) → IsTree t.dirs → ((names : Names) → StandsFor t.dirs names → (is_accepted r ≡ false) × (r ≡ reply_to names count c)) → Answers t t count c r
refused_answers t count c r tree refuses = record {
  said = λ names stands. (refuses names stands).1;
  names = λ names stands. subst (StandsFor t.dirs) (sym (names_kept r c names (refuses names stands).0)) stands;
  pins = λ names stands stand.
      same_count t.pins (names_after r c names) count (record_made r c names) (no_record r c names (refuses names stands).0)
      (subst (λ n. PinsStandFor t.pins n count) (sym (names_kept r c names (refuses names stands).0)) stand);
  unchanged = λ _. refl;
  tree = tree;
}

-- ---- a put

or_none : (a b : Option Reply) → or_else (or_else a None) b ≡ or_else a b
or_none (Some r) b = refl
or_none None b = refl

put_refusal : (names : Names) (count : ℕ) (path : PathOf) (paths : List PathOf) → paths ≡ path ∷ [] → or_else (outputs_refusal names count 0 paths) (count_refusal count) ≡ or_else (new_refusal names path) (count_refusal count)
put_refusal names count path paths is = ap (λ ps. or_else (outputs_refusal names count 0 ps) (count_refusal count)) is ∙ or_none (new_refusal names path) (count_refusal count)

pub put_made : (old new : Dirs) (pins after : PinList) (path : PathOf) (paths : List PathOf) (next : RecordId) → paths ≡ path ∷ [] →
    ((names : Names) → StandsFor old names → None ≡ or_else (outputs_refusal names next.0 0 paths) (count_refusal next.0)) → MakesFiles old pins new after paths next 0 →
    (len : ℕ) (digest : Digest) → Answers (tables old pins) (tables new after) next.0 (Put path len digest tt) (Made next)
put_made old new pins after path paths next is none makes len digest = record {
  said = λ names stands. ap (λ o. unless o (Made next)) (none names stands ∙ put_refusal names next.0 path paths is);
  names = λ names stands. subst (λ ps. StandsFor new (with_outputs names next 0 ps)) is (makes.stands names stands);
  pins = λ names stands stand.
      subst (λ ps. PinsStandFor after (with_outputs names next 0 ps) (next.0 + 1)) is
      (ends_upto after (with_outputs names next 0 paths) next.0 (0 + length paths) (makes.files names stands (begins_upto pins names next.0 stand)));
  unchanged = λ no. absurd (true≢false no);
  tree = makes.tree;
}

pub put_refused : (old new : Dirs) (pins after : PinList) (path : PathOf) (paths : List PathOf) (next : RecordId) (r : Reply) → IsTree old → paths ≡ path ∷ [] →
    ((names : Names) → StandsFor old names → Some r ≡ or_else (outputs_refusal names next.0 0 paths) (count_refusal next.0)) → new ≡ old → after ≡ pins →
    (len : ℕ) (digest : Digest) → Answers (tables old pins) (tables new after) next.0 (Put path len digest tt) r
put_refused old new pins after path paths next r tree is refused same same_pins len digest =
    subst (λ dirs. Answers (tables old pins) (tables dirs after) next.0 (Put path len digest tt) r) (sym same)
    (subst (λ p. Answers (tables old pins) (tables old p) next.0 (Put path len digest tt) r) (sym same_pins)
    (refused_answers (tables old pins) next.0 (Put path len digest tt) r tree (λ names stands.
    (files_refuse names next.0 paths r (sym (refused names stands)), ap (λ o. unless o (Made next)) (refused names stands ∙ put_refusal names next.0 path paths is)))))

-- ---- a job

pub inputs_same : (dirs : Dirs) (names : Names) → StandsFor dirs names → (paths : List PathOf) → inputs_refusal names paths ≡ first_refusal dirs paths
inputs_same dirs names stands [] = refl
inputs_same dirs names stands (path ∷ paths) =
    ap (λ w. or_else (refusal_of w) (inputs_refusal names paths)) (file_same_walk dirs names stands path) ∙ ap (or_else (refusal_of (and_then (place dirs path) file_of))) (inputs_same dirs names stands paths)

first_refuses : (dirs : Dirs) (paths : List PathOf) (r : Reply) → first_refusal dirs paths ≡ Some r → is_accepted r ≡ false
first_refuses dirs [] r is = absurd cc
first_refuses dirs (path ∷ paths) r is =
    or_refuses (refusal_of (and_then (place dirs path) file_of)) (first_refusal dirs paths) r (λ e refused. by (and_then (place dirs path) file_of) e refl refused) (λ e refused. first_refuses dirs paths e refused) is
  where
    by : (w : Result FileId Reply) (e : Reply) → and_then (place dirs path) file_of ≡ w → refusal_of w ≡ Some e → is_accepted e ≡ false
    by (Ok f) e at refused = absurd cc
    by (Err g) e at refused = file_refuses dirs path e (at ∙ ap Err (some_is g e refused))

pub job_inputs : (dirs : Dirs) (pins : PinList) (inputs outputs : List PathOf) (next : RecordId) (r : Reply) → IsTree dirs → Some r ≡ first_refusal dirs inputs →
    (core : JobSpecCore) (prio : ℕ) → Answers (tables dirs pins) (tables dirs pins) next.0 (Job core prio inputs outputs) r
job_inputs dirs pins inputs outputs next r tree refused core prio =
    kept_answers (tables dirs pins) next.0 (Job core prio inputs outputs) r tree (first_refuses dirs inputs r (sym refused))
    (λ names stands. sym (ap (λ o. unless (or_else o (or_else (outputs_refusal names next.0 0 outputs) (count_refusal next.0))) (Made next)) (inputs_same dirs names stands inputs ∙ sym refused)))

pub job_made : (old new : Dirs) (pins after : PinList) (inputs outputs : List PathOf) (next : RecordId) → None ≡ first_refusal old inputs →
    ((names : Names) → StandsFor old names → None ≡ or_else (outputs_refusal names next.0 0 outputs) (count_refusal next.0)) → MakesFiles old pins new after outputs next 0 →
    (core : JobSpecCore) (prio : ℕ) → Answers (tables old pins) (tables new after) next.0 (Job core prio inputs outputs) (Made next)
job_made old new pins after inputs outputs next no_input none makes core prio = record {
  said = λ names stands. sym (ap (λ o. unless (or_else o (or_else (outputs_refusal names next.0 0 outputs) (count_refusal next.0))) (Made next)) (inputs_same old names stands inputs ∙ sym no_input)
      ∙ ap (λ o. unless o (Made next)) (sym (none names stands)));
  names = λ names stands. makes.stands names stands;
  pins = λ names stands stand. ends_upto after (with_outputs names next 0 outputs) next.0 (0 + length outputs) (makes.files names stands (begins_upto pins names next.0 stand));
  unchanged = λ no. absurd (true≢false no);
  tree = makes.tree;
}

pub job_refused : (old new : Dirs) (pins after : PinList) (inputs outputs : List PathOf) (next : RecordId) (r : Reply) → IsTree old → None ≡ first_refusal old inputs →
    ((names : Names) → StandsFor old names → Some r ≡ or_else (outputs_refusal names next.0 0 outputs) (count_refusal next.0)) → new ≡ old → after ≡ pins →
    (core : JobSpecCore) (prio : ℕ) → Answers (tables old pins) (tables new after) next.0 (Job core prio inputs outputs) r
job_refused old new pins after inputs outputs next r tree no_input refused same same_pins core prio =
    subst (λ dirs. Answers (tables old pins) (tables dirs after) next.0 (Job core prio inputs outputs) r) (sym same)
    (subst (λ p. Answers (tables old pins) (tables old p) next.0 (Job core prio inputs outputs) r) (sym same_pins)
    (refused_answers (tables old pins) next.0 (Job core prio inputs outputs) r tree (λ names stands. (
      files_refuse names next.0 outputs r (sym (refused names stands)),
      sym (ap (λ o. unless (or_else o (or_else (outputs_refusal names next.0 0 outputs) (count_refusal next.0))) (Made next)) (inputs_same old names stands inputs ∙ sym no_input)
          ∙ ap (λ o. unless o (Made next)) (sym (refused names stands))),
    ))))

-- no input was refused
pub no_first : (o : Option Reply) → ((r : Reply) → o ≡ Some r → ⊥) → None ≡ o
no_first None none = refl
no_first (Some r) none = absurd (none r refl)
