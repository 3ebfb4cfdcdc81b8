-- How the tables answer, where nothing changes.
use Rattle.std.proofs.Common.{◌≡◌, ℕ, ◌+◌, Bool, true, false, cond, List, [], ◌∷◌, length, Option, Some, None, Result, Ok, Err, refl, sym, ap, ◌∙◌, subst, arith}
use Rattle.std.proofs.lemmas.Bool.{true≢false}
use Rattle.tl_model.specs.declared.command.Command.{Command}
use Rattle.tl_model.specs.declared.record.Record.{Record}
use Rattle.tl_model.specs.declared.reply.Reply.{Reply}
use Rattle.tl_model.specs.declared.reply.Reply.TheVariants.{Made, Fine, Opened, Listed, Stated, Exists, NoSuch, NotFile, NotDir, NotEmpty, TooDeep, IntoItself, TooMany}
use Rattle.tl_model.specs.Namespace.{PathOf, Names, parent, last_part}
use Rattle.tl_model.specs.Replies.{and_then, reply_to, walk_to_file, want_file}
use Rattle.tl_model.specs.History.{names_after, record_made}
use Rattle.tl_names.specs.declared.child.Child.{Child}
use Rattle.tl_names.specs.declared.child.Child.TheVariants.{Dir, File}
use Rattle.tl_names.specs.Answers.{Answers, Tables, is_accepted}
use Rattle.tl_names.specs.Pins.{PinList, PinsStandFor}
use Rattle.tl_names.specs.Standing.{StandsFor}
use Rattle.tl_names.specs.Tables.{Dirs, child_at, found_child, walk_from, place, file_of, room_in, room_for, IsTree}
use Rattle.tl_names.proofs.Replied.{found_as, walk_same}

pub names_kept : (r : Reply) (c : Command (Unit {0})) (names : Names) → is_accepted r ≡ false → names_after r c names ≡ names
names_kept (Made made) c names kept = absurd (true≢false kept)
names_kept Fine c names kept = absurd (true≢false kept)
names_kept (Opened f) c names kept = refl
names_kept (Listed entries) c names kept = refl
names_kept (Stated status) c names kept = refl
names_kept Exists c names kept = refl
names_kept NoSuch c names kept = refl
names_kept NotFile c names kept = refl
names_kept NotDir c names kept = refl
names_kept NotEmpty c names kept = refl
names_kept TooDeep c names kept = refl
names_kept IntoItself c names kept = refl
names_kept TooMany c names kept = refl

pub no_record : (r : Reply) (c : Command (Unit {0})) (names : Names) → is_accepted r ≡ false → record_made r c names ≡ []
no_record (Made made) c names kept = absurd (true≢false kept)
no_record Fine c names kept = absurd (true≢false kept)
no_record (Opened f) c names kept = refl
no_record (Listed entries) c names kept = refl
no_record (Stated status) c names kept = refl
no_record Exists c names kept = refl
no_record NoSuch c names kept = refl
no_record NotFile c names kept = refl
no_record NotDir c names kept = refl
no_record NotEmpty c names kept = refl
no_record TooDeep c names kept = refl
no_record IntoItself c names kept = refl
no_record TooMany c names kept = refl

-- the pins of names to which no record was added
pub same_count : (pins : PinList) (names : Names) (count : ℕ) (records : List Record) → records ≡ [] → PinsStandFor pins names count → PinsStandFor pins names (count + length records)
same_count pins names count records none stand = subst (PinsStandFor pins names) counted stand
  where
    counted : count ≡ count + length records
    counted = let zero_long : length records ≡ 0 = ap length none in omega arith

-- an answer that changes nothing
pub kept_answers : (t : Tables) (count : ℕ) (c : Command (Unit {0})) (r : Reply) → IsTree t.dirs → is_accepted r ≡ false → ((names : Names) → StandsFor t.dirs names → r ≡ reply_to names count c) → Answers t t count c r
kept_answers t count c r tree kept said = record {
  said = said;
  names = λ names stands. subst (StandsFor t.dirs) (sym (names_kept r c names kept)) stands;
  pins = λ names stands stand.
      same_count t.pins (names_after r c names) count (record_made r c names) (no_record r c names kept) (subst (λ n. PinsStandFor t.pins n count) (sym (names_kept r c names kept)) stand);
  unchanged = λ _. refl;
  tree = tree;
}

-- ---- refusals

pub walk_refuses : (dirs : Dirs) (path : PathOf) (c : Child) (r : Reply) → walk_from dirs path c ≡ Err r → is_accepted r ≡ false
walk_refuses dirs [] c r is = absurd cc
walk_refuses dirs (n ∷ rest) (File f b) r is = let same : NotDir ≡ r = cc in ap is_accepted (sym same)
walk_refuses dirs (n ∷ rest) (Dir d) r is = by (child_at dirs d n) is (λ x. walk_refuses dirs rest x r)
  where
    by : (o : Option Child) → and_then (found_child o) (walk_from dirs rest) ≡ Err r → ((x : Child) → walk_from dirs rest x ≡ Err r → is_accepted r ≡ false) → is_accepted r ≡ false
    by None led more = let same : NoSuch ≡ r = cc in ap is_accepted (sym same)
    by (Some x) led more = more x led

-- ---- a file that a path names

pub file_same_walk : (dirs : Dirs) (names : Names) → StandsFor dirs names → (path : PathOf) → walk_to_file names path ≡ and_then (place dirs path) file_of
file_same_walk dirs names stands path = ap (λ w. and_then w want_file) (walk_same dirs names stands path) ∙ by (place dirs path)
  where
    by : (r : Result Child Reply) → and_then (found_as r) want_file ≡ and_then r file_of
    by (Err e) = refl
    by (Ok (Dir d)) = refl
    by (Ok (File f b)) = refl

pub file_refuses : (dirs : Dirs) (path : PathOf) (r : Reply) → and_then (place dirs path) file_of ≡ Err r → is_accepted r ≡ false
file_refuses dirs path r is = by (place dirs path) refl is
  where
    by : (found : Result Child Reply) → place dirs path ≡ found → and_then found file_of ≡ Err r → is_accepted r ≡ false
    by (Err e) at led = let same : e ≡ r = cc in walk_refuses dirs path (Dir 0) r (at ∙ ap Err same)
    by (Ok (Dir d)) at led = let same : NotFile ≡ r = cc in ap is_accepted (sym same)
    by (Ok (File f b)) at led = absurd cc

pub room_refuses : (dirs : Dirs) (path : PathOf) (r : Reply) → room_for dirs path ≡ Err r → is_accepted r ≡ false
room_refuses dirs [] r is = let same : Exists ≡ r = cc in ap is_accepted (sym same)
room_refuses dirs (part ∷ rest) r is = by (place dirs (parent (part ∷ rest))) refl is
  where
    in_dir : (b : Bool) (e : ℕ) → cond {A = Result ℕ Reply} b (Err Exists) (Ok e) ≡ Err r → is_accepted r ≡ false
    in_dir true e led = let same : Exists ≡ r = cc in ap is_accepted (sym same)
    in_dir false e led = absurd cc

    by : (found : Result Child Reply) → place dirs (parent (part ∷ rest)) ≡ found → and_then found (room_in dirs (last_part (part ∷ rest))) ≡ Err r → is_accepted r ≡ false
    by (Err e) at led = let same : e ≡ r = cc in walk_refuses dirs (parent (part ∷ rest)) (Dir 0) r (at ∙ ap Err same)
    by (Ok (File f b)) at led = let same : NotDir ≡ r = cc in ap is_accepted (sym same)
    by (Ok (Dir d)) at led = in_dir _ d led
