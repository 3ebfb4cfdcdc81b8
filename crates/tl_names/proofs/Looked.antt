-- The answers to commands that change no name.
use Rattle.std.proofs.Common.{◌≡◌, ℕ, Bool, List, [], length, map, Result, Ok, Err, refl, sym, ap, ◌∙◌}
use Rattle.tl_types.specs.declared.file_id.FileId.{FileId}
use Rattle.tl_model.specs.declared.command.Command.TheVariants.{Read, List as list, Stat, Free}
use Rattle.tl_model.specs.declared.command.Form.{Form}
use Rattle.tl_model.specs.declared.reply.Entry.{Entry}
use Rattle.tl_model.specs.declared.reply.Reply.{Reply}
use Rattle.tl_model.specs.declared.reply.Reply.TheVariants.{Fine, Listed, Stated, NotDir}
use Rattle.tl_model.specs.declared.reply.Status.TheVariants as status
use Rattle.tl_model.specs.Namespace.{PathOf, Names}
use Rattle.tl_model.specs.Replies.{and_then, opened, refusal_of, reply_to_list, reply_to_stat, unless, walk}
use Rattle.tl_names.specs.declared.child.Child.{Child}
use Rattle.tl_names.specs.declared.child.Child.TheVariants.{Dir, File}
use Rattle.tl_names.specs.Answers.{Answers, tables}
use Rattle.tl_names.specs.Pins.{PinList}
use Rattle.tl_names.specs.Standing.{StandsFor}
use Rattle.tl_names.specs.Tables.{Dirs, children_at, entry_in, file_of, place, IsTree}
use Rattle.tl_names.proofs.Answered.{file_refuses, file_same_walk, kept_answers, same_count, walk_refuses}
use Rattle.tl_names.proofs.Listed.{count_same, listing_same}
use Rattle.tl_names.proofs.Replied.{found_as, walk_same}

pub read_answers : (dirs : Dirs) → IsTree dirs → (path : PathOf) (found : Result FileId Reply) → found ≡ and_then (place dirs path) file_of →
    (pins : PinList) (count prio : ℕ) (form : Form) → Answers (tables dirs pins) (tables dirs pins) count (Read path prio form) (opened found)
read_answers dirs tree path (Ok f) is pins count prio form =
    kept_answers (tables dirs pins) count (Read path prio form) (opened (Ok f)) tree refl (λ names stands. ap opened (is ∙ sym (file_same_walk dirs names stands path)))
read_answers dirs tree path (Err r) is pins count prio form =
    kept_answers (tables dirs pins) count (Read path prio form) r tree (file_refuses dirs path r (sym is)) (λ names stands. ap opened (is ∙ sym (file_same_walk dirs names stands path)))

pub free_answers : (dirs : Dirs) → IsTree dirs → (path : PathOf) (found : Result FileId Reply) → found ≡ and_then (place dirs path) file_of →
    (pins : PinList) (count : ℕ) → Answers (tables dirs pins) (tables dirs pins) count (Free path) (unless (refusal_of found) Fine)
free_answers dirs tree path (Ok f) is pins count = record {
  said = λ names stands. ap (λ w. unless (refusal_of w) Fine) (is ∙ sym (file_same_walk dirs names stands path));
  names = λ names stands. stands;
  pins = λ names stands stand. same_count pins names count [] refl stand;
  unchanged = λ _. refl;
  tree = tree;
}
free_answers dirs tree path (Err r) is pins count =
    kept_answers (tables dirs pins) count (Free path) r tree (file_refuses dirs path r (sym is)) (λ names stands. ap (λ w. unless (refusal_of w) Fine) (is ∙ sym (file_same_walk dirs names stands path)))

-- ---- a walk's end

stat_said : (dirs : Dirs) (path : PathOf) (found : Result Child Reply) (reply : Reply) → place dirs path ≡ found → ((names : Names) → StandsFor dirs names → reply ≡ reply_to_stat names path (found_as found)) →
    (names : Names) → StandsFor dirs names → reply ≡ reply_to_stat names path (walk names path)
stat_said dirs path found reply at says names stands = says names stands ∙ ap (reply_to_stat names path) (sym (walk_same dirs names stands path ∙ ap found_as at))

pub stat_dir : (dirs : Dirs) → IsTree dirs → (path : PathOf) (d n : ℕ) → place dirs path ≡ Ok (Dir d) → n ≡ length (children_at dirs d) →
    (pins : PinList) (count : ℕ) → Answers (tables dirs pins) (tables dirs pins) count (Stat path) (Stated (status.Dir n))
stat_dir dirs tree path d n at counted pins count =
    kept_answers (tables dirs pins) count (Stat path) (Stated (status.Dir n)) tree refl
    (stat_said dirs path (Ok (Dir d)) (Stated (status.Dir n)) at (λ names stands. ap (λ k. Stated (status.Dir k)) (counted ∙ sym (count_same dirs names stands path d at (tree.ascending d)))))

pub stat_file : (dirs : Dirs) → IsTree dirs → (path : PathOf) (f : FileId) (b : Bool) → place dirs path ≡ Ok (File f b) → (pins : PinList) (count : ℕ) →
    Answers (tables dirs pins) (tables dirs pins) count (Stat path) (Stated (status.File f b))
stat_file dirs tree path f b at pins count =
    kept_answers (tables dirs pins) count (Stat path) (Stated (status.File f b)) tree refl (stat_said dirs path (Ok (File f b)) (Stated (status.File f b)) at (λ names stands. refl))

pub stat_refused : (dirs : Dirs) → IsTree dirs → (path : PathOf) (r : Reply) → place dirs path ≡ Err r → (pins : PinList) (count : ℕ) → Answers (tables dirs pins) (tables dirs pins) count (Stat path) r
stat_refused dirs tree path r at pins count =
    kept_answers (tables dirs pins) count (Stat path) r tree (walk_refuses dirs path (Dir 0) r at) (stat_said dirs path (Err r) r at (λ names stands. refl))

list_said : (dirs : Dirs) (path : PathOf) (found : Result Child Reply) (reply : Reply) → place dirs path ≡ found → ((names : Names) → StandsFor dirs names → reply ≡ reply_to_list names path (found_as found)) →
    (names : Names) → StandsFor dirs names → reply ≡ reply_to_list names path (walk names path)
list_said dirs path found reply at says names stands = says names stands ∙ ap (reply_to_list names path) (sym (walk_same dirs names stands path ∙ ap found_as at))

pub list_dir : (dirs : Dirs) → IsTree dirs → (path : PathOf) (d : ℕ) (entries : List Entry) → place dirs path ≡ Ok (Dir d) → entries ≡ map entry_in (children_at dirs d) →
    (pins : PinList) (count : ℕ) → Answers (tables dirs pins) (tables dirs pins) count (list path) (Listed entries)
list_dir dirs tree path d entries at listed pins count =
    kept_answers (tables dirs pins) count (list path) (Listed entries) tree refl
    (list_said dirs path (Ok (Dir d)) (Listed entries) at (λ names stands. ap Listed (listed ∙ sym (listing_same dirs names stands path d at (tree.ascending d)))))

pub list_file : (dirs : Dirs) → IsTree dirs → (path : PathOf) (f : FileId) (b : Bool) → place dirs path ≡ Ok (File f b) → (pins : PinList) (count : ℕ) →
    Answers (tables dirs pins) (tables dirs pins) count (list path) NotDir
list_file dirs tree path f b at pins count =
    kept_answers (tables dirs pins) count (list path) NotDir tree refl (list_said dirs path (Ok (File f b)) NotDir at (λ names stands. refl))

pub list_refused : (dirs : Dirs) → IsTree dirs → (path : PathOf) (r : Reply) → place dirs path ≡ Err r → (pins : PinList) (count : ℕ) → Answers (tables dirs pins) (tables dirs pins) count (list path) r
list_refused dirs tree path r at pins count =
    kept_answers (tables dirs pins) count (list path) r tree (walk_refuses dirs path (Dir 0) r at) (list_said dirs path (Err r) r at (λ names stands. refl))
