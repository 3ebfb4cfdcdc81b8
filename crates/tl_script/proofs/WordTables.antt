-- The table of the words has each word once, and no word has a space.
use Rattle.std.proofs.Common.{◌≡◌, ◌≢◌, ℕ, Bool, true, bytes_eq, List, [], ◌∷◌, codes, Option, Some, None, IfSome, IfNone, refl, sym, ◌∙◌, ap, not, ◌==◌, if◌then◌else◌}
use Rattle.std.proofs.lemmas.Bool.{and_parts, cond_both}
use Rattle.std.specs.List.{list_all}
use Rattle.std.proofs.lemmas.Slice.Eq.{bytes_eq-Decides}
use Rattle.tl_script.specs.declared.word.Verb.{Verb}
use Rattle.tl_script.specs.declared.word.Verb.TheVariants as verb
use Rattle.tl_script.specs.declared.word.Mark.{Mark}
use Rattle.tl_script.specs.declared.word.Mark.TheVariants as mark
use Rattle.tl_script.specs.Words.{verb_text, mark_text, found_in}

abbrev pub table : List (List ℕ × Verb)
table = (codes "put", verb.Put) ∷ (codes "job", verb.Job) ∷ (codes "cat", verb.Cat) ∷ (codes "sum", verb.Sum) ∷ (codes "try", verb.Try) ∷ (codes "delete", verb.Delete) ∷ (codes "mkdir", verb.Mkdir) ∷ (codes "rename", verb.Rename) ∷ (codes "pin", verb.Pin) ∷ (codes "unpin", verb.Unpin) ∷ (codes "list", verb.List) ∷ (codes "stat", verb.Stat) ∷ (codes "free", verb.Free) ∷ (codes "lose", verb.Lose) ∷ (codes "work", verb.Work) ∷ []

abbrev is_right : List ℕ × Verb → Bool
is_right entry = bytes_eq entry.0 (verb_text entry.1)

pub same_bytes : (s t : List ℕ) → bytes_eq s t ≡ true → s ≡ t
same_bytes s t e = (bytes_eq-Decides s t).0 e

found_right : (entries : List (List ℕ × Verb)) → list_all is_right entries ≡ true → (word : List ℕ) → IfSome (found_in entries word) (λ v. word ≡ verb_text v)
found_right [] all word = tt
found_right (entry ∷ entries) all word =
    let both = and_parts (is_right entry) (list_all is_right entries) all in
    cond_both (bytes_eq entry.0 word) (Some entry.1) (found_in entries word) (λ o. IfSome o (λ v. word ≡ verb_text v))
    (λ here. sym (same_bytes entry.0 word here) ∙ same_bytes entry.0 (verb_text entry.1) both.0)
    (λ elsewhere. found_right entries both.1 word)

pub found_in_table : (word : List ℕ) → IfSome (found_in table word) (λ v. word ≡ verb_text v)
found_in_table = found_right table refl

differ : (v : Verb) → ◌≡◌ {A = Option Verb} None (Some v) → ⊥
differ v e = cc

pub every_verb : (v : Verb) → found_in table (verb_text v) ≡ Some v
every_verb verb.Put = refl
every_verb verb.Job = refl
every_verb verb.Cat = refl
every_verb verb.Sum = refl
every_verb verb.Try = refl
every_verb verb.Delete = refl
every_verb verb.Mkdir = refl
every_verb verb.Rename = refl
every_verb verb.Pin = refl
every_verb verb.Unpin = refl
every_verb verb.List = refl
every_verb verb.Stat = refl
every_verb verb.Free = refl
every_verb verb.Lose = refl
every_verb verb.Work = refl

none_at : (word : List ℕ) (o : Option Verb) → found_in table word ≡ o → IfNone o ((v : Verb) → word ≢ verb_text v)
none_at word (Some v) is = tt
none_at word None is = λ w e. let there : found_in table word ≡ Some w = ap (found_in table) e ∙ every_verb w in absurd (differ w (sym is ∙ there))

pub none_in_table : (word : List ℕ) → IfNone (found_in table word) ((v : Verb) → word ≢ verb_text v)
none_in_table word = none_at word (found_in table word) refl

-- ---- words are told apart

inside : (v w : Verb) → ◌≡◌ {A = Option Verb} (Some v) (Some w) → v ≡ w
inside v w e = cc

pub same_verb : (v w : Verb) → verb_text v ≡ verb_text w → v ≡ w
same_verb v w e = inside v w (sym (every_verb v) ∙ ap (found_in table) e ∙ every_verb w)

mark_named : List ℕ → Option Mark
mark_named word =
    if bytes_eq word (codes "conf") then Some mark.Conf
    else if bytes_eq word (codes "in") then Some mark.In
    else if bytes_eq word (codes "out") then Some mark.Out
    else if bytes_eq word (codes "run") then Some mark.Run
    else None

every_mark : (m : Mark) → mark_named (mark_text m) ≡ Some m
unfolding mark_named
every_mark mark.Conf = refl
every_mark mark.In = refl
every_mark mark.Out = refl
every_mark mark.Run = refl

inside_mark : (m n : Mark) → ◌≡◌ {A = Option Mark} (Some m) (Some n) → m ≡ n
inside_mark m n e = cc

pub same_mark : (m n : Mark) → mark_text m ≡ mark_text n → m ≡ n
same_mark m n e = inside_mark m n (sym (every_mark m) ∙ ap mark_named e ∙ every_mark n)

no_verb : (m : Mark) → found_in table (mark_text m) ≡ None
no_verb mark.Conf = refl
no_verb mark.In = refl
no_verb mark.Out = refl
no_verb mark.Run = refl

pub verb_no_mark : (v : Verb) (m : Mark) → verb_text v ≡ mark_text m → ⊥
verb_no_mark v m e = differ v (sym (no_verb m) ∙ ap (found_in table) (sym e) ∙ every_verb v)

-- ---- no word has a space

abbrev pub no_space : List ℕ → Bool
no_space = list_all (λ b. not (b == 0x20))

pub verb_no_space : (v : Verb) → no_space (verb_text v) ≡ true
verb_no_space verb.Put = refl
verb_no_space verb.Job = refl
verb_no_space verb.Cat = refl
verb_no_space verb.Sum = refl
verb_no_space verb.Try = refl
verb_no_space verb.Delete = refl
verb_no_space verb.Mkdir = refl
verb_no_space verb.Rename = refl
verb_no_space verb.Pin = refl
verb_no_space verb.Unpin = refl
verb_no_space verb.List = refl
verb_no_space verb.Stat = refl
verb_no_space verb.Free = refl
verb_no_space verb.Lose = refl
verb_no_space verb.Work = refl

pub mark_no_space : (m : Mark) → no_space (mark_text m) ≡ true
mark_no_space mark.Conf = refl
mark_no_space mark.In = refl
mark_no_space mark.Out = refl
mark_no_space mark.Run = refl
