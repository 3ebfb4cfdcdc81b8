-- The words of a reply stand before a space and more in one way only.
use Rattle.std.proofs.Common.{◌≡◌, ℕ, ◌<◌, ◌≤◌, ◌^◌, suc, Bool, true, false, not, ◌&&◌, ◌==◌, if◌then◌else◌, List, [], ◌∷◌, ◌++◌, bytes_eq, codes, decimal, length, map, Option, Some, None, refl, sym, ◌∙◌, ap, subst, arith, append_assoc, append-nil}
use Rattle.std.specs.List.{All, AllByRecursion, list_all}
use Rattle.std.proofs.lemmas.Bool.{and_parts, and_from}
use Rattle.std.proofs.lemmas.List.{append_cancel_left}
use Rattle.tl_types.specs.Path.{IsComponent, is_component_byte}
use Rattle.tl_types.specs.declared.file_id.FileId.{FileId}
use Rattle.tl_text.specs.File.{file_text}
use Rattle.tl_text.specs.PathText.{EndsToken}
use Rattle.tl_text.specs.Number.{BeginsWithNoDigit}
use Rattle.tl_text.proofs.Components.{BeginsNoComponent, component_has, one_component}
use Rattle.tl_model.specs.declared.reply.Entry.{Entry}
use Rattle.tl_model.specs.declared.reply.Reply.{Reply}
use Rattle.tl_model.specs.declared.reply.Reply.TheVariants.{Made, Fine, Opened, Listed, Stated, Exists, NoSuch, NotFile, NotDir, NotEmpty, TooDeep, IntoItself, TooMany}
use Rattle.tl_model.specs.declared.reply.Status.{Status}
use Rattle.tl_model.specs.declared.reply.Status.TheVariants.{File, Dir}
use Rattle.tl_report.specs.Words.{spaced, entry_word, status_words, reply_words}
use Rattle.tl_script.proofs.OneToken.{one_word}
use Rattle.tl_script.proofs.WordTables.{no_space}
use Rattle.tl_spelling.specs.Shown.{IsEntry, IsFile, IsReply}
use Rattle.tl_spelling.proofs.Cuts.{tail_of, no_digit_at_space, cut_number, cut_record, cut_file}

-- ---- the names of a directory

-- what stands behind a name
abbrev name_more : Bool → List ℕ → List ℕ
name_more dir rest = (if dir then codes "/" else []) ++ rest

slash_is_no_space : (x y : List ℕ) → 0x2F ∷ x ≡ 0x20 ∷ y → ⊥
slash_is_no_space x y e = let heads : ◌≡◌ {A = ℕ} 0x2F 0x20 = cc in omega (arith, heads)

one_ending : (dir other : Bool) (x y : List ℕ) → name_more dir (0x20 ∷ x) ≡ name_more other (0x20 ∷ y) → (dir ≡ other) × (0x20 ∷ x ≡ 0x20 ∷ y)
one_ending true true x y e = (refl, tail_of 0x2F 0x2F (0x20 ∷ x) (0x20 ∷ y) e)
one_ending false false x y e = (refl, e)
one_ending true false x y e = absurd (slash_is_no_space (0x20 ∷ x) y e)
one_ending false true x y e = absurd (slash_is_no_space (0x20 ∷ y) x (sym e))

no_component : (dir : Bool) (x : List ℕ) → BeginsNoComponent (name_more dir (0x20 ∷ x))
no_component true x = refl
no_component false x = refl

pub one_name : (e f : Entry) (x y : List ℕ) → IsEntry e → IsEntry f → entry_word e ++ 0x20 ∷ x ≡ entry_word f ++ 0x20 ∷ y → (e ≡ f) × (0x20 ∷ x ≡ 0x20 ∷ y)
one_name e f x y h k same =
    let flat : e.name ++ name_more e.dir (0x20 ∷ x) ≡ f.name ++ name_more f.dir (0x20 ∷ y) =
    sym (append_assoc e.name (if e.dir then codes "/" else []) (0x20 ∷ x)) ∙ same ∙ append_assoc f.name (if f.dir then codes "/" else []) (0x20 ∷ y) in
    let names = one_component e.name (name_more e.dir (0x20 ∷ x)) f.name (name_more f.dir (0x20 ∷ y)) (component_has e.name h).bytes (component_has f.name k).bytes
    (no_component e.dir x) (no_component f.dir y) flat in
    let ends = one_ending e.dir f.dir x y names.1 in
    (λ j. record { name = names.0 j; dir = ends.0 j }, ends.1)

-- each name behind a space, and then a space and more
abbrev names : List Entry → List ℕ → List ℕ
names [] rest = 0x20 ∷ rest
names (entry ∷ entries) rest = 0x20 ∷ (entry_word entry ++ names entries rest)

spaced_names : (word : List ℕ) (entries : List Entry) (rest : List ℕ) → spaced (word ∷ map entry_word entries) ++ 0x20 ∷ rest ≡ word ++ names entries rest
spaced_names word [] rest = refl
spaced_names word (entry ∷ entries) rest =
    append_assoc word (0x20 ∷ spaced (entry_word entry ∷ map entry_word entries)) (0x20 ∷ rest)
    ∙ ap (λ (text : List ℕ). word ++ 0x20 ∷ text) (spaced_names (entry_word entry) entries rest)

-- names begin with a space
behind_space : (entries : List Entry) (rest : List ℕ) → (more : List ℕ) × (names entries rest ≡ 0x20 ∷ more)
behind_space [] rest = (rest, refl)
behind_space (entry ∷ entries) rest = (entry_word entry ++ names entries rest, refl)

none_or_some : (n : ℕ) → ◌≡◌ {A = ℕ} 0 (suc n) → ⊥
none_or_some n e = omega (arith, e)

less_one : (m n : ℕ) → suc m ≡ suc n → m ≡ n
less_one m n e = omega (arith, e)

one_names : (es fs : List Entry) (x y : List ℕ) → length es ≡ length fs → AllByRecursion IsEntry es → AllByRecursion IsEntry fs → names es x ≡ names fs y → (es ≡ fs) × (x ≡ y)
one_names [] [] x y n h k same = (refl, tail_of 0x20 0x20 x y same)
one_names [] (f ∷ fs) x y n h k same = absurd (none_or_some (length fs) n)
one_names (e ∷ es) [] x y n h k same = absurd (none_or_some (length es) (sym n))
one_names (e ∷ es) (f ∷ fs) x y n h k same =
    let left = behind_space es x in
    let right = behind_space fs y in
    let front : entry_word e ++ names es x ≡ entry_word f ++ names fs y = tail_of 0x20 0x20 (entry_word e ++ names es x) (entry_word f ++ names fs y) same in
    let apart : entry_word e ++ 0x20 ∷ left.0 ≡ entry_word f ++ 0x20 ∷ right.0 =
    ap (λ (text : List ℕ). entry_word e ++ text) (sym left.1) ∙ front ∙ ap (λ (text : List ℕ). entry_word f ++ text) right.1 in
    let first = one_name e f left.0 right.0 h.0 k.0 apart in
    let rest = one_names es fs x y (less_one (length es) (length fs) n) h.1 k.1 (left.1 ∙ first.1 ∙ sym right.1) in
    (λ j. first.0 j ∷ rest.0 j, rest.1)

-- ---- the word that a reply begins with

pub data Saying : Type 0 where
  made : Saying
  fine : Saying
  opened : Saying
  listed : Saying
  stated : Saying
  exists : Saying
  nosuch : Saying
  notfile : Saying
  notdir : Saying
  notempty : Saying
  toodeep : Saying
  intoitself : Saying
  toomany : Saying

saying_of : Reply → Saying
saying_of (Made r) = made
saying_of Fine = fine
saying_of (Opened f) = opened
saying_of (Listed es) = listed
saying_of (Stated status) = stated
saying_of Exists = exists
saying_of NoSuch = nosuch
saying_of NotFile = notfile
saying_of NotDir = notdir
saying_of NotEmpty = notempty
saying_of TooDeep = toodeep
saying_of IntoItself = intoitself
saying_of TooMany = toomany

saying_word : Saying → List ℕ
saying_word made = codes "made"
saying_word fine = codes "ok"
saying_word opened = codes "open"
saying_word listed = codes "list"
saying_word stated = codes "stat"
saying_word exists = codes "exists"
saying_word nosuch = codes "nosuch"
saying_word notfile = codes "notfile"
saying_word notdir = codes "notdir"
saying_word notempty = codes "notempty"
saying_word toodeep = codes "toodeep"
saying_word intoitself = codes "intoitself"
saying_word toomany = codes "toomany"

saying_named : List ℕ → Option Saying
saying_named word =
    if bytes_eq word (codes "made") then Some made
    else if bytes_eq word (codes "ok") then Some fine
    else if bytes_eq word (codes "open") then Some opened
    else if bytes_eq word (codes "list") then Some listed
    else if bytes_eq word (codes "stat") then Some stated
    else if bytes_eq word (codes "exists") then Some exists
    else if bytes_eq word (codes "nosuch") then Some nosuch
    else if bytes_eq word (codes "notfile") then Some notfile
    else if bytes_eq word (codes "notdir") then Some notdir
    else if bytes_eq word (codes "notempty") then Some notempty
    else if bytes_eq word (codes "toodeep") then Some toodeep
    else if bytes_eq word (codes "intoitself") then Some intoitself
    else if bytes_eq word (codes "toomany") then Some toomany
    else None

every_saying : (s : Saying) → saying_named (saying_word s) ≡ Some s
unfolding saying_named saying_word
every_saying made = refl
every_saying fine = refl
every_saying opened = refl
every_saying listed = refl
every_saying stated = refl
every_saying exists = refl
every_saying nosuch = refl
every_saying notfile = refl
every_saying notdir = refl
every_saying notempty = refl
every_saying toodeep = refl
every_saying intoitself = refl
every_saying toomany = refl

inside : (s t : Saying) → ◌≡◌ {A = Option Saying} (Some s) (Some t) → s ≡ t
inside s t e = cc

same_saying : (s t : Saying) → saying_word s ≡ saying_word t → s ≡ t
same_saying s t e = inside s t (sym (every_saying s) ∙ ap saying_named e ∙ every_saying t)

saying_no_space : (s : Saying) → no_space (saying_word s) ≡ true
unfolding saying_word
saying_no_space made = refl
saying_no_space fine = refl
saying_no_space opened = refl
saying_no_space listed = refl
saying_no_space stated = refl
saying_no_space exists = refl
saying_no_space nosuch = refl
saying_no_space notfile = refl
saying_no_space notdir = refl
saying_no_space notempty = refl
saying_no_space toodeep = refl
saying_no_space intoitself = refl
saying_no_space toomany = refl

-- ---- what stands behind that word

pin_word : Bool → List ℕ
pin_word pinned = if pinned then codes "pinned" else codes "loose"

status_more : Status → List ℕ → List ℕ
status_more (File file pinned) rest = 0x20 ∷ (codes "file" ++ 0x20 ∷ (file_text file ++ 0x20 ∷ (pin_word pinned ++ 0x20 ∷ rest)))
status_more (Dir children) rest = 0x20 ∷ (codes "dir" ++ 0x20 ∷ (decimal children ++ 0x20 ∷ rest))

reply_more : Reply → List ℕ → List ℕ
reply_more (Made r) rest = 0x20 ∷ (decimal r.0 ++ 0x20 ∷ rest)
reply_more (Opened file) rest = 0x20 ∷ (file_text file ++ 0x20 ∷ rest)
reply_more (Listed entries) rest = 0x20 ∷ (decimal (length entries) ++ names entries rest)
reply_more (Stated status) rest = status_more status rest
reply_more reply rest = 0x20 ∷ rest

status_parts : (status : Status) (rest : List ℕ) → status_words status ++ 0x20 ∷ rest ≡ codes "stat" ++ status_more status rest
unfolding status_more pin_word
status_parts (File file pinned) rest = ap (λ (text : List ℕ). codes "stat file " ++ text) (append_assoc (file_text file) (0x20 ∷ pin_word pinned) (0x20 ∷ rest))
status_parts (Dir children) rest = refl

reply_parts : (reply : Reply) (rest : List ℕ) → reply_words reply ++ 0x20 ∷ rest ≡ saying_word (saying_of reply) ++ reply_more reply rest
unfolding reply_more saying_of saying_word
reply_parts (Made r) rest = refl
reply_parts Fine rest = refl
reply_parts (Opened file) rest = refl
reply_parts (Listed entries) rest = ap (λ (text : List ℕ). codes "list " ++ text) (spaced_names (decimal (length entries)) entries rest)
reply_parts (Stated status) rest = status_parts status rest
reply_parts Exists rest = refl
reply_parts NoSuch rest = refl
reply_parts NotFile rest = refl
reply_parts NotDir rest = refl
reply_parts NotEmpty rest = refl
reply_parts TooDeep rest = refl
reply_parts IntoItself rest = refl
reply_parts TooMany rest = refl

status_ended : (status : Status) (rest : List ℕ) → EndsToken (status_more status rest)
unfolding status_more
status_ended (File file pinned) rest = refl
status_ended (Dir children) rest = refl

reply_ended : (reply : Reply) (rest : List ℕ) → EndsToken (reply_more reply rest)
unfolding reply_more
reply_ended (Made r) rest = refl
reply_ended (Opened file) rest = refl
reply_ended (Listed entries) rest = refl
reply_ended (Stated status) rest = status_ended status rest
reply_ended Fine rest = refl
reply_ended Exists rest = refl
reply_ended NoSuch rest = refl
reply_ended NotFile rest = refl
reply_ended NotDir rest = refl
reply_ended NotEmpty rest = refl
reply_ended TooDeep rest = refl
reply_ended IntoItself rest = refl
reply_ended TooMany rest = refl

-- ---- one status, one reply

pins_differ : (x y : List ℕ) → codes "pinned" ++ x ≡ codes "loose" ++ y → ⊥
pins_differ x y e = let heads : ◌≡◌ {A = ℕ} 112 108 = cc in omega (arith, heads)

one_pin : (pinned other : Bool) (x y : List ℕ) → pin_word pinned ++ 0x20 ∷ x ≡ pin_word other ++ 0x20 ∷ y → (pinned ≡ other) × (x ≡ y)
unfolding pin_word
one_pin true true x y e = (refl, tail_of 0x20 0x20 x y (append_cancel_left (codes "pinned") (0x20 ∷ x) (0x20 ∷ y) e))
one_pin false false x y e = (refl, tail_of 0x20 0x20 x y (append_cancel_left (codes "loose") (0x20 ∷ x) (0x20 ∷ y) e))
one_pin true false x y e = absurd (pins_differ (0x20 ∷ x) (0x20 ∷ y) e)
one_pin false true x y e = absurd (pins_differ (0x20 ∷ y) (0x20 ∷ x) (sym e))

kinds_differ : (x y : List ℕ) → codes " file" ++ x ≡ codes " dir" ++ y → ⊥
kinds_differ x y e =
    let tails = tail_of 0x20 0x20 (codes "file" ++ x) (codes "dir" ++ y) e in
    let heads : ◌≡◌ {A = ℕ} 102 100 = cc in omega (arith, heads)

one_status : (s t : Status) (x y : List ℕ) → IsReply (Stated s) → IsReply (Stated t) → status_more s x ≡ status_more t y → (s ≡ t) × (x ≡ y)
unfolding status_more
one_status (File f p) (File g q) x y h k e =
    let front = append_cancel_left (codes " file ") (file_text f ++ 0x20 ∷ (pin_word p ++ 0x20 ∷ x)) (file_text g ++ 0x20 ∷ (pin_word q ++ 0x20 ∷ y)) e in
    let files = cut_file f g (0x20 ∷ (pin_word p ++ 0x20 ∷ x)) (0x20 ∷ (pin_word q ++ 0x20 ∷ y)) h k (no_digit_at_space (pin_word p ++ 0x20 ∷ x)) (no_digit_at_space (pin_word q ++ 0x20 ∷ y)) front in
    let pins = one_pin p q x y (tail_of 0x20 0x20 (pin_word p ++ 0x20 ∷ x) (pin_word q ++ 0x20 ∷ y) files.1) in
    (λ j. File (files.0 j) (pins.0 j), pins.1)
one_status (Dir m) (Dir n) x y h k e =
    let front = append_cancel_left (codes " dir ") (decimal m ++ 0x20 ∷ x) (decimal n ++ 0x20 ∷ y) e in
    let cut = cut_number m n (0x20 ∷ x) (0x20 ∷ y) (omega (arith, h)) (omega (arith, k)) (no_digit_at_space x) (no_digit_at_space y) front in
    (λ j. Dir (cut.0 j), tail_of 0x20 0x20 x y cut.1)
one_status (File f p) (Dir n) x y h k e = absurd (kinds_differ (0x20 ∷ (file_text f ++ 0x20 ∷ (pin_word p ++ 0x20 ∷ x))) (0x20 ∷ (decimal n ++ 0x20 ∷ y)) e)
one_status (Dir n) (File g q) x y h k e = absurd (kinds_differ (0x20 ∷ (file_text g ++ 0x20 ∷ (pin_word q ++ 0x20 ∷ y))) (0x20 ∷ (decimal n ++ 0x20 ∷ x)) (sym e))

one_more : (r s : Reply) (x y : List ℕ) → saying_of r ≡ saying_of s → IsReply r → IsReply s → reply_more r x ≡ reply_more s y → (r ≡ s) × (x ≡ y)
unfolding saying_of reply_more
one_more (Made r) (Made s) x y same h k e =
    let front = tail_of 0x20 0x20 (decimal r.0 ++ 0x20 ∷ x) (decimal s.0 ++ 0x20 ∷ y) e in
    let cut = cut_record r s (0x20 ∷ x) (0x20 ∷ y) h k (no_digit_at_space x) (no_digit_at_space y) front in
    (λ j. Made (cut.0 j), tail_of 0x20 0x20 x y cut.1)
one_more (Opened f) (Opened g) x y same h k e =
    let front = tail_of 0x20 0x20 (file_text f ++ 0x20 ∷ x) (file_text g ++ 0x20 ∷ y) e in
    let cut = cut_file f g (0x20 ∷ x) (0x20 ∷ y) h k (no_digit_at_space x) (no_digit_at_space y) front in
    (λ j. Opened (cut.0 j), tail_of 0x20 0x20 x y cut.1)
one_more (Listed es) (Listed fs) x y same h k e =
    let left = behind_space es x in
    let right = behind_space fs y in
    let front = tail_of 0x20 0x20 (decimal (length es) ++ names es x) (decimal (length fs) ++ names fs y) e in
    let cut = cut_number (length es) (length fs) (names es x) (names fs y) (omega (arith, h.1)) (omega (arith, k.1))
    (subst BeginsWithNoDigit (sym left.1) (no_digit_at_space left.0)) (subst BeginsWithNoDigit (sym right.1) (no_digit_at_space right.0)) front in
    let both = one_names es fs x y cut.0 h.0 k.0 cut.1 in
    (λ j. Listed (both.0 j), both.1)
one_more (Stated s) (Stated t) x y same h k e = let both = one_status s t x y h k e in (λ j. Stated (both.0 j), both.1)
one_more Fine Fine x y same h k e = (refl, tail_of 0x20 0x20 x y e)
one_more Exists Exists x y same h k e = (refl, tail_of 0x20 0x20 x y e)
one_more NoSuch NoSuch x y same h k e = (refl, tail_of 0x20 0x20 x y e)
one_more NotFile NotFile x y same h k e = (refl, tail_of 0x20 0x20 x y e)
one_more NotDir NotDir x y same h k e = (refl, tail_of 0x20 0x20 x y e)
one_more NotEmpty NotEmpty x y same h k e = (refl, tail_of 0x20 0x20 x y e)
one_more TooDeep TooDeep x y same h k e = (refl, tail_of 0x20 0x20 x y e)
one_more IntoItself IntoItself x y same h k e = (refl, tail_of 0x20 0x20 x y e)
one_more TooMany TooMany x y same h k e = (refl, tail_of 0x20 0x20 x y e)
one_more r s x y same h k e = absurd (cc)

-- words of a reply, a space and more are so in one way
pub one_reply : (r s : Reply) (x y : List ℕ) → IsReply r → IsReply s → reply_words r ++ 0x20 ∷ x ≡ reply_words s ++ 0x20 ∷ y → (r ≡ s) × (x ≡ y)
one_reply r s x y h k e =
    let words = one_word (saying_word (saying_of r)) (saying_word (saying_of s)) (reply_more r x) (reply_more s y)
    (saying_no_space (saying_of r)) (saying_no_space (saying_of s)) (reply_ended r x) (reply_ended s y) (sym (reply_parts r x) ∙ e ∙ reply_parts s y) in
    one_more r s x y (same_saying (saying_of r) (saying_of s) words.0) h k words.1
