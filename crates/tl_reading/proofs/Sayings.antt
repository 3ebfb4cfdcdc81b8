-- A reply is its first word and what stands behind it.
use Rattle.std.proofs.Common.{◌≡◌, ◌≢◌, ℕ, Bool, true, List, [], ◌∷◌, ◌++◌, codes, decimal, length, map, refl, sym, ◌∙◌, ap, arith, append_assoc, append-nil}
use Rattle.std.specs.List.{All}
use Rattle.std.proofs.lemmas.List.{append_cancel_left}
use Rattle.tl_types.specs.declared.file_id.FileId.{FileId}
use Rattle.tl_text.specs.File.{file_text}
use Rattle.tl_model.specs.declared.reply.Entry.{Entry}
use Rattle.tl_model.specs.declared.reply.Reply.{Reply}
use Rattle.tl_model.specs.declared.reply.Reply.TheVariants.{Made, Fine, Opened, Listed, Stated, Exists, NoSuch, NotFile, NotDir, NotEmpty, TooDeep, IntoItself, TooMany}
use Rattle.tl_model.specs.declared.reply.Status.{Status}
use Rattle.tl_model.specs.declared.reply.Status.TheVariants.{File, Dir}
use Rattle.tl_report.specs.Words.{entry_word, reply_words, spaced, status_words}
use Rattle.tl_script.specs.Lines.{IsOther}
use Rattle.tl_script.proofs.Splits.{no_cut, one_cut}
use Rattle.tl_script.proofs.WordTables.{no_space}
use Rattle.tl_spelling.specs.Shown.{IsFile, IsReply}
use Rattle.tl_spelling.proofs.Cuts.{cut_file, no_digit_at_space, tail_of}
use Rattle.tl_reading.specs.declared.saying.Saying.{Saying}
use Rattle.tl_reading.specs.declared.saying.Saying.TheVariants as saying
use Rattle.tl_reading.specs.Replies.{behind, listed, pin_text, saying_of, saying_text, status_and}
use Rattle.tl_reading.proofs.Names.{without_space}
use Rattle.tl_reading.proofs.Tables.{same_saying}

-- ---- what a path names

words_differ : (x y : List ℕ) → codes "file " ++ x ≡ codes "dir " ++ y → ⊥
words_differ x y e = let heads : ◌≡◌ {A = ℕ} 102 100 = cc in omega (arith, heads)

pub no_pinned : (text : List ℕ) (file : FileId) (rest : List ℕ) → IsFile file → text ≡ file_text file ++ 0x20 ∷ rest → ((pinned : Bool) (more : List ℕ) → rest ≢ pin_text pinned ++ 0x20 ∷ more)
    → (status : Status) (more : List ℕ) → IsReply (Stated status) → codes "file " ++ text ≡ status_and status more → ⊥
no_pinned text file rest h e bare (File other pinned) more k same =
    let front = append_cancel_left (codes "file ") text (file_text other ++ 0x20 ∷ (pin_text pinned ++ 0x20 ∷ more)) same in
    let files = cut_file file other (0x20 ∷ rest) (0x20 ∷ (pin_text pinned ++ 0x20 ∷ more)) h k (no_digit_at_space rest) (no_digit_at_space (pin_text pinned ++ 0x20 ∷ more)) (sym e ∙ front) in
    bare pinned more (tail_of 0x20 0x20 rest (pin_text pinned ++ 0x20 ∷ more) files.1)
no_pinned text file rest h e bare (Dir children) more k same = words_differ text (decimal children ++ 0x20 ∷ more) same

-- ---- replies

spaced_listed : (word : List ℕ) (entries : List Entry) (rest : List ℕ) → spaced (word ∷ map entry_word entries) ++ 0x20 ∷ rest ≡ word ++ 0x20 ∷ listed entries rest
spaced_listed word [] rest = refl
spaced_listed word (entry ∷ entries) rest =
    append_assoc word (0x20 ∷ spaced (entry_word entry ∷ map entry_word entries)) (0x20 ∷ rest)
    ∙ ap (λ (text : List ℕ). word ++ 0x20 ∷ text) (spaced_listed (entry_word entry) entries rest)

status_parts : (status : Status) (rest : List ℕ) → status_words status ++ 0x20 ∷ rest ≡ codes "stat" ++ 0x20 ∷ status_and status rest
status_parts (File file pinned) rest = ap (λ (text : List ℕ). codes "stat file " ++ text) (append_assoc (file_text file) (0x20 ∷ pin_text pinned) (0x20 ∷ rest))
status_parts (Dir children) rest = refl

pub reply_parts : (reply : Reply) (rest : List ℕ) → reply_words reply ++ 0x20 ∷ rest ≡ saying_text (saying_of reply) ++ 0x20 ∷ behind reply rest
reply_parts (Made r) rest = refl
reply_parts Fine rest = refl
reply_parts (Opened file) rest = refl
reply_parts (Listed entries) rest = ap (λ (text : List ℕ). codes "list " ++ text) (spaced_listed (decimal (length entries)) entries rest)
reply_parts (Stated status) rest = status_parts status rest
reply_parts Exists rest = refl
reply_parts NoSuch rest = refl
reply_parts NotFile rest = refl
reply_parts NotDir rest = refl
reply_parts NotEmpty rest = refl
reply_parts TooDeep rest = refl
reply_parts IntoItself rest = refl
reply_parts TooMany rest = refl

saying_no_space : (s : Saying) → no_space (saying_text s) ≡ true
saying_no_space saying.Made = refl
saying_no_space saying.Fine = refl
saying_no_space saying.Opened = refl
saying_no_space saying.Listed = refl
saying_no_space saying.Stated = refl
saying_no_space saying.Exists = refl
saying_no_space saying.NoSuch = refl
saying_no_space saying.NotFile = refl
saying_no_space saying.NotDir = refl
saying_no_space saying.NotEmpty = refl
saying_no_space saying.TooDeep = refl
saying_no_space saying.IntoItself = refl
saying_no_space saying.TooMany = refl

-- the word that stands before the first space, and what stands behind it
pub saying_cut : (word rest : List ℕ) (reply : Reply) (more : List ℕ) → All (IsOther 32) word → word ++ 0x20 ∷ rest ≡ reply_words reply ++ 0x20 ∷ more → (word ≡ saying_text (saying_of reply)) × (rest ≡ behind reply more)
saying_cut word rest reply more h e =
    one_cut 32 word rest (saying_text (saying_of reply)) (behind reply more) h (without_space (saying_text (saying_of reply)) (saying_no_space (saying_of reply))) (e ∙ reply_parts reply more)

pub saying_same : (word rest : List ℕ) (s : Saying) (reply : Reply) (more : List ℕ) → All (IsOther 32) word → word ≡ saying_text s → word ++ 0x20 ∷ rest ≡ reply_words reply ++ 0x20 ∷ more → (saying_of reply ≡ s) × (rest ≡ behind reply more)
saying_same word rest s reply more h is e =
    let cut = saying_cut word rest reply more h e in
    (same_saying (saying_of reply) s (sym cut.0 ∙ is), cut.1)

pub saying_joined : (text word rest : List ℕ) (s : Saying) (reply : Reply) (more : List ℕ) → text ≡ word ++ 0x20 ∷ rest → word ≡ saying_text s → saying_of reply ≡ s → rest ≡ behind reply more → text ≡ reply_words reply ++ 0x20 ∷ more
saying_joined text word rest s reply more e is same said =
    e ∙ (λ i. is i ++ 0x20 ∷ said i) ∙ ap (λ (w : Saying). saying_text w ++ 0x20 ∷ behind reply more) (sym same) ∙ sym (reply_parts reply more)

append_nothing : (word rest : List ℕ) → rest ≡ [] → word ++ rest ≡ word
append_nothing word rest none = ap (λ (more : List ℕ). word ++ more) none ∙ append-nil word

-- a text that is all before its first space has none
pub no_space_in : (text word rest front more : List ℕ) → All (IsOther 32) word → text ≡ word ++ rest → rest ≡ [] → text ≡ front ++ 0x20 ∷ more → ⊥
no_space_in text word rest front more h e none f =
    no_cut 32 word front more h (sym (append_nothing word rest none) ∙ sym e ∙ f)
