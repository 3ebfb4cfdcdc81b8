-- The tables of words have each word once.
use Rattle.std.proofs.Common.{◌≡◌, ◌≢◌, ℕ, Bool, true, bytes_eq, List, [], ◌∷◌, codes, Option, Some, None, IfSome, IfNone, refl, sym, ◌∙◌, ap}
use Rattle.std.proofs.lemmas.Bool.{and_parts, cond_both}
use Rattle.std.specs.List.{list_all}
use Rattle.std.proofs.lemmas.Slice.Eq.{bytes_eq-Decides}
use Rattle.tl_reading.specs.declared.deed.Deed.{Deed}
use Rattle.tl_reading.specs.declared.deed.Deed.TheVariants as deed
use Rattle.tl_reading.specs.declared.saying.Saying.{Saying}
use Rattle.tl_reading.specs.declared.saying.Saying.TheVariants as saying
use Rattle.tl_reading.specs.Acts.{deed_text, found_in}
use Rattle.tl_reading.specs.Replies.{saying_text}

-- ---- any table

abbrev is_right : {T : Type 0} → (T → List ℕ) → List ℕ × T → Bool
is_right text entry = bytes_eq entry.0 (text entry.1)

same_bytes : (s t : List ℕ) → bytes_eq s t ≡ true → s ≡ t
same_bytes s t e = (bytes_eq-Decides s t).0 e

found_right : {T : Type 0} (text : T → List ℕ) (entries : List (List ℕ × T)) → list_all (is_right text) entries ≡ true → (word : List ℕ) → IfSome (found_in entries word) (λ d. word ≡ text d)
found_right text [] all word = tt
found_right text (entry ∷ entries) all word =
    let both = and_parts (is_right text entry) (list_all (is_right text) entries) all in
    cond_both (bytes_eq entry.0 word) (Some entry.1) (found_in entries word) (λ o. IfSome o (λ d. word ≡ text d))
    (λ here. sym (same_bytes entry.0 word here) ∙ same_bytes entry.0 (text entry.1) both.0)
    (λ elsewhere. found_right text entries both.1 word)

differ : {T : Type 0} (d : T) → ◌≡◌ {A = Option T} None (Some d) → ⊥
differ d e = cc

none_right : {T : Type 0} (text : T → List ℕ) (entries : List (List ℕ × T)) → ((d : T) → found_in entries (text d) ≡ Some d) → (word : List ℕ) (o : Option T) → found_in entries word ≡ o → IfNone o ((d : T) → word ≢ text d)
none_right text entries every word (Some d) is = tt
none_right text entries every word None is = λ d e. let there : found_in entries word ≡ Some d = ap (found_in entries) e ∙ every d in absurd (differ d (sym is ∙ there))

inside : {T : Type 0} (d e : T) → ◌≡◌ {A = Option T} (Some d) (Some e) → d ≡ e
inside d e same = cc

told_apart : {T : Type 0} (text : T → List ℕ) (entries : List (List ℕ × T)) → ((d : T) → found_in entries (text d) ≡ Some d) → (d e : T) → text d ≡ text e → d ≡ e
told_apart text entries every d e same = inside d e (sym (every d) ∙ ap (found_in entries) same ∙ every e)

-- ---- deeds

abbrev deeds : List (List ℕ × Deed)
deeds = (codes "call", deed.Call) ∷ (codes "served", deed.Served) ∷ (codes "shut", deed.Shut) ∷ (codes "claim", deed.Claim) ∷ (codes "done", deed.Done) ∷ (codes "back", deed.Back) ∷ (codes "lose", deed.Lose) ∷ (codes "free", deed.Free) ∷ (codes "drop", deed.Drop) ∷ (codes "load", deed.Load) ∷ (codes "save", deed.Save) ∷ (codes "saved", deed.Saved) ∷ (codes "unsave", deed.Unsave) ∷ (codes "collect", deed.Collect) ∷ []

every_deed : (d : Deed) → found_in deeds (deed_text d) ≡ Some d
every_deed deed.Call = refl
every_deed deed.Served = refl
every_deed deed.Shut = refl
every_deed deed.Claim = refl
every_deed deed.Done = refl
every_deed deed.Back = refl
every_deed deed.Lose = refl
every_deed deed.Free = refl
every_deed deed.Drop = refl
every_deed deed.Load = refl
every_deed deed.Save = refl
every_deed deed.Saved = refl
every_deed deed.Unsave = refl
every_deed deed.Collect = refl

pub deed_found : (word : List ℕ) → IfSome (found_in deeds word) (λ d. word ≡ deed_text d)
deed_found = found_right deed_text deeds refl

pub deed_none : (word : List ℕ) → IfNone (found_in deeds word) ((d : Deed) → word ≢ deed_text d)
deed_none word = none_right deed_text deeds every_deed word (found_in deeds word) refl

pub same_deed : (d e : Deed) → deed_text d ≡ deed_text e → d ≡ e
same_deed = told_apart deed_text deeds every_deed

-- ---- replies

abbrev sayings : List (List ℕ × Saying)
sayings = (codes "made", saying.Made) ∷ (codes "ok", saying.Fine) ∷ (codes "open", saying.Opened) ∷ (codes "list", saying.Listed) ∷ (codes "stat", saying.Stated) ∷ (codes "exists", saying.Exists) ∷ (codes "nosuch", saying.NoSuch) ∷ (codes "notfile", saying.NotFile) ∷ (codes "notdir", saying.NotDir) ∷ (codes "notempty", saying.NotEmpty) ∷ (codes "toodeep", saying.TooDeep) ∷ (codes "intoitself", saying.IntoItself) ∷ (codes "toomany", saying.TooMany) ∷ []

every_saying : (s : Saying) → found_in sayings (saying_text s) ≡ Some s
every_saying saying.Made = refl
every_saying saying.Fine = refl
every_saying saying.Opened = refl
every_saying saying.Listed = refl
every_saying saying.Stated = refl
every_saying saying.Exists = refl
every_saying saying.NoSuch = refl
every_saying saying.NotFile = refl
every_saying saying.NotDir = refl
every_saying saying.NotEmpty = refl
every_saying saying.TooDeep = refl
every_saying saying.IntoItself = refl
every_saying saying.TooMany = refl

pub saying_found : (word : List ℕ) → IfSome (found_in sayings word) (λ s. word ≡ saying_text s)
saying_found = found_right saying_text sayings refl

pub saying_none : (word : List ℕ) → IfNone (found_in sayings word) ((s : Saying) → word ≢ saying_text s)
saying_none word = none_right saying_text sayings every_saying word (found_in sayings word) refl

pub same_saying : (s t : Saying) → saying_text s ≡ saying_text t → s ≡ t
same_saying = told_apart saying_text sayings every_saying
