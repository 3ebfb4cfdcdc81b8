-- What a table by files finds once an entry is put in.
use Rattle.std.proofs.Common.{◌≡◌, ◌∙◌, refl, sym, ap, Bool, true, false, if◌then◌else◌, [], ◌∷◌, Option, Some, None, is_some, Result, Ok, Err, OnOk, OnErr, IsOk}
use Rattle.std.proofs.Math.Bool.{cond}
use Rattle.std.specs.Map.{lookup}
use Rattle.indexmap.specs.IndexMap.{insert_entry}
use Rattle.tl_types.specs.Same.{file_same, file_same-Decides}
use Rattle.tl_types.specs.declared.file_id.FileId.{FileId}
use Rattle.tl_model.specs.declared.saved.Saved.{Saved}
use Rattle.tl_vault.specs.Vault.{Places, place_of, has_place, kept_at, saved_of}

-- one that is the same as one file is the same as another just where the other is the same as it
same-through : (f g h : FileId) → file_same f h ≡ true → file_same g h ≡ file_same g f
same-through f g h e = ap (file_same g) (sym ((file_same-Decides f h).0 e))

found-here : {T : Type 0} (f g : FileId) (v : Option (Saved T)) (e : FileId × Option (Saved T)) (es : Places T) (b : Bool) → file_same f e.0 ≡ b →
    lookup (file_same g) (insert_entry file_same es f v) ≡ cond (file_same g f) (Some v) (lookup (file_same g) es) →
    lookup (file_same g) (if b then (e.0, v) ∷ es else e ∷ insert_entry file_same es f v) ≡ cond (file_same g f) (Some v) (lookup (file_same g) (e ∷ es))
found-here f g v e es true same more =
    ap (λ b. cond b (Some v) (lookup (file_same g) es)) (same-through f g e.0 same)
    ∙ either (file_same g f) (file_same g e.0) (Some v) (Some e.1) (lookup (file_same g) es) (same-through f g e.0 same)
  where
    either : {A : Type 0} (a b : Bool) (x y z : A) → b ≡ a → cond a x z ≡ cond a x (cond b y z)
    either true b x y z h = refl
    either false true x y z h = absurd (cc)
    either false false x y z h = refl
found-here f g v e es false apart more =
    ap (λ o. cond (file_same g e.0) (Some e.1) o) more
    ∙ swapped (file_same g e.0) (file_same g f) (Some e.1) (Some v) (lookup (file_same g) es)
    (λ here there. let same : file_same f e.0 ≡ true = ap (λ x. file_same x e.0) (sym ((file_same-Decides g f).0 there)) ∙ here in
    absurd (let no : true ≡ false = sym same ∙ apart in cc))
  where
    swapped : {A : Type 0} (a b : Bool) (x y z : A) → (a ≡ true → b ≡ true → ⊥) → cond a x (cond b y z) ≡ cond b y (cond a x z)
    swapped true true x y z h = absurd (h refl refl)
    swapped true false x y z h = refl
    swapped false b x y z h = refl

-- a file's place after an entry is put in
pub place-inserted : {T : Type 0} (f g : FileId) (v : Option (Saved T)) (es : Places T) →
    place_of g (insert_entry file_same es f v) ≡ cond (file_same g f) (Some v) (place_of g es)
place-inserted f g v [] = refl
place-inserted f g v (e ∷ es) = found-here f g v e es (file_same f e.0) refl (place-inserted f g v es)

kept-still : {T : Type 0} (b : Bool) (o : Option (Option (Saved T))) → (b ≡ true → o ≡ None) → kept_at (cond b (Some None) o) ≡ kept_at o
kept-still true o h = sym (ap kept_at (h refl))
kept-still false o h = refl

-- a new place changes nothing that is kept
pub kept-beside : {T : Type 0} (f g : FileId) (es : Places T) → place_of f es ≡ None → saved_of g (insert_entry file_same es f None) ≡ saved_of g es
kept-beside f g es none =
    ap kept_at (place-inserted f g None es)
    ∙ kept-still (file_same g f) (place_of g es) (λ same. ap (λ h. place_of h es) ((file_same-Decides g f).0 same) ∙ none)

kept-now : {T : Type 0} (b : Bool) (saved : Saved T) (o : Option (Option (Saved T))) → kept_at (cond b (Some (Some saved)) o) ≡ (if b then Some saved else kept_at o)
kept-now true saved o = refl
kept-now false saved o = refl

-- what is kept at a place
pub kept-inserted : {T : Type 0} (f g : FileId) (saved : Saved T) (es : Places T) →
    saved_of g (insert_entry file_same es f (Some saved)) ≡ (if file_same g f then Some saved else saved_of g es)
kept-inserted f g saved es = ap kept_at (place-inserted f g (Some saved) es) ∙ kept-now (file_same g f) saved (place_of g es)

place-still : {T : Type 0} (b : Bool) (v : Option (Saved T)) (o : Option (Option (Saved T))) → (b ≡ true → is_some o ≡ true) → is_some (cond b (Some v) o) ≡ is_some o
place-still true v o h = sym (h refl)
place-still false v o h = refl

-- where a file has a place, each file has one after it as before
pub places-same : {T : Type 0} (f g : FileId) (v : Option (Saved T)) (es : Places T) → has_place f es ≡ true →
    has_place g (insert_entry file_same es f v) ≡ has_place g es
places-same f g v es has =
    ap is_some (place-inserted f g v es)
    ∙ place-still (file_same g f) v (place_of g es) (λ same. ap (λ h. has_place h es) ((file_same-Decides g f).0 same) ∙ has)

-- another file has a place as before
pub place-beside : {T : Type 0} (f g : FileId) (v : Option (Saved T)) (es : Places T) → file_same f g ≡ false →
    has_place g (insert_entry file_same es f v) ≡ has_place g es
place-beside f g v es apart =
    ap is_some (place-inserted f g v es) ∙ ap (λ b. is_some (cond b (Some v) (place_of g es))) (turned f g apart)
  where
    turned-by : (f g : FileId) (b : Bool) → file_same g f ≡ b → file_same f g ≡ false → b ≡ false
    turned-by f g true e h = absurd (let same : file_same f g ≡ true = ap (λ x. file_same x g) (sym ((file_same-Decides g f).0 e)) ∙ (file_same-Decides g g).1 refl in
        let no : true ≡ false = sym same ∙ h in cc)
    turned-by f g false e h = refl

    turned : (f g : FileId) → file_same f g ≡ false → file_same g f ≡ false
    turned f g h = turned-by f g (file_same g f) refl h

-- the file itself has one
pub place-made : {T : Type 0} (f : FileId) (v : Option (Saved T)) (es : Places T) → has_place f (insert_entry file_same es f v) ≡ true
place-made f v es =
    ap is_some (place-inserted f f v es) ∙ ap (λ b. is_some (cond b (Some v) (place_of f es))) ((file_same-Decides f f).1 refl)

absent-not : {T : Type 0} (o : Option (Option (Saved T))) → is_some o ≡ true → o ≡ None → ⊥
absent-not None h e = absurd (cc)
absent-not (Some kept) h e = absurd (cc)

-- what fails only where a file has no place succeeds where it has one
pub ok-where-placed : {T A E : Type 0} (f : FileId) (es : Places T) (result : Result A E) → OnErr result (place_of f es ≡ None) → has_place f es ≡ true → IsOk result
ok-where-placed f es (Ok value) h has = refl
ok-where-placed f es (Err error) h has = absurd (absent-not (place_of f es) has h)

none-there : {A : Type 0} (o : Option A) → is_some o ≡ false → o ≡ None
none-there None h = refl
none-there (Some a) h = absurd (cc)

-- ---- an entry was put in, or nothing changed

-- nothing that is kept did
pub kept-either : {T A E : Type 0} (f g : FileId) (es new : Places T) (result : Result A E) → OnOk result (new ≡ insert_entry file_same es f None) → OnErr result (new ≡ es) →
    has_place f es ≡ false → saved_of g new ≡ saved_of g es
kept-either f g es new (Ok value) put same none = ap (saved_of g) put ∙ kept-beside f g es (none-there (place_of f es) none)
kept-either f g es new (Err error) put same none = ap (saved_of g) same

-- another file has a place as before
pub beside-either : {T A E : Type 0} (f g : FileId) (es new : Places T) (result : Result A E) → OnOk result (new ≡ insert_entry file_same es f None) → OnErr result (new ≡ es) →
    file_same f g ≡ false → has_place g new ≡ has_place g es
beside-either f g es new (Ok value) put same apart = ap (has_place g) put ∙ place-beside f g None es apart
beside-either f g es new (Err error) put same apart = ap (has_place g) same

pub made-either : {T A E : Type 0} (f : FileId) (es new : Places T) (result : Result A E) → OnOk result (new ≡ insert_entry file_same es f None) →
    OnOk result (has_place f new ≡ true)
made-either f es new (Ok value) put = ap (has_place f) put ∙ place-made f None es
made-either f es new (Err error) put = tt

-- what holds on a success that comes
pub on-ok : {A E : Type 0} (result : Result A E) (P : Type 0) → IsOk result → OnOk result P → P
on-ok (Ok value) P ok holds = holds
on-ok (Err error) P ok holds = absurd (cc)
