-- How far a text goes on as a path, and where it stops.
use Rattle.std.proofs.Common.{◌≡◌, ◌≢◌, ◌⊎◌, ℕ, zero, suc, ◌+◌, ◌-◌, ◌<◌, ◌≤◌, Bool, true, false, ◌&&◌, List, [], ◌∷◌, ◌++◌, length, take, drop, get_or, refl, sym, ap, subst, ◌∙◌, append_assoc, add-zero, arith, inl, inr}
use Rattle.std.specs.Bool.{MatchBool}
use Rattle.std.specs.List.{list_all}
use Rattle.std.proofs.Math.Seq.{take-add}
use Rattle.std.proofs.lemmas.Bool.{and_parts, and_from, cases_Bool, cases_lt, false≢true}
use Rattle.std.proofs.lemmas.List.{append-nil, length-append, length-take-le, length-drop, take-append-drop, take_more, take_all, drop_more, same_from_push, get_or-drop}
use Rattle.std.proofs.lemmas.List.Concat.{flat_map-append}
use Rattle.std.proofs.lemmas.List.Folds.{list_all-append}
use Rattle.tl_types.specs.Path.{is_component_byte, is_component, slash_before, spelled, IsPath}
use Rattle.tl_text.specs.PathText.{EndsToken, IsPathText, MayFollow, ByteMayFollow}
use Rattle.tl_text.specs.Place.{CanBegin, IsFirstBad}
use Rattle.tl_text.proofs.Components.{component_has, component_from, BeginsNoComponent, component_goes_on, one_component, flat, AreComponents, after_parts, parts_go_on, path_has, path_from, spelled-append}
use Rattle.tl_text.proofs.Places.{refused_by_byte, refused_at_end, refused_here}

-- ---- what may come after the components and bytes that a path begins with

pub data Next (done : List (List ℕ)) (current more : List ℕ) (parts : List (List ℕ)) (rest : List ℕ) : Type 0 where
  at_root : done ≡ [] → current ≡ [] → parts ≡ [] → more ≡ rest → Next done current more parts rest
  at_end : parts ≡ done ++ current ∷ [] → is_component current ≡ true → more ≡ rest → Next done current more parts rest
  at_slash : (z : List ℕ) (left : List (List ℕ)) → parts ≡ done ++ current ∷ z ∷ left → is_component current ≡ true → is_component z ≡ true → more ≡ 47 ∷ (z ++ (flat left ++ rest)) → Next done current more parts rest
  at_byte : (c : ℕ) (zs : List ℕ) (left : List (List ℕ)) → parts ≡ done ++ (current ++ c ∷ zs) ∷ left → is_component (current ++ c ∷ zs) ≡ true → more ≡ c ∷ (zs ++ (flat left ++ rest)) → Next done current more parts rest

ended_begins : (rest : List ℕ) → EndsToken rest → BeginsNoComponent rest
ended_begins [] e = tt
ended_begins (c ∷ rest) e = ap is_component_byte e

nil_front : (xs ys : List ℕ) → [] ≡ xs ++ ys → xs ≡ []
nil_front [] ys e = refl
nil_front (x ∷ xs) ys e = absurd cc

after_root : (done : List (List ℕ)) (current more rest : List ℕ) → EndsToken rest → AreComponents done → list_all is_component_byte current ≡ true → flat done ++ 47 ∷ (current ++ more) ≡ 47 ∷ rest → Next done current more [] rest
after_root [] current more rest r d b e =
    let inner : current ++ more ≡ [] ++ rest = cc in
    let run = component_goes_on current more [] rest b (ended_begins rest r) inner in
    let nothing : current ≡ [] = nil_front current run.0 run.1 in
    at_root refl nothing refl (ap (λ (t : List ℕ). t ++ more) (sym nothing) ∙ inner)
after_root (x ∷ done) current more rest r d b e =
    let inner : x ++ (flat done ++ 47 ∷ (current ++ more)) ≡ [] ++ rest = cc (append_assoc x (flat done) (47 ∷ (current ++ more))) in
    let has = component_has x (and_parts (is_component x) (list_all is_component done) d).0 in
    let run = component_goes_on x (flat done ++ 47 ∷ (current ++ more)) [] rest has.bytes (ended_begins rest r) inner in
    let nothing : length x ≡ 0 = ap length (nil_front x run.0 run.1) in
    absurd (omega (arith, has.some, nothing))

after_left : (done left : List (List ℕ)) (current more rest : List ℕ) (zs y : List ℕ) → EndsToken rest → AreComponents (y ∷ left) → y ≡ current ++ zs → more ≡ zs ++ (flat left ++ rest) → Next done current more (done ++ y ∷ left) rest
after_left done [] current more rest [] y r a e f =
    let same : y ≡ current = e ∙ append-nil current in
    at_end (ap (λ (p : List ℕ). done ++ p ∷ []) same) (ap is_component (sym same) ∙ (and_parts (is_component y) true a).0) f
after_left done (z ∷ left) current more rest [] y r a e f =
    let same : y ≡ current = e ∙ append-nil current in
    let yz = and_parts (is_component y) (list_all is_component (z ∷ left)) a in
    at_slash z left (ap (λ (p : List ℕ). done ++ p ∷ z ∷ left) same) (ap is_component (sym same) ∙ yz.0) (and_parts (is_component z) (list_all is_component left) yz.1).0 (f ∙ append_assoc (47 ∷ z) (flat left) rest)
after_left done left current more rest (c ∷ zs) y r a e f =
    at_byte c zs left (ap (λ (p : List ℕ). done ++ p ∷ left) e) (ap is_component (sym e) ∙ (and_parts (is_component y) (list_all is_component left) a).0) f

after_parts_left : (done left parts : List (List ℕ)) (current more rest : List ℕ) → EndsToken rest → AreComponents left → list_all is_component_byte current ≡ true → parts ≡ done ++ left → 47 ∷ (current ++ more) ≡ flat left ++ rest → Next done current more parts rest
after_parts_left done [] parts current more rest r a b p e = absurd (bad (subst EndsToken (sym e) r))
  where
    bad : ◌≡◌ {A = ℕ} 47 32 → ⊥
    bad h = omega arith
after_parts_left done (y ∷ left) parts current more rest r a b p e =
    let inner : current ++ more ≡ y ++ (flat left ++ rest) = cc (append_assoc y (flat left) rest) in
    let run = component_goes_on current more y (flat left ++ rest) b (after_parts left rest r) inner in
    subst (λ q. Next done current more q rest) (sym p) (after_left done left current more rest run.0 y r a run.1 run.2)

pub after : (parts done : List (List ℕ)) (current more rest : List ℕ) → IsPath parts → EndsToken rest → AreComponents done → list_all is_component_byte current ≡ true → flat done ++ 47 ∷ (current ++ more) ≡ spelled parts ++ rest → Next done current more parts rest
after [] done current more rest p r d b e = after_root done current more rest r d b e
after (x ∷ parts) done current more rest p r d b e =
    let run = parts_go_on done (x ∷ parts) (current ++ more) rest d (path_has (x ∷ parts) p).whole r e in
    after_parts_left done run.0 (x ∷ parts) current more rest r run.3 b run.1 run.2

-- ---- the bytes that were read so far

-- the bytes of the component that begins at start
abbrev pub current : ℕ → ℕ → List ℕ → List ℕ
current start place text = take (place - start) (drop start text)

-- the text goes on as a path up to the place: whole components, and the bytes of one that begins at start
pub record IsInPath (done : List (List ℕ)) (start place : ℕ) (text : List ℕ) : Type 0 where
  pub front : take start text ≡ flat done ++ 47 ∷ []
  pub order : start ≤ place
  pub within : place ≤ length text
  pub whole : AreComponents done
  pub few : length done < 16
  pub bytes : list_all is_component_byte (current start place text) ≡ true
  pub short : length (current start place text) ≤ 255
  pub fits : place ≤ 1024
  pub room : is_component (current start place text) ≡ false → ((done ≡ []) × (start ≡ place)) ⊎ (place < 1024)

current_length : (start place : ℕ) (text : List ℕ) → start ≤ place → place ≤ length text → length (current start place text) ≡ place - start
current_length start place text order within = let dropped : length (drop start text) ≡ length text - start = length-drop start text in length-take-le (place - start) (drop start text) (omega arith)

read_so_far : (done : List (List ℕ)) (start place : ℕ) (text : List ℕ) → IsInPath done start place text → take place text ≡ flat done ++ 47 ∷ current start place text
read_so_far done start place text i =
    let o : start ≤ place = i.order in
    let sum : place ≡ start + (place - start) = omega arith in
    ap (λ (k : ℕ). take k text) sum ∙ take-add start (place - start) text ∙ ap (λ (t : List ℕ). t ++ current start place text) i.front ∙ append_assoc (flat done) (47 ∷ []) (current start place text)

place_is : (done : List (List ℕ)) (start place : ℕ) (text : List ℕ) → IsInPath done start place text → place ≡ length (flat done) + suc (length (current start place text))
place_is done start place text i = sym (length-take-le place text i.within) ∙ ap length (read_so_far done start place text i) ∙ length-append (flat done) (47 ∷ current start place text)

-- ---- what the next byte may be

length_flat : (done left : List (List ℕ)) (x : List ℕ) → length (spelled (done ++ x ∷ left)) ≡ length (flat done) + suc (length x + length (flat left))
length_flat done left x =
    ap length (spelled-append done x left ∙ flat_map-append slash_before done (x ∷ left)) ∙ length-append (flat done) (47 ∷ (x ++ flat left)) ∙ ap (λ (k : ℕ). length (flat done) + suc k) (length-append x (flat left))

next_may : (done parts : List (List ℕ)) (now more rest : List ℕ) (place : ℕ) → Next done now more parts rest → IsPath parts → EndsToken rest → place ≡ length (flat done) + suc (length now) → 0 < length more → get_or more 0 0 ≢ 32 → MayFollow (length done) now place (get_or more 0 0)
next_may done parts now more rest place (at_root d c p e) path ended at some odd = absurd (odd (ended_first more (subst EndsToken (sym e) ended) some))
  where
    ended_first : (more : List ℕ) → EndsToken more → 0 < length more → get_or more 0 0 ≡ 32
    ended_first [] h lt = absurd (omega arith)
    ended_first (x ∷ more) h lt = h
next_may done parts now more rest place (at_end p c e) path ended at some odd = absurd (odd (ended_first more (subst EndsToken (sym e) ended) some))
  where
    ended_first : (more : List ℕ) → EndsToken more → 0 < length more → get_or more 0 0 ≡ 32
    ended_first [] h lt = absurd (omega arith)
    ended_first (x ∷ more) h lt = h
next_may done parts now more rest place (at_slash z left p c zc e) path ended at some odd =
    let has = path_has parts path in
    let count : length parts ≡ length done + suc (suc (length left)) = ap length p ∙ length-append done (now ∷ z ∷ left) in
    let size : length (spelled parts) ≡ length (flat done) + suc (length now + length (flat (z ∷ left))) = ap (λ q. length (spelled q)) p ∙ length_flat done (z ∷ left) now in
    let next : length (flat (z ∷ left)) ≡ suc (length z + length (flat left)) = ap suc (length-append z (flat left)) in
    let first : get_or more 0 0 ≡ 47 = ap (λ (t : List ℕ). get_or t 0 0) e in
    let zh = component_has z zc in
    inl (first, (c, omega (arith, count, has.few), omega (arith, size, next, has.fits, zh.some, at)))
next_may done parts now more rest place (at_byte b zs left p c e) path ended at some odd =
    let has = path_has parts path in
    let size : length (spelled parts) ≡ length (flat done) + suc (length (now ++ b ∷ zs) + length (flat left)) = ap (λ q. length (spelled q)) p ∙ length_flat done left (now ++ b ∷ zs) in
    let long : length (now ++ b ∷ zs) ≡ length now + suc (length zs) = length-append now (b ∷ zs) in
    let one : length (now ++ b ∷ []) ≡ length now + 1 = length-append now (b ∷ []) in
    let first : get_or more 0 0 ≡ b = ap (λ (t : List ℕ). get_or t 0 0) e in
    let ch = component_has (now ++ b ∷ zs) c in
    let parts_of = and_parts (list_all is_component_byte now) (list_all is_component_byte (b ∷ zs)) (sym (list_all-append is_component_byte now (b ∷ zs)) ∙ ch.bytes) in
    let byte = and_parts (is_component_byte b) (list_all is_component_byte zs) parts_of.1 in
    subst (λ x. MayFollow (length done) now place x) (sym first) (inr (byte.0, omega (arith, long, ch.short, one), omega (arith, size, long, has.fits, at), last zs c (omega (arith, size, long, has.fits, at))))
  where
    last : (zs : List ℕ) → is_component (now ++ b ∷ zs) ≡ true → place + length zs < 1024 → ((is_component (now ++ b ∷ []) ≡ true) ⊎ (place + 1 < 1024))
    last [] c le = inl c
    last (x ∷ zs) c le = inr (omega arith)

-- where a token ends the path is whole
next_ends : (done parts : List (List ℕ)) (now more rest : List ℕ) → Next done now more parts rest → EndsToken more → ((done ≡ []) × (now ≡ [])) ⊎ (is_component now ≡ true)
next_ends done parts now more rest (at_root d c p e) h = inl (d, c)
next_ends done parts now more rest (at_end p c e) h = inr c
next_ends done parts now more rest (at_slash z left p c zc e) h = inr c
next_ends done parts now more rest (at_byte b zs left p c e) h =
    let ch = component_has (now ++ b ∷ zs) c in
    let parts_of = and_parts (list_all is_component_byte now) (list_all is_component_byte (b ∷ zs)) (sym (list_all-append is_component_byte now (b ∷ zs)) ∙ ch.bytes) in
    let byte = and_parts (is_component_byte b) (list_all is_component_byte zs) parts_of.1 in
    let space : b ≡ 32 = subst EndsToken e h in
    absurd (false≢true (sym (ap is_component_byte space) ∙ byte.0))

-- ---- where a path stands

pub stands_at_root : (start : ℕ) (text : List ℕ) → IsInPath [] start start text → EndsToken (drop start text) → IsPathText text [] (drop start text) × (start ≡ length (spelled []))
stands_at_root start text i ended =
    (record { spelled_so = sym (take-append-drop start text) ∙ ap (λ (t : List ℕ). t ++ drop start text) i.front; path = refl; ended = ended }, sym (length-take-le start text i.within) ∙ ap length i.front)

whole_path : (done : List (List ℕ)) (now : List ℕ) → AreComponents done → length done < 16 → is_component now ≡ true → length (flat done) + suc (length now) ≤ 1024 → IsPath (done ++ now ∷ [])
whole_path done now whole few c fits =
    path_from (done ++ now ∷ []) (record {
      few = let sum : length (done ++ now ∷ []) ≡ length done + 1 = length-append done (now ∷ []) in omega (arith, sum, few);
      whole = list_all-append is_component done (now ∷ []) ∙ and_from (list_all is_component done) (is_component now && true) whole (and_from (is_component now) true c refl);
      fits = let size : length (spelled (done ++ now ∷ [])) ≡ length (flat done) + suc (length now + 0) = length_flat done [] now in omega (arith, size, fits);
    })

last_spelled : (done : List (List ℕ)) (now : List ℕ) → spelled (done ++ now ∷ []) ≡ flat done ++ 47 ∷ now
last_spelled done now = spelled-append done now [] ∙ flat_map-append slash_before done (now ∷ []) ∙ ap (λ (t : List ℕ). flat done ++ 47 ∷ t) (append-nil now)

pub stands_at_last : (done : List (List ℕ)) (start place : ℕ) (text : List ℕ) → IsInPath done start place text → is_component (current start place text) ≡ true → EndsToken (drop place text)
    → IsPathText text (done ++ current start place text ∷ []) (drop place text) × (place ≡ length (spelled (done ++ current start place text ∷ [])))
stands_at_last done start place text i c ended =
    let at : place ≡ length (flat done) + suc (length (current start place text)) = place_is done start place text i in
    let f : place ≤ 1024 = i.fits in
    let so_far : take place text ≡ spelled (done ++ current start place text ∷ []) = read_so_far done start place text i ∙ sym (last_spelled done (current start place text)) in (
      record {
        spelled_so = sym (take-append-drop place text) ∙ ap (λ (t : List ℕ). t ++ drop place text) so_far;
        path = whole_path done (current start place text) i.whole i.few c (omega (arith, at, f));
        ended = ended;
      },
      sym (length-take-le place text i.within) ∙ ap length so_far,
    )

-- ---- some path goes on

-- a component of bytes that is none yet is short
short_component : (now : List ℕ) → list_all is_component_byte now ≡ true → length now ≤ 255 → is_component now ≡ false → length now ≤ 2
short_component now b le c =
    elim (cases_lt 2 (length now)) [
      | inl more ↦ absurd (false≢true (sym c ∙ component_from now (record { some = omega arith; short = le; bytes = b; no_dot = λ e. one e more; no_dots = λ e. two e more })))
      | inr upto ↦ upto
    ]
  where
    one : now ≡ 46 ∷ [] → 2 < length now → ⊥
    one e more = let n : length now ≡ 1 = ap length e in omega arith

    two : now ≡ 46 ∷ 46 ∷ [] → 2 < length now → ⊥
    two e more = let n : length now ≡ 2 = ap length e in omega arith

-- and one more letter makes it one
one_more_letter : (now : List ℕ) → list_all is_component_byte now ≡ true → length now ≤ 2 → is_component (now ++ 97 ∷ []) ≡ true
one_more_letter now b le =
    let sum : length (now ++ 97 ∷ []) ≡ length now + 1 = length-append now (97 ∷ []) in
    component_from (now ++ 97 ∷ []) (record {
      some = omega (arith, sum);
      short = omega (arith, sum);
      bytes = list_all-append is_component_byte now (97 ∷ []) ∙ and_from (list_all is_component_byte now) true b refl;
      no_dot = λ e. differs (same_from_push now [] 97 46 e).1;
      no_dots = λ e. differs (same_from_push now (46 ∷ []) 97 46 e).1;
    })
  where
    differs : ◌≡◌ {A = ℕ} 97 46 → ⊥
    differs e = omega arith

path_begins : (done : List (List ℕ)) (start place : ℕ) (text : List ℕ) → IsInPath done start place text → CanBegin IsPathText (take place text)
path_begins done start place text i =
    let at : place ≡ length (flat done) + suc (length (current start place text)) = place_is done start place text i in
    let so_far : take place text ≡ flat done ++ 47 ∷ current start place text = read_so_far done start place text i in
    elim (cases_Bool (is_component (current start place text))) [
      | inl c ↦ let f : place ≤ 1024 = i.fits in
          ([], done ++ current start place text ∷ [], [], record { spelled_so = ap (λ (t : List ℕ). t ++ []) (so_far ∙ sym (last_spelled done (current start place text))); path = whole_path done (current start place text) i.whole i.few c (omega (arith, at, f)); ended = tt })
      | inr c ↦ goes_on (short_component (current start place text) i.bytes i.short c) (i.room c) at so_far
    ]
  where
    goes_on : length (current start place text) ≤ 2 → ((done ≡ []) × (start ≡ place)) ⊎ (place < 1024) → place ≡ length (flat done) + suc (length (current start place text)) → take place text ≡ flat done ++ 47 ∷ current start place text → CanBegin IsPathText (take place text)
    goes_on few (inl root) at so_far =
        let whole : take place text ≡ 47 ∷ [] = ap (λ (k : ℕ). take k text) (sym root.1) ∙ i.front ∙ ap (λ q. flat q ++ 47 ∷ []) root.0 in
        ([], [], [], record { spelled_so = ap (λ (t : List ℕ). t ++ []) whole; path = refl; ended = tt })
    goes_on few (inr some) at so_far =
        let now : List ℕ = current start place text in
        let sum : length (current start place text ++ 97 ∷ []) ≡ length (current start place text) + 1 = length-append (current start place text) (97 ∷ []) in (
          97 ∷ [],
          done ++ (current start place text ++ 97 ∷ []) ∷ [],
          [],
          record {
            spelled_so = ap (λ (t : List ℕ). t ++ 97 ∷ []) so_far ∙ append_assoc (flat done) (47 ∷ current start place text) (97 ∷ []) ∙ sym (append-nil (spelled (done ++ (current start place text ++ 97 ∷ []) ∷ [])) ∙ last_spelled done (current start place text ++ 97 ∷ []));
            path = whole_path done (current start place text ++ 97 ∷ []) i.whole i.few (one_more_letter (current start place text) i.bytes few) (omega (arith, sum, at, some));
            ended = tt;
          },
        )

-- ---- where none does

pub refused_unrooted : (text : List ℕ) → (0 < length text → get_or text 0 0 ≢ 47) → IsFirstBad IsPathText text 0
refused_unrooted text wrong =
    refused_by_byte IsPathText (λ c. c ≡ 47) text 0 (omega arith) (47 ∷ [], [], [], record { spelled_so = refl; path = refl; ended = tt })
    (λ t v rest h same. slash_first t v rest h.spelled_so) wrong
  where
    slash_first : (t : List ℕ) (v : List (List ℕ)) (rest : List ℕ) → t ≡ spelled v ++ rest → (0 < length t) × (get_or t 0 0 ≡ 47)
    slash_first t [] rest e = rw e (omega arith, refl)
    slash_first t (x ∷ v) rest e = rw e (omega arith, refl)

-- what a text that agrees so far has next
next_of : (done : List (List ℕ)) (start place : ℕ) (text t : List ℕ) (v : List (List ℕ)) (rest : List ℕ) → IsInPath done start place text → IsPathText t v rest → take place t ≡ take place text → Next done (current start place text) (drop place t) v rest
next_of done start place text t v rest i h same =
    let now : List ℕ = current start place text in
    let split : flat done ++ 47 ∷ (current start place text ++ drop place t) ≡ spelled v ++ rest =
    sym (append_assoc (flat done) (47 ∷ current start place text) (drop place t)) ∙ ap (λ (x : List ℕ). x ++ drop place t) (sym (same ∙ read_so_far done start place text i)) ∙ take-append-drop place t ∙ h.spelled_so in
    after v done (current start place text) (drop place t) rest h.path h.ended i.whole i.bytes split

pub refused_byte : (done : List (List ℕ)) (start place : ℕ) (text : List ℕ) → IsInPath done start place text → place < length text → get_or text place 0 ≢ 32 → ¬ MayFollow (length done) (current start place text) place (get_or text place 0) → IsFirstBad IsPathText text place
refused_byte done start place text i lt odd wrong =
    refused_here IsPathText text place lt (path_begins done start place text i)
    (λ t v rest h same long byte.
    let first : get_or (drop place t) 0 0 ≡ get_or text place 0 = get_or-drop place t 0 0 ∙ ap (λ (k : ℕ). get_or t k 0) (add-zero place) ∙ byte in
    let some : 0 < length (drop place t) = let dropped : length (drop place t) ≡ length t - place = length-drop place t in omega (arith, dropped) in
    wrong (subst (λ c. MayFollow (length done) (current start place text) place c) first
    (next_may done v (current start place text) (drop place t) rest place (next_of done start place text t v rest i h same) h.path h.ended (place_is done start place text i) some (λ e. odd (sym first ∙ e)))))

pub refused_end : (done : List (List ℕ)) (start place : ℕ) (text : List ℕ) → IsInPath done start place text → EndsToken (drop place text) → ¬ (((done ≡ []) × (current start place text ≡ [])) ⊎ (is_component (current start place text) ≡ true)) → IsFirstBad IsPathText text place
refused_end done start place text i ended wrong =
    elim (cases_lt place (length text)) [
      | inl lt ↦
          let space : get_or text place 0 ≡ 32 = subst EndsToken (drop_more text place 0 lt) ended in
          refused_here IsPathText text place lt (path_begins done start place text i)
          (λ t v rest h same long byte. wrong (next_ends done v (current start place text) (drop place t) rest (next_of done start place text t v rest i h same) (subst EndsToken (sym (drop_more t place 0 long)) (byte ∙ space))))
      | inr le ↦
          let w : place ≤ length text = i.within in
          let full : take place text ≡ text = take_all place text le in
          refused_at_end IsPathText text place (omega (arith, w, le)) (subst (λ t. CanBegin IsPathText t) full (path_begins done start place text i))
          (λ v rest h. wrong (next_ends done v (current start place text) (drop place text) rest (next_of done start place text text v rest i h refl) ended))
    ]

-- ---- one more byte

grown : (start place : ℕ) (text : List ℕ) → start ≤ place → place < length text → current start (place + 1) text ≡ current start place text ++ get_or text place 0 ∷ []
grown start place text order lt =
    let dropped : length (drop start text) ≡ length text - start = length-drop start text in
    let step : place + 1 - start ≡ (place - start) + 1 = omega arith in
    let back : start + (place - start) ≡ place = omega arith in
    ap (λ (k : ℕ). take k (drop start text)) step ∙ take_more (drop start text) (place - start) 0 (omega (arith, dropped))
    ∙ ap (λ (b : ℕ). current start place text ++ b ∷ []) (get_or-drop start text (place - start) 0 ∙ ap (λ (k : ℕ). get_or text k 0) back)

pub starts_path : (text : List ℕ) → 0 < length text → get_or text 0 0 ≡ 47 → IsInPath [] 1 1 text
starts_path [] lt e = absurd (omega arith)
starts_path (c ∷ text) lt e = record {
  front = ap (λ (b : ℕ). b ∷ []) e;
  order = omega arith;
  within = omega arith;
  whole = refl;
  few = omega arith;
  bytes = refl;
  short = omega arith;
  fits = omega arith;
  room = λ _. inl (refl, refl);
}

pub goes_on_by_byte : (done : List (List ℕ)) (start place : ℕ) (text : List ℕ) → IsInPath done start place text → place < length text → get_or text place 0 ≢ 47 → MayFollow (length done) (current start place text) place (get_or text place 0) → IsInPath done start (place + 1) text
goes_on_by_byte done start place text i lt odd (inl slash) = absurd (odd slash.0)
goes_on_by_byte done start place text i lt odd (inr byte) =
    let o : start ≤ place = i.order in
    let g : current start (place + 1) text ≡ current start place text ++ get_or text place 0 ∷ [] = grown start place text o lt in
    let sum : length (current start place text ++ get_or text place 0 ∷ []) ≡ length (current start place text) + 1 = length-append (current start place text) (get_or text place 0 ∷ []) in
    record {
      front = i.front;
      order = omega arith;
      within = omega arith;
      whole = i.whole;
      few = i.few;
      bytes = ap (list_all is_component_byte) g ∙ list_all-append is_component_byte (current start place text) (get_or text place 0 ∷ []) ∙ and_from (list_all is_component_byte (current start place text)) (is_component_byte (get_or text place 0) && true) i.bytes (and_from (is_component_byte (get_or text place 0)) true byte.0 refl);
      short = rw g (omega (arith, sum, byte.1));
      fits = omega (arith, byte.2);
      room = λ c. elim byte.3 [ inl whole ↦ absurd (false≢true (sym c ∙ ap is_component g ∙ whole)) | inr some ↦ inr some ];
    }

pub goes_on_by_slash : (done : List (List ℕ)) (start place : ℕ) (text : List ℕ) → IsInPath done start place text → place < length text → get_or text place 0 ≡ 47 → MayFollow (length done) (current start place text) place (get_or text place 0) → IsInPath (done ++ current start place text ∷ []) (place + 1) (place + 1) text
goes_on_by_slash done start place text i lt e (inr byte) = absurd (false≢true (sym (ap is_component_byte e) ∙ byte.0))
goes_on_by_slash done start place text i lt e (inl both) =
    let slash = both.1 in
    let none : place + 1 - (place + 1) ≡ 0 = omega arith in
    let empty : current (place + 1) (place + 1) text ≡ [] = ap (λ (k : ℕ). take k (drop (place + 1) text)) none in
    let sum : length (done ++ current start place text ∷ []) ≡ length done + 1 = length-append done (current start place text ∷ []) in
    record {
      front = take_more text place 0 lt ∙ ap (λ (b : ℕ). take place text ++ b ∷ []) e ∙ ap (λ (t : List ℕ). t ++ 47 ∷ []) (read_so_far done start place text i ∙ sym (flat_map-append slash_before done (current start place text ∷ []) ∙ ap (λ (t : List ℕ). flat done ++ 47 ∷ t) (append-nil (current start place text))));
      order = omega arith;
      within = omega arith;
      whole = list_all-append is_component done (current start place text ∷ []) ∙ and_from (list_all is_component done) (is_component (current start place text) && true) i.whole (and_from (is_component (current start place text)) true slash.0 refl);
      few = omega (arith, sum, slash.1);
      bytes = ap (list_all is_component_byte) empty;
      short = rw empty (omega arith);
      fits = omega (arith, slash.2);
      room = λ _. inr slash.2;
    }

-- ---- one reading

same_parts : (p q : List (List ℕ)) (r s : List ℕ) → AreComponents p → AreComponents q → EndsToken r → EndsToken s → flat p ++ r ≡ flat q ++ s → (p ≡ q) × (r ≡ s)
same_parts [] [] r s a b f g e = (refl, e)
same_parts [] (y ∷ q) r s a b f g e = absurd (bad (subst EndsToken e f))
  where
    bad : ◌≡◌ {A = ℕ} 47 32 → ⊥
    bad h = omega arith
same_parts (x ∷ p) [] r s a b f g e = absurd (bad (subst EndsToken (sym e) g))
  where
    bad : ◌≡◌ {A = ℕ} 47 32 → ⊥
    bad h = omega arith
same_parts (x ∷ p) (y ∷ q) r s a b f g e =
    let both : x ++ (flat p ++ r) ≡ y ++ (flat q ++ s) = cc (append_assoc x (flat p) r, append_assoc y (flat q) s) in
    let ax = and_parts (is_component x) (list_all is_component p) a in
    let by = and_parts (is_component y) (list_all is_component q) b in
    let one = one_component x (flat p ++ r) y (flat q ++ s) (component_has x ax.0).bytes (component_has y by.0).bytes (after_parts p r f) (after_parts q s g) both in
    let ih = same_parts p q r s ax.1 by.1 f g one.1 in
    ((cc (one.0, ih.0)), ih.1)

not_root : (y r s : List ℕ) (q : List (List ℕ)) → is_component y ≡ true → EndsToken r → 47 ∷ r ≡ (47 ∷ (y ++ flat q)) ++ s → ⊥
not_root y r s q c f e =
    let inner : y ++ (flat q ++ s) ≡ [] ++ r = cc (append_assoc y (flat q) s) in
    let has = component_has y c in
    let run = component_goes_on y (flat q ++ s) [] r has.bytes (ended_begins r f) inner in
    let nothing : length y ≡ 0 = ap length (nil_front y run.0 run.1) in
    omega (arith, has.some, nothing)

same_spelled : (p q : List (List ℕ)) (r s : List ℕ) → IsPath p → IsPath q → EndsToken r → EndsToken s → spelled p ++ r ≡ spelled q ++ s → (p ≡ q) × (r ≡ s)
same_spelled [] [] r s a b f g e = (refl, cc)
same_spelled [] (y ∷ q) r s a b f g e = absurd (not_root y r s q (and_parts (is_component y) (list_all is_component q) (path_has (y ∷ q) b).whole).0 f e)
same_spelled (x ∷ p) [] r s a b f g e = absurd (not_root x s r p (and_parts (is_component x) (list_all is_component p) (path_has (x ∷ p) a).whole).0 g (sym e))
same_spelled (x ∷ p) (y ∷ q) r s a b f g e = same_parts (x ∷ p) (y ∷ q) r s (path_has (x ∷ p) a).whole (path_has (y ∷ q) b).whole f g e

pub one_path_stands : (text : List ℕ) (v w : List (List ℕ)) (r s : List ℕ) → IsPathText text v r → IsPathText text w s → (v ≡ w) × (r ≡ s)
one_path_stands text v w r s g h = same_spelled v w r s g.path h.path g.ended h.ended (sym g.spelled_so ∙ h.spelled_so)

-- the answer for a byte other than `/`
pub byte_answer : (r : Bool) (count start place : ℕ) (text : List ℕ) → start ≤ place → place < length text → get_or text place 0 ≢ 47
    → MatchBool r (ByteMayFollow (current start (place + 1) text) place (get_or text place 0)) (¬ ByteMayFollow (current start (place + 1) text) place (get_or text place 0))
    → MatchBool r (MayFollow count (current start place text) place (get_or text place 0)) (¬ MayFollow count (current start place text) place (get_or text place 0))
byte_answer true count start place text order lt odd h = inr (subst (λ bytes. ByteMayFollow bytes place (get_or text place 0)) (grown start place text order lt) h)
byte_answer false count start place text order lt odd h = λ may. elim may [
  | inl slash ↦ odd slash.0
  | inr byte ↦ h (subst (λ bytes. ByteMayFollow bytes place (get_or text place 0)) (sym (grown start place text order lt)) byte)
]

-- the root alone has one byte
pub not_at_root : (done : List (List ℕ)) (start place : ℕ) (text : List ℕ) → IsInPath done start place text → place ≢ 1 → (done ≡ []) × (current start place text ≡ []) → ⊥
not_at_root done start place text i far root =
    let one : take start text ≡ 47 ∷ [] = i.front ∙ ap (λ q. flat q ++ 47 ∷ []) root.0 in
    let w : place ≤ length text = i.within in
    let o : start ≤ place = i.order in
    let size : length (take start text) ≡ start = length-take-le start text (omega arith) in
    let single : length (take start text) ≡ 1 = ap length one in
    let size_now : length (current start place text) ≡ place - start = current_length start place text o w in
    let nothing : length (current start place text) ≡ 0 = ap length root.1 in
    far (omega arith)

-- a token that begins with `/` has a byte
pub token_has_slash : (text : List ℕ) (end : ℕ) → get_or text 0 0 ≡ 47 → EndsToken (drop end text) → 0 < length text → 0 < end
token_has_slash [] end e ended lt = absurd (omega arith)
token_has_slash (c ∷ text) zero e ended lt = let space : c ≡ 32 = ended in absurd (omega arith)
token_has_slash (c ∷ text) (suc end) e ended lt = omega arith
