-- Components of a path: what makes one, and that a path's spelling splits into them in one way.
use Rattle.std.proofs.Common.{◌≡◌, ◌≢◌, ℕ, ◌+◌, ◌≤◌, true, false, not, leb, List, [], ◌∷◌, ◌++◌, length, refl, sym, ap, subst, ◌∙◌, append_assoc, arith}
use Rattle.std.specs.List.{list_all, flat_map}
use Rattle.std.specs.Str.{bytes_eq}
use Rattle.std.proofs.lemmas.Bool.{and_parts, and_from, leb-true, le-leb, not-true, not_from_false, false≢true, false_from_ne_true}
use Rattle.std.proofs.lemmas.List.{append-nil, length-append, nil_from_length}
use Rattle.std.proofs.lemmas.Slice.Eq.{bytes_eq-Decides}
use Rattle.tl_types.specs.Path.{is_component_byte, is_component, slash_before, spelled, IsPath}
use Rattle.tl_text.specs.PathText.{EndsToken}

-- what a component is made of
pub record HasComponent (part : List ℕ) : Type 0 where
  pub some : 1 ≤ length part
  pub short : length part ≤ 255
  pub bytes : list_all is_component_byte part ≡ true
  pub no_dot : part ≢ 46 ∷ []
  pub no_dots : part ≢ 46 ∷ 46 ∷ []

pub component_has : (part : List ℕ) → is_component part ≡ true → HasComponent part
component_has part h =
    let a = and_parts _ (not (bytes_eq part (46 ∷ 46 ∷ []))) h in
    let b = and_parts _ (not (bytes_eq part (46 ∷ []))) a.0 in
    let c = and_parts _ (list_all is_component_byte part) b.0 in
    let d = and_parts (leb 1 (length part)) (leb (length part) 255) c.0 in
    record {
      some = leb-true 1 (length part) d.0;
      short = leb-true (length part) 255 d.1;
      bytes = c.1;
      no_dot = λ e. false≢true (sym (not-true (bytes_eq part (46 ∷ [])) b.1) ∙ (bytes_eq-Decides part (46 ∷ [])).1 e);
      no_dots = λ e. false≢true (sym (not-true (bytes_eq part (46 ∷ 46 ∷ [])) a.1) ∙ (bytes_eq-Decides part (46 ∷ 46 ∷ [])).1 e);
    }

pub component_from : (part : List ℕ) → HasComponent part → is_component part ≡ true
component_from part h =
    and_from _ (not (bytes_eq part (46 ∷ 46 ∷ [])))
    (and_from _ (not (bytes_eq part (46 ∷ [])))
    (and_from _ (list_all is_component_byte part) (and_from (leb 1 (length part)) (leb (length part) 255) (le-leb 1 (length part) h.some) (le-leb (length part) 255 h.short)) h.bytes)
    (not_from_false (bytes_eq part (46 ∷ [])) (false_from_ne_true (bytes_eq part (46 ∷ [])) (λ e. h.no_dot ((bytes_eq-Decides part (46 ∷ [])).0 e)))))
    (not_from_false (bytes_eq part (46 ∷ 46 ∷ [])) (false_from_ne_true (bytes_eq part (46 ∷ 46 ∷ [])) (λ e. h.no_dots ((bytes_eq-Decides part (46 ∷ 46 ∷ [])).0 e))))

-- ---- runs of component bytes

-- no component byte stands first
abbrev pub BeginsNoComponent : List ℕ → Type 0
BeginsNoComponent [] = Unit {0}
BeginsNoComponent (c ∷ cs) = is_component_byte c ≡ false

pub component_goes_on : (xs more ys rest : List ℕ) → list_all is_component_byte xs ≡ true → BeginsNoComponent rest → xs ++ more ≡ ys ++ rest → (zs : List ℕ) × (ys ≡ xs ++ zs) × (more ≡ zs ++ rest)
component_goes_on [] more ys rest d whole e = (ys, refl, e)
component_goes_on (x ∷ xs) more [] rest d whole e = absurd (false≢true (sym (subst BeginsNoComponent (sym e) whole) ∙ (and_parts (is_component_byte x) (list_all is_component_byte xs) d).0))
component_goes_on (x ∷ xs) more (y ∷ ys) rest d whole e =
    let heads : x ≡ y = cc in
    let tails : xs ++ more ≡ ys ++ rest = cc in
    let ih = component_goes_on xs more ys rest (and_parts (is_component_byte x) (list_all is_component_byte xs) d).1 whole tails in
    (ih.0, (cc (ih.1, heads)), ih.2)

pub one_component : (xs more ys rest : List ℕ) → list_all is_component_byte xs ≡ true → list_all is_component_byte ys ≡ true → BeginsNoComponent more → BeginsNoComponent rest → xs ++ more ≡ ys ++ rest → (xs ≡ ys) × (more ≡ rest)
one_component xs more ys rest d f m r e =
    let one = component_goes_on xs more ys rest d r e in
    let two = component_goes_on ys rest xs more f m (sym e) in
    let shorter : length ys ≡ length xs + length one.0 = ap length one.1 ∙ simp length-append in
    let longer : length xs ≡ length ys + length two.0 = ap length two.1 ∙ simp length-append in
    let nothing : one.0 ≡ [] = nil_from_length one.0 (omega arith) in
    (sym (one.1 ∙ ap (λ (z : List ℕ). xs ++ z) nothing ∙ append-nil xs), one.2 ∙ ap (λ (z : List ℕ). z ++ rest) nothing)

-- ---- the components of a path, each with its `/`

abbrev pub flat : List (List ℕ) → List ℕ
flat parts = flat_map slash_before parts

abbrev pub AreComponents : List (List ℕ) → Type 0
AreComponents parts = list_all is_component parts ≡ true

pub after_parts : (parts : List (List ℕ)) (rest : List ℕ) → EndsToken rest → BeginsNoComponent (flat parts ++ rest)
after_parts [] [] e = tt
after_parts [] (c ∷ rest) e = ap is_component_byte e
after_parts (x ∷ parts) rest e = refl

not_ended : (bytes : List ℕ) → EndsToken (47 ∷ bytes) → ⊥
not_ended bytes e = omega arith

-- the first components are those that the text has first
pub parts_go_on : (done parts : List (List ℕ)) (more rest : List ℕ) → AreComponents done → AreComponents parts → EndsToken rest → flat done ++ 47 ∷ more ≡ flat parts ++ rest
    → (left : List (List ℕ)) × (parts ≡ done ++ left) × (47 ∷ more ≡ flat left ++ rest) × AreComponents left
parts_go_on [] parts more rest d p r e = (parts, refl, e, p)
parts_go_on (x ∷ done) [] more rest d p r e = absurd (not_ended (x ++ flat done ++ 47 ∷ more) (subst EndsToken (sym e) r))
parts_go_on (x ∷ done) (y ∷ parts) more rest d p r e =
    let both : x ++ (flat done ++ 47 ∷ more) ≡ y ++ (flat parts ++ rest) = cc (append_assoc x (flat done) (47 ∷ more), append_assoc y (flat parts) rest) in
    let dx = and_parts (is_component x) (list_all is_component done) d in
    let py = and_parts (is_component y) (list_all is_component parts) p in
    let one = one_component x (flat done ++ 47 ∷ more) y (flat parts ++ rest) (component_has x dx.0).bytes (component_has y py.0).bytes (slash_next done more) (after_parts parts rest r) both in
    let ih = parts_go_on done parts more rest dx.1 py.1 r one.1 in
    (ih.0, (cc (ih.1, one.0)), ih.2, ih.3)
  where
    slash_next : (done : List (List ℕ)) (more : List ℕ) → BeginsNoComponent (flat done ++ 47 ∷ more)
    slash_next [] more = refl
    slash_next (x ∷ done) more = refl

-- ---- what a path's rules say

pub record HasPath (parts : List (List ℕ)) : Type 0 where
  pub few : length parts ≤ 16
  pub whole : AreComponents parts
  pub fits : length (spelled parts) ≤ 1024

pub path_has : (parts : List (List ℕ)) → IsPath parts → HasPath parts
path_has parts h =
    let a = and_parts _ (leb (length (spelled parts)) 1024) h in
    let b = and_parts (leb (length parts) 16) (list_all is_component parts) a.0 in
    record { few = leb-true (length parts) 16 b.0; whole = b.1; fits = leb-true (length (spelled parts)) 1024 a.1 }

pub path_from : (parts : List (List ℕ)) → HasPath parts → IsPath parts
path_from parts h = and_from _ (leb (length (spelled parts)) 1024) (and_from (leb (length parts) 16) (list_all is_component parts) (le-leb (length parts) 16 h.few) h.whole) (le-leb (length (spelled parts)) 1024 h.fits)

pub spelled-cons : (x : List ℕ) (parts : List (List ℕ)) → spelled (x ∷ parts) ≡ flat (x ∷ parts)
spelled-cons x parts = refl

pub spelled-append : (done : List (List ℕ)) (x : List ℕ) (left : List (List ℕ)) → spelled (done ++ x ∷ left) ≡ flat (done ++ x ∷ left)
spelled-append [] x left = refl
spelled-append (y ∷ done) x left = refl
