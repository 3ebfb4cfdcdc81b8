-- A record tells its priority to those that make its missing inputs.
use Rattle.std.proofs.Common.{◌≡◌, ◌∙◌, arith, ℕ, zero, suc, ◌+◌, ◌<◌, ◌≤◌, max, Bool, true, false, ◌&&◌, ◌||◌, not, if◌then◌else◌, List, [], ◌∷◌, map, slice_get, refl, sym, ap}
use Rattle.std.specs.List.{list_any}
use Rattle.tl_types.specs.Same.{file_same, file_same-Decides}
use Rattle.tl_types.specs.declared.file_id.FileId.{FileId}
use Rattle.tl_types.specs.declared.record_id.RecordId.{RecordId}
use Rattle.tl_model.specs.declared.record.Record.{Record}
use Rattle.tl_model.specs.Past.{Past}
use Rattle.tl_model.specs.History.{files_from, id_of, inputs_of, output_count, outputs_of}
use Rattle.tl_model.specs.Residency.{is_available}
use Rattle.tl_model.specs.Plan.{is_missing_input}
use Rattle.tl_steps.proofs.Files.{not-true}
use Rattle.tl_steps.specs.Steps.{changed_at}
use Rattle.tl_prio.specs.Data.{all_raised, files_of, is_lacking}
use Rattle.tl_prio.specs.Standing.{kept_in, output_in}
use Rattle.tl_prio.proofs.Places.{StartsAt}

-- ---- a file that a record makes, and that isn't available

abbrev lacked : Past → FileId → FileId → Bool
lacked past f o = file_same o f && not (is_available past o)

abbrev pub hits : Past → Record → FileId → Bool
hits past x f = list_any (lacked past f) (outputs_of x)

other-out : (id : RecordId) (j : ℕ) (f : FileId) → (j ≡ f.out → ⊥) → file_same (record { rec = id; out = j }) f ≡ false
other-out id j f differs = not-true (file_same (record { rec = id; out = j }) f) (λ t. differs (ap (λ (g : FileId). g.out) ((file_same-Decides (record { rec = id; out = j }) f).0 t)))

other-record : (id : RecordId) (j : ℕ) (f : FileId) → (id.0 ≡ f.rec.0 → ⊥) → file_same (record { rec = id; out = j }) f ≡ false
other-record id j f differs = not-true (file_same (record { rec = id; out = j }) f) (λ t. differs (ap (λ (g : FileId). g.rec.0) ((file_same-Decides (record { rec = id; out = j }) f).0 t)))

none-out : (past : Past) (f : FileId) (id : RecordId) (k n : ℕ) → ((j : ℕ) → k ≤ j → file_same (record { rec = id; out = j }) f ≡ false) →
    list_any (lacked past f) (files_from id k n) ≡ false
none-out past f id k zero h = refl
none-out past f id k (suc n) h =
    ap (λ b. (b && not (is_available past (record { rec = id; out = k }))) || list_any (lacked past f) (files_from id (k + 1) n)) (h k (omega arith))
    ∙ none-out past f id (k + 1) n (λ j l. h j (omega arith))

or-nothing : (a b : Bool) → b ≡ false → a ≡ (a || b)
or-nothing true b h = refl
or-nothing false b h = sym h

any-out : (past : Past) (f : FileId) (id : RecordId) (k n m : ℕ) → id ≡ f.rec → f.out ≡ k + m →
    is_lacking (slice_get (map (output_in past) (files_from id k n)) m) ≡ list_any (lacked past f) (files_from id k n)
any-out past f id k zero m maker place = refl
any-out past f id k (suc n) zero maker place =
    let out : k ≡ f.out = omega arith in
    let it : file_same (record { rec = id; out = k }) f ≡ true = (file_same-Decides (record { rec = id; out = k }) f).1 (λ i. record { rec = maker i; out = out i }) in
    let rest = list_any (lacked past f) (files_from id (k + 1) n) in
    let none : rest ≡ false = none-out past f id (k + 1) n (λ j l. other-out id j f (λ e. omega arith)) in
    or-nothing (not (is_available past (record { rec = id; out = k }))) rest none
    ∙ ap (λ b. (b && not (is_available past (record { rec = id; out = k }))) || rest) (sym it)
any-out past f id k (suc n) (suc m) maker place =
    any-out past f id (k + 1) n m maker (omega arith)
    ∙ ap (λ b. (b && not (is_available past (record { rec = id; out = k }))) || list_any (lacked past f) (files_from id (k + 1) n))
    (sym (other-out id k f (λ e. omega arith)))

unhit : (past : Past) (x : Record) (f : FileId) → ((id_of x).0 ≡ f.rec.0 → ⊥) → hits past x f ≡ false
unhit past x f differs = none-out past f (id_of x) 0 (output_count x) (λ j l. other-record (id_of x) j f differs)

-- ---- one file

abbrev raised_by : Past → ℕ → FileId → (Record → ℕ) → Record → ℕ
raised_by past p f g x = max (if hits past x f then p else 0) (g x)

spared : (past : Past) (p : ℕ) (f : FileId) (g : Record → ℕ) (x : Record) → ((id_of x).0 ≡ f.rec.0 → ⊥) → g x ≡ raised_by past p f g x
spared past p f g x differs =
    let same : g x ≡ max 0 (g x) = omega arith in
    same ∙ ap (λ b. max (if b then p else 0) (g x)) (sym (unhit past x f differs))

all-spared : (past : Past) (p : ℕ) (f : FileId) (g : Record → ℕ) (n : ℕ) (rs : List Record) → StartsAt n rs → f.rec.0 < n → map g rs ≡ map (raised_by past p f g) rs
all-spared past p f g n [] from less = refl
all-spared past p f g n (r ∷ rs) from less =
    let id : (id_of r).0 ≡ n = from.0 in
    λ i. spared past p f g r (λ e. omega arith) i ∷ all-spared past p f g (suc n) rs from.1 (omega arith) i

raise-head : (p n : ℕ) (ns : List ℕ) (b : Bool) → (if b then max p n ∷ ns else n ∷ ns) ≡ max (if b then p else 0) n ∷ ns
raise-head p n ns true = refl
raise-head p n ns false = let same : n ≡ max 0 n = omega arith in ap (λ m. m ∷ ns) same

past-head : (x : ℕ) (ys zs : List ℕ) (b : Bool) → (if b then x ∷ ys else x ∷ zs) ≡ x ∷ (if b then ys else zs)
past-head x ys zs true = refl
past-head x ys zs false = refl

raised : (past : Past) (p : ℕ) (f : FileId) (g : Record → ℕ) (n : ℕ) (rs : List Record) (k : ℕ) → StartsAt n rs → f.rec.0 ≡ n + k →
    (if is_lacking (slice_get (files_of (slice_get (map (kept_in past) rs) k)) f.out) then changed_at k (max p) (map g rs) else map g rs) ≡ map (raised_by past p f g) rs
raised past p f g n [] k from place = refl
raised past p f g n (r ∷ rs) zero from place =
    let id : (id_of r).0 ≡ n = from.0 in
    let same : (id_of r).0 ≡ f.rec.0 = omega arith in
    let maker : id_of r ≡ f.rec = λ i. record { 0 = same i } in
    ap (λ b. if b then max p (g r) ∷ map g rs else g r ∷ map g rs) (any-out past f (id_of r) 0 (output_count r) f.out maker (omega arith))
    ∙ raise-head p (g r) (map g rs) (hits past r f)
    ∙ ap (λ ns. raised_by past p f g r ∷ ns) (all-spared past p f g (suc n) rs from.1 (omega arith))
raised past p f g n (r ∷ rs) (suc k) from place =
    let id : (id_of r).0 ≡ n = from.0 in
    past-head (g r) (changed_at k (max p) (map g rs)) (map g rs) (is_lacking (slice_get (files_of (slice_get (map (kept_in past) rs) k)) f.out))
    ∙ (λ i. spared past p f g r (λ e. omega arith) i ∷ raised past p f g (suc n) rs k from.1 (omega arith) i)

-- ---- one file after another

twice : (a b : Bool) (p n : ℕ) → max (if b then p else 0) (max (if a then p else 0) n) ≡ max (if a || b then p else 0) n
twice true true p n = omega arith
twice true false p n = omega arith
twice false true p n = omega arith
twice false false p n = omega arith

pub none-raised : (g : Record → ℕ) (all : List Record) → map g all ≡ map (λ x. max 0 (g x)) all
none-raised g all = ap (λ (h : Record → ℕ). map h all) (λ i x. (let same : g x ≡ max 0 (g x) = omega arith in same) i)

pub all-raised : (past : Past) (p : ℕ) (fs : List FileId) (g : Record → ℕ) (all : List Record) → StartsAt 0 all →
    all_raised p (map (kept_in past) all) fs (map g all) ≡ map (λ x. max (if list_any (hits past x) fs then p else 0) (g x)) all
all-raised past p [] g all from = none-raised g all
all-raised past p (f ∷ fs) g all from =
    ap (all_raised p (map (kept_in past) all) fs) (raised past p f g 0 all f.rec.0 from (omega arith))
    ∙ all-raised past p fs (raised_by past p f g) all from
    ∙ ap (λ (h : Record → ℕ). map h all) (λ i x. twice (hits past x f) (list_any (hits past x) fs) p (g x) i)

-- ---- by its files, and by the outputs of the other

any-none : {A : Type 0} (xs : List A) → false ≡ list_any (λ x. false) xs
any-none [] = refl
any-none (x ∷ xs) = any-none xs

mix : (u v t x y : Bool) → (((u && t) || x) || ((v && t) || y)) ≡ (((u || v) && t) || (x || y))
mix true v true x y = refl
mix true true false x y = refl
mix true false false x y = refl
mix false true true true y = refl
mix false true true false y = refl
mix false true false x y = refl
mix false false t x y = refl

any-or : {A : Type 0} (u v t : A → Bool) (xs : List A) →
    (list_any (λ x. u x && t x) xs || list_any (λ x. v x && t x) xs) ≡ list_any (λ x. (u x || v x) && t x) xs
any-or u v t [] = refl
any-or u v t (x ∷ xs) =
    mix (u x) (v x) (t x) (list_any (λ x. u x && t x) xs) (list_any (λ x. v x && t x) xs)
    ∙ ap (λ b. ((u x || v x) && t x) || b) (any-or u v t xs)

any-swap : {A B : Type 0} (s : A → B → Bool) (t : A → Bool) (xs : List A) (ys : List B) →
    list_any (λ y. list_any (λ x. s x y && t x) xs) ys ≡ list_any (λ x. list_any (s x) ys && t x) xs
any-swap s t xs [] = any-none xs
any-swap s t xs (y ∷ ys) =
    ap (λ b. list_any (λ x. s x y && t x) xs || b) (any-swap s t xs ys)
    ∙ any-or (λ x. s x y) (λ x. list_any (s x) ys) t xs

pub missing-same : (past : Past) (r x : Record) → list_any (hits past x) (inputs_of r) ≡ list_any (is_missing_input past r) (outputs_of x)
missing-same past r x = any-swap (λ o f. file_same o f) (λ o. not (is_available past o)) (outputs_of x) (inputs_of r)
