-- Which request the words can spell, by their first word.
use Rattle.std.proofs.Common.{◌≡◌, ◌≢◌, ◌∙◌, ◌⊎◌, ◌<◌, ◌≤◌, ◌^◌, ℕ, zero, suc, Bool, true, false, inl, inr, refl, sym, ap, subst, arith, codes, length, get_or, map, List, [], ◌∷◌, Option, Some, None, IfSome}
use Rattle.std.specs.Prelude.{slice_get, option_map}
use Rattle.std.specs.Option.{IsSomeAnd, is_some}
use Rattle.std.specs.Borrow.{Bor}
use Rattle.std.specs.Str.{bytes_eq}
use Rattle.std.specs.List.{list_any}
use Rattle.clap.proofs.WalkLemmas.{list_any-map}
use Rattle.std.specs.Fmt.{decimal}
use Rattle.std.proofs.lemmas.Option.{same_Some}
use Rattle.std.proofs.lemmas.Fmt.{decimal_injective}
use Rattle.tl_words.specs.Spells.{AreFlags, AreNumbers, IsExact, Spells, Word, has_dashes}
use Rattle.tl_words.specs.Parts.{AsksFor, ReadsFlags, ReadsNumbers, TakesFlags, TakesNumbers, text_of}
use Rattle.tl_words.specs.declared.flags.Flags.{Flags}
use Rattle.tl_words.specs.declared.generator.Numbers.{Numbers}
use Rattle.tl_words.specs.declared.request.Request.{Request}
use Rattle.tl_words.specs.declared.request.Request.TheVariants.{Alone, Run, Generate, Check, Upgrade}
use Rattle.tl_words.proofs.Digits.{number_is_plain}
use Rattle.tl_words.proofs.Walking.{dashes}

-- ---- the first letter tells the command

abbrev letter : Option Word → ℕ
letter None = 0
letter (Some word) = get_or word 0 0

abbrev letter_of : Request → ℕ
letter_of (Alone journal) = 97
letter_of (Run crew journal) = 114
letter_of (Generate count seed run) = 103
letter_of Check = 99
letter_of Upgrade = 117

abbrev begins : List Word → ℕ
begins words = letter (slice_get words 0)

flags_begin : (c : Word) (words : List Word) (journal : Bool) (crew : Option Word) → AreFlags c words journal crew → begins words ≡ letter (Some c)
flags_begin c words false None is = ap begins is
flags_begin c words true None is = ap begins is
flags_begin c words false (Some v) (inl is) = ap begins is
flags_begin c words false (Some v) (inr is) = ap begins is
flags_begin c words true (Some v) (inl is) = ap begins is
flags_begin c words true (Some v) (inr (inl is)) = ap begins is
flags_begin c words true (Some v) (inr (inr (inl is))) = ap begins is
flags_begin c words true (Some v) (inr (inr (inr is))) = ap begins is

numbers_begin : (c : Word) (words : List Word) (count seed : Word) (run : Bool) → AreNumbers c words count seed run → begins words ≡ letter (Some c)
numbers_begin c words count seed false is = ap begins is
numbers_begin c words count seed true (inl is) = ap begins is
numbers_begin c words count seed true (inr (inl is)) = ap begins is
numbers_begin c words count seed true (inr (inr is)) = ap begins is

run_begins : (words : List Word) (crew : ℕ) (journal : Bool) → (AreFlags (codes "run") words journal None × (crew ≡ 2)) ⊎ AreFlags (codes "run") words journal (Some (decimal crew)) → begins words ≡ 114
run_begins words crew journal (inl h) = flags_begin (codes "run") words journal None h.0
run_begins words crew journal (inr h) = flags_begin (codes "run") words journal (Some (decimal crew)) h

first_letter : (words : List Word) (w : Request) → Spells words w → begins words ≡ letter_of w
first_letter words (Alone journal) h = flags_begin (codes "alone") words journal None h
first_letter words (Run crew journal) h = run_begins words crew journal h.1
first_letter words (Generate count seed run) h = numbers_begin (codes "gen") words (decimal count) (decimal seed) run h.3
first_letter words Check h = ap begins h
first_letter words Upgrade h = ap begins h

-- the words begin with this command, and spell a request of another letter: not so
other : (words : List Word) (c : Word) (w : Request) → slice_get words 0 ≡ Some c → Spells words w → letter (Some c) ≡ letter_of w
other words c w at h = sym (ap letter at) ∙ first_letter words w h

front : (words : List Word) (c : Word) → slice_get words 0 ≡ Some c → (rest : List Word) × (words ≡ c ∷ rest)
front [] c e = cc
front (x ∷ xs) c e = (xs, ap (λ y. y ∷ xs) (same_Some x c e))

if_some : {X : Type 0} (P : X → Type 0) (o : Option X) (x : X) → o ≡ Some x → IfSome o P → P x
if_some P o x e h = subst (λ v. IfSome v P) e h

some_and : {X : Type 0} (P : X → Type 0) (o : Option X) (x : X) → o ≡ Some x → IsSomeAnd o P → P x
some_and P o x e h = subst (λ v. IsSomeAnd v P) e h

none_and : {X : Type 0} (P : X → Type 0) (o : Option X) → o ≡ None → IsSomeAnd o P → ⊥
none_and P o e h = subst (λ v. IsSomeAnd v P) e h

-- ---- `alone`

module _ (words : List Word) (said : Option Flags) (at : slice_get words 0 ≡ Some (codes "alone")) (reads : ReadsFlags words said) (takes : TakesFlags words said) where
  pub alone_said : (flags : Flags) → said ≡ Some flags → is_some flags.crew ≡ false → IsExact words (Some (Alone flags.journal))
  alone_said flags some lacks w =
      let none : flags.crew ≡ None = no_value flags.crew lacks in
      let f = front words (codes "alone") at in
      let here = if_some (λ (g : Flags). AreFlags (codes "alone") words g.journal (text_of g.crew)) said flags some (reads (codes "alone") f.0 f.1) in
      let spelled : AreFlags (codes "alone") words flags.journal None = subst (λ o. AreFlags (codes "alone") words flags.journal o) (ap text_of none) here in
      (λ e. subst (Spells words) (same_Some (Alone flags.journal) w e) spelled, λ h. go w h)
    where
      no_value : (o : Option (Bor Word)) → is_some o ≡ false → o ≡ None
      no_value None e = refl
      no_value (Some x) e = cc

      go : (v : Request) → Spells words v → Some (Alone flags.journal) ≡ Some v
      go (Alone journal) h =
          let told = some_and (λ (g : Flags). (g.journal ≡ journal) × (text_of g.crew ≡ None)) said flags some (takes (codes "alone") journal None tt h) in
          ap (λ b. Some (Alone b)) told.0
      go (Run crew journal) h = let bad : ◌≡◌ {A = ℕ} 97 114 = other words (codes "alone") (Run crew journal) at h in absurd (omega arith)
      go (Generate count seed run) h = let bad : ◌≡◌ {A = ℕ} 97 103 = other words (codes "alone") (Generate count seed run) at h in absurd (omega arith)
      go Check h = let bad : ◌≡◌ {A = ℕ} 97 99 = other words (codes "alone") Check at h in absurd (omega arith)
      go Upgrade h = let bad : ◌≡◌ {A = ℕ} 97 117 = other words (codes "alone") Upgrade at h in absurd (omega arith)

  none_alone : ((journal : Bool) → AreFlags (codes "alone") words journal None → ⊥) → IsExact words None
  none_alone never w = (λ e. cc, λ h. absurd (go w h))
    where
      go : (v : Request) → Spells words v → ⊥
      go (Alone journal) h = never journal h
      go (Run crew journal) h = let bad : ◌≡◌ {A = ℕ} 97 114 = other words (codes "alone") (Run crew journal) at h in omega arith
      go (Generate count seed run) h = let bad : ◌≡◌ {A = ℕ} 97 103 = other words (codes "alone") (Generate count seed run) at h in omega arith
      go Check h = let bad : ◌≡◌ {A = ℕ} 97 99 = other words (codes "alone") Check at h in omega arith
      go Upgrade h = let bad : ◌≡◌ {A = ℕ} 97 117 = other words (codes "alone") Upgrade at h in omega arith

  pub alone_crew : (flags : Flags) → said ≡ Some flags → is_some flags.crew ≡ true → IsExact words None
  alone_crew flags some has = none_alone (λ journal h. no_text flags.crew has (some_and (λ (g : Flags). (g.journal ≡ journal) × (text_of g.crew ≡ None)) said flags some (takes (codes "alone") journal None tt h)).1)
    where
      no_text : (o : Option (Bor Word)) → is_some o ≡ true → text_of o ≡ None → ⊥
      no_text None has e = cc
      no_text (Some x) has e = cc

  pub alone_refused : said ≡ None → IsExact words None
  alone_refused none = none_alone (λ journal h. none_and (λ (g : Flags). (g.journal ≡ journal) × (text_of g.crew ≡ None)) said none (takes (codes "alone") journal None tt h))

-- ---- `run`

asks_once : (value : Option Word) (a b : ℕ) → AsksFor value a → AsksFor value b → a ≡ b
asks_once value a b x y = go x.1 y.1
  where
    go : ((value ≡ None) × (a ≡ 2)) ⊎ (value ≡ Some (decimal a)) → ((value ≡ None) × (b ≡ 2)) ⊎ (value ≡ Some (decimal b)) → a ≡ b
    go (inl p) (inl q) = p.1 ∙ sym q.1
    go (inl p) (inr q) = let bad : None ≡ Some (decimal b) = sym p.0 ∙ q in cc
    go (inr p) (inl q) = let bad : None ≡ Some (decimal a) = sym q.0 ∙ p in cc
    go (inr p) (inr q) =
        let low : a ≤ 8 = x.0 in
        let high : b ≤ 8 = y.0 in
        decimal_injective a b (omega arith) (omega arith) (same_Some (decimal a) (decimal b) (sym p ∙ q))

module _ (words : List Word) (said : Option Flags) (at : slice_get words 0 ≡ Some (codes "run")) (reads : ReadsFlags words said) (takes : TakesFlags words said) where
  -- what a spelled `run` says of the flags
  flags_say : (flags : Flags) → said ≡ Some flags → (crew : ℕ) (journal : Bool) → Spells words (Run crew journal) → (flags.journal ≡ journal) × AsksFor (text_of flags.crew) crew
  flags_say flags some crew journal h = go h.1
    where
      go : (AreFlags (codes "run") words journal None × (crew ≡ 2)) ⊎ AreFlags (codes "run") words journal (Some (decimal crew)) → (flags.journal ≡ journal) × AsksFor (text_of flags.crew) crew
      go (inl g) =
          let told = some_and (λ (f : Flags). (f.journal ≡ journal) × (text_of f.crew ≡ None)) said flags some (takes (codes "run") journal None tt g.0) in
          (told.0, (h.0, inl (told.1, g.1)))
      go (inr g) =
          let small : crew ≤ 8 = h.0 in
          let told = some_and (λ (f : Flags). (f.journal ≡ journal) × (text_of f.crew ≡ Some (decimal crew))) said flags some (takes (codes "run") journal (Some crew) (omega arith) g) in
          (told.0, (h.0, inr told.1))

  none_run : ((crew : ℕ) (journal : Bool) → Spells words (Run crew journal) → ⊥) → IsExact words None
  none_run never w = (λ e. cc, λ h. absurd (go w h))
    where
      go : (v : Request) → Spells words v → ⊥
      go (Alone journal) h = let bad : ◌≡◌ {A = ℕ} 114 97 = other words (codes "run") (Alone journal) at h in omega arith
      go (Run crew journal) h = never crew journal h
      go (Generate count seed run) h = let bad : ◌≡◌ {A = ℕ} 114 103 = other words (codes "run") (Generate count seed run) at h in omega arith
      go Check h = let bad : ◌≡◌ {A = ℕ} 114 99 = other words (codes "run") Check at h in omega arith
      go Upgrade h = let bad : ◌≡◌ {A = ℕ} 114 117 = other words (codes "run") Upgrade at h in omega arith

  pub run_said : (flags : Flags) (crew : ℕ) → said ≡ Some flags → AsksFor (text_of flags.crew) crew → IsExact words (Some (Run crew flags.journal))
  run_said flags crew some asks w =
      let f = front words (codes "run") at in
      let here = if_some (λ (g : Flags). AreFlags (codes "run") words g.journal (text_of g.crew)) said flags some (reads (codes "run") f.0 f.1) in
      (λ e. subst (Spells words) (same_Some (Run crew flags.journal) w e) (asks.0, spelled here asks.1), λ h. go w h)
    where
      spelled : AreFlags (codes "run") words flags.journal (text_of flags.crew) → ((text_of flags.crew ≡ None) × (crew ≡ 2)) ⊎ (text_of flags.crew ≡ Some (decimal crew))
          → (AreFlags (codes "run") words flags.journal None × (crew ≡ 2)) ⊎ AreFlags (codes "run") words flags.journal (Some (decimal crew))
      spelled here (inl p) = inl (subst (λ o. AreFlags (codes "run") words flags.journal o) p.0 here, p.1)
      spelled here (inr p) = inr (subst (λ o. AreFlags (codes "run") words flags.journal o) p here)

      go : (v : Request) → Spells words v → Some (Run crew flags.journal) ≡ Some v
      go (Alone journal) h = let bad : ◌≡◌ {A = ℕ} 114 97 = other words (codes "run") (Alone journal) at h in absurd (omega arith)
      go (Run k journal) h =
          let say = flags_say flags some k journal h in
          let same : crew ≡ k = asks_once (text_of flags.crew) crew k asks say.1 in
          λ i. Some (Run (same i) (say.0 i))
      go (Generate count seed run) h = let bad : ◌≡◌ {A = ℕ} 114 103 = other words (codes "run") (Generate count seed run) at h in absurd (omega arith)
      go Check h = let bad : ◌≡◌ {A = ℕ} 114 99 = other words (codes "run") Check at h in absurd (omega arith)
      go Upgrade h = let bad : ◌≡◌ {A = ℕ} 114 117 = other words (codes "run") Upgrade at h in absurd (omega arith)

  pub run_refused : said ≡ None → IsExact words None
  run_refused none = none_run (λ crew journal h. go crew journal h h.1)
    where
      go : (crew : ℕ) (journal : Bool) → Spells words (Run crew journal) → (AreFlags (codes "run") words journal None × (crew ≡ 2)) ⊎ AreFlags (codes "run") words journal (Some (decimal crew)) → ⊥
      go crew journal h (inl g) = none_and (λ (f : Flags). (f.journal ≡ journal) × (text_of f.crew ≡ None)) said none (takes (codes "run") journal None tt g.0)
      go crew journal h (inr g) =
          let small : crew ≤ 8 = h.0 in
          none_and (λ (f : Flags). (f.journal ≡ journal) × (text_of f.crew ≡ Some (decimal crew))) said none (takes (codes "run") journal (Some crew) (omega arith) g)

  pub run_without_crew : (flags : Flags) (r : Option ℕ) → said ≡ Some flags → ((crew : ℕ) → AsksFor (text_of flags.crew) crew → r ≡ Some crew) → r ≡ None → IsExact words None
  run_without_crew flags r some only none = none_run (λ crew journal h. let bad : None ≡ Some crew = sym none ∙ only crew (flags_say flags some crew journal h).1 in cc)

-- ---- `gen`

module _ (words : List Word) (said : Option Numbers) (at : slice_get words 0 ≡ Some (codes "gen")) (reads : ReadsNumbers words said) (takes : TakesNumbers words said) where
  numbers_say : (numbers : Numbers) → said ≡ Some numbers → (count seed : ℕ) (run : Bool) → Spells words (Generate count seed run)
      → (numbers.count.now ≡ decimal count) × (numbers.seed.now ≡ decimal seed) × (numbers.run ≡ run)
  numbers_say numbers some count seed run h =
      let high : count ≤ 100000 = h.1 in
      some_and (λ (n : Numbers). (n.count.now ≡ decimal count) × (n.seed.now ≡ decimal seed) × (n.run ≡ run)) said numbers some (takes (codes "gen") count seed run (omega arith) h.2 h.3)

  none_gen : ((count seed : ℕ) (run : Bool) → Spells words (Generate count seed run) → ⊥) → IsExact words None
  none_gen never w = (λ e. cc, λ h. absurd (go w h))
    where
      go : (v : Request) → Spells words v → ⊥
      go (Alone journal) h = let bad : ◌≡◌ {A = ℕ} 103 97 = other words (codes "gen") (Alone journal) at h in omega arith
      go (Run crew journal) h = let bad : ◌≡◌ {A = ℕ} 103 114 = other words (codes "gen") (Run crew journal) at h in omega arith
      go (Generate count seed run) h = never count seed run h
      go Check h = let bad : ◌≡◌ {A = ℕ} 103 99 = other words (codes "gen") Check at h in omega arith
      go Upgrade h = let bad : ◌≡◌ {A = ℕ} 103 117 = other words (codes "gen") Upgrade at h in omega arith

  pub gen_said : (numbers : Numbers) (count seed : ℕ) → said ≡ Some numbers → 1 ≤ count → count ≤ 100000 → seed < 2 ^ 64 → numbers.count.now ≡ decimal count → numbers.seed.now ≡ decimal seed
      → IsExact words (Some (Generate count seed numbers.run))
  gen_said numbers count seed some low high small count_is seed_is w =
      let f = front words (codes "gen") at in
      let here = if_some (λ (n : Numbers). AreNumbers (codes "gen") words n.count.now n.seed.now n.run) said numbers some (reads (codes "gen") f.0 f.1) in
      let spelled : AreNumbers (codes "gen") words (decimal count) (decimal seed) numbers.run =
      subst (λ t. AreNumbers (codes "gen") words (decimal count) t numbers.run) seed_is (subst (λ t. AreNumbers (codes "gen") words t numbers.seed.now numbers.run) count_is here) in
      (λ e. subst (Spells words) (same_Some (Generate count seed numbers.run) w e) (low, high, small, spelled), λ h. go w h)
    where
      go : (v : Request) → Spells words v → Some (Generate count seed numbers.run) ≡ Some v
      go (Alone journal) h = let bad : ◌≡◌ {A = ℕ} 103 97 = other words (codes "gen") (Alone journal) at h in absurd (omega arith)
      go (Run crew journal) h = let bad : ◌≡◌ {A = ℕ} 103 114 = other words (codes "gen") (Run crew journal) at h in absurd (omega arith)
      go (Generate n s r) h =
          let say = numbers_say numbers some n s r h in
          let less : n ≤ 100000 = h.1 in
          let first : count ≡ n = decimal_injective count n (omega arith) (omega arith) (sym count_is ∙ say.0) in
          let second : seed ≡ s = decimal_injective seed s small h.2 (sym seed_is ∙ say.1) in
          λ i. Some (Generate (first i) (second i) (say.2 i))
      go Check h = let bad : ◌≡◌ {A = ℕ} 103 99 = other words (codes "gen") Check at h in absurd (omega arith)
      go Upgrade h = let bad : ◌≡◌ {A = ℕ} 103 117 = other words (codes "gen") Upgrade at h in absurd (omega arith)

  pub gen_refused : said ≡ None → IsExact words None
  gen_refused none = none_gen (λ count seed run h. let high : count ≤ 100000 = h.1 in
      none_and (λ (n : Numbers). (n.count.now ≡ decimal count) × (n.seed.now ≡ decimal seed) × (n.run ≡ run)) said none (takes (codes "gen") count seed run (omega arith) h.2 h.3))

  pub gen_without_count : (numbers : Numbers) (r : Option ℕ) → said ≡ Some numbers
      → ((count : ℕ) → 1 ≤ count → count ≤ 100000 → numbers.count.now ≡ decimal count → r ≡ Some count) → r ≡ None → IsExact words None
  gen_without_count numbers r some only none = none_gen (λ count seed run h. let bad : None ≡ Some count = sym none ∙ only count h.0 h.1 (numbers_say numbers some count seed run h).0 in cc)

  pub gen_without_seed : (numbers : Numbers) (r : Option ℕ) → said ≡ Some numbers → ((seed : ℕ) → seed < 2 ^ 64 → numbers.seed.now ≡ decimal seed → r ≡ Some seed) → r ≡ None → IsExact words None
  gen_without_seed numbers r some only none = none_gen (λ count seed run h. let bad : None ≡ Some seed = sym none ∙ only seed h.2 (numbers_say numbers some count seed run h).1 in cc)

-- ---- a command that takes no other word

single : {X : Type 0} (f : X → Word) (xs : List X) (c : Word) → slice_get (map f xs) 0 ≡ Some c → length xs ≡ 1 → map f xs ≡ c ∷ []
single f [] c e one = cc
single f (x ∷ []) c e one = ap (λ y. y ∷ []) (same_Some (f x) c e)
single f (x ∷ y ∷ ys) c e one = absurd (omega arith)

of_one : {X : Type 0} (f : X → Word) (xs : List X) (c : Word) → map f xs ≡ c ∷ [] → length xs ≡ 1
of_one f [] c e = cc
of_one f (x ∷ []) c e = refl
of_one f (x ∷ y ∷ ys) c e = cc

nat_eq_cases : (n : ℕ) → (n ≡ 1) ⊎ (n ≢ 1)
nat_eq_cases zero = inr (λ e. omega arith)
nat_eq_cases (suc zero) = inl refl
nat_eq_cases (suc (suc n)) = inr (λ e. omega arith)

module _ {X : Type 0} (f : X → Word) (xs : List X) (r : Option Request) where
  pub check_exact : slice_get (map f xs) 0 ≡ Some (codes "check") → (length xs ≡ 1 → r ≡ Some Check) → (length xs ≢ 1 → r ≡ None) → IsExact (map f xs) r
  check_exact at one more w = (λ e. from (nat_eq_cases (length xs)) w e, λ h. to w h)
    where
      to : (v : Request) → Spells (map f xs) v → r ≡ Some v
      to (Alone journal) h = let bad : ◌≡◌ {A = ℕ} 99 97 = other (map f xs) (codes "check") (Alone journal) at h in absurd (omega arith)
      to (Run crew journal) h = let bad : ◌≡◌ {A = ℕ} 99 114 = other (map f xs) (codes "check") (Run crew journal) at h in absurd (omega arith)
      to (Generate count seed run) h = let bad : ◌≡◌ {A = ℕ} 99 103 = other (map f xs) (codes "check") (Generate count seed run) at h in absurd (omega arith)
      to Check h = one (of_one f xs (codes "check") h)
      to Upgrade h = let bad : ◌≡◌ {A = ℕ} 99 117 = other (map f xs) (codes "check") Upgrade at h in absurd (omega arith)

      from : (length xs ≡ 1) ⊎ (length xs ≢ 1) → (v : Request) → r ≡ Some v → Spells (map f xs) v
      from (inl is) v e = subst (Spells (map f xs)) (same_Some Check v (sym (one is) ∙ e)) (single f xs (codes "check") at is)
      from (inr is) v e = let bad : None ≡ Some v = sym (more is) ∙ e in cc

  pub upgrade_exact : slice_get (map f xs) 0 ≡ Some (codes "upgrade") → (length xs ≡ 1 → r ≡ Some Upgrade) → (length xs ≢ 1 → r ≡ None) → IsExact (map f xs) r
  upgrade_exact at one more w = (λ e. from (nat_eq_cases (length xs)) w e, λ h. to w h)
    where
      to : (v : Request) → Spells (map f xs) v → r ≡ Some v
      to (Alone journal) h = let bad : ◌≡◌ {A = ℕ} 117 97 = other (map f xs) (codes "upgrade") (Alone journal) at h in absurd (omega arith)
      to (Run crew journal) h = let bad : ◌≡◌ {A = ℕ} 117 114 = other (map f xs) (codes "upgrade") (Run crew journal) at h in absurd (omega arith)
      to (Generate count seed run) h = let bad : ◌≡◌ {A = ℕ} 117 103 = other (map f xs) (codes "upgrade") (Generate count seed run) at h in absurd (omega arith)
      to Check h = let bad : ◌≡◌ {A = ℕ} 117 99 = other (map f xs) (codes "upgrade") Check at h in absurd (omega arith)
      to Upgrade h = one (of_one f xs (codes "upgrade") h)

      from : (length xs ≡ 1) ⊎ (length xs ≢ 1) → (v : Request) → r ≡ Some v → Spells (map f xs) v
      from (inl is) v e = subst (Spells (map f xs)) (same_Some Upgrade v (sym (one is) ∙ e)) (single f xs (codes "upgrade") at is)
      from (inr is) v e = let bad : None ≡ Some v = sym (more is) ∙ e in cc

-- ---- no word of a request is two hyphens

dash_free : (n : ℕ) → n < 2 ^ 64 → bytes_eq (decimal n) dashes ≡ false
dash_free n small = (number_is_plain n small).dash

along : (words others : List Word) → words ≡ others → has_dashes others ≡ false → has_dashes words ≡ false
along words others is free = ap has_dashes is ∙ free

flags_free : (c : Word) (words : List Word) (journal : Bool) (crew : Option ℕ) → bytes_eq c dashes ≡ false → IfSome crew (λ n. n < 2 ^ 64)
    → AreFlags c words journal (option_map decimal crew) → has_dashes words ≡ false
flags_free c words false None free small is = along words _ is (rw free refl)
flags_free c words true None free small is = along words _ is (rw free refl)
flags_free c words false (Some n) free small (inl is) = along words _ is (rw (free, dash_free n small) refl)
flags_free c words false (Some n) free small (inr is) = along words _ is (rw free refl)
flags_free c words true (Some n) free small (inl is) = along words _ is (rw (free, dash_free n small) refl)
flags_free c words true (Some n) free small (inr (inl is)) = along words _ is (rw free refl)
flags_free c words true (Some n) free small (inr (inr (inl is))) = along words _ is (rw (free, dash_free n small) refl)
flags_free c words true (Some n) free small (inr (inr (inr is))) = along words _ is (rw free refl)

numbers_free : (words : List Word) (count seed : ℕ) (run : Bool) → count < 2 ^ 64 → seed < 2 ^ 64 → AreNumbers (codes "gen") words (decimal count) (decimal seed) run → has_dashes words ≡ false
numbers_free words count seed false small little is = along words _ is (rw (dash_free count small, dash_free seed little) refl)
numbers_free words count seed true small little (inl is) = along words _ is (rw (dash_free count small, dash_free seed little) refl)
numbers_free words count seed true small little (inr (inl is)) = along words _ is (rw (dash_free count small, dash_free seed little) refl)
numbers_free words count seed true small little (inr (inr is)) = along words _ is (rw (dash_free count small, dash_free seed little) refl)

run_free : (words : List Word) (crew : ℕ) (journal : Bool) → crew ≤ 8
    → (AreFlags (codes "run") words journal None × (crew ≡ 2)) ⊎ AreFlags (codes "run") words journal (Some (decimal crew)) → has_dashes words ≡ false
run_free words crew journal small (inl h) = flags_free (codes "run") words journal None refl tt h.0
run_free words crew journal small (inr h) = flags_free (codes "run") words journal (Some crew) refl (omega arith) h

free_of : (words : List Word) (w : Request) → Spells words w → has_dashes words ≡ false
free_of words (Alone journal) h = flags_free (codes "alone") words journal None refl tt h
free_of words (Run crew journal) h = run_free words crew journal h.0 h.1
free_of words (Generate count seed run) h = let high : count ≤ 100000 = h.1 in numbers_free words count seed run (omega arith) h.2 h.3
free_of words Check h = along words _ h refl
free_of words Upgrade h = along words _ h refl

-- the test over texts, as it is made over words
dashes_by : {X : Type 0} (f : X → Word) (xs : List X) → list_any (λ x. bytes_eq (f x) dashes) xs ≡ has_dashes (map f xs)
dashes_by f xs = list_any-map (λ word. bytes_eq word dashes) f xs

pub none_with_dashes : {X : Type 0} (f : X → Word) (xs : List X) (b : Bool) → b ≡ list_any (λ x. bytes_eq (f x) dashes) xs → b ≡ true → IsExact (map f xs) None
none_with_dashes f xs b is set w = (λ e. cc, λ h. let bad : true ≡ false = sym set ∙ is ∙ dashes_by f xs ∙ free_of (map f xs) w h in cc)

pub no_dashes_there : {X : Type 0} (f : X → Word) (xs : List X) (b : Bool) → b ≡ list_any (λ x. bytes_eq (f x) dashes) xs → b ≡ false → has_dashes (map f xs) ≡ false
no_dashes_there f xs b is unset = sym (dashes_by f xs) ∙ sym is ∙ unset
