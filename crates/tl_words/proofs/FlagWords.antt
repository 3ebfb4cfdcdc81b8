-- The options of `alone` and `run` as clap reads them: just the words that are spelled are taken.
use Rattle.std.proofs.Common.{◌≡◌, ◌∙◌, ◌⊎◌, ◌&&◌, ◌||◌, Bool, true, false, not, inl, inr, refl, sym, ap, subst, codes, List, [], ◌∷◌, ◌++◌, Option, Some, None}
use Rattle.std.specs.Prelude.{if◌then◌else◌}
use Rattle.std.specs.Str.{bytes_eq}
use Rattle.std.proofs.lemmas.Slice.Eq.{bytes_eq-Decides}
use Rattle.clap.specs.Lexer.{long_of}
use Rattle.clap.specs.Kinds.{or_else}
use Rattle.clap.specs.Values.{reading_of}
use Rattle.clap.specs.Walk.{Row, Rule, Text, Walk, arg_by_long, first_of, has_row, idle, nothing_held, one_of, option, walked}
use Rattle.clap.specs.Simple.{App, Shape, built, is_simple, matches_of, new_app, new_rule, on_top, with_rule}
use Rattle.clap.specs.Faults.{fault_of, is_simple_and_free, long_fault, settle_fault, turn_fault}
use Rattle.clap.specs.declared.builder.action.ArgAction.TheVariants.{Set, SetTrue}
use Rattle.clap.specs.declared.builder.value_parser.ValueParser.TheVariants as vp
use Rattle.clap.specs.declared.error.kind.ErrorKind.TheVariants.{ArgumentConflict}
use Rattle.clap.specs.declared.parser.matches.ValueSource.TheVariants.{CommandLine}
use Rattle.clap.proofs.FaultLemmas.{leaf_fault}
use Rattle.clap.proofs.OnLiterals.{clap_on_literals}
use Rattle.tl_words.specs.Spells.{AreFlags, crew_flag, crew_joined, journal_flag}
use Rattle.tl_words.proofs.Longs.{long_is, value_text}
use Rattle.tl_words.proofs.Walking.{IsTaken, both_empty, dashes, end_settles, first_passes, holding, plain_is_met, plain_turn, refused, rest_fault, rows_left, standing, taken_more, walked_by, word_passes, IsPlainText, NoDashes}

abbrev pub journal_rule : Rule
journal_rule = record (new_rule (codes "journal")) { long = Some (codes "journal"); action = Some SetTrue }

abbrev pub crew_rule : Rule
crew_rule = record (new_rule (codes "crew")) { long = Some (codes "crew"); action = Some Set }

abbrev pub flags_app : App
flags_app = with_rule (with_rule (on_top (λ s. record s { disable_help_flag = true }) (new_app (codes "tachyon"))) journal_rule) crew_rule

abbrev shape : Shape
shape = (built flags_app).top

abbrev at : List Row → Option (Text × List Text) → Walk
at rows pending = standing (holding rows pending) idle 1

-- `--crew` waits for its value
abbrev awaiting : List Row → Walk
awaiting rows = standing (holding rows (Some (codes "crew", []))) (option (codes "crew")) 1

abbrev crew_pending : Text → Option (Text × List Text)
crew_pending v = Some (codes "crew", v ∷ [])

abbrev journal_row : Row
journal_row = record { id = codes "journal"; values = codes "true" ∷ []; count = None; source = Some CommandLine; reading = reading_of vp.Bool }

abbrev crew_row : Text → Row
crew_row v = record { id = codes "crew"; values = v ∷ []; count = None; source = Some CommandLine; reading = reading_of vp.String }

abbrev found_by : Bool → Bool → Option Rule
found_by journal crew = if not false && (journal || false) then arg_by_long shape.rules (codes "journal")
    else (if not false && (crew || false) then arg_by_long shape.rules (codes "crew") else None)

-- ---- one word

IsOption : Text → Type 0
IsOption y = (y ≡ journal_flag) ⊎ ((y ≡ crew_flag) ⊎ ((v : Text) × (y ≡ crew_joined v)))

named : (y name known : Text) (value : Option Text) → long_of y ≡ Some (name, value) → bytes_eq known name ≡ true → y ≡ 45 ∷ 45 ∷ (known ++ value_text value)
named y name known value long is = long_is y name value long ∙ ap (λ n. 45 ∷ 45 ∷ (n ++ value_text value)) (sym ((bytes_eq-Decides known name).0 is))

-- with nothing awaited, only an option passes
option_seen : (rows : List Row) (pending : Option (Text × List Text)) (y : Text) → bytes_eq y dashes ≡ false → turn_fault shape [] (at rows pending) y ≡ [] → IsOption y
unfolding IsOption
option_seen rows pending y dash e = elim (word_passes shape rows pending idle 1 y (λ x. refl) dash e) [
  | inl long ↦ by_name long.name long.value long.long (bytes_eq (codes "journal") long.name) (bytes_eq (codes "crew") long.name) refl refl long.passes
  | inr none ↦ let h = none.passes in cc
]
  where
    by_name : (name : Text) (value : Option Text) → long_of y ≡ Some (name, value) → (j c : Bool) → bytes_eq (codes "journal") name ≡ j → bytes_eq (codes "crew") name ≡ c
        → long_fault shape.rules false (found_by j c) value (holding rows pending) ≡ [] → IsOption y
    by_name name None long true c is other f = inl (named y name (codes "journal") None long is)
    by_name name (Some v) long true c is other f = cc
    by_name name None long false true is other f = inr (inl (named y name (codes "crew") None long other))
    by_name name (Some v) long false true is other f = inr (inr (v, named y name (codes "crew") (Some v) long other))
    by_name name value long false false is other f = cc

-- what follows `--crew` is its value
value_seen : (rows : List Row) (y : Text) → bytes_eq y dashes ≡ false → turn_fault shape [] (awaiting rows) y ≡ [] → walked shape.rules [] (awaiting rows) y ≡ at rows (crew_pending y)
value_seen rows y dash e = elim (word_passes shape rows (Some (codes "crew", [])) (option (codes "crew")) 1 y (λ x. refl) dash e) [
  | inl long ↦ absurd (by_name long.value (bytes_eq (codes "journal") long.name) (bytes_eq (codes "crew") long.name) long.passes)
  | inr none ↦ walked_by shape rows (Some (codes "crew", [])) (option (codes "crew")) 1 y _ none.met
]
  where
    by_name : (value : Option Text) (j c : Bool) → long_fault shape.rules false (found_by j c) value (holding rows (Some (codes "crew", []))) ≡ [] → ⊥
    by_name None true c f = cc
    by_name (Some v) true c f = cc
    by_name None false true f = cc
    by_name (Some v) false true f = cc
    by_name value false false f = cc

-- `--crew` without a value does not pass
no_value : (rows : List Row) → rest_fault shape (awaiting rows) [] ≡ [] → ⊥
no_value rows e = refused (end_settles shape (awaiting rows) e)

-- ---- a second `--crew`

module _ (rows : List Row) (has : has_row (codes "crew") rows ≡ true) where
  repeats : (v : Text) → settle_fault shape.rules false (holding rows (crew_pending v)) ≡ ArgumentConflict ∷ []
  repeats v = ap (λ b. or_else (if b && not false then ArgumentConflict ∷ [] else []) []) has

  settles : (v : Text) → settle_fault shape.rules false (holding rows (crew_pending v)) ≡ [] → ⊥
  settles v f = let h = sym (repeats v) ∙ f in cc

  never_settled : (v : Text) (ws : List Text) → NoDashes ws → rest_fault shape (at rows (crew_pending v)) ws ≡ [] → ⊥
  unfolding IsOption
  never_settled v [] none e = settles v (end_settles shape (at rows (crew_pending v)) e)
  never_settled v (z ∷ zs) none e =
      let f = (first_passes shape (at rows (crew_pending v)) z zs e).0 in
      elim (option_seen rows (crew_pending v) z none.0 f) [
        | inl j ↦ settles v (both_empty _ _ (both_empty _ _ (subst (λ w. turn_fault shape [] (at rows (crew_pending v)) w ≡ []) j f)).0).0
        | inr (inl k) ↦ settles v (both_empty _ _ (subst (λ w. turn_fault shape [] (at rows (crew_pending v)) w ≡ []) k f)).0
        | inr (inr k) ↦ settles v (both_empty _ _ (both_empty _ _ (subst (λ w. turn_fault shape [] (at rows (crew_pending v)) w ≡ []) k.1 f)).0).0
      ]

  never_again : (ws : List Text) → NoDashes ws → rest_fault shape (awaiting rows) ws ≡ [] → ⊥
  never_again [] none e = no_value rows e
  never_again (z ∷ zs) none e =
      let p = first_passes shape (awaiting rows) z zs e in
      never_settled z zs none.1 (subst (λ w. rest_fault shape w zs ≡ []) (value_seen rows z none.0 p.0) p.1)

-- ---- what passes is spelled

abbrev pub flag_text : Bool → Text
flag_text true = codes "true"
flag_text false = codes "false"

-- the words after the command are options, of which the rows tell
pub record IsRead (command : Text) (words : List Text) (rows : List Row) : Type 0 where
  pub journal : Bool
  pub crew : Option Text
  pub spelled : AreFlags command (command ∷ words) journal crew
  pub flag : one_of (codes "journal") rows ≡ Some (flag_text journal)
  pub value : first_of (codes "crew") rows ≡ crew

-- the next word is known
known : (c : Text) (before : List Text → List Text) (w : Walk) (y z : Text) (ys : List Text) → y ≡ z → rest_fault shape (walked shape.rules [] w y) ys ≡ []
    → (rest_fault shape (walked shape.rules [] w z) ys ≡ [] → IsRead c (before (z ∷ ys)) (rows_left shape (walked shape.rules [] w z) ys))
    → IsRead c (before (y ∷ ys)) (rows_left shape (walked shape.rules [] w y) ys)
known c before w y z ys is e read = subst (λ v. IsRead c (before (v ∷ ys)) (rows_left shape (walked shape.rules [] w v) ys)) (sym is)
    (read (subst (λ v. rest_fault shape (walked shape.rules [] w v) ys ≡ []) is e))

-- the next word is the value that `--crew` waits for
valued : (c : Text) (before : List Text → List Text) (rows : List Row) (y : Text) (ys : List Text) → NoDashes (y ∷ ys) → rest_fault shape (awaiting rows) (y ∷ ys) ≡ []
    → (rest_fault shape (at rows (crew_pending y)) ys ≡ [] → IsRead c (before (y ∷ ys)) (rows_left shape (at rows (crew_pending y)) ys))
    → IsRead c (before (y ∷ ys)) (rows_left shape (awaiting rows) (y ∷ ys))
valued c before rows y ys none e read =
    let p = first_passes shape (awaiting rows) y ys e in
    let is = value_seen rows y none.0 p.0 in
    subst (λ w. IsRead c (before (y ∷ ys)) (rows_left shape w ys)) (sym is) (read (subst (λ w. rest_fault shape w ys ≡ []) is p.1))

-- a state after which no word passes
Full : Walk → Type 0
Full w = (y : Text) (ys : List Text) → bytes_eq y dashes ≡ false → NoDashes ys → rest_fault shape w (y ∷ ys) ≡ [] → ⊥

full : (rows : List Row) (pending : Option (Text × List Text)) → (turn_fault shape [] (at rows pending) journal_flag ≡ [] → ⊥)
    → ((ys : List Text) → NoDashes ys → turn_fault shape [] (at rows pending) crew_flag ≡ [] → rest_fault shape (walked shape.rules [] (at rows pending) crew_flag) ys ≡ [] → ⊥)
    → ((v : Text) → turn_fault shape [] (at rows pending) (crew_joined v) ≡ [] → ⊥) → Full (at rows pending)
unfolding Full IsOption
full rows pending journal crew joined y ys dash none e =
    let p = first_passes shape (at rows pending) y ys e in
    elim (option_seen rows pending y dash p.0) [
      | inl j ↦ journal (subst (λ w. turn_fault shape [] (at rows pending) w ≡ []) j p.0)
      | inr (inl k) ↦ crew ys none (subst (λ w. turn_fault shape [] (at rows pending) w ≡ []) k p.0) (subst (λ w. rest_fault shape (walked shape.rules [] (at rows pending) w) ys ≡ []) k p.1)
      | inr (inr k) ↦ joined k.0 (subst (λ w. turn_fault shape [] (at rows pending) w ≡ []) k.1 p.0)
    ]

full_joined_journal : (v : Text) → Full (at (crew_row v ∷ journal_row ∷ []) None)
unfolding clap_on_literals
full_joined_journal v = full (crew_row v ∷ journal_row ∷ []) None (λ f. refused f) (λ ys none f g. never_again (crew_row v ∷ journal_row ∷ []) refl ys none g) (λ u f. refused f)

full_journal_joined : (v : Text) → Full (at (journal_row ∷ crew_row v ∷ []) None)
unfolding clap_on_literals
full_journal_joined v = full (journal_row ∷ crew_row v ∷ []) None (λ f. refused f) (λ ys none f g. never_again (journal_row ∷ crew_row v ∷ []) refl ys none g) (λ u f. refused f)

full_journal_apart : (v : Text) → Full (at (journal_row ∷ []) (crew_pending v))
unfolding clap_on_literals
full_journal_apart v = full (journal_row ∷ []) (crew_pending v) (λ f. refused f) (λ ys none f g. never_again (journal_row ∷ crew_row v ∷ []) refl ys none g) (λ u f. refused f)

-- ---- the states, from the last to the first

read_more : (c : Text) (words : List Text) (w : Walk) (y : Text) (ys : List Text) → Full w → NoDashes (y ∷ ys) → rest_fault shape w (y ∷ ys) ≡ [] → IsRead c words (rows_left shape w (y ∷ ys))
unfolding Full
read_more c words w y ys is_full none e = absurd (is_full y ys none.0 none.1 e)

crew_then_journal : (c v : Text) (ws : List Text) → NoDashes ws → rest_fault shape (at (crew_row v ∷ journal_row ∷ []) None) ws ≡ []
    → IsRead c (crew_flag ∷ v ∷ journal_flag ∷ ws) (rows_left shape (at (crew_row v ∷ journal_row ∷ []) None) ws)
crew_then_journal c v [] none e = record { journal = true; crew = Some v; spelled = inr (inr (inl refl)); flag = refl; value = refl }
crew_then_journal c v (y ∷ ys) none e = read_more c _ _ y ys (full_joined_journal v) none e

joined_then_journal : (c v : Text) (ws : List Text) → NoDashes ws → rest_fault shape (at (crew_row v ∷ journal_row ∷ []) None) ws ≡ []
    → IsRead c (crew_joined v ∷ journal_flag ∷ ws) (rows_left shape (at (crew_row v ∷ journal_row ∷ []) None) ws)
joined_then_journal c v [] none e = record { journal = true; crew = Some v; spelled = inr (inr (inr refl)); flag = refl; value = refl }
joined_then_journal c v (y ∷ ys) none e = read_more c _ _ y ys (full_joined_journal v) none e

journal_then_joined : (c v : Text) (ws : List Text) → NoDashes ws → rest_fault shape (at (journal_row ∷ crew_row v ∷ []) None) ws ≡ []
    → IsRead c (journal_flag ∷ crew_joined v ∷ ws) (rows_left shape (at (journal_row ∷ crew_row v ∷ []) None) ws)
journal_then_joined c v [] none e = record { journal = true; crew = Some v; spelled = inr (inl refl); flag = refl; value = refl }
journal_then_joined c v (y ∷ ys) none e = read_more c _ _ y ys (full_journal_joined v) none e

journal_then_crew : (c v : Text) (ws : List Text) → NoDashes ws → rest_fault shape (at (journal_row ∷ []) (crew_pending v)) ws ≡ []
    → IsRead c (journal_flag ∷ crew_flag ∷ v ∷ ws) (rows_left shape (at (journal_row ∷ []) (crew_pending v)) ws)
journal_then_crew c v [] none e = record { journal = true; crew = Some v; spelled = inl refl; flag = refl; value = refl }
journal_then_crew c v (y ∷ ys) none e = read_more c _ _ y ys (full_journal_apart v) none e

after_crew : (c v : Text) (ws : List Text) → NoDashes ws → rest_fault shape (at [] (crew_pending v)) ws ≡ [] → IsRead c (crew_flag ∷ v ∷ ws) (rows_left shape (at [] (crew_pending v)) ws)
unfolding clap_on_literals IsOption
after_crew c v [] none e = record { journal = false; crew = Some v; spelled = inl refl; flag = refl; value = refl }
after_crew c v (y ∷ ys) none e =
    let p = first_passes shape (at [] (crew_pending v)) y ys e in
    elim (option_seen [] (crew_pending v) y none.0 p.0) [
      | inl j ↦ known c (λ ws. crew_flag ∷ v ∷ ws) (at [] (crew_pending v)) y journal_flag ys j p.1 (λ f. crew_then_journal c v ys none.1 f)
      | inr (inl k) ↦ known c (λ ws. crew_flag ∷ v ∷ ws) (at [] (crew_pending v)) y crew_flag ys k p.1 (λ f. absurd (never_again (crew_row v ∷ []) refl ys none.1 f))
      | inr (inr k) ↦ absurd (refused (subst (λ w. turn_fault shape [] (at [] (crew_pending v)) w ≡ []) k.1 p.0))
    ]

after_joined : (c v : Text) (ws : List Text) → NoDashes ws → rest_fault shape (at (crew_row v ∷ []) None) ws ≡ [] → IsRead c (crew_joined v ∷ ws) (rows_left shape (at (crew_row v ∷ []) None) ws)
unfolding clap_on_literals IsOption
after_joined c v [] none e = record { journal = false; crew = Some v; spelled = inr refl; flag = refl; value = refl }
after_joined c v (y ∷ ys) none e =
    let p = first_passes shape (at (crew_row v ∷ []) None) y ys e in
    elim (option_seen (crew_row v ∷ []) None y none.0 p.0) [
      | inl j ↦ known c (λ ws. crew_joined v ∷ ws) (at (crew_row v ∷ []) None) y journal_flag ys j p.1 (λ f. joined_then_journal c v ys none.1 f)
      | inr (inl k) ↦ known c (λ ws. crew_joined v ∷ ws) (at (crew_row v ∷ []) None) y crew_flag ys k p.1 (λ f. absurd (never_again (crew_row v ∷ []) refl ys none.1 f))
      | inr (inr k) ↦ absurd (refused (subst (λ w. turn_fault shape [] (at (crew_row v ∷ []) None) w ≡ []) k.1 p.0))
    ]

journal_and_value : (c : Text) (ws : List Text) → NoDashes ws → rest_fault shape (awaiting (journal_row ∷ [])) ws ≡ [] → IsRead c (journal_flag ∷ crew_flag ∷ ws) (rows_left shape (awaiting (journal_row ∷ [])) ws)
journal_and_value c [] none e = absurd (no_value (journal_row ∷ []) e)
journal_and_value c (y ∷ ys) none e = valued c (λ ws. journal_flag ∷ crew_flag ∷ ws) (journal_row ∷ []) y ys none e (λ f. journal_then_crew c y ys none.1 f)

after_journal : (c : Text) (ws : List Text) → NoDashes ws → rest_fault shape (at (journal_row ∷ []) None) ws ≡ [] → IsRead c (journal_flag ∷ ws) (rows_left shape (at (journal_row ∷ []) None) ws)
unfolding clap_on_literals IsOption
after_journal c [] none e = record { journal = true; crew = None; spelled = refl; flag = refl; value = refl }
after_journal c (y ∷ ys) none e =
    let p = first_passes shape (at (journal_row ∷ []) None) y ys e in
    elim (option_seen (journal_row ∷ []) None y none.0 p.0) [
      | inl j ↦ absurd (refused (subst (λ w. turn_fault shape [] (at (journal_row ∷ []) None) w ≡ []) j p.0))
      | inr (inl k) ↦ known c (λ ws. journal_flag ∷ ws) (at (journal_row ∷ []) None) y crew_flag ys k p.1 (λ f. journal_and_value c ys none.1 f)
      | inr (inr k) ↦ known c (λ ws. journal_flag ∷ ws) (at (journal_row ∷ []) None) y (crew_joined k.0) ys k.1 p.1 (λ f. journal_then_joined c k.0 ys none.1 f)
    ]

value_first : (c : Text) (ws : List Text) → NoDashes ws → rest_fault shape (awaiting []) ws ≡ [] → IsRead c (crew_flag ∷ ws) (rows_left shape (awaiting []) ws)
value_first c [] none e = absurd (no_value [] e)
value_first c (y ∷ ys) none e = valued c (λ ws. crew_flag ∷ ws) [] y ys none e (λ f. after_crew c y ys none.1 f)

read_from : (c : Text) (ws : List Text) → NoDashes ws → rest_fault shape (at [] None) ws ≡ [] → IsRead c ws (rows_left shape (at [] None) ws)
unfolding clap_on_literals IsOption
read_from c [] none e = record { journal = false; crew = None; spelled = refl; flag = refl; value = refl }
read_from c (y ∷ ys) none e =
    let p = first_passes shape (at [] None) y ys e in
    elim (option_seen [] None y none.0 p.0) [
      | inl j ↦ known c (λ ws. ws) (at [] None) y journal_flag ys j p.1 (λ f. after_journal c ys none.1 f)
      | inr (inl k) ↦ known c (λ ws. ws) (at [] None) y crew_flag ys k p.1 (λ f. value_first c ys none.1 f)
      | inr (inr k) ↦ known c (λ ws. ws) (at [] None) y (crew_joined k.0) ys k.1 p.1 (λ f. after_joined c k.0 ys none.1 f)
    ]

fault_is : (c : Text) (ws : List Text) → fault_of flags_app (c ∷ ws) ≡ rest_fault shape (at [] None) ws
fault_is c ws = leaf_fault (built flags_app) nothing_held ws refl

-- words that clap takes are a command's options, and the matches tell which
pub taken_is_spelled : (c : Text) (ws : List Text) → NoDashes ws → fault_of flags_app (c ∷ ws) ≡ [] → IsRead c ws (matches_of flags_app (c ∷ ws))
taken_is_spelled c ws none e = read_from c ws none (sym (fault_is c ws) ∙ e)

-- ---- what is spelled passes

value_passes : (rows : List Row) (v : Text) → IsPlainText v → (turn_fault shape [] (awaiting rows) v ≡ []) × (walked shape.rules [] (awaiting rows) v ≡ at rows (crew_pending v))
value_passes rows v text = (
  plain_turn shape rows (Some (codes "crew", [])) (option (codes "crew")) 1 v text,
  walked_by shape rows (Some (codes "crew", [])) (option (codes "crew")) 1 v _ (plain_is_met shape rows (Some (codes "crew", [])) (option (codes "crew")) 1 v text),
)

-- clap takes the words, and the matches tell of these options
pub record IsTold (words : List Text) (journal : Bool) (crew : Option Text) : Type 0 where
  pub fault : fault_of flags_app words ≡ []
  pub flag : one_of (codes "journal") (matches_of flags_app words) ≡ Some (flag_text journal)
  pub value : first_of (codes "crew") (matches_of flags_app words) ≡ crew

told : (c : Text) (ws : List Text) (rows : List Row) (journal : Bool) (crew : Option Text) → IsTaken shape (at [] None) ws rows → one_of (codes "journal") rows ≡ Some (flag_text journal)
    → first_of (codes "crew") rows ≡ crew → IsTold (c ∷ ws) journal crew
told c ws rows journal crew taken flag value = record {
  fault = fault_is c ws ∙ taken.fault;
  flag = ap (one_of (codes "journal")) taken.found ∙ flag;
  value = ap (first_of (codes "crew")) taken.found ∙ value;
}

abbrev pub IsPlainIfThere : Option Text → Type 0
IsPlainIfThere None = Unit {0}
IsPlainIfThere (Some v) = IsPlainText v

told_apart : (c v : Text) → IsPlainText v → IsTold (c ∷ crew_flag ∷ v ∷ []) false (Some v)
unfolding clap_on_literals
told_apart c v text =
    let passes = value_passes [] v text in
    told c (crew_flag ∷ v ∷ []) (rows_left shape (at [] (crew_pending v)) []) false (Some v)
    (taken_more shape (at [] None) (awaiting []) crew_flag (v ∷ []) _ refl refl (taken_more shape (awaiting []) (at [] (crew_pending v)) v [] _ passes.0 passes.1 (record { fault = refl; found = refl })))
    refl refl

told_journal_apart : (c v : Text) → IsPlainText v → IsTold (c ∷ journal_flag ∷ crew_flag ∷ v ∷ []) true (Some v)
unfolding clap_on_literals
told_journal_apart c v text =
    let passes = value_passes (journal_row ∷ []) v text in
    told c (journal_flag ∷ crew_flag ∷ v ∷ []) (rows_left shape (at (journal_row ∷ []) (crew_pending v)) []) true (Some v)
    (taken_more shape (at [] None) (at (journal_row ∷ []) None) journal_flag (crew_flag ∷ v ∷ []) _ refl refl
    (taken_more shape (at (journal_row ∷ []) None) (awaiting (journal_row ∷ [])) crew_flag (v ∷ []) _ refl refl
    (taken_more shape (awaiting (journal_row ∷ [])) (at (journal_row ∷ []) (crew_pending v)) v [] _ passes.0 passes.1 (record { fault = refl; found = refl }))))
    refl refl

told_apart_journal : (c v : Text) → IsPlainText v → IsTold (c ∷ crew_flag ∷ v ∷ journal_flag ∷ []) true (Some v)
unfolding clap_on_literals
told_apart_journal c v text =
    let passes = value_passes [] v text in
    told c (crew_flag ∷ v ∷ journal_flag ∷ []) (rows_left shape (at [] (crew_pending v)) (journal_flag ∷ [])) true (Some v)
    (taken_more shape (at [] None) (awaiting []) crew_flag (v ∷ journal_flag ∷ []) _ refl refl
    (taken_more shape (awaiting []) (at [] (crew_pending v)) v (journal_flag ∷ []) _ passes.0 passes.1 (record { fault = refl; found = refl })))
    refl refl

told_words : (c : Text) (ws : List Text) (journal : Bool) (crew : Option Text) → IsTaken shape (at [] None) ws (rows_left shape (at [] None) ws)
    → one_of (codes "journal") (rows_left shape (at [] None) ws) ≡ Some (flag_text journal) → first_of (codes "crew") (rows_left shape (at [] None) ws) ≡ crew → IsTold (c ∷ ws) journal crew
told_words c ws journal crew taken flag value = told c ws _ journal crew taken flag value

-- spelled options are taken, where the value looks like no option
pub spelled_is_taken : (c : Text) (words : List Text) (journal : Bool) (crew : Option Text) → IsPlainIfThere crew → AreFlags c words journal crew → IsTold words journal crew
unfolding clap_on_literals
spelled_is_taken c words false None text is = subst (λ ws. IsTold ws false None) (sym is) (told_words c [] false None (record { fault = refl; found = refl }) refl refl)
spelled_is_taken c words true None text is = subst (λ ws. IsTold ws true None) (sym is) (told_words c (journal_flag ∷ []) true None (record { fault = refl; found = refl }) refl refl)
spelled_is_taken c words false (Some v) text (inl is) = subst (λ ws. IsTold ws false (Some v)) (sym is) (told_apart c v text)
spelled_is_taken c words false (Some v) text (inr is) =
    subst (λ ws. IsTold ws false (Some v)) (sym is) (told_words c (crew_joined v ∷ []) false (Some v) (record { fault = refl; found = refl }) refl refl)
spelled_is_taken c words true (Some v) text (inl is) = subst (λ ws. IsTold ws true (Some v)) (sym is) (told_journal_apart c v text)
spelled_is_taken c words true (Some v) text (inr (inl is)) =
    subst (λ ws. IsTold ws true (Some v)) (sym is) (told_words c (journal_flag ∷ crew_joined v ∷ []) true (Some v) (record { fault = refl; found = refl }) refl refl)
spelled_is_taken c words true (Some v) text (inr (inr (inl is))) = subst (λ ws. IsTold ws true (Some v)) (sym is) (told_apart_journal c v text)
spelled_is_taken c words true (Some v) text (inr (inr (inr is))) =
    subst (λ ws. IsTold ws true (Some v)) (sym is) (told_words c (crew_joined v ∷ journal_flag ∷ []) true (Some v) (record { fault = refl; found = refl }) refl refl)

-- the command is one of which clap's contracts say just what it takes
pub is_exact : (is_simple flags_app ≡ true) × (is_simple_and_free flags_app ≡ true)
is_exact = (refl, refl)
