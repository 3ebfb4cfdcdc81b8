-- Nothing is said and refused, and nothing is said or refused in two ways.
use Rattle.std.proofs.Common.{◌≡◌, ◌⊎◌, ℕ, ◌<◌, ◌^◌, Bool, true, false, List, [], ◌∷◌, length, Option, Some, None, Result, Ok, Err, refl, sym, ◌∙◌, ap, subst, inl, inr}
use Rattle.std.specs.Prelude.{IfOk, IfErr}
use Rattle.tl_lang.specs.Conf.{Pair}
use Rattle.tl_lang.specs.declared.job.JobSpecCore.{JobSpecCore}
use Rattle.tl_model.specs.declared.header.Header.{Header}
use Rattle.tl_model.specs.declared.header.Version.{Version}
use Rattle.tl_model.specs.declared.command.Form.{Form}
use Rattle.tl_model.specs.declared.command.Form.TheVariants as form
use Rattle.tl_script.specs.declared.bad_kind.BadKind.{BadKind}
use Rattle.tl_script.specs.declared.bad_kind.BadKind.TheVariants as bad
use Rattle.tl_script.specs.declared.script.Op.{Op}
use Rattle.tl_script.specs.declared.script.Op.TheVariants.{Put, Job, Read, Delete, Mkdir, Rename, Pin, Unpin, List as ListNames, Stat, Free, Lose, Work}
use Rattle.tl_script.specs.declared.script.ScriptError.{ScriptError}
use Rattle.tl_script.specs.declared.script.ScriptError.TheVariants.{Bad, NoMemory}
use Rattle.tl_script.specs.declared.word.Verb.{Verb}
use Rattle.tl_script.specs.declared.word.Verb.TheVariants as verb_is
use Rattle.tl_script.specs.declared.word.Mark.{Mark}
use Rattle.tl_script.specs.declared.word.Mark.TheVariants as mark_is
use Rattle.tl_script.specs.Tokens.{Token, a_mark, a_program, Stands}
use Rattle.tl_script.specs.Places.{Place, client, command, path_then, number_then, text_then, settings, key, paths_then, program_then, end, next, may_end, RefusedAs, Follows, Refused, missing, wrong, later}
use Rattle.tl_script.specs.Commands.{verb_of_form, verb_of, with_conf, with_paths, IsJob, IsOp, Says, IsRefusedOp, ReadsOp}
use Rattle.tl_script.proofs.OneToken.{one_token}
use Rattle.tl_script.proofs.Sayings.{tokens_of, Stand, Walks, walks_op, said_stand}

-- ---- bytes that are refused

tails : (a b : ℕ) (s t : List ℕ) → a ∷ s ≡ b ∷ t → s ≡ t
tails a b s t e = cc

empty_or_not : (bytes : List ℕ) (b : ℕ) (bs : List ℕ) → bytes ≡ [] → bytes ≡ b ∷ bs → ⊥
empty_or_not bytes b bs e f = let no : b ∷ bs ≡ [] = sym f ∙ e in absurd (cc)

some_or_none : (o : Option Place) (p : Place) → o ≡ None → o ≡ Some p → ⊥
some_or_none o p e f = let no : Some p ≡ None = sym f ∙ e in absurd (cc)

some_same : (o : Option Place) (p q : Place) → o ≡ Some p → o ≡ Some q → p ≡ q
some_same o p q e f = let both : Some p ≡ Some q = sym e ∙ f in cc

-- two tokens that follow are the same
pub one_follows : (bytes : List ℕ) (t u : Token) (rest more : List ℕ) → Follows bytes t rest → Follows bytes u more → (t ≡ u) × (rest ≡ more)
one_follows bytes t u rest more f g =
    let front : g.0 ≡ f.0 = tails 0x20 0x20 g.0 f.0 (sym g.1 ∙ f.1) in
    one_token f.0 t u rest more f.2 (subst (λ (b : List ℕ). Stands b u more) front g.2)

-- what is nothing of the place does not follow
nothing_follows : (place : Place) (bytes front : List ℕ) (t : Token) (rest : List ℕ) (after : Place) → bytes ≡ 0x20 ∷ front → ((token : Token) (rest : List ℕ) → Stands front token rest → next place token ≡ None) → Follows bytes t rest → next place t ≡ Some after → ⊥
nothing_follows place bytes front t rest after e nothing f may =
    let same : f.0 ≡ front = tails 0x20 0x20 f.0 front (sym f.1 ∙ e) in
    some_or_none (next place t) after (nothing t rest (subst (λ (b : List ℕ). Stands b t rest) same f.2)) may

ends_or_not : (b : Bool) → b ≡ true → b ≡ false → ⊥
ends_or_not b e f = cc

-- tokens that may stand after one another up to the end are not refused
pub never : {place : Place} {bytes : List ℕ} {kind : BadKind} → Refused place bytes kind → (tokens : List Token) → Stand bytes tokens → Walks place tokens → ⊥
never {place} {bytes} (missing none unclosed is) [] stand walks = ends_or_not (may_end place) walks unclosed
never {place} {bytes} (missing none unclosed is) (t ∷ ts) stand walks = empty_or_not bytes 0x20 stand.1.0 none stand.1.1
never {place} {bytes} (wrong front e nothing how) [] stand walks = empty_or_not bytes 0x20 front stand e
never {place} {bytes} (wrong front e nothing how) (t ∷ ts) stand walks = nothing_follows place bytes front t stand.0 walks.0 e nothing stand.1 walks.1
never {place} {bytes} (later token rest follows may refused) [] stand walks = empty_or_not bytes 0x20 follows.0 stand follows.1
never {place} {bytes} (later {after = after} token rest follows may refused) (t ∷ ts) stand walks =
    let same = one_follows bytes t token stand.0 rest stand.1 follows in
    let place_same : walks.0 ≡ after = some_same (next place token) walks.0 after (subst (λ (u : Token). next place u ≡ Some walks.0) same.0 walks.1) may in
    never refused ts (subst (λ (r : List ℕ). Stand r ts) same.1 stand.2) (subst (λ (p : Place). Walks p ts) place_same walks.2)

kinds_in_list : (A : Type 0) (k k' : BadKind) → (A × (k ≡ bad.Path)) ⊎ ((¬ A) × (k ≡ bad.Argument)) → (A × (k' ≡ bad.Path)) ⊎ ((¬ A) × (k' ≡ bad.Argument)) → k ≡ k'
kinds_in_list A k k' (inl a) (inl b) = a.1 ∙ sym b.1
kinds_in_list A k k' (inl a) (inr b) = absurd (b.0 a.0)
kinds_in_list A k k' (inr a) (inl b) = absurd (a.0 b.0)
kinds_in_list A k k' (inr a) (inr b) = a.1 ∙ sym b.1

kinds_of_program : (A : Type 0) (k k' : BadKind) → (A × (k ≡ bad.Kinds)) ⊎ ((¬ A) × (k ≡ bad.Program)) → (A × (k' ≡ bad.Kinds)) ⊎ ((¬ A) × (k' ≡ bad.Program)) → k ≡ k'
kinds_of_program A k k' (inl a) (inl b) = a.1 ∙ sym b.1
kinds_of_program A k k' (inl a) (inr b) = absurd (b.0 a.0)
kinds_of_program A k k' (inr a) (inl b) = absurd (a.0 b.0)
kinds_of_program A k k' (inr a) (inr b) = a.1 ∙ sym b.1

kinds_same : (place : Place) (bytes : List ℕ) (k k' : BadKind) → RefusedAs place bytes k → RefusedAs place bytes k' → k ≡ k'
kinds_same (client header) bytes k k' a b = a ∙ sym b
kinds_same (command header) bytes k k' a b = a ∙ sym b
kinds_same (path_then place) bytes k k' a b = a ∙ sym b
kinds_same (number_then low below place) bytes k k' a b = a ∙ sym b
kinds_same (text_then place) bytes k k' a b = a ∙ sym b
kinds_same (settings version keys) bytes k k' a b = a ∙ sym b
kinds_same (key version keys) bytes k k' a b = a ∙ sym b
kinds_same (paths_then limit least count word place) bytes k k' a b = kinds_in_list _ k k' a b
kinds_same (program_then version reads makes) bytes k k' a b = kinds_of_program _ k k' a b
kinds_same end bytes k k' a b = a ∙ sym b

-- nothing is refused as two kinds
pub one_kind_stands : {place : Place} {bytes : List ℕ} {kind : BadKind} → Refused place bytes kind → (other : BadKind) → Refused place bytes other → kind ≡ other
one_kind_stands (missing none unclosed is) other (missing none' unclosed' is') = is ∙ sym is'
one_kind_stands {place} {bytes} (missing none unclosed is) other (wrong front e nothing how) = absurd (empty_or_not bytes 0x20 front none e)
one_kind_stands {place} {bytes} (missing none unclosed is) other (later token rest follows may refused) = absurd (empty_or_not bytes 0x20 follows.0 none follows.1)
one_kind_stands {place} {bytes} (wrong front e nothing how) other (missing none unclosed is) = absurd (empty_or_not bytes 0x20 front none e)
one_kind_stands {place} {bytes} {kind} (wrong front e nothing how) other (wrong front' e' nothing' how') =
    let same : front' ≡ front = tails 0x20 0x20 front' front (sym e' ∙ e) in
    kinds_same place front kind other how (subst (λ (b : List ℕ). RefusedAs place b other) same how')
one_kind_stands {place} {bytes} (wrong front e nothing how) other (later {after = after} token rest follows may refused) = absurd (nothing_follows place bytes front token rest after e nothing follows may)
one_kind_stands {place} {bytes} (later token rest follows may refused) other (missing none unclosed is) = absurd (empty_or_not bytes 0x20 follows.0 none follows.1)
one_kind_stands {place} {bytes} (later {after = after} token rest follows may refused) other (wrong front e nothing how) = absurd (nothing_follows place bytes front token rest after e nothing follows may)
one_kind_stands {place} {bytes} (later {after = after} token rest follows may refused) other (later {after = after'} token' rest' follows' may' refused') =
    let same = one_follows bytes token' token rest' rest follows' follows in
    let place_same : after' ≡ after = some_same (next place token) after' after (subst (λ (u : Token). next place u ≡ Some after') same.0 may') may in
    one_kind_stands refused other (subst (λ (p : Place). Refused p rest other) place_same (subst (λ (r : List ℕ). Refused after' r other) same.1 refused'))

-- ---- bytes are the tokens of one command

pub one_tokens : (bytes : List ℕ) (ts us : List Token) → Stand bytes ts → Stand bytes us → ts ≡ us
one_tokens bytes [] [] g h = refl
one_tokens bytes [] (u ∷ us) g h = absurd (empty_or_not bytes 0x20 h.1.0 g h.1.1)
one_tokens bytes (t ∷ ts) [] g h = absurd (empty_or_not bytes 0x20 g.1.0 h g.1.1)
one_tokens bytes (t ∷ ts) (u ∷ us) g h =
    let same = one_follows bytes t u g.0 h.0 g.1 h.1 in
    let first : t ≡ u = same.0 in
    let others : ts ≡ us = one_tokens h.0 ts us (subst (λ (r : List ℕ). Stand r ts) same.1 g.2) h.2 in
    λ j. first j ∷ others j

same_conf : (ps qs : List Pair) (more other : List Token) → with_conf ps (a_mark mark_is.In ∷ more) ≡ with_conf qs (a_mark mark_is.In ∷ other) → (ps ≡ qs) × (more ≡ other)
same_conf [] [] more other e = (refl, cc)
same_conf [] (q ∷ qs) more other e = absurd (cc)
same_conf (p ∷ ps) [] more other e = absurd (cc)
same_conf (p ∷ ps) (q ∷ qs) more other e =
    let k : p.0 ≡ q.0 = cc in
    let v : p.1 ≡ q.1 = cc in
    let left : with_conf ps (a_mark mark_is.In ∷ more) ≡ with_conf qs (a_mark mark_is.In ∷ other) = cc in
    let rest = same_conf ps qs more other left in
    (λ j. (k j, v j) ∷ rest.0 j, rest.1)

same_paths : (m : Mark) (ps qs : List (List (List ℕ))) (more other : List Token) → with_paths ps (a_mark m ∷ more) ≡ with_paths qs (a_mark m ∷ other) → (ps ≡ qs) × (more ≡ other)
same_paths m [] [] more other e = (refl, cc)
same_paths m [] (q ∷ qs) more other e = absurd (cc)
same_paths m (p ∷ ps) [] more other e = absurd (cc)
same_paths m (p ∷ ps) (q ∷ qs) more other e =
    let first : p ≡ q = cc in
    let left : with_paths ps (a_mark m ∷ more) ≡ with_paths qs (a_mark m ∷ other) = cc in
    let rest = same_paths m ps qs more other left in
    (λ j. first j ∷ rest.0 j, rest.1)

same_job : (version : Version) (core other : JobSpecCore) (prio prio' : ℕ) (ins ins' outs outs' : List (List (List ℕ))) → IsJob version core prio ins outs → IsJob version other prio' ins' outs'
    → tokens_of (Job core prio ins outs) ≡ tokens_of (Job other prio' ins' outs') → Job core prio ins outs ≡ Job other prio' ins' outs'
same_job version core other prio prio' ins ins' outs outs' h k e =
    let prio_is : prio ≡ prio' = cc in
    let fuel_is : core.fuel ≡ other.fuel = cc in
    let after_fuel : with_conf core.conf (a_mark mark_is.In ∷ with_paths ins (a_mark mark_is.Out ∷ with_paths outs (a_mark mark_is.Run ∷ a_program core.program.program ∷ [])))
    ≡ with_conf other.conf (a_mark mark_is.In ∷ with_paths ins' (a_mark mark_is.Out ∷ with_paths outs' (a_mark mark_is.Run ∷ a_program other.program.program ∷ []))) = cc in
    let conf = same_conf core.conf other.conf (with_paths ins (a_mark mark_is.Out ∷ with_paths outs (a_mark mark_is.Run ∷ a_program core.program.program ∷ []))) (with_paths ins' (a_mark mark_is.Out ∷ with_paths outs' (a_mark mark_is.Run ∷ a_program other.program.program ∷ []))) after_fuel in
    let reads = same_paths mark_is.Out ins ins' (with_paths outs (a_mark mark_is.Run ∷ a_program core.program.program ∷ [])) (with_paths outs' (a_mark mark_is.Run ∷ a_program other.program.program ∷ [])) conf.1 in
    let makes = same_paths mark_is.Run outs outs' (a_program core.program.program ∷ []) (a_program other.program.program ∷ []) reads.1 in
    let last : ◌≡◌ {A = List Token} (a_program core.program.program ∷ []) (a_program other.program.program ∷ []) = makes.1 in
    let program : core.program.program ≡ other.program.program = cc in
    let ins_count = h.for_inputs ∙ ap length reads.0 ∙ sym k.for_inputs in
    let outs_count = h.for_outputs ∙ ap length makes.0 ∙ sym k.for_outputs in
    λ j. Job (record { program = record { program = program j; inputs = ins_count j; outputs = outs_count j }; conf = conf.0 j; fuel = fuel_is j }) (prio_is j) (reads.0 j) (makes.0 j)

same_form : (f g : Form) → verb_of_form f ≡ verb_of_form g → f ≡ g
same_form form.Cat form.Cat e = refl
same_form form.Sum form.Sum e = refl
same_form form.Try form.Try e = refl
same_form f g e = absurd (cc)

-- the word, with one for all reads
shape : Op → Verb
shape (Read at prio f) = verb_is.Cat
shape op = verb_of op

reads_as_one : Verb → Verb
reads_as_one verb_is.Sum = verb_is.Cat
reads_as_one verb_is.Try = verb_is.Cat
reads_as_one v = v

form_shape : (f : Form) → verb_is.Cat ≡ reads_as_one (verb_of_form f)
unfolding reads_as_one
form_shape form.Cat = refl
form_shape form.Sum = refl
form_shape form.Try = refl

shape_of : (op : Op) → shape op ≡ reads_as_one (verb_of op)
unfolding shape reads_as_one
shape_of (Read at prio f) = form_shape f
shape_of op = refl

same_shape : (op other : Op) → tokens_of op ≡ tokens_of other → shape op ≡ shape other
same_shape op other e = let word : verb_of op ≡ verb_of other = cc in shape_of op ∙ ap reads_as_one word ∙ sym (shape_of other)

pub same_op : (header : Header) (op other : Op) → IsOp header op → IsOp header other → tokens_of op ≡ tokens_of other → op ≡ other
unfolding shape
same_op header (Put at s) (Put at' s') h k e = let a : at ≡ at' = cc in let b : s ≡ s' = cc in λ j. Put (a j) (b j)
same_op header (Job core prio ins outs) (Job other prio' ins' outs') h k e = same_job header.version core other prio prio' ins ins' outs outs' h k e
same_op header (Read at prio f) (Read at' prio' f') h k e =
    let a : at ≡ at' = cc in
    let p : prio ≡ prio' = cc in
    let word : verb_of_form f ≡ verb_of_form f' = cc in
    let g = same_form f f' word in
    λ j. Read (a j) (p j) (g j)
same_op header (Delete at) (Delete at') h k e = let a : at ≡ at' = cc in ap Delete a
same_op header (Mkdir at) (Mkdir at') h k e = let a : at ≡ at' = cc in ap Mkdir a
same_op header (Rename from to) (Rename from' to') h k e = let a : from ≡ from' = cc in let b : to ≡ to' = cc in λ j. Rename (a j) (b j)
same_op header (Pin at) (Pin at') h k e = let a : at ≡ at' = cc in ap Pin a
same_op header (Unpin at) (Unpin at') h k e = let a : at ≡ at' = cc in ap Unpin a
same_op header (ListNames at) (ListNames at') h k e = let a : at ≡ at' = cc in ap ListNames a
same_op header (Stat at) (Stat at') h k e = let a : at ≡ at' = cc in ap Stat a
same_op header (Free at) (Free at') h k e = let a : at ≡ at' = cc in ap Free a
same_op header (Lose w) (Lose w') h k e = let a : w.0 ≡ w'.0 = cc in λ j. Lose (record { 0 = a j })
same_op header (Work w n) (Work w' n') h k e = let a : w.0 ≡ w'.0 = cc in let b : n ≡ n' = cc in λ j. Work (record { 0 = a j }) (b j)
same_op header op other h k e = let apart = same_shape op other e in absurd (cc)

-- no bytes say two commands
pub same_command : (header : Header) (bytes : List ℕ) (op other : Op) → header.workers < 2 ^ 8 → Says header bytes op → Says header bytes other → op ≡ other
same_command header bytes op other w h k =
    same_op header op other h.command k.command (one_tokens (0x20 ∷ bytes) (tokens_of op) (tokens_of other) (said_stand header bytes op w h) (said_stand header bytes other w k))

-- no command is refused
pub never_said : (header : Header) (bytes : List ℕ) (kind : BadKind) (op : Op) → header.workers < 2 ^ 8 → Refused (command header) (0x20 ∷ bytes) kind → Says header bytes op → ⊥
never_said header bytes kind op w refused h = never refused (tokens_of op) (said_stand header bytes op w h) (walks_op header op h.command)

-- the one command is read
pub reads_op : (header : Header) (bytes : List ℕ) → header.workers < 2 ^ 8 → (r : Result Op ScriptError) → IfOk r (Says header bytes) → IfErr r (IsRefusedOp header bytes) → (op : Op) → Says header bytes op → ReadsOp r op
reads_op header bytes w (Ok found) read refused op h = same_command header bytes found op w read h
reads_op header bytes w (Err (Bad line how)) read refused op h = never_said header bytes how op w refused.1 h
reads_op header bytes w (Err NoMemory) read refused op h = tt
