-- Where a run leads, for a run that is the same, and at each loop of the language.
use Rattle.std.proofs.Common.{◌≡◌, ℕ, zero, suc, Bool, true, List, [], ◌∷◌, ◌++◌, length, drop, Option, None, Some, Result, Ok, Err, IfOk, MatchOption, sym, ◌∙◌, ap, refl, subst, length-append, drop-cons, arith}
use Rattle.std.proofs.lemmas.Option.{slice_get_within, get_or_from_slice_get}
use Rattle.std.specs.Prelude.{slice_get, if◌then◌else◌}
use Rattle.std.specs.Global.{Global}
use Rattle.std.specs.declared.sync.Arc.{Arc}
use Rattle.tl_types.specs.declared.no_memory.NoMemory.{NoMemory}
use Rattle.tl_eval.specs.declared.fault.Fault.{Fault}
use Rattle.tl_eval.specs.declared.frame.Frame.{Frame}
use Rattle.tl_eval.specs.declared.frame.Frame.TheVariants as frame
use Rattle.tl_eval.specs.declared.next.Next.{Next}
use Rattle.tl_eval.specs.declared.next.Next.TheVariants as next
use Rattle.tl_eval.specs.declared.node.Node.{Node}
use Rattle.tl_eval.specs.declared.node.Node.TheVariants as node
use Rattle.tl_eval.specs.declared.value.Value as held
use Rattle.tl_eval.specs.declared.value.Value.TheVariants as held_value
use Rattle.tl_eval.specs.declared.stop.Stop.{Stop}
use Rattle.tl_eval.specs.declared.walk.Walk.{Walk}
use Rattle.tl_eval.specs.Held.{meant, answered, zero_test}
use Rattle.tl_eval.specs.Nodes.{gives}
use Rattle.tl_eval.specs.Stops.{StopsAt}
use Rattle.tl_eval.specs.Walks.{later, Begins, GoesOn}
use Rattle.tl_eval.specs.Frames.{Leads, names_of, resume, next_ending, goes_on, listed, kept_after, at_item, at_fold_item}
use Rattle.tl_eval.proofs.Runs.{listed-more, listed-none, kept_after-none, and_then-give}
use Rattle.tl_eval.proofs.NodeLaws.{at-Each, at-Keep, at-Fold, gives-none}
use Rattle.tl_lang.specs.Value.{no_fuel, Value, Answer, text, number, list, is_list, list_within}
use Rattle.tl_lang.specs.Numbers.{is_zero}
use Rattle.tl_lang.specs.Fuel.{Ending, fault, Run, enter, give, answer, ◌>>=◌}
use Rattle.tl_lang.specs.Names.{Names}
use Rattle.tl_lang.specs.Meaning.{Meaning, with_text, with_number, with_list, each_from, kept, folded}

abbrev Outcome : Type 0
Outcome = Result Next NoMemory

abbrev pub OkLeads : Outcome → List Frame → List Frame → Run Value → Type 0
OkLeads r old new run = IfOk r (λ next. Leads next old new run)

pub leads_along : (r : Outcome) (old new : List Frame) (run other : Run Value) → run ≡ other → OkLeads r old new run → OkLeads r old new other
leads_along r old new run other e h = subst (OkLeads r old new) e h

pub settles : (next : Next) (stack : List Frame) (held_answer : Result held.Value Fault) (a : Answer) (run : Run Value) → ((s : List Frame) → Leads next s s (answer (answered held_answer))) → answered held_answer ≡ a → answer a ≡ run → Leads next stack stack run
settles next stack held_answer a run h is same = subst (Leads next stack stack) (ap answer is ∙ same) (h stack)

abbrev Part : Type 0
Part = Arc Node Global

pub drop-got : {A : Type 0} (xs : List A) (n : ℕ) (x : A) → Some x ≡ slice_get xs n → drop n xs ≡ x ∷ drop (suc n) xs
drop-got xs n x e =
    drop-cons xs n x (slice_get_within xs n x (sym e))
    ∙ ap (λ y. y ∷ drop (suc n) xs) (get_or_from_slice_get xs n x x (sym e))

pub drop-missed : {A : Type 0} (xs : List A) (n : ℕ) → None ≡ slice_get xs n → drop n xs ≡ []
drop-missed [] zero e = refl
drop-missed [] (suc n) e = refl
drop-missed (x ∷ xs) zero e = cc
drop-missed (x ∷ xs) (suc n) e = drop-missed xs n e

one_longer : (texts texts' : List (List ℕ)) (t : List ℕ) (n : ℕ) → texts' ≡ texts ++ t ∷ [] → n ≡ length texts' → n ≡ suc (length texts)
one_longer texts texts' t n added long = long ∙ ap length added ∙ length-append texts (t ∷ []) ∙ omega arith

-- a list goes on with its next part
listing_more : (names : Names Value) (so_far : List (List ℕ)) (parts : List Part) (n : ℕ) (clone : Arc (List Part) Global) (texts : List (List ℕ)) (part : Part) → texts ≡ so_far → clone.value ≡ parts → length so_far ≡ n → Some part ≡ slice_get parts n → (gives part.value names >>= goes_on (frame.List clone texts) names) ≡ listed names so_far (drop n parts)
listing_more names so_far parts n clone texts part same all long got =
    (λ i. gives part.value names >>= (λ v. with_text v (λ s. listed names (same i ++ s ∷ []) (drop (suc (length (same i))) (all i)))))
    ∙ (λ i. gives part.value names >>= (λ v. with_text v (λ s. listed names (so_far ++ s ∷ []) (drop (suc (long i)) parts))))
    ∙ listed-more names so_far part (drop (suc n) parts)
    ∙ ap (listed names so_far) (sym (drop-got parts n part got))

listing_none : (names : Names Value) (so_far : List (List ℕ)) (parts : List Part) (n : ℕ) → None ≡ slice_get parts n → answer (list_within so_far) ≡ listed names so_far (drop n parts)
listing_none names so_far parts n missed = listed-none names so_far ∙ ap (listed names so_far) (sym (drop-missed parts n missed))

-- ---- list

pub list_begins : (r : Outcome) (old new : List Frame) (names : Names Value) (parts clone : Arc (List Part) Global) (shared : List Part) (texts : List (List ℕ)) (part : Part) → texts ≡ [] → shared ≡ parts.value → clone.value ≡ parts.value → Some part ≡ slice_get shared 0 → OkLeads r old new (gives part.value names >>= goes_on (frame.List clone texts) names) → OkLeads r old new (listed names [] parts.value)
list_begins r old new names parts clone shared texts part none same all got h =
    leads_along r old new _ _ (listing_more names [] parts.value 0 clone texts part none all refl (got ∙ ap (λ xs. slice_get xs 0) same)) h

pub list_is_empty : (names : Names Value) (parts : Arc (List Part) Global) (shared : List Part) (texts : List (List ℕ)) → texts ≡ [] → shared ≡ parts.value → None ≡ slice_get shared 0 → answer (list_within texts) ≡ listed names [] parts.value
list_is_empty names parts shared texts none same missed =
    ap (λ ts. answer (list_within ts)) none ∙ listing_none names [] parts.value 0 (missed ∙ ap (λ xs. slice_get xs 0) same)

pub list_goes_on : (r : Outcome) (old new : List Frame) (names : Names Value) (parts clone : Arc (List Part) Global) (shared : List Part) (texts texts' : List (List ℕ)) (t : List ℕ) (part : Part) (n : ℕ) (value : held.Value) → value ≡ held_value.Text t → texts' ≡ texts ++ t ∷ [] → n ≡ length texts' → shared ≡ parts.value → clone.value ≡ parts.value → Some part ≡ slice_get shared n → OkLeads r old new (gives part.value names >>= goes_on (frame.List clone texts') names) → OkLeads r old new (goes_on (frame.List parts texts) names (meant value))
list_goes_on r old new names parts clone shared texts texts' t part n value is added long same all got h =
    leads_along r old new _ _
    (listing_more names texts' parts.value n clone texts' part refl all (sym long) (got ∙ ap (λ xs. slice_get xs n) same)
    ∙ (λ i. listed names (added i) (drop (one_longer texts texts' t n added long i) parts.value))
    ∙ (λ i. goes_on (frame.List parts texts) names (meant (sym is i)))) h

pub list_ends : (names : Names Value) (parts : Arc (List Part) Global) (shared : List Part) (texts texts' : List (List ℕ)) (t : List ℕ) (n : ℕ) (value : held.Value) → value ≡ held_value.Text t → texts' ≡ texts ++ t ∷ [] → n ≡ length texts' → shared ≡ parts.value → None ≡ slice_get shared n → answer (list_within texts') ≡ goes_on (frame.List parts texts) names (meant value)
list_ends names parts shared texts texts' t n value is added long same missed =
    listing_none names texts' parts.value n (missed ∙ ap (λ xs. slice_get xs n) same)
    ∙ (λ i. listed names (added i) (drop (one_longer texts texts' t n added long i) parts.value))
    ∙ (λ i. goes_on (frame.List parts texts) names (meant (sym is i)))

-- ---- each

pub each_begins : (r : Outcome) (old new : List Frame) (names : Names Value) (name : List ℕ) (body : Part) (items : List (List ℕ)) (walk : Option Walk) (results : List (List ℕ)) (value : held.Value) → value ≡ held_value.List items → results ≡ [] → Begins name body items walk → IfOk r (λ next. MatchOption walk (Leads next old new (give (list results))) (λ w. Leads next old new (each_from (at_item w names) (list results) (w.item ∷ later w)))) → OkLeads r old new (goes_on (frame.Each name body) names (meant value))
each_begins r old new names name body items None results value is none begins h =
    leads_along r old new _ _ ((λ i. give (list (none i))) ∙ (λ i. each_from (λ item. gives body.value ((name, text item) ∷ names)) (list []) (sym begins i)) ∙ (λ i. goes_on (frame.Each name body) names (meant (sym is i)))) h
each_begins r old new names name body items (Some w) results value is none begins h =
    leads_along r old new _ _
    ((λ i. each_from (λ item. gives (begins.1 i).value ((begins.0 i, text item) ∷ names)) (list (none i)) (sym begins.2 i))
    ∙ (λ i. goes_on (frame.Each name body) names (meant (sym is i)))) h

pub each_goes_on : (r : Outcome) (old new : List Frame) (names : Names Value) (walk : Walk) (walk' : Option Walk) (results results' : List (List ℕ)) (value : held.Value) (t : List ℕ) → value ≡ held_value.Text t → is_list (results ++ t ∷ []) ≡ true → results' ≡ results ++ t ∷ [] → GoesOn walk walk' → IfOk r (λ next. MatchOption walk' (Leads next old new (give (list results'))) (λ w. Leads next old new (each_from (at_item w names) (list results') (w.item ∷ later w)))) → OkLeads r old new (goes_on (frame.EachItem walk results) names (meant value))
each_goes_on r old new names walk None results results' value t is fits added on h =
    leads_along r old new _ _
    ((λ i. give (list (added i))) ∙ (λ i. each_from (at_item walk names) (list (results ++ t ∷ [])) (sym on i))
    ∙ (λ i. answer (if sym fits i then Ok (list (results ++ t ∷ [])) else Err 2) >>= (λ more. each_from (at_item walk names) more (later walk)))
    ∙ (λ i. goes_on (frame.EachItem walk results) names (meant (sym is i)))) h
each_goes_on r old new names walk (Some w) results results' value t is fits added on h =
    leads_along r old new _ _
    ((λ i. each_from (λ item. gives (on.1 i).value ((on.0 i, text item) ∷ names)) (list (added i)) (sym on.2 i))
    ∙ (λ i. answer (if sym fits i then Ok (list (results ++ t ∷ [])) else Err 2) >>= (λ more. each_from (at_item walk names) more (later walk)))
    ∙ (λ i. goes_on (frame.EachItem walk results) names (meant (sym is i)))) h

-- ---- keep

pub keep_begins : (r : Outcome) (old new : List Frame) (names : Names Value) (name : List ℕ) (body : Part) (items : List (List ℕ)) (walk : Option Walk) (texts : List (List ℕ)) (value : held.Value) → value ≡ held_value.List items → texts ≡ [] → Begins name body items walk → IfOk r (λ next. MatchOption walk (Leads next old new (give (list texts))) (λ w. Leads next old new (kept_after texts (at_item w names) (w.item ∷ later w)))) → OkLeads r old new (goes_on (frame.Keep name body) names (meant value))
keep_begins r old new names name body items None texts value is none begins h =
    leads_along r old new _ _
    ((λ i. give (list (none i))) ∙ (λ i. kept_after [] (λ item. gives body.value ((name, text item) ∷ names)) (sym begins i))
    ∙ (λ i. goes_on (frame.Keep name body) names (meant (sym is i)))) h
keep_begins r old new names name body items (Some w) texts value is none begins h =
    leads_along r old new _ _
    ((λ i. kept_after (none i) (λ item. gives (begins.1 i).value ((begins.0 i, text item) ∷ names)) (sym begins.2 i))
    ∙ (λ i. goes_on (frame.Keep name body) names (meant (sym is i)))) h

number_test : (v : Value) (drops : Bool) (run : Bool → Run Value) → Some drops ≡ zero_test v → run drops ≡ with_number v (λ n. run (is_zero n))
number_test (text s) drops run e = cc
number_test (number n) drops run e = let same : drops ≡ is_zero n = cc in ap run same
number_test (list ts) drops run e = cc

pub keep_goes_on : (r : Outcome) (old new : List Frame) (names : Names Value) (walk : Walk) (walk' : Option Walk) (texts texts' : List (List ℕ)) (v : Value) (drops : Bool) → Some drops ≡ zero_test v → texts' ≡ (if drops then texts else texts ++ walk.item ∷ []) → GoesOn walk walk' → IfOk r (λ next. MatchOption walk' (Leads next old new (give (list texts'))) (λ w. Leads next old new (kept_after texts' (at_item w names) (w.item ∷ later w)))) → OkLeads r old new (goes_on (frame.KeepItem walk texts) names v)
keep_goes_on r old new names walk None texts texts' v drops is added on h =
    leads_along r old new _ _
    (kept_after-none texts' (at_item walk names) ∙ (λ i. kept_after (added i) (at_item walk names) (sym on i))
    ∙ number_test v drops (λ b. kept_after (if b then texts else texts ++ walk.item ∷ []) (at_item walk names) (later walk)) is) h
keep_goes_on r old new names walk (Some w) texts texts' v drops is added on h =
    leads_along r old new _ _
    ((λ i. kept_after (added i) (λ item. gives (on.1 i).value ((on.0 i, text item) ∷ names)) (sym on.2 i))
    ∙ number_test v drops (λ b. kept_after (if b then texts else texts ++ walk.item ∷ []) (at_item walk names) (later walk)) is) h

-- ---- fold

pub fold_begins : (r : Outcome) (old new : List Frame) (names : Names Value) (state name : List ℕ) (body : Part) (items : List (List ℕ)) (walk : Option Walk) (start : Value) (value : held.Value) → value ≡ held_value.List items → Begins name body items walk → IfOk r (λ next. MatchOption walk (Leads next old new (give start)) (λ w. Leads next old new (folded (at_fold_item state w names) start (w.item ∷ later w)))) → OkLeads r old new (goes_on (frame.FoldStart state name value body) names start)
fold_begins r old new names state name body items None start value is begins h =
    leads_along r old new _ _
    ((λ i. folded (λ so_far item. gives body.value ((name, text item) ∷ (state, so_far) ∷ names)) start (sym begins i))
    ∙ (λ i. goes_on (frame.FoldStart state name (sym is i) body) names start)) h
fold_begins r old new names state name body items (Some w) start value is begins h =
    leads_along r old new _ _
    ((λ i. folded (λ so_far item. gives (begins.1 i).value ((begins.0 i, text item) ∷ (state, so_far) ∷ names)) start (sym begins.2 i))
    ∙ (λ i. goes_on (frame.FoldStart state name (sym is i) body) names start)) h

pub fold_goes_on : (r : Outcome) (old new : List Frame) (names : Names Value) (state : List ℕ) (walk : Walk) (walk' : Option Walk) (v : Value) → GoesOn walk walk' → IfOk r (λ next. MatchOption walk' (Leads next old new (give v)) (λ w. Leads next old new (folded (at_fold_item state w names) v (w.item ∷ later w)))) → OkLeads r old new (folded (at_fold_item state walk names) v (later walk))
fold_goes_on r old new names state walk None v on h =
    leads_along r old new _ _ (λ i. folded (at_fold_item state walk names) v (sym on i)) h
fold_goes_on r old new names state walk (Some w) v on h =
    leads_along r old new _ _ (λ i. folded (λ so_far item. gives (on.1 i).value ((on.0 i, text item) ∷ (state, so_far) ∷ names)) v (sym on.2 i)) h

-- ---- frames

pub frame_settles : (next : Next) (stack : List Frame) (held_answer : Result held.Value Fault) (a : Answer) (names : Names Value) (v : Value) (f g : Frame) → f ≡ g → ((s : List Frame) → Leads next s s (answer (answered held_answer))) → answered held_answer ≡ a → answer a ≡ goes_on g names v → Leads next stack stack (goes_on f names v)
frame_settles next stack held_answer a names v f g same h is run = settles next stack held_answer a (goes_on f names v) h is (run ∙ (λ i. goes_on (sym same i) names v))

pub frame_leads : (r : Outcome) (old new : List Frame) (names : Names Value) (v : Value) (f g : Frame) → f ≡ g → OkLeads r old new (goes_on g names v) → OkLeads r old new (goes_on f names v)
frame_leads r old new names v f g same h = leads_along r old new (goes_on g names v) (goes_on f names v) (λ i. goes_on (sym same i) names v) h

pub let_leads : (r : Outcome) (old new : List Frame) (names : Names Value) (v : Value) (f : Frame) (x : List ℕ) (body : Part) → f ≡ frame.Let x body → OkLeads r old new (gives body.value ((x, v) ∷ names) >>= give) → OkLeads r old new (goes_on f names v)
let_leads r old new names v f x body same h =
    leads_along r old new (gives body.value ((x, v) ∷ names) >>= give) (goes_on f names v)
    ((λ i left. and_then-give (gives body.value ((x, v) ∷ names) left) i) ∙ (λ i. goes_on (sym same i) names v)) h

-- ---- nodes

pub node_leads : (r : Outcome) (old new : List Frame) (names : Names Value) (node other : Node) (m : Meaning) → node ≡ other → gives other ≡ (λ names. enter (m names)) → OkLeads r old new (m names) → OkLeads r old new (λ left. gives node names (suc left))
node_leads r old new names node other m same is h =
    leads_along r old new (m names) (λ left. gives node names (suc left))
    ((λ i left. sym is i names (suc left)) ∙ (λ i left. gives (sym same i) names (suc left))) h

pub at-Each-clone : (x y : List ℕ) (m a clone : Part) → y ≡ x → clone.value ≡ a.value → gives (node.Each x m a) ≡ (λ names. enter (gives m.value names >>= goes_on (frame.Each y clone) names))
at-Each-clone x y m a clone name_same same = at-Each x m a ∙ (λ i names. enter (gives m.value names >>= (λ v. with_list v (each_from (λ item. gives (sym same i) ((sym name_same i, text item) ∷ names)) (list [])))))

pub at-Keep-clone : (x y : List ℕ) (m a clone : Part) → y ≡ x → clone.value ≡ a.value → gives (node.Keep x m a) ≡ (λ names. enter (gives m.value names >>= goes_on (frame.Keep y clone) names))
at-Keep-clone x y m a clone name_same same =
    at-Keep x m a
    ∙ (λ i names. enter (gives m.value names >>= (λ v. with_list v (kept (λ item. gives (sym same i) ((sym name_same i, text item) ∷ names))) >>= (λ ts. give (list ts)))))

pub at-Fold-clone : (s z x y : List ℕ) (m i a start clone : Part) → z ≡ s → y ≡ x → start.value ≡ i.value → clone.value ≡ a.value → gives (node.Fold s x m i a) ≡ (λ names. enter (gives m.value names >>= goes_on (frame.Fold z y start clone) names))
at-Fold-clone s z x y m i a start clone state_same name_same start_same same =
    at-Fold s x m i a
    ∙ (λ k names. enter (gives m.value names >>= (λ v. gives (sym start_same k) names >>= (λ begin. with_list v (folded (λ so_far item. gives (sym same k) ((sym name_same k, text item) ∷ (sym state_same k, so_far) ∷ names)) begin)))))

-- ---- endings

pub resume-fault : (stack : List Frame) (k left : ℕ) → resume stack (fault k left) ≡ fault k left
resume-fault [] k left = refl
resume-fault (f ∷ fs) k left = resume-fault fs k left

pub leads_ending : (to : Next) (old new : List Frame) (run : Run Value) → Leads to old new run → (left : ℕ) → next_ending to new left ≡ resume old (run left)
leads_ending (next.Enter n) old new run h left = h left
leads_ending (next.Give v) old new run h left = (λ i. resume (h.0 i) (h.1 left i))
leads_ending (next.Stop f) old new run h left = sym (resume-fault old _ left) ∙ ap (resume old) (h left)

pub ends_short : (to : Next) (stack : List Frame) (n : Part) (left : ℕ) → to ≡ next.Enter n → left ≡ 0 → next_ending to stack left ≡ fault no_fuel 0
ends_short to stack n left is none =
    (λ i. next_ending (is i) stack (none i)) ∙ ap (resume stack) (gives-none n.value (names_of stack)) ∙ resume-fault stack no_fuel 0

pub hands_down : (to : Next) (v : held.Value) (f : Frame) (stack old : List Frame) (left : ℕ) → to ≡ next.Give v → old ≡ f ∷ stack → resume stack (goes_on f (names_of stack) (meant v) left) ≡ next_ending to old left
hands_down to v f stack old left is top = (λ i. next_ending (sym is i) (sym top i) left)

pub stops_along : (r : Result Stop NoMemory) (stack : List Frame) (left : ℕ) (ending other : Ending Value) → ending ≡ other → IfOk r (λ stop. StopsAt stop stack left ending) → IfOk r (λ stop. StopsAt stop stack left other)
stops_along r stack left ending other e h = subst (λ x. IfOk r (λ stop. StopsAt stop stack left x)) e h
