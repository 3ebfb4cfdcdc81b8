-- What the frames of a stack do with the value that they wait for.
use Rattle.std.specs.Prelude.{◌≡◌, ℕ, suc, ℤ, Bool, true, false, if◌then◌else◌, List, [], ◌∷◌, ◌++◌, length, map, drop}
use Rattle.std.specs.Global.{Global}
use Rattle.std.specs.declared.sync.Arc.{Arc}
use Rattle.tl_eval.specs.declared.frame.Frame.{Frame}
use Rattle.tl_eval.specs.declared.frame.Frame.TheVariants as frame
use Rattle.tl_eval.specs.declared.next.Next.{Next}
use Rattle.tl_eval.specs.declared.next.Next.TheVariants as next
use Rattle.tl_eval.specs.declared.node.Node.{Node}
use Rattle.tl_eval.specs.declared.walk.Walk.{Walk}
use Rattle.tl_eval.specs.Held.{meant, code_of}
use Rattle.tl_eval.specs.Ops.{of_one, of_two, of_sub}
use Rattle.tl_eval.specs.Nodes.{gives}
use Rattle.tl_eval.specs.Walks.{later}
use Rattle.tl_lang.specs.Value.{Value, text, list, list_within, on_list_text}
use Rattle.tl_lang.specs.Numbers.{is_zero}
use Rattle.tl_lang.specs.Lists.{append}
use Rattle.tl_lang.specs.Fuel.{Ending, done, fault, Run, give, answer, and_then, ◌>>=◌}
use Rattle.tl_lang.specs.Names.{Names}
use Rattle.tl_lang.specs.Meaning.{with_text, with_number, with_list, all_texts, each_from, kept, folded}

-- the names that the part above the frame sees beside those that the frame sees
abbrev pub binds : Frame → Names Value
binds (frame.LetBody x v) = (x, meant v) ∷ []
binds (frame.EachItem walk so_far) = (walk.name, text walk.item) ∷ []
binds (frame.KeepItem walk so_far) = (walk.name, text walk.item) ∷ []
binds (frame.FoldItem state so_far walk) = (walk.name, text walk.item) ∷ (state, meant so_far) ∷ []
binds _ = []

-- the names that are visible above a stack
abbrev pub names_of : List Frame → Names Value
names_of [] = []
names_of (f ∷ fs) = binds f ++ names_of fs

-- what a body gives for an item
abbrev pub at_item : Walk → Names Value → List ℕ → Run Value
at_item walk names item = gives walk.body.value ((walk.name, text item) ∷ names)

abbrev pub at_fold_item : List ℕ → Walk → Names Value → Value → List ℕ → Run Value
at_fold_item state walk names so_far item = gives walk.body.value ((walk.name, text item) ∷ (state, so_far) ∷ names)

-- the list of these texts and of what the parts give
abbrev pub listed : Names Value → List (List ℕ) → List (Arc Node Global) → Run Value
listed names so_far parts = do
  ts ← all_texts (map (λ a. gives a.value names) parts)
  answer (list_within (so_far ++ ts))

-- the list of these texts and of the items that the body keeps
abbrev pub kept_after : List (List ℕ) → (List ℕ → Run Value) → List (List ℕ) → Run Value
kept_after so_far body items = do
  ts ← kept body items
  give (list (so_far ++ ts))

-- the texts that a body has kept, once it gave a number for an item
abbrev pub with_item : List (List ℕ) → List ℕ → ℤ → List (List ℕ)
with_item so_far item n = if is_zero n then so_far else so_far ++ item ∷ []

-- how a frame goes on with the value that it waits for, from the names that it sees
abbrev pub goes_on : Frame → Names Value → Value → Run Value
goes_on (frame.Unary op) names v = answer (of_one op v)
goes_on (frame.Binary op b) names v = gives b.value names >>= (λ w. answer (of_two op v w))
goes_on (frame.BinaryEnd op v) names w = answer (of_two op (meant v) w)
goes_on (frame.Sub i j) names v = gives i.value names >>= (λ p. gives j.value names >>= (λ q. answer (of_sub v p q)))
goes_on (frame.SubFrom v j) names p = gives j.value names >>= (λ q. answer (of_sub (meant v) p q))
goes_on (frame.SubTo v p) names q = answer (of_sub (meant v) (meant p) q)
goes_on (frame.If a b) names v = with_number v (λ n. if is_zero n then gives b.value names else gives a.value names)
goes_on (frame.Let x b) names v = gives b.value ((x, v) ∷ names)
goes_on (frame.LetBody x v) names w = give w
goes_on (frame.List parts so_far) names v =
    with_text v (λ s. listed names (so_far ++ s ∷ []) (drop (suc (length so_far)) parts.value))
goes_on (frame.Each x a) names v = with_list v (each_from (λ item. gives a.value ((x, text item) ∷ names)) (list []))
goes_on (frame.EachItem walk so_far) names v = do
  more ← answer (on_list_text append (list so_far) v)
  each_from (at_item walk names) more (later walk)
goes_on (frame.Keep x a) names v = do
  ts ← with_list v (kept (λ item. gives a.value ((x, text item) ∷ names)))
  give (list ts)
goes_on (frame.KeepItem walk so_far) names v =
    with_number v (λ n. kept_after (with_item so_far walk.item n) (at_item walk names) (later walk))
goes_on (frame.Fold s x i a) names v = do
  start ← gives i.value names
  with_list v (folded (λ so_far item. gives a.value ((x, text item) ∷ (s, so_far) ∷ names)) start)
goes_on (frame.FoldStart s x v a) names start =
    with_list (meant v) (folded (λ so_far item. gives a.value ((x, text item) ∷ (s, so_far) ∷ names)) start)
goes_on (frame.FoldItem state so_far walk) names v = folded (at_fold_item state walk names) v (later walk)

-- how a whole stack goes on after an ending of what stands above it
abbrev pub resume : List Frame → Ending Value → Ending Value
resume [] x = x
resume (f ∷ fs) x = resume fs (and_then x (goes_on f (names_of fs)))

-- where a run leads that stands above the old stack: to a node above the new one, to a value, or to a fault
abbrev pub Leads : Next → List Frame → List Frame → Run Value → Type 0
Leads (next.Enter node) old new run = (left : ℕ) → resume new (gives node.value (names_of new) left) ≡ resume old (run left)
Leads (next.Give v) old new run = (new ≡ old) × ((left : ℕ) → done (meant v) left ≡ run left)
Leads (next.Stop f) old new run = (left : ℕ) → fault (code_of f) left ≡ run left

-- how the evaluation ends that goes on so above the stack
abbrev pub next_ending : Next → List Frame → ℕ → Ending Value
next_ending (next.Enter node) stack left = resume stack (gives node.value (names_of stack) left)
next_ending (next.Give v) stack left = resume stack (done (meant v) left)
next_ending (next.Stop f) stack left = fault (code_of f) left

abbrev pub is_given : Next → Bool
is_given (next.Enter node) = false
is_given (next.Give v) = true
is_given (next.Stop f) = false
