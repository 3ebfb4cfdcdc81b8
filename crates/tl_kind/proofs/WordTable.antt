-- The table of the words has each word once.
use Rattle.std.proofs.Common.{◌≡◌, ◌≢◌, ℕ, Bool, true, bytes_eq, List, [], ◌∷◌, codes, Option, Some, None, IfSome, IfNone, refl, sym, ◌∙◌, ap}
use Rattle.std.proofs.lemmas.Bool.{and_parts, cond_both}
use Rattle.std.specs.List.{list_all}
use Rattle.std.proofs.lemmas.Slice.Eq.{bytes_eq-Decides}
use Rattle.tl_kind.specs.declared.word.Word.{Word}
use Rattle.tl_kind.specs.declared.word.Word.TheVariants as word
use Rattle.tl_kind.specs.declared.word.One.TheVariants as one
use Rattle.tl_kind.specs.declared.word.Two.TheVariants as two
use Rattle.tl_kind.specs.declared.word.Three.TheVariants as three
use Rattle.tl_kind.specs.declared.word.Binding.TheVariants as binding
use Rattle.tl_kind.specs.Words.{word_text, found_in}

abbrev pub table : List (List ℕ × Word)
table = (codes "in", word.Input) ∷ (codes "conf", word.Key) ∷ (codes "cat", word.Two two.Cat) ∷ (codes "len", word.One one.Len) ∷ (codes "sub", word.Three three.Sub) ∷ (codes "eq", word.Two two.Eq) ∷ (codes "has", word.Two two.Has) ∷ (codes "num", word.One one.Num) ∷ (codes "str", word.One one.Str) ∷ (codes "add", word.Two two.Add) ∷ (codes "minus", word.Two two.Minus) ∷ (codes "mul", word.Two two.Mul) ∷ (codes "div", word.Two two.Div) ∷ (codes "mod", word.Two two.Mod) ∷ (codes "lt", word.Two two.Lt) ∷ (codes "same", word.Two two.Same) ∷ (codes "if", word.Three three.If) ∷ (codes "let", word.Binding binding.Let) ∷ (codes "lines", word.One one.Lines) ∷ (codes "split", word.Two two.Split) ∷ (codes "join", word.Two two.Join) ∷ (codes "list", word.List) ∷ (codes "append", word.Two two.Append) ∷ (codes "at", word.Two two.At) ∷ (codes "count", word.One one.Count) ∷ (codes "sort", word.One one.Sort) ∷ (codes "each", word.Binding binding.Each) ∷ (codes "keep", word.Binding binding.Keep) ∷ (codes "fold", word.Fold) ∷ []

abbrev is_right : List ℕ × Word → Bool
is_right entry = bytes_eq entry.0 (word_text entry.1)

same_bytes : (s t : List ℕ) → bytes_eq s t ≡ true → s ≡ t
same_bytes s t e = (bytes_eq-Decides s t).0 e

found_right : (entries : List (List ℕ × Word)) → list_all is_right entries ≡ true → (letters : List ℕ) → IfSome (found_in entries letters) (λ w. letters ≡ word_text w)
found_right [] all letters = tt
found_right (entry ∷ entries) all letters =
    let both = and_parts (is_right entry) (list_all is_right entries) all in
    cond_both (bytes_eq entry.0 letters) (Some entry.1) (found_in entries letters) (λ o. IfSome o (λ w. letters ≡ word_text w))
    (λ here. sym (same_bytes entry.0 letters here) ∙ same_bytes entry.0 (word_text entry.1) both.0)
    (λ elsewhere. found_right entries both.1 letters)

pub found_in_table : (letters : List ℕ) → IfSome (found_in table letters) (λ w. letters ≡ word_text w)
found_in_table = found_right table refl

differ : (w : Word) → ◌≡◌ {A = Option Word} None (Some w) → ⊥
differ w e = cc

pub every_word : (w : Word) → found_in table (word_text w) ≡ Some w
every_word word.Input = refl
every_word word.Key = refl
every_word (word.Two two.Cat) = refl
every_word (word.One one.Len) = refl
every_word (word.Three three.Sub) = refl
every_word (word.Two two.Eq) = refl
every_word (word.Two two.Has) = refl
every_word (word.One one.Num) = refl
every_word (word.One one.Str) = refl
every_word (word.Two two.Add) = refl
every_word (word.Two two.Minus) = refl
every_word (word.Two two.Mul) = refl
every_word (word.Two two.Div) = refl
every_word (word.Two two.Mod) = refl
every_word (word.Two two.Lt) = refl
every_word (word.Two two.Same) = refl
every_word (word.Three three.If) = refl
every_word (word.Binding binding.Let) = refl
every_word (word.One one.Lines) = refl
every_word (word.Two two.Split) = refl
every_word (word.Two two.Join) = refl
every_word word.List = refl
every_word (word.Two two.Append) = refl
every_word (word.Two two.At) = refl
every_word (word.One one.Count) = refl
every_word (word.One one.Sort) = refl
every_word (word.Binding binding.Each) = refl
every_word (word.Binding binding.Keep) = refl
every_word word.Fold = refl

none_at : (letters : List ℕ) (o : Option Word) → found_in table letters ≡ o → IfNone o ((w : Word) → letters ≢ word_text w)
none_at letters (Some v) is = tt
none_at letters None is = λ w e. let there : found_in table letters ≡ Some w = ap (found_in table) e ∙ every_word w in absurd (differ w (sym is ∙ there))

pub none_in_table : (letters : List ℕ) → IfNone (found_in table letters) ((w : Word) → letters ≢ word_text w)
none_in_table letters = none_at letters (found_in table letters) refl
