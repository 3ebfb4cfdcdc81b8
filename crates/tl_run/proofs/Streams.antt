use Rattle.std.proofs.Common.{◌≡◌, ℕ, ◌<◌, List, ◌++◌, length, take, Option, Some, None, refl, sym, ◌∙◌, ap, arith, append-nil, length-append, append_assoc, take-append-drop, drop, subst, Result, Ok, Err}
use Rattle.std.specs.Prelude.{IfSome, OnErr}
use Rattle.std.specs.Io.KnownBytes.{Consumes, Appends, Keeps}
use Rattle.std.proofs.KnownBytes.{Appends-trans}
use Rattle.std.proofs.lemmas.List.{take_at}
use Rattle.tl_io.specs.Source.{Gives}
use Rattle.tl_io.specs.Sink.{Takes}
use Rattle.tl_run.specs.Streams.{NoneLeft, HasMore, WritesUpTo, WritesFront}

-- where a read gave nothing, nothing was left
pub none_left : (left left' : Option (List ℕ)) (n : ℕ) (into : List ℕ) → Gives left left' n into → n ≡ 0 → NoneLeft left
none_left None left' n into gives e = tt
none_left (Some xs) left' n into gives e = gives.end.0 e

-- what was consumed until nothing was left is all
pub all_read : (left left' : Option (List ℕ)) (text : List ℕ) → Consumes left left' text → NoneLeft left' → IfSome left (λ bytes. bytes ≡ text)
all_read None left' text c none = tt
all_read (Some xs) None text c none = absurd c
all_read (Some xs) (Some ys) text c none = c ∙ ap (λ l. text ++ l) none ∙ append-nil text

-- what was consumed was there
pub more_than : (left left' : Option (List ℕ)) (text : List ℕ) (limit : ℕ) → Consumes left left' text → limit < length text → HasMore limit left
more_than None left' text limit c h = tt
more_than (Some xs) None text limit c h = absurd c
more_than (Some xs) (Some ys) text limit c h = rw (c, length-append) (omega arith)

-- a write goes on from what was written so far
pub writes_more : (text rest : List ℕ) (n : ℕ) (a b c : Option (List ℕ)) → WritesUpTo text rest a b → Takes b c n rest → WritesUpTo text (drop n rest) a c
writes_more text rest n a b c so_far takes =
    let joined : text ≡ (so_far.0 ++ take n rest) ++ drop n rest =
    so_far.1 ∙ ap (λ l. so_far.0 ++ l) (sym (take-append-drop n rest)) ∙ sym (append_assoc so_far.0 (take n rest) (drop n rest)) in
    (so_far.0 ++ take n rest, joined, Appends-trans a b c so_far.0 (take n rest) so_far.2 takes.bytes)

appends_kept : (a b c : Option (List ℕ)) (front : List ℕ) → Appends a b front → Keeps b c → Appends a c front
appends_kept None b c front p q = tt
appends_kept (Some x) None c front p q = absurd p
appends_kept (Some x) (Some y) None front p q = absurd q
appends_kept (Some x) (Some y) (Some z) front p q = q ∙ p

-- a write that took nothing leaves a front written
pub writes_front : (text rest : List ℕ) (a b c : Option (List ℕ)) → WritesUpTo text rest a b → Keeps b c → WritesFront a c text
writes_front text rest a b c so_far kept =
    let front : take (length so_far.0) text ≡ so_far.0 = rw so_far.1 (take_at so_far.0 rest (length so_far.0) refl) in
    (length so_far.0, subst (Appends a c) (sym front) (appends_kept a b c so_far.0 so_far.2 kept))

-- what holds holds at an error
pub on_err : {T E P : Type 0} (r : Result T E) → P → OnErr r P
on_err (Ok x) p = tt
on_err (Err e) p = p
