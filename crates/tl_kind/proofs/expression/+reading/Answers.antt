use Rattle.std.proofs.Common.{◌-◌, suc, [], ◌∷◌, map, length, refl, sym, ap, inl, inr, arith, length-append}
use Rattle.std.proofs.lemmas.Result.{IfOk-weaker, IfErr-weaker}
use Rattle.tl_kind.specs.declared.word.Word.TheVariants as word
use Rattle.tl_kind.specs.Written.{an_expr, a_name}
use Rattle.tl_kind.specs.Refusals.{inner, expr, name, part, after, IsPart, Refused}
use Rattle.tl_kind.specs.Reading.{StopsAs, IsForm}
use Rattle.tl_kind.proofs.Tokens.{stops_in_quoted}
use Rattle.tl_kind.proofs.Steps.{exit, stops_next, stops_later, stops_end, form_stands, form_refused, begins-other, begins-nothing, too_deep, several_more, several_parts, stops_several, list_takes, list_full, quote_expr, list_few, nested_refused, stops_in_next, stops_never}
use Rattle.tl_kind.proofs.expression.+reading.Goals as goal

pub one-returns-in_err-a-clause-bad : goal.one-returns-in_err-a-clause-bad
one-returns-in_err-a-clause-bad t c = exit c.from_residual.result c.in_err-a.field-0.0 _ c.from_residual.ensures.1 (stops_next (inner (word.One c.args.word)) 0 c.args.room c.args.cursor.now.rest.now c.next_part.new.cursor.rest.now c.in_err-a.field-0.0 expr refl refl c.in_err-a.ensures.bad)

pub one-returns-in_err-expect-clause-bad : goal.one-returns-in_err-expect-clause-bad
one-returns-in_err-expect-clause-bad t c = exit c.from_residual-in_err-expect.result c.in_err-expect.field-0.0 _ c.from_residual-in_err-expect.ensures.1 (stops_later (inner (word.One c.args.word)) 0 c.args.room c.args.cursor.now.rest.now c.expect.new.cursor.rest.now c.in_err-expect.field-0.0 (an_expr c.in_ok-a.a) c.next_part.new.cursor.rest.now refl c.in_ok-a.ensures.found (stops_end (word.One c.args.word) 1 c.args.room c.next_part.new.cursor.rest.now c.expect.new.cursor.rest.now c.in_err-expect.field-0.0 (inl refl) refl c.in_err-expect.ensures.bad))

pub one-returns-clause-found : goal.one-returns-clause-found
one-returns-clause-found t c = (an_expr c.in_ok-a.a ∷ [], c.one.ensures, omega arith, (c.next_part.new.cursor.rest.now, c.in_ok-a.ensures.found, c.in_ok-expect.ensures.found))

pub two-returns-in_err-a-clause-bad : goal.two-returns-in_err-a-clause-bad
two-returns-in_err-a-clause-bad t c = exit c.from_residual.result c.in_err-a.field-0.0 _ c.from_residual.ensures.1 (stops_next (inner (word.Two c.args.word)) 0 c.args.room c.args.cursor.now.rest.now c.next_part.new.cursor.rest.now c.in_err-a.field-0.0 expr refl refl c.in_err-a.ensures.bad)

pub two-returns-in_err-b-clause-bad : goal.two-returns-in_err-b-clause-bad
two-returns-in_err-b-clause-bad t c = exit c.from_residual-in_err-b.result c.in_err-b.field-0.0 _ c.from_residual-in_err-b.ensures.1 (stops_later (inner (word.Two c.args.word)) 0 c.args.room c.args.cursor.now.rest.now c.next_part-2.new.cursor.rest.now c.in_err-b.field-0.0 (an_expr c.in_ok-a.a) c.next_part.new.cursor.rest.now refl c.in_ok-a.ensures.found (stops_next (inner (word.Two c.args.word)) 1 c.args.room c.next_part.new.cursor.rest.now c.next_part-2.new.cursor.rest.now c.in_err-b.field-0.0 expr refl refl c.in_err-b.ensures.bad))

pub two-returns-in_err-expect-clause-bad : goal.two-returns-in_err-expect-clause-bad
two-returns-in_err-expect-clause-bad t c = exit c.from_residual-in_err-expect.result c.in_err-expect.field-0.0 _ c.from_residual-in_err-expect.ensures.1 (stops_later (inner (word.Two c.args.word)) 0 c.args.room c.args.cursor.now.rest.now c.expect.new.cursor.rest.now c.in_err-expect.field-0.0 (an_expr c.in_ok-a.a) c.next_part.new.cursor.rest.now refl c.in_ok-a.ensures.found (stops_later (inner (word.Two c.args.word)) 1 c.args.room c.next_part.new.cursor.rest.now c.expect.new.cursor.rest.now c.in_err-expect.field-0.0 (an_expr c.in_ok-b.b) c.next_part-2.new.cursor.rest.now refl c.in_ok-b.ensures.found (stops_end (word.Two c.args.word) 2 c.args.room c.next_part-2.new.cursor.rest.now c.expect.new.cursor.rest.now c.in_err-expect.field-0.0 (inl refl) refl c.in_err-expect.ensures.bad)))

pub two-returns-clause-found : goal.two-returns-clause-found
two-returns-clause-found t c = (an_expr c.in_ok-a.a ∷ an_expr c.in_ok-b.b ∷ [], c.two.ensures, omega arith, (c.next_part.new.cursor.rest.now, c.in_ok-a.ensures.found, (c.next_part-2.new.cursor.rest.now, c.in_ok-b.ensures.found, c.in_ok-expect.ensures.found)))

pub three-returns-in_err-a-clause-bad : goal.three-returns-in_err-a-clause-bad
three-returns-in_err-a-clause-bad t c = exit c.from_residual.result c.in_err-a.field-0.0 _ c.from_residual.ensures.1 (stops_next (inner (word.Three c.args.word)) 0 c.args.room c.args.cursor.now.rest.now c.next_part.new.cursor.rest.now c.in_err-a.field-0.0 expr refl refl c.in_err-a.ensures.bad)

pub three-returns-in_err-b-clause-bad : goal.three-returns-in_err-b-clause-bad
three-returns-in_err-b-clause-bad t c = exit c.from_residual-in_err-b.result c.in_err-b.field-0.0 _ c.from_residual-in_err-b.ensures.1 (stops_later (inner (word.Three c.args.word)) 0 c.args.room c.args.cursor.now.rest.now c.next_part-2.new.cursor.rest.now c.in_err-b.field-0.0 (an_expr c.in_ok-a.a) c.next_part.new.cursor.rest.now refl c.in_ok-a.ensures.found (stops_next (inner (word.Three c.args.word)) 1 c.args.room c.next_part.new.cursor.rest.now c.next_part-2.new.cursor.rest.now c.in_err-b.field-0.0 expr refl refl c.in_err-b.ensures.bad))

pub three-returns-in_err-c-clause-bad : goal.three-returns-in_err-c-clause-bad
three-returns-in_err-c-clause-bad t c = exit c.from_residual-in_err-c.result c.in_err-c.field-0.0 _ c.from_residual-in_err-c.ensures.1 (stops_later (inner (word.Three c.args.word)) 0 c.args.room c.args.cursor.now.rest.now c.next_part-3.new.cursor.rest.now c.in_err-c.field-0.0 (an_expr c.in_ok-a.a) c.next_part.new.cursor.rest.now refl c.in_ok-a.ensures.found (stops_later (inner (word.Three c.args.word)) 1 c.args.room c.next_part.new.cursor.rest.now c.next_part-3.new.cursor.rest.now c.in_err-c.field-0.0 (an_expr c.in_ok-b.b) c.next_part-2.new.cursor.rest.now refl c.in_ok-b.ensures.found (stops_next (inner (word.Three c.args.word)) 2 c.args.room c.next_part-2.new.cursor.rest.now c.next_part-3.new.cursor.rest.now c.in_err-c.field-0.0 expr refl refl c.in_err-c.ensures.bad)))

pub three-returns-in_err-expect-clause-bad : goal.three-returns-in_err-expect-clause-bad
three-returns-in_err-expect-clause-bad t c = exit c.from_residual-in_err-expect.result c.in_err-expect.field-0.0 _ c.from_residual-in_err-expect.ensures.1 (stops_later (inner (word.Three c.args.word)) 0 c.args.room c.args.cursor.now.rest.now c.expect.new.cursor.rest.now c.in_err-expect.field-0.0 (an_expr c.in_ok-a.a) c.next_part.new.cursor.rest.now refl c.in_ok-a.ensures.found (stops_later (inner (word.Three c.args.word)) 1 c.args.room c.next_part.new.cursor.rest.now c.expect.new.cursor.rest.now c.in_err-expect.field-0.0 (an_expr c.in_ok-b.b) c.next_part-2.new.cursor.rest.now refl c.in_ok-b.ensures.found (stops_later (inner (word.Three c.args.word)) 2 c.args.room c.next_part-2.new.cursor.rest.now c.expect.new.cursor.rest.now c.in_err-expect.field-0.0 (an_expr c.in_ok-c.c) c.next_part-3.new.cursor.rest.now refl c.in_ok-c.ensures.found (stops_end (word.Three c.args.word) 3 c.args.room c.next_part-3.new.cursor.rest.now c.expect.new.cursor.rest.now c.in_err-expect.field-0.0 (inl refl) refl c.in_err-expect.ensures.bad))))

pub three-returns-clause-found : goal.three-returns-clause-found
three-returns-clause-found t c = (an_expr c.in_ok-a.a ∷ an_expr c.in_ok-b.b ∷ an_expr c.in_ok-c.c ∷ [], c.three.ensures, omega arith, (c.next_part.new.cursor.rest.now, c.in_ok-a.ensures.found, (c.next_part-2.new.cursor.rest.now, c.in_ok-b.ensures.found, (c.next_part-3.new.cursor.rest.now, c.in_ok-c.ensures.found, c.in_ok-expect.ensures.found))))

pub binding-returns-in_err-name-clause-bad : goal.binding-returns-in_err-name-clause-bad
binding-returns-in_err-name-clause-bad t c = exit c.from_residual.result c.in_err-name.field-0.0 _ c.from_residual.ensures.1 (stops_next (inner (word.Binding c.args.word)) 0 c.args.room c.args.cursor.now.rest.now c.next_name.new.cursor.rest.now c.in_err-name.field-0.0 name refl refl (c.in_err-name.ensures.bad c.args.room))

pub binding-returns-in_err-a-clause-bad : goal.binding-returns-in_err-a-clause-bad
binding-returns-in_err-a-clause-bad t c = exit c.from_residual-in_err-a.result c.in_err-a.field-0.0 _ c.from_residual-in_err-a.ensures.1 (stops_later (inner (word.Binding c.args.word)) 0 c.args.room c.args.cursor.now.rest.now c.next_part.new.cursor.rest.now c.in_err-a.field-0.0 (a_name c.in_ok-name.name) c.next_name.new.cursor.rest.now refl (c.in_ok-name.ensures.found c.args.room) (stops_next (inner (word.Binding c.args.word)) 1 c.args.room c.next_name.new.cursor.rest.now c.next_part.new.cursor.rest.now c.in_err-a.field-0.0 expr refl refl c.in_err-a.ensures.bad))

pub binding-returns-in_err-b-clause-bad : goal.binding-returns-in_err-b-clause-bad
binding-returns-in_err-b-clause-bad t c = exit c.from_residual-in_err-b.result c.in_err-b.field-0.0 _ c.from_residual-in_err-b.ensures.1 (stops_later (inner (word.Binding c.args.word)) 0 c.args.room c.args.cursor.now.rest.now c.next_part-2.new.cursor.rest.now c.in_err-b.field-0.0 (a_name c.in_ok-name.name) c.next_name.new.cursor.rest.now refl (c.in_ok-name.ensures.found c.args.room) (stops_later (inner (word.Binding c.args.word)) 1 c.args.room c.next_name.new.cursor.rest.now c.next_part-2.new.cursor.rest.now c.in_err-b.field-0.0 (an_expr c.in_ok-a.a) c.next_part.new.cursor.rest.now refl c.in_ok-a.ensures.found (stops_next (inner (word.Binding c.args.word)) 2 c.args.room c.next_part.new.cursor.rest.now c.next_part-2.new.cursor.rest.now c.in_err-b.field-0.0 expr refl refl c.in_err-b.ensures.bad)))

pub binding-returns-in_err-expect-clause-bad : goal.binding-returns-in_err-expect-clause-bad
binding-returns-in_err-expect-clause-bad t c = exit c.from_residual-in_err-expect.result c.in_err-expect.field-0.0 _ c.from_residual-in_err-expect.ensures.1 (stops_later (inner (word.Binding c.args.word)) 0 c.args.room c.args.cursor.now.rest.now c.expect.new.cursor.rest.now c.in_err-expect.field-0.0 (a_name c.in_ok-name.name) c.next_name.new.cursor.rest.now refl (c.in_ok-name.ensures.found c.args.room) (stops_later (inner (word.Binding c.args.word)) 1 c.args.room c.next_name.new.cursor.rest.now c.expect.new.cursor.rest.now c.in_err-expect.field-0.0 (an_expr c.in_ok-a.a) c.next_part.new.cursor.rest.now refl c.in_ok-a.ensures.found (stops_later (inner (word.Binding c.args.word)) 2 c.args.room c.next_part.new.cursor.rest.now c.expect.new.cursor.rest.now c.in_err-expect.field-0.0 (an_expr c.in_ok-b.b) c.next_part-2.new.cursor.rest.now refl c.in_ok-b.ensures.found (stops_end (word.Binding c.args.word) 3 c.args.room c.next_part-2.new.cursor.rest.now c.expect.new.cursor.rest.now c.in_err-expect.field-0.0 (inl refl) refl c.in_err-expect.ensures.bad))))

pub binding-returns-clause-found : goal.binding-returns-clause-found
binding-returns-clause-found t c = (a_name c.in_ok-name.name ∷ an_expr c.in_ok-a.a ∷ an_expr c.in_ok-b.b ∷ [], c.binding.ensures, omega arith, (c.next_name.new.cursor.rest.now, (c.in_ok-name.ensures.found c.args.room), (c.next_part.new.cursor.rest.now, c.in_ok-a.ensures.found, (c.next_part-2.new.cursor.rest.now, c.in_ok-b.ensures.found, c.in_ok-expect.ensures.found))))

pub fold-returns-in_err-so_far-clause-bad : goal.fold-returns-in_err-so_far-clause-bad
fold-returns-in_err-so_far-clause-bad t c = exit c.from_residual.result c.in_err-so_far.field-0.0 _ c.from_residual.ensures.1 (stops_next (inner word.Fold) 0 c.args.room c.args.cursor.now.rest.now c.next_name.new.cursor.rest.now c.in_err-so_far.field-0.0 name refl refl (c.in_err-so_far.ensures.bad c.args.room))

pub fold-returns-in_err-name-clause-bad : goal.fold-returns-in_err-name-clause-bad
fold-returns-in_err-name-clause-bad t c = exit c.from_residual-in_err-name.result c.in_err-name.field-0.0 _ c.from_residual-in_err-name.ensures.1 (stops_later (inner word.Fold) 0 c.args.room c.args.cursor.now.rest.now c.next_name-2.new.cursor.rest.now c.in_err-name.field-0.0 (a_name c.in_ok-so_far.so_far) c.next_name.new.cursor.rest.now refl (c.in_ok-so_far.ensures.found c.args.room) (stops_next (inner word.Fold) 1 c.args.room c.next_name.new.cursor.rest.now c.next_name-2.new.cursor.rest.now c.in_err-name.field-0.0 name refl refl (c.in_err-name.ensures.bad c.args.room)))

pub fold-returns-in_err-m-clause-bad : goal.fold-returns-in_err-m-clause-bad
fold-returns-in_err-m-clause-bad t c = exit c.from_residual-in_err-m.result c.in_err-m.field-0.0 _ c.from_residual-in_err-m.ensures.1 (stops_later (inner word.Fold) 0 c.args.room c.args.cursor.now.rest.now c.next_part.new.cursor.rest.now c.in_err-m.field-0.0 (a_name c.in_ok-so_far.so_far) c.next_name.new.cursor.rest.now refl (c.in_ok-so_far.ensures.found c.args.room) (stops_later (inner word.Fold) 1 c.args.room c.next_name.new.cursor.rest.now c.next_part.new.cursor.rest.now c.in_err-m.field-0.0 (a_name c.in_ok-name.name) c.next_name-2.new.cursor.rest.now refl (c.in_ok-name.ensures.found c.args.room) (stops_next (inner word.Fold) 2 c.args.room c.next_name-2.new.cursor.rest.now c.next_part.new.cursor.rest.now c.in_err-m.field-0.0 expr refl refl c.in_err-m.ensures.bad)))

pub fold-returns-in_err-i-clause-bad : goal.fold-returns-in_err-i-clause-bad
fold-returns-in_err-i-clause-bad t c = exit c.from_residual-in_err-i.result c.in_err-i.field-0.0 _ c.from_residual-in_err-i.ensures.1 (stops_later (inner word.Fold) 0 c.args.room c.args.cursor.now.rest.now c.next_part-2.new.cursor.rest.now c.in_err-i.field-0.0 (a_name c.in_ok-so_far.so_far) c.next_name.new.cursor.rest.now refl (c.in_ok-so_far.ensures.found c.args.room) (stops_later (inner word.Fold) 1 c.args.room c.next_name.new.cursor.rest.now c.next_part-2.new.cursor.rest.now c.in_err-i.field-0.0 (a_name c.in_ok-name.name) c.next_name-2.new.cursor.rest.now refl (c.in_ok-name.ensures.found c.args.room) (stops_later (inner word.Fold) 2 c.args.room c.next_name-2.new.cursor.rest.now c.next_part-2.new.cursor.rest.now c.in_err-i.field-0.0 (an_expr c.in_ok-m.m) c.next_part.new.cursor.rest.now refl c.in_ok-m.ensures.found (stops_next (inner word.Fold) 3 c.args.room c.next_part.new.cursor.rest.now c.next_part-2.new.cursor.rest.now c.in_err-i.field-0.0 expr refl refl c.in_err-i.ensures.bad))))

pub fold-returns-in_err-a-clause-bad : goal.fold-returns-in_err-a-clause-bad
fold-returns-in_err-a-clause-bad t c = exit c.from_residual-in_err-a.result c.in_err-a.field-0.0 _ c.from_residual-in_err-a.ensures.1 (stops_later (inner word.Fold) 0 c.args.room c.args.cursor.now.rest.now c.next_part-3.new.cursor.rest.now c.in_err-a.field-0.0 (a_name c.in_ok-so_far.so_far) c.next_name.new.cursor.rest.now refl (c.in_ok-so_far.ensures.found c.args.room) (stops_later (inner word.Fold) 1 c.args.room c.next_name.new.cursor.rest.now c.next_part-3.new.cursor.rest.now c.in_err-a.field-0.0 (a_name c.in_ok-name.name) c.next_name-2.new.cursor.rest.now refl (c.in_ok-name.ensures.found c.args.room) (stops_later (inner word.Fold) 2 c.args.room c.next_name-2.new.cursor.rest.now c.next_part-3.new.cursor.rest.now c.in_err-a.field-0.0 (an_expr c.in_ok-m.m) c.next_part.new.cursor.rest.now refl c.in_ok-m.ensures.found (stops_later (inner word.Fold) 3 c.args.room c.next_part.new.cursor.rest.now c.next_part-3.new.cursor.rest.now c.in_err-a.field-0.0 (an_expr c.in_ok-i.i) c.next_part-2.new.cursor.rest.now refl c.in_ok-i.ensures.found (stops_next (inner word.Fold) 4 c.args.room c.next_part-2.new.cursor.rest.now c.next_part-3.new.cursor.rest.now c.in_err-a.field-0.0 expr refl refl c.in_err-a.ensures.bad)))))

pub fold-returns-in_err-expect-clause-bad : goal.fold-returns-in_err-expect-clause-bad
fold-returns-in_err-expect-clause-bad t c = exit c.from_residual-in_err-expect.result c.in_err-expect.field-0.0 _ c.from_residual-in_err-expect.ensures.1 (stops_later (inner word.Fold) 0 c.args.room c.args.cursor.now.rest.now c.expect.new.cursor.rest.now c.in_err-expect.field-0.0 (a_name c.in_ok-so_far.so_far) c.next_name.new.cursor.rest.now refl (c.in_ok-so_far.ensures.found c.args.room) (stops_later (inner word.Fold) 1 c.args.room c.next_name.new.cursor.rest.now c.expect.new.cursor.rest.now c.in_err-expect.field-0.0 (a_name c.in_ok-name.name) c.next_name-2.new.cursor.rest.now refl (c.in_ok-name.ensures.found c.args.room) (stops_later (inner word.Fold) 2 c.args.room c.next_name-2.new.cursor.rest.now c.expect.new.cursor.rest.now c.in_err-expect.field-0.0 (an_expr c.in_ok-m.m) c.next_part.new.cursor.rest.now refl c.in_ok-m.ensures.found (stops_later (inner word.Fold) 3 c.args.room c.next_part.new.cursor.rest.now c.expect.new.cursor.rest.now c.in_err-expect.field-0.0 (an_expr c.in_ok-i.i) c.next_part-2.new.cursor.rest.now refl c.in_ok-i.ensures.found (stops_later (inner word.Fold) 4 c.args.room c.next_part-2.new.cursor.rest.now c.expect.new.cursor.rest.now c.in_err-expect.field-0.0 (an_expr c.in_ok-a.a) c.next_part-3.new.cursor.rest.now refl c.in_ok-a.ensures.found (stops_end word.Fold 5 c.args.room c.next_part-3.new.cursor.rest.now c.expect.new.cursor.rest.now c.in_err-expect.field-0.0 (inl refl) refl c.in_err-expect.ensures.bad))))))

pub fold-returns-clause-found : goal.fold-returns-clause-found
fold-returns-clause-found t c = (a_name c.in_ok-so_far.so_far ∷ a_name c.in_ok-name.name ∷ an_expr c.in_ok-m.m ∷ an_expr c.in_ok-i.i ∷ an_expr c.in_ok-a.a ∷ [], c.fold.ensures, omega arith, (c.next_name.new.cursor.rest.now, (c.in_ok-so_far.ensures.found c.args.room), (c.next_name-2.new.cursor.rest.now, (c.in_ok-name.ensures.found c.args.room), (c.next_part.new.cursor.rest.now, c.in_ok-m.ensures.found, (c.next_part-2.new.cursor.rest.now, c.in_ok-i.ensures.found, (c.next_part-3.new.cursor.rest.now, c.in_ok-a.ensures.found, c.in_ok-expect.ensures.found))))))

pub expression-returns-in_err-begun_quote-in-Quote-clause-bad : goal.expression-returns-in_err-begun_quote-in-Quote-clause-bad
expression-returns-in_err-begun_quote-in-Quote-clause-bad t c =
    exit c.from_residual.result c.in_err-begun_quote-in-Quote.field-0.0 _ c.from_residual.ensures.1 (stops_in_quoted c.args.cursor.now.rest.now c.begun_quote.new.cursor.rest.now c.in_err-begun_quote-in-Quote.field-0.0 expr c.args.room (inl refl) c.in_err-begun_quote-in-Quote.ensures.bad)

pub expression-returns-in_err-signed-in-Number-clause-bad : goal.expression-returns-in_err-signed-in-Number-clause-bad
expression-returns-in_err-signed-in-Number-clause-bad t c =
    exit c.from_residual-in_err-signed-in-Number.result c.in_err-signed-in-Number.field-0.0 _ c.from_residual-in_err-signed-in-Number.ensures.1 (c.in_err-signed-in-Number.ensures.bad c.args.room)

pub expression-returns-in-Nothing-clause-bad : goal.expression-returns-in-Nothing-clause-bad
expression-returns-in-Nothing-clause-bad t c = begins-nothing c.args.cursor.now.rest.now c.args.room (sym c.in-Nothing.ensures)

pub expression-returns-in-Other-clause-bad : goal.expression-returns-in-Other-clause-bad
expression-returns-in-Other-clause-bad t c = begins-other c.args.cursor.now.rest.now c.args.room (sym c.in-Other.ensures)

pub expression-returns-in_ok-begun_quote-in-Quote-clause-found : goal.expression-returns-in_ok-begun_quote-in-Quote-clause-found
expression-returns-in_ok-begun_quote-in-Quote-clause-found t c = quote_expr c.args.room c.args.cursor.now.rest.now c.in_ok-begun_quote-in-Quote.field-0 c.begun_quote.new.cursor.rest.now _ c.text.ensures c.in_ok-begun_quote-in-Quote.ensures.found

pub form-returns-in_err-word-clause-bad : goal.form-returns-in_err-word-clause-bad
form-returns-in_err-word-clause-bad t c = exit c.from_residual.result c.in_err-word.field-0.0 _ c.from_residual.ensures.1 (c.in_err-word.ensures.bad c.args.room)

pub form-returns-clause-found : goal.form-returns-clause-found
form-returns-clause-found t c =
    IfOk-weaker c.parts.result (λ e. IsForm c.args.room c.in_ok-word.word c.word.new.cursor.rest.now e c.parts.new.cursor.rest.now)
    (λ e. IsPart (suc c.args.room) (40 ∷ c.args.cursor.now.rest.now) (an_expr e) c.parts.new.cursor.rest.now)
    (λ e h. form_stands c.args.room c.in_ok-word.word c.args.cursor.now.rest.now c.word.new.cursor.rest.now e c.parts.new.cursor.rest.now c.in_ok-word.ensures.found h) c.parts.ensures.found

pub form-returns-clause-bad : goal.form-returns-clause-bad
form-returns-clause-bad t c =
    IfErr-weaker c.parts.result (StopsAs (Refused (after (inner c.in_ok-word.word) 0 c.args.room) c.word.new.cursor.rest.now) c.parts.new.cursor.rest.now)
    (StopsAs (Refused (part expr (suc c.args.room)) (40 ∷ c.args.cursor.now.rest.now)) c.parts.new.cursor.rest.now)
    (λ s h. form_refused c.args.room c.in_ok-word.word c.args.cursor.now.rest.now c.word.new.cursor.rest.now c.parts.new.cursor.rest.now s c.in_ok-word.ensures.found h) c.parts.ensures.bad

pub list-returns-in_err-parts-clause-bad : goal.list-returns-in_err-parts-clause-bad
list-returns-in_err-parts-clause-bad t c = exit c.from_residual.result c.in_err-parts.field-0.0 _ c.from_residual.ensures.1 (c.in_err-parts.ensures.bad (inner word.List) list_takes)

pub list-returns-in_err-expect-clause-bad : goal.list-returns-in_err-expect-clause-bad
list-returns-in_err-expect-clause-bad t c =
    let all = c.in_ok-parts.ensures.found in
    exit c.from_residual-in_err-expect.result c.in_err-expect.field-0.0 _ c.from_residual-in_err-expect.ensures.1
    (stops_several (inner word.List) 16 c.args.room c.in_ok-parts.parts.items c.args.cursor.now.rest.now c.several.new.cursor.rest.now c.expect.new.cursor.rest.now c.in_err-expect.field-0.0 list_takes all.few all.stand
    (stops_end word.List (length c.in_ok-parts.parts.items) c.args.room c.several.new.cursor.rest.now c.expect.new.cursor.rest.now c.in_err-expect.field-0.0 (list_full (length c.in_ok-parts.parts.items) c.several.new.cursor.rest.now all.all) refl c.in_err-expect.ensures.bad))

pub list-returns-clause-found : goal.list-returns-clause-found
list-returns-clause-found t c =
    let all = c.in_ok-parts.ensures.found in
    (map an_expr c.in_ok-parts.parts.items, c.list.ensures, list_few c.in_ok-parts.parts.items all.few, several_parts c.args.room c.in_ok-parts.parts.items c.args.cursor.now.rest.now c.several.new.cursor.rest.now c.expect.new.cursor.rest.now all.stand c.in_ok-expect.ensures.found)

pub nested-returns-then-room-eq0-clause-bad : goal.nested-returns-then-room-eq0-clause-bad
nested-returns-then-room-eq0-clause-bad t c = too_deep c.args.cursor.now.rest.now c.args.room c.requires c.if-room-eq0.true

pub nested-returns-clause-bad : goal.nested-returns-clause-bad
nested-returns-clause-bad t c =
    IfErr-weaker c.form.result (StopsAs (Refused (part expr (suc (c.args.room - 1))) (40 ∷ c.split_at.result.1.now)) c.form.new.cursor.rest.now)
    (StopsAs (Refused (part expr c.args.room) c.args.cursor.now.rest.now) c.form.new.cursor.rest.now)
    (λ s h. nested_refused c.args.cursor.now.rest.now c.split_at.result.1.now c.form.new.cursor.rest.now c.args.room s c.requires c.if-room-eq0.false c.split_at.ensures.back h) c.form.ensures.bad

pub several-returns-then-not-begins_with_space-clause-found : goal.several-returns-then-not-begins_with_space-clause-found
several-returns-then-not-begins_with_space-clause-found t c = record { stand = c.loop.invariant.stand; few = omega (arith, c.loop.invariant.count); all = inr (c.if-not-begins_with_space.ensures.none refl) }

pub several-returns-in_err-expression-clause-bad : goal.several-returns-in_err-expression-clause-bad
several-returns-in_err-expression-clause-bad t c =
    exit c.from_residual-in_err-expression.result c.in_err-expression.field-0.0 _ c.from_residual-in_err-expression.ensures.1
    (λ head takes. stops_several head c.args.limit c.args.room c.loop.parts.items c.args.cursor.now.rest.now c.loop.cursor.rest.now c.expression.new.cursor.rest.now c.in_err-expression.field-0.0 takes (omega (arith, c.loop.invariant.count)) c.loop.invariant.stand
    (stops_in_next head (length c.loop.parts.items) c.args.room c.loop.cursor.rest.now c.expect.new.cursor.rest.now c.expression.new.cursor.rest.now c.in_err-expression.field-0.0 (takes (length c.loop.parts.items) (omega (arith, c.loop.invariant.count))) c.in_ok-expect.ensures.found c.in_err-expression.ensures.bad))

pub several-returns-in_err-expect-clause-bad : goal.several-returns-in_err-expect-clause-bad
several-returns-in_err-expect-clause-bad t c =
    let space = c.if-not-begins_with_space.ensures.space refl in
    exit c.from_residual.result c.in_err-expect.field-0.0 _ c.from_residual.ensures.1
    (λ head takes. stops_never (Refused (after head 0 c.args.room) c.args.cursor.now.rest.now) c.loop.cursor.rest.now space.0 c.expect.new.cursor.rest.now c.in_err-expect.field-0.0 space.1 c.in_err-expect.ensures.bad)

pub several-loop-preserved : goal.several-loop-preserved
several-loop-preserved t c = record {
  count = omega (arith, ap length c.in_ok-push.ensures.items, length-append c.loop.parts.items (c.in_ok-expression.field-0 ∷ []), c.loop.invariant.count);
  stand = rw c.in_ok-push.ensures.items (several_more c.args.room c.loop.parts.items c.in_ok-expression.field-0 c.args.cursor.now.rest.now c.loop.cursor.rest.now c.expression.new.cursor.rest.now c.loop.invariant.stand (c.expect.new.cursor.rest.now, c.in_ok-expect.ensures.found, c.in_ok-expression.ensures.found));
}

pub several-returns-clause-found : goal.several-returns-clause-found
several-returns-clause-found t c = record { stand = c.loop.invariant.stand; few = omega (arith, c.loop.invariant.count); all = inl (omega (arith, c.loop.invariant.count)) }
