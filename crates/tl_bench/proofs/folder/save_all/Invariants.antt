use Rattle.std.proofs.Common.{◌≡◌, All, IsTrue, vec_len}
use Rattle.tl_bench.proofs.folder.save_all.Given as goal

abbrev pub invariant-loop : goal.invariant-loop
invariant-loop g l = record {
  count : vec_len l.tickets ≡ l.counter;
  content : IsTrue g.D.Ticket.Ticket.tells → All (λ ticket. g.D.Ticket.Ticket.content ticket ≡ l.bytes) l.tickets.items;
}
