use Rattle.rpc_reader.specs.ReaderIdSeat.{Rests}
use Rattle.rpc_reader.specs.ReaderBooks.{books}
use Rattle.rpc_reader.specs.LinkReading.{ReadOn}
use Rattle.rpc_reader.proofs.reading.read_all.Given as goal

abbrev pub invariant-reads : goal.invariant-reads
invariant-reads g l = record {
  can_go : (goal.iterator-reads g).can_next l.iterator';
  is_finite : (goal.iterator-reads g).is_finite l.iterator';
  rest : Rests l.fn.calls.seat l.calls.seat;
  on : ReadOn l.ids.plan.slots l.ending (g.I.In.state l.fn.inn) (g.I.In.state l.inn) l.intake (books l.fn.calls) (books l.calls);
}
