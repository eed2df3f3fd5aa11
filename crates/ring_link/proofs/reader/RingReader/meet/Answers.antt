use Rattle.rtrb.specs.Ring.{sent, received, known_items}
use Rattle.ring_link.proofs.CellLists.{taken_of}
use Rattle.ring_link.proofs.reader.RingReader.meet.Goals as goal

pub returns-clause-taken : goal.returns-clause-taken
returns-clause-taken c =
    let s = c.slots_beside in
    taken_of (received s.new.self) (known_items s.new.self) (sent s.new.producer) _ _ _ s.ensures.fifo
