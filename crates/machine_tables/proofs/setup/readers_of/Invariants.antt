use Rattle.std.proofs.Common.{◌≡◌, ◌++◌, ℕ, List, length, map}
use Rattle.std.specs.VecDeque.Iter.{deque_iter_rest}
use Rattle.machine_model.specs.MachineParts.{AreReading}
use Rattle.machine_tables.proofs.setup.readers_of.Given as goal

-- the readers of the links so far
abbrev pub invariant-loop-operation : goal.invariant-loop-operation
invariant-loop-operation l = record {
  all : map (λ o. o.now) l.yielded ++ deque_iter_rest l.operation-iterator ≡ l.fn.opens.items;
  readers : (calls : List ℕ) → AreReading calls (map (λ o. o.now) l.yielded) l.readers.items;
  count : l.link ≡ length l.yielded;
}
