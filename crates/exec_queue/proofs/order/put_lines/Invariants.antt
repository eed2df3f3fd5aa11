use Rattle.std.proofs.Common.{◌≡◌, ◌≤◌, length}
use Rattle.exec_queue.proofs.PositionsOfLines.{PutUpTo}
use Rattle.exec_queue.proofs.order.put_lines.Given as goal

abbrev pub invariant-loop-line : goal.invariant-loop-line
invariant-loop-line l = record {
  sized : length l.order ≡ length l.fn.order;
  end : l.line-end ≡ length l.fn.order;
  accepted : l.counts.accepted ≤ length l.fn.order;
  fewer : l.counts.ran ≤ l.counts.accepted;
  put : PutUpTo l.words l.fn.order l.order l.line l.counts.accepted l.counts.ran;
}
