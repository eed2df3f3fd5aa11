use Rattle.std.proofs.Common.{◌≡◌, length}
use Rattle.std.specs.Mem.Slots.{slots_items}
use Rattle.sock_words.specs.declared.vref.Vref.{Vref}
use Rattle.sock_model.specs.SocketTableLayout.{ref_index}
use Rattle.sock_table.specs.ClosedSocketTable.{WordsAre}
use Rattle.sock_table.proofs.closing.read_vrefs.Given as goal

abbrev pub invariant-loop-slot : goal.invariant-loop-slot
invariant-loop-slot g l = (length l.vrefs.items ≡ l.plan.slots) × WordsAre (λ (x : Vref). x.0) ref_index l.slot l.vrefs.items (slots_items l.table.words)
