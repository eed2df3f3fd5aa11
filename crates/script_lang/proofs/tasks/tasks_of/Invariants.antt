use Rattle.std.proofs.Common.{map, drop}
use Rattle.seat_programs.specs.Tasks.{numbered}
use Rattle.seat_programs.specs.ScriptSetupToEnding.{all_tasks}
use Rattle.script_items.specs.LineMeaning.{item}
use Rattle.script_lang.proofs.ByLine.{Sofar}
use Rattle.script_lang.proofs.tasks.tasks_of.Given as goal

abbrev pub invariant-loop-line : goal.invariant-loop-line
invariant-loop-line l = Sofar (all_tasks (map item l.lines)) (map (λ q. q.items) l.clients.items) (numbered (map item l.lines)) l.names l.number l.link l.tasks.items (map item (drop l.line-index l.lines))
