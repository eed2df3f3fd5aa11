use Rattle.std.proofs.Common.{◌≡◌, drop}
use Rattle.call_run.specs.Threads.{opened_in}
use Rattle.call_run.proofs.opened.was_opened.Given as goal

abbrev pub invariant-tolds : goal.invariant-tolds
invariant-tolds l = opened_in l.number (drop l.one-index l.told) ≡ opened_in l.number l.told
