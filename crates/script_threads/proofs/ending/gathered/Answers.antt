use Rattle.script_threads.proofs.ListGathering.{gathered_more}
use Rattle.script_threads.proofs.ending.gathered.Goals as goal

pub gathers-preserved : goal.gathers-preserved
gathers-preserved c = (
  tt,
  tt,
  record { whole = gathered_more (λ own. own.items) _ _ _ _ c.in-Some.own _ c.gathers.invariant.2.whole c.in-Some.ensures.steps.0 c.in_ok-append.ensures.items },
)
