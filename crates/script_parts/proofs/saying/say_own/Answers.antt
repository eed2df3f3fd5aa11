use Rattle.script_parts.proofs.ClientSayingsByNumber.{said_more}
use Rattle.script_parts.proofs.saying.say_own.Goals as goal

pub tolds-preserved : goal.tolds-preserved
tolds-preserved c = (
  tt,
  tt,
  record { said = said_more _ _ _ _ c.in-Some.one _ c.tolds.invariant.2.said c.in-Some.ensures.steps.0 c.say.ensures },
)
