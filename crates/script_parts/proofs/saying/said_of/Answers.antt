use Rattle.std.proofs.Common.{ap, map}
use Rattle.script_parts.proofs.ClientSayingsByNumber.{each_said_more}
use Rattle.script_parts.proofs.saying.said_of.Goals as goal

pub clients-preserved : goal.clients-preserved
clients-preserved c = (
  tt,
  tt,
  record { said = each_said_more _ _ _ _ c.in-Some.own.items _ c.clients.invariant.2.said (ap (map (λ own. own.items)) c.in-Some.ensures.steps.0) c.say_own.ensures },
)
