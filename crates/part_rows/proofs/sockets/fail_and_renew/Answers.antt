use Rattle.std.proofs.Common.{◌∙◌}
use Rattle.part_rows.proofs.sockets.fail_and_renew.Goals as goal

pub returns-in_default-clause-share : goal.returns-in_default-clause-share
returns-in_default-clause-share c = c.renew-seat.ensures.share ∙ c.end-seat.ensures.share

pub returns-clause-share : goal.returns-clause-share
returns-clause-share c = c.poke-seat.ensures.share ∙ (c.renew-seat.ensures.share ∙ c.end-seat.ensures.share)
