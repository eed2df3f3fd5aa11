use Rattle.seat_states.proofs.ProgramBehindSteps.{links, takes}
use Rattle.seat_states.proofs.point.Opening.next.Goals as goal

pub returns-in-StoreLink-clause-program : goal.returns-in-StoreLink-clause-program
returns-in-StoreLink-clause-program c a e = rw (c.to-in-StoreLink.ensures, c.in-StoreLink.is) (links a c.args.self c.in-StoreLink.slot c.args.found)

pub returns-in-TakeLink-clause-program : goal.returns-in-TakeLink-clause-program
returns-in-TakeLink-clause-program c a e = rw (c.to-in-TakeLink.ensures, c.in-TakeLink.is) (takes a c.args.self c.args.found)
