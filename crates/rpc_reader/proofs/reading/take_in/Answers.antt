use Rattle.std.proofs.Common.{List, ℕ, ◌++◌, subst}
use Rattle.rpc_reader.specs.ReaderBooks.{books}
use Rattle.rpc_reader.specs.LinkReading.{HeldMet}
use Rattle.rpc_reader.proofs.FramesMetInTurn.{met_none, fed_is}
use Rattle.rpc_reader.proofs.reading.take_in.Goals as goal

pub returns-in-Ok-clause-fed : goal.returns-in-Ok-clause-fed
returns-in-Ok-clause-fed g c = subst (λ (l : List ℕ). HeldMet c.args.ids.now.plan.slots l c.meet_held.result c.meet_held.new.intake (books c.args.calls.now) (books c.meet_held.new.calls)) (fed_is c.args.intake.now.cutter.bytes c.args.piece.now c.feed.new.self.bytes c.requires.waits c.in-Ok.ensures.ok) c.meet_held.ensures.met

pub returns-in-Err-clause-fed : goal.returns-in-Err-clause-fed
returns-in-Err-clause-fed g c = (c.args.intake.now.cutter.bytes ++ c.args.piece.now, met_none c.args.ids.now.plan.slots (c.args.intake.now.cutter.bytes ++ c.args.piece.now) (books c.args.calls.now), tt)
