use Rattle.std.proofs.Common.{inl, inr, refl}
use Rattle.message_parts.specs.Parcels.{outgoing_of}
use Rattle.write_chain.proofs.NotingWhileWriting.{wrote_rights}
use Rattle.write_chain.proofs.Turning.{put_or}
use Rattle.write_chain.proofs.Looking.{is_none, is_some}
use Rattle.write_chain.proofs.right.HeldChain.put_or_place.Goals as goal

pub returns-then-is_whole_taken-clause-tried : goal.returns-then-is_whole_taken-clause-tried
returns-then-is_whole_taken-clause-tried g c = ((c.requires.may.0, c.requires.may.1, is_none (outgoing_of c.args.hand.bytes).left c.is_whole_taken.result c.is_whole_taken.ensures c.if-is_whole_taken.true), refl)

pub returns-then-is_whole_taken-clause-wrote : goal.returns-then-is_whole_taken-clause-wrote
returns-then-is_whole_taken-clause-wrote g c = wrote_rights c.args.seat.now.me.0 c.args.seat.now.me.0 refl

pub put_piece-requires-clause-may : goal.put_piece-requires-clause-may
put_piece-requires-clause-may g c = (c.requires.may, is_some (outgoing_of c.args.hand.bytes).left c.is_whole_taken.result c.is_whole_taken.ensures c.if-is_whole_taken.false)

pub returns-then-is_whole_taken-clause-faults : goal.returns-then-is_whole_taken-clause-faults
returns-then-is_whole_taken-clause-faults g c = inl refl

pub returns-then-is_whole_taken-clause-put : goal.returns-then-is_whole_taken-clause-put
returns-then-is_whole_taken-clause-put g c = inr (is_none (outgoing_of c.args.hand.bytes).left c.is_whole_taken.result c.is_whole_taken.ensures c.if-is_whole_taken.true, refl)

pub returns-clause-put : goal.returns-clause-put
returns-clause-put g c = put_or c.args.hand c.put_piece.result c.put_piece.ensures.put
