use Rattle.std.proofs.Common.{Bool, true, false, ◌+◌, ◌<◌, ◌≤◌, refl, ap, ◌∙◌, arith, IsTrue}
use Rattle.corr_core.specs.IdSlotWord.{Parts, parts}
use Rattle.corr_core.proofs.IdWordEvents.{unlocked}
use Rattle.corr_core.proofs.steps.unlock_id.Goals as goal
use Rattle.sock_words.specs.PackedWords.{bit}

-- the attempt that is advanced to is one of the range
room_of : (advance : Bool) (w : Parts) → w.attempt + 2 ≤ w.range → (IsTrue advance → w.attempt + 2 < w.range) → w.attempt + bit advance + 2 ≤ w.range
room_of true w some more = let lt = more refl in omega arith
room_of false w some more = omega arith

pub returns-clause-event : goal.returns-clause-event
returns-clause-event c here some who = let w = parts c.args.from.0 in
    unlocked who c.args.advance w (parts c.exchanged.result.next) (ap parts (c.exchanged.ensures.won here).0 ∙ c.unlocked.ensures) c.requires.from (room_of c.args.advance w some c.requires.room)
