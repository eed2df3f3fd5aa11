use Rattle.corr_core.specs.IdSlotWord.{parts, unlocked_word}
use Rattle.call_slots.proofs.Packing.{left_is}
use Rattle.call_slots.proofs.words.unlocked.Goals as goal
use Rattle.sock_words.specs.PackedWords.{bit}

pub returns : goal.returns
returns c =
    left_is c.args.found c.args.from.0 c.unlock_id.result.next (unlocked_word (parts c.args.from.0) (bit c.args.advance)) (λ e. (c.unlock_id.ensures.won e).0) (λ n. (c.unlock_id.ensures.lost n).0)
