use Rattle.std.proofs.Common.{sym, ◌∙◌}
use Rattle.corr_core.specs.IdSlotWord.{parts, posted_word}
use Rattle.call_slots.proofs.Packing.{left_is, posted_open}
use Rattle.call_slots.proofs.words.locked.Goals as goal

pub returns : goal.returns
returns c =
    let w = parts c.args.from.0 in
    left_is c.args.found c.args.from.0 c.lock_id.result.next (posted_word w 0) (λ e. (c.lock_id.ensures.won e).0 ∙ sym (posted_open w 0 c.requires)) (λ n. (c.lock_id.ensures.lost n).0)
