use Rattle.std.proofs.Common.{ℕ, ◌≡◌, ◌≢◌, ⊎_elim, ap, ◌∙◌, arith}
use Rattle.corr_core.specs.IdSlotWord.{parts, posted_word}
use Rattle.corr_core.specs.PlainCallId.{Queue, IsEvent}
use Rattle.corr_core.proofs.IdWordEvents.{queued, for_error}
use Rattle.corr_core.proofs.steps.post_id.Goals as goal

pub returns-clause-queues : goal.returns-clause-queues
returns-clause-queues c here two who poster =
    let w = parts c.args.from.0 in let x = parts c.exchanged.result.next in let e : ℕ = c.error_bits.result in
    let same : x ≡ posted_word w e = ap parts (c.exchanged.ensures.won here).0 ∙ c.posted.ensures in
    let room : w.second ≡ 0 = ⊎_elim (λ z. absurd (omega arith)) (λ z. z.1) c.requires.from in
    let some_error : e ≢ 0 = (let low = c.error_bits.ensures.0 in λ z. omega arith) in
    for_error (λ n. IsEvent (Queue poster n) who w x) c.args.attempt c.args.code e c.error_bits.ensures.2 (queued who poster e w x same two room some_error)
