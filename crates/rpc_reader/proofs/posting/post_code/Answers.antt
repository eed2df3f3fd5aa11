use Rattle.std.proofs.Common.{ℕ, refl, subst, arith}
use Rattle.std.specs.Prelude.{Option}
use Rattle.corr_id.specs.declared.posts.Posted.TheVariants as posted
use Rattle.corr_id.specs.SeatBehindIdCalls.{Found, is_saw}
use Rattle.corr_id.specs.PostAnswers.{PostOk}
use Rattle.rpc_reader.specs.PostingAtReadingEnd.{call_at}
use Rattle.rpc_reader.proofs.posting.post_code.Goals as goal
use Rattle.sock_words.specs.PackedWords.{id_slot}

pub returns-in-Queued-clause-posted : goal.returns-in-Queued-clause-posted
returns-in-Queued-clause-posted g c = let slots = c.args.ids.now.plan.slots in let w = c.args.word.0 in let v = c.args.calls.now.seat.me.0 in let u = c.post.new.seat.me.0 in let none_ = c.requires.none_kept in let queued = c.in-Queued.ensures.posted in
    let found : Found (id_slot (call_at w)) none_.0 u = let a = none_.1.0 in let b = queued.0.grows (id_slot (call_at w)) (is_saw none_.0) in omega arith in record {
      answer = posted.Queued;
      seen = u;
      posted = subst (λ (o : Option ℕ). PostOk slots v u (call_at w) c.args.code o posted.Queued) c.attempt_of-attempt.ensures.attempt (subst (λ (n : ℕ). PostOk slots v u n c.args.code c.attempt_of-attempt.result posted.Queued) c.id_at.ensures.id queued);
      none_kept = (none_.0, (found, none_.1.1), none_.2);
      then_ = refl;
    }
