use Rattle.std.proofs.Common.{ℕ, sym, ap, ◌∙◌, subst}
use Rattle.std.specs.Prelude.{Option, position}
use Rattle.corr_core.specs.IdSlotWord.{parts}
use Rattle.rpc_reader.specs.ReaderBooks.{books}
use Rattle.rpc_reader.specs.Met.{is_for}
use Rattle.rpc_reader.specs.PostingAtReadingEnd.{LostBy}
use Rattle.rpc_reader.proofs.PostsToEachCall.{first_responds, first_inside, stands}
use Rattle.rpc_reader.proofs.posting.end_lost.Goals as goal

pub end_answered-requires-clause-response : goal.end_answered-requires-clause-response
end_answered-requires-clause-response c = let w = parts c.args.lock.word.0 in
    first_responds c.args.lock.slot w c.args.calls.now.early.items c.in-Some.at c.remove-frame.result (sym c.in-Some.is ∙ c.first_for.ensures ∙ ap (position (is_for c.args.lock.slot w)) c.as_slice.ensures.value) c.remove-frame.ensures.value

pub returns-in-Some-clause-lost : goal.returns-in-Some-clause-lost
returns-in-Some-clause-lost c = let w = parts c.args.lock.word.0 in let early = c.args.calls.now.early.items in let first = sym c.in-Some.is ∙ c.first_for.ensures ∙ ap (position (is_for c.args.lock.slot w)) c.as_slice.ensures.value in let ended = c.end_answered.ensures.ended in
    subst (λ (o : Option ℕ). LostBy c.args.lock.slot w c.args.lock.content c.args.code o (books c.args.calls.now) (books c.end_answered.new.calls)) first
    (c.remove-frame.result, stands early c.in-Some.at c.remove-frame.result (first_inside c.args.lock.slot w early c.in-Some.at c.remove-frame.result first) c.remove-frame.ensures.value, ap (λ v. v.items) c.end_answered.ensures.early ∙ c.remove-frame.ensures.items, record { ended = ended.ended; told = ended.told })
