use Rattle.std.proofs.Common.{◌≡◌, ℕ, List, Some, None, refl, sym, ap, ◌∙◌, subst}
use Rattle.corr_core.specs.IdSlotWord.{parts}
use Rattle.corr_id.specs.SeatBehindIdCalls.{HasId, LacksId}
use Rattle.prpc_frame.specs.declared.frame.Frame.{Frame}
use Rattle.rpc_reader.specs.ReaderBooks.{Books, books}
use Rattle.rpc_reader.specs.Met.{FrameMet}
use Rattle.rpc_reader.specs.PostingAtReadingEnd.{call_at, kept_at}
use Rattle.rpc_reader.proofs.Locks.{open_still, rests_then, rests_quiet}
use Rattle.rpc_reader.proofs.PostsToEachCall.{found_of, gone_last, kept_is, met_kept, last_after}
use Rattle.rpc_reader.proofs.posting.post_last.Goals as goal
use Rattle.sock_words.specs.PackedWords.{id_slot, id_first}

pub returns-then-lacks_id-clause-rest : goal.returns-then-lacks_id-clause-rest
returns-then-lacks_id-clause-rest g c = rests_quiet c.args.calls.now.seat c.word.new.seat c.requires.seat.free c.word.ensures.seat c.word.ensures.quiet

pub returns-then-lacks_id-clause-met_or_posted : goal.returns-then-lacks_id-clause-met_or_posted
returns-then-lacks_id-clause-met_or_posted g c = let id = c.id_at.result in
    gone_last c.args.ids.now.plan.slots c.args.code c.args.word.0 id c.word.result (books c.args.calls.now) c.word.new.seat.me.0 c.id_at.ensures.id c.word.ensures.quiet c.word.ensures.found c.word.ensures.no_slot
    (subst (λ (v : ℕ). LacksId (parts c.word.result) v) (c.first.ensures ∙ sym c.id_at.ensures.of_parts.1) (c.lacks_id.ensures.lacks c.if-lacks_id.true))

pub meet-requires : goal.meet-requires
meet-requires g c = open_still c.args.ids.now.table.shared.table_id c.args.calls.now.seat c.word.new.seat c.requires.seat (rests_quiet c.args.calls.now.seat c.word.new.seat c.requires.seat.free c.word.ensures.seat c.word.ensures.quiet)

pub returns-in-Some-clause-rest : goal.returns-in-Some-clause-rest
returns-in-Some-clause-rest g c = rests_then c.args.calls.now.seat c.word.new.seat c.meet.new.calls.seat (rests_quiet c.args.calls.now.seat c.word.new.seat c.requires.seat.free c.word.ensures.seat c.word.ensures.quiet) c.meet.ensures.rest

pub returns-in-Some-clause-met_or_posted : goal.returns-in-Some-clause-met_or_posted
returns-in-Some-clause-met_or_posted g c = let id = c.id_at.result in let w = c.args.word.0 in let b : Books = books c.args.calls.now in let frame = c.remove-frame.result in
    let has : HasId (parts c.word.result) (id_first id) = subst (λ (v : ℕ). HasId (parts c.word.result) v) (c.first.ensures ∙ sym c.id_at.ensures.of_parts.1) (c.lacks_id.ensures.has c.if-lacks_id.false) in
    let first : Some c.in-Some.at ≡ kept_at w c.word.result b.early = sym c.in-Some.is ∙ c.first_for.ensures ∙ kept_is c.slot.result (id_slot (call_at w)) c.word.result c.word.result c.as_slice.result.now b.early (c.slot.ensures ∙ sym c.id_at.ensures.of_parts.0 ∙ ap id_slot c.id_at.ensures.id) refl c.as_slice.ensures.value in
    met_kept c.args.ids.now.plan.slots c.args.code w c.word.result c.in-Some.at b (books c.meet.new.calls) c.word.new.seat.me.0 frame c.word.ensures.quiet (found_of c.args.ids.now.plan.slots w id c.word.result c.word.new.seat.me.0 c.id_at.ensures.id c.word.ensures.found c.word.ensures.no_slot has) first c.remove-frame.ensures.value
    (subst (λ (l : List Frame). FrameMet c.args.ids.now.plan.slots frame (record b { view = c.word.new.seat.me.0; early = l }) (books c.meet.new.calls)) c.remove-frame.ensures.items c.meet.ensures.met)

pub post_code-requires-clause-seat : goal.post_code-requires-clause-seat
post_code-requires-clause-seat g c = open_still c.args.ids.now.table.shared.table_id c.args.calls.now.seat c.word.new.seat c.requires.seat (rests_quiet c.args.calls.now.seat c.word.new.seat c.requires.seat.free c.word.ensures.seat c.word.ensures.quiet)

pub post_code-requires-clause-none_kept : goal.post_code-requires-clause-none_kept
post_code-requires-clause-none_kept g c = let id = c.id_at.result in let w = c.args.word.0 in let b : Books = books c.args.calls.now in
    let has : HasId (parts c.word.result) (id_first id) = subst (λ (v : ℕ). HasId (parts c.word.result) v) (c.first.ensures ∙ sym c.id_at.ensures.of_parts.1) (c.lacks_id.ensures.has c.if-lacks_id.false) in
    let none_ : None ≡ kept_at w c.word.result b.early = sym c.in-None.is ∙ c.first_for.ensures ∙ kept_is c.slot.result (id_slot (call_at w)) c.word.result c.word.result c.as_slice.result.now b.early (c.slot.ensures ∙ sym c.id_at.ensures.of_parts.0 ∙ ap id_slot c.id_at.ensures.id) refl c.as_slice.ensures.value in
    (c.word.result, found_of c.args.ids.now.plan.slots w id c.word.result c.word.new.seat.me.0 c.id_at.ensures.id c.word.ensures.found c.word.ensures.no_slot has, sym none_)

pub returns-in-None-clause-rest : goal.returns-in-None-clause-rest
returns-in-None-clause-rest g c = rests_then c.args.calls.now.seat c.word.new.seat c.post_code.new.calls.seat (rests_quiet c.args.calls.now.seat c.word.new.seat c.requires.seat.free c.word.ensures.seat c.word.ensures.quiet) c.post_code.ensures.rest

pub returns-in-None-clause-met_or_posted : goal.returns-in-None-clause-met_or_posted
returns-in-None-clause-met_or_posted g c = last_after c.args.ids.now.plan.slots c.args.code c.args.word.0 (books c.args.calls.now) (books c.post_code.new.calls) c.word.new.seat.me.0 c.word.ensures.quiet c.post_code.ensures.posted
