use Rattle.std.proofs.Common.{◌≡◌, ℕ, List, ◌++◌, length, take, drop, sym, ap, ◌∙◌, subst}
use Rattle.std.proofs.Math.Seq.{take-append_seam}
use Rattle.sock_words.specs.declared.place_word.PlaceWord.{PlaceWord}
use Rattle.sock_words.specs.Totals.{total}
use Rattle.sock_table.specs.ClosedSocketTable.{AllDone, ClosedBy}
use Rattle.exec_queue.specs.LinesInOrder.{AreLinesOf}
use Rattle.exec_queue.proofs.EndOfQueue.{all_done, all_shares, ended, own_places}
use Rattle.exec_queue.proofs.queue.TaskQueue.finish.Goals as goal

-- the words in the vector that was lent
again : (words now : List PlaceWord) (n m : ℕ) (lines : List ℕ) (kept : ℕ) → words ≡ now → n ≡ m → AreLinesOf words n lines kept → AreLinesOf now m lines kept
again words now n m lines kept e f are = subst (λ (w : List PlaceWord). AreLinesOf w m lines kept) e (subst (λ (i : ℕ). AreLinesOf words i lines kept) f are)

-- and the lines that were written there
rewritten : (m len : ℕ) (xs old : List ℕ) → length xs ≡ len → take m (take len (xs ++ drop (length xs) old)) ≡ take m xs
rewritten m len xs old e = ap (take m) (ap (λ (n : ℕ). take n (xs ++ drop (length xs) old)) (sym e) ∙ take-append_seam xs (drop (length xs) old))

pub close_in-places-requires-clause-seats : goal.close_in-places-requires-clause-seats
close_in-places-requires-clause-seats g c = let q = c.args.self in subst (AllDone q.table.rule.table.shared.table_id q.table.rule.plan) (sym c.seats_of.ensures) (all_done q c.requires.all.0 c.args.submitters.items c.requires.all.1)

pub close_in-places-requires-clause-all : goal.close_in-places-requires-clause-all
close_in-places-requires-clause-all g c = ap (total (λ s. s.me.0.share)) c.seats_of.ensures ∙ (all_shares c.args.self c.requires.all.0 c.args.submitters.items c.requires.all.1 ∙ c.requires.count)

pub returns-clause-ended : goal.returns-clause-ended
returns-clause-ended g c = λ tss are once.
    let q = c.args.self in
    let ss = c.args.submitters.items in
    let plan = c.requires.plan in
    let closed = subst (λ x. ClosedBy g.O.Out.state q.table.rule.plan x c.close_in-places.result.places.items c.close_in-places.result.vrefs.items c.close_in-places.result.outs.items) c.seats_of.ensures c.close_in-places.ensures.closed in
    let count : length c.deref_mut.result.now ≡ 4096 = ap length c.deref_mut.ensures.value ∙ c.in-Ok.ensures.order in
    let own = again c.close_in-places.result.places.items c.deref.result.now 4096 (length c.deref_mut.result.now) _ _ (sym c.deref.ensures.value) (sym count) (own_places q tss ss are plan once closed) in
    let put = c.put_lines-accepted.ensures in
    ended q tss ss are plan once closed _
    (c.truncate.ensures.items ∙ (rewritten c.put_lines-accepted.result.accepted c.in-Ok.room.order.len c.put_lines-accepted.new.order c.in-Ok.room.order.items (put.sized ∙ c.deref_mut.ensures.len) ∙ put.lines _ _ own))
    (put.ran _ _ own) c.out_back-out.ensures
