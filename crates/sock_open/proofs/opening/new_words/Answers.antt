use Rattle.std.proofs.Common.{arith, ap, set}
use Rattle.sock_open.proofs.NewTableWords.{none_begun, one_begun, all_begun}
use Rattle.sock_open.proofs.opening.new_words.Goals as goal

pub loop-slot-init : goal.loop-slot-init
loop-slot-init c = none_begun c.args.plan.now _ c.in_ok-words.words.items (c.in_ok-words.ensures.items_if_clones_equal (λ y e. e)) (omega (arith, c.word_count-count.ensures))

pub loop-slot-preserved : goal.loop-slot-preserved
loop-slot-preserved c = one_begun c.args.plan.now c.loop-slot.slot c.pack-first.result.0 c.loop-slot.words.items _ (ap (λ x. set c.loop-slot.words.items x c.pack-first.result.0) c.ref_index.ensures) (omega (arith, c.pack-first.ensures.word)) c.loop-slot-test.true c.loop-slot.invariant

pub returns : goal.returns
returns c = all_begun c.args.plan.now c.loop-slot.slot c.loop-slot.words.items c.loop-slot-test.false c.loop-slot.auto.slot-end c.loop-slot.invariant
