use Rattle.std.proofs.Common.{◌∙◌, arith}
use Rattle.sock_core.proofs.OnePlaceWordMore.{places_last}
use Rattle.sock_core.proofs.finished.gather_places.Goals as goal

pub loop-number-preserved : goal.loop-number-preserved
loop-number-preserved c = record {
  told = c.push_reserved.ensures.items ∙ places_last c.args.plan.now c.args.words.now c.loop-number.number c.loop-number.places.items (record { 0 = c.word_at.result }) c.loop-number.invariant.told c.word_at.ensures;
  many = let a = c.push_reserved.ensures.len in let b = c.loop-number.invariant.many in omega arith;
  room = c.push_reserved.ensures.capacity ∙ c.loop-number.invariant.room;
}
