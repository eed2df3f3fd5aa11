-- Words that a seat stores while it writes a link: those of the messages that it drops.
use Rattle.std.proofs.Common.{◌≡◌, ℕ, ◌+◌, ◌<◌, true, sym, ap, arith}
use Rattle.sock_io.specs.LinkHalves.{OutState}
use Rattle.sock_words.specs.declared.plain.Plan.{Plan}
use Rattle.sock_words.specs.PackedWords.{socket_id_version, place_word}
use Rattle.sock_model.specs.declared.view.View.{View}
use Rattle.sock_model.specs.SocketTableLayout.{place_index}
use Rattle.sock_model.specs.MarkWeights.{is_met, is_saw}
use Rattle.slot_steps.proofs.RuleNumbers.{pair_is}
use Rattle.rpc_client.specs.sock_rule.specs.OnTable.{is_put, put_in}
use Rattle.rpc_client.specs.write_chain.specs.declared.right.Undelivered.{Undelivered}
use Rattle.rpc_client.specs.write_chain.specs.NotingWhileWriting.{Wrote, WroteDrop}
use Rattle.rpc_client.specs.write_chain.specs.WritingRightInHand.{FoundDead}
use Rattle.rpc_client.specs.write_chain.proofs.NotingWhileWriting.{wrote_more, wrote_stores}
use Rattle.sock_deeds.specs.Deeds.{IsDropWord}
use Rattle.sock_deeds.proofs.WordStoresOfDeeds.{note_is}
use Rattle.sock_words.specs.Totals.{total}

module _ {O : Type 0} {state : O → OutState} (p : Plan) (id x n : ℕ) where
  pub no_word : (v w : View) → Wrote state id v w → put_in x n w ≡ put_in x n v
  no_word v w a = ap (total (total (is_put x n))) (wrote_stores v w a)

  pub word_stays : (v w : View) → Wrote state id v w → IsDropWord p id v x n → IsDropWord p id w x n
  word_stays v w a d =
      let m = wrote_more (is_met (socket_id_version id) d.link) v w a in
      let s = wrote_more (is_saw (socket_id_version id + 1)) v w a in
      let met = d.met in
      let dead = d.dead in
      record { place = d.place; at_place = d.at_place; link = d.link; position = d.position; low = d.low; word_is = d.word_is; met = omega arith; dead = omega arith }

  -- behind a drop too
  pub word_kept : (msg : Undelivered) (v w : View) → WroteDrop state p id msg v w → IsDropWord p id v x n → IsDropWord p id w x n
  word_kept msg v w a d = let k = word_stays v (record w { stores = v.stores; drops = v.drops }) a.wrote d in record { place = k.place; at_place = k.at_place; link = k.link; position = k.position; low = k.low; word_is = k.word_is; met = k.met; dead = k.dead }

  -- the word of a drop
  pub word_dropped : (msg : Undelivered) (v w : View) → WroteDrop state p id msg v w → FoundDead id w → put_in x n v < put_in x n w → IsDropWord p id w x n
  word_dropped msg v w a dead less =
      let e = ap (total (total (is_put x n))) a.stores in
      let f = note_is x n record { place = place_index p msg.label.place; word = place_word true a.link a.position } v.stores in
      let q = pair_is x n (place_index p msg.label.place) (place_word true a.link a.position) (omega arith) in
      record { place = msg.label.place; at_place = sym q.0; link = a.link; position = a.position; low = a.low; word_is = sym q.1; met = a.met; dead = dead }
