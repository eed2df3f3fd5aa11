-- What the seat of a test has.
use Rattle.std.proofs.Common.{◌≡◌, arith, ◌∙◌}
use Rattle.atomic_table.specs.Seated.{TableId}
use Rattle.atomic_table.specs.declared.shared.Seat.{Seat}
use Rattle.sock_words.specs.declared.plain.Plan.{Plan}
use Rattle.sock_model.specs.declared.view.View.{View}
use Rattle.write_chain.specs.SendingIntoChain.{HasRoom}
use Rattle.call_errors.specs.rpc_client.specs.SeatBetweenOperations.{MayAct, AtRest, SameRefs}
use Rattle.call_errors.specs.rpc_client.specs.AcceptedClientMessages.{OwnList}

pub still_may : {S : Type 0} (z : TableId) (p : Plan) (s t : Seat S View) → MayAct z p s → AtRest z p s t → SameRefs s.me.0 t.me.0 → MayAct z p t
still_may z p s t m r same = record { idle = r.idle; room = λ i il. (let a = m.room i il in let b = same.refs i in omega arith) }

pub own_room : (v w : View) → OwnList 0 v → w.lists ≡ v.lists → HasRoom w
own_room v w o same = record { made = o.made; taken_in = o.taken_in; lists = same ∙ o.lists; room = (let few = o.few in omega arith) }
