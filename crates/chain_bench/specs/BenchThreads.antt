-- The threads that there may be.
use Rattle.atomic_table.specs.Seated.{TableId}
use Rattle.sock_words.specs.declared.plain.Plan.{Plan}
use Rattle.write_chain.specs.ReadyToSend.{IsSpent}
use Rattle.chain_bench.specs.declared.crew.Senders.{Senders}
use Rattle.chain_bench.specs.declared.crew.AllSent.{AllSent}
use Rattle.chain_bench.specs.SenderWithOneReference.{MaySend}

-- each knows the socket, and sent nothing yet
pub record AreSenders (z : TableId) (p : Plan) (s : Senders) : Type 0 where
  pub one : MaySend z p s.one
  pub two : MaySend z p s.two
  pub three : MaySend z p s.three
  pub four : MaySend z p s.four

-- the seat of each holds nothing any more
pub record AreSpent (z : TableId) (p : Plan) (s : AllSent) : Type 0 where
  pub one : IsSpent z p s.one.seat
  pub two : IsSpent z p s.two.seat
  pub three : IsSpent z p s.three.seat
  pub four : IsSpent z p s.four.seat
