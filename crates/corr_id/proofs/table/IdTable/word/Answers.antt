use Rattle.std.proofs.Common.{arith}
use Rattle.corr_id.proofs.TokensOfIdCalls.{found_noted, noted_now}
use Rattle.corr_id.proofs.table.IdTable.word.Goals as goal

pub returns-clause-found : goal.returns-clause-found
returns-clause-found g c = rw (← c.in-Some.ensures.some.0) (λ inside. (found_noted c.in-Some.at c.load_id_word.result c.args.seat.now.me.0 c.load_id_word.new.seat.me.0 c.load_id_word.ensures.saw, omega (arith, c.load_id_word.ensures.first)))

pub returns-clause-found_now : goal.returns-clause-found_now
returns-clause-found_now g c = rw (← c.in-Some.ensures.some.0) (λ inside. noted_now c.in-Some.at c.load_id_word.result c.args.seat.now.me.0 c.load_id_word.new.seat.me.0 c.load_id_word.ensures.saw)
