use Rattle.std.proofs.Common.{arith}
use Rattle.sock_rule.specs.OnKey.{shows_by}
use Rattle.sock_rule.specs.Shows.{rose}
use Rattle.sock_rule.proofs.SendingOnRequestWords.{asks_on, asked, asked_seat}
use Rattle.sock_rule.proofs.table.RuleTable.claim_request.Goals as goal

pub fetch_or-found-requires : goal.fetch_or-found-requires
fetch_or-found-requires g c = let a = c.requires.seat in (a.0, omega (arith, c.request_index-index.ensures, c.args.self.now.sized, c.requires.request), (asks_on (shows_by c.args.self.now.table.shared.key) rose c.args.self.now.table.shared.key.plan c.args.self.now.plan _ _ _ a.1 a.2 c.args.self.now.planned c.args.at _ c.requires.request c.request_index-index.ensures c.requires.unclaimed))

pub returns-clause-asked : goal.returns-clause-asked
returns-clause-asked g c = rw c.claim_request.ensures.found (asked (shows_by c.args.self.now.table.shared.key) rose c.args.self.now.table.shared.key.plan c.args.self.now.plan c.args.self.now.table.shared.table_id.slots c.args.seat.now.id c.args.seat.now.me c.requires.seat.1 c.requires.seat.2 c.args.self.now.planned c.args.at _ c.requires.request c.request_index-index.ensures c.fetch_or-found.result c.fetch_or-found.new.seat.me c.fetch_or-found.ensures.2)

pub returns-clause-seat : goal.returns-clause-seat
returns-clause-seat g c = asked_seat _ _ c.args.seat.now c.fetch_or-found.new.seat c.args.at c.fetch_or-found.result c.requires.seat c.fetch_or-found.ensures.0 (asked (shows_by c.args.self.now.table.shared.key) rose c.args.self.now.table.shared.key.plan c.args.self.now.plan c.args.self.now.table.shared.table_id.slots c.args.seat.now.id c.args.seat.now.me c.requires.seat.1 c.requires.seat.2 c.args.self.now.planned c.args.at _ c.requires.request c.request_index-index.ensures c.fetch_or-found.result c.fetch_or-found.new.seat.me c.fetch_or-found.ensures.2)
