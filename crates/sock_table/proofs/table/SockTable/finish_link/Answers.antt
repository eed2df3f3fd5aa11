use Rattle.std.proofs.Common.{refl, ap}
use Rattle.sock_model.specs.ChainRows.{spent_hand}
use Rattle.sock_rule.specs.LinksInHand.{hand_of}
use Rattle.sock_table.proofs.SeatViewEndingLife.{goes_back}
use Rattle.sock_table.proofs.Learning.{finished_between, finished_tokens, finished_notes}
use Rattle.sock_table.proofs.table.SockTable.finish_link.Goals as goal

pub put_link-requires-clause-came : goal.put_link-requires-clause-came
put_link-requires-clause-came g c = goes_back 0 (spent_hand c.take_in.new.seat.me.0 (hand_of c.args.pass.link c.spend_pass-home.result.took.list c.spend_pass-home.result.next)) c.spend_pass-home.ensures.came refl (ap (λ m. m.0) c.spend_pass-home.ensures.view) c.finish.ensures.link c.finish.ensures.way c.finish.ensures.faults

pub returns-clause-between : goal.returns-clause-between
returns-clause-between g c = finished_between c.args.self.now.rule.plan c.args.seat.now.me.0 c.take_in.new.seat.me.0 c.args.pass.seat.me.0 c.spend_pass-home.new.seat.me.0 c.put_link.new.seat.me.0 c.args.pass.link c.spend_pass-home.result.next _ _ c.spend_pass-home.result.took.list
    c.requires.pass.2 (ap (λ m. m.0) c.take_in.ensures.view) (ap (λ m. m.0) c.spend_pass-home.ensures.view) c.finish.ensures.faults (ap (λ m. m.0) c.put_link.ensures.view) c.requires.between

pub returns-clause-same : goal.returns-clause-same
returns-clause-same g c = finished_tokens c.args.self.now.rule.plan c.args.seat.now.me.0 c.take_in.new.seat.me.0 c.args.pass.seat.me.0 c.spend_pass-home.new.seat.me.0 c.put_link.new.seat.me.0 c.args.pass.link c.spend_pass-home.result.next _ _ c.spend_pass-home.result.took.list
    c.requires.pass.2 (ap (λ m. m.0) c.take_in.ensures.view) (ap (λ m. m.0) c.spend_pass-home.ensures.view) c.finish.ensures.faults (ap (λ m. m.0) c.put_link.ensures.view) c.requires.between

pub returns-clause-finished : goal.returns-clause-finished
returns-clause-finished g c = finished_notes c.args.self.now.rule.plan c.args.seat.now.me.0 c.take_in.new.seat.me.0 c.args.pass.seat.me.0 c.spend_pass-home.new.seat.me.0 c.put_link.new.seat.me.0 c.args.pass.link c.spend_pass-home.result.next _ _ c.spend_pass-home.result.took.list
    c.requires.pass.2 (ap (λ m. m.0) c.take_in.ensures.view) (ap (λ m. m.0) c.spend_pass-home.ensures.view) c.finish.ensures.faults (ap (λ m. m.0) c.put_link.ensures.view) c.requires.between
