use Rattle.std.proofs.Common.{◌≡◌, ◌<◌, length, rules, ◌∙◌, arith}
use Rattle.rpc_reader.proofs.Series.{stand_next}
use Rattle.link_crew.proofs.EndsMeetInTurn.{met_next}
use Rattle.link_crew.proofs.meeting.meet_all.Goals as goal

pub meets-preserved : goal.meets-preserved
meets-preserved g c =
    let i = c.meets.one-index in let v = c.meet.new.ends in let e = c.meet.ensures in let on = c.meets.invariant in
    let lt : i < length c.args.ends.now = (let long : length c.meets.ends ≡ length c.args.ends.now = on.stand.sized in omega arith) in record {
      stand = stand_next i c.args.ends.now c.meets.ends v on.stand (search rules);
      met = met_next g.L.O.Out.state g.L.P.Peer.state g.L.I.In.state i c.args.ends.now c.meets.ends c.one-item.result v on.stand lt on.met (record { out = e.out; peer = e.peer; inn = e.inn });
      says = e.says ∙ on.says;
    }
