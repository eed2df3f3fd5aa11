use Rattle.std.proofs.Common.{◌≡◌}
use Rattle.rpc_reader.proofs.Series.{StandFrom}
use Rattle.link_crew.specs.ComparedLinkEnds.{MetBelow}
use Rattle.link_crew.proofs.meeting.meet_all.Given as goal

abbrev pub invariant-meets : goal.invariant-meets
invariant-meets g l = record {
  stand : StandFrom l.one-index l.fn.ends l.ends;
  met : MetBelow g.L.O.Out.state g.L.P.Peer.state g.L.I.In.state l.one-index l.fn.ends l.ends;
  says : g.L.Linker.state l.links ≡ g.L.Linker.state l.fn.links;
}
