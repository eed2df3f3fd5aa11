use Rattle.std.proofs.Common.{◌≡◌, ◌≤◌, length, map, count_by, take, true, false, IfSome}
use Rattle.std.specs.List.{AllByRecursion}
use Rattle.sock_io.specs.declared.link.Ends.{Ends}
use Rattle.sock_io.specs.declared.link.Mode.TheVariants as mode
use Rattle.sock_io.specs.LinkHalves.{end_of}
use Rattle.script_items.specs.LineMeaning.{item}
use Rattle.script_links.specs.LinksGivenBack.{AreUntouched, SameConnections, is_open_line, specs_of}
use Rattle.script_links.specs.OfferedLinks.{AreAsked, TellOffers}
use Rattle.script_links.specs.OpenedLinkEnds.{AreOpened}
use Rattle.script_links.proofs.links.open_links.Given as goal

abbrev pub invariant-loop-line : goal.invariant-loop-line
invariant-loop-line g l = record {
  opened : length (g.L.Linker.state l.links).asked ≡ length l.ends.items;
  asked : (g.L.Linker.state l.links).asked ≡ specs_of l.fn.mode (map item (take l.line-index l.lines));
  offers : TellOffers g.L.Linker.goes_by_shape g.L.O.Out.state g.L.I.In.state → AreAsked g.L.Linker.goes_by_shape (g.L.Linker.state l.links).asked (map (λ e. g.L.O.Out.state e.out) l.ends.items) (map (λ e. g.L.I.In.state e.inn) l.ends.items);
  ends : AreOpened g.L.Linker.tells_in g.L.O.Out.state g.L.P.Peer.state g.L.I.In.state (g.L.Linker.state l.links).asked l.ends.items;
  fresh : AreUntouched 0 (map (λ e. end_of (g.L.O.Out.state e.out) (g.L.I.In.state e.inn)) l.ends.items);
  unfinished : AllByRecursion (λ (e : Ends g.row.L-O.Denot g.row.L-I.Denot g.row.L-P.Denot). (g.L.O.Out.state e.out).finished ≡ false) l.ends.items;
  unclosed : AllByRecursion (λ (e : Ends g.row.L-O.Denot g.row.L-I.Denot g.row.L-P.Denot). IfSome (g.L.I.In.state e.inn).closing (λ closing. closing ≡ false)) l.ends.items;
  prompt_each : (g.L.Linker.state l.initial.links).always_ready ≡ true → l.fn.mode ≡ mode.Loop → AllByRecursion (λ (e : Ends g.row.L-O.Denot g.row.L-I.Denot g.row.L-P.Denot). (g.L.O.Out.state e.out).always_ready ≡ true) l.ends.items;
  count : length l.ends.items ≡ count_by is_open_line (take l.line-index l.lines);
  back : (g.L.Linker.state l.links).back ≡ (g.L.Linker.state l.initial.links).back;
  always_ready : (g.L.Linker.state l.links).always_ready ≡ (g.L.Linker.state l.initial.links).always_ready;
  connections : SameConnections (g.L.Linker.state l.initial.links) (g.L.Linker.state l.links);
  later : (g.L.Linker.state l.initial.links).faults ≤ (g.L.Linker.state l.links).faults;
  kept : (g.L.Linker.state l.links).faults ≡ (g.L.Linker.state l.initial.links).faults;
}
