use Rattle.std.proofs.Common.{[], sym, ◌∙◌}
use Rattle.std.proofs.lemmas.List.{length-map}
use Rattle.sock_core.proofs.MachineMaking.{are_for, as_many_seats, as_many_links, as_many_opens, is_made}
use Rattle.sock_core.proofs.machine.Machine.of.Goals as goal

pub start-requires-clause-for_ : goal.start-requires-clause-for_
start-requires-clause-for_ g c = are_for c.args.script c.requires.script _ _ c.into_wanted.ensures.plan c.into_wanted.ensures.id_plan _ c.into_wanted.ensures.tasks _ c.into_wanted.ensures.calls_are _ c.into_wanted.ensures.opens_are

pub start-requires-clause-seats : goal.start-requires-clause-seats
start-requires-clause-seats g c = c.into_wanted.result.clients.ok.0 ∙ (sym (length-map c.into_wanted.result.clients.items (λ tasks. tasks.items)) ∙ as_many_seats c.args.script c.requires.script _ _ c.into_wanted.ensures.plan c.into_wanted.ensures.id_plan _ c.into_wanted.ensures.tasks _ c.into_wanted.ensures.calls_are _ c.into_wanted.ensures.opens_are)

pub start-requires-clause-links : goal.start-requires-clause-links
start-requires-clause-links g c = (c.args.ends.ok.0 ∙ c.requires.links ∙ as_many_links c.args.script c.requires.script _ _ c.into_wanted.ensures.plan c.into_wanted.ensures.id_plan _ c.into_wanted.ensures.tasks _ c.into_wanted.ensures.calls_are _ c.into_wanted.ensures.opens_are, as_many_opens c.args.script c.requires.script _ _ c.into_wanted.ensures.plan c.into_wanted.ensures.id_plan _ c.into_wanted.ensures.tasks _ c.into_wanted.ensures.calls_are _ c.into_wanted.ensures.opens_are)

pub returns-clause-made : goal.returns-clause-made
returns-clause-made g c = is_made c.args.script c.into_wanted.result.plan c.into_wanted.result.id_plan _ c.into_wanted.result.calls.items c.into_wanted.result.opens.items c.in_ok-machine.machine c.into_wanted.ensures.plan c.into_wanted.ensures.id_plan c.into_wanted.ensures.tasks c.into_wanted.ensures.calls_are c.into_wanted.ensures.opens_are
    c.in_ok-machine.ensures.core c.in_ok-machine.ensures.plan c.in_ok-machine.ensures.opens c.in_ok-machine.ensures.agrees c.run_first.new.self c.run_first.ensures.ran c.run_first.ensures.rest

pub returns-clause-over : goal.returns-clause-over
returns-clause-over g c = let start = c.in_ok-machine.ensures.over in let ran = c.run_first.ensures.ran in record {
  enough = (c.run_first.ensures.enough, ran.same.0.ending ∙ start.enough.1);
  ends = ran.ends ∙ start.ends;
  outs = λ all. ran.same.1.always_ready (start.outs all);
  tell = λ all. ran.same.1.tell (start.tell all);
  offers = λ k serve end h. ran.offers (λ k. []) (λ k. []) c.in_ok-machine.ensures.agrees.0 c.in_ok-machine.ensures.agrees.1 k serve end (start.offers k serve end h);
  shapes = λ k pacing h. ran.shapes k pacing (start.shapes k pacing h);
}
