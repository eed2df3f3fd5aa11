use Rattle.std.proofs.Common.{subst, ◌∙◌}
use Rattle.machine_model.specs.Machines.{MachineState}
use Rattle.machine_model.specs.MachineRuns.{SameLinks, PlayedOn}
use Rattle.sock_core.proofs.MachineBeforeEnding.{on_ok}
use Rattle.sock_core.proofs.SettlingRounds.{settles, settled_links}
use Rattle.sock_core.proofs.machine.Machine.settle.Goals as goal

pub returns-clause-settled : goal.returns-clause-settled
returns-clause-settled g c = on_ok c.play_on-2.result
    (λ ok. settles c.args.self.now c.play_on.new.self c.begin_ending.new.self c.run_first.new.self c.play_on-2.new.self c.in_ok-play_on.ensures.ok.0 c.begin_ending.ensures.plan.0 c.begin_ending.ensures.plan.1
    c.begin_ending.ensures.links c.begin_ending.ensures.ends c.begin_ending.ensures.core c.run_first.ensures.ran (subst (λ (m : MachineState). PlayedOn m c.play_on-2.new.self) c.tell_ending.ensures ok.0)) c.play_on-2.ensures.ok

pub returns-clause-ends : goal.returns-clause-ends
returns-clause-ends g c = settled_links c.args.self.now c.play_on.new.self c.begin_ending.new.self c.run_first.new.self c.play_on-2.new.self c.play_on.ensures.same.1 c.begin_ending.ensures.links c.begin_ending.ensures.ends c.run_first.ensures.ran.same.1
    (subst (λ (m : MachineState). SameLinks m c.play_on-2.new.self) c.tell_ending.ensures c.play_on-2.ensures.same.1)

pub returns-clause-says : goal.returns-clause-says
returns-clause-says g c = c.play_on-2.ensures.says ∙ c.play_on.ensures.says
