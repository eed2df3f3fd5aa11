use Rattle.std.proofs.Common.{◌∷◌, ◌++◌, List, [], map, ap, sym, ◌∙◌, subst}
use Rattle.seat_programs.specs.declared.task.Task.{Task}
use Rattle.seat_programs.specs.ClientProgram.{client_from}
use Rattle.seat_programs.specs.Cores.{said, resolved}
use Rattle.seat_programs.specs.ScriptSetupToEnding.{programs}
use Rattle.client_seats.specs.ClientSeatState.{seat_data}
use Rattle.machine_model.specs.MachineParts.{AreBegun, said_first}
use Rattle.machine_steps.proofs.BegunTables.{begun_more, goes_first, told_more, map_last}
use Rattle.machine_tables.proofs.setup.seats_of.Goals as goal

pub loop-tasks-preserved : goal.loop-tasks-preserved
loop-tasks-preserved c =
    let sizes = c.args.sizes in
    let before = map (λ tasks. tasks.items) c.loop-tasks.yielded in
    let last = map_last (λ tasks. tasks.items) c.loop-tasks.yielded c.in-Some.tasks in
    let first = goes_first sizes (seat_data c.new-seat.result) (seat_data c.go_on.new.self) c.in-Some.tasks.items c.loop-tasks.outcomes c.go_on.new.outcomes c.new-seat.ensures c.go_on.ensures in
    record {
      seats = subst (λ (cs : List (List Task)). AreBegun sizes (map seat_data c.push.new.self.items) cs) (sym last)
          (subst (λ ss. AreBegun sizes ss (before ++ c.in-Some.tasks.items ∷ [])) (sym (ap (map seat_data) c.in_ok-push.ensures.items ∙ map_last seat_data c.loop-tasks.seats.items c.go_on.new.self))
          (begun_more sizes (map seat_data c.loop-tasks.seats.items) before (seat_data c.go_on.new.self) c.in-Some.tasks.items c.loop-tasks.invariant.seats first.0 first.1));
      told =
          first.2
          ∙ ap (said (resolved [] (client_from sizes [] c.in-Some.tasks.items))) c.loop-tasks.invariant.told
          ∙ sym (told_more sizes c.args.outcomes.now before c.in-Some.tasks.items)
          ∙ ap (λ (cs : List (List Task)). said_first c.args.outcomes.now (programs sizes cs)) (sym last);
    }
