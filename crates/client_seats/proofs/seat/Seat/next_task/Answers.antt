use Rattle.std.proofs.Common.{◌≡◌, [], Bool, List, refl, ap, ◌∙◌, arith, if◌then◌else◌, true}
use Rattle.seat_programs.specs.ClientProgram.{HeldLife, operation, client_from, give_back}
use Rattle.client_seats.specs.declared.seat.Seat.{Seat}
use Rattle.seat_states.specs.ProgramAtPoint.{point_program}
use Rattle.client_seats.specs.ClientSeatState.{lives, retries, around, seat_data}
use Rattle.client_seats.proofs.GoingOn.{passed_on, comes_to_task, comes_to_end, none_in}
use Rattle.client_seats.proofs.seat.Seat.next_task.Goals as goal

pub returns-in-Some-begin : goal.returns-in-Some-begin
returns-in-Some-begin c =
    let seat : Seat = record c.loop-task.self { tasks = c.pop_front.new.self; held = c.begin.new.held; hand = c.begin.new.hand; point = c.in-Some-begin.point } in
    let a = around c.args.sizes (seat_data seat) in
    passed_on c.args.sizes _ (seat_data seat) _ c.loop-task.outcomes (lives c.loop-task.self.held.items) c.loop-task.self.tasks.items (point_program a c.in-Some-begin.point)
    c.requires.tasks (ap retries c.requires.none) (ap retries c.loop-task.invariant.none) c.loop-task.invariant.passed
    (comes_to_task a c.args.sizes (lives c.loop-task.self.held.items) c.loop-task.self.tasks.items c.in-Some.task c.pop_front.new.self.items c.in-Some-begin.point c.in-Some.ensures.items
    (c.in-Some-begin.ensures.some a refl refl refl refl
    ∙ ap (λ (leaving : Bool). operation c.args.sizes (lives c.loop-task.self.held.items) c.in-Some.task.number (λ (hs : List HeldLife). if leaving then give_back hs else client_from c.args.sizes hs c.pop_front.new.self.items) c.in-Some.task.op) c.loop-task.invariant.stays))
    refl

pub returns : goal.returns
returns c =
    let seat : Seat = record c.loop-task.self { tasks = c.pop_front.new.self; leaving = true; held = c.give_back-self.new.held; point = c.give_back-self.result } in
    let none : c.loop-task.self.tasks.items ≡ [] = none_in c.loop-task.self.tasks.items (omega (arith, c.loop-task.self.tasks.ok, c.in_default.ensures.cases)) in
    let a = around c.args.sizes (seat_data seat) in
    passed_on c.args.sizes _ (seat_data seat) _ c.loop-task.outcomes (lives c.loop-task.self.held.items) c.loop-task.self.tasks.items (point_program a c.give_back-self.result)
    c.requires.tasks (ap retries c.requires.none) (ap retries c.loop-task.invariant.none) c.loop-task.invariant.passed
    (comes_to_end a c.args.sizes (lives c.loop-task.self.held.items) c.loop-task.self.tasks.items c.give_back-self.result none (c.give_back-self.ensures a refl refl))
    refl
