use Rattle.std.proofs.Common.{◌++◌, ◌∷◌, [], map, ap, ◌∙◌, sym, subst, length, length-append, arith}
use Rattle.std.specs.Prelude.{All}
use Rattle.std.proofs.lemmas.List.{map-append}
use Rattle.call_run.specs.declared.hiring.Room.{Room}
use Rattle.call_run.specs.Hired.{HasRoom}
use Rattle.call_run.proofs.Dealing.{all_snoc}
use Rattle.call_run.proofs.ClientsHandingIn.{more_left}
use Rattle.call_run.proofs.hiring.rooms_for.Goals as goal

pub clients-preserved : goal.clients-preserved
clients-preserved g c = let i = c.clients.invariant.2 in let one = c.in-Some.ensures.steps.0 in let e = c.in_ok-room.ensures in let was = c.clients.rooms.items in let r = c.in_ok-room.room in let pushed = c.push_reserved.ensures.items in let a = i.room in (
  tt,
  tt,
  record {
    rooms = subst (All HasRoom) (sym pushed) (all_snoc HasRoom was r i.rooms e.room);
    tasks = more_left (λ v. v.items) _ _ _ _ _ _ i.tasks one (ap (map (λ (y : Room g.row.O.Denot g.O.Out). y.tasks.items)) pushed ∙ (map-append (λ (y : Room g.row.O.Denot g.O.Out). y.tasks.items) was (r ∷ []) ∙ ap (λ v. map (λ (y : Room g.row.O.Denot g.O.Out). y.tasks.items) was ++ v.items ∷ []) e.tasks));
    room = omega (arith, a, ap length one, ap length pushed, length-append was (r ∷ []), c.push_reserved.ensures.capacity);
  },
)
