use Rattle.std.proofs.Common.{ℕ, ap, subst, length, arith, ◌∙◌}
use Rattle.std.proofs.lemmas.List.{length-map}
use Rattle.call_run.specs.CrewOfRun.{IsRoomFor}
use Rattle.call_run.proofs.running.prepare.Goals as goal

pub returns : goal.returns
returns g c = let n = length-map c.args.clients.items (λ v. v.items) in let m = c.len-count.ensures in let k = c.args.clients.ok.0 in let l = c.in_ok-left.ensures in let o = ap length c.in_ok-openings.ensures in let v = c.in_ok-openings.openings.ok.0 in record {
  main_is = ap (λ v. v.items) c.in_ok-main.ensures.tasks;
  main_room = c.in_ok-main.ensures.room;
  rooms = c.in_ok-rooms.ensures.rooms;
  tasks = c.in_ok-rooms.ensures.tasks;
  workers = (c.in_ok-workers.ensures.items, c.in_ok-workers.ensures.len, c.in_ok-workers.ensures.exact ∙ omega arith);
  kit = record {
    openings_are = c.in_ok-openings.ensures;
    names = (c.in_ok-names.ensures.items, c.in_ok-names.ensures.len, c.in_ok-names.ensures.exact ∙ omega arith);
    left = subst (λ (x : ℕ). IsRoomFor x c.in_ok-left.left) (omega arith) l;
    last = (c.in_ok-last.ensures.items, c.in_ok-last.ensures.len, c.in_ok-last.ensures.exact);
  };
}
