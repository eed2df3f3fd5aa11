use Rattle.std.proofs.Common.{ap, sym, subst, ◌∙◌, arith}
use Rattle.std.proofs.lemmas.List.{length-map}
use Rattle.std.proofs.lemmas.List.Sorted.{All-permutation}
use Rattle.sock_table.specs.LinkPasses.{IsPass}
use Rattle.sock_open.specs.NewTableContents.{IsNewSeat}
use Rattle.sock_open.specs.SocketTableOpening.{IsRoom}
use Rattle.corr_id.proofs.TestingOneLock.{new_sits}
use Rattle.call_client.specs.rpc_client.proofs.NewSeatsOwnList.{passes_all}
use Rattle.call_run.specs.Threads.{opens_of}
use Rattle.call_run.specs.Hired.{IsNewId, AreHired}
use Rattle.call_run.proofs.Manning.{enough, share}
use Rattle.call_run.proofs.running.crew_of.Goals as goal

pub next_seats-seat-requires : goal.next_seats-seat-requires
next_seats-seat-requires g c = let many = c.requires.as_many in let a = many.0 in let b = many.1 in (omega arith, omega arith)

pub hire-main-requires-clause-enough : goal.hire-main-requires-clause-enough
hire-main-requires-clause-enough g c = enough c.args.tables.now.socks.rule.plan c.args.tables.now.ids.plan c.args.cast.main.tasks.items c.args.cast.rooms.items c.args.passes.items c.reverse.new.self.items c.requires.links c.requires.may c.reverse.ensures.items

pub hire_all-requires-clause-may : goal.hire_all-requires-clause-may
hire_all-requires-clause-may g c = let z = c.args.tables.now.socks.rule.table.shared.table_id in let p = c.args.tables.now.socks.rule.plan in let y = c.args.tables.now.ids.table.shared.table_id in let e = c.hire-main.ensures in let r = c.requires in
    (share z p y c.args.tables.now.ids.plan c.args.cast.main.tasks.items c.args.cast.rooms.items c.args.dealt.items c.next_seats-seat.new.seats.items c.next_seats-seat.result.0 c.args.ids.items c.next_seats-seat.new.ids.items c.next_seats-seat.result.1 c.args.passes.items c.reverse.new.self.items c.hire-main.new.all.items c.hire-main.result.caller.passes.items
    r.dealt r.ids r.as_many r.passes r.links r.may r.cast.rooms c.next_seats-seat.ensures.seats c.next_seats-seat.ensures.ids c.reverse.ensures.items
    (All-permutation (IsPass z p) c.args.passes.items c.reverse.new.self.items c.reverse.ensures.permutation (passes_all z p 0 c.args.passes.items r.passes)) e.passes e.count).others

pub hire_all-requires-clause-room : goal.hire_all-requires-clause-room
hire_all-requires-clause-room g c = subst (λ n. IsRoom n c.args.cast.workers) (length-map c.args.cast.rooms.items (λ r. r.tasks.items)) c.requires.cast.workers

pub returns : goal.returns
returns g c = let z = c.args.tables.now.socks.rule.table.shared.table_id in let p = c.args.tables.now.socks.rule.plan in let y = c.args.tables.now.ids.table.shared.table_id in let e = c.hire-main.ensures in let w = c.hire-main.result in let r = c.requires in
    let s = share z p y c.args.tables.now.ids.plan c.args.cast.main.tasks.items c.args.cast.rooms.items c.args.dealt.items c.next_seats-seat.new.seats.items c.next_seats-seat.result.0 c.args.ids.items c.next_seats-seat.new.ids.items c.next_seats-seat.result.1 c.args.passes.items c.reverse.new.self.items c.hire-main.new.all.items c.hire-main.result.caller.passes.items
    r.dealt r.ids r.as_many r.passes r.links r.may r.cast.rooms c.next_seats-seat.ensures.seats c.next_seats-seat.ensures.ids c.reverse.ensures.items
    (All-permutation (IsPass z p) c.args.passes.items c.reverse.new.self.items c.reverse.ensures.permutation (passes_all z p 0 c.args.passes.items r.passes)) e.passes e.count in record {
      main_is = ap (λ v. v.items) e.others.1;
      main_hired = record {
        number = e.others.0;
        seat = subst (IsNewSeat z p) (sym e.seats.0) s.seat;
        ids = subst (IsNewId y) (sym e.seats.1) s.id;
        links = s.links;
        count = e.count ∙ sym (ap (λ v. opens_of v.items) e.others.1);
        nothing = e.nothing;
        go = (let has = new_sits y c.next_seats-seat.result.1 s.id in e.go z y p s.seat has.0 has.1 s.passes);
      };
      hired = subst (λ k. AreHired z p y 1 k c.hire_all.new.workers.items) s.next c.hire_all.ensures.hired;
      tasks = c.hire_all.ensures.tasks;
      may = r.may;
      kit = r.cast.kit;
    }
