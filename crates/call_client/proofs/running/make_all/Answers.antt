use Rattle.std.proofs.Common.{◌≡◌, ℕ, ◌+◌, add-one, drop, length, vec_capacity, true, inl, ap, ◌∙◌, sym, subst, refl, arith}
use Rattle.corr_id.specs.IdTableSeat.{Stays}
use Rattle.rpc_client.proofs.ToldAndGivenBack.{told_room}
use Rattle.call_errors.specs.ClientBooks.{HasNoLock}
use Rattle.call_attempts.proofs.LeftByAttempt.{err_by}
use Rattle.call_client.specs.ClientBetweenOperations.{stand}
use Rattle.call_client.specs.ClientRun.{MayMakeAll, while_retrying}
use Rattle.call_client.specs.ClientStopsMaking.{ComesTo, CameBy}
use Rattle.call_client.proofs.RunBehindOperation.{next_there, none_behind, may_next, may_rest, acted_passes, not_made_passes, begins_same, roomless, ran_none, ran_before, ran_more, short_at}
use Rattle.call_client.proofs.ClientAfterOperations.{more_made, same_go}
use Rattle.call_client.proofs.running.make_all.Goals as goal

pub returns-in_default-clause-go : goal.returns-in_default-clause-go
returns-in_default-clause-go g c = let o = c.make_room.ensures.others in let d = c.make_room.new.caller in same_go c.args.at.now.tables.now.socks.rule.table.shared.table_id c.args.at.now.tables.now.socks.rule.plan c.args.at.now.tables.now.ids.table.shared.table_id 0 (length c.args.tasks.now.items) c.args.caller.now (record d { calls = record d.calls { starved = true } }) c.requires.go (omega arith) o.0 c.make_room.ensures.lists.0 o.1 o.3 (subst (λ k. HasNoLock c.args.at.now.tables.now.ids.table.shared.table_id k) (sym o.2) c.requires.go.ids)

pub returns-in_default-clause-short : goal.returns-in_default-clause-short
returns-in_default-clause-short g c = let o = c.make_room.ensures.others in let d = c.make_room.new.caller in roomless g.O.Out.state c.args.at.now.tables.now.socks.rule.plan c.args.at.now.tables.now.ids.plan c.args.tasks.now.items c.args.caller.now d (record d { calls = record d.calls { starved = true } }) (begins_same c.args.caller.now d o.0 c.make_room.ensures.lists.0 o.1 o.2 c.make_room.ensures.lists.1) refl refl

pub makes-init : goal.makes-init
makes-init g c =
    let z = c.args.at.now.tables.now.socks.rule.table.shared.table_id in let p = c.args.at.now.tables.now.socks.rule.plan in let y = c.args.at.now.tables.now.ids.table.shared.table_id in let q = c.args.at.now.tables.now.ids.plan in
    let xs = c.args.tasks.now.items in let b = c.args.caller.now in let d = c.make_room.new.caller in let o = c.make_room.ensures.others in let same = c.make_room.ensures.lists in let room = c.in-Ok.ensures.room in record {
      rest = refl;
      few = omega arith;
      go = same_go z p y 0 0 b d c.requires.go (omega arith) o.0 same.0 o.1 o.3 (subst (λ k. HasNoLock y k) (sym o.2) c.requires.go.ids);
      ran = ran_before g.O.Out.state p q xs 0 b d d (begins_same b d o.0 same.0 o.1 o.2 same.1) (ran_none g.O.Out.state p q xs d);
      left = subst (λ v. MayMakeAll p q xs (length v.items)) (sym o.1) c.requires.may;
      share = ap (λ s. s.me.0.share) o.0;
      same = subst (λ k. Stays b.calls.seat k.seat) (sym o.2) (refl, refl, refl);
      held_room = omega (arith, c.len.ensures, c.args.tasks.now.ok.0, room.0);
      told_room = omega (arith, c.len.ensures, c.args.tasks.now.ok.0, room.1);
    }

pub make-requires-clause-may : goal.make-requires-clause-may
make-requires-clause-may g c = (may_next c.args.at.now.tables.now.socks.rule.plan c.args.at.now.tables.now.ids.plan c.makes.tasks.items c.next_of-task.new.tasks.items c.next_of-task.result (length c.be_ready.new.caller.passes.items) c.next_of-task.ensures (subst (λ v. MayMakeAll c.args.at.now.tables.now.socks.rule.plan c.args.at.now.tables.now.ids.plan c.makes.tasks.items (length v.items)) (sym c.be_ready.ensures.others.1) c.makes.invariant.left)).0

pub make-requires-clause-sent : goal.make-requires-clause-sent
make-requires-clause-sent g c = c.in_ok-be_ready.ensures.room c.if-last.false

pub makes-preserved : goal.makes-preserved
makes-preserved g c =
    let p = c.args.at.now.tables.now.socks.rule.plan in let q = c.args.at.now.tables.now.ids.plan in let xs = c.args.tasks.now.items in
    let i = c.makes.invariant in let n : ℕ = c.makes.made in let x = c.next_of-task.result in let rest = c.next_of-task.new.tasks.items in
    let d = c.makes.caller in let e = c.be_ready.new.caller in let f = c.make.new.caller in let ready = c.in_ok-be_ready.ensures in let m = c.in_ok-make.ensures.made in
    let next = next_there n xs rest x (i.rest ∙ c.next_of-task.ensures) in record {
      rest = subst (λ (k : ℕ). drop k xs ≡ rest) (sym (add-one n)) next.1;
      few = omega (arith, next.2);
      go = c.make.ensures.go;
      ran = ran_more g.O.Out.state p q xs n x c.args.caller.now d e f m.0 i.ran ready.retried m.1 c.be_ready.ensures.seen c.make.ensures.seen next.0 (ap (λ v. v.items) c.be_ready.ensures.others.2) m.2;
      left = may_rest g.O.Out.state p q c.makes.tasks.items rest x (stand e) (stand f) c.next_of-task.ensures (acted_passes g.O.Out.state p q x.number x.op m.0 (stand e) (stand f) m.1) (subst (λ v. MayMakeAll p q c.makes.tasks.items (length v.items)) (sym c.be_ready.ensures.others.1) i.left);
      share = c.make.ensures.share ∙ (c.be_ready.ensures.share ∙ i.share);
      same = (c.make.ensures.same.0 ∙ (c.be_ready.ensures.same.0 ∙ i.same.0), c.make.ensures.same.1 ∙ (c.be_ready.ensures.same.1 ∙ i.same.1), c.make.ensures.same.2 ∙ (c.be_ready.ensures.same.2 ∙ i.same.2));
      held_room = omega (arith, c.make.ensures.capacity.0, ap vec_capacity c.be_ready.ensures.others.0, i.held_room);
      told_room = omega (arith, c.make.ensures.capacity.1, ap vec_capacity c.be_ready.ensures.others.2, ap (λ v. length v.items) c.be_ready.ensures.others.2, i.told_room, told_room x.number m.0 e.outcomes.items f.outcomes.items m.2);
    }

pub returns-in_err-be_ready-clause-go : goal.returns-in_err-be_ready-clause-go
returns-in_err-be_ready-clause-go g c = more_made c.args.at.now.tables.now.socks.rule.table.shared.table_id c.args.at.now.tables.now.socks.rule.plan c.args.at.now.tables.now.ids.table.shared.table_id c.makes.made (length c.args.tasks.now.items) c.be_ready.new.caller c.be_ready.ensures.go c.makes.invariant.few

pub returns-in_err-be_ready-clause-short : goal.returns-in_err-be_ready-clause-short
returns-in_err-be_ready-clause-short g c = let p = c.args.at.now.tables.now.socks.rule.plan in let q = c.args.at.now.tables.now.ids.plan in let xs = c.args.tasks.now.items in
    err_by c.from_residual.result (λ _. CameBy g.O.Out.state p q (ComesTo g.O.Out.state p q true xs) xs c.makes.tasks.items c.args.caller.now c.be_ready.new.caller) (λ _. record {
      made = c.makes.made;
      few = c.makes.invariant.few;
      came = c.makes.caller;
      ran = c.makes.invariant.ran;
      told = c.be_ready.ensures.others.2;
      ends = while_retrying c.be_ready.new.caller.sent c.in_err-be_ready.ensures.ran_out record { held = ap (λ v. v.items) c.be_ready.ensures.others.0; passes = ap (λ v. v.items) c.be_ready.ensures.others.1 };
      left = inl c.makes.invariant.rest;
    })

pub returns-in_err-be_ready-clause-left : goal.returns-in_err-be_ready-clause-left
returns-in_err-be_ready-clause-left g c = subst (λ v. MayMakeAll c.args.at.now.tables.now.socks.rule.plan c.args.at.now.tables.now.ids.plan c.makes.tasks.items (length v.items)) (sym c.be_ready.ensures.others.1) c.makes.invariant.left

pub returns-then-last-clause-go : goal.returns-then-last-clause-go
returns-then-last-clause-go g c = more_made c.args.at.now.tables.now.socks.rule.table.shared.table_id c.args.at.now.tables.now.socks.rule.plan c.args.at.now.tables.now.ids.table.shared.table_id c.makes.made (length c.args.tasks.now.items) c.be_ready.new.caller c.be_ready.ensures.go c.makes.invariant.few

pub returns-then-last-clause-all : goal.returns-then-last-clause-all
returns-then-last-clause-all g c = record {
  made = c.makes.made;
  few = c.makes.invariant.few;
  came = c.makes.caller;
  ran = c.makes.invariant.ran;
  told = c.be_ready.ensures.others.2;
  ends = (none_behind c.makes.made c.args.tasks.now.items c.makes.invariant.few (c.makes.invariant.rest ∙ c.is_done-last.ensures.done c.if-last.true), c.in_ok-be_ready.ensures.retried);
  left = inl c.makes.invariant.rest;
}

pub returns-then-last-clause-left : goal.returns-then-last-clause-left
returns-then-last-clause-left g c = subst (λ v. MayMakeAll c.args.at.now.tables.now.socks.rule.plan c.args.at.now.tables.now.ids.plan c.makes.tasks.items (length v.items)) (sym c.be_ready.ensures.others.1) c.makes.invariant.left

pub returns-in_err-make-clause-go : goal.returns-in_err-make-clause-go
returns-in_err-make-clause-go g c = more_made c.args.at.now.tables.now.socks.rule.table.shared.table_id c.args.at.now.tables.now.socks.rule.plan c.args.at.now.tables.now.ids.table.shared.table_id (c.makes.made + 1) (length c.args.tasks.now.items) c.make.new.caller c.make.ensures.go (let next = next_there c.makes.made c.args.tasks.now.items c.next_of-task.new.tasks.items c.next_of-task.result (c.makes.invariant.rest ∙ c.next_of-task.ensures) in omega (arith, next.2))

pub returns-in_err-make-clause-short : goal.returns-in_err-make-clause-short
returns-in_err-make-clause-short g c = let p = c.args.at.now.tables.now.socks.rule.plan in let q = c.args.at.now.tables.now.ids.plan in let xs = c.args.tasks.now.items in
    let not = c.in_err-make.ensures.not_made in
    let s = short_at g.O.Out.state p q xs c.makes.made c.next_of-task.result c.next_of-task.new.tasks.items (stand c.makes.caller) (stand c.be_ready.new.caller) (stand c.make.new.caller) (c.makes.invariant.rest ∙ c.next_of-task.ensures) c.in_ok-be_ready.ensures.retried not.0 in
    err_by c.from_residual-in_err-make.result (λ _. CameBy g.O.Out.state p q (ComesTo g.O.Out.state p q true xs) xs c.next_of-task.new.tasks.items c.args.caller.now c.make.new.caller) (λ _. record {
      made = c.makes.made;
      few = c.makes.invariant.few;
      came = c.makes.caller;
      ran = c.makes.invariant.ran;
      told = not.1 ∙ c.be_ready.ensures.others.2;
      ends = s.0;
      left = s.1;
    })

pub returns-in_err-make-clause-left : goal.returns-in_err-make-clause-left
returns-in_err-make-clause-left g c = let p = c.args.at.now.tables.now.socks.rule.plan in let q = c.args.at.now.tables.now.ids.plan in
    may_rest g.O.Out.state p q c.makes.tasks.items c.next_of-task.new.tasks.items c.next_of-task.result (stand c.be_ready.new.caller) (stand c.make.new.caller) c.next_of-task.ensures (not_made_passes g.O.Out.state p q c.next_of-task.result.op (stand c.be_ready.new.caller) (stand c.make.new.caller) c.in_err-make.ensures.not_made.0)
    (subst (λ v. MayMakeAll p q c.makes.tasks.items (length v.items)) (sym c.be_ready.ensures.others.1) c.makes.invariant.left)
