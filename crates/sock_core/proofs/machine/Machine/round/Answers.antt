use Rattle.std.proofs.Common.{◌≡◌, ℕ, true, List, sym, ap, subst, append-nil, arith, ◌+◌, ◌-◌, ◌++◌, ◌∙◌, refl}
use Rattle.sock_words.specs.declared.plain.Plan.{Plan}
use Rattle.seat_programs.specs.ScheduledRuns.{from_to}
use Rattle.machine_model.specs.Machines.{READERS}
use Rattle.sock_core.proofs.MachineBeforeEnding.{in_ok}
use Rattle.machine_model.proofs.Same.{both_join}
use Rattle.sock_core.proofs.Rounding.{RoundSoFar, round_begins, round_moved, round_still, round_went, round_stood, client_more, reader_more}
use Rattle.sock_core.proofs.machine.Machine.round.Goals as goal

pub loop-seat-init : goal.loop-seat-init
loop-seat-init g c = record {
  so_far = round_begins c.args.self.now c.requires.enough c.requires.rest;
  inside = let some_ = c.clients-seat-end.ensures.some in let is = c.clients-seat-end.ensures.count in omega (arith, some_, is);
  says = refl;
}

pub loop-seat-preserved : goal.loop-seat-preserved
loop-seat-preserved g c =
    let i = c.loop-seat.invariant in
    let t = c.in_ok-advance.ensures in
    let rest = t.rest (λ e. absurd (omega (arith, e))) i.so_far.rest in
    let more = client_more c.loop-seat.seat (omega arith) in
    elim c.if-is_moved.branch [
      | goal.then-is_moved w ↦ let moved = c.is_moved.ensures.moved w.if-is_moved.true in record {
        so_far = subst (RoundSoFar c.args.self.now c.advance.new.self (from_to 1 ((c.loop-seat.seat + 1) - 1))) (sym w.moved-is) (subst (λ (l : List ℕ). RoundSoFar c.args.self.now c.advance.new.self l true) more
            (round_moved c.args.self.now c.loop-seat.self c.advance.new.self (from_to 1 (c.loop-seat.seat - 1)) c.loop-seat.seat c.loop-seat.moved c.in_ok-advance.field-0 i.so_far t.tick t.left t.enough.1 rest moved.0 moved.1));
        inside = omega arith;
        says = c.advance.ensures.says ∙ c.loop-seat.invariant.says;
      }
      | goal.else-is_moved w ↦ record {
        so_far = subst (RoundSoFar c.args.self.now c.advance.new.self (from_to 1 ((c.loop-seat.seat + 1) - 1))) (sym w.moved-is) (subst (λ (l : List ℕ). RoundSoFar c.args.self.now c.advance.new.self l c.loop-seat.moved) more
            (round_still c.args.self.now c.loop-seat.self c.advance.new.self (from_to 1 (c.loop-seat.seat - 1)) c.loop-seat.seat c.loop-seat.moved c.in_ok-advance.field-0 i.so_far t.tick t.left t.enough.1 rest (c.is_moved.ensures.still w.if-is_moved.false)));
        inside = omega arith;
        says = c.advance.ensures.says ∙ c.loop-seat.invariant.says;
      }
    ]

pub loop-link-init : goal.loop-link-init
loop-link-init g c =
    let i = c.loop-seat.invariant in
    let inside = i.inside in
    let is = c.clients-seat-end.ensures.count in
    let all : c.loop-seat.seat ≡ c.args.self.now.plan.seats = omega (arith, inside, is) in record {
      so_far = subst (λ (l : List ℕ). RoundSoFar c.args.self.now c.loop-seat.self l c.loop-seat.moved) (ap (λ n. from_to 1 (n - 1)) all ∙ sym (append-nil (from_to 1 (c.args.self.now.plan.seats - 1)))) i.so_far;
      inside = omega arith;
      says = i.says;
    }

pub loop-link-preserved : goal.loop-link-preserved
loop-link-preserved g c =
    let i = c.loop-link.invariant in
    let t = c.in_ok-advance-2.ensures in
    let rest = t.rest (λ e. absurd (omega (arith, e))) i.so_far.rest in
    let clients = from_to 1 (c.args.self.now.plan.seats - 1) in
    let is = c.links-link-end.ensures.count in
    let same = ap (λ (p : Plan). p.links) c.loop-seat.invariant.so_far.ran.0.plan in
    let more = reader_more clients c.loop-link.link in
    elim c.if-is_moved-2.branch [
      | goal.then-is_moved-2 w ↦ let moved = c.is_moved-in-loop-link.ensures.moved w.if-is_moved-2.true in record {
        so_far = subst (RoundSoFar c.args.self.now c.advance-in-loop-link.new.self (clients ++ from_to READERS (c.loop-link.link + 1))) (sym w.moved-is) (subst (λ (l : List ℕ). RoundSoFar c.args.self.now c.advance-in-loop-link.new.self l true) more
            (round_moved c.args.self.now c.loop-link.self c.advance-in-loop-link.new.self (clients ++ from_to READERS c.loop-link.link) (READERS + c.loop-link.link) c.loop-link.moved c.in_ok-advance-2.field-0 i.so_far t.tick t.left t.enough.1 rest moved.0 moved.1));
        inside = omega (arith, is, same);
        says = c.advance-in-loop-link.ensures.says ∙ c.loop-link.invariant.says;
      }
      | goal.else-is_moved-2 w ↦ record {
        so_far = subst (RoundSoFar c.args.self.now c.advance-in-loop-link.new.self (clients ++ from_to READERS (c.loop-link.link + 1))) (sym w.moved-is) (subst (λ (l : List ℕ). RoundSoFar c.args.self.now c.advance-in-loop-link.new.self l c.loop-link.moved) more
            (round_still c.args.self.now c.loop-link.self c.advance-in-loop-link.new.self (clients ++ from_to READERS c.loop-link.link) (READERS + c.loop-link.link) c.loop-link.moved c.in_ok-advance-2.field-0 i.so_far t.tick t.left t.enough.1 rest (c.is_moved-in-loop-link.ensures.still w.if-is_moved-2.false)));
        inside = omega (arith, is, same);
        says = c.advance-in-loop-link.ensures.says ∙ c.loop-link.invariant.says;
      }
    ]

pub returns-clause-moved : goal.returns-clause-moved
returns-clause-moved g c = λ e. round_went c.args.self.now c.loop-link.self c.loop-link.moved (subst (λ n. RoundSoFar c.args.self.now c.loop-link.self (from_to 1 (c.args.self.now.plan.seats - 1) ++ from_to READERS n) c.loop-link.moved)
    (let inside = c.loop-link.invariant.inside in let is = c.links-link-end.ensures.count in let same = ap (λ (p : Plan). p.links) c.loop-seat.invariant.so_far.ran.0.plan in omega (arith, inside, is, same)) c.loop-link.invariant.so_far) (in_ok _ _ e)

pub returns-clause-still : goal.returns-clause-still
returns-clause-still g c = λ e. round_stood c.args.self.now c.loop-link.self c.loop-link.moved (subst (λ n. RoundSoFar c.args.self.now c.loop-link.self (from_to 1 (c.args.self.now.plan.seats - 1) ++ from_to READERS n) c.loop-link.moved)
    (let inside = c.loop-link.invariant.inside in let is = c.links-link-end.ensures.count in let same = ap (λ (p : Plan). p.links) c.loop-seat.invariant.so_far.ran.0.plan in omega (arith, inside, is, same)) c.loop-link.invariant.so_far) (in_ok _ _ e)

pub returns-in_err-advance-clause-same : goal.returns-in_err-advance-clause-same
returns-in_err-advance-clause-same g c = let i = c.loop-seat.invariant.so_far in both_join c.args.self.now c.loop-seat.self c.advance.new.self (i.ran.0, i.ran.1) c.advance.ensures.same

pub returns-in_err-advance-2-clause-same : goal.returns-in_err-advance-2-clause-same
returns-in_err-advance-2-clause-same g c = let i = c.loop-link.invariant.so_far in both_join c.args.self.now c.loop-link.self c.advance-in-loop-link.new.self (i.ran.0, i.ran.1) c.advance-in-loop-link.ensures.same

pub returns-in_err-advance-clause-says : goal.returns-in_err-advance-clause-says
returns-in_err-advance-clause-says g c = c.advance.ensures.says ∙ c.loop-seat.invariant.says

pub returns-in_err-advance-2-clause-says : goal.returns-in_err-advance-2-clause-says
returns-in_err-advance-2-clause-says g c = c.advance-in-loop-link.ensures.says ∙ c.loop-link.invariant.says
