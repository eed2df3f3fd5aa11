use Rattle.std.proofs.Common.{ℕ, ◌≡◌, ◌<◌, arith, sym, ap, ◌∙◌, subst}
use Rattle.sock_model.specs.SlotRows.{marks_of}
use Rattle.sock_model.specs.MarkWeights.{is_zero}
use Rattle.sock_table.specs.ReferenceCalls.{EndedBy}
use Rattle.sock_table.proofs.GivingReferenceBack.{some_ref, kept_on, not_last, not_odd, zero_now, ends}
use Rattle.sock_table.proofs.table.SockTable.give_back.Goals as goal
use Rattle.sock_words.specs.PackedWords.{vref_version}

pub sub_ref-step-requires-clause-held : goal.sub_ref-step-requires-clause-held
sub_ref-step-requires-clause-held g c = some_ref c.args.at c.args.seat.now.me.0 c.requires.some.0 c.requires.some.1

pub returns-then-nref-ne0-clause-back : goal.returns-then-nref-ne0-clause-back
returns-then-nref-ne0-clause-back g c = λ m goes. let s = c.sub_ref-step.ensures in
    kept_on c.args.at c.sub_ref-step.result.found c.args.seat.now.me.0 c.sub_ref-step.new.seat.me.0 (ap (λ x. x.0) s.view) s.fits.held m goes
    (not_last c.args.at c.sub_ref-step.result.found c.sub_ref-step.result.next s.step s.top.0 (λ e. c.if-nref-ne0.true (c.nref.ensures ∙ e)))

pub returns-then-version-eq0-clause-back : goal.returns-then-version-eq0-clause-back
returns-then-version-eq0-clause-back g c = λ m goes. let s = c.sub_ref-step.ensures in
    kept_on c.args.at c.sub_ref-step.result.found c.args.seat.now.me.0 c.sub_ref-step.new.seat.me.0 (ap (λ x. x.0) s.view) s.fits.held m goes
    (not_odd c.args.at c.sub_ref-step.result.found c.sub_ref-step.result.next s.step s.top.0 (λ e. (let z = c.if-version-eq0.true in let v = c.version.ensures in absurd (omega arith))))

pub end_life-requires-clause-zero : goal.end_life-requires-clause-zero
end_life-requires-clause-zero g c = let s = c.sub_ref-step.ensures in let n = c.nref.ensures in let z = c.if-nref-ne0.false in
    let same : vref_version c.sub_ref-step.result.found ≡ vref_version c.sub_ref-step.result.next = omega (arith, s.step, s.top.0, n, z) in
    subst (λ (w : ℕ). 0 < marks_of (is_zero w) c.args.at c.sub_ref-step.new.seat.me.0) same
    (zero_now c.args.at c.sub_ref-step.result.found c.args.seat.now.me.0 c.sub_ref-step.new.seat.me.0 (ap (λ x. x.0) s.view) s.fits.held c.requires.some.0 c.requires.some.1 (omega (arith, same, c.version.ensures, c.if-version-eq0.false)) (omega (arith, s.step, s.top.0, n, z)))

pub returns-clause-back : goal.returns-clause-back
returns-clause-back g c = λ m goes. let s = c.sub_ref-step.ensures in let x = c.end_life.ensures.marks in let n = c.nref.ensures in let z = c.if-nref-ne0.false in
    let same : vref_version c.sub_ref-step.result.found ≡ vref_version c.sub_ref-step.result.next = omega (arith, s.step, s.top.0, n, z) in
    ends c.args.at c.sub_ref-step.result.found c.args.seat.now.me.0 c.sub_ref-step.new.seat.me.0 (ap (λ x. x.0) s.view) s.fits.held m goes (omega (arith, same, c.version.ensures, c.if-version-eq0.false)) (omega (arith, s.step, s.top.0, n, z)) (vref_version c.sub_ref-step.result.next) c.end_life.new.seat.me.0 c.end_life.result (sym same) x.0 x.1 (subst (λ q. EndedBy q c.end_life.result (vref_version c.sub_ref-step.result.next) x.0) (sym c.requires.seat.1) x.2)
