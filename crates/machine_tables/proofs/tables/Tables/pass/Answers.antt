use Rattle.std.proofs.Common.{refl, arith, ap, ◌∙◌, sym}
use Rattle.seat_states.specs.declared.point.SendStep.TheVariants as sends
use Rattle.seat_states.specs.declared.point.Point.TheVariants as points
use Rattle.machine_steps.proofs.PassingSteps.{passed_request, passed_slot, passed_along}
use Rattle.machine_tables.proofs.tables.Tables.pass.Goals.{in-Send-default-Claim+else-not-passes_request, in-Call-ClaimId+else-not-passes_slot, in-Send+in-Look-1, in-Call+in-LoadName-1, in-Rest-1}
use Rattle.machine_tables.proofs.tables.Tables.pass.Goals as goal

pub overflow_add-place : goal.overflow_add-place
overflow_add-place g c = omega (arith, c.passes_request.ensures.fits c.if-not-passes_request.false, c.in-Send-default-Claim.request-is)

pub overflow_add-place-in-Call-ClaimId : goal.overflow_add-place-in-Call-ClaimId
overflow_add-place-in-Call-ClaimId g c = omega (arith, c.passes_slot.ensures.fits c.if-not-passes_slot.false, c.in-Call-ClaimId.slot-is)

pub returns-clause-some : goal.returns-clause-some
returns-clause-some g c = elim c.match-place.branch [
  | in-Send-default-Claim+else-not-passes_request w ↦
      let step = rw w.in-Send-default-Claim.is at w.in-Send-default-Claim.field-1-is in
      let h = w.passes_request.ensures.passes w.if-not-passes_request.false in
      rw (w.result-is, w.self-inside-is) (passed_along c.self.view_is (passed_request c.self.inside.table c.self.inside.seats.items c.self.inside.readers.items c.self.inside.opens.items c.self.inside.short c.args.seat c.from-at.result c.from-at.ensures c.index_mut-place.result.now (omega (arith, c.if-at-len.false, c.len.ensures, c.self.inside.seats.ok)) c.index_mut-place.ensures.value w.in-Send-default-Claim.sending _ (w.in-Send-default-Claim.is ∙ ap (points.Send w.in-Send-default-Claim.sending) step ∙ ap (λ n. points.Send w.in-Send-default-Claim.sending (sends.Claim n)) (sym w.in-Send-default-Claim.request-is)) h _ refl))
  | in-Call-ClaimId+else-not-passes_slot w ↦
      let step = rw w.in-Call-ClaimId.is at w.in-Call-ClaimId.field-0-is in
      let h = w.passes_slot.ensures.passes w.if-not-passes_slot.false in
      rw (w.result-is, w.self-inside-is) (passed_along c.self.view_is (passed_slot c.self.inside.table c.self.inside.seats.items c.self.inside.readers.items c.self.inside.opens.items c.self.inside.short c.args.seat c.from-at.result c.from-at.ensures c.index_mut-place.result.now (omega (arith, c.if-at-len.false, c.len.ensures, c.self.inside.seats.ok)) c.index_mut-place.ensures.value w.in-Call-ClaimId.slot w.in-Call-ClaimId.socket (w.in-Call-ClaimId.is ∙ ap points.Call step) h _ refl))
  | in-Send+in-Look-1 w ↦ rw w.result-is tt
  | in-Call+in-LoadName-1 w ↦ rw w.result-is tt
  | in-Rest-1 w ↦ rw w.result-is tt
]
