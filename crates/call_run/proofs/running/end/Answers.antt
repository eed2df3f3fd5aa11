use Rattle.call_run.proofs.running.end.Goals as goal

pub returns-then-short-clause-back : goal.returns-then-short-clause-back
returns-then-short-clause-back g c = let h = c.close_in-places.ensures.closed in record { count = h.count; each = (λ k lt. let b = h.outs_back k lt in (b.out, b.there, b.own)) }
