use Rattle.std.proofs.Common.{◌≡◌, false, [], length, ap}
use Rattle.call_client.proofs.TestingTables.{two_places, took_none}
use Rattle.part_rows.proofs.callers.begin.Goals as goal

pub new_table-requires-clause-outs : goal.new_table-requires-clause-outs
new_table-requires-clause-outs c = record {
  count = ap length c.in-Ok.ensures.items;
  each = λ k o at. let h = two_places c.in_ok-good.good c.in_ok-bad.bad (λ n x. (x.inner.link ≡ n) × (x.inner.finished ≡ false) × (x.taken ≡ [])) c.in-Ok.outs.items c.in-Ok.ensures.items c.in_ok-good.ensures c.in_ok-bad.ensures k o at in (h.0, h.1, λ x e. took_none o.taken x h.2 e);
}
