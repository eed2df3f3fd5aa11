use Rattle.std.proofs.Common.{◌≡◌, ℕ, ◌+◌, length, map, ◌∙◌, refl, subst, arith}
use Rattle.brpc_model.specs.Operations.{link_names}
use Rattle.script_items.specs.LineMeaning.{item}
use Rattle.script_report.specs.OrderRows.{AreRows}
use Rattle.script_report.proofs.OrderRows.{no_rows, next_filed, length_empty}
use Rattle.script_report.proofs.orders.orders_of.Goals as goal

pub loop-word-init : goal.loop-word-init
loop-word-init c = record {
  at = refl;
  links = length_empty (link_names (map item c.args.lines.now)) _ c.in_ok-orders.ensures;
  rows = λ _. no_rows c.args.words.now (link_names (map item c.args.lines.now)) _ c.in_ok-orders.ensures;
}

pub loop-word-preserved : goal.loop-word-preserved
loop-word-preserved c = let next : c.saturating_add-number.result ≡ c.loop-word.word-index + 1 = omega arith in record {
  at = next;
  links = c.in_ok-file.ensures.same_links ∙ c.loop-word.invariant.links;
  rows = λ places. next_filed c.args.words.now c.loop-word.number c.loop-word.word-index c.saturating_add-number.result _ c.label_at.result _ _ places c.loop-word.invariant.at c.loop-word-test.true next
      c.label_at.ensures c.in_ok-file.ensures (c.loop-word.invariant.rows places);
}

pub returns-clause-rows : goal.returns-clause-rows
returns-clause-rows c = λ places. subst (λ (n : ℕ). AreRows c.args.words.now n (map (λ row. row.items) c.loop-word.orders.items)) (let e : c.loop-word.number ≡ length c.args.words.now = omega arith in e) (c.loop-word.invariant.rows places)
