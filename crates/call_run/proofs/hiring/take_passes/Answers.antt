use Rattle.std.proofs.Common.{◌++◌, ◌∷◌, [], reverse, ap, ◌∙◌, sym, length, length-append, arith}
use Rattle.std.proofs.lemmas.List.{append_assoc, reverse-append}
use Rattle.call_run.proofs.hiring.take_passes.Goals as goal

pub passes-preserved : goal.passes-preserved
passes-preserved g c = let i = c.passes.invariant in let own = c.passes.own.items in let left = c.pop.new.self.items in let x = c.in-Some.pass in let pushed = c.push_reserved.ensures in let a = i.count in let b = i.len in record {
  all = i.all ∙ (ap (λ l. l ++ reverse own) c.in-Some.ensures.items ∙ (append_assoc left (x ∷ []) (reverse own) ∙ ap (λ l. left ++ l) (sym (ap reverse pushed.items ∙ reverse-append own (x ∷ [])))));
  count = omega (arith, a, ap length pushed.items, length-append own (x ∷ []));
  len = omega (arith, b, pushed.len);
  capacity = pushed.capacity ∙ i.capacity;
}
