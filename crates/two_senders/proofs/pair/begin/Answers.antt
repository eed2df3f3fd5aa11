use Rattle.std.proofs.Common.{refl, ap, ◌∙◌, [], ◌∷◌, ◌++◌}
use Rattle.write_chain.proofs.SeatBetweenMessages.{one_fresh}
use Rattle.two_senders.proofs.pair.begin.Goals as goal

pub new_table-requires-clause-outs : goal.new_table-requires-clause-outs
new_table-requires-clause-outs g c = one_fresh g.O.Out.state _ c.args.out c.push_reserved.new.self.items (c.push_reserved.ensures.items ∙ ap (λ l. l ++ c.args.out ∷ []) c.in-Ok.ensures.items) refl c.requires.fresh.0 c.requires.fresh.1 c.requires.fresh.2
