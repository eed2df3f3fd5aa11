use Rattle.std.proofs.Common.{rules, not, ◌==◌}
use Rattle.std.proofs.lemmas.Fn.{filter_same}
use Rattle.client_seats.specs.declared.seat.Held.{Held}
use Rattle.client_seats.proofs.seat.drop_held.Goals as goal

pub returns-clause-rest : goal.returns-clause-rest
returns-clause-rest c = filter_same _ (λ (h : Held). not (h.name == c.args.name)) _ (λ x b f' k. (search rules, search rules)) _ _ c.retain.ensures.filtered
