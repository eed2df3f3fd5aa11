use Rattle.std.proofs.Common.{◌∷◌, sym, ◌∙◌}
use Rattle.atomic_table.specs.Table.{rest}
use Rattle.sock_rule.specs.declared.homes.SockHome.TheVariants.{Link}
use Rattle.sock_rule.proofs.HandingLinkFromHome.{comes_back}
use Rattle.sock_rule.proofs.table.RuleTable.take_home.Goals as goal

pub exchange-value-requires : goal.exchange-value-requires
exchange-value-requires g c = (c.requires.seat, (Link c.requires.home.0, c.requires.home.1))

pub unreachable-requires : goal.unreachable-requires
unreachable-requires g c = c.in_default.not-Link c.requires.home.0 (sym (comes_back c.args.seat.now.me.1 c.args.slot c.requires.home.0 c.exchange-value.result (rest c.args.seat.now.me.1) c.requires.home.1 c.exchange-value.ensures.2))

pub returns-clause-home : goal.returns-clause-home
returns-clause-home g c = c.exchange-value.ensures.2 ∙ (λ i. (c.args.slot, c.in-Link.is i) ∷ rest c.args.seat.now.me.1)

pub returns-clause-view : goal.returns-clause-view
returns-clause-view g c = c.exchange-value.ensures.3
