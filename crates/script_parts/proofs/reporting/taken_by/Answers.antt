use Rattle.std.proofs.Common.{rules, ◌+◌, ◌∙◌, ap}
use Rattle.sock_io.specs.declared.link.Ends.{Ends}
use Rattle.script_links.proofs.LinkNumbering.{one_longer}
use Rattle.script_parts.proofs.LinksUntilParting.{taken_more, taken_all}
use Rattle.script_parts.proofs.reporting.taken_by.Goals as goal

pub takes-preserved : goal.takes-preserved
takes-preserved g c =
    let i = c.takes.invariant in record {
      told = taken_more (λ (e : Ends g.row.O.Denot g.row.I.Denot g.row.P.Denot). g.O.Out.state e.out) (λ bytes. bytes.now) c.args.ends.now c.takes.link-index c.link-item.result c.takes.took.items c.push.new.self.items c.taken.result c.takes-test.true c.link-item.is i.as_many (search rules) c.taken.ensures i.told;
      as_many = one_longer c.takes.took.items c.push.new.self.items c.taken.result (search rules) ∙ ap (λ n. n + 1) i.as_many;
    }

pub returns : goal.returns
returns g c = taken_all (λ (e : Ends g.row.O.Denot g.row.I.Denot g.row.P.Denot). g.O.Out.state e.out) (λ bytes. bytes.now) c.args.ends.now c.takes.link-index c.takes.took.items c.takes-test.false c.takes.invariant.told
