use Rattle.std.proofs.Common.{rules, ◌+◌, ◌∙◌, ap}
use Rattle.sock_io.specs.LinkHalves.{end_of}
use Rattle.script_links.proofs.LinkNumbering.{one_longer}
use Rattle.script_run.proofs.LinksTellingTaken.{told_more, told_all}
use Rattle.script_run.proofs.report.taken_by.Goals as goal

pub loop-link-preserved : goal.loop-link-preserved
loop-link-preserved g c =
    let i = c.loop-link.invariant in record {
      told = told_more (λ e. end_of (g.O.Out.state e.out) (g.I.In.state e.inn)) (λ bytes. bytes.now) c.args.ends.now c.loop-link.link-index c.link-item.result c.loop-link.took.items c.push.new.self.items c.taken.result
          c.loop-link-test.true c.link-item.is i.as_many (search rules) c.taken.ensures i.told;
      as_many = one_longer c.loop-link.took.items c.push.new.self.items c.taken.result (search rules) ∙ ap (λ n. n + 1) i.as_many;
    }

pub returns : goal.returns
returns g c = told_all (λ e. end_of (g.O.Out.state e.out) (g.I.In.state e.inn)) (λ bytes. bytes.now) c.args.ends.now c.loop-link.link-index c.loop-link.took.items c.loop-link-test.false c.loop-link.invariant.told
