use Rattle.std.proofs.Common.{◌<◌, ℕ, sym, subst, ◌∙◌}
use Rattle.std.specs.List.{AllByRecursion}
use Rattle.brpc_model.specs.ReturnedLink.{LinkEnd}
use Rattle.script_links.proofs.LinkNumbering.{given_more, next_number, numbered_rest}
use Rattle.script_links.proofs.links.give_back.Goals as goal

pub loop-ends-preserved : goal.loop-ends-preserved
loop-ends-preserved g c =
    let i = c.loop-ends.invariant.2 in
    let one = c.in-Some.ensures.steps.0 in
    let next = next_number _ _ _ _ _ _ _ _ i.whole one c.requires.few i.link c.saturating_add-link.ensures in (
      tt,
      tt,
      record {
        link = next ∙ c.give_one.ensures.next;
        numbered = numbered_rest _ _ _ _ _ _ i.numbered one next;
        lower = subst (λ (k : ℕ). AllByRecursion (λ (e : LinkEnd). e.link < k) (g.L.Linker.state c.give_one.new.links).back) (sym next) c.give_one.ensures.lower;
        whole = given_more _ _ _ _ _ _ _ i.whole one c.give_one.ensures.back;
        asked = c.give_one.ensures.asked ∙ i.asked;
        faults = c.give_one.ensures.faults ∙ i.faults;
        always_ready = c.give_one.ensures.always_ready ∙ i.always_ready;
        connections = (c.give_one.ensures.connections.0 ∙ i.connections.0, c.give_one.ensures.connections.1 ∙ i.connections.1);
      },
    )
