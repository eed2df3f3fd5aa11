use Rattle.std.proofs.Common.{arith, ap, ◌∙◌}
use Rattle.sock_table.proofs.LifeMaking.{pass_done, pass_there, claimed_still, stage_one, stage_two, stage_three, made}
use Rattle.sock_table.proofs.table.SockTable.make.Goals as goal

pub take_in-requires-clause-done : goal.take_in-requires-clause-done
take_in-requires-clause-done g c = pass_done _ _ _ c.requires.pass.2

pub store_link-requires-clause-claimed : goal.store_link-requires-clause-claimed
store_link-requires-clause-claimed g c = claimed_still c.args.self.now.rule.plan c.args.seat.now.me.0 c.take_in.new.seat.me.0 c.args.pass.seat.me.0 c.args.pass.link c.requires.pass.2 (ap (λ m. m.0) c.take_in.ensures.view) c.args.at c.requires.claimed

pub store_link-requires-clause-pass : goal.store_link-requires-clause-pass
store_link-requires-clause-pass g c = pass_there c.args.self.now.rule.plan c.args.seat.now.me.0 c.take_in.new.seat.me.0 c.args.pass.seat.me.0 c.args.pass.link c.requires.pass.2 (ap (λ m. m.0) c.take_in.ensures.view)

pub reset_head-requires-clause-claimed : goal.reset_head-requires-clause-claimed
reset_head-requires-clause-claimed g c = (_, stage_one c.args.self.now.rule.plan c.args.seat.now.me.0 c.take_in.new.seat.me.0 c.args.pass.seat.me.0 c.args.pass.link c.requires.pass.2 (ap (λ m. m.0) c.take_in.ensures.view) c.args.at c.requires.claimed c.store_link.new.seat.me.0 (ap (λ m. m.0) c.store_link.ensures.view))

pub wipe_code-requires-clause-claimed : goal.wipe_code-requires-clause-claimed
wipe_code-requires-clause-claimed g c = (_, stage_two c.args.self.now.rule.plan c.args.seat.now.me.0 c.take_in.new.seat.me.0 c.args.pass.seat.me.0 c.args.pass.link c.requires.pass.2 (ap (λ m. m.0) c.take_in.ensures.view) c.args.at c.requires.claimed c.store_link.new.seat.me.0 (ap (λ m. m.0) c.store_link.ensures.view) c.reset_head.new.seat.me.0 (ap (λ m. m.0) (c.reset_head.ensures.view _ (stage_one c.args.self.now.rule.plan c.args.seat.now.me.0 c.take_in.new.seat.me.0 c.args.pass.seat.me.0 c.args.pass.link c.requires.pass.2 (ap (λ m. m.0) c.take_in.ensures.view) c.args.at c.requires.claimed c.store_link.new.seat.me.0 (ap (λ m. m.0) c.store_link.ensures.view)))))

pub birth-step-requires-clause-claimed : goal.birth-step-requires-clause-claimed
birth-step-requires-clause-claimed g c = let r = ap (λ m. m.0) (c.reset_head.ensures.view _ (stage_one c.args.self.now.rule.plan c.args.seat.now.me.0 c.take_in.new.seat.me.0 c.args.pass.seat.me.0 c.args.pass.link c.requires.pass.2 (ap (λ m. m.0) c.take_in.ensures.view) c.args.at c.requires.claimed c.store_link.new.seat.me.0 (ap (λ m. m.0) c.store_link.ensures.view))) in
    (_, stage_three c.args.self.now.rule.plan c.args.seat.now.me.0 c.take_in.new.seat.me.0 c.args.pass.seat.me.0 c.args.pass.link c.requires.pass.2 (ap (λ m. m.0) c.take_in.ensures.view) c.args.at c.requires.claimed c.store_link.new.seat.me.0 (ap (λ m. m.0) c.store_link.ensures.view) c.reset_head.new.seat.me.0 r c.wipe_code.new.seat.me.0 (ap (λ m. m.0) (c.wipe_code.ensures.view _ (stage_two c.args.self.now.rule.plan c.args.seat.now.me.0 c.take_in.new.seat.me.0 c.args.pass.seat.me.0 c.args.pass.link c.requires.pass.2 (ap (λ m. m.0) c.take_in.ensures.view) c.args.at c.requires.claimed c.store_link.new.seat.me.0 (ap (λ m. m.0) c.store_link.ensures.view) c.reset_head.new.seat.me.0 r))))

pub returns-clause-made : goal.returns-clause-made
returns-clause-made g c = let r = ap (λ m. m.0) (c.reset_head.ensures.view _ (stage_one c.args.self.now.rule.plan c.args.seat.now.me.0 c.take_in.new.seat.me.0 c.args.pass.seat.me.0 c.args.pass.link c.requires.pass.2 (ap (λ m. m.0) c.take_in.ensures.view) c.args.at c.requires.claimed c.store_link.new.seat.me.0 (ap (λ m. m.0) c.store_link.ensures.view))) in let w = ap (λ m. m.0) (c.wipe_code.ensures.view _ (stage_two c.args.self.now.rule.plan c.args.seat.now.me.0 c.take_in.new.seat.me.0 c.args.pass.seat.me.0 c.args.pass.link c.requires.pass.2 (ap (λ m. m.0) c.take_in.ensures.view) c.args.at c.requires.claimed c.store_link.new.seat.me.0 (ap (λ m. m.0) c.store_link.ensures.view) c.reset_head.new.seat.me.0 r)) in
    made c.args.self.now.rule.plan c.args.seat.now.me.0 c.take_in.new.seat.me.0 c.args.pass.seat.me.0 c.args.pass.link c.requires.pass.2 (ap (λ m. m.0) c.take_in.ensures.view) c.args.at c.requires.claimed c.store_link.new.seat.me.0 (ap (λ m. m.0) c.store_link.ensures.view) c.reset_head.new.seat.me.0 r c.wipe_code.new.seat.me.0 w c.birth-step.result.found c.pack.result.0 c.birth-step.new.seat.me.0
    (ap (λ m. m.0) (c.birth-step.ensures.view _ (stage_three c.args.self.now.rule.plan c.args.seat.now.me.0 c.take_in.new.seat.me.0 c.args.pass.seat.me.0 c.args.pass.link c.requires.pass.2 (ap (λ m. m.0) c.take_in.ensures.view) c.args.at c.requires.claimed c.store_link.new.seat.me.0 (ap (λ m. m.0) c.store_link.ensures.view) c.reset_head.new.seat.me.0 r c.wipe_code.new.seat.me.0 w))) (omega (arith, c.ranges.at.fits)) (omega (arith, c.pack.ensures.word, c.version-version.ensures, c.from.ensures))

pub returns-clause-slots : goal.returns-clause-slots
returns-clause-slots g c = let r = c.reset_head.ensures.view _ (stage_one c.args.self.now.rule.plan c.args.seat.now.me.0 c.take_in.new.seat.me.0 c.args.pass.seat.me.0 c.args.pass.link c.requires.pass.2 (ap (λ m. m.0) c.take_in.ensures.view) c.args.at c.requires.claimed c.store_link.new.seat.me.0 (ap (λ m. m.0) c.store_link.ensures.view)) in let w = c.wipe_code.ensures.view _ (stage_two c.args.self.now.rule.plan c.args.seat.now.me.0 c.take_in.new.seat.me.0 c.args.pass.seat.me.0 c.args.pass.link c.requires.pass.2 (ap (λ m. m.0) c.take_in.ensures.view) c.args.at c.requires.claimed c.store_link.new.seat.me.0 (ap (λ m. m.0) c.store_link.ensures.view) c.reset_head.new.seat.me.0 (ap (λ m. m.0) r)) in
    let b = c.birth-step.ensures.view _ (stage_three c.args.self.now.rule.plan c.args.seat.now.me.0 c.take_in.new.seat.me.0 c.args.pass.seat.me.0 c.args.pass.link c.requires.pass.2 (ap (λ m. m.0) c.take_in.ensures.view) c.args.at c.requires.claimed c.store_link.new.seat.me.0 (ap (λ m. m.0) c.store_link.ensures.view) c.reset_head.new.seat.me.0 (ap (λ m. m.0) r) c.wipe_code.new.seat.me.0 (ap (λ m. m.0) w)) in
    ap (λ m. m.1) b ∙ (ap (λ m. m.1) w ∙ (ap (λ m. m.1) r ∙ (ap (λ m. m.1) c.store_link.ensures.view ∙ ap (λ m. m.1) c.take_in.ensures.view)))
