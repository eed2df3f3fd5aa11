use Rattle.std.proofs.Common.{arith, refl, ap, ◌∙◌}
use Rattle.sock_model.specs.ChainRows.{with_hand}
use Rattle.sock_rule.specs.LinksInHand.{hand_of}
use Rattle.sock_table.proofs.SeatViewEndingLife.{came_home, goes_back, in_hand, lost, recycled_in, recycles, retires, frees, recycled_there}
use Rattle.sock_table.proofs.table.SockTable.end_life.Goals as goal

pub returns-then-step-from-clause-marks : goal.returns-then-step-from-clause-marks
returns-then-step-from-clause-marks g c = lost c.args.self.now.rule.plan c.args.at c.args.from.0 c.recycle-step.result.found c.args.seat.now.me.0 c.recycle-step.new.seat.me.0 (ap (λ m. m.0) c.recycle-step.ensures.view) c.requires.zero c.if-step-from.true

pub load_last_link-found-requires-clause-recycled : goal.load_last_link-found-requires-clause-recycled
load_last_link-found-requires-clause-recycled g c = (_, recycled_in c.args.self.now.rule.plan c.args.at c.args.from.0 c.recycle-step.result.found c.args.seat.now.me.0 c.recycle-step.new.seat.me.0 (ap (λ m. m.0) c.recycle-step.ensures.view) c.requires.zero c.if-step-from.false)

pub take_last_link-home-requires-clause-recycled : goal.take_last_link-home-requires-clause-recycled
take_last_link-home-requires-clause-recycled g c =
    let e = ap (λ m. m.0) c.recycle-step.ensures.view in let hit = c.if-step-from.false in
    let r = recycled_in c.args.self.now.rule.plan c.args.at c.args.from.0 c.recycle-step.result.found c.args.seat.now.me.0 c.recycle-step.new.seat.me.0 e c.requires.zero hit in
    recycles c.args.self.now.rule.plan c.args.at c.args.from.0 c.recycle-step.result.found c.args.seat.now.me.0 c.recycle-step.new.seat.me.0 e c.requires.zero hit c.load_last_link-found.result c.load_last_link-found.new.seat.me.0 (ap (λ m. m.0) (c.load_last_link-found.ensures.view _ r))

pub take_last_link-home-requires-clause-empty : goal.take_last_link-home-requires-clause-empty
take_last_link-home-requires-clause-empty g c =
    let e = ap (λ m. m.0) c.recycle-step.ensures.view in let hit = c.if-step-from.false in
    let r = recycled_in c.args.self.now.rule.plan c.args.at c.args.from.0 c.recycle-step.result.found c.args.seat.now.me.0 c.recycle-step.new.seat.me.0 e c.requires.zero hit in
    ap (λ m. m.0.hands) (c.load_last_link-found.ensures.view _ r) ∙ (ap (λ v. v.hands) e ∙ c.requires.empty)

pub put_link-requires-clause-hand : goal.put_link-requires-clause-hand
put_link-requires-clause-hand g c = let e = ap (λ m. m.0) c.recycle-step.ensures.view in let hit = c.if-step-from.false in let r = recycled_in c.args.self.now.rule.plan c.args.at c.args.from.0 c.recycle-step.result.found c.args.seat.now.me.0 c.recycle-step.new.seat.me.0 e c.requires.zero hit in
    let b = c.load_last_link-found.ensures.view _ r in let empty = ap (λ m. m.0.hands) b ∙ (ap (λ v. v.hands) e ∙ c.requires.empty) in
    in_hand c.load_last_link-found.new.seat.me c.take_last_link-home.new.seat.me c.load_last_link-found.result c.take_last_link-home.result.took.list c.finish.new.self.took.list c.take_last_link-home.result.next c.finish.new.self.next _ _ c.take_last_link-home.ensures.view empty c.finish.ensures.same.0 c.finish.ensures.same.1

pub put_link-requires-clause-came : goal.put_link-requires-clause-came
put_link-requires-clause-came g c = goes_back 0 (with_hand c.load_last_link-found.new.seat.me.0 (hand_of c.load_last_link-found.result c.take_last_link-home.result.took.list c.take_last_link-home.result.next)) c.take_last_link-home.ensures.came refl (ap (λ m. m.0) c.take_last_link-home.ensures.view) c.finish.ensures.link c.finish.ensures.way c.finish.ensures.faults

pub free_slot-requires-clause-recycled : goal.free_slot-requires-clause-recycled
free_slot-requires-clause-recycled g c = let e = ap (λ m. m.0) c.recycle-step.ensures.view in let hit = c.if-step-from.false in let r = recycled_in c.args.self.now.rule.plan c.args.at c.args.from.0 c.recycle-step.result.found c.args.seat.now.me.0 c.recycle-step.new.seat.me.0 e c.requires.zero hit in
    let b = c.load_last_link-found.ensures.view _ r in let empty = ap (λ m. m.0.hands) b ∙ (ap (λ v. v.hands) e ∙ c.requires.empty) in
    let home = came_home c.args.self.now.rule.plan c.args.at c.load_last_link-found.new.seat.me c.take_last_link-home.new.seat.me c.put_link.new.seat.me c.load_last_link-found.result c.take_last_link-home.result.took.list c.take_last_link-home.result.next _ _ _ c.take_last_link-home.ensures.view c.finish.ensures.faults c.put_link.ensures.view empty in
    (_, recycled_there c.args.self.now.rule.plan c.args.at c.args.from.0 c.recycle-step.result.found c.args.seat.now.me.0 c.recycle-step.new.seat.me.0 e c.requires.zero hit c.load_last_link-found.result c.load_last_link-found.new.seat.me.0 (ap (λ m. m.0) b) c.put_link.new.seat.me.0 (ap (λ m. m.0) home), omega (arith, c.if-version-lt-LAST_VERSION.true, c.version.ensures))

pub free_slot-requires-clause-empty : goal.free_slot-requires-clause-empty
free_slot-requires-clause-empty g c = let e = ap (λ m. m.0) c.recycle-step.ensures.view in let hit = c.if-step-from.false in let r = recycled_in c.args.self.now.rule.plan c.args.at c.args.from.0 c.recycle-step.result.found c.args.seat.now.me.0 c.recycle-step.new.seat.me.0 e c.requires.zero hit in
    let b = c.load_last_link-found.ensures.view _ r in let empty = ap (λ m. m.0.hands) b ∙ (ap (λ v. v.hands) e ∙ c.requires.empty) in
    let home = came_home c.args.self.now.rule.plan c.args.at c.load_last_link-found.new.seat.me c.take_last_link-home.new.seat.me c.put_link.new.seat.me c.load_last_link-found.result c.take_last_link-home.result.took.list c.take_last_link-home.result.next _ _ _ c.take_last_link-home.ensures.view c.finish.ensures.faults c.put_link.ensures.view empty in
    ap (λ m. m.0.hands) home ∙ empty

pub returns-then-version-lt-LAST_VERSION-clause-marks : goal.returns-then-version-lt-LAST_VERSION-clause-marks
returns-then-version-lt-LAST_VERSION-clause-marks g c = let e = ap (λ m. m.0) c.recycle-step.ensures.view in let hit = c.if-step-from.false in let r = recycled_in c.args.self.now.rule.plan c.args.at c.args.from.0 c.recycle-step.result.found c.args.seat.now.me.0 c.recycle-step.new.seat.me.0 e c.requires.zero hit in
    let b = c.load_last_link-found.ensures.view _ r in let empty = ap (λ m. m.0.hands) b ∙ (ap (λ v. v.hands) e ∙ c.requires.empty) in
    let home = came_home c.args.self.now.rule.plan c.args.at c.load_last_link-found.new.seat.me c.take_last_link-home.new.seat.me c.put_link.new.seat.me c.load_last_link-found.result c.take_last_link-home.result.took.list c.take_last_link-home.result.next _ _ _ c.take_last_link-home.ensures.view c.finish.ensures.faults c.put_link.ensures.view empty in
    frees c.args.self.now.rule.plan c.args.at c.args.from.0 c.recycle-step.result.found c.args.seat.now.me.0 c.recycle-step.new.seat.me.0 e c.requires.zero hit c.load_last_link-found.result c.load_last_link-found.new.seat.me.0 (ap (λ m. m.0) b) c.put_link.new.seat.me.0 (ap (λ m. m.0) home) c.free_slot.new.seat.me.0 (ap (λ m. m.0) c.free_slot.ensures.view) (omega (arith, c.if-version-lt-LAST_VERSION.true, c.version.ensures)) (c.recycle-step.ensures.alone hit)

pub returns-then-version-lt-LAST_VERSION-clause-slots : goal.returns-then-version-lt-LAST_VERSION-clause-slots
returns-then-version-lt-LAST_VERSION-clause-slots g c = let e = ap (λ m. m.0) c.recycle-step.ensures.view in let hit = c.if-step-from.false in let r = recycled_in c.args.self.now.rule.plan c.args.at c.args.from.0 c.recycle-step.result.found c.args.seat.now.me.0 c.recycle-step.new.seat.me.0 e c.requires.zero hit in
    let b = c.load_last_link-found.ensures.view _ r in let empty = ap (λ m. m.0.hands) b ∙ (ap (λ v. v.hands) e ∙ c.requires.empty) in
    let home = came_home c.args.self.now.rule.plan c.args.at c.load_last_link-found.new.seat.me c.take_last_link-home.new.seat.me c.put_link.new.seat.me c.load_last_link-found.result c.take_last_link-home.result.took.list c.take_last_link-home.result.next _ _ _ c.take_last_link-home.ensures.view c.finish.ensures.faults c.put_link.ensures.view empty in
    ap (λ m. m.1) c.free_slot.ensures.view ∙ (ap (λ m. m.1) home ∙ (ap (λ m. m.1) b ∙ ap (λ m. m.1) c.recycle-step.ensures.view))

pub returns-else-version-lt-LAST_VERSION-clause-marks : goal.returns-else-version-lt-LAST_VERSION-clause-marks
returns-else-version-lt-LAST_VERSION-clause-marks g c = let e = ap (λ m. m.0) c.recycle-step.ensures.view in let hit = c.if-step-from.false in let r = recycled_in c.args.self.now.rule.plan c.args.at c.args.from.0 c.recycle-step.result.found c.args.seat.now.me.0 c.recycle-step.new.seat.me.0 e c.requires.zero hit in
    let b = c.load_last_link-found.ensures.view _ r in let empty = ap (λ m. m.0.hands) b ∙ (ap (λ v. v.hands) e ∙ c.requires.empty) in
    let home = came_home c.args.self.now.rule.plan c.args.at c.load_last_link-found.new.seat.me c.take_last_link-home.new.seat.me c.put_link.new.seat.me c.load_last_link-found.result c.take_last_link-home.result.took.list c.take_last_link-home.result.next _ _ _ c.take_last_link-home.ensures.view c.finish.ensures.faults c.put_link.ensures.view empty in
    retires c.args.self.now.rule.plan c.args.at c.args.from.0 c.recycle-step.result.found c.args.seat.now.me.0 c.recycle-step.new.seat.me.0 e c.requires.zero hit c.load_last_link-found.result c.load_last_link-found.new.seat.me.0 (ap (λ m. m.0) b) c.put_link.new.seat.me.0 (ap (λ m. m.0) home) (omega (arith, c.if-version-lt-LAST_VERSION.false, c.version.ensures))

pub returns-else-version-lt-LAST_VERSION-clause-slots : goal.returns-else-version-lt-LAST_VERSION-clause-slots
returns-else-version-lt-LAST_VERSION-clause-slots g c = let e = ap (λ m. m.0) c.recycle-step.ensures.view in let hit = c.if-step-from.false in let r = recycled_in c.args.self.now.rule.plan c.args.at c.args.from.0 c.recycle-step.result.found c.args.seat.now.me.0 c.recycle-step.new.seat.me.0 e c.requires.zero hit in
    let b = c.load_last_link-found.ensures.view _ r in let empty = ap (λ m. m.0.hands) b ∙ (ap (λ v. v.hands) e ∙ c.requires.empty) in
    let home = came_home c.args.self.now.rule.plan c.args.at c.load_last_link-found.new.seat.me c.take_last_link-home.new.seat.me c.put_link.new.seat.me c.load_last_link-found.result c.take_last_link-home.result.took.list c.take_last_link-home.result.next _ _ _ c.take_last_link-home.ensures.view c.finish.ensures.faults c.put_link.ensures.view empty in
    ap (λ m. m.1) home ∙ (ap (λ m. m.1) b ∙ ap (λ m. m.1) c.recycle-step.ensures.view)
