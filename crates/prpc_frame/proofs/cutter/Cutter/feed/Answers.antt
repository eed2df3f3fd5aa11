use Rattle.std.proofs.Common.{◌≡◌, ℕ, true, false, List, refl, ap, inr, sym, ◌∙◌}
use Rattle.prpc_frame.specs.HeldByCutter.{Held}
use Rattle.prpc_frame.proofs.LastingStreamFacts.{fed}
use Rattle.prpc_frame.proofs.CutterHoldingByFault.{unnoted, still_unnoted, appended, fed_more, fed_on, unchanged, told_faulty, same_piece}
use Rattle.prpc_frame.proofs.cutter.Cutter.feed.Goals as goal

pub returns-then-is_some-clause-ok : goal.returns-then-is_some-clause-ok
returns-then-is_some-clause-ok c =
    let told : c.args.self.now.told ≡ true = ap (λ (h : Held). h.told) (sym c.self.view_is) ∙ (sym c.is_some.ensures ∙ c.if-is_some.true) in
    inr (told_faulty c.self.inside.fault c.self.inside.held.items c.self.inside.faulty.list c.args.self.now c.self.view_is c.self.invariant told, refl)

pub returns-then-is_some-clause-kept : goal.returns-then-is_some-clause-kept
returns-then-is_some-clause-kept c =
    same_piece c.args.self.now c.args.piece.now (ap (λ (h : Held). h.told) (sym c.self.view_is) ∙ (sym c.is_some.ensures ∙ c.if-is_some.true))

pub returns-then-is_some-clause-stream : goal.returns-then-is_some-clause-stream
returns-then-is_some-clause-stream c = λ (at : ℕ) (more : List ℕ).
    let old = c.args.self.now.bytes in
    let told : c.args.self.now.told ≡ true = ap (λ (h : Held). h.told) (sym c.self.view_is) ∙ (sym c.is_some.ensures ∙ c.if-is_some.true) in
    fed at more old c.args.piece.now old (inr (told_faulty c.self.inside.fault c.self.inside.held.items c.self.inside.faulty.list c.args.self.now c.self.view_is c.self.invariant told, refl))

pub invariant_of-self : goal.invariant_of-self
invariant_of-self c = (still_unnoted c.self.inside.fault c.append_joined.new.self.items c.self.inside.faulty.list (sym c.is_some.ensures ∙ c.if-is_some.false)).0

pub returns-clause-ok : goal.returns-clause-ok
returns-clause-ok c =
    fed_more c.append_joined.result c.self.inside.fault c.self.inside.held.items c.self.inside.faulty.list c.append_joined.new.self.items c.args.piece.now c.args.self.now (sym c.is_some.ensures ∙ c.if-is_some.false) c.self.view_is
    c.append_joined.ensures.items

pub returns-clause-kept : goal.returns-clause-kept
returns-clause-kept c =
    appended c.append_joined.result c.self.inside.fault c.self.inside.held.items c.self.inside.faulty.list c.append_joined.new.self.items c.args.piece.now c.args.self.now (sym c.is_some.ensures ∙ c.if-is_some.false) c.self.view_is
    c.append_joined.ensures.items

pub returns-clause-told : goal.returns-clause-told
returns-clause-told c = λ told.
    let untold : c.args.self.now.told ≡ false = (unnoted c.self.inside.fault c.self.inside.held.items c.self.inside.faulty.list c.args.self.now (sym c.is_some.ensures ∙ c.if-is_some.false) c.self.view_is).1 in
    let k : true ≡ false = sym told ∙ untold in
    absurd (cc)

pub returns-clause-stream : goal.returns-clause-stream
returns-clause-stream c =
    fed_on c.append_joined.result c.args.self.now.bytes c.args.piece.now _
    (fed_more c.append_joined.result c.self.inside.fault c.self.inside.held.items c.self.inside.faulty.list c.append_joined.new.self.items c.args.piece.now c.args.self.now (sym c.is_some.ensures ∙ c.if-is_some.false) c.self.view_is
    c.append_joined.ensures.items)

pub returns-clause-err : goal.returns-clause-err
returns-clause-err c = unchanged c.append_joined.result c.self.inside.fault c.self.inside.held c.append_joined.new.self c.self.inside.faulty.list c.args.self.now c.self.view_is c.append_joined.ensures.err
