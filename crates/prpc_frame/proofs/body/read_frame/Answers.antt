use Rattle.std.proofs.Common.{◌≡◌, ◌-◌, ℕ, ℤ, List, drop, Err, ap, sym, ◌∙◌, subst, w32, to_z, of_z, rules}
use Rattle.std.proofs.lemmas.Result.{err_from_is_err_and}
use Rattle.rpc_meta.specs.brpc_model.specs.Frame.{Begins}
use Rattle.rpc_meta.specs.MetaMeaning.{meaning}
use Rattle.prpc_frame.specs.Body.{AttachmentSays}
use Rattle.prpc_frame.proofs.BodyPartsOfFrames.{meta_err, attachment_err, begins_with, begins_alone}
use Rattle.prpc_frame.proofs.body.read_frame.Goals as goal

pub returns-in_err-meta : goal.returns-in_err-meta
returns-in_err-meta c =
    let p = err_from_is_err_and c.from_residual.result c.from_residual.ensures.1 in
    rw (p.1, p.2) (meta_err c.args.held.now.items c.args.sizes.meta c.args.sizes.body c.in_err-meta.field-0.0 c.requires.meta c.requires.body c.in_err-meta.ensures)

pub returns-in_err-attached : goal.returns-in_err-attached
returns-in_err-attached c =
    let p = err_from_is_err_and c.from_residual-in_err-attached.result c.from_residual-in_err-attached.ensures.1 in
    let z = c.in_ok-meta.meta.attachment_size in
    let same : to_z w32 (of_z w32 z) ≡ z = search rules in
    let P : ℤ → Type 0 = λ z. AttachmentSays z (c.args.sizes.body - c.args.sizes.meta) (Err c.in_err-attached.field-0.0) in
    rw (p.1, p.2) (attachment_err c.args.held.now.items c.args.sizes.meta c.args.sizes.body (meaning c.in_ok-meta.meta) c.in_err-attached.field-0.0 c.requires.meta c.requires.body c.in_ok-meta.ensures (subst P same c.in_err-attached.ensures))

pub returns : goal.returns
returns c =
    let items = c.args.held.now.items in
    let meta = c.args.sizes.meta in
    let body = c.args.sizes.body in
    let m = meaning c.in_ok-meta.meta in
    let n = c.in_ok-attached.attached in
    let rest = c.in_ok-rest.rest.items in
    let same : to_z w32 (of_z w32 m.attachment_size) ≡ m.attachment_size = search rules in
    begins_with items meta body n m rest c.requires.meta c.requires.body c.in_ok-meta.ensures (sym same ∙ c.in_ok-attached.ensures.0) c.in_ok-attached.ensures.1
    c.in_ok-rest.ensures.items
    ∙ ap (λ (l : List ℕ). Begins (record { meta = m; payload = l; attachment = drop (body - meta - n) rest }) body) (sym c.in_ok-payload.ensures.items)
    ∙ ap (λ (l : List ℕ). Begins (record { meta = m; payload = c.in_ok-payload.payload.items; attachment = l }) body) (sym c.pop_front.ensures.items)

pub returns-then-attached-eq0 : goal.returns-then-attached-eq0
returns-then-attached-eq0 c =
    let z = c.in_ok-meta.meta.attachment_size in
    let same : to_z w32 (of_z w32 z) ≡ z = search rules in
    begins_alone c.args.held.now.items c.args.sizes.meta c.args.sizes.body c.in_ok-attached.attached (meaning c.in_ok-meta.meta) c.in_ok-rest.rest.items c.new.result.items c.requires.meta c.requires.body c.in_ok-meta.ensures
    (sym same ∙ c.in_ok-attached.ensures.0) c.if-attached-eq0.true c.new.ensures.items
    c.in_ok-rest.ensures.items
