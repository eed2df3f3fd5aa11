use Rattle.std.proofs.Common.{◌≡◌, ℕ, ℤ, Option, Ok, ap, ◌∙◌, rules, w32, to_z, of_z}
use Rattle.std.proofs.lemmas.Result.{err_from_is_err_and}
use Rattle.pb_wire.specs.brpc_model.specs.Meta as meta
use Rattle.rpc_meta.specs.MetaMeaning.{made_meta}
use Rattle.rpc_meta.proofs.Building.{same_some, is_that}
use Rattle.rpc_meta.proofs.meta.RpcMeta.read.Goals as goal

pub returns-in_err-view : goal.returns-in_err-view
returns-in_err-view c =
    let p = err_from_is_err_and c.from_residual.result c.from_residual.ensures.1 in
    rw (p.1, p.2) (is_that _ _ c.in_err-view.ensures)

same_made : {q r : Option meta.RequestMeta} {a b : Option meta.ResponseMeta} {c d s t : ℤ} (id : ℕ) → q ≡ r → a ≡ b → c ≡ d → s ≡ t → made_meta q a c id s ≡ made_meta r b d id t
same_made id requests responses compress size = cc

pub returns : goal.returns
returns c =
    let view = c.in_ok-view.view in
    let fits : to_z w32 (of_z w32 view.compress_type) ≡ view.compress_type = search rules in
    let size_fits : to_z w32 (of_z w32 view.attachment_size) ≡ view.attachment_size = search rules in
    ap (λ (m : meta.Meta). Ok m) (same_made view.correlation_id c.in_ok-request.ensures c.in_ok-response.ensures fits size_fits) ∙ same_some c.in_ok-view.ensures
