use Rattle.std.proofs.Common.{◌≡◌, Bool, true, false, not, Option, Some, option_map, ap, ◌∙◌, inl, inr, rules, w32}
use Rattle.std.specs.Option.{is_some}
use Rattle.std.proofs.lemmas.Result.{err_from_is_err_and}
use Rattle.std.proofs.lemmas.Int.{to_z-of_z}
use Rattle.rpc_meta.specs.ViewedMeta.{request_viewed, response_viewed}
use Rattle.rpc_meta.specs.MetaParts.{gathered_of, names_of, outcome_of}
use Rattle.rpc_meta.proofs.Merging.{meta_is_read, fault_is_read}
use Rattle.rpc_meta.proofs.Building.{same_some, neither, fails, built}
use Rattle.rpc_meta.proofs.view.MetaView.read.Goals as goal
use Rattle.rpc_meta.proofs.view.MetaView.read.Goals.{else-is_none-via-then-is_none+else-is_none-2, else-is_none-via-else-is_none}

is_some-map : {A B : Type 0} (f : A → B) (o : Option A) → is_some (option_map f o) ≡ is_some o
is_some-map f o = search rules

pub returns-in_err-parts : goal.returns-in_err-parts
returns-in_err-parts c =
    let p = err_from_is_err_and c.from_residual.result c.from_residual.ensures.1 in
    rw (p.1, p.2) (ap Some (fault_is_read c.args.bytes.now _ c.in_err-parts.ensures))

pub returns-then-is_none-2 : goal.returns-then-is_none-2
returns-then-is_none-2 c =
    let p = c.in_ok-parts.parts in
    ap Some (neither (gathered_of p) _ (is_some-map names_of p.request ∙ c.if-is_none.ensures) (is_some-map outcome_of p.response ∙ c.if-is_none-2.ensures) (meta_is_read c.args.bytes.now (gathered_of p) c.in_ok-parts.ensures))

pub returns-in_err-request : goal.returns-in_err-request
returns-in_err-request c =
    let p = err_from_is_err_and c.from_residual-in_err-request.result c.from_residual-in_err-request.ensures.1 in
    rw (p.1, p.2) (fails c.in_err-request.field-0.0 (gathered_of c.in_ok-parts.parts) _ c.in_err-request.ensures (meta_is_read c.args.bytes.now (gathered_of c.in_ok-parts.parts) c.in_ok-parts.ensures))

some_from : {A B : Type 0} (f : A → B) (o : Option A) (none : Bool) → is_some o ≡ not none → none ≡ false → is_some (option_map f o) ≡ true
some_from f o none e h = is_some-map f o ∙ e ∙ ap not h

pub returns : goal.returns
returns c =
    let p = c.in_ok-parts.parts in
    ap Some (built (gathered_of p) (option_map request_viewed c.in_ok-request.request) (option_map response_viewed c.view_response-response.result) _ _ _
    (elim c.else-is_none.branch [
      | else-is_none-via-then-is_none+else-is_none-2 w ↦ inr (some_from outcome_of p.response w.is_none-then-is_none.result w.is_none-then-is_none.ensures w.if-is_none-2.false)
      | else-is_none-via-else-is_none w ↦ inl (some_from names_of p.request c.is_none.result c.is_none.ensures w.if-is_none.false)
    ])
    (same_some c.in_ok-request.ensures) c.view_response-response.ensures
    (to_z-of_z w32 c.low_signed.result (record { sfits = c.low_signed.type_inv }) ∙ c.low_signed.ensures)
    (to_z-of_z w32 c.low_signed-2.result (record { sfits = c.low_signed-2.type_inv }) ∙ c.low_signed-2.ensures)
    (meta_is_read c.args.bytes.now (gathered_of p) c.in_ok-parts.ensures))
