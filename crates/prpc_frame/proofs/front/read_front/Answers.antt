use Rattle.std.proofs.Common.{◌≡◌, ℕ, ◌+◌, ◌-◌, List, take, drop, Ok, refl, ap, sym, ◌∙◌, arith, w32, to_z, of_z, rules}
use Rattle.std.proofs.lemmas.List.{take_rest}
use Rattle.rpc_meta.specs.brpc_model.specs.Frame.{Begins}
use Rattle.rpc_meta.specs.brpc_model.specs.Meta.{read_meta}
use Rattle.rpc_meta.specs.ViewedMeta.{viewed}
use Rattle.rpc_meta.proofs.Building.{same_some}
use Rattle.prpc_frame.proofs.BodyPartsOfFrames.{begins_with}
use Rattle.prpc_frame.proofs.front.read_front.Goals as goal

pub returns : goal.returns
returns c =
    let bytes = c.args.bytes.now in
    let meta = c.in_ok-sizes.sizes.meta in
    let body = c.in_ok-sizes.sizes.body in
    let whole = c.in_ok-sizes.ensures in
    let m = viewed c.in-Ok.meta in
    let n = c.in-Ok-attachment_bytes.attached in
    let rest = c.part_of-rest.result.now in
    let size : meta ≡ 12 + meta - 12 = omega arith in
    let read : read_meta (take meta (drop 12 bytes)) ≡ Ok m = ap (λ (i : ℕ). read_meta (take i (drop 12 bytes))) size ∙ sym (same_some c.in-Ok.ensures) in
    let same : to_z w32 (of_z w32 m.attachment_size) ≡ m.attachment_size = search rules in
    let k : ℕ = body - meta - n in
    record {
      body = body;
      means = whole.means
          ∙ begins_with bytes meta body n m rest whole.fits whole.there read (sym same ∙ c.in-Ok-attachment_bytes.ensures.0) c.in-Ok-attachment_bytes.ensures.1 c.part_of-rest.ensures
          ∙ ap (λ (l : List ℕ). Begins (record { meta = m; payload = take k rest; attachment = l }) body) (sym (take_rest rest k));
      size = refl;
      there = whole.there;
    }
