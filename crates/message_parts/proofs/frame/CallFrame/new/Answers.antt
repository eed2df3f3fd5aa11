use Rattle.std.proofs.Common.{◌≡◌, ◌+◌, ◌-◌, ◌∷◌, [], ◌++◌, ℕ, List, length, All, ap, sym, subst, ◌∙◌, arith}
use Rattle.std.proofs.lemmas.List.Elements.{All-head}
use Rattle.io_buf.specs.Buffer.{Buffer, IsSize, block_sizes}
use Rattle.message_parts.specs.FramesByParts.{LiesInParts}
use Rattle.sock_message.specs.Asked.{Asked, head_of, frame_of}
use Rattle.message_parts.proofs.FrameParts.{lies_framed}
use Rattle.message_parts.proofs.frame.CallFrame.new.Goals as goal

pub invariant_of-result : goal.invariant_of-result
invariant_of-result c =
    let asked : Asked = c.args.call.now in
    let head : ℕ = head_of asked c.args.id c.args.attempt in
    let is_payload : c.len-payload.result ≡ length asked.payload = c.len-payload.ensures ∙ ap length c.payload.ensures.bytes in
    let is_attachment : c.len-attachment.result ≡ length asked.attachment = c.len-attachment.ensures ∙ ap length c.attachment.ensures.bytes in
    let many : length c.in_ok-buf.buf.items ≡ length (frame_of asked c.args.id c.args.attempt) = ap length c.in_ok-buf.ensures.bytes in
    let is_head : c.len.result - (c.len-payload.result + c.len-attachment.result) ≡ head = omega (arith, c.len.ensures, is_payload, is_attachment, many) in
    let each : All IsSize (head ∷ block_sizes (length asked.payload) ++ block_sizes (length asked.attachment)) = subst (λ (l : List ℕ). All IsSize l) c.in_ok-buf.ensures.pieces c.refs.ensures.each in
    let one : IsSize head = All-head IsSize head (block_sizes (length asked.payload) ++ block_sizes (length asked.attachment)) each in
    let whole : length c.in_ok-buf.buf.items ≡ (c.len.result - (c.len-payload.result + c.len-attachment.result)) + (c.len-payload.result + c.len-attachment.result) = omega (arith, c.len.ensures, is_head, one.0) in
    let sizes : c.in_ok-buf.buf.sizes ≡ (c.len.result - (c.len-payload.result + c.len-attachment.result)) ∷ block_sizes c.len-payload.result ++ block_sizes c.len-attachment.result = rw (is_head, is_payload, is_attachment) c.in_ok-buf.ensures.pieces in
    let P : Buffer → Type 0 = LiesInParts ((c.len.result - (c.len-payload.result + c.len-attachment.result)) ∷ c.len-payload.result ∷ c.len-attachment.result ∷ []) in
    let lies = lies_framed c.in_ok-buf.buf (c.len.result - (c.len-payload.result + c.len-attachment.result)) c.len-payload.result c.len-attachment.result (omega (arith, is_head, one.0)) (omega (arith, is_head, one.1)) whole sizes in
    subst P (sym c.in_ok-boxed.ensures.ok) lies
