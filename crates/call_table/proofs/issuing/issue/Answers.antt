use Rattle.std.proofs.Common.{◌≡◌, ℕ, List, ◌+◌, ◌∙◌, ap, length}
use Rattle.sock_message.specs.Asked.{meta_with, meta_of}
use Rattle.sock_message.specs.io_buf.specs.Buffer.{block_sizes}
use Rattle.rpc_meta.specs.MetaMeaning.{meaning}
use Rattle.call_table.proofs.FramePieces.{taken_so, lies_so}
use Rattle.call_table.proofs.issuing.issue.Goals as goal

pub returns-clause-only : goal.returns-clause-only
returns-clause-only c =
    let is : meaning c.in_ok-meta.meta ≡ meta_of c.args.call.now c.args.id c.args.attempt = c.in_ok-meta.ensures.says ∙ ap (λ (n : ℕ). meta_with c.args.call.now (c.args.id + n + 1)) c.from.ensures in
    taken_so c.encode.result c.args.call.now c.args.id c.args.attempt (meaning c.in_ok-meta.meta) c.payload.result.now.items c.attachment.result.now.items is
    c.payload.ensures.bytes c.attachment.ensures.bytes c.encode.ensures.only

pub returns-clause-pieces : goal.returns-clause-pieces
returns-clause-pieces c =
    let is : meaning c.in_ok-meta.meta ≡ meta_of c.args.call.now c.args.id c.args.attempt = c.in_ok-meta.ensures.says ∙ ap (λ (n : ℕ). meta_with c.args.call.now (c.args.id + n + 1)) c.from.ensures in
    let blocks : List ℕ → List ℕ = λ bytes. block_sizes (length bytes) in
    lies_so c.encode.result c.args.call.now c.args.id c.args.attempt (meaning c.in_ok-meta.meta) c.payload.result.now.sizes c.attachment.result.now.sizes is c.in_ok-meta.ensures.short
    (c.payload.ensures.blocks ∙ ap blocks c.payload.ensures.bytes) (c.attachment.ensures.blocks ∙ ap blocks c.attachment.ensures.bytes) c.encode.ensures.head
