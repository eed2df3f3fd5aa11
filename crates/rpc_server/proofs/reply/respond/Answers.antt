use Rattle.std.proofs.Common.{◌≡◌, ◌+◌, ◌≤◌, ◌∙◌, ℕ, List, [], ap, sym, subst, length, arith}
use Rattle.brpc_model.specs.Frame.{body_limit}
use Rattle.brpc_model.specs.Meta.{Meta}
use Rattle.brpc_model.specs.Reply.{response_with}
use Rattle.brpc_model.specs.Spelling.{meta_bytes}
use Rattle.rpc_meta.specs.MetaMeaning.{meaning}
use Rattle.rpc_server.proofs.reply.respond.Goals as goal

pub encode-requires-clause-small : goal.encode-requires-clause-small
encode-requires-clause-small c =
    let met : List ℕ → Meta = λ text. (response_with c.args.id c.args.code text [] c.args.attachment.now.items).meta in
    let copied : c.in-Ok.text ≡ c.args.text.now = c.in-Ok.ensures in
    let wrote : meaning c.response_meta-meta.result ≡ met c.in-Ok.text = c.response_meta-meta.ensures in
    let same : meaning c.response_meta-meta.result ≡ met c.args.text.now = wrote ∙ ap met copied in
    subst (λ (m : Meta). length (meta_bytes m) + length c.args.payload.now.items + length c.args.attachment.now.items ≤ body_limit) (sym same) c.requires.small
