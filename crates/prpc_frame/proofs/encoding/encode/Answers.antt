use Rattle.std.proofs.Common.{◌≡◌, rules, arith, ℕ, List, ◌+◌, ◌++◌, length, ap, ◌∙◌}
use Rattle.std.proofs.lemmas.Grind.{common_steps}
use Rattle.rpc_meta.specs.brpc_model.specs.Frame.{IsFrame, frame_bytes}
use Rattle.rpc_meta.specs.brpc_model.specs.Spelling.{meta_bytes}
use Rattle.rpc_meta.specs.MetaMeaning.{meaning}
use Rattle.prpc_frame.specs.FrameMeaning.{frame_with}
use Rattle.io_buf.specs.Buffer.{block_sizes}
use Rattle.io_buf.proofs.ReferenceSizesAtEnds.{block_sizes-one}
use Rattle.prpc_frame.proofs.Encoded.{frame_judged}
use Rattle.prpc_frame.proofs.encoding.encode.Goals as goal

pub returns-clause-only : goal.returns-clause-only
returns-clause-only c = λ (more : List ℕ).
    let frame = frame_with (meaning c.args.meta.now) c.args.payload.now.items c.args.attachment.now.items in
    let made : c.append_shared-2.new.frame.items ≡ frame_bytes frame = first_of (search rules, grind (arith, common_steps)) in
    let is_frame : IsFrame c.append_shared-2.new.frame.items frame =
    record { spelled = meta_bytes (meaning c.args.meta.now); means = c.in_ok-append_front.ensures.reads_back; made = made; sized = c.requires.sized; small = c.requires.small }
    in
    frame_judged c.append_shared-2.new.frame.items more frame is_frame

parts : (c : goal.After-refs) → c.append_shared-2.new.frame.sizes ≡ block_sizes (12 + length (meta_bytes (meaning c.args.meta.now))) ++ c.args.payload.now.sizes ++ c.args.attachment.now.sizes
parts c =
    c.in_ok-append_shared-2.ensures.sizes
    ∙ ap (λ (l : List ℕ). l ++ c.args.attachment.now.sizes) (c.in_ok-append_shared.ensures.sizes ∙ ap (λ (l : List ℕ). l ++ c.args.payload.now.sizes) c.in_ok-append_front.ensures.sizes)

pub returns-clause-sizes : goal.returns-clause-sizes
returns-clause-sizes c = parts c

pub returns-clause-head : goal.returns-clause-head
returns-clause-head c = λ fits.
    parts c ∙ ap (λ (l : List ℕ). l ++ c.args.payload.now.sizes ++ c.args.attachment.now.sizes) (block_sizes-one (12 + length (meta_bytes (meaning c.args.meta.now))) (omega arith) fits)
