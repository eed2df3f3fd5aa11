use Rattle.brpc_model.specs.Frame as model
use Rattle.frame_print.proofs.SuccessiveTextWriting.{as_text}
use Rattle.frame_print.proofs.PieceLemmas.{meta_fault_written}
use Rattle.frame_print.proofs.ending_text.print_fault_words.Goals as goal

pub returns-in-Meta : goal.returns-in-Meta
returns-in-Meta g c = λ (f : model.FrameFault) e.
    let told = c.kind_and_place-kind in
    as_text _ _ _ _ _ c.print_pieces-in-Meta.ensures (meta_fault_written c.args.fault c.in-Meta.fault told.result.0 told.result.1 f c.in-Meta.is told.ensures.kind told.ensures.place e)
