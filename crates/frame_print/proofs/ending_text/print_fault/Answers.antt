use Rattle.std.proofs.Common.{List, ℕ, [], ◌∷◌, ◌++◌, codes, decimal, sym, ◌∙◌, append_assoc, Ok}
use Rattle.std.proofs.lemmas.Result.{err_from_is_err_and}
use Rattle.brpc_model.specs.Frame as model
use Rattle.brpc_model.specs.FramesText.{fault_words}
use Rattle.frame_print.proofs.SuccessiveTextWriting.{as_text, then_wrote, stopped_in, stopped_at}
use Rattle.frame_print.proofs.PieceLemmas.{fault_parts}
use Rattle.frame_print.proofs.ending_text.print_fault.Goals as goal

pub returns-in_err-print_pieces : goal.returns-in_err-print_pieces
returns-in_err-print_pieces g c = λ (f : model.FrameFault) e.
    let p = err_from_is_err_and c.from_residual.result c.from_residual.ensures.1 in
    let front : List ℕ = codes "fault " ++ (decimal c.args.start ++ []) in
    stopped_at _ _ front (fault_words f ++ (10 ∷ [])) _ _ _ _ c.in_err-print_pieces.ensures (sym (append_assoc front (fault_words f) (10 ∷ [])) ∙ fault_parts (decimal c.args.start) (fault_words f)) p.1

pub returns-in_err-print_fault_words : goal.returns-in_err-print_fault_words
returns-in_err-print_fault_words g c = λ (f : model.FrameFault) e.
    let p = err_from_is_err_and c.from_residual-in_err-print_fault_words.result c.from_residual-in_err-print_fault_words.ensures.1 in
    let front : List ℕ = codes "fault " ++ (decimal c.args.start ++ []) in
    stopped_in _ _ _ front (fault_words f) (10 ∷ []) _ _ _ _ c.in_ok-print_pieces.ensures (c.in_err-print_fault_words.ensures f e)
    (sym (append_assoc front (fault_words f) (10 ∷ [])) ∙ fault_parts (decimal c.args.start) (fault_words f)) p.1

pub returns : goal.returns
returns g c = λ (f : model.FrameFault) e.
    as_text _ _ _ _ _ (then_wrote _ _ _ _ _ _ (then_wrote _ _ _ _ _ (Ok tt) c.in_ok-print_pieces.ensures (c.in_ok-print_fault_words.ensures f e)) c.print_pieces-2.ensures)
    (fault_parts (decimal c.args.start) (fault_words f))
