-- The pieces of a sentence, one behind another.
use Rattle.std.proofs.Common.{◌≡◌, ℕ, ◌+◌, ◌<◌, List, [], ◌∷◌, ◌++◌, length, take, drop, get_or, ap, sym, ◌∙◌, append_assoc}
use Rattle.std.proofs.lemmas.List.{take_more, take-append-drop}
use Rattle.std.proofs.lemmas.Grind.{flat_map-append}
use Rattle.brpc_reasons.specs.SentencePieces.{piece_text, pieces_text}
use Rattle.brpc_reasons.specs.declared.piece.Piece.{Piece}

-- a piece behind those that are written, and the others behind it
pub pieces_rest : (ps : List Piece) (i : ℕ) (d : Piece) → i < length ps → pieces_text (take i ps) ++ (piece_text (get_or ps i d) ++ pieces_text (drop (i + 1) ps)) ≡ pieces_text ps
pieces_rest ps i d below =
    let one : take i ps ++ (get_or ps i d ∷ drop (i + 1) ps) ≡ ps =
    sym (append_assoc (take i ps) (get_or ps i d ∷ []) (drop (i + 1) ps))
    ∙ ap (λ l. l ++ drop (i + 1) ps) (sym (take_more ps i d below))
    ∙ take-append-drop (i + 1) ps
    in
    sym (flat_map-append piece_text (take i ps) (get_or ps i d ∷ drop (i + 1) ps)) ∙ ap pieces_text one
