use Rattle.sock_words.specs.PrintedWords.{hex_text}
use Rattle.frame_print.specs.FrameLineView.{bytes_viewed}
use Rattle.frame_print.proofs.SuccessiveTextWriting.{as_text}
use Rattle.frame_print.proofs.PieceLemmas.{bytes_parts}
use Rattle.frame_print.proofs.frame_text.print_bodies.Goals as goal

pub returns : goal.returns
returns g c =
    as_text _ _ _ _ _ c.print_pieces.ensures (bytes_parts (hex_text (bytes_viewed c.args.payload)) (hex_text (bytes_viewed c.args.attachment)))
