use Rattle.std.proofs.Common.{◌++◌, codes, decimal, ap, ◌∙◌, w32, to_z, of_z}
use Rattle.std.specs.Fmt.{signed_decimal}
use Rattle.std.proofs.lemmas.Int.{to_z-of_z}
use Rattle.sock_words.specs.PrintedWords.{word}
use Rattle.frame_print.proofs.SuccessiveTextWriting.{as_text}
use Rattle.frame_print.proofs.PieceLemmas.{numbers_parts}
use Rattle.frame_print.proofs.frame_text.print_numbers.Goals as goal

pub returns : goal.returns
returns g c =
    as_text _ _ _ _ _ c.print_pieces.ensures
    (numbers_parts (decimal c.args.id) (signed_decimal (to_z w32 (of_z w32 c.args.compress)))
    ∙ ap (λ z. codes " id" ++ word (decimal c.args.id) ++ codes " compress" ++ word (signed_decimal z)) (to_z-of_z w32 c.args.compress c.ranges.compress))
