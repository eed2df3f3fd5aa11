use Rattle.std.proofs.Common.{◌∷◌, ◌+◌, ◌==◌, ℕ, Bool, ◌∙◌, ap, sym, drop}
use Rattle.std.specs.List.{slice_split}
use Rattle.line_words.proofs.PiecesOfCutLine.{cut_at, not_cut}
use Rattle.line_words.proofs.words.split_once.Goals as goal

pub returns-in-Some-clause-some : goal.returns-in-Some-clause-some
returns-in-Some-clause-some c =
    let p : ℕ → Bool = λ b. b == c.args.byte in
    cut_at p c.args.bytes.now c.in-Some.at (sym c.in-Some.is ∙ c.find_byte.ensures.place)
    ∙ ap (λ x. x ∷ slice_split p (drop (c.in-Some.at + 1) c.args.bytes.now)) (sym c.before-in-Some.ensures)
    ∙ ap (λ x. c.before-in-Some.result.now ∷ slice_split p x) (sym c.behind.ensures)

pub returns-in-None-clause-none : goal.returns-in-None-clause-none
returns-in-None-clause-none c = not_cut (λ b. b == c.args.byte) c.args.bytes.now (sym c.in-None.is ∙ c.find_byte.ensures.place)
