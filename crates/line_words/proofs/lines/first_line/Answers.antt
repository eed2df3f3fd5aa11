use Rattle.std.proofs.Common.{◌≡◌, ◌≢◌, ◌∷◌, ◌<◌, ◌-◌, ◌∙◌, ℕ, ap, sym, length, take, drop, suc, get_or, arith}
use Rattle.std.specs.Str.Lines.{lines, strip_carriage_return}
use Rattle.line_words.proofs.LinesCut.{lines_found, lines_last, behind_one}
use Rattle.line_words.proofs.lines.first_line.Goals as goal

pub returns-then-at-text-clause-lines : goal.returns-then-at-text-clause-lines
returns-then-at-text-clause-lines c =
    let text = c.args.text.now in
    let at = c.find_feed-at.result in
    let behind : drop (suc at) text ≡ take (length c.split_at.result.1.now - 1) (drop 1 c.split_at.result.1.now) = sym (behind_one c.split_at.result.1.now at text c.split_at.ensures.back) in
    lines_found text at c.if-at-text.true c.find_feed-at.ensures.before (c.find_feed-at.ensures.found c.if-at-text.true)
    ∙ ap (λ x. x ∷ lines (drop (suc at) text)) (sym (c.without_return.ensures ∙ ap strip_carriage_return c.split_at.ensures.front))
    ∙ ap (λ x. c.without_return.result.now ∷ lines x) behind

pub returns-else-at-text-clause-lines : goal.returns-else-at-text-clause-lines
returns-else-at-text-clause-lines c =
    let text = c.args.text.now in
    let none : (k : ℕ) → k < length text → get_or text k 0 ≢ 10 = λ k h. c.find_feed-at.ensures.before k (omega (arith, h)) in
    lines_last text c.requires none
