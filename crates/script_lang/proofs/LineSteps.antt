-- What the lines from a place on say, and those before it.
use Rattle.std.proofs.Common.{◌≡◌, ℕ, suc, ◌+◌, ◌<◌, List, [], ◌∷◌, ◌++◌, length, map, take, drop, get_or, ap, sym, ◌∙◌, arith}
use Rattle.std.proofs.Math.Seq.{drop-cons}
use Rattle.std.proofs.lemmas.List.{map_more}
use Rattle.script_items.specs.declared.line.Line.{Line}
use Rattle.script_items.specs.LineMeaning.{item}

-- what the lines from a place on say
pub line_step : (lines : List Line) (i : ℕ) (line : Line) → i < length lines → line ≡ get_or lines i line → map item (drop i lines) ≡ item line ∷ map item (drop (i + 1) lines)
line_step lines i line h e =
    let next : suc i ≡ i + 1 = omega arith in
    ap (map item) (drop-cons lines i line h) ∙ ap (λ x. item x ∷ map item (drop (suc i) lines)) (sym e) ∙ ap (λ k. item line ∷ map item (drop k lines)) next

-- and those before the next
pub line_more : (lines : List Line) (i : ℕ) (line : Line) → i < length lines → line ≡ get_or lines i line → map item (take (i + 1) lines) ≡ map item (take i lines) ++ item line ∷ []
line_more lines i line h e = map_more item lines i line h ∙ ap (λ x. map item (take i lines) ++ item x ∷ []) (sym e)
