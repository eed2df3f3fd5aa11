use Rattle.std.proofs.Common.{rules, ◌≡◌, ◌++◌, ◌∷◌, [], ap, sym, ◌∙◌, subst}
use Rattle.sock_io.specs.declared.ending.Ending.TheVariants as ending
use Rattle.rtrb.specs.Ring.{sent}
use Rattle.ring_link.specs.declared.cell.Cell.{Cell}
use Rattle.ring_link.specs.Cells.{IsOpen, bytes_of, ending_of, mark_cells}
use Rattle.ring_link.specs.RingHalves.{WriterState}
use Rattle.ring_link.proofs.CellLists.{IsWhole, bytes_shut, ending_shut, whole_shut}
use Rattle.ring_link.proofs.writer.RingWriter.mark.Goals as goal

-- no mark stands for none
no_mark : (m : Cell) → mark_cells (ending_of (m ∷ [])) ≡ m ∷ [] → ending_of (m ∷ []) ≡ ending.Open → ⊥
no_mark m is open_ = let none : m ∷ [] ≡ [] = sym is ∙ ap mark_cells open_ in cc

pub invariant_of-self : goal.invariant_of-self
invariant_of-self c =
    let before = sent c.self.inside.cells in
    let e = ending_of (c.args.mark ∷ []) in
    let put : sent c.push_reserved.new.self ≡ before ++ mark_cells e = c.push_reserved.ensures.sent.0 ∙ ap (λ t. before ++ t) (sym c.requires.mark) in
    let o : IsOpen (ending_of before) = ap (λ (s : WriterState). s.ending) c.self.view_is ∙ c.requires.unmarked in
    (subst IsWhole (sym put) (whole_shut before e c.self.invariant.0 o), λ open_. absurd (no_mark c.args.mark c.requires.mark (sym (ap ending_of put ∙ ending_shut before e o) ∙ open_)))

pub returns : goal.returns
returns c =
    let before = sent c.self.inside.cells in
    let e = ending_of (c.args.mark ∷ []) in
    let put : sent c.push_reserved.new.self ≡ before ++ mark_cells e = c.push_reserved.ensures.sent.0 ∙ ap (λ t. before ++ t) (sym c.requires.mark) in
    let o : IsOpen (ending_of before) = ap (λ (s : WriterState). s.ending) c.self.view_is ∙ c.requires.unmarked in
    (search rules, ap bytes_of put ∙ bytes_shut before e o ∙ ap (λ (s : WriterState). s.bytes) c.self.view_is, ap ending_of put ∙ ending_shut before e o)
