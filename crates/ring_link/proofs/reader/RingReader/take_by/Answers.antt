use Rattle.std.proofs.Common.{rules, ℕ, ◌≡◌, ◌≤◌, ◌<◌, ◌++◌, [], ◌∷◌, refl, List, length, take, ap, sym, ◌∙◌, arith}
use Rattle.std.proofs.lemmas.List.{length-take-le}
use Rattle.rtrb.specs.Ring.{received, known_items}
use Rattle.ring_link.specs.declared.cell.Cell.{Cell}
use Rattle.ring_link.specs.Cells.{IsOpen, bytes_of, ending_of}
use Rattle.ring_link.specs.RingHalves.{ReaderState}
use Rattle.ring_link.proofs.CellLists.{bytes-append, ending-append, no_cells}
use Rattle.ring_link.proofs.reader.RingReader.take_by.Goals as goal

pub invariant_of-self : goal.invariant_of-self
invariant_of-self c =
    let pop = c.pop_partial_slice-count in
    let got = take pop.result pop.new.slice in
    let before = received c.self.inside.cells in
    let r : received pop.new.self ≡ before ++ got = pop.ensures.received.1 in
    let o : IsOpen (ending_of before) = ap (λ (s : ReaderState). s.ending) c.self.view_is ∙ c.requires.2 in
    c.unpack-bytes.ensures.ending ∙ sym (ap ending_of r ∙ ending-append before got o)

pub returns-clause-bytes : goal.returns-clause-bytes
returns-clause-bytes c =
    let pop = c.pop_partial_slice-count in
    let got = take pop.result pop.new.slice in
    let before = received c.self.inside.cells in
    let r : received pop.new.self ≡ before ++ got = pop.ensures.received.1 in
    let o : IsOpen (ending_of before) = ap (λ (s : ReaderState). s.ending) c.self.view_is ∙ c.requires.2 in
    ap bytes_of r ∙ bytes-append before got o ∙ (λ k. (c.self.view_is k).bytes ++ sym c.unpack-bytes.ensures.bytes k)

pub returns-clause-ending : goal.returns-clause-ending
returns-clause-ending c = sym (invariant_of-self c)

nil_of : (cells : List Cell) → length cells ≡ 0 → cells ≡ []
nil_of [] e = refl
nil_of (c ∷ cells) e = search rules

none_seen : (n : ℕ) (slice seen : List Cell) (b : ℕ) → n ≤ length slice → 0 < length slice → (n < length slice → length seen ≡ 0) → b ≡ length (bytes_of (take n slice)) → b ≡ 0 → IsOpen (ending_of (take n slice)) → seen ≡ []
none_seen n slice seen b within some most count none o =
    let e : take n slice ≡ [] = no_cells (take n slice) (sym count ∙ none) o in
    let z : n ≡ 0 = sym (length-take-le n slice within) ∙ ap length e in
    let l : n < length slice = omega (arith, z, some) in
    nil_of seen (most l)

pub returns-clause-none : goal.returns-clause-none
returns-clause-none c z o =
    let pop = c.pop_partial_slice-count in
    let l : length pop.new.slice ≡ length c.args.cells.now = pop.auto.slice in
    let some : 0 < length pop.new.slice = omega (arith, l, c.requires.0) in
    let within : pop.result ≤ length pop.new.slice = omega (arith, l, pop.ensures.received.0) in
    none_seen pop.result pop.new.slice (known_items pop.new.self) c.unpack-bytes.result.0 within some (λ h. pop.ensures.most (search (rules, h, l))) c.unpack-bytes.ensures.count z (sym c.unpack-bytes.ensures.ending ∙ o)
