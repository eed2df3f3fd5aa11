use Rattle.std.proofs.Common.{rules, ◌≡◌, ◌++◌, ℕ, ◌+◌, ◌-◌, ◌<◌, ◌≤◌, length, take, ap, sym, ◌∙◌, subst, arith}
use Rattle.rtrb.specs.Ring.{sent, known_free}
use Rattle.std.proofs.lemmas.List.{length-map}
use Rattle.ring_link.specs.declared.cell.Cell.TheVariants.{Byte}
use Rattle.ring_link.specs.Cells.{IsOpen, bytes_of, ending_of}
use Rattle.ring_link.specs.RingHalves.{WriterState}
use Rattle.ring_link.proofs.CellLists.{IsWhole, bytes_put, each_open, ending_put, whole_put}
use Rattle.ring_link.proofs.writer.RingWriter.push.Goals as goal

left_free : (before after bytes cells : ℕ) → 0 < before → bytes ≤ before - 1 → cells ≡ bytes → before ≤ after + cells → 0 < after
left_free before after bytes cells some room as_many lost = omega arith

pub push_entire_slice-requires : goal.push_entire_slice-requires
push_entire_slice-requires c i d l =
    let before = sent c.self.inside.cells in
    let o : IsOpen (ending_of before) = ap (λ (s : WriterState). s.ending) c.self.view_is ∙ c.requires.«open» in
    subst (λ t. IsOpen (ending_of (before ++ take i t))) (sym c.requires.cells) (each_open before c.args.bytes.now i o)

pub invariant_of-self : goal.invariant_of-self
invariant_of-self c =
    let before = sent c.self.inside.cells in
    let o : IsOpen (ending_of before) = ap (λ (s : WriterState). s.ending) c.self.view_is ∙ c.requires.«open» in
    let put : sent c.push_entire_slice.new.self ≡ before ++ c.args.cells.now = search rules in
    let all = put ∙ ap (λ t. before ++ t) c.requires.cells in
    let some : 0 < known_free c.self.inside.cells = c.self.invariant.1 o in
    let room : length c.args.bytes.now ≤ known_free c.self.inside.cells - 1 = subst (λ (s : WriterState). length c.args.bytes.now ≤ s.places) (sym c.self.view_is) c.requires.room in
    let as_many : length c.args.cells.now ≡ length c.args.bytes.now = ap length c.requires.cells ∙ length-map c.args.bytes.now Byte in
    let lost : known_free c.self.inside.cells ≤ known_free c.push_entire_slice.new.self + length c.args.cells.now = search rules in
    (subst IsWhole (sym all) (whole_put before c.args.bytes.now c.self.invariant.0 o), λ _. left_free _ _ _ _ some room as_many lost)

pub returns-clause-bytes : goal.returns-clause-bytes
returns-clause-bytes c =
    let before = sent c.self.inside.cells in
    let o : IsOpen (ending_of before) = ap (λ (s : WriterState). s.ending) c.self.view_is ∙ c.requires.«open» in
    let put : sent c.push_entire_slice.new.self ≡ before ++ c.args.cells.now = search rules in
    ap bytes_of (put ∙ ap (λ t. before ++ t) c.requires.cells) ∙ bytes_put before c.args.bytes.now o ∙ ap (λ (s : WriterState). s.bytes ++ c.args.bytes.now) c.self.view_is

pub returns-clause-ending : goal.returns-clause-ending
returns-clause-ending c =
    let before = sent c.self.inside.cells in
    let o : IsOpen (ending_of before) = ap (λ (s : WriterState). s.ending) c.self.view_is ∙ c.requires.«open» in
    let put : sent c.push_entire_slice.new.self ≡ before ++ c.args.cells.now = search rules in
    ap ending_of (put ∙ ap (λ t. before ++ t) c.requires.cells) ∙ ending_put before c.args.bytes.now o
