use Rattle.std.proofs.Common.{◌≡◌, ◌≤◌, ◌<◌, ℕ, suc, List, [], ◌∷◌, ◌++◌, length, map, take, drop, get_or, refl, sym, ◌∙◌, ap, arith}
use Rattle.std.proofs.lemmas.List.{append-nil, length-take-le}
use Rattle.std.proofs.Math.Seq.{take-length}
use Rattle.ring_link.specs.declared.cell.Cell.{Cell}
use Rattle.ring_link.specs.declared.cell.Cell.TheVariants.{Byte, Ended, Closed}
use Rattle.ring_link.specs.Cells.{bytes_of, ending_of}
use Rattle.ring_link.proofs.CellLists.{bytes_at, ending_at, bytes_all, ending_all}
use Rattle.ring_link.proofs.packing.unpack_marked.Goals as goal

-- where a mark stands, so many bytes are in front of it, and these are they
marked : (cells : List Cell) (room : List ℕ) (i : ℕ) (m : Cell) → bytes_of (m ∷ drop (suc i) cells) ≡ [] → i < length cells → i ≤ length room → take i cells ≡ map Byte (take i room) → get_or cells i (Byte 0) ≡ m
    → (i ≡ length (bytes_of cells)) × (i ≤ length cells) × (take i room ≡ bytes_of cells) × (ending_of (m ∷ drop (suc i) cells) ≡ ending_of cells)
marked cells room i m none inside fits wrote at =
    let bytes : take i room ≡ bytes_of cells = sym (bytes_at cells (take i room) i (Byte 0) m inside wrote at ∙ ap (λ t. take i room ++ t) none ∙ append-nil (take i room)) in
    (sym (length-take-le i room fits) ∙ ap length bytes, omega (arith, inside), bytes, sym (ending_at cells (take i room) i (Byte 0) m inside wrote at))

pub returns-in-Ended : goal.returns-in-Ended
returns-in-Ended c =
    let m = marked c.args.cells.now c.loop-i.room c.loop-i.i Ended refl c.loop-i-test.true (omega (arith, c.loop-i.auto.room, c.loop-i-test.true, c.requires)) c.loop-i.invariant c.in-Ended.is in
    record { count = m.0; within = m.1; bytes = m.2; ending = m.3 }

pub returns-in-Closed : goal.returns-in-Closed
returns-in-Closed c =
    let m = marked c.args.cells.now c.loop-i.room c.loop-i.i Closed refl c.loop-i-test.true (omega (arith, c.loop-i.auto.room, c.loop-i-test.true, c.requires)) c.loop-i.invariant c.in-Closed.is in
    record { count = m.0; within = m.1; bytes = m.2; ending = m.3 }

whole : (cells : List Cell) (room : List ℕ) (i : ℕ) → take i cells ≡ map Byte (take i room) → length cells ≡ i → cells ≡ map Byte (take i room)
whole cells room i e f = sym (take-length cells) ∙ ap (λ n. take n cells) f ∙ e

pub returns-clause-bytes : goal.returns-clause-bytes
returns-clause-bytes c =
    let n = c.loop-i.i in
    let all : length c.args.cells.now ≡ n = omega (arith, c.loop-i-test.false, c.loop-i.auto.i-end) in
    ap (λ n. take n c.loop-i.room) all ∙ sym (bytes_all c.args.cells.now _ (whole c.args.cells.now c.loop-i.room n c.loop-i.invariant all))

pub returns-clause-count : goal.returns-clause-count
returns-clause-count c =
    let within : length c.args.cells.now ≤ length c.loop-i.room = omega (arith, c.loop-i.auto.room, c.requires) in
    sym (ap length (sym (returns-clause-bytes c)) ∙ length-take-le (length c.args.cells.now) c.loop-i.room within)

pub returns-clause-ending : goal.returns-clause-ending
returns-clause-ending c =
    let n = c.loop-i.i in
    let all : length c.args.cells.now ≡ n = omega (arith, c.loop-i-test.false, c.loop-i.auto.i-end) in
    sym (ending_all c.args.cells.now _ (whole c.args.cells.now c.loop-i.room n c.loop-i.invariant all))
