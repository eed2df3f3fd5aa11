use Rattle.std.proofs.Common.{◌≡◌, ℕ, ◌<◌, ◌==◌, true, List, [], ◌∷◌, ◌++◌, length, arith, ap, sym, subst, ◌∙◌}
use Rattle.std.proofs.lemmas.Bool.{eqb-true, eqb-false, eq-eqb, MatchBool-at_true}
use Rattle.std.proofs.lemmas.Result.{on_ok_weaker}
use Rattle.io_buf.specs.Buffer.{Buffer, block_sizes}
use Rattle.io_buf.proofs.PieceLists.{no_sizes}
use Rattle.io_buf.proofs.ReferenceSizesAtEnds.{block_sizes-one}
use Rattle.io_buf.proofs.buf.IoBuf.append_bytes.Goals as goal

pub returns-then-is_empty-clause-empty : goal.returns-then-is_empty-clause-empty
returns-then-is_empty-clause-empty c = λ none.
    let P : Buffer → Type 0 = λ b. b.items ≡ [] → b.sizes ≡ [] in
    let zero : length c.args.bytes.now ≡ 0 = eqb-true _ 0 (sym c.if-is_empty.ensures) in
    subst P c.self.view_is (no_sizes c.self.inside.pieces.items c.self.invariant.pieces) none ∙ sym (ap block_sizes zero)

pub returns-then-bytes-left-clause-empty : goal.returns-then-bytes-left-clause-empty
returns-then-bytes-left-clause-empty c =
    let P : Buffer → Type 0 = λ b. b.items ≡ [] → b.sizes ≡ [] in
    let ps = c.self.inside.pieces.items in
    let filled : length c.args.bytes.now ≡ 0 → ⊥ = eqb-false (length c.args.bytes.now) 0 (sym c.if-is_empty.ensures) in
    let some : 0 < length c.args.bytes.now = omega arith in
    on_ok_weaker c.write_piece.result (λ e none.
    e
    ∙ ap (λ (l : List ℕ). l ++ length c.args.bytes.now ∷ []) (subst P c.self.view_is (no_sizes ps c.self.invariant.pieces) none)
    ∙ sym (block_sizes-one (length c.args.bytes.now) some (omega (arith, c.if-bytes-le-BLOCK_BYTES.true)))) c.write_piece.ensures.sizes

pub returns-then-bytes-left-clause-kept : goal.returns-then-bytes-left-clause-kept
returns-then-bytes-left-clause-kept c = on_ok_weaker c.write_piece.result (λ e. (length c.args.bytes.now ∷ [], e)) c.write_piece.ensures.sizes

pub returns-clause-items : goal.returns-clause-items
returns-clause-items c = on_ok_weaker c.append_whole.result (λ e. e ∙ ap (λ (l : List ℕ). c.args.self.now.items ++ l) c.in_ok-added.ensures.items) c.append_whole.ensures.items

pub returns-clause-empty : goal.returns-clause-empty
returns-clause-empty c =
    let P : Buffer → Type 0 = λ b. b.items ≡ [] → b.sizes ≡ [] in
    on_ok_weaker c.append_whole.result (λ e none.
    let no_items = ap (λ (b : Buffer). b.items) c.self.view_is ∙ none in
    let fresh : (c.self.inside.len == 0) ≡ true = eq-eqb c.self.inside.len 0 (c.self.invariant.len ∙ ap length no_items) in
    e
    ∙ ap (λ (l : List ℕ). l ++ c.in_ok-added.added.sizes) (subst P c.self.view_is (no_sizes c.self.inside.pieces.items c.self.invariant.pieces) none)
    ∙ MatchBool-at_true _ _ fresh c.in_ok-added.ensures.sizes) c.append_whole.ensures.sizes

pub returns-clause-kept : goal.returns-clause-kept
returns-clause-kept c = on_ok_weaker c.append_whole.result (λ e. (c.in_ok-added.added.sizes, e)) c.append_whole.ensures.sizes
