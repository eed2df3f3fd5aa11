use Rattle.std.proofs.Common.{◌≡◌, ◌≢◌, ◌*◌, ◌<◌, ℕ, List, length, ◌+◌, max, false, IsTrue, refl, sym, ap, ◌∙◌, subst, arith}
use Rattle.sock_words.specs.declared.place_word.PlaceWord.{PlaceWord}
use Rattle.sock_words.specs.PackedWords.{no_place, place_word_position, place_word_dropped}
use Rattle.exec_queue.specs.declared.order.Counts.{Counts}
use Rattle.exec_queue.specs.LinesInOrder.{line_word}
use Rattle.exec_queue.proofs.PositionsOfLines.{IsPut, word_or, step_none, step_kept, step_dropped, step_inside, all_lines, all_ran}
use Rattle.exec_queue.proofs.order.put_lines.Goals as goal
use Rattle.exec_queue.proofs.order.put_lines.Goals.{then-not-is_none+then-position-order+then-not-dropped, then-not-is_none+then-position-order+else-not-dropped, else-not-is_none, else-not-is_none-via-then-not-is_none+else-position-order, else-not-is_none-via-else-not-is_none}

not_true : IsTrue false → ⊥
not_true e = absurd (cc)

again : (ws : List PlaceWord) (lines : List ℕ) (kept : ℕ) (o o' : List ℕ) (n a a' r r' : ℕ) → o ≡ o' → a ≡ a' → r ≡ r' → IsPut ws lines kept o' n a' r' → IsPut ws lines kept o n a r
again ws lines kept o o' n a a' r r' oe ae re put = subst (λ (x : List ℕ). IsPut ws lines kept x n a r) (sym oe) (subst (λ (x : ℕ). IsPut ws lines kept o' n x r) (sym ae) (subst (λ (x : ℕ). IsPut ws lines kept o' n a' x) (sym re) put))

pub loop-line-preserved : goal.loop-line-preserved
loop-line-preserved c =
    let ws = c.args.words.now in
    let old = c.args.order.now in
    let n = c.loop-line.line in
    let inv = c.loop-line.invariant in
    let word = word_or ws (8 * n) _ refl in
    let low : n < length old = omega arith in
    elim c.if-not-is_none.branch [
      | then-not-is_none+then-position-order+then-not-dropped w ↦
          let some_ : line_word ws n ≢ no_place = λ e. absurd (not_true (w.if-not-is_none.ensures.1 (word ∙ e))) in
          let p_is = c.position-position.ensures ∙ ap place_word_position word in
          let within = w.if-position-order.true in
          let a_is : c.if-not-is_none.counts.accepted ≡ max c.loop-line.counts.accepted (c.position-position.result + 1) = ap (λ (x : Counts). x.accepted) w.counts-is ∙ w.max.ensures in
          let r_is : c.if-not-is_none.counts.ran ≡ max c.loop-line.counts.ran (c.position-position.result + 1) = ap (λ (x : Counts). x.ran) w.counts-is ∙ w.max-then-not-dropped.ensures in
          record {
            sized = c.if-not-is_none.auto.order ∙ inv.sized;
            end = refl;
            accepted = omega (arith, inv.accepted);
            fewer = omega (arith, inv.fewer);
            put = λ lines kept are. again ws lines kept _ _ (n + 1) _ _ _ _ w.order-is a_is r_is (step_kept ws old lines kept are c.requires.few n c.loop-line.order c.loop-line.counts.accepted c.loop-line.counts.ran (inv.put lines kept are) low some_ inv.sized c.position-position.result p_is (ap place_word_dropped (sym word) ∙ (sym w.dropped.ensures ∙ w.if-not-dropped.true)));
          }
      | then-not-is_none+then-position-order+else-not-dropped w ↦
          let some_ : line_word ws n ≢ no_place = λ e. absurd (not_true (w.if-not-is_none.ensures.1 (word ∙ e))) in
          let p_is = c.position-position.ensures ∙ ap place_word_position word in
          let within = w.if-position-order.true in
          let a_is : c.if-not-is_none.counts.accepted ≡ max c.loop-line.counts.accepted (c.position-position.result + 1) = ap (λ (x : Counts). x.accepted) w.counts-is ∙ w.max.ensures in
          let r_is : c.if-not-is_none.counts.ran ≡ c.loop-line.counts.ran = ap (λ (x : Counts). x.ran) w.counts-is in
          record {
            sized = c.if-not-is_none.auto.order ∙ inv.sized;
            end = refl;
            accepted = omega (arith, inv.accepted);
            fewer = omega (arith, inv.fewer);
            put = λ lines kept are. again ws lines kept _ _ (n + 1) _ _ _ _ w.order-is a_is r_is (step_dropped ws old lines kept are c.requires.few n c.loop-line.order c.loop-line.counts.accepted c.loop-line.counts.ran (inv.put lines kept are) low some_ inv.sized c.position-position.result p_is (ap place_word_dropped (sym word) ∙ (sym w.dropped.ensures ∙ w.if-not-dropped.false)));
          }
      | else-not-is_none w ↦
          let a_is : c.if-not-is_none.counts.accepted ≡ c.loop-line.counts.accepted = ap (λ (x : Counts). x.accepted) w.counts-is in
          let r_is : c.if-not-is_none.counts.ran ≡ c.loop-line.counts.ran = ap (λ (x : Counts). x.ran) w.counts-is in
          record {
            sized = c.if-not-is_none.auto.order ∙ inv.sized;
            end = refl;
            accepted = omega (arith, inv.accepted);
            fewer = omega (arith, inv.fewer);
            put = λ lines kept are. again ws lines kept _ _ (n + 1) _ _ _ _ w.order-is a_is r_is (elim w.else-not-is_none.branch [
              | else-not-is_none-via-then-not-is_none+else-position-order x ↦
                  let some_ : line_word ws n ≢ no_place = λ e. absurd (not_true (x.if-not-is_none.ensures.1 (word ∙ e))) in
                  let p_is = c.position-position.ensures ∙ ap place_word_position word in
                  let out = x.if-position-order.false in
                  let h = step_inside ws old lines kept are c.requires.few n c.loop-line.order c.loop-line.counts.accepted c.loop-line.counts.ran (inv.put lines kept are) low some_ inv.sized c.position-position.result p_is in
                  absurd (omega arith)
              | else-not-is_none-via-else-not-is_none x ↦
                  let none_ : line_word ws n ≡ no_place = sym word ∙ x.if-not-is_none.ensures.0 refl in
                  step_none ws old lines kept are c.requires.few n c.loop-line.order c.loop-line.counts.accepted c.loop-line.counts.ran (inv.put lines kept are) none_
            ]);
          }
    ]

pub returns-clause-lines : goal.returns-clause-lines
returns-clause-lines c = λ lines kept are. all_lines c.args.words.now c.args.order.now lines kept are (omega arith) c.loop-line.line c.loop-line.counts.accepted c.loop-line.counts.ran c.loop-line.order (omega arith) (c.loop-line.invariant.put lines kept are) c.loop-line.invariant.sized

pub returns-clause-ran : goal.returns-clause-ran
returns-clause-ran c = λ lines kept are. all_ran c.args.words.now c.args.order.now lines kept are (omega arith) c.loop-line.line c.loop-line.counts.accepted c.loop-line.counts.ran c.loop-line.order (omega arith) (c.loop-line.invariant.put lines kept are)
