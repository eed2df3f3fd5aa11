use Rattle.std.proofs.Common.{◌≡◌, ℕ, ◌+◌, ◌-◌, min, List, ◌∷◌, ◌++◌, length, take, drop, arith, ap, sym, ◌∙◌, length-append, length-take, length-drop}
use Rattle.std.proofs.lemmas.Slice.{take-put_mid}
use Rattle.std.proofs.Math.Seq.{take-add}
use Rattle.std.specs.List.{concat}
use Rattle.io_buf.proofs.PieceLoopSteps.{place_within, at_place, copied, left}
use Rattle.io_buf.proofs.buf.copy.copy_from.Goals as goal

pub loop-done-preserved : goal.loop-done-preserved
loop-done-preserved c =
    let ps = c.args.pieces.now.items in
    let all = length c.args.room.now in
    let wanted = take all (drop c.args.start (concat ps)) in
    let i = c.loop-done.place in
    let p = c.as_slice-piece.result.now in
    let more = concat (drop (i + 1) ps) in
    let skip = c.loop-done.skip in
    let done = c.loop-done.done in
    let from = c.min-from.result in
    let taken = c.min-taken.result in
    let known = c.loop-done.invariant in
    let within = place_within ps i (all - done) (omega arith) (omega arith) in
    let here : drop i ps ≡ p ∷ drop (i + 1) ps =
    at_place ps i c.get.result.now within c.get.ensures.value ∙ ap (λ (q : List ℕ). q ∷ drop (i + 1) ps) (sym c.as_slice-piece.ensures)
    in
    let from_is : from ≡ min skip (length p) = omega arith in
    let taken_is : taken ≡ min (length p - from) (all - done) = omega arith in
    let rest : take (all - done) (drop skip (p ++ more)) ≡ drop done wanted = ap (λ (l : List (List ℕ)). take (all - done) (drop skip (concat l))) (sym here) ∙ known.rest in
    let whole : from + taken - from ≡ taken = omega arith in
    let chunk : c.copy_from_slice.new.self ≡ take taken (drop from p) = c.copy_from_slice.ensures.after ∙ ap (λ (m : ℕ). take m (drop from p)) whole in
    let long : length c.copy_from_slice.new.self ≡ taken = omega (arith, ap length chunk, length-take taken (drop from p), length-drop from p) in
    let size = length-append p more in
    let sizes = ap (λ (l : List (List ℕ)). length (concat l)) here in
    record {
      place = omega arith;
      done = omega arith;
      fits = omega (arith, known.fits);
      front =
          take-put_mid done (done + taken - done) c.loop-done.room c.copy_from_slice.new.self (done + taken) (omega arith) (omega arith)
          ∙ ap (λ (l : List ℕ). l ++ c.copy_from_slice.new.self) known.front
          ∙ ap (λ (l : List ℕ). take done wanted ++ l) (chunk ∙ copied p more wanted skip done all from taken from_is taken_is rest)
          ∙ sym (take-add done taken wanted);
      rest = left p more wanted skip done all from taken from_is taken_is known.done rest;
    }
