use Rattle.std.proofs.Common.{◌≡◌, suc, ◌+◌, ◌∷◌, drop, get_or, ap, ◌∙◌, arith, drop-cons}
use Rattle.reader_points.proofs.ReaderAfterWordSteps.{loads_next}
use Rattle.reader_points.proofs.point.Closing.posts.Goals as goal

pub returns-then-next-calls-clause-program : goal.returns-then-next-calls-clause-program
returns-then-next-calls-clause-program c a is =
    let n = c.args.self.next in
    let o = get_or c.args.calls.now n 0 in
    let e : suc n ≡ n + 1 = omega arith in
    let front : drop n c.args.calls.now ≡ o ∷ drop (n + 1) c.args.calls.now = drop-cons c.args.calls.now n 0 c.if-next-calls.true ∙ ap (λ m. o ∷ drop m c.args.calls.now) e in
    rw c.beyond.ensures (loads_next a c.args.self o (rw is front))
