use Rattle.std.proofs.Common.{◌≡◌, ◌++◌, ℕ, List, length, drop, ap, subst, ◌∙◌, arith, length-append}
use Rattle.prpc_frame.specs.Header.{HeaderSays}
use Rattle.prpc_frame.proofs.Headers.{split_front}
use Rattle.prpc_frame.proofs.header.copy_header.Goals as goal

pub returns : goal.returns
returns c =
    let items = c.args.held.now.items in
    let front = c.copy_at.new.room in
    let e : front ++ drop (length front) items ≡ items =
    ap (λ (l : List ℕ). l ++ drop (length l) items) c.copy_at.ensures ∙ split_front _ items
    in
    let P : List ℕ → Type 0 = λ l. HeaderSays l c.judge_header.result in
    subst P e (c.judge_header.ensures (drop (length front) items) (omega (arith, ap length e, length-append front (drop (length front) items))))
