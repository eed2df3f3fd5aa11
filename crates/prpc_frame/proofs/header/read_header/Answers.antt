use Rattle.std.proofs.Common.{◌≡◌, ◌++◌, ℕ, List, length, drop, ap, subst, ◌∙◌, arith, length-append, length-take}
use Rattle.std.proofs.lemmas.List.{take-append-drop}
use Rattle.prpc_frame.specs.Header.{HeaderSays}
use Rattle.prpc_frame.proofs.header.read_header.Goals as goal

pub returns-in-Some : goal.returns-in-Some
returns-in-Some c =
    let items = c.args.held.now.items in
    let front = c.in-Some.front.now in
    let e : front ++ drop 12 items ≡ items = ap (λ (l : List ℕ). l ++ drop 12 items) c.in-Some.ensures.0 ∙ take-append-drop 12 items in
    let P : List ℕ → Type 0 = λ l. HeaderSays l c.judge_header.result in
    subst P e (c.judge_header.ensures (drop 12 items) (omega (arith, ap length e, length-append front (drop 12 items))))

pub judge_header-requires : goal.judge_header-requires
judge_header-requires c =
    let items = c.args.held.now.items in
    omega (arith, ap length c.in-Some.ensures.0, length-take 12 items, c.in-Some.ensures.1)
