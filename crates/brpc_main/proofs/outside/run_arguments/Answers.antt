use Rattle.std.proofs.Common.{inr, sym, ap, ◌∙◌, map, drop, string_bytes}
use Rattle.brpc_main.proofs.outside.run_arguments.Goals as goal

pub returns-in-Ok : goal.returns-in-Ok
returns-in-Ok g c =
    let words = ap (λ x. map string_bytes x) c.behind_first.ensures ∙ ap (λ x. map string_bytes (drop 1 x)) (c.deref.ensures.value ∙ c.in-Ok.ensures) in
    rw (sym words) (inr c.run_words.ensures)
