use Rattle.std.proofs.Common.{rules, ◌≡◌, ◌%◌, ◌==◌, ◌∙◌, true, arith}
use Rattle.std.proofs.lemmas.Bool.Decides.{nat_tests}
use Rattle.sock_words.specs.PackedWords.{vref_version}
use Rattle.seat_states.proofs.ProgramBehindSteps.{looks_on, looks_failed}
use Rattle.seat_states.proofs.point.Sending.looked.Goals as goal

pub returns-then-is_failed-clause-program : goal.returns-then-is_failed-clause-program
returns-then-is_failed-clause-program c a e =
    let odd : vref_version c.args.found.0 % 2 ≡ 1 = search rules in
    c.refused.ensures.program a ∙ looks_failed a c.args.self c.args.found.0 odd

pub returns-else-is_failed-clause-program : goal.returns-else-is_failed-clause-program
returns-else-is_failed-clause-program c a e =
    let even : (vref_version c.args.found.0 % 2 == 0) ≡ true = grind (arith, nat_tests, c.is_failed.ensures, c.if-is_failed.false) in
    c.try_request.ensures.program a e ∙ looks_on a c.args.self c.args.requests c.args.found.0 e even
