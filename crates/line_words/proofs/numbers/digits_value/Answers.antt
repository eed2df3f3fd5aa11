use Rattle.std.proofs.Common.{◌≤◌, ◌+◌, ◌^◌, rules, arith, lit≤}
use Rattle.std.proofs.lemmas.Grind.{common_steps}
use Rattle.std.proofs.lemmas.Int.Digits.{digits_value_more}
use Rattle.std.proofs.lemmas.Str.Parse.{digits_value-take-le}
use Rattle.std.specs.Str.Parse.{digits_value}
use Rattle.line_words.proofs.numbers.digits_value.Goals as goal

pub returns-in_err-value-clause-none : goal.returns-in_err-value-clause-none
returns-in_err-value-clause-none c =
    let word = c.args.word.now in
    let more = digits_value_more 10 word c.loop-b.b-index c.loop-b-test.true in
    let part = digits_value-take-le 10 word (c.loop-b.b-index + 1) (lit≤ tt) in
    let beyond : 2 ^ 64 ≤ digits_value 10 word = grind (arith, common_steps, more, part) in
    search (rules, beyond)

pub loop-b-preserved : goal.loop-b-preserved
loop-b-preserved c =
    let more = digits_value_more 10 c.args.word.now c.loop-b.b-index c.loop-b-test.true in
    grind (arith, common_steps, more)
