use Rattle.std.proofs.Common.{◌≡◌, ◌+◌, Ok, Err, drop, arith}
use Rattle.std.proofs.lemmas.Grind.{common_steps}
use Rattle.std.proofs.lemmas.List.Sums.{prefix_len-le-length}
use Rattle.brpc_model.specs.Wire.{goes_on, varint}
use Rattle.pb_wire.specs.declared.fault.WireFault.TheVariants.{Truncated, LongVarint}
use Rattle.pb_wire.specs.WireCallAnswers.{varint_front}
use Rattle.pb_wire.proofs.Varints.{answer_form, form_answer}
use Rattle.pb_wire.proofs.varint.read_any_varint.Goals as goal

pub split_at-requires-2 : goal.split_at-requires-2
split_at-requires-2 c =
    omega (arith, c.count_followed-more.ensures, c.if-more-rest.false, prefix_len-le-length goes_on c.split_at.result.1.now)

pub returns-then-more-eq-MOST_BYTES-clause-each : goal.returns-then-more-eq-MOST_BYTES-clause-each
returns-then-more-eq-MOST_BYTES-clause-each c =
    let e : varint_front c.args.at (Err (LongVarint c.args.at)) ≡ varint c.args.at (drop c.args.at c.args.bytes.now) = grind (arith, common_steps) in
    form_answer c.args.bytes.now c.args.at (Err (LongVarint c.args.at)) e tt

pub returns-then-more-rest-clause-each : goal.returns-then-more-rest-clause-each
returns-then-more-rest-clause-each c =
    let e : varint_front c.args.at (Err (Truncated c.args.at)) ≡ varint c.args.at (drop c.args.at c.args.bytes.now) = grind (arith, common_steps) in
    form_answer c.args.bytes.now c.args.at (Err (Truncated c.args.at)) e tt

pub returns-clause-spelled : goal.returns-clause-spelled
returns-clause-spelled c =
    let e : varint_front c.args.at (Ok (c.sum_groups.result, c.args.at + c.count_followed-more.result + 1)) ≡ varint c.args.at (drop c.args.at c.args.bytes.now) = grind (arith, common_steps) in
    answer_form c.args.bytes.now c.args.at (Ok (c.sum_groups.result, c.args.at + c.count_followed-more.result + 1)) e

pub returns-clause-each : goal.returns-clause-each
returns-clause-each c =
    let e : varint_front c.args.at (Ok (c.sum_groups.result, c.args.at + c.count_followed-more.result + 1)) ≡ varint c.args.at (drop c.args.at c.args.bytes.now) = grind (arith, common_steps) in
    form_answer c.args.bytes.now c.args.at (Ok (c.sum_groups.result, c.args.at + c.count_followed-more.result + 1)) e (omega arith)
