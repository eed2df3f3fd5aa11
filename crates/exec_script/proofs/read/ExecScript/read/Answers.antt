use Rattle.std.proofs.Common.{◌≡◌, ◌+◌, Err, length, ◌∙◌, ap, arith}
use Rattle.std.proofs.lemmas.List.{length-append}
use Rattle.exec_script.specs.Scripts.{script_of, IsOp}
use Rattle.exec_script.proofs.LineByLine.{said_more, said_faulty, all_more}
use Rattle.exec_script.proofs.read.ExecScript.read.Goals as goal

pub returns-in-Err-clause-fault : goal.returns-in-Err-clause-fault
returns-in-Err-clause-fault c = λ line kind is.
    let i = c.loop-rest.invariant in
    let here : script_of c.args.bytes.now ≡ Err (c.loop-rest.number, c.in-Err.kind) =
    said_faulty c.args.bytes.now c.loop-rest.rest.now c.first_line.result.1.now c.first_line.result.0.now c.loop-rest.ops.items c.loop-rest.number c.in-Err.kind i.said c.first_line.ensures.lines i.number c.in-Err.ensures.op in
    cc

pub loop-rest-preserved : goal.loop-rest-preserved
loop-rest-preserved c =
    let i = c.loop-rest.invariant in
    let grown = c.in_ok-keep-in-Ok.ensures in
    let long : length c.keep.new.ops.items ≡ length c.loop-rest.ops.items + 1 = ap length grown ∙ length-append c.loop-rest.ops.items _ in
    record {
      said = said_more c.args.bytes.now c.loop-rest.rest.now c.first_line.result.1.now c.first_line.result.0.now c.loop-rest.ops.items c.keep.new.ops.items c.loop-rest.number c.in-Ok.op i.said c.first_line.ensures.lines i.number c.in-Ok.ensures.op grown;
      number = omega (arith, long, i.number);
      room = omega (arith, long, i.number, c.in-Ok.ensures.room);
      accounts = all_more IsOp c.loop-rest.ops.items c.keep.new.ops.items c.in-Ok.op i.accounts c.in-Ok.ensures.accounts grown;
    }
