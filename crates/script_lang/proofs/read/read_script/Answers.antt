use Rattle.std.proofs.Common.{rules}
use Rattle.script_lang.proofs.Sofar.{read_more, answers_fault}
use Rattle.script_lang.proofs.read.read_script.Goals as goal

pub returns-in_err-read-clause-fault : goal.returns-in_err-read-clause-fault
returns-in_err-read-clause-fault c = λ number kind is.
    let sofar = c.loop-rest.invariant in
    answers_fault c.args.bytes.now c.loop-rest.rest.now c.first_line.result.0.now c.first_line.result.1.now c.loop-rest.reader c.read.new.self sofar c.read.result number kind c.first_line.ensures.lines (search rules) (c.read.ensures sofar.said sofar.knows)

pub loop-rest-preserved : goal.loop-rest-preserved
loop-rest-preserved c =
    let sofar = c.loop-rest.invariant in
    read_more c.args.bytes.now c.loop-rest.rest.now c.first_line.result.0.now c.first_line.result.1.now c.loop-rest.reader c.read.new.self sofar c.first_line.ensures.lines c.first_line.ensures.shorter (c.in_ok-read.ensures sofar.said sofar.knows)

pub finish-requires : goal.finish-requires
finish-requires c = (c.loop-rest.invariant.said, c.loop-rest.invariant.knows)
