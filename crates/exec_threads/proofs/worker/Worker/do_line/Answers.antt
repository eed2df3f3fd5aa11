use Rattle.std.proofs.Common.{refl, sym, ap, ◌∙◌}
use Rattle.std.proofs.lemmas.Option.{slice_get-get_or}
use Rattle.exec_threads.proofs.LinesOfSubmitter.{seat_is, line_fresh, none_more, one_more}
use Rattle.exec_threads.proofs.worker.Worker.do_line.Goals as goal

pub answer_to-answer-requires-clause-by : goal.answer_to-answer-requires-clause-by
answer_to-answer-requires-clause-by g c = seat_is c.args.queue.now c.args.ops.now c.args.step c.args.self.now c.requires.at

pub answer_to-answer-requires-clause-fresh : goal.answer_to-answer-requires-clause-fresh
answer_to-answer-requires-clause-fresh g c = line_fresh c.args.queue.now c.args.ops.now c.args.step c.args.self.now c.requires.at c.args.place c.requires.place

pub returns-in-Some-clause-at : goal.returns-in-Some-clause-at
returns-in-Some-clause-at g c = one_more c.args.queue.now c.args.ops.now c.args.step c.args.self.now _ c.args.place _ c.in-Some.answer c.requires.at c.requires.place c.requires.inside (slice_get-get_or c.args.ops.now c.args.place _ c.requires.inside) c.in-Some.ensures c.push_reserved.ensures.items c.push_reserved.ensures.capacity

pub returns-in-None-clause-at : goal.returns-in-None-clause-at
returns-in-None-clause-at g c = none_more c.args.queue.now c.args.ops.now c.args.step c.args.self.now _ c.requires.at refl c.in-None.ensures
