use Rattle.std.proofs.Common.{refl, ap, ◌∙◌, Some}
use Rattle.brpc_eng.specs.ProgramAnswers as answer
use Rattle.brpc_eng.specs.Command.{waiting_meaning}
use Rattle.brpc_eng.proofs.Replays.{threaded}
use Rattle.brpc_eng.proofs.engine.answer.Goals as goal

pub returns-in-None-clause-answers : goal.returns-in-None-clause-answers
returns-in-None-clause-answers g c = answer.Alone c.answer_alone.ensures.answers

pub returns-in-Run-clause-answers : goal.returns-in-Run-clause-answers
returns-in-Run-clause-answers g c =
    threaded _ _ _ _ _ _ c.in-Some.waiting c.in-Run.port c.in-Some.ensures.some c.in-Run.is (c.run_threads.ensures.connections.0 ∙ c.requires.unused.1, c.run_threads.ensures.connections.1 ∙ c.requires.unused.2) c.run_threads.ensures.replayed

pub returns-in-Serve-clause-answers : goal.returns-in-Serve-clause-answers
returns-in-Serve-clause-answers g c = answer.ServesPort c.in-Serve.doors.port c.in-Serve.doors.connections (c.in-Some.ensures.some ∙ ap (λ waiting. Some (waiting_meaning waiting)) c.in-Serve.is) refl c.serve.ensures.served

pub returns-in-Serve-clause-counts : goal.returns-in-Serve-clause-counts
returns-in-Serve-clause-counts g c = record { source_still = λ other. refl; linker_still = c.serve.ensures.linker }
