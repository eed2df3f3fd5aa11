use Rattle.brpc_eng.specs.ProgramAnswers.{run_mode}
use Rattle.brpc_eng.proofs.OnThreads.{threads_ran, run_opened}
use Rattle.brpc_eng.proofs.threads.threads_and_report.Goals as goal

pub returns-clause-ran : goal.returns-clause-ran
returns-clause-ran g c =
    threads_ran c.args.script.now c.requires.short c.run_on_threads-ran.result _ _ _ c.run_mode-mode.result (run_mode c.args.port) c.run_mode-mode.ensures c.run_on_threads-ran.ensures.served (c.run_on_threads-ran.ensures.failed, c.run_on_threads-ran.ensures.unopened) c.tell_run.ensures

pub returns-clause-opened : goal.returns-clause-opened
returns-clause-opened g c =
    run_opened c.args.script.now c.run_on_threads-ran.result _ _ _ c.run_mode-mode.result (run_mode c.args.port) c.run_mode-mode.ensures
    c.run_on_threads-ran.ensures.asked c.run_on_threads-ran.ensures.front c.run_on_threads-ran.ensures.given_back c.run_on_threads-ran.ensures.numbered c.tell_run.ensures

pub run_on_threads-ran-requires-clause-script : goal.run_on_threads-ran-requires-clause-script
run_on_threads-ran-requires-clause-script g c κs within = (c.requires.short.0, c.requires.short.1)
