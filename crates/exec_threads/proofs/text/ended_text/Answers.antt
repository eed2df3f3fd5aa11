use Rattle.std.proofs.Common.{ap, ◌∙◌, ◌++◌}
use Rattle.exec_script.specs.Endings.{ending_text}
use Rattle.exec_threads.proofs.TextOfEnding.{is_ending}
use Rattle.exec_threads.proofs.text.ended_text.Goals as goal

pub returns : goal.returns
returns g c = is_ending c.args.submitters c.args.script.now c.in_ok-done.done _ c.requires.script c.in_ok-done.ensures
    (c.in_ok-push_ending.ensures ∙ ap (λ l. l ++ ending_text c.in_ok-done.done.accounts c.deref.result.now c.deref-2.result.now) c.new-text.ensures.items
    ∙ ap (λ l. ending_text c.in_ok-done.done.accounts l c.deref-2.result.now) c.deref.ensures.value ∙ ap (λ l. ending_text c.in_ok-done.done.accounts c.in_ok-done.done.answers.items l) c.deref-2.ensures.value)
