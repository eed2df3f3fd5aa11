use Rattle.script_run.proofs.outline.Outline.of.Given as goal

abbrev pub ghost-of : goal.ghost-of
ghost-of a = a.by.now.items
