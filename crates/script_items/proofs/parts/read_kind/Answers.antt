use Rattle.std.proofs.Common.{is_some, ap, sym, ◌∙◌}
use Rattle.script_items.proofs.StepKindNames.{no_kind}
use Rattle.script_items.proofs.parts.read_kind.Goals as goal

pub returns-in-None : goal.returns-in-None
returns-in-None c = no_kind c.args.word.now (ap is_some (sym c.in-None.is) ∙ c.from_text.ensures.known)
