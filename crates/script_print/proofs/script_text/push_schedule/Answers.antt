use Rattle.std.proofs.Common.{◌++◌, filter, map, ap, sym, ◌∙◌}
use Rattle.std.proofs.lemmas.Result.{on_ok_weaker}
use Rattle.brpc_model.specs.Items.{is_turn}
use Rattle.script_items.specs.LineMeaning.{item}
use Rattle.script_print.specs.PrintedParts.{lines_text}
use Rattle.script_print.proofs.WrittenSchedule.{no_schedule, with_schedule}
use Rattle.script_print.proofs.script_text.push_schedule.Goals as goal

pub returns-then-not-has_turns : goal.returns-then-not-has_turns
returns-then-not-has_turns c =
    no_schedule c.args.text.now.items (map item c.args.lines.now) (sym c.has_turns.ensures ∙ c.if-not-has_turns.true)

pub returns : goal.returns
returns c = on_ok_weaker c.push_turns.result
    (λ e. e ∙ ap (λ t. t ++ lines_text (filter is_turn (map item c.args.lines.now))) c.in_ok-extend_from_slice.ensures.items
    ∙ with_schedule c.args.text.now.items (map item c.args.lines.now) (sym c.has_turns.ensures ∙ c.if-not-has_turns.false))
    c.push_turns.ensures
