use Rattle.std.proofs.Common.{bytes_eq, ap, sym, ◌∙◌}
use Rattle.std.specs.List.{list_any}
use Rattle.brpc_model.specs.LinePlaceFaults.{held_behind}
use Rattle.script_items.specs.LineMeaning.{item}
use Rattle.script_lang.proofs.ClientHoldingNames.{holds, drops}
use Rattle.script_lang.proofs.held.add.Goals as goal

pub returns-in_ok-add-in-Hold : goal.returns-in_ok-add-in-Hold
returns-in_ok-add-in-Hold c = λ n.
    ap (list_any (bytes_eq n)) (c.in_ok-add-in-Hold.ensures.ok) ∙ holds c.in-Hold.name n c.args.held.now ∙ ap (λ l. held_behind n (list_any (bytes_eq n) c.args.held.now) (item l)) (sym c.in-Hold.is)

pub returns-in-Drop : goal.returns-in-Drop
returns-in-Drop c = λ n.
    ap (list_any (bytes_eq n)) c.remove.ensures ∙ drops c.in-Drop.name n c.args.held.now ∙ ap (λ l. held_behind n (list_any (bytes_eq n) c.args.held.now) (item l)) (sym c.in-Drop.is)
