use Rattle.std.proofs.Common.{◌≡◌, List, Ok, map, sym, subst}
use Rattle.brpc_model.specs.Items.{Item}
use Rattle.brpc_model.specs.Script.{script_of}
use Rattle.brpc_model.specs.ScriptText.{script_text}
use Rattle.script_items.specs.LineMeaning.{item}
use Rattle.brpc_eng.proofs.load.drawn_script.Goals as goal

pub of-requires : goal.of-requires
of-requires c = (script_text (map item c.in_ok-lines.lines.items), c.in_ok-lines.ensures.again)

pub returns-clause-again : goal.returns-clause-again
returns-clause-again c =
    let reads : List Item → Type 0 = λ s. script_of (script_text s) ≡ Ok s in
    subst reads (sym c.in_ok-script.ensures) c.in_ok-lines.ensures.again
