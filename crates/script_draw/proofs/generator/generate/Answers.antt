use Rattle.std.proofs.Common.{◌≡◌, List, Ok, map, sym, subst}
use Rattle.brpc_model.specs.DrawnSeatsAndScripts.{generated}
use Rattle.brpc_model.specs.Items.{Item}
use Rattle.brpc_model.specs.Script.{script_of}
use Rattle.brpc_model.specs.ScriptText.{script_text}
use Rattle.script_items.specs.LineMeaning.{item}
use Rattle.script_draw.proofs.Generated.{generated_back}
use Rattle.script_draw.proofs.generator.generate.Goals as goal

pub returns-clause-again : goal.returns-clause-again
returns-clause-again c =
    let is : map item c.in_ok-lines.lines.items ≡ generated c.args.seed c.args.clients c.args.ops = cc c.in_ok-lines.ensures in
    let reads : List Item → Type 0 = λ s. script_of (script_text s) ≡ Ok s in
    subst reads (sym is) (generated_back c.args.seed c.args.clients c.args.ops c.requires.clients_in c.requires.all_in)
