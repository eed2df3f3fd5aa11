use Rattle.std.proofs.Common.{◌∙◌, inl, inr, refl, ap, map, subst, List}
use Rattle.brpc_model.specs.Items.{Item}
use Rattle.brpc_model.specs.DrawnSeatsAndScripts.{generated}
use Rattle.brpc_model.specs.ScriptText.{script_text}
use Rattle.script_items.specs.LineMeaning.{item}
use Rattle.sock_io.specs.PartWrittenToSink.{WrotePart}
use Rattle.brpc_eng.proofs.GeneratedLemmas.{is_sink}
use Rattle.brpc_eng.proofs.generated.print_generated.Goals as goal

pub returns-in-Err-Sink : goal.returns-in-Err-Sink
returns-in-Err-Sink g c =
    let P : List Item → Type 0 = λ s. WrotePart (g.K.Sink.state c.args.out.now).contents (g.K.Sink.state c.print_script.new.out).contents (script_text s) in
    let is = is_sink c.in-Err-Sink.field-0 c.in-Err-Sink.field-0-is in
    let made = ap (map item) c.deref.ensures.value ∙ c.in-Ok.ensures.exact ∙ ap (λ x. generated x c.args.draw.now.clients c.args.draw.now.operations) c.from-seed.ensures in
    inl (inr (refl, (c.in-Err-Sink.ensures.failed is, subst P made (c.in-Err-Sink.ensures.front is))))
