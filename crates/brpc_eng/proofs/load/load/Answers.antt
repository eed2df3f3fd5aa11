use Rattle.std.proofs.Common.{ap, refl, subst, ⊎_elim, arith, ◌∙◌}
use Rattle.brpc_model.specs.DrawnSeatsAndScripts.{generated}
use Rattle.brpc_model.specs.ScriptText.{script_text}
use Rattle.sock_io.specs.declared.link.Mode.TheVariants as mode
use Rattle.script_links.specs.LinksGivenBack.{IsBeginning, specs_of}
use Rattle.brpc_eng.specs.ProgramAnswers.{LoadRanOut}
use Rattle.brpc_eng.proofs.PiecesTakeBytes.{has_pieces}
use Rattle.brpc_eng.proofs.OneFittingReport.{opened_none, load_ran}
use Rattle.brpc_eng.proofs.load.load.Goals as goal

pub returns-in_default-clause-loaded : goal.returns-in_default-clause-loaded
returns-in_default-clause-loaded g c = record {
  opened = opened_none mode.Loop _ _ 7 c.requires.unopened.0 c.requires.unopened.1 (λ written. ⊎_elim (λ e. absurd (omega (arith, e))) (λ e. absurd (omega (arith, e))) written);
  ran = LoadRanOut refl (refl, refl);
}

pub run_script-requires-clause-pieces : goal.run_script-requires-clause-pieces
run_script-requires-clause-pieces g c κs within = has_pieces (script_text c.in-Ok.script) c.in-Ok.script c.in-Ok.ensures.again

pub returns-in-Ok-run_script-clause-loaded : goal.returns-in-Ok-run_script-clause-loaded
returns-in-Ok-run_script-clause-loaded g c =
    let drawn = c.args.draw.now in let done = c.in-Ok-run_script.ensures in
    let made = c.in-Ok.ensures.exact ∙ ap (λ x. generated x drawn.clients drawn.operations) c.from-seed.ensures in record {
      opened = record { front = subst (λ s. IsBeginning (g.L.Linker.state c.run_script.new.links).asked (specs_of mode.Loop s)) made done.front; whole = λ written. done.asked ∙ ap (specs_of mode.Loop) made; given_back = done.given_back; numbered = done.numbered };
      ran = load_ran drawn.seed drawn.clients drawn.operations c.from-seed.result c.in-Ok.script c.in-Ok-run_script.text.items c.deref.result.now _ _ _ made c.from-seed.ensures drawn.clients_in drawn.all_in c.in-Ok.ensures.again done.text c.deref.ensures.value c.write_report.ensures;
    }
