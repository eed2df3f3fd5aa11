use Rattle.std.proofs.Common.{refl, subst}
use Rattle.brpc_model.specs.Items.{mentioned}
use Rattle.brpc_model.specs.LinePlaceFaults.{with_names}
use Rattle.script_items.specs.LineMeaning.{item}
use Rattle.script_lang.proofs.PlacedLineJudgement.{grown}
use Rattle.script_lang.specs.declared.reader.Reader.{Reader}
use Rattle.script_lang.specs.KnownLines.{Keeps}
use Rattle.script_lang.proofs.reader.Reader.place.Goals as goal

pub returns : goal.returns
returns c = λ said knows.
    let old = c.args.self.now in
    let K : Reader → Type 0 = λ r. Keeps r c.keep.new.self c.args.line in
    let judged = c.in-Ok.ensures in
    (judged.judged said knows, grown old c.keep.new.self said c.args.line (with_names old.names (mentioned (item c.args.line))) knows refl judged.room (subst K judged.names c.in_ok-keep.ensures))
