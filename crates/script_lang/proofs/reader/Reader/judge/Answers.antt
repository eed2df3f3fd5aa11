use Rattle.std.proofs.Common.{◌≡◌, ℕ, ◌+◌, List, Option, Err, ap, sym, ◌∙◌, subst}
use Rattle.brpc_model.specs.Items.{Item, mentioned}
use Rattle.brpc_model.specs.LinePlaceFaults.{with_names}
use Rattle.brpc_model.specs.Script.{items}
use Rattle.script_items.specs.LineMeaning.{item}
use Rattle.script_lang.specs.declared.error.ScriptError.{ScriptError}
use Rattle.script_lang.specs.declared.reader.Reader.{Reader}
use Rattle.script_lang.specs.KnownLines.{Knows, HasNames, FaultIs, JudgedIs}
use Rattle.script_lang.proofs.reader.Reader.judge.Goals as goal

-- the names of the line are among the names
has : (old : Reader) (ns : List (List ℕ)) (i : Item) (said : List (Option Item)) → Knows old said → ns ≡ with_names old.names (mentioned i) → HasNames (record old { names = ns }) (items said) i
has old ns i said knows named = record {
  counts = knows.counts;
  names = named ∙ ap (λ ms. with_names ms (mentioned i)) knows.names;
  held = knows.held;
}

pub returns-in-Some-clause-judged : goal.returns-in-Some-clause-judged
returns-in-Some-clause-judged c = λ said knows.
    let i = item c.args.line.now in
    let known = has c.args.self.now c.add_mentioned.new.self i said knows c.in_ok-add_mentioned.ensures in
    let F : Option ℕ → Type 0 = FaultIs (items said) i in
    let J : ScriptError → Type 0 = λ e. JudgedIs said i (Err e) in
    subst J (sym c.fault.ensures) (subst F c.in-Some.is (c.fault_of.ensures.kind (items said) known), ap (λ n. n + 1) knows.count)

pub returns-in-None-clause-judged : goal.returns-in-None-clause-judged
returns-in-None-clause-judged c = λ said knows.
    let i = item c.args.line.now in
    let known = has c.args.self.now c.add_mentioned.new.self i said knows c.in_ok-add_mentioned.ensures in
    let F : Option ℕ → Type 0 = FaultIs (items said) i in
    subst F c.in-None.is (c.fault_of.ensures.kind (items said) known)
