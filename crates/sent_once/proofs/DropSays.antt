-- A program that says next that a `fail` failed a life is that of the task in hand.
use Rattle.std.proofs.Common.{◌≡◌, ℕ, ◌%◌, ⊎_elim, List, [], ◌∷◌, refl, sym, ap, ◌∙◌, subst}
use Rattle.std.specs.Prelude.{Some}
use Rattle.sock_words.specs.PackedWords.{vref_version}
use Rattle.sock_words.specs.declared.outcome.Outcome.{Outcome}
use Rattle.sock_words.specs.declared.outcome.Outcome.TheVariants.{Failed}
use Rattle.seat_programs.specs.declared.task.Op.TheVariants as ops
use Rattle.seat_programs.specs.declared.task.Task.{Task}
use Rattle.seat_programs.specs.TableSteps.{TableStep, OnSlot, OnName, SetOdd, LoadOpen}
use Rattle.seat_programs.specs.Writings.{Puts, Waits, Empties, Reversing}
use Rattle.seat_programs.specs.Programs.{Program, Do, Say, Write, Round}
use Rattle.accept_counts.specs.Below.programs_allowed.specs.program_steps.proofs.TickCases.{IsOfLoop, loop_begins}
use Rattle.accept_counts.specs.Below.outcome_stories.specs.Explains.{Way, Own, Beside, Closing, Done, Because, IsExplainedBy, ExplainsBy, step}
use Rattle.accept_counts.specs.Below.outcome_stories.specs.OperationStories.{Entry, In}
use Rattle.sent_once.proofs.SourcesOfSocketCodes.{SaysFailed}
use Rattle.seat_programs.specs.LoopRounds.{first_step}

says_on : (o : ℕ) (call : TableStep) (next : ℕ → Program) → SaysFailed o (Do call next) → ((i : ℕ) → call ≡ OnSlot (SetOdd i) → ⊥) × SaysFailed o (next 0)
says_on o (OnSlot (SetOdd i)) next s = absurd s
says_on o call next s = (λ i e. absurd (cc), s)

-- the task in hand is that of the operation, and where it is a `fail` one of its steps failed a life
pub record IsInHand (o : ℕ) (w : Way) (trace : List Entry) (todo : List Task) : Type 0 where
  pub own : w ≡ Own
  pub task : Task
  pub others : List Task
  pub is : todo ≡ task ∷ others
  pub numbered : task.number ≡ o
  pub failed : (name code : ℕ) → task.op ≡ ops.Fail name code → (i found : ℕ) × In (step (OnSlot (SetOdd i)) found) trace × (vref_version found % 2 ≡ 0)

-- so it is the first that is to do
pub first_numbered : (o : ℕ) (w : Way) (trace : List Entry) (t : Task) (ts : List Task) → IsInHand o w trace (t ∷ ts) → t.number ≡ o
first_numbered o w trace t ts h = let same : t ≡ h.task = first_is h.is in ap (λ (z : Task). z.number) same ∙ h.numbered
  where
    first_is : {others_ : List Task} {u : Task} → t ∷ ts ≡ u ∷ others_ → t ≡ u
    first_is e = cc

module _ (slots requests : ℕ) (calls : ℕ → Type 0) (o : ℕ) (no_call : calls o → ⊥) where
  shorter : (w : Way) (call : TableStep) (found : ℕ) (trace : List Entry) (todo : List Task) → ((i : ℕ) → call ≡ OnSlot (SetOdd i) → ⊥) → IsInHand o w (step call found ∷ trace) todo → IsInHand o w trace todo
  shorter w call found trace todo other h = record { own = h.own; task = h.task; others = h.others; is = h.is; numbered = h.numbered; failed = λ name code op. let x = h.failed name code op in (x.0, x.1, ⊎_elim (λ e. absurd (other x.0 (sym (ap (λ (y : Entry). y.call) e)))) (λ m. m) x.2, x.3) }

  here : (done : List Done) (trace : List Entry) (t : Task) (ts : List Task) (x : ℕ) (outcome : Outcome) → x ≡ t.number → x ≡ o → outcome ≡ Failed → IsExplainedBy slots requests done trace t.op (Some outcome) → IsInHand o Own trace (t ∷ ts)
  here done trace t ts x outcome own is failed e = record {
    own = refl;
    task = t;
    others = ts;
    is = refl;
    numbered = sym own ∙ is;
    failed = λ name code op. subst (λ z. Because slots requests done trace z Failed) op (subst (Because slots requests done trace t.op) failed e.0);
  }

  pub says : (w : Way) (broken : List ℕ) (done : List Done) (trace : List Entry) (todo : List Task) (program : Program) → ExplainsBy slots requests calls w broken done trace todo program → SaysFailed o program → IsInHand o w trace todo
  says Own broken done trace [] (Do call next) x s = let y = says_on o call next s in says Own broken done trace [] (next 0) (x.1 0) y.1
  says Own broken done trace (t ∷ ts) (Do call next) x s = let y = says_on o call next s in shorter Own call 0 trace (t ∷ ts) y.0 (says Own broken done (step call 0 ∷ trace) (t ∷ ts) (next 0) (x.1 0) y.1)
  says Beside broken done trace todo (Do call next) x s = let y = says_on o call next s in shorter Beside call 0 trace todo y.0 (says Beside broken done (step call 0 ∷ trace) todo (next 0) (x.1 0) y.1)
  says Closing broken done trace todo (Do call next) x s = let y = says_on o call next s in says Closing broken done trace todo (next 0) (x.1 0) y.1
  says Own broken done trace [] (Say n outcome more) x s = absurd (no_call (subst calls s.0 x.0))
  says Own broken done trace (t ∷ ts) (Say n outcome more) x s = ⊎_elim (λ a. here done trace t ts n outcome a.0 s.0 s.1 a.1) (λ a. absurd (no_call (subst calls s.0 a.0))) x
  says Beside broken done trace todo (Say n outcome more) x s = absurd (no_call (subst calls s.0 x.0))
  says Closing broken done trace todo (Say n outcome more) x s = absurd (no_call (subst calls s.0 x.0))
  says w broken done trace todo _ x s = absurd s

-- whoever sets a socket failed in a tick does so in a step of its own
pub sets_here : (program : Program) (i : ℕ) (next : ℕ → Program) → first_step program ≡ Do (OnSlot (SetOdd i)) next → program ≡ Do (OnSlot (SetOdd i)) next
sets_here (Do c n) i next e = e
sets_here (Write (Puts h now heading left taken asked) after) i next e = absurd (cc)
sets_here (Write (Waits h now heading left taken) after) i next e = absurd (cc)
sets_here (Write (Empties h) after) i next e = absurd (cc)
sets_here (Write (Reversing h top at behind) after) i next e = absurd (cc)
sets_here (Round head n) i next e = absurd (let o = subst IsOfLoop e (loop_begins head n) in let q : OnSlot (SetOdd i) ≡ OnName (LoadOpen o.0) = o.1 in cc)
sets_here _ i next e = absurd (cc)
