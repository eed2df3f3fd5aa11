-- What a step on the table of the sockets makes of its words: no name loses its socket, and each code is that of an error.
use Rattle.std.proofs.Common.{◌≡◌, ◌≢◌, ℕ, ◌<◌, List, length, get_or, get_or-set_same, get_or-set_other, set, refl, sym, ap, ◌∙◌, arith}
use mathlib.Core.Logic.{dite}
use mathlib.Core.Option.{some}
use native.Mathlib.Decide.{ℕ_discrete}
use Rattle.sock_words.specs.declared.plain.Plan.{Plan}
use Rattle.sock_model.specs.declared.view.View.{View}
use Rattle.sock_model.specs.SocketTableLayout.{code_index, name_index, all_words}
use Rattle.corr_core.specs.declared.marks.Plan.{Plan as IdPlan}
use Rattle.seat_programs.specs.declared.task.Task.{Task}
use Rattle.seat_programs.specs.TableSteps.{TableStep, OnSlot, OnName, StoreCode, StoreName, LoadName}
use Rattle.seat_programs.specs.TableWords.{NameOf}
use Rattle.seat_programs.specs.StepTables.{May, word_of, word_after}
use Rattle.seat_programs.specs.Cores.{found_at, words_after}
use Rattle.outcome_stories.specs.program_steps.proofs.WordFrame.{load_leaves, word_stays}
use Rattle.owed_calls.specs.Below.id_runs.proofs.OwnersStayIds.{FitsStore, each_code}
use Rattle.call_stories.specs.Scenes.{IsOther}
use Rattle.call_stories.specs.Says.{MayDo}

module _ (p : Plan) (q : IdPlan) (clients : List (List Task)) (gives : ℕ → List ℕ) where
  -- ## Names

  abbrev pub IsNamed : List ℕ → ℕ → Type 0
  IsNamed ws n = get_or ws (name_index p n) 0 ≢ 0

  pub names_after : (v : View) (call : TableStep) → May p v call → MayDo p q clients gives call → (ws : List ℕ) → length ws ≡ all_words p → (n : ℕ) → n < p.names → IsNamed ws n → IsNamed (words_after ws (word_of p call) (word_after call (found_at ws (word_of p call)))) n
  names_after v (OnName (StoreName m w)) may says ws sized n low some_ = dite (ℕ_discrete m n)
      (λ here e. says (sym (get_or-set_same ws (name_index p m) w 0 (omega (arith, sized, may.0))) ∙ (ap (λ i. get_or (set ws (name_index p m) w) (name_index p i) 0) here ∙ e)))
      (λ other e. some_ (sym (get_or-set_other ws (name_index p m) (name_index p n) w 0 (λ same. other (omega (arith, same)))) ∙ e))
  names_after v (OnName (LoadName m)) may says ws sized n low some_ = λ e. some_ (ap (λ l. get_or l (name_index p n) 0) (sym (load_leaves p ws (some (NameOf m)))) ∙ e)
  names_after v call may says ws sized n low some_ = λ e. some_ (sym (word_stays p ws v call may (word_after call (found_at ws (word_of p call))) (NameOf n) low (omega arith) refl) ∙ e)

  -- ## Codes

  abbrev pub AreOther : List ℕ → Type 0
  AreOther ws = (i : ℕ) → i < p.slots → get_or ws (code_index i) 0 ≢ 0 → IsOther p q clients gives (get_or ws (code_index i) 0)

  other_code : (call : TableStep) → MayDo p q clients gives call → FitsStore (λ x. x ≢ 0 → IsOther p q clients gives x) call
  other_code (OnSlot (StoreCode i h c)) says = λ some_. says
  other_code _ says = tt

  pub codes_after : (call : TableStep) → MayDo p q clients gives call → (ws : List ℕ) → AreOther ws → AreOther (words_after ws (word_of p call) (word_after call (found_at ws (word_of p call))))
  codes_after call says ws are = each_code p (λ x. x ≢ 0 → IsOther p q clients gives x) (λ some_. absurd (some_ refl)) call (other_code call says) ws are
