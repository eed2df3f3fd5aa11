-- What a step makes of the words of names.
use Rattle.std.proofs.Common.{◌≡◌, ℕ, ◌<◌, cond, eqb, eq-eqb, ne_eqb, List, length, get_or, set, get_or-set_same, get_or-set_other, refl, sym, ap, ◌∙◌, subst, arith}
use mathlib.Core.Logic.{dite}
use native.Mathlib.Decide.{ℕ_discrete}
use Rattle.sock_words.specs.declared.plain.Plan.{Plan}
use Rattle.sock_model.specs.declared.view.View.{View}
use Rattle.sock_model.specs.SocketTableLayout.{name_index, all_words}
use Rattle.seat_programs.specs.TableSteps.{TableStep, OnName, StoreName, LoadName}
use Rattle.seat_programs.specs.StepTables.{word_of, word_after}
use Rattle.seat_programs.specs.Cores.{found_at, words_after}
use Rattle.seat_programs.specs.StepTables.{May}
use Rattle.seat_programs.specs.TableWords.{NameOf}
use Rattle.program_walks.specs.program_steps.proofs.WordFrame.{word_stays}
use Rattle.outcome_stories.specs.OperationStories.{stored_by}

module _ (p : Plan) (v : View) (ws : List ℕ) (sized : length ws ≡ all_words p) (n : ℕ) (inside : n < p.names) where
  abbrev Stays : TableStep → Type 0
  Stays call = get_or (words_after ws (word_of p call) (word_after call (found_at ws (word_of p call)))) (name_index p n) 0 ≡ stored_by n call (get_or ws (name_index p n) 0)

  -- the word of a name is what was stored for it, and else as it was
  pub name_stays : (call : TableStep) → May p v call → Stays call
  name_stays (OnName (StoreName m w)) may = dite (ℕ_discrete m n)
      (λ same. let q = eq-eqb m n same in let here : get_or (set ws (name_index p n) w) (name_index p n) 0 ≡ w = get_or-set_same ws (name_index p n) w 0 (omega (arith, sized)) in
      subst (λ z. get_or (set ws (name_index p z) w) (name_index p n) 0 ≡ cond (eqb m n) w (get_or ws (name_index p n) 0)) (sym same) (here ∙ sym (ap (λ z. cond z w (get_or ws (name_index p n) 0)) q)))
      (λ far. let q = ne_eqb m n far in get_or-set_other ws (name_index p m) (name_index p n) w 0 (λ e. far (omega arith)) ∙ sym (ap (λ z. cond z w (get_or ws (name_index p n) 0)) q))
  name_stays (OnName (LoadName m)) may = dite (ℕ_discrete m n)
      (λ same. subst (λ z. get_or (set ws (name_index p z) (get_or ws (name_index p z) 0)) (name_index p n) 0 ≡ get_or ws (name_index p n) 0) (sym same) (get_or-set_same ws (name_index p n) (get_or ws (name_index p n) 0) 0 (omega (arith, sized))))
      (λ far. get_or-set_other ws (name_index p m) (name_index p n) (get_or ws (name_index p m) 0) 0 (λ e. far (omega arith)))
  name_stays call may = word_stays p ws v call may (word_after call (found_at ws (word_of p call))) (NameOf n) inside (omega arith) refl
