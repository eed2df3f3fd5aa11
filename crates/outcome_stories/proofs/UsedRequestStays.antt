-- A request's word that isn't 0 stays so.
use Rattle.std.proofs.Common.{◌≡◌, ◌≢◌, ℕ, ◌<◌, ◌+◌, ◌*◌, ◌%◌, eqb, List, length, get_or, set, get_or-set_same, get_or-set_other, sym, subst, arith, refl}
use mathlib.Core.Logic.{dite}
use native.Mathlib.Decide.{ℕ_discrete}
use Rattle.sock_words.specs.declared.plain.Plan.{Plan}
use Rattle.sock_model.specs.declared.view.View.{View}
use Rattle.sock_model.specs.SocketTableLayout.{request_index, all_words}
use Rattle.seat_programs.specs.TableSteps.{TableStep, OnChain, ClaimRequest, FreeRequest}
use Rattle.seat_programs.specs.StepTables.{word_of, word_after}
use Rattle.seat_programs.specs.Cores.{found_at, words_after}
use Rattle.seat_programs.specs.StepTables.{May}
use Rattle.seat_programs.specs.TableWords.{RequestOf}
use Rattle.program_walks.specs.program_steps.proofs.WordFrame as frame
use Rattle.outcome_stories.proofs.Tests.{split}

module _ (p : Plan) (v : View) (ws : List ℕ) (sized : length ws ≡ all_words p) (q : ℕ) (inside : q < p.requests) (used : 0 < get_or ws (request_index p q) 0) where
  abbrev Stays : TableStep → Type 0
  Stays call = 0 < get_or (words_after ws (word_of p call) (word_after call (found_at ws (word_of p call)))) (request_index p q) 0

  else_ : (x w : ℕ) → request_index p q ≢ x → 0 < get_or (set ws x w) (request_index p q) 0
  else_ x w ne = let a = get_or-set_other ws x (request_index p q) w 0 ne in omega (arith, used, a)

  here : (w : ℕ) → 0 < w → 0 < get_or (set ws (request_index p q) w) (request_index p q) 0
  here w some_ = let a : get_or (set ws (request_index p q) w) (request_index p q) 0 ≡ w = get_or-set_same ws (request_index p q) w 0 (omega (arith, sized)) in omega (arith, some_, a)

  pub word_stays : (call : TableStep) → May p v call → Stays call
  word_stays (OnChain (ClaimRequest id r)) may = dite (ℕ_discrete r q)
      (λ same. subst (λ z. 0 < get_or (set ws (request_index p z) (word_after (OnChain (ClaimRequest id z)) (get_or ws (request_index p z) 0))) (request_index p q) 0) (sym same)
      (here (word_after (OnChain (ClaimRequest id q)) (get_or ws (request_index p q) 0)) (split (eqb (get_or ws (request_index p q) 0 % 2) 0) (get_or ws (request_index p q) 0 + 1) (get_or ws (request_index p q) 0) (λ n. 0 < n) (omega arith) used)))
      (λ far. else_ (request_index p r) _ (λ e. far (omega arith)))
  word_stays (OnChain (FreeRequest r g)) may = dite (ℕ_discrete r q)
      (λ same. subst (λ z. 0 < get_or (set ws (request_index p z) (2 * (g + 1))) (request_index p q) 0) (sym same) (here (2 * (g + 1)) (omega arith)))
      (λ far. else_ (request_index p r) _ (λ e. far (omega arith)))
  word_stays call may = subst (λ n. 0 < n) (sym (frame.word_stays p ws v call may (word_after call (found_at ws (word_of p call))) (RequestOf q) inside (omega arith) refl)) used
