-- What each step does to the words of the requests.
use Rattle.std.proofs.Common.{◌≡◌, ◌≢◌, ℕ, suc, ◌+◌, ◌*◌, ◌%◌, ◌<◌, ◌⊎◌, inl, inr, cond, Bool, true, false, List, length, get_or, set, get_or-set_same, get_or-set_other, eq-eqb, ne_eqb, refl, sym, ap, ◌∙◌, subst, arith}
use Rattle.std.proofs.lemmas.Bool.{true≢false}
use Rattle.std.specs.Prelude.{slice_index}
use mathlib.Core.Logic.{dite}
use native.Mathlib.Decide.{ℕ_discrete}
use lib.Seq.{set-get_or}
use Rattle.sock_words.specs.declared.plain.Plan.{Plan}
use Rattle.sock_model.specs.declared.view.View.{View}
use Rattle.sock_model.specs.SocketTableLayout.{request_index, all_words}
use Rattle.seat_programs.specs.TableSteps.{TableStep, OnChain, ClaimRequest, FreeRequest}
use Rattle.seat_programs.specs.TableWords.{RequestOf}
use Rattle.seat_programs.specs.StepTables.{May, word_of, word_after}
use Rattle.seat_programs.specs.Cores.{words_after}
use Rattle.sock_runs.specs.program_steps.proofs.WordFrame.{word_stays}

-- whether a step changes the word of a request
abbrev pub on_request : TableStep → Bool
on_request (OnChain (ClaimRequest id q)) = true
on_request (OnChain (FreeRequest q g)) = true
on_request other = false

-- each other step leaves it
pub requests_after : (p : Plan) (ws : List ℕ) (r : ℕ) → r < p.requests → (v : View) (call : TableStep) (found : ℕ) → May p v call → on_request call ≡ false
    → slice_index (words_after ws (word_of p call) (word_after call found)) (request_index p r) ≡ slice_index ws (request_index p r)
requests_after p ws r inside v (OnChain (ClaimRequest id q)) found may is = absurd (true≢false is)
requests_after p ws r inside v (OnChain (FreeRequest q g)) found may is = absurd (true≢false is)
requests_after p ws r inside v call found may is = word_stays p ws v call may (word_after call found) (RequestOf r) inside (omega arith) refl

-- a step that makes this of the word of request q
module _ (p : Plan) (ws : List ℕ) (long : length ws ≡ all_words p) (q : ℕ) (inside : q < p.requests) where
  -- the word of request r is one more, where this is the request
  abbrev pub MoreAt : ℕ → ℕ → Type 0
  MoreAt r n = ((r ≡ q) × (n ≡ suc (slice_index ws (request_index p q)))) ⊎ ((r ≢ q) × (n ≡ slice_index ws (request_index p r)))

  more_at : (x : ℕ) → x ≡ suc (slice_index ws (request_index p q)) → (r : ℕ) → MoreAt r (slice_index (set ws (request_index p q) x) (request_index p r))
  more_at x is r = dite (ℕ_discrete r q)
      (λ same. inl (same, ap (λ z. get_or (set ws (request_index p q) x) (request_index p z) 0) same ∙ (get_or-set_same ws (request_index p q) x 0 (omega (arith, long, inside)) ∙ is)))
      (λ ne. inr (ne, get_or-set_other ws (request_index p q) (request_index p r) x 0 (λ e. ne (omega (arith, e)))))

  -- a free request is taken
  pub claims_even : (id : ℕ) → slice_index ws (request_index p q) % 2 ≡ 0 → (r : ℕ)
      → MoreAt r (slice_index (words_after ws (word_of p (OnChain (ClaimRequest id q))) (word_after (OnChain (ClaimRequest id q)) (slice_index ws (request_index p q)))) (request_index p r))
  claims_even id even r = let found : ℕ = slice_index ws (request_index p q) in
      subst (λ b. MoreAt r (slice_index (set ws (request_index p q) (cond b (found + 1) found)) (request_index p r))) (sym (eq-eqb (found % 2) 0 even)) (more_at (found + 1) (omega arith) r)

  -- and one that isn't free stays as it is
  pub claims_odd : (id : ℕ) → slice_index ws (request_index p q) % 2 ≢ 0 → (r : ℕ)
      → slice_index (words_after ws (word_of p (OnChain (ClaimRequest id q))) (word_after (OnChain (ClaimRequest id q)) (slice_index ws (request_index p q)))) (request_index p r) ≡ slice_index ws (request_index p r)
  claims_odd id odd r = let found : ℕ = slice_index ws (request_index p q) in
      ap (λ b. slice_index (set ws (request_index p q) (cond b (found + 1) found)) (request_index p r)) (ne_eqb (found % 2) 0 odd) ∙ ap (λ l. slice_index l (request_index p r)) (set-get_or ws (request_index p q) 0)

  -- a request is given back
  pub frees_at : (g : ℕ) → slice_index ws (request_index p q) ≡ 2 * g + 1 → (r : ℕ)
      → MoreAt r (slice_index (words_after ws (word_of p (OnChain (FreeRequest q g))) (word_after (OnChain (FreeRequest q g)) (slice_index ws (request_index p q)))) (request_index p r))
  frees_at g is r = more_at (2 * (g + 1)) (omega (arith, is)) r
