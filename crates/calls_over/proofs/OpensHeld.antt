-- A message that a seat had accepted stays in its list over every run.
use Rattle.std.proofs.Common.{◌≡◌, ℕ, ◌-◌, ◌%◌, ◌==◌, inl, inr, nat_lt, true, false, List, [], ◌∷◌, ◌++◌, set, refl, sym, ap, ◌∙◌, subst}
use mathlib.Core.Logic.{dite}
use native.Mathlib.Decide.{ℕ_discrete}
use mathlib.Core.Option.{some, some-injective}
use lib.ListN.{get_elem?}
use Rattle.atomic_table.proofs.Lists.{set_else, set_here}
use Rattle.sock_words.specs.declared.plain.Plan.{Plan}
use Rattle.sock_model.specs.declared.chain.Entry.{Entry}
use Rattle.sock_model.specs.declared.chain.Right.{Right}
use Rattle.sock_model.specs.declared.view.Hand.{Hand}
use Rattle.sock_model.specs.declared.view.View.{View}
use Rattle.sock_model.specs.ChainRows.{with_claim, entry_of, more, queued, righted, taken_right, ready_claim, filled_claim}
use Rattle.sock_steps.proofs.SumsAsMarksChange.{either_way}
use Rattle.seat_programs.specs.TableSteps.{TableStep, OnChain, OnMessage, ClaimRequest, PutMessage, Unconnect, SwapHead}
use Rattle.seat_programs.specs.Cores.{Core, found_at}
use Rattle.seat_programs.specs.StepTables.{word_of}
use Rattle.seat_programs.specs.Ticks.{Moment, IsAnswered, AreAnswered, ticked}
use Rattle.seat_programs.specs.StepTables.{row, hand_at}
use Rattle.seat_programs.specs.StepsOfChain.{exchanged}
use Rattle.seat_programs.specs.StepsOfMessages.{took_message}
use Rattle.seat_programs.specs.StepsOfLinks.{link_away, link_home_again, took_bytes}
use Rattle.served_fits.specs.Below.programs_allowed.specs.program_steps.specs.SoundSeats.{Sound, AreFitting, views_after, views_along}
use Rattle.served_fits.specs.Below.programs_allowed.specs.program_steps.proofs.TickCases.{with_rights, right_rights, put_rights, tick_cases}
use Rattle.served_fits.specs.Below.programs_allowed.specs.program_steps.proofs.Leaves.{claim_way}
use Rattle.served_fits.specs.Below.programs_allowed.specs.sock_runs.proofs.LinkTicks.{RetriesGo}
use Rattle.served_fits.specs.Below.programs_allowed.specs.sock_runs.proofs.TicksKeepSeatsSound.{sound_ticks}
use Rattle.served_fits.specs.Below.outcome_stories.specs.OperationStories.{In}
use Rattle.served_fits.specs.Below.outcome_causes.proofs.PlainOutcomeCauses.{in_left}
use Rattle.served_fits.specs.Below.accept_counts.proofs.ClaimViewsBehindSteps.{row_same}
use Rattle.corr_core.proofs.NoteSums.{at_length}
use Rattle.sock_words.specs.PackedWords.{IDLE}

module _ (e : Entry) where
  abbrev pub IsThere : List (List Entry) → Type 0
  IsThere ls = (l : List Entry) × In l ls × In e l

  -- it stands in a list of some seat
  abbrev pub IsHeld : List View → Type 0
  IsHeld vs = (i : ℕ) × (v : View) × (get_elem? vs i ≡ some v) × IsThere v.lists

  more_there : (ls : List (List Entry)) (x : Entry) → IsThere ls → IsThere (more ls x)
  more_there [] x h = h
  more_there (y ∷ ls) x (l, inl same, at) = (y ++ x ∷ [], inl refl, in_left y (x ∷ []) e (subst (In e) same at))
  more_there (y ∷ ls) x (l, inr far, at) = (l, inr far, at)

  -- a step keeps it
  row_there : (p : Plan) (v : View) (found : ℕ) (hand : Hand) (call : TableStep) → IsThere v.lists → IsThere (row p call found hand v).lists
  row_there p v found hand (OnChain (ClaimRequest id q)) h = either_way (found % 2 == 0) _ v (λ (w : View). IsThere w.lists) h h
  row_there p v found hand (OnMessage (PutMessage q heading bytes)) h = claim_way (λ (w : View). IsThere w.lists) v.claims (λ c. with_claim v (filled_claim c heading bytes)) v h (λ c. h)
  row_there p v found hand (OnChain (Unconnect q)) h = claim_way (λ (w : View). IsThere w.lists) v.claims (λ c. with_claim v (ready_claim c)) v h (λ c. h)
  row_there p v found hand (OnChain (SwapHead i own)) h = claim_way (λ (w : View). IsThere w.lists) v.claims (exchanged found hand v) v h
      (λ c. either_way (nat_lt found IDLE) (queued v c found) (righted v c found hand.took hand.next) (λ (w : View). IsThere w.lists) (more_there v.lists (entry_of c found) h) (more_there v.lists (entry_of c (found - IDLE)) h))
  row_there p v found hand call h = subst IsThere (sym (row_same v p found hand call refl).1) h

  held_set : (vs : List View) (i : ℕ) (v w : View) → get_elem? vs i ≡ some v → (IsThere v.lists → IsThere w.lists) → IsHeld vs → IsHeld (set vs i w)
  held_set vs i v w here f (j, u, at, h) = dite (ℕ_discrete j i)
      (λ same. let one : u ≡ v = some-injective u v (sym at ∙ (ap (get_elem? vs) same ∙ here)) in (i, w, set_here vs i w (at_length vs i v here), f (subst (λ (x : View). IsThere x.lists) one h)))
      (λ far. (j, u, set_else vs i j w far ∙ at, h))

  module _ (p : Plan) where
    rights_held : (vs : List View) (i : ℕ) (v w : View) → get_elem? vs i ≡ some v → (rights : List Right) × (w ≡ with_rights v rights) → IsHeld vs → IsHeld (set vs i w)
    rights_held vs i v w here x = held_set vs i v w here (λ h. subst (λ (y : View). IsThere y.lists) (sym x.1) h)

    tick_held : (c : Core) (vs : List View) (m : Moment) → Sound p c vs → IsAnswered c m → IsHeld vs → IsHeld (views_after p c vs m)
    tick_held c vs m sound answered = tick_cases p c vs m sound answered (λ d ws. IsHeld vs → IsHeld ws) (λ h. h)
        (λ seat v call next at here is goes. held_set vs m.seat v (row p call (found_at c.words (word_of p call)) (hand_at p c.words c.homes call) v) here (row_there p v (found_at c.words (word_of p call)) (hand_at p c.words c.homes call) call))
        (λ seat v r next heading bytes at here is goes lies. rights_held vs m.seat v (took_message heading bytes v) here (right_rights v v.rights (λ x. taken_right x heading bytes)))
        (λ seat v k next took n at here is goes lies. rights_held vs m.seat v (link_away v) here (right_rights v v.rights (λ x. record x { at_home = false })))
        (λ seat v k n after at here is goes. rights_held vs m.seat v (link_home_again v) here (right_rights v v.rights (λ x. record x { at_home = true })))
        (λ seat v k asked bytes next answer at here is goes answer_is fits. rights_held vs m.seat v (took_bytes answer v) here (put_rights v answer))
        (λ seat v k next answer at here is goes answer_is h. h)
        (λ seat v s next found at here is goes found_is h. h)

    pub run_held : RetriesGo p → (ms : List Moment) (c : Core) (vs : List View) → Sound p c vs → AreAnswered p c ms → AreFitting p c ms → IsHeld vs → IsHeld (views_along p c vs ms)
    run_held retries [] c vs sound answered fitting h = h
    run_held retries (m ∷ ms) c vs sound answered fitting h = run_held retries ms (ticked p c m) (views_after p c vs m) (sound_ticks p retries c vs m sound answered.0 fitting.0) answered.1 fitting.1 (tick_held c vs m sound answered.0 h)
