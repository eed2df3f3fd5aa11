-- Which link a life was given stays noted over every run; and whoever holds a life finds the link that it was given.
use Rattle.std.proofs.Common.{◌≡◌, ℕ, ◌-◌, ◌<◌, List, [], ◌∷◌, get_or, subst, arith}
use mathlib.Core.Logic.{dite}
use mathlib.Core.Option.{some}
use native.Mathlib.Decide.{ℕ_discrete}
use lib.ListN.{get_elem?}
use Rattle.sock_words.specs.declared.plain.Plan.{Plan}
use Rattle.sock_model.specs.declared.view.View.{View}
use Rattle.sock_model.specs.SocketTableLayout.{link_index}
use Rattle.sock_model.specs.MarkWeights.{is_hold, is_linked}
use Rattle.sock_model.specs.SocketSlotLaw.{count, live}
use Rattle.sock_model.specs.References.{slot_facts}
use Rattle.sock_steps.proofs.LifeLinkSlotPlaces.{counts, own_count}
use Rattle.seat_programs.specs.TableSteps.{OnSlot, FindLink}
use Rattle.seat_programs.specs.Cores.{Core, found_at, words_after, homes_after}
use Rattle.seat_programs.specs.StepTables.{word_of, word_after}
use Rattle.seat_programs.specs.Ticks.{Moment, ticked, run, IsAnswered, AreAnswered}
use Rattle.seat_programs.specs.StepTables.{row, hand_at}
use Rattle.seat_programs.specs.StepTables.{May}
use Rattle.program_steps.specs.SoundSeats.{state, Sound, IsFitting, AreFitting, views_after, views_along}
use Rattle.program_steps.proofs.SlotWordBounds.{law, lives_le}
use Rattle.sock_runs.proofs.LinkNotes.{links_stay}
use Rattle.program_steps.proofs.TickCases.{with_rights, tick_keeps_marks}
use Rattle.sock_runs.proofs.LinkTicks.{RetriesGo}
use Rattle.sock_runs.proofs.TicksKeepSeatsSound.{sound_ticks}

-- the life h of slot i was given link k
abbrev pub IsGiven : Core → List View → ℕ → ℕ → ℕ → Type 0
IsGiven c vs i h k = 0 < count (is_linked h k) (slot_facts (state c vs) i)

module _ (p : Plan) (i h k : ℕ) where
  given_ticks : (c : Core) (vs : List View) (m : Moment) → Sound p c vs → IsAnswered c m → IsFitting p c m → IsGiven c vs i h k → IsGiven (ticked p c m) (views_after p c vs m) i h k
  given_ticks c vs m sound answered fitting given = tick_keeps_marks p c vs m sound answered fitting (λ d ws. IsGiven d ws i h k) given
      (λ seat v call next at_seat at_view is goes. let found : ℕ = found_at c.words (word_of p call) in let w : View = row p call (found_at c.words (word_of p call)) (hand_at p c.words c.homes call) v in
      let moved = counts (state c vs) m.seat v w at_view (words_after c.words (word_of p call) (word_after call (found_at c.words (word_of p call)))) (homes_after p call seat.hand c.homes) (is_linked h k) i in
      omega (arith, given, moved, links_stay p v (found_at c.words (word_of p call)) (hand_at p c.words c.homes call) h k call i))
      (λ seat v program rights hand hs a at_seat at_view comes. let moved = counts (state c vs) m.seat v (with_rights v rights) at_view c.words hs (is_linked h k) i in omega (arith, given, moved))

  pub run_given : RetriesGo p → (c : Core) (vs : List View) (moments : List Moment) → Sound p c vs → AreAnswered p c moments → AreFitting p c moments → IsGiven c vs i h k → IsGiven (run p c moments) (views_along p c vs moments) i h k
  run_given go c vs [] sound answered fitting given = given
  run_given go c vs (m ∷ ms) sound answered fitting given = run_given go (ticked p c m) (views_after p c vs m) ms (sound_ticks p go c vs m sound answered.0 fitting.0) answered.1 fitting.1 (given_ticks c vs m sound answered.0 fitting.0 given)

-- whoever holds a life finds its link
pub finds_given : (p : Plan) (c : Core) (vs : List View) → Sound p c vs → (j : ℕ) (v : View) → get_elem? vs j ≡ some v → (i h : ℕ) → May p v (OnSlot (FindLink i h)) → IsGiven c vs i h (get_or c.words (link_index i) 0)
finds_given p c vs sound j v at i h may = let l = law p (state c vs) sound.lawful.references i may.0 in let le = lives_le p (state c vs) sound.lawful.references i may.0 in
    let some_ : 0 < count (is_hold h) (slot_facts (state c vs) i) = (let m = may.1 in omega (arith, m, own_count (state c vs) j v at (is_hold h) i)) in
    let held = l.held h some_ in let last = held.0 in let even = held.1 in dite (ℕ_discrete (live (slot_facts (state c vs) i)) 0)
    (λ none_. let version : (slot_facts (state c vs) i).version - 1 ≡ h = omega (arith, last, none_) in subst (λ x. 0 < count (is_linked x (get_or c.words (link_index i) 0)) (slot_facts (state c vs) i)) version (l.link_odd (omega (arith, last, none_, even))))
    (λ one. let version : (slot_facts (state c vs) i).version ≡ h = omega (arith, last, one, le) in subst (λ x. 0 < count (is_linked x (get_or c.words (link_index i) 0)) (slot_facts (state c vs) i)) version (l.link_live (omega (arith, one))))
