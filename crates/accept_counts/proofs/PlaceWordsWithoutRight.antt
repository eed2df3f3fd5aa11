-- A seat without the right to write a link changes no place word.
use Rattle.std.proofs.Common.{◌≡◌, ℕ, ◌*◌, ◌<◌, List, [], ◌∷◌, get_or, refl, sym, ◌∙◌}
use mathlib.Core.Option.{some}
use lib.ListN.{get_elem?}
use Rattle.sock_words.specs.declared.plain.Plan.{Plan}
use Rattle.sock_model.specs.declared.chain.Right.{Right}
use Rattle.sock_model.specs.declared.view.View.{View}
use Rattle.sock_model.specs.SocketTableLayout.{place_index}
use Rattle.seat_programs.specs.TableSteps.{TableStep, OnPlace, StorePlace, DropPlace}
use Rattle.seat_programs.specs.Cores.{Core, found_at, words_after}
use Rattle.seat_programs.specs.TableWords.{PlaceOf}
use Rattle.seat_programs.specs.StepTables.{May, word_of, word_after}
use Rattle.seat_programs.specs.Ticks.{Moment, IsAnswered, ticked}
use Rattle.outcome_causes.specs.program_steps.specs.SoundSeats.{state, Sound, IsFitting}
use Rattle.outcome_causes.specs.program_steps.proofs.WordFrame.{word_left}
use Rattle.outcome_causes.specs.sock_runs.proofs.ChainTicks.{word_inside}
use Rattle.outcome_causes.specs.program_steps.proofs.TickCases.{tick_keeps_marks}

no_right : (rs : List Right) (r : Right) → rs ≡ [] → rs ≡ r ∷ [] → ⊥
no_right rs r a b = let z : [] ≡ r ∷ [] = sym a ∙ b in cc

-- a step of such a seat
places_same : (p : Plan) (c : Core) (vs : List View) → Sound p c vs → (i : ℕ) (v : View) → get_elem? vs i ≡ some v → v.rights ≡ [] → (l : ℕ) → l < 8 * p.operations → (call : TableStep) → May p v call
    → get_or (words_after c.words (word_of p call) (word_after call (found_at c.words (word_of p call)))) (place_index p l) 0 ≡ get_or c.words (place_index p l) 0
places_same p c vs sound i v at none_ l low (OnPlace (StorePlace m k n)) may = absurd (no_right v.rights _ none_ may.1)
places_same p c vs sound i v at none_ l low (OnPlace (DropPlace m k n)) may = absurd (no_right v.rights _ none_ may.1)
places_same p c vs sound i v at none_ l low call may =
    word_left p c.words call (word_inside p (state c vs) sound.lawful i v at call may) (word_after call (found_at c.words (word_of p call))) (PlaceOf l) low refl

-- its tick
pub places_ticks : (p : Plan) (l : ℕ) → l < 8 * p.operations → (c : Core) (vs : List View) (m : Moment) → Sound p c vs → IsAnswered c m → IsFitting p c m → ((v : View) → get_elem? vs m.seat ≡ some v → v.rights ≡ [])
    → get_or (ticked p c m).words (place_index p l) 0 ≡ get_or c.words (place_index p l) 0
places_ticks p l low c vs m sound answered fitting none_ = tick_keeps_marks p c vs m sound answered fitting (λ d ws. get_or d.words (place_index p l) 0 ≡ get_or c.words (place_index p l) 0) refl
    (λ seat v call next at_seat at_view is goes. places_same p c vs sound m.seat v at_view (none_ v at_view) l low call goes.0)
    (λ seat v program rights hand hs a at_seat at_view comes. refl)
