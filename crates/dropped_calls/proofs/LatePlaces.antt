-- While a run is ending only whoever writes the link of a life that was made then changes a place word.
use Rattle.std.proofs.Common.{◌≡◌, ℕ, ◌*◌, ◌<◌, ◌⊎◌, Bool, true, false, List, [], ◌∷◌, get_or, get_or-set_other, get_or-set_same, inl, inr, ⊎_elim, refl, sym, ap, ◌∙◌, subst, arith}
use mathlib.Core.Logic.{dite}
use mathlib.Core.Option.{some}
use native.Mathlib.Decide.{ℕ_discrete}
use lib.ListN.{get_elem?}
use Rattle.sock_words.specs.declared.plain.Plan.{Plan}
use Rattle.sock_model.specs.declared.chain.Right.{Right}
use Rattle.sock_model.specs.declared.view.View.{View}
use Rattle.sock_model.specs.SocketTableLayout.{place_index}
use Rattle.seat_programs.specs.TableSteps.{TableStep, OnPlace, StorePlace, DropPlace}
use Rattle.seat_programs.specs.Cores.{Core, found_at, words_after}
use Rattle.seat_programs.specs.TableWords.{PlaceOf}
use Rattle.seat_programs.specs.StepTables.{May, word_of, word_after}
use Rattle.seat_programs.specs.Ticks.{Moment, IsAnswered, AreAnswered, ticked, run}
use Rattle.ended_calls.specs.refused_attempts.specs.Below.programs_allowed.specs.program_steps.specs.SoundSeats.{state, Sound, AreFew, MOST_PLACES, IsFitting, AreFitting, views_after, views_along}
use Rattle.ended_calls.specs.refused_attempts.specs.Below.programs_allowed.specs.program_steps.proofs.TickCases.{tick_keeps_marks}
use Rattle.ended_calls.specs.refused_attempts.specs.Below.programs_allowed.specs.program_steps.proofs.WordFrame.{word_left}
use Rattle.ended_calls.specs.refused_attempts.specs.Below.programs_allowed.specs.sock_runs.proofs.ChainTicks.{word_inside}
use Rattle.ended_calls.specs.refused_attempts.specs.Below.programs_allowed.specs.sock_runs.proofs.FewAcceptedMessages.{places_small}
use Rattle.ended_calls.specs.refused_attempts.specs.Below.programs_allowed.specs.sock_runs.proofs.LinkTicks.{RetriesGo}
use Rattle.ended_calls.specs.refused_attempts.specs.Below.programs_allowed.specs.sock_runs.proofs.TicksKeepSeatsSound.{sound_ticks}
use Rattle.ended_calls.specs.refused_attempts.specs.Below.joint_runs.proofs.BothTablesSound.{AreBounded}
use Rattle.ended_calls.specs.refused_attempts.specs.Below.outcome_stories.specs.Facts.{born_at, shown_in}
use Rattle.ended_calls.specs.refused_attempts.specs.Below.outcome_stories.specs.OperationStories.{In}
use Rattle.ended_calls.specs.refused_attempts.specs.Below.outcome_causes.proofs.PlainOutcomeCauses.{in_left, in_right}
use Rattle.dropped_calls.proofs.LateLooks.{Mode, Writes}
use Rattle.dropped_calls.proofs.LateSeats.{Righted, rights_of, Stands, AllStand, stand_ticks}
use Rattle.dropped_calls.proofs.LateLives.{WasPast, Lives, lives_tell, lives_ticks}
use Rattle.sock_words.specs.PackedWords.{place_word}

module _ (p : Plan) (base : Core) (L : ℕ → Type 0) where
  -- a place word tells of a message of such a link
  pub record IsOfLate (w : ℕ) : Type 0 where
    pub dropped : Bool
    pub link : ℕ
    pub position : ℕ
    pub late : L link
    pub inside : link < p.links
    pub small : position < MOST_PLACES
    pub is : w ≡ place_word dropped link position

  late_right : (m : Mode) (k : ℕ) → rights_of p L (WasPast p base L) m k → L k
  late_right Writes k x = x
  late_right _ k x = absurd x

  -- ## A step

  module _ (c : Core) (vs : List View) (sound : Sound p c vs) (few : AreFew vs) (i : ℕ) (v : View) (at : get_elem? vs i ≡ some v) (m : Mode) (stands : Stands p L (WasPast p base L) m v) (l : ℕ) (low : l < 8 * p.operations) where
    abbrev After : TableStep → Type 0
    After call = (get_or (words_after c.words (word_of p call) (word_after call (found_at c.words (word_of p call)))) (place_index p l) 0 ≡ get_or c.words (place_index p l) 0)
        ⊎ IsOfLate (get_or (words_after c.words (word_of p call) (word_after call (found_at c.words (word_of p call)))) (place_index p l) 0)

    -- the seat's one right is for such a link of the table
    late_one : (r : Right) → v.rights ≡ r ∷ [] → L r.link × (r.link < p.links)
    late_one r one = let x : Righted (rights_of p L (WasPast p base L) m) (r ∷ []) = subst (Righted (rights_of p L (WasPast p base L) m)) one stands.rights in
        (late_right m r.link x.0, (sound.lawful.held i v at 0 r (ap (λ rs. get_elem? rs 0) one)).0)

    place_stored : (dropped : Bool) (n k position : ℕ) → L k → k < p.links → position < MOST_PLACES
        → (get_or (Rattle.std.proofs.Common.set c.words (place_index p n) (place_word dropped k position)) (place_index p l) 0 ≡ get_or c.words (place_index p l) 0) ⊎ IsOfLate (get_or (Rattle.std.proofs.Common.set c.words (place_index p n) (place_word dropped k position)) (place_index p l) 0)
    place_stored dropped n k position late inside small = dite (ℕ_discrete l n)
        (λ e. inr record { dropped = dropped; link = k; position = position; late = late; inside = inside; small = small; is = ap (λ x. get_or (Rattle.std.proofs.Common.set c.words (place_index p n) (place_word dropped k position)) (place_index p x) 0) e ∙ get_or-set_same c.words (place_index p n) (place_word dropped k position) 0 (let sized = sound.lawful.references.sized in omega (arith, sized, low, e)) })
        (λ far. inl (get_or-set_other c.words (place_index p n) (place_index p l) (place_word dropped k position) 0 (λ e. far (omega (arith, e)))))

    place_after : (call : TableStep) → May p v call → After call
    place_after (OnPlace (StorePlace n k position)) may = let x = may.0 in let y = late_one x.mine.right may.1 in place_stored false n k position (subst L (sym may.3) y.0) (subst (λ z. z < p.links) (sym may.3) y.1)
        (subst (λ z. z < MOST_PLACES) (sym may.4) (places_small p (state c vs) sound.lawful i v at x.mine.place x.mine.right x.mine.has few x.now x.stage))
    place_after (OnPlace (DropPlace n k position)) may = let x = may.0 in let y = late_one x.mine.right may.1 in place_stored true n k position (subst L (sym may.3) y.0) (subst (λ z. z < p.links) (sym may.3) y.1)
        (subst (λ z. z < MOST_PLACES) (sym may.4) (places_small p (state c vs) sound.lawful i v at x.mine.place x.mine.right x.mine.has few x.now x.stage))
    place_after call may = inl (word_left p c.words call (word_inside p (state c vs) sound.lawful i v at call may) (word_after call (found_at c.words (word_of p call))) (PlaceOf l) low refl)

  -- ## Ticks

  -- each place word is as it was at the base, or tells of such a link
  abbrev pub ArePlaces : Core → Type 0
  ArePlaces c = (l : ℕ) → l < 8 * p.operations → (get_or c.words (place_index p l) 0 ≡ get_or base.words (place_index p l) 0) ⊎ IsOfLate (get_or c.words (place_index p l) 0)

  places_late : (c : Core) (vs : List View) (m : Moment) → Sound p c vs → IsAnswered c m → IsFitting p c m → AreFew vs → AllStand p L (WasPast p base L) c vs → ArePlaces c → ArePlaces (ticked p c m)
  places_late c vs m sound answered fits few stands places = tick_keeps_marks p c vs m sound answered fits (λ d ws. ArePlaces d) places
      (λ seat v call next at_seat at_view is goes l low. let x = stands m.seat seat v at_seat at_view in
      ⊎_elim (λ same. ⊎_elim (λ before. inl (same ∙ before)) (λ late. inr (subst IsOfLate (sym same) late)) (places l low)) (λ late. inr late) (place_after c vs sound few m.seat v at_view x.0 x.2 l low call goes.0))
      (λ seat v program rights hand hs a at_seat at_view comes. places)

  pub record IsEnding (c : Core) (vs : List View) : Type 0 where
    pub lives : Lives p base L c vs
    pub stands : AllStand p L (WasPast p base L) c vs
    pub places : ArePlaces c

  pub ending_along : RetriesGo p → (most : ℕ) (ms : List Moment) (c : Core) (vs : List View) → Sound p c vs → AreAnswered p c ms → AreFitting p c ms → AreBounded p most c vs ms → ((k : ℕ) → In k (shown_in born_at p c ms) → L k)
      → IsEnding c vs → IsEnding (run p c ms) (views_along p c vs ms)
  ending_along retries most [] c vs sound answered fits bounded born e = e
  ending_along retries most (m ∷ ms) c vs sound answered fits bounded born e = ending_along retries most ms (ticked p c m) (views_after p c vs m) (sound_ticks p retries c vs m sound answered.0 fits.0) answered.1 fits.1 bounded.1
      (λ k there. born k (in_right (born_at c m) (shown_in born_at p (ticked p c m) ms) k there)) (record {
        lives = lives_ticks p base L c vs m sound answered.0 fits.0 (λ k there. born k (in_left (born_at c m) (shown_in born_at p (ticked p c m) ms) k there)) e.lives;
        stands = stand_ticks p L (WasPast p base L) c vs m sound answered.0 fits.0 (lives_tell p base L c vs sound e.lives) e.stands;
        places = places_late c vs m sound answered.0 fits.0 (let few = bounded.0 in few.few) e.stands e.places;
      })
