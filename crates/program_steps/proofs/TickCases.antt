-- What holds of each kind of step of a seat holds of its tick.
use Rattle.std.proofs.Common.{◌≡◌, ◌≢◌, ℕ, zero, suc, ◌*◌, ◌<◌, Bool, true, false, List, [], ◌∷◌, ◌++◌, length, set, refl, sym, ap, ◌∙◌, subst, arith}
use mathlib.Core.Option.{Option, some, none, some-injective, some-ne-none}
use lib.ListN.{get_elem?}
use Rattle.atomic_table.proofs.Lists.{set_again}
use Rattle.sock_words.specs.declared.plain.Plan.{Plan}
use Rattle.seat_programs.specs.sock_io.specs.declared.link.Put.{Put}
use Rattle.seat_programs.specs.sock_io.specs.declared.link.Put.TheVariants.{Took, Again, Failed}
use Rattle.seat_programs.specs.sock_io.specs.declared.link.Ready.{Ready}
use Rattle.sock_model.specs.declared.chain.Heading.{Heading}
use Rattle.sock_model.specs.declared.chain.Right.{Right}
use Rattle.sock_model.specs.declared.home.Home.{Home}
use Rattle.sock_model.specs.declared.home.Home.TheVariants.{Empty, Link, Message}
use Rattle.sock_model.specs.declared.view.View.{View}
use Rattle.sock_model.specs.ChainRows.{with_right, taken_right, put_right}
use Rattle.sock_model.specs.UnplacedMessages.{HeadedBytes}
use Rattle.sock_model.specs.ChainLawReads.{letter_of, shown, message, link_home}
use Rattle.seat_programs.specs.Writings.{Puts, Waits, Empties, Reversing}
use Rattle.seat_programs.specs.TableSteps.{TableStep, OnName, LoadOpen}
use Rattle.seat_programs.specs.Programs.{Program, Do, Say, Sent, Rest, TakeMessage, TakeHome, PutHome, PutBytes, AskReady, Write, Aside, Round, Keep, Retries}
use Rattle.seat_programs.specs.Asides.{Step, Found}
use Rattle.seat_programs.specs.LoopHeads.{Head, Exit, Posts, Unlocks, Decides, Locks, Joins, Opens, Reads, Discards}
use Rattle.seat_programs.specs.LoopRounds.{round, first_step}
use Rattle.seat_programs.specs.FoundAndChangedAside.{found_in, more_given, calls_after}
use Rattle.program_steps.specs.IdWordFits.{FitsFound}
use Rattle.seat_programs.specs.corr_core.specs.IdSlotWord.{parts, code_of}
use Rattle.seat_programs.specs.Asides.{PutCall, TakeBytes, Taking, Bytes}
use Rattle.seat_programs.specs.corr_core.specs.EndedByRangeOrAttempt.{ends_call}
use Rattle.seat_programs.specs.LoopHeads.{HasEnded}
use Rattle.seat_programs.specs.PostPrograms.{end_id, unlocked}
use Rattle.std.specs.Prelude.{if◌then◌else◌, ◌+◌, Some, None}
use Rattle.seat_programs.specs.Cores.{Calls, Core, SeatState, found_at, lies_at, first_of, others_of, link_place, with_seat, stepped}
use Rattle.seat_programs.specs.StepTables.{word_of}
use Rattle.seat_programs.specs.Ticks.{Answer, OfPut, OfReady, Moment, FitsPut, IsAnswer, IsAnswered, fed, with_places, onto_first, with_message, with_link, taken, with_found, step_with, tick_with, ticked}
use Rattle.seat_programs.specs.StepTables.{row, hand_at}
use Rattle.seat_programs.specs.StepViews.{by_right}
use Rattle.seat_programs.specs.StepsOfMessages.{took_message}
use Rattle.seat_programs.specs.StepsOfLinks.{link_away, link_home_again, took_bytes}
use Rattle.program_steps.specs.ProgramGoesOn.{GoesOn}
use Rattle.program_steps.specs.SoundSeats.{Sound, views_with_message, views_with_link, views_with, views_of, views_after, FitsBeside, IsFitting}
use Rattle.program_steps.proofs.AsideStepsPass.{goes_round}
use Rattle.program_steps.proofs.AllowedRounds.{begins_round}
use Rattle.sock_words.specs.PackedWords.{id_slot}

-- of two lists of one length each place of one is a place of the other
pub elem_there : {A B : Type 0} (xs : List A) (ys : List B) (i : ℕ) (x : A) → length ys ≡ length xs → get_elem? xs i ≡ some x → (y : B) × (get_elem? ys i ≡ some y)
elem_there [] ys i x l e = absurd (some-ne-none x (sym e))
elem_there (z ∷ zs) [] i x l e = absurd (omega arith)
elem_there (z ∷ zs) (y ∷ ys) zero x l e = (y, refl)
elem_there (z ∷ zs) (y ∷ ys) (suc i) x l e = elem_there zs ys i x (omega arith) e

pub beside : {A B : Type 0} (l : List A) (m : List B) (i : ℕ) (a : A) → length m ≡ length l → get_elem? l i ≡ some a → get_elem? m i ≡ none → ⊥
beside l m i a e at none_ = let y = elem_there l m i a e at in some-ne-none y.0 (sym y.1 ∙ none_)

-- a tick is the first step of what its seat is at
pub ticks_first : (p : Plan) (i : ℕ) (seat : SeatState) (c : Core) (answer : Answer) (program : Program) → tick_with p i seat c answer program ≡ step_with p i seat c answer (first_step program)
ticks_first p i seat c answer (Write w after) = refl
ticks_first p i seat c answer (Round head next) = refl
ticks_first p i seat c answer _ = refl

pub views_first : (p : Plan) (i : ℕ) (c : Core) (vs : List View) (v : View) (answer : Answer) (program : Program) → views_of p i c vs v answer program ≡ views_with p i c vs v answer (first_step program)
views_first p i c vs v answer (Write w after) = refl
views_first p i c vs v answer (Round head next) = refl
views_first p i c vs v answer _ = refl

-- no step aside touches the retries that wait
pub given_waiting : (k : ℕ) (t : Taking) (a : Calls) → (more_given k t a).waiting ≡ a.waiting
given_waiting k (Bytes bytes) a = refl
given_waiting k _ a = refl

pub calls_waiting : (step : Step) (found : Found step) (a : Calls) → (calls_after step found a).waiting ≡ a.waiting
calls_waiting (TakeBytes k room) found a = given_waiting k found a
calls_waiting _ found a = refl

-- a home that shows a message has it
lies_there : (x : Option (Option Home)) (heading : Heading) (bytes : List ℕ) → letter_of (shown (λ (home : Home). home) x) ≡ some (heading, bytes) → x ≡ some (some (Message heading bytes))
lies_there none heading bytes e = absurd (some-ne-none (heading, bytes) (sym e))
lies_there (some none) heading bytes e = absurd (some-ne-none (heading, bytes) (sym e))
lies_there (some (some Empty)) heading bytes e = absurd (some-ne-none (heading, bytes) (sym e))
lies_there (some (some (Link k took next done))) heading bytes e = absurd (some-ne-none (heading, bytes) (sym e))
lies_there (some (some (Message l cs))) heading bytes e = let q : (l, cs) ≡ (heading, bytes) = some-injective (l, cs) (heading, bytes) e in ap (λ (z : HeadedBytes). some (some (Message z.0 z.1))) q

-- whoever is asked at the head of a loop is asked by the first step of the round
pub answer_begins : (program : Program) (answer : Answer) → IsAnswer program answer → IsAnswer (first_step program) answer
answer_begins (Write (Puts h now heading left taken asked) after) answer a = tt
answer_begins (Write (Waits h now heading left taken) after) answer a = a
answer_begins (Write (Empties h) after) answer a = tt
answer_begins (Write (Reversing h top at after) then_) answer a = tt
answer_begins (Round (Posts id e w) next) answer a = tt
answer_begins (Round (Unlocks i w advance) next) answer a = tt
answer_begins (Round (Decides id asked w e) next) answer a = begins_decides (ends_call (parts w) e)
  where
    begins_decides : (b : Bool) → IsAnswer (if b then end_id (id_slot id) (next (HasEnded asked.operation (code_of e)))
        else Aside (PutCall (id_slot id) asked) (λ _. Round (Unlocks (id_slot id) w true) (unlocked (record { id = id; attempt = (parts w).attempt + 1 }) next))) answer
    begins_decides true = tt
    begins_decides false = tt
answer_begins (Round (Locks i sought None) next) answer a = tt
answer_begins (Round (Locks i sought (Some w)) next) answer a = tt
answer_begins (Round (Joins id) next) answer a = tt
answer_begins (Round (Opens o) next) answer a = tt
answer_begins (Round (Reads r) next) answer a = a
answer_begins (Round (Discards k total) next) answer a = a
answer_begins _ answer a = a

-- a round that the view allows from the head of a loop on, it allows from its first step on
pub goes_first : (p : Plan) (v : View) (program : Program) → GoesOn p v program → GoesOn p v (first_step program)
goes_first p v (Write w after) g = begins_round p v w after g
goes_first p v (Round head next) g = goes_round p v head next g
goes_first p v _ g = g

-- a loop aside begins with a step aside, but for the one that waits for an `open`
abbrev pub IsOfLoop : Program → Type 0
IsOfLoop (Aside s next) = Unit {0}
IsOfLoop (Do call next) = (o : ℕ) × (call ≡ OnName (LoadOpen o))
IsOfLoop other = ⊥

pub loop_begins : (head : Head) (next : Exit head → Program) → IsOfLoop (round head next)
loop_begins (Decides id asked w e) next = by_end (ends_call (parts w) e)
  where
    by_end : (b : Bool) → IsOfLoop (if b then end_id (id_slot id) (next (HasEnded asked.operation (code_of e)))
        else Aside (PutCall (id_slot id) asked) (λ _. Round (Unlocks (id_slot id) w true) (unlocked (record { id = id; attempt = (parts w).attempt + 1 }) next)))
    by_end true = tt
    by_end false = tt
loop_begins (Locks i sought None) next = tt
loop_begins (Locks i sought (Some w)) next = tt
loop_begins (Opens o) next = (o, refl)
loop_begins _ next = tt

-- the first step of a seat is at no head of a loop
abbrev IsHead : Program → Type 0
IsHead (Write w after) = Unit {0}
IsHead (Round head next) = Unit {0}
IsHead other = ⊥

no_head : (first : Program) → IsOfLoop first → IsHead first → ⊥
no_head (Write w after) l h = l
no_head (Round head next) l h = l
no_head _ l h = h

first_head : (program : Program) → IsHead (first_step program) → ⊥
first_head (Write (Puts h now heading left taken asked) next) e = e
first_head (Write (Waits h now heading left taken) next) e = e
first_head (Write (Empties h) next) e = e
first_head (Write (Reversing h top at later) next) e = e
first_head (Round head next) e = no_head (round head next) (loop_begins head next) e
first_head _ e = e

-- ## Each kind of step

-- what a tick may leave as it is: nothing lies at the home, nothing is found aside, or nothing is to do
abbrev pub IsStill : Program → Type 0
IsStill (TakeMessage q next) = Unit {0}
IsStill (TakeHome k next) = Unit {0}
IsStill (Say o outcome next) = Unit {0}
IsStill (Sent o next) = Unit {0}
IsStill Rest = Unit {0}
IsStill (Aside step next) = Unit {0}
IsStill (Keep r next) = Unit {0}
IsStill (Retries requests after) = Unit {0}
IsStill other = ⊥

-- what is told of the tick: of the seat's first step, or that nothing happened
module _ {E : Type 0} (event : View → Answer → Program → E) (nothing : E) where
  abbrev pub told_of : Core → List View → Moment → E
  told_of c vs m = elim (get_elem? c.seats m.seat) as (λ o. E) [
    | none ↦ nothing
    | some seat ↦ elim (get_elem? vs m.seat) as (λ o. E) [ none ↦ nothing | some v ↦ event v m.answer (first_step seat.program) ]
  ]

-- that P holds behind each kind of step. Of a message and of a link it is known that they lay at home, and of a step aside of the sockets what it found.
module _ (p : Plan) (c : Core) (vs : List View) (m : Moment) {E : Type 0} (event : View → Answer → Program → E) (P : E → Core → List View → Type 0) where
  abbrev pub OnStep : Type 0
  OnStep = (seat : SeatState) (v : View) (call : TableStep) (next : ℕ → Program) → get_elem? c.seats m.seat ≡ some seat → get_elem? vs m.seat ≡ some v → first_step seat.program ≡ Do call next → GoesOn p v (Do call next)
      → P (event v m.answer (Do call next)) (stepped p m.seat seat call next c) (set vs m.seat (row p call (found_at c.words (word_of p call)) (hand_at p c.words c.homes call) v))

  abbrev pub OnMessage : Type 0
  OnMessage = (seat : SeatState) (v : View) (q : ℕ) (next : Heading → List ℕ → Program) (heading : Heading) (bytes : List ℕ) → get_elem? c.seats m.seat ≡ some seat → get_elem? vs m.seat ≡ some v
      → first_step seat.program ≡ TakeMessage q next → GoesOn p v (TakeMessage q next) → get_elem? c.homes q ≡ some (some (Message heading bytes))
      → P (event v m.answer (TakeMessage q next)) (with_seat m.seat (next heading bytes) seat.hand c.words (set c.homes q none) c) (set vs m.seat (took_message heading bytes v))

  abbrev pub OnHome : Type 0
  OnHome = (seat : SeatState) (v : View) (k : ℕ) (next : ℕ → Program) (took : List ℕ) (n : ℕ) → get_elem? c.seats m.seat ≡ some seat → get_elem? vs m.seat ≡ some v
      → first_step seat.program ≡ TakeHome k next → GoesOn p v (TakeHome k next) → link_home (λ (h : Home). h) p c.homes k ≡ some (took, n)
      → P (event v m.answer (TakeHome k next)) (with_seat m.seat (next n) (lies_at c.homes (link_place p k) ++ seat.hand) c.words (set c.homes (link_place p k) none) c) (set vs m.seat (link_away v))

  abbrev pub OnPutHome : Type 0
  OnPutHome = (seat : SeatState) (v : View) (k n : ℕ) (after : Program) → get_elem? c.seats m.seat ≡ some seat → get_elem? vs m.seat ≡ some v
      → first_step seat.program ≡ PutHome k n after → GoesOn p v (PutHome k n after)
      → P (event v m.answer (PutHome k n after)) (with_seat m.seat after (others_of seat.hand) c.words (set c.homes (link_place p k) (first_of (onto_first (with_places n) seat.hand))) c) (set vs m.seat (link_home_again v))

  abbrev pub OnPut : Type 0
  OnPut = (seat : SeatState) (v : View) (k : ℕ) (asked : Bool) (bytes : List ℕ) (next : Put → Program) (answer : Put) → get_elem? c.seats m.seat ≡ some seat → get_elem? vs m.seat ≡ some v
      → first_step seat.program ≡ PutBytes k asked bytes next → GoesOn p v (PutBytes k asked bytes next) → m.answer ≡ OfPut answer → FitsPut asked bytes answer
      → P (event v (OfPut answer) (PutBytes k asked bytes next)) (with_seat m.seat (next answer) (onto_first (fed bytes answer) seat.hand) c.words c.homes c) (set vs m.seat (took_bytes answer v))

  abbrev pub OnReady : Type 0
  OnReady = (seat : SeatState) (v : View) (k : ℕ) (next : Ready → Program) (answer : Ready) → get_elem? c.seats m.seat ≡ some seat → get_elem? vs m.seat ≡ some v
      → first_step seat.program ≡ AskReady k next → GoesOn p v (AskReady k next) → m.answer ≡ OfReady answer
      → P (event v (OfReady answer) (AskReady k next)) (with_seat m.seat (next answer) seat.hand c.words c.homes c) vs

  abbrev pub OnAside : Type 0
  OnAside = (seat : SeatState) (v : View) (step : Step) (next : Found step → Program) (found : Found step) → get_elem? c.seats m.seat ≡ some seat → get_elem? vs m.seat ≡ some v
      → first_step seat.program ≡ Aside step next → GoesOn p v (Aside step next) → found_in step c.calls (taken m.answer) ≡ some found
      → P (event v m.answer (Aside step next)) (with_seat m.seat (next found) seat.hand c.words c.homes (record c { calls = calls_after step found c.calls })) vs

-- what a step aside found fits, where the moment does
pub found_fits : (p : Plan) (c : Core) (m : Moment) → IsFitting p c m → (seat : SeatState) → get_elem? c.seats m.seat ≡ some seat → (step : Step) (next : Found step → Program) (found : Found step)
    → first_step seat.program ≡ Aside step next → found_in step c.calls (taken m.answer) ≡ some found → FitsFound p step found
found_fits p c m fitting seat at_seat step next found is found_is = subst (FitsBeside p c m.answer) is (fitting seat at_seat) found found_is

-- ## The walk

-- what holds behind each kind of step of the seat, with what is told of it, holds behind the tick
module _ (p : Plan) (c : Core) (vs : List View) (m : Moment) (sound : Sound p c vs) (answered : IsAnswered c m) {E : Type 0} (event : View → Answer → Program → E) (nothing : E)
    (silent : (v : View) (a : Answer) (first : Program) → IsStill first → event v a first ≡ nothing) (P : E → Core → List View → Type 0)
    (nobody : get_elem? c.seats m.seat ≡ none → P nothing c vs) (still : (seat : SeatState) → get_elem? c.seats m.seat ≡ some seat → IsStill (first_step seat.program) → P nothing c vs) where
  -- a tick of the seat is its first step
  from_first : (seat : SeatState) (v : View) (program : Program) → P (event v m.answer (first_step program)) (step_with p m.seat seat c m.answer (first_step program)) (views_with p m.seat c vs v m.answer (first_step program))
      → P (event v m.answer (first_step program)) (tick_with p m.seat seat c m.answer program) (views_of p m.seat c vs v m.answer program)
  from_first seat v (Write w after) x = x
  from_first seat v _ x = x

  abbrev Behind : SeatState → View → Type 0
  Behind seat v = P (event v m.answer (first_step seat.program)) (tick_with p m.seat seat c m.answer seat.program) (views_of p m.seat c vs v m.answer seat.program)

  by_view : (seat : SeatState) → get_elem? c.seats m.seat ≡ some seat → ((v : View) → get_elem? vs m.seat ≡ some v → Behind seat v) → (q : Option View) → get_elem? vs m.seat ≡ q
      → P (elim q as (λ o. E) [ none ↦ nothing | some v ↦ event v m.answer (first_step seat.program) ]) (tick_with p m.seat seat c m.answer seat.program)
      (elim q as (λ o. List View) [ none ↦ vs | some v ↦ views_of p m.seat c vs v m.answer seat.program ])
  by_view seat at_seat all none e = absurd (beside c.seats vs m.seat seat sound.each at_seat e)
  by_view seat at_seat all (some v) e = all v e

  by_seat : ((seat : SeatState) (v : View) → get_elem? c.seats m.seat ≡ some seat → get_elem? vs m.seat ≡ some v → Behind seat v) → (q : Option SeatState) → get_elem? c.seats m.seat ≡ q
      → P (elim q as (λ o. E) [ none ↦ nothing | some seat ↦ elim (get_elem? vs m.seat) as (λ o. E) [ none ↦ nothing | some v ↦ event v m.answer (first_step seat.program) ] ])
      (elim q as (λ o. Core) [ none ↦ c | some seat ↦ tick_with p m.seat seat c m.answer seat.program ])
      (elim q as (λ o. List View) [ none ↦ vs | some seat ↦ elim (get_elem? vs m.seat) as (λ o. List View) [ none ↦ vs | some v ↦ views_of p m.seat c vs v m.answer seat.program ] ])
  by_seat all none e = nobody e
  by_seat all (some seat) e = by_view seat e (λ v at_view. all seat v e at_view) (get_elem? vs m.seat) refl

  stays : (seat : SeatState) (v : View) (first : Program) → get_elem? c.seats m.seat ≡ some seat → first_step seat.program ≡ first → IsStill first → P (event v m.answer first) c vs
  stays seat v first at_seat is s = subst (λ e. P e c vs) (sym (silent v m.answer first s)) (still seat at_seat (subst IsStill (sym is) s))

  module _ (step : OnStep p c vs m event P) (message_ : OnMessage p c vs m event P) (home : OnHome p c vs m event P) (puts_home : OnPutHome p c vs m event P)
      (put : OnPut p c vs m event P) (ready : OnReady p c vs m event P) (aside : OnAside p c vs m event P) where
    by_first : (seat : SeatState) (v : View) → get_elem? c.seats m.seat ≡ some seat → get_elem? vs m.seat ≡ some v → (program : Program) → first_step seat.program ≡ program → GoesOn p v program
        → IsAnswer program m.answer → P (event v m.answer program) (step_with p m.seat seat c m.answer program) (views_with p m.seat c vs v m.answer program)
    by_first seat v at_seat at_view (Do call next) e g a = step seat v call next at_seat at_view e g
    by_first seat v at_seat at_view (TakeMessage q next) e g a = by_letter (message (λ (h : Home). h) c.homes q) refl
      where
        by_letter : (x : Option HeadedBytes) → message (λ (h : Home). h) c.homes q ≡ x
            → P (event v m.answer (TakeMessage q next)) (with_message p m.seat seat c q x (λ letter. next letter.0 letter.1)) (views_with_message p m.seat c vs v x)
        by_letter none is = stays seat v (TakeMessage q next) at_seat e tt
        by_letter (some letter) is = message_ seat v q next letter.0 letter.1 at_seat at_view e g (lies_there (get_elem? c.homes q) letter.0 letter.1 is)
    by_first seat v at_seat at_view (TakeHome k next) e g a = by_home (link_home (λ (h : Home). h) p c.homes k) refl
      where
        by_home : (x : Option (List ℕ × ℕ)) → link_home (λ (h : Home). h) p c.homes k ≡ x → P (event v m.answer (TakeHome k next)) (with_link p m.seat seat c k x next) (views_with_link p m.seat c vs v x)
        by_home none is = stays seat v (TakeHome k next) at_seat e tt
        by_home (some h) is = home seat v k next h.0 h.1 at_seat at_view e g is
    by_first seat v at_seat at_view (PutHome k n after) e g a = puts_home seat v k n after at_seat at_view e g
    by_first seat v at_seat at_view (PutBytes k asked bytes next) e g a =
        subst (λ (x : Answer). P (event v x (PutBytes k asked bytes next)) (step_with p m.seat seat c x (PutBytes k asked bytes next)) (views_with p m.seat c vs v x (PutBytes k asked bytes next))) (sym a.1)
        (put seat v k asked bytes next a.0 at_seat at_view e g a.1 a.2)
    by_first seat v at_seat at_view (AskReady k next) e g a =
        subst (λ (x : Answer). P (event v x (AskReady k next)) (step_with p m.seat seat c x (AskReady k next)) (views_with p m.seat c vs v x (AskReady k next))) (sym a.1) (ready seat v k next a.0 at_seat at_view e g a.1)
    by_first seat v at_seat at_view (Aside s next) e g a = by_found (found_in s c.calls (taken m.answer)) refl
      where
        by_found : (x : Option (Found s)) → found_in s c.calls (taken m.answer) ≡ x → P (event v m.answer (Aside s next)) (with_found p m.seat seat c s x next) vs
        by_found none is = stays seat v (Aside s next) at_seat e tt
        by_found (some found) is = aside seat v s next found at_seat at_view e g is
    by_first seat v at_seat at_view (Write w after) e g a = absurd (first_head seat.program (subst IsHead (sym e) tt))
    by_first seat v at_seat at_view (Round head next) e g a = absurd (first_head seat.program (subst IsHead (sym e) tt))
    by_first seat v at_seat at_view first e g a = stays seat v first at_seat e tt

    pub tick_does : P (told_of event nothing c vs m) (ticked p c m) (views_after p c vs m)
    tick_does = by_seat (λ seat v at_seat at_view. from_first seat v seat.program (by_first seat v at_seat at_view (first_step seat.program) refl
        (goes_first p v seat.program (sound.seats m.seat seat v at_seat at_view).goes_on) (answer_begins seat.program m.answer (answered seat at_seat)))) (get_elem? c.seats m.seat) refl

-- where nothing is told of a step
abbrev pub untold : View → Answer → Program → Unit {0}
untold v a first = tt

module _ (p : Plan) (c : Core) (vs : List View) (m : Moment) (sound : Sound p c vs) (answered : IsAnswered c m) (P : Core → List View → Type 0) (before : P c vs)
    (step : OnStep p c vs m untold (λ e. P)) (message_ : OnMessage p c vs m untold (λ e. P)) (home : OnHome p c vs m untold (λ e. P)) (puts_home : OnPutHome p c vs m untold (λ e. P))
    (put : OnPut p c vs m untold (λ e. P)) (ready : OnReady p c vs m untold (λ e. P)) (aside : OnAside p c vs m untold (λ e. P)) where
  pub tick_cases : P (ticked p c m) (views_after p c vs m)
  tick_cases = tick_does p c vs m sound answered untold tt (λ v a first s. refl) (λ e. P) (λ none_. before) (λ seat at_seat s. before) step message_ home puts_home put ready aside

-- ## Steps that change no word

-- what a seat goes on with behind such a step
abbrev pub ComesNext : Plan → Program → Program → Type 0
ComesNext p (TakeMessage q next) program = (heading : Heading) × (bytes : List ℕ) × (program ≡ next heading bytes) × (heading.label.place < 8 * p.operations) × (bytes ≢ [])
ComesNext p (TakeHome k next) program = (n : ℕ) × (program ≡ next n)
ComesNext p (PutHome k n after) program = program ≡ after
ComesNext p (PutBytes k asked bytes next) program = (answer : Put) × (program ≡ next answer) × FitsPut asked bytes answer
ComesNext p (AskReady k next) program = (answer : Ready) × (program ≡ next answer)
ComesNext p (Aside step next) program = (found : Found step) × (program ≡ next found) × FitsFound p step found
ComesNext p other program = ⊥

-- the view's rights are others, or the same
abbrev pub with_rights : View → List Right → View
with_rights v rights = record v { rights = rights }

pub right_rights : (v : View) (rs : List Right) (then_ : Right → Right) → (rights : List Right) × (by_right rs (λ r. with_right v (then_ r)) v ≡ with_rights v rights)
right_rights v [] then_ = (v.rights, refl)
right_rights v (r ∷ rs) then_ = ((with_right v (then_ r)).rights, refl)

pub put_rights : (v : View) (answer : Put) → (rights : List Right) × (took_bytes answer v ≡ with_rights v rights)
put_rights v (Took n) = right_rights v v.rights (λ r. put_right r n)
put_rights v Again = (v.rights, refl)
put_rights v Failed = (v.rights, refl)

-- where all but the steps on words and the moves without a right are taken as one, whatever right and link they leave the seat
module _ (p : Plan) (c : Core) (vs : List View) (m : Moment) (sound : Sound p c vs) (answered : IsAnswered c m) (fitting : IsFitting p c m) (P : Core → List View → Type 0) (before : P c vs) (step : OnStep p c vs m untold (λ e. P))
    (other : (seat : SeatState) (v : View) (program : Program) (rights : List Right) (hand : List Home) (hs : List (Option Home)) (a : Calls) → get_elem? c.seats m.seat ≡ some seat → get_elem? vs m.seat ≡ some v
    → ComesNext p (first_step seat.program) program → P (with_seat m.seat program hand c.words hs (record c { calls = a })) (set vs m.seat (with_rights v rights))) where
  any_right : (seat : SeatState) (v w : View) (program first : Program) (hand : List Home) (hs : List (Option Home)) → get_elem? c.seats m.seat ≡ some seat → get_elem? vs m.seat ≡ some v → first_step seat.program ≡ first → ComesNext p first program
      → (rights : List Right) × (w ≡ with_rights v rights) → P (with_seat m.seat program hand c.words hs c) (set vs m.seat w)
  any_right seat v w program first hand hs at_seat at_view is comes x = subst (λ u. P (with_seat m.seat program hand c.words hs c) (set vs m.seat u)) (sym x.1)
      (other seat v program x.0 hand hs c.calls at_seat at_view (subst (λ f. ComesNext p f program) (sym is) comes))

  pub tick_keeps_marks : P (ticked p c m) (views_after p c vs m)
  tick_keeps_marks = tick_cases p c vs m sound answered P before step
      (λ seat v q next heading bytes at_seat at_view is goes at_home. any_right seat v (took_message heading bytes v) (next heading bytes) (TakeMessage q next) seat.hand (set c.homes q none) at_seat at_view is
      (let label = sound.labels q heading bytes at_home in (heading, bytes, refl, label.0, label.1)) (right_rights v v.rights (λ r. taken_right r heading bytes)))
      (λ seat v k next took n at_seat at_view is goes at_home. any_right seat v (link_away v) (next n) (TakeHome k next) (lies_at c.homes (link_place p k) ++ seat.hand) (set c.homes (link_place p k) none) at_seat at_view is
      (n, refl) (right_rights v v.rights (λ r. record r { at_home = false })))
      (λ seat v k n after at_seat at_view is goes. any_right seat v (link_home_again v) after (PutHome k n after) (others_of seat.hand) (set c.homes (link_place p k) (first_of (onto_first (with_places n) seat.hand))) at_seat at_view is
      refl (right_rights v v.rights (λ r. record r { at_home = true })))
      (λ seat v k asked bytes next answer at_seat at_view is goes answer_is fits. any_right seat v (took_bytes answer v) (next answer) (PutBytes k asked bytes next) (onto_first (fed bytes answer) seat.hand) c.homes at_seat at_view is
      (answer, refl, fits) (put_rights v answer))
      (λ seat v k next answer at_seat at_view is goes answer_is. subst (λ ws. P (with_seat m.seat (next answer) seat.hand c.words c.homes c) ws) (set_again vs m.seat v at_view)
      (any_right seat v v (next answer) (AskReady k next) seat.hand c.homes at_seat at_view is (answer, refl) (v.rights, refl)))
      (λ seat v step next found at_seat at_view is goes found_is. subst (λ ws. P (with_seat m.seat (next found) seat.hand c.words c.homes (record c { calls = calls_after step found c.calls })) ws) (set_again vs m.seat v at_view)
      (other seat v (next found) v.rights seat.hand c.homes (calls_after step found c.calls) at_seat at_view (subst (λ f. ComesNext p f (next found)) (sym is) (found, refl, found_fits p c m fitting seat at_seat step next found is found_is))))
