-- A tick of a seat, by the first step of its program.
use Rattle.std.proofs.Common.{◌≡◌, refl, ℕ, Bool, true, List, ◌++◌, slice_set, Some, ap, sym, ◌∙◌, subst}
use mathlib.Core.Option as core
use Rattle.sock_words.specs.declared.plain.Plan.{Plan}
use Rattle.sock_io.specs.declared.link.Put.{Put}
use Rattle.sock_io.specs.declared.link.Ready.{Ready}
use Rattle.sock_model.specs.declared.chain.Heading.{Heading}
use Rattle.sock_model.specs.declared.home.Home.{Home}
use Rattle.sock_model.specs.UnplacedMessages.{HeadedBytes}
use Rattle.sock_model.specs.ChainLawReads.{message, link_home}
use Rattle.seat_programs.specs.TableSteps.{TableStep}
use Rattle.seat_programs.specs.Asides as asides
use Rattle.seat_programs.specs.Asides.{Found}
use Rattle.seat_programs.specs.FoundAndChangedAside.{found_in, calls_after}
use Rattle.seat_programs.specs.LoopHeads.{Posts, Unlocks, Decides, Locks, Joins, Opens, Reads, Discards}
use Rattle.seat_programs.specs.Writings.{Puts, Waits, Empties, Reversing}
use Rattle.seat_programs.specs.Programs.{Program, Do, TakeMessage, TakeHome, PutHome, PutBytes, AskReady, Write, Aside, Round}
use Rattle.seat_programs.specs.Cores.{Core, SeatState, found_at, words_after, homes_after, hand_after, lies_at, first_of, others_of, link_place, with_seat}
use Rattle.seat_programs.specs.StepTables.{word_of, word_after}
use Rattle.seat_programs.specs.Ticks.{Answer, OfPut, OfReady, FitsPut, IsAnswer, IsTaken, taken, fed, with_places, onto_first, with_message, with_link, with_found, step_with, tick_with}
use Rattle.seat_states.specs.program_steps.proofs.TickCases.{ticks_first}
use Rattle.sock_io.specs.LinkHalves.{OutState}
use Rattle.call_points.specs.AsideCodeSteps.{after_word, word_behind}
use Rattle.seat_states.specs.declared.point.Point.{Point}
use Rattle.seat_states.specs.declared.point.Point.TheVariants as points
use Rattle.seat_states.specs.declared.point.SendStep.TheVariants as sends
use Rattle.seat_states.specs.declared.point.WriteStep.TheVariants as writes
use Rattle.seat_states.specs.declared.point.Author.{Author}
use Rattle.seat_states.specs.ProgramAtPoint.{Context, point_program, heading_by, TakesMessage, TakesLink, PutsHome, PutsPiece, Asks, after_message, after_link, after_home, after_put, after_ready, ready_behind}
use Rattle.seat_states.specs.ProgramStepsOfMachine.{First, OfTable, OfAside, OfMessage, OfLink, OfHome, first_in}
use Rattle.seat_states.specs.ProgramStepsOfMachine as kinds
use Rattle.machine_model.specs.MachineLinks.{IsClear, IsPaced}
use Rattle.seat_programs.specs.LoopRounds.{first_step}

pub same_some : {A : Type 0} {a b : A} → Some a ≡ Some b → a ≡ b
same_some e = cc

-- ## The first step

-- the first step of a program is the first of its first round
pub first_is : (program : Program) → first_in program ≡ kinds.first_of (first_step program)
first_is (Write w after) = refl
first_is (Round head next) = refl
first_is _ = refl

pub after_first : (program : Program) (found : ℕ) → after_word program found ≡ word_behind (first_step program) found
after_first (Write w after) found = refl
after_first (Round head next) found = refl
after_first _ found = refl

-- the program of a first step
abbrev pub IsStep : Program → First → Type 0
IsStep x (OfTable call) = (next : ℕ → Program) × (x ≡ Do call next)
IsStep x (OfAside step) = (next : Found step → Program) × (x ≡ Aside step next)
IsStep x (OfMessage q) = (next : Heading → List ℕ → Program) × (x ≡ TakeMessage q next)
IsStep x (OfLink k) = (next : ℕ → Program) × (x ≡ TakeHome k next)
IsStep x (OfHome k n) = (after : Program) × (x ≡ PutHome k n after)
IsStep x (kinds.OfPut k asked bytes) = (next : Put → Program) × (x ≡ PutBytes k asked bytes next)
IsStep x (kinds.OfReady k) = (next : Ready → Program) × (x ≡ AskReady k next)

is_step : (x : Program) (first : First) → kinds.first_of x ≡ Some first → IsStep x first
is_step (Do call next) first e = subst (IsStep (Do call next)) (same_some e) (next, refl)
is_step (Aside step next) first e = subst (IsStep (Aside step next)) (same_some e) (next, refl)
is_step (TakeMessage q next) first e = subst (IsStep (TakeMessage q next)) (same_some e) (next, refl)
is_step (TakeHome k next) first e = subst (IsStep (TakeHome k next)) (same_some e) (next, refl)
is_step (PutHome k n after) first e = subst (IsStep (PutHome k n after)) (same_some e) (after, refl)
is_step (PutBytes k asked bytes next) first e = subst (IsStep (PutBytes k asked bytes next)) (same_some e) (next, refl)
is_step (AskReady k next) first e = subst (IsStep (AskReady k next)) (same_some e) (next, refl)
is_step _ first e = cc

pub step_is : (program : Program) (first : First) → first_in program ≡ Some first → IsStep (first_step program) first
step_is program first e = is_step (first_step program) first (sym (first_is program) ∙ e)

-- ## Heads

-- links go home, and are asked, at the heads of loops alone
abbrev pub IsHead : Program → Type 0
IsHead (Write w after) = Unit {0}
IsHead other = ⊥

pub head_home : (a : Context) (p : Point) → PutsHome p → IsHead (point_program a p)
head_home a (points.Write w writes.PutHome) puts = tt
head_home a _ puts = absurd puts

pub head_asks : (a : Context) (p : Point) → Asks p → IsHead (point_program a p)
head_asks a (points.Write w (writes.Ask m)) asks = tt
head_asks a _ asks = absurd asks

-- behind the first step
abbrev home_behind' : Program → Program
home_behind' (PutHome j m y) = y
home_behind' other = other

pub home_first : (program : Program) (k n : ℕ) (after : Program) → IsHead program → first_step program ≡ PutHome k n after → after_home program ≡ after
home_first (Write w x) k n after head e = ap home_behind' e
home_first _ k n after head e = absurd head

pub ready_first : (program : Program) (k : ℕ) (next : Ready → Program) (ready : Ready) → IsHead program → first_step program ≡ AskReady k next → after_ready program ready ≡ next ready
ready_first (Write w x) k next ready head e = ap (λ (p : Program). ready_behind p ready) e
ready_first _ k next ready head e = absurd head

-- messages and links are taken, and pieces put, at no head
abbrev pub IsBare : Program → Type 0
IsBare (Write w after) = ⊥
IsBare (Round head next) = ⊥
IsBare other = Unit {0}

pub bare_message : (a : Context) (p : Point) → TakesMessage p → IsBare (point_program a p)
bare_message a (points.Send s (sends.TakeMessage q own k places)) takes = tt
bare_message a (points.Write w (writes.TakeMessage next)) takes = tt
bare_message a (points.Write w (writes.TakeFirst top at)) takes = tt
bare_message a _ takes = absurd takes

pub bare_link : (a : Context) (p : Point) → TakesLink p → IsBare (point_program a p)
bare_link a (points.Send s (sends.TakeHome q own k)) takes = tt
bare_link a (points.Write w (writes.TakeHome found)) takes = tt
bare_link a _ takes = absurd takes

pub bare_put : (a : Context) (p : Point) → PutsPiece p → IsBare (point_program a p)
bare_put a (points.Write w (writes.Put c asked)) puts = tt
bare_put a _ puts = absurd puts

-- it is its own first step
pub bare_first : (program : Program) → IsBare program → first_step program ≡ program
bare_first (Write w after) bare = absurd bare
bare_first (Round head next) bare = absurd bare
bare_first _ bare = refl

-- ## A tick

module _ (p : Plan) (i : ℕ) (s : SeatState) (c : Core) (program : Program) where
  abbrev Ticks : Answer → Core → Type 0
  Ticks answer d = tick_with p i s c answer program ≡ d

  by_step : (answer : Answer) (x : Program) (d : Core) → first_step program ≡ x → step_with p i s c answer x ≡ d → Ticks answer d
  by_step answer x d e f = ticks_first p i s c answer program ∙ ap (step_with p i s c answer) e ∙ f

  pub word_tick : (answer : Answer) (call : TableStep) → first_in program ≡ Some (OfTable call) → let found = found_at c.words (word_of p call) in
      Ticks answer (with_seat i (after_word program found) (hand_after p call c.homes s.hand) (words_after c.words (word_of p call) (word_after call found)) (homes_after p call s.hand c.homes) c)
  word_tick answer call e = let x = step_is program (OfTable call) e in let found = found_at c.words (word_of p call) in by_step answer (Do call x.0) _ x.1
      (ap (λ (q : Program). with_seat i q (hand_after p call c.homes s.hand) (words_after c.words (word_of p call) (word_after call found)) (homes_after p call s.hand c.homes) c)
      (sym (after_first program found ∙ ap (λ (y : Program). word_behind y found) x.1)))

  pub aside_tick : (answer : Answer) (step : asides.Step) (next : Found step → Program) (found : Found step) → first_step program ≡ Aside step next → found_in step c.calls (taken answer) ≡ core.some found →
      Ticks answer (with_seat i (next found) s.hand c.words c.homes (record c { calls = calls_after step found c.calls }))
  aside_tick answer step next found e f = by_step answer (Aside step next) _ e (ap (λ (o : core.Option (Found step)). with_found p i s c step o next) f)

  pub message_tick : (answer : Answer) (q : ℕ) (author : Author) (parts bytes : List ℕ) → first_in program ≡ Some (OfMessage q) → IsBare program → message (λ (home : Home). home) c.homes q ≡ core.some (heading_by author parts, bytes) →
      Ticks answer (with_seat i (after_message program author parts bytes) s.hand c.words (slice_set c.homes q core.none) c)
  message_tick answer q author parts bytes e bare at = let x = step_is program (OfMessage q) e in by_step answer (TakeMessage q x.0) _ x.1
      (ap (λ (o : core.Option HeadedBytes). with_message p i s c q o (λ letter. x.0 letter.0 letter.1)) at
      ∙ ap (λ (y : Program). with_seat i y s.hand c.words (slice_set c.homes q core.none) c) (sym (ap (λ (y : Program). after_message y author parts bytes) (sym (bare_first program bare) ∙ x.1))))

  pub link_tick : (answer : Answer) (k n : ℕ) (took : List ℕ) → first_in program ≡ Some (OfLink k) → IsBare program → link_home (λ (home : Home). home) p c.homes k ≡ core.some (took, n) →
      Ticks answer (with_seat i (after_link program n) (lies_at c.homes (link_place p k) ++ s.hand) c.words (slice_set c.homes (link_place p k) core.none) c)
  link_tick answer k n took e bare at = let x = step_is program (OfLink k) e in by_step answer (TakeHome k x.0) _ x.1
      (ap (λ (o : core.Option (List ℕ × ℕ)). with_link p i s c k o x.0) at
      ∙ ap (λ (y : Program). with_seat i y (lies_at c.homes (link_place p k) ++ s.hand) c.words (slice_set c.homes (link_place p k) core.none) c) (sym (ap (λ (y : Program). after_link y n) (sym (bare_first program bare) ∙ x.1))))

  pub home_tick : (answer : Answer) (k n : ℕ) → first_in program ≡ Some (OfHome k n) → IsHead program →
      Ticks answer (with_seat i (after_home program) (others_of s.hand) c.words (slice_set c.homes (link_place p k) (first_of (onto_first (with_places n) s.hand))) c)
  home_tick answer k n e head = let x = step_is program (OfHome k n) e in by_step answer (PutHome k n x.0) _ x.1
      (ap (λ (y : Program). with_seat i y (others_of s.hand) c.words (slice_set c.homes (link_place p k) (first_of (onto_first (with_places n) s.hand))) c) (sym (home_first program k n x.0 head x.1)))

  pub put_tick : (put : Put) (k : ℕ) (asked : Bool) (bytes : List ℕ) → first_in program ≡ Some (kinds.OfPut k asked bytes) → IsBare program →
      Ticks (OfPut put) (with_seat i (after_put program put) (onto_first (fed bytes put) s.hand) c.words c.homes c)
  put_tick put k asked bytes e bare = let x = step_is program (kinds.OfPut k asked bytes) e in by_step (OfPut put) (PutBytes k asked bytes x.0) _ x.1
      (ap (λ (y : Program). with_seat i y (onto_first (fed bytes put) s.hand) c.words c.homes c) (sym (ap (λ (y : Program). after_put y put) (sym (bare_first program bare) ∙ x.1))))

  pub ready_tick : (ready : Ready) (k : ℕ) → first_in program ≡ Some (kinds.OfReady k) → IsHead program → Ticks (OfReady ready) (with_seat i (after_ready program ready) s.hand c.words c.homes c)
  ready_tick ready k e head = let x = step_is program (kinds.OfReady k) e in by_step (OfReady ready) (AskReady k x.0) _ x.1
      (ap (λ (y : Program). with_seat i y s.hand c.words c.homes c) (sym (ready_first program k x.0 ready head x.1)))

-- ## Answers

-- what the link may answer in a tick of this first step
abbrev pub AnswersFirst : First → Answer → Type 0
AnswersFirst (OfAside (asides.TakeBytes k room)) answer = IsTaken room answer
AnswersFirst (kinds.OfPut k asked bytes) answer = (put : Put) × (answer ≡ OfPut put) × FitsPut asked bytes put
AnswersFirst (kinds.OfReady k) answer = (ready : Ready) × (answer ≡ OfReady ready)
AnswersFirst other answer = Unit {0}

answers_aside : (step : asides.Step) (next : Found step → Program) (answer : Answer) → AnswersFirst (OfAside step) answer → IsAnswer (Aside step next) answer
answers_aside (asides.TakeBytes k room) next answer a = a
answers_aside _ next answer a = tt

pub answers_first : (program : Program) (first : First) (answer : Answer) → first_in program ≡ Some first → AnswersFirst first answer → IsAnswer program answer
answers_first (PutBytes k asked bytes next) first answer e a = subst (λ (f : First). AnswersFirst f answer) (sym (same_some e)) a
answers_first (AskReady k next) first answer e a = subst (λ (f : First). AnswersFirst f answer) (sym (same_some e)) a
answers_first (Aside step next) first answer e a = answers_aside step next answer (subst (λ (f : First). AnswersFirst f answer) (sym (same_some e)) a)
answers_first (Write (Waits h now heading left taken) after) first answer e a = subst (λ (f : First). AnswersFirst f answer) (sym (same_some e)) a
answers_first (Write (Puts h now heading left taken asked) after) first answer e a = tt
answers_first (Write (Reversing h top place after) then_) first answer e a = tt
answers_first (Write (Empties h) after) first answer e a = tt
answers_first (Round (Reads r) next) first answer e a = subst (λ (f : First). AnswersFirst f answer) (sym (same_some e)) a
answers_first (Round (Discards k total) next) first answer e a = subst (λ (f : First). AnswersFirst f answer) (sym (same_some e)) a
answers_first (Round (Posts id x w) next) first answer e a = tt
answers_first (Round (Unlocks j w advance) next) first answer e a = tt
answers_first (Round (Decides id asked w x) next) first answer e a = tt
answers_first (Round (Locks j sought w) next) first answer e a = tt
answers_first (Round (Joins id) next) first answer e a = tt
answers_first (Round (Opens o) next) first answer e a = tt
answers_first _ first answer e a = tt

-- a put is as its seat is paced
pub paced_first : (outs : List OutState) (program : Program) (k : ℕ) (asked : Bool) (bytes : List ℕ) → first_in program ≡ Some (kinds.OfPut k asked bytes) → IsBare program → IsPaced outs program → asked ≡ true → IsClear outs k
paced_first outs program k asked bytes e bare paced = let x = step_is program (kinds.OfPut k asked bytes) e in subst (IsPaced outs) (sym (bare_first program bare) ∙ x.1) paced
