-- Two runs of a script with calls by the same lines of a schedule end in one core, where each half of each of its links answered the same.
use Rattle.std.proofs.Common.{◌≡◌, ℕ, ◌⊎◌, inl, inr, Bool, cond, ◌==◌, eq-eqb, List, [], ◌∷◌, ◌++◌, length, take, drop, map, filter, flat_map, ap, sym, subst, refl, ◌∙◌, append-nil}
use Rattle.std.proofs.Math.Seq.{take-append_seam, drop-append_seam}
use Rattle.std.proofs.lemmas.List.Concat.{flat_map-append}
use Rattle.std.specs.List.{AllByRecursion}
use mathlib.Core.Option.{Option, some, none}
use mathlib.Core.List.{cons-ne-nil}
use lib.ListN.{get_elem?}
use Rattle.sock_words.specs.declared.plain.Plan.{Plan}
use Rattle.sock_io.specs.declared.link.Put.{Put}
use Rattle.sock_io.specs.declared.link.Put.TheVariants as puts
use Rattle.sock_io.specs.declared.link.Ready.{Ready}
use Rattle.sock_io.specs.declared.link.Ready.TheVariants as asks
use Rattle.sock_io.specs.LinkHalves.{of_put, of_ready}
use Rattle.brpc_model.specs.Items.{Item}
use Rattle.brpc_model.specs.Operations.{Turn}
use Rattle.brpc_model.specs.Report.{Report, report_text}
use Rattle.brpc_model.proofs.Unique.{only_report}
use Rattle.seat_programs.specs.Writings.{Puts, Waits, Empties, Reversing}
use Rattle.seat_programs.specs.Asides.{TakeBytes, Taking, Bytes, Nothing, NoMore, AtEnd, Closed, Broken}
use Rattle.seat_programs.specs.LoopHeads.{Reads, Discards}
use Rattle.seat_programs.specs.ReaderProgram.{room_of}
use Rattle.seat_programs.specs.Programs.{Program, PutBytes, AskReady, Write, Aside, Round}
use Rattle.seat_programs.specs.Cores.{Core, SeatState}
use Rattle.seat_programs.specs.Ticks.{Answer, Unasked, OfPut, OfReady, OfTake, Moment, ticked, run, asked_link, FitsTake, IsAnswer, IsAnswered, AreAnswered}
use Rattle.seat_programs.specs.ScheduledRuns.{Scheduled}
use Rattle.seat_programs.specs.Tasks.{plan_of}
use Rattle.seat_programs.specs.ScriptSetupToEnding.{IsRunWithCalls, Settles, set_up, opened, played, place_words, Reports}
use Rattle.run_theorems.specs.LinkAnswers.{said_at, said_in}
use Rattle.run_theorems.specs.Heard.{half_of, as_told, take_of, as_taken, taken_link, heard_in, taken_in, heard_of, taken_of, heard_takes, answer_of, bytes_found, take_answers, given_by}
use Rattle.run_theorems.proofs.TicksAlike.{Hears, same_first, same_others, said_on, SaidSame, EndAlike, in_parts, then_alike, one_schedule, one_settling}
use Rattle.run_theorems.proofs.OneRun.{one_rest, one_ending}

-- ## Halves

-- the writing half of a link, and its reading half
data Half : Type 0 where
  Writing : ℕ → Half
  Reading : ℕ → Half

abbrev hearing : Half → Program → List ℕ
hearing (Writing k) program = filter (λ (j : ℕ). j == k) (asked_link program)
hearing (Reading k) program = filter (λ (j : ℕ). j == k) (taken_link program)

own : (k : ℕ) → filter (λ (j : ℕ). j == k) (k ∷ []) ≡ k ∷ []
own k = ap (λ (b : Bool). cond b (k ∷ []) []) (eq-eqb k k refl)

-- each question is one to some half
hears : Hears Half hearing
hears (PutBytes k put bytes next) = inr (Writing k, k, [], own k)
hears (AskReady k next) = inr (Writing k, k, [], own k)
hears (Write (Waits h now heading left taken) after) = inr (Writing h.link, h.link, [], own h.link)
hears (Write (Puts h now heading left taken put) after) = inl refl
hears (Write (Empties h) after) = inl refl
hears (Write (Reversing h top at after) then_) = inl refl
hears (Aside (TakeBytes k room) next) = inr (Reading k, k, [], own k)
hears (Aside step next) = inl refl
hears (Round (Reads r) next) = inr (Reading r.link, r.link, [], own r.link)
hears (Round (Discards k total) next) = inr (Reading k, k, [], own k)
hears (Round head next) = inl refl
hears other = inl refl

-- ## The run

module _ (script : List Item) (turns : List Turn) (a b : Core) (h : IsRunWithCalls script turns a) (k : IsRunWithCalls script turns b) (same : (j : ℕ) → heard_of h j ≡ heard_of k j) (same_taken : (j : ℕ) → taken_of h j ≡ taken_of k j) where
  abbrev q : Plan
  q = plan_of script

  -- what is heard of each half behind the ending, and in the whole run
  abbrev behind : (core : Core) → IsRunWithCalls script turns core → Half → List Answer
  behind core r x = said_in (hearing x) (plan_of script) r.ended r.final

  whole : (x : Half) → said_in (hearing x) q (set_up script h.setup) (h.scheduled ++ h.later) ++ behind a h x ≡ said_in (hearing x) q (set_up script k.setup) (k.scheduled ++ k.later) ++ behind b k x
  whole (Writing j) = same j
  whole (Reading j) = same_taken j

  same_setup : set_up script h.setup ≡ set_up script k.setup
  same_setup = one_rest q 0 h.setup k.setup (opened script) h.is_set_up k.is_set_up

  -- the core in which both schedules begin, and that in which they end
  abbrev begun : Core
  begun = set_up script k.setup

  abbrev scheduled : Core
  scheduled = run q begun k.scheduled

  before : SaidSame Half hearing hears q begun (h.scheduled ++ h.later) (k.scheduled ++ k.later) (behind a h) (behind b k)
  before x = subst (λ (c : Core). said_in (hearing x) q c (h.scheduled ++ h.later) ++ behind a h x ≡ said_in (hearing x) q begun (k.scheduled ++ k.later) ++ behind b k x) same_setup (whole x)

  by_schedule : EndAlike Half hearing hears q begun h.scheduled k.scheduled (λ x. said_in (hearing x) q (run q begun h.scheduled) h.later ++ behind a h x) (λ x. said_in (hearing x) q scheduled k.later ++ behind b k x)
  by_schedule = one_schedule Half hearing hears q turns begun h.scheduled k.scheduled _ _ (subst (λ (c : Core). Scheduled q c turns h.scheduled) same_setup h.by_schedule) k.by_schedule
      (in_parts Half hearing hears q begun (h.scheduled ++ h.later) h.scheduled h.later (k.scheduled ++ k.later) k.scheduled k.later (behind a h) (behind b k) refl refl before)

  to_scheduled : played script h.setup h.scheduled ≡ scheduled
  to_scheduled = ap (λ (c : Core). run q c h.scheduled) same_setup ∙ by_schedule.0

  to_ending : EndAlike Half hearing hears q begun (h.scheduled ++ h.later) (k.scheduled ++ k.later) (behind a h) (behind b k)
  to_ending = then_alike Half hearing hears q begun (h.scheduled ++ h.later) h.scheduled h.later (k.scheduled ++ k.later) k.scheduled k.later (behind a h) (behind b k) refl refl by_schedule
      (λ e. one_settling Half hearing hears script scheduled h.later k.later (behind a h) (behind b k) (subst (λ (c : Core). Settles script c h.later) to_scheduled h.settles) k.settles e)

  same_ended : h.ended ≡ k.ended
  same_ended = one_ending script turns a b h k (ap (λ (c : Core). run q c (h.scheduled ++ h.later)) same_setup ∙ to_ending.0)

  behind_ending : SaidSame Half hearing hears q k.ended h.final k.final (λ x. []) (λ x. [])
  behind_ending x = append-nil _ ∙ ap (λ (c : Core). said_in (hearing x) q c h.final) (sym same_ended) ∙ to_ending.1 x ∙ sym (append-nil _)

  pub one_run_heard : a ≡ b
  one_run_heard = h.is_end ∙ ap (λ (c : Core). run q c h.final) same_ended
      ∙ (one_settling Half hearing hears script k.ended h.final k.final (λ x. []) (λ x. []) (subst (λ (c : Core). Settles script c h.final) same_ended h.settles_again) k.settles_again behind_ending).0
      ∙ sym k.is_end

-- ## More ticks

pub heard_on : (p : Plan) (c : Core) (xs ys : List Moment) (k : ℕ) → heard_in p c (xs ++ ys) k ≡ heard_in p c xs k ++ heard_in p (run p c xs) ys k
heard_on p c xs ys k = said_on (λ program. filter (λ (j : ℕ). j == k) (asked_link program)) p c xs ys

pub taken_on : (p : Plan) (c : Core) (xs ys : List Moment) (k : ℕ) → taken_in p c (xs ++ ys) k ≡ taken_in p c xs k ++ taken_in p (run p c xs) ys k
taken_on p c xs ys k = said_on (λ program. filter (λ (j : ℕ). j == k) (taken_link program)) p c xs ys

pub told_append : (xs ys : List Answer) → as_told (xs ++ ys) ≡ as_told xs ++ as_told ys
told_append xs ys = flat_map-append half_of xs ys

pub taken_append : (xs ys : List Answer) → as_taken (xs ++ ys) ≡ as_taken xs ++ as_taken ys
taken_append xs ys = flat_map-append take_of xs ys

-- ## What is told says what was answered

-- where each thing is told by one word, and no other thing by the same
abbrev IsWord : {A B : Type 0} → (A → List B) → A → Type 0
IsWord {A} {B} g x = (w : B) × (g x ≡ w ∷ [])

word_parts : {A B : Type 0} (g : A → List B) (x y : A) (s t : List B) → IsWord g x → IsWord g y → g x ++ s ≡ g y ++ t → (g x ≡ g y) × (s ≡ t)
word_parts {A} {B} g x y s t v w e =
    let same : v.0 ∷ s ≡ w.0 ∷ t = ap (λ (l : List B). l ++ s) (sym v.1) ∙ e ∙ ap (λ (l : List B). l ++ t) w.1 in
    (v.1 ∙ ap (λ (z : B). z ∷ []) (same_first v.0 w.0 s t same) ∙ sym w.1, same_others v.0 w.0 s t same)

no_word : {A B : Type 0} (g : A → List B) (x : A) (s : List B) → IsWord g x → g x ++ s ≡ [] → ⊥
no_word {A} {B} g x s v e = cons-ne-nil v.0 s (ap (λ (l : List B). l ++ s) (sym v.1) ∙ e)

module _ {A B : Type 0} (g : A → List B) (P : A → Type 0) (word : (x : A) → P x → IsWord g x) (apart : (x y : A) → P x → P y → g x ≡ g y → x ≡ y) where
  same_words : (xs ys : List A) → AllByRecursion P xs → AllByRecursion P ys → flat_map g xs ≡ flat_map g ys → xs ≡ ys
  same_words [] [] h k e = refl
  same_words [] (y ∷ ys) h k e = absurd (no_word g y (flat_map g ys) (word y k.0) (sym e))
  same_words (x ∷ xs) [] h k e = absurd (no_word g x (flat_map g xs) (word x h.0) e)
  same_words (x ∷ xs) (y ∷ ys) h k e =
      let parts = word_parts g x y (flat_map g xs) (flat_map g ys) (word x h.0) (word y k.0) e in
      ap (λ (z : A). z ∷ xs) (apart x y h.0 k.0 parts.0) ∙ ap (λ (l : List A). y ∷ l) (same_words xs ys h.1 k.1 parts.1)

-- ## A half that is asked answers

both : {A : Type 0} (P : A → Type 0) (xs ys : List A) → AllByRecursion P xs → AllByRecursion P ys → AllByRecursion P (xs ++ ys)
both P [] ys h k = k
both P (x ∷ xs) ys h k = (h.0, both P xs ys h.1 k)

all_one : (P : Answer → Type 0) (ks : List ℕ) (a : Answer) → P a → AllByRecursion P (map (λ (k : ℕ). a) ks)
all_one P [] a one = tt
all_one P (k ∷ ks) a one = (one, all_one P ks a one)

module _ (P : Answer → Type 0) (asks : Program → List ℕ) (one : (program : Program) (a : Answer) → IsAnswer program a → AllByRecursion P (map (λ (k : ℕ). a) (asks program))) where
  all_at : (c : Core) (m : Moment) → IsAnswered c m → AllByRecursion P (said_at asks c m)
  all_at c m answered = by_seat (get_elem? c.seats m.seat) answered
    where
      by_seat : (o : Option SeatState) → ((seat : SeatState) → o ≡ some seat → IsAnswer seat.program m.answer) → AllByRecursion P (elim o as (λ o. List Answer) [ none ↦ [] | some seat ↦ map (λ (k : ℕ). m.answer) (asks seat.program) ])
      by_seat none h = tt
      by_seat (some seat) h = one seat.program m.answer (h seat refl)

  all_in : (p : Plan) (c : Core) (ms : List Moment) → AreAnswered p c ms → AllByRecursion P (said_in asks p c ms)
  all_in p c [] answered = tt
  all_in p c (m ∷ ms) answered = both P (said_at asks c m) (said_in asks p (ticked p c m) ms) (all_at c m answered.0) (all_in p (ticked p c m) ms answered.1)

  -- so it is with what it answered in a run, before the ending and behind it
  all_of : (script : List Item) (turns : List Turn) (core : Core) (r : IsRunWithCalls script turns core) →
      AllByRecursion P (said_in asks (plan_of script) (set_up script r.setup) (r.scheduled ++ r.later) ++ said_in asks (plan_of script) r.ended r.final)
  all_of script turns core r = let p : Plan = plan_of script in both P (said_in asks p (set_up script r.setup) (r.scheduled ++ r.later)) (said_in asks p r.ended r.final)
      (all_in p (set_up script r.setup) (r.scheduled ++ r.later) r.answered) (all_in p r.ended r.final r.answered_again)

-- what a reading half can answer to a take
abbrev IsOfLink : Taking → Type 0
IsOfLink NoMore = ⊥
IsOfLink other = Unit {0}

of_link : (room : ℕ) (t : Taking) → FitsTake room t → IsOfLink t
of_link room NoMore h = h
of_link room _ h = tt

-- an answer of a writing half, and one of a reading half
abbrev IsHalf : Answer → Type 0
IsHalf a = ((put : Put) × (a ≡ OfPut put)) ⊎ ((ready : Ready) × (a ≡ OfReady ready))

abbrev IsTake : Answer → Type 0
IsTake a = (taking : Taking) × (a ≡ OfTake taking) × IsOfLink taking

halves : (k : ℕ) (program : Program) (a : Answer) → IsAnswer program a → AllByRecursion IsHalf (map (λ (j : ℕ). a) (filter (λ (j : ℕ). j == k) (asked_link program)))
halves k (PutBytes j put bytes next) a h = all_one IsHalf (filter (λ (i : ℕ). i == k) (j ∷ [])) a (inl (h.0, h.1))
halves k (AskReady j next) a h = all_one IsHalf (filter (λ (i : ℕ). i == k) (j ∷ [])) a (inr (h.0, h.1))
halves k (Write (Waits h now heading left taken) after) a answered = all_one IsHalf (filter (λ (i : ℕ). i == k) (h.link ∷ [])) a (inr (answered.0, answered.1))
halves k (Write (Puts h now heading left taken put) after) a answered = tt
halves k (Write (Empties h) after) a answered = tt
halves k (Write (Reversing h top at after) then_) a answered = tt
halves k other a h = tt

takes : (k : ℕ) (program : Program) (a : Answer) → IsAnswer program a → AllByRecursion IsTake (map (λ (j : ℕ). a) (filter (λ (j : ℕ). j == k) (taken_link program)))
takes k (Aside (TakeBytes j room) next) a h = all_one IsTake (filter (λ (i : ℕ). i == k) (j ∷ [])) a (h.0, h.1, of_link room h.0 h.2)
takes k (Aside step next) a h = tt
takes k (Round (Reads r) next) a h = all_one IsTake (filter (λ (i : ℕ). i == k) (r.link ∷ [])) a (h.0, h.1, of_link (room_of r.total) h.0 h.2)
takes k (Round (Discards j total) next) a h = all_one IsTake (filter (λ (i : ℕ). i == k) (j ∷ [])) a (h.0, h.1, of_link (room_of total) h.0 h.2)
takes k (Round head next) a h = tt
takes k other a h = tt

-- ## The words of a writing half

same_put : (x y : Put) → of_put x ≡ of_put y → x ≡ y
same_put (puts.Took n) (puts.Took m) e = ap puts.Took (let same : n ≡ m = cc in same)
same_put puts.Again puts.Again e = refl
same_put puts.Failed puts.Failed e = refl
same_put x y e = absurd (cc)

same_ready : (x y : Ready) → of_ready x ≡ of_ready y → x ≡ y
same_ready asks.Now asks.Now e = refl
same_ready asks.NotYet asks.NotYet e = refl
same_ready asks.Failed asks.Failed e = refl
same_ready x y e = absurd (cc)

put_not_ready : (x : Put) (y : Ready) → of_put x ≡ of_ready y → ⊥
put_not_ready (puts.Took n) asks.Now e = cc
put_not_ready (puts.Took n) asks.NotYet e = cc
put_not_ready (puts.Took n) asks.Failed e = cc
put_not_ready puts.Again asks.Now e = cc
put_not_ready puts.Again asks.NotYet e = cc
put_not_ready puts.Again asks.Failed e = cc
put_not_ready puts.Failed asks.Now e = cc
put_not_ready puts.Failed asks.NotYet e = cc
put_not_ready puts.Failed asks.Failed e = cc

not_unasked : IsHalf Unasked → ⊥
not_unasked (inl (put, e)) = cc
not_unasked (inr (ready, e)) = cc

not_take : (t : Taking) → IsHalf (OfTake t) → ⊥
not_take t (inl (put, e)) = cc
not_take t (inr (ready, e)) = cc

half_word : (a : Answer) → IsHalf a → IsWord half_of a
half_word Unasked h = absurd (not_unasked h)
half_word (OfPut put) h = (of_put put, refl)
half_word (OfReady ready) h = (of_ready ready, refl)
half_word (OfTake t) h = absurd (not_take t h)

half_apart : (a b : Answer) → IsHalf a → IsHalf b → half_of a ≡ half_of b → a ≡ b
half_apart (OfPut x) (OfPut y) h k e = ap OfPut (same_put x y (same_first (of_put x) (of_put y) [] [] e))
half_apart (OfReady x) (OfReady y) h k e = ap OfReady (same_ready x y (same_first (of_ready x) (of_ready y) [] [] e))
half_apart (OfPut x) (OfReady y) h k e = absurd (put_not_ready x y (same_first (of_put x) (of_ready y) [] [] e))
half_apart (OfReady x) (OfPut y) h k e = absurd (put_not_ready y x (sym (same_first (of_ready x) (of_put y) [] [] e)))
half_apart Unasked b h k e = absurd (not_unasked h)
half_apart (OfTake t) b h k e = absurd (not_take t h)
half_apart a Unasked h k e = absurd (not_unasked k)
half_apart a (OfTake t) h k e = absurd (not_take t k)

-- ## Those of a reading half

take_word : (a : Answer) → IsTake a → IsWord take_of a
take_word a (t, e, own_) = (t, ap take_of e)

take_apart : (a b : Answer) → IsTake a → IsTake b → take_of a ≡ take_of b → a ≡ b
take_apart a b (t, e, own_) (u, f, own_') same = e ∙ ap OfTake (same_first t u [] [] (sym (ap take_of e) ∙ same ∙ ap take_of f)) ∙ sym f

-- ## As the links tell it

-- runs of whose links the writing halves tell the same, and the reading halves, end in one core
pub one_run_told : (script : List Item) (turns : List Turn) (a b : Core) (h : IsRunWithCalls script turns a) (k : IsRunWithCalls script turns b) →
    ((j : ℕ) → as_told (heard_of h j) ≡ as_told (heard_of k j)) → ((j : ℕ) → heard_takes h j ≡ heard_takes k j) → a ≡ b
one_run_told script turns a b h k same same_taken =
    let written : (j : ℕ) → Program → List ℕ = λ j program. filter (λ (i : ℕ). i == j) (asked_link program) in
    let read : (j : ℕ) → Program → List ℕ = λ j program. filter (λ (i : ℕ). i == j) (taken_link program) in
    one_run_heard script turns a b h k
    (λ j. same_words half_of IsHalf half_word half_apart (heard_of h j) (heard_of k j) (all_of IsHalf (written j) (halves j) script turns a h) (all_of IsHalf (written j) (halves j) script turns b k) (same j))
    (λ j. same_words take_of IsTake take_word take_apart (taken_of h j) (taken_of k j) (all_of IsTake (read j) (takes j) script turns a h) (all_of IsTake (read j) (takes j) script turns b k) (same_taken j))

-- so they have one text, where the same is said of what the links took
pub one_text_told : (script : List Item) (turns : List Turn) (a b : Core) (x y : Report) (took : List (List ℕ)) (r : IsRunWithCalls script turns a) (s : IsRunWithCalls script turns b) →
    Reports script a took x → Reports script b took y → ((j : ℕ) → as_told (heard_of r j) ≡ as_told (heard_of s j)) → ((j : ℕ) → heard_takes r j ≡ heard_takes s j) → report_text script x ≡ report_text script y
one_text_told script turns a b x y took r s h k same same_taken = let p : Plan = plan_of script in
    ap (report_text script) (only_report script a.outcomes (place_words p a.words) took x y h (subst (λ (c : Core). Reports script c took y) (sym (one_run_told script turns a b r s same same_taken)) k))

-- ## Takings by their answers and their bytes

answer_word : (x : Taking) → IsOfLink x → IsWord answer_of x
answer_word NoMore h = absurd h
answer_word _ h = (_, refl)

as_long : (x y : Taking) → IsOfLink x → IsOfLink y → answer_of x ≡ answer_of y → length (bytes_found x) ≡ length (bytes_found y)
as_long (Bytes x) (Bytes y) h k e = cc
as_long (Bytes x) NoMore h k e = absurd k
as_long (Bytes x) other h k e = absurd (cc)
as_long NoMore y h k e = absurd h
as_long x (Bytes y) h k e = absurd (cc)
as_long x y h k e = refl

same_taking : (x y : Taking) → IsOfLink x → IsOfLink y → answer_of x ≡ answer_of y → bytes_found x ≡ bytes_found y → x ≡ y
same_taking NoMore y h k e f = absurd h
same_taking x NoMore h k e f = absurd k
same_taking (Bytes x) (Bytes y) h k e f = ap Bytes f
same_taking Nothing Nothing h k e f = refl
same_taking AtEnd AtEnd h k e f = refl
same_taking Closed Closed h k e f = refl
same_taking Broken Broken h k e f = refl
same_taking x y h k e f = absurd (cc)

-- takes that were answered the same, and gave the same bytes, found the same
same_takings : (xs ys : List Taking) → AllByRecursion IsOfLink xs → AllByRecursion IsOfLink ys → take_answers xs ≡ take_answers ys → given_by xs ≡ given_by ys → xs ≡ ys
same_takings [] [] h k e f = refl
same_takings [] (y ∷ ys) h k e f = absurd (no_word answer_of y (take_answers ys) (answer_word y k.0) (sym e))
same_takings (x ∷ xs) [] h k e f = absurd (no_word answer_of x (take_answers xs) (answer_word x h.0) e)
same_takings (x ∷ xs) (y ∷ ys) h k e f =
    let parts = word_parts answer_of x y (take_answers xs) (take_answers ys) (answer_word x h.0) (answer_word y k.0) e in
    let long : length (bytes_found x) ≡ length (bytes_found y) = as_long x y h.0 k.0 parts.0 in
    let front : bytes_found x ≡ bytes_found y = sym (take-append_seam (bytes_found x) (given_by xs)) ∙ ap (take (length (bytes_found x))) f ∙ ap (λ (n : ℕ). take n (bytes_found y ++ given_by ys)) long ∙ take-append_seam (bytes_found y) (given_by ys) in
    let later : given_by xs ≡ given_by ys = sym (drop-append_seam (bytes_found x) (given_by xs)) ∙ ap (drop (length (bytes_found x))) f ∙ ap (λ (n : ℕ). drop n (bytes_found y ++ given_by ys)) long ∙ drop-append_seam (bytes_found y) (given_by ys) in
    ap (λ (z : Taking). z ∷ xs) (same_taking x y h.0 k.0 parts.0 front) ∙ ap (λ (l : List Taking). y ∷ l) (same_takings xs ys h.1 k.1 parts.1 later)

-- what the reading half of a link answered in a run
all_own : (answers : List Answer) → AllByRecursion IsTake answers → AllByRecursion IsOfLink (as_taken answers)
all_own [] h = tt
all_own (a ∷ answers) h = let own_ : AllByRecursion IsOfLink (h.0.0 ∷ as_taken answers) = (h.0.2, all_own answers h.1) in
    subst (λ (l : List Taking). AllByRecursion IsOfLink (l ++ as_taken answers)) (sym (ap take_of h.0.1)) own_

-- so takes of a link in two runs that were answered the same, and gave the same bytes, found the same
pub same_heard_takes : (script : List Item) (turns : List Turn) (a b : Core) (h : IsRunWithCalls script turns a) (k : IsRunWithCalls script turns b) (j : ℕ) →
    take_answers (heard_takes h j) ≡ take_answers (heard_takes k j) → given_by (heard_takes h j) ≡ given_by (heard_takes k j) → heard_takes h j ≡ heard_takes k j
same_heard_takes script turns a b h k j =
    let read : Program → List ℕ = λ program. filter (λ (i : ℕ). i == j) (taken_link program) in
    same_takings (heard_takes h j) (heard_takes k j) (all_own (taken_of h j) (all_of IsTake read (takes j) script turns a h)) (all_own (taken_of k j) (all_of IsTake read (takes j) script turns b k))
