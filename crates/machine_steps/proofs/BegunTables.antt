-- The tables before their first step.
use Rattle.std.proofs.Common.{append-nil, append_assoc, ◌≡◌, refl, ℕ, zero, suc, ◌+◌, false, List, [], ◌∷◌, ◌++◌, map, length, take, drop, replicate, Option, None, ap, ap₂, sym, ◌∙◌, arith, subst}
use Rattle.std.specs.List.{AllByRecursion}
use Rattle.sock_words.specs.declared.outcome.Outcome.{Outcome}
use Rattle.seat_programs.specs.declared.task.Task.{Task}
use Rattle.seat_programs.specs.declared.task.Sizes.{Sizes}
use Rattle.seat_programs.specs.LoopHeads.{Retry}
use Rattle.seat_programs.specs.declared.task.Op.{Op}
use Rattle.seat_programs.specs.declared.task.Op.TheVariants as ops
use Rattle.seat_programs.specs.Programs.{Program, open_from}
use Rattle.seat_programs.specs.ReaderProgram.{reader}
use Rattle.seat_programs.specs.ClientProgram.{HeldLife, operation, client_from}
use Rattle.seat_programs.specs.Cores.{said, resolved, still_waiting, next_step}
use Rattle.seat_programs.specs.ScriptSetupToEnding.{free_slot, free_slots, programs, readers_from}
use Rattle.seat_states.specs.declared.point.Point.TheVariants as point
use Rattle.reader_seats.specs.ReaderState.{ReaderData, reader_program}
use Rattle.client_seats.specs.ClientSeatFollowing.{FollowsOn}
use Rattle.client_seats.specs.ClientSeatState.{SeatData, seat_program, client_of}
use Rattle.machine_model.specs.declared.home_message.HomeMessage.{HomeMessage}
use Rattle.machine_model.specs.MachineParts.{AreBegun, AreReading, said_first}
use Rattle.machine_model.specs.LetterHomes.{letters_in}
use Rattle.machine_model.proofs.MachineLengths.{length_said}
use Rattle.machine_steps.proofs.SeatBehindEachStep.{written}
use Rattle.brpc_model.proofs.GrowingLineByLine.{fold_more}

replicate_more : {A : Type 0} (n : ℕ) (x : A) → replicate n x ++ x ∷ [] ≡ replicate (n + 1) x
replicate_more zero x = refl
replicate_more (suc n) x = let e : suc n + 1 ≡ suc (n + 1) = omega arith in rw e (ap (λ (l : List _). x ∷ l) (replicate_more n x))

slots_last : (first n : ℕ) → free_slots first n ++ free_slot first ≡ free_slots first (n + 1)
slots_last first zero = sym (append-nil (free_slot first))
slots_last first (suc n) =
    let e : suc n + 1 ≡ suc (n + 1) = omega arith in
    rw e (append_assoc (free_slot first) (free_slots first n) (free_slot first) ∙ ap (λ (l : List ℕ). free_slot first ++ l) (slots_last first n))

pub slots_more : (xs ys : List ℕ) (first n : ℕ) → ys ≡ xs ++ free_slots first n → ys ++ free_slot first ≡ xs ++ free_slots first (n + 1)
slots_more xs ys first n e = ap (λ (l : List ℕ). l ++ free_slot first) e ∙ append_assoc xs (free_slots first n) (free_slot first) ∙ ap (λ (l : List ℕ). xs ++ l) (slots_last first n)

pub map_last : {A B : Type 0} (f : A → B) (xs : List A) (x : A) → map f (xs ++ x ∷ []) ≡ map f xs ++ f x ∷ []
map_last f [] x = refl
map_last f (y ∷ xs) x = ap (λ (l : List _). f y ∷ l) (map_last f xs x)

all_last : {A : Type 0} (P : A → Type 0) (xs : List A) (x : A) → AllByRecursion P xs → P x → AllByRecursion P (xs ++ x ∷ [])
all_last P [] x all here = (here, tt)
all_last P (y ∷ xs) x all here = (all.0, all_last P xs x all.1 here)

abbrev first_step : Program → Program
first_step program = next_step (resolved [] program)

-- one seat more
pub begun_more : (sizes : Sizes) (seats : List SeatData) (clients : List (List Task)) (seat : SeatData) (tasks : List Task) → AreBegun sizes seats clients →
    seat_program sizes seat ≡ next_step (resolved [] (client_from sizes [] tasks)) → seat.waiting ≡ [] → AreBegun sizes (seats ++ seat ∷ []) (clients ++ tasks ∷ [])
begun_more sizes seats clients seat tasks h e none_ = (
  map_last (seat_program sizes) seats seat
      ∙ (λ k. h.0 k ++ e k ∷ [])
      ∙ sym (ap (map first_step) (map_last (client_from sizes []) clients tasks) ∙ map_last first_step (programs sizes clients) (client_from sizes [] tasks)),
  all_last (λ (s : SeatData). s.waiting ≡ []) seats seat h.1 none_,
)

pub told_more : (sizes : Sizes) (os : List (Option Outcome)) (clients : List (List Task)) (tasks : List Task) → said_first os (programs sizes (clients ++ tasks ∷ [])) ≡ said (resolved [] (client_from sizes [] tasks)) (said_first os (programs sizes clients))
told_more sizes os clients tasks = ap (said_first os) (map_last (client_from sizes []) clients tasks)
    ∙ fold_more (λ (us : List (Option Outcome)) (program : Program). said (resolved [] program) us) os (programs sizes clients) (client_from sizes [] tasks)

-- a seat that has begun held nothing and kept no retry
pub begun_seat : (sizes : Sizes) (seat : SeatData) (held : List HeldLife) (waiting : List Retry) (tasks : List Task) → seat_program sizes seat ≡ next_step (resolved waiting (client_from sizes held tasks)) → held ≡ [] → waiting ≡ [] →
    seat_program sizes seat ≡ next_step (resolved [] (client_from sizes [] tasks))
begun_seat sizes seat held waiting tasks e f g = e ∙ ap₂ (λ (hs : List HeldLife) (w : List Retry). next_step (resolved w (client_from sizes hs tasks))) f g

-- ## A seat that goes on from nothing

-- where a client begins nothing is kept
open_still : (n i o name k : ℕ) (next : Program) → still_waiting [] (open_from n i o name k next) ≡ []
open_still zero i o name k next = refl
open_still (suc n) i o name k next = refl

still_none : (sizes : Sizes) (ts : List Task) → still_waiting [] (client_from sizes [] ts) ≡ []
still_none sizes [] = refl
still_none sizes (t ∷ ts) = by_op t.op (still_none sizes ts)
  where
    by_op : (op : Op) → still_waiting [] (client_from sizes [] ts) ≡ [] → still_waiting [] (operation sizes [] t.number (λ held. client_from sizes held ts) op) ≡ []
    by_op (ops.Open name k) later = open_still sizes.slots 0 t.number name k (client_from sizes [] ts)
    by_op (ops.Drop name) later = later
    by_op _ later = refl

abbrev pub new_seat : List Task → SeatData
new_seat ts = record { tasks = ts; leaving = false; held = []; ending = []; point = point.Rest; waiting = []; message = None; call = None; out = None }

-- it is before the first step of its client, and what needs no step was told
pub goes_first : (sizes : Sizes) (fresh went : SeatData) (ts : List Task) (os us : List (Option Outcome)) → fresh ≡ new_seat ts → FollowsOn sizes fresh went (client_of sizes fresh) os us →
    (seat_program sizes went ≡ next_step (resolved [] (client_from sizes [] ts))) × (went.waiting ≡ []) × (us ≡ said (resolved [] (client_from sizes [] ts)) os)
goes_first sizes fresh went ts os us is f = let g : FollowsOn sizes (new_seat ts) went (client_from sizes [] ts) os us = subst (λ (x : SeatData). FollowsOn sizes x went (client_of sizes x) os us) is f in
    (g.next, g.waiting ∙ still_none sizes ts, g.told)

-- ## Readers

readers_last : (calls : List ℕ) (k : ℕ) (os : List ℕ) (o : ℕ) → readers_from calls k (os ++ o ∷ []) ≡ readers_from calls k os ++ reader calls (k + length os) o ∷ []
readers_last calls k [] o = let e : k ≡ k + 0 = omega arith in ap (λ j. reader calls j o ∷ []) e
readers_last calls k (x ∷ os) o = let e : (k + 1) + length os ≡ k + suc (length os) = omega arith in ap (λ (l : List Program). reader calls k x ∷ l) (readers_last calls (k + 1) os o ∙ ap (λ j. readers_from calls (k + 1) os ++ reader calls j o ∷ []) e)

pub reading_more : (calls : List ℕ) (os : List ℕ) (o : ℕ) (rs : List ReaderData) (r : ReaderData) → AreReading calls os rs → reader_program calls r ≡ reader calls (length os) o → AreReading calls (os ++ o ∷ []) (rs ++ r ∷ [])
reading_more calls os o rs r are is = let e : length os ≡ 0 + length os = omega arith in
    map_last (reader_program calls) rs r ∙ ap₂ (λ (ps : List Program) (q : Program). ps ++ q ∷ []) are (is ∙ ap (λ j. reader calls j o) e) ∙ sym (readers_last calls 0 os o)

-- one more item of those that are left
pub item_last : {A B : Type 0} (f : A → B) (xs : List A) (x : A) (rest rest' all : List B) → rest ≡ f x ∷ rest' → map f xs ++ rest ≡ all → map f (xs ++ x ∷ []) ++ rest' ≡ all
item_last f xs x rest rest' all step is = ap (λ (l : List _). l ++ rest') (map_last f xs x) ∙ append_assoc (map f xs) (f x ∷ []) rest' ∙ ap (λ (l : List _). map f xs ++ l) (sym step) ∙ is

-- and where none is left these are all
pub none_left : {B : Type 0} (xs rest all : List B) → xs ++ rest ≡ all → length rest ≡ 0 → xs ≡ all
none_left xs [] all is none_ = sym (append-nil xs) ∙ is
none_left xs (y ∷ rest) all is none_ = absurd (omega (arith, none_))

-- there are as many outcomes behind it
pub told_length : (os : List (Option Outcome)) (ps : List Program) → length (said_first os ps) ≡ length os
told_length os [] = refl
told_length os (x ∷ ps) = told_length (said (resolved [] x) os) ps ∙ length_said (resolved [] x) os

-- what was written over all of a list
pub written_over : {A : Type 0} (n : ℕ) (xs ys : List A) → length xs ≡ n → take n (xs ++ drop (length xs) ys) ≡ xs
written_over n xs ys e = written n xs (drop (length xs) ys) e

-- homes without a message
pub none_in : (n : ℕ) → letters_in (replicate n None) ≡ replicate n None
none_in zero = refl
none_in (suc n) = ap (λ (l : List (Option HomeMessage)). None ∷ l) (none_in n)
