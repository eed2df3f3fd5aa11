-- Of a client's tasks that are done at the table of sockets each has one deed, in their order.
use Rattle.std.proofs.Common.{◌≡◌, ℕ, zero, suc, ◌<◌, ◌≤◌, List, [], ◌∷◌, length, slice_get, Option, Some, None, refl, sym, ap, ◌∙◌, arith}
use Rattle.std.proofs.lemmas.Option.{slice_get_within}
use mathlib.Core.Option.{some, some-injective, some-ne-none}
use lib.ListN.{get_elem?}
use Rattle.sock_io.specs.declared.link.Out.{Ghosts}
use Rattle.sock_io.specs.LinkHalves.{OutState}
use Rattle.sock_words.specs.declared.outcome.Outcome.{Outcome}
use Rattle.sock_words.specs.declared.plain.Plan.{Plan}
use Rattle.sock_words.specs.declared.place_word.PlaceWord.{PlaceWord}
use Rattle.sock_words.specs.declared.vref.Vref.{Vref}
use Rattle.seat_programs.specs.declared.task.Op.{Op}
use Rattle.seat_programs.specs.declared.task.Op.TheVariants as ops
use Rattle.seat_programs.specs.declared.task.Task.{Task}
use Rattle.seat_programs.specs.Explained.{IsTask}
use Rattle.outcome_ticks.proofs.TableTasksDistinct.{sorted_of}
use Rattle.outcome_ticks.proofs.SeatPartOfStory.{Less}
use Rattle.report_fits.specs.script_facts.proofs.FilteredLists.{has_from, before_at}
use Rattle.sock_deeds.specs.Deeds.{own_number, Deed}
use Rattle.sock_deeds.specs.SocketTableRun.{number_at, numbers_at, listed, numbers_of, Seated, DeedRun}
use Rattle.sock_deeds.proofs.Flats.{flat_from, flat_there, flat_rises, flat_places}
use Rattle.sock_deeds.proofs.ListPlaces.{to_slice, to_elem, place_low, place_there}

-- the operation is done at the table of sockets, or begins there
abbrev pub IsOnSockets : Op → Type 0
IsOnSockets (ops.Expire t) = ⊥
IsOnSockets (ops.Join t) = ⊥
IsOnSockets other = Unit {0}

at_sockets : (number : ℕ) (op : Op) → IsOnSockets op → get_elem? (number_at number op) 0 ≡ some number
at_sockets number (ops.Expire o) on = elim on [ ]
at_sockets number (ops.Join o) on = elim on [ ]
at_sockets number _ on = refl

only_number : (number j m : ℕ) → get_elem? (number ∷ []) j ≡ some m → m ≡ number
only_number number zero m e = sym (some-injective number m e)
only_number number (suc j) m e = absurd (some-ne-none m (sym e))

number_is : (number : ℕ) (op : Op) (j m : ℕ) → get_elem? (number_at number op) j ≡ some m → m ≡ number
number_is number (ops.Expire o) j m e = absurd (some-ne-none m (sym e))
number_is number (ops.Join o) j m e = absurd (some-ne-none m (sym e))
number_is number _ j m e = only_number number j m e

few_numbers : (t : Task) → length (numbers_at t) ≤ 1
few_numbers t = by_op t.op
  where
    by_op : (op : Op) → length (number_at t.number op) ≤ 1
    by_op (ops.Expire o) = omega arith
    by_op _ = omega arith

listed_is : (o : Option ℕ) (j m : ℕ) → get_elem? (listed o) j ≡ some m → o ≡ Some m
listed_is None j m e = absurd (some-ne-none m (sym e))
listed_is (Some x) zero m e = ap Some (some-injective x m e)
listed_is (Some x) (suc j) m e = absurd (some-ne-none m (sym e))

listed_there : (o : Option ℕ) (m : ℕ) → o ≡ Some m → get_elem? (listed o) 0 ≡ some m
listed_there o m e = ap (λ x. get_elem? (listed x) 0) e

module _ {O : Type 0} {g : Ghosts O} {state : O → OutState} {p : Plan} {clients : List (List Task)} {outcomes : List (Option Outcome)} {places : List PlaceWord} {vrefs : List Vref} {outs : List O} (run : DeedRun g state p clients outcomes places vrefs outs) where
  -- the tasks of a seat's client
  pub tasks_of : (c : ℕ) (y : Seated g state p) → get_elem? run.seats c ≡ some y → (ts : List Task) × (slice_get clients c ≡ Some ts)
  tasks_of c y at = let low = place_low run.seats c y at in let many = run.as_many in let w = place_there clients c (omega arith) in (w.0, to_slice clients c w.0 w.1)

  -- each task that is done there has its deed
  pub each_done : (c : ℕ) (t : Task) → IsTask clients outcomes c t → IsOnSockets t.op → (y : Seated g state p) × (k : ℕ) × (d : Deed g state p) × (get_elem? run.seats c ≡ some y) × (get_elem? y.deeds k ≡ some d) × (own_number d.did ≡ Some t.number)
  each_done c t is on =
      let h = has_from is.0 t is.2 in
      let low = slice_get_within clients c is.0 is.1 in
      let many = run.as_many in
      let y = place_there run.seats c (omega arith) in
      let m = flat_there numbers_at is.0 h.0 t 0 t.number (to_elem is.0 h.0 t h.1) (at_sockets t.number t.op on) in
      let d = flat_from numbers_of y.0.deeds m.0 t.number (ap (λ l. get_elem? l m.0) (run.numbered c y.0 is.0 y.1 is.1) ∙ m.1) in
      (y.0, d.0, d.1, y.1, d.2, listed_is (own_number d.1.did) d.3 t.number d.4)

  -- in the order of their numbers
  pub deeds_rise : (c j k m n : ℕ) (y : Seated g state p) (d e : Deed g state p) → get_elem? run.seats c ≡ some y → j < k → get_elem? y.deeds j ≡ some d → get_elem? y.deeds k ≡ some e → own_number d.did ≡ Some m → own_number e.did ≡ Some n → m < n
  deeds_rise c j k m n y d e at less dj ek dm en =
      let w = tasks_of c y at in
      let ts = w.0 in
      let numbered = run.numbered c y ts at w.1 in
      let f = flat_places numbers_of y.deeds j k 0 0 d e m n less dj ek (listed_there (own_number d.did) m dm) (listed_there (own_number e.did) n en) in
      let r = flat_rises numbers_at few_numbers ts f.0 f.1 m n f.2 (ap (λ l. get_elem? l f.0) (sym numbered) ∙ f.3) (ap (λ l. get_elem? l f.1) (sym numbered) ∙ f.4) in
      let t = r.2 in
      let u = r.3 in
      let a = number_is t.number t.op 0 m r.7 in
      let b = number_is u.number u.op 0 n r.8 in
      let lt = before_at Less ts (sorted_of p clients run.tasks c ts w.1) r.0 r.1 t u r.4 (to_slice ts r.0 t r.5) (to_slice ts r.1 u r.6) in
      omega arith
