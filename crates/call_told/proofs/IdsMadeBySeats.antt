-- What is known of each id that a seat made: a client makes ids of its own calls alone, and whoever reads links makes none.
use Rattle.std.proofs.Common.{◌≡◌, ℕ, zero, suc, Bool, true, false, cond, eqb, List, [], ◌∷◌, refl, sym, ap, subst, arith}
use Rattle.std.specs.Prelude.{Option as Maybe}
use Rattle.std.specs.List.{AllByRecursion}
use mathlib.Core.Option.{some, some-injective, some-ne-none}
use lib.ListN.{get_elem?}
use Rattle.sock_io.specs.declared.link.Out.{Ghosts}
use Rattle.sock_io.specs.LinkHalves.{OutState}
use Rattle.sock_words.specs.declared.plain.Plan.{Plan}
use Rattle.seat_programs.specs.declared.task.Task.{Task}
use Rattle.corr_core.specs.IdSlotWord.{Parts, parts}
use Rattle.corr_core.specs.IdSlotLaw.{is_any_made}
use Rattle.corr_core.specs.declared.marks.Note.{Note}
use Rattle.corr_core.specs.declared.marks.Note.TheVariants.{Made, Attempt}
use Rattle.corr_core.specs.declared.marks.Noted.{Noted}
use Rattle.corr_core.specs.declared.marks.Plan as id_plan
use Rattle.corr_core.specs.declared.marks.View.{View}
use Rattle.id_rule.specs.LawfulIdTable.{notes_of}
use Rattle.sock_message.specs.Asked.{Asked}
use Rattle.corr_id.specs.declared.calls.IdLock.{IdLock}
use Rattle.corr_id.specs.declared.posts.Posted.{Posted}
use Rattle.corr_id.specs.declared.posts.Posted.TheVariants.{Locked as HasLock}
use Rattle.corr_id.specs.declared.unlocks.Unlocked.{Unlocked}
use Rattle.corr_id.specs.declared.unlocks.Unlocked.TheVariants.{Open, Next}
use Rattle.corr_id.specs.SeatBehindIdCalls.{is_event, events, one, advance_note}
use Rattle.corr_id.specs.Unlocks.{UnlockOk}
use Rattle.call_deeds.specs.Below.CallErrors.ClientBooks.{CallStand}
use Rattle.call_deeds.specs.Below.CallErrors.Handling.{Decided, ends as ends_by, starves, waits, goes_on}
use Rattle.call_deeds.specs.Below.CallErrors.PostedErrors.{Handled}
use Rattle.call_deeds.specs.Below.CallClient.Caller.{Caller}
use Rattle.call_deeds.specs.Below.CallClient.ClientRun.{RunBy}
use Rattle.call_deeds.specs.Below.CallClient.ClientCallChanges.{AsksFor, Sees, keeps, finds, makes, locks, unlocks, Changes, same, in_turn, sees, ends, decides, posts, wants, shelves, run_changes}
use Rattle.call_told.proofs.ListElementsByPlace.{all_both}
use Rattle.call_told.proofs.NotesStay.{NoneMade, Later, later_same, later_then, quiet_later, did_later, got_later, end_later, post_later}

-- ## Steps that make none

advance_none : (at : ℕ) (p q : Parts) → NoneMade (advance_note at p q)
advance_none at p q = elim (eqb p.attempt q.attempt) as (λ b. NoneMade (cond b [] (one at (Attempt p.first q.attempt)))) [ true ↦ tt | false ↦ (refl, tt) ]

unlock_later : (at : ℕ) (v w : View Asked) (word : Parts) (call : Asked) (advance : Bool) (answer : Unlocked Asked) → UnlockOk v w at word call advance answer → Later v w
unlock_later at v w word call advance Open u = did_later at v w _ (advance_note at word u.1) u.4 (advance_none at word u.1)
unlock_later at v w word call advance (Next l code attempt) u = did_later at v w _ (advance_note at word (parts l.word.0)) u.3 (advance_none at word (parts l.word.0))

decided_later : {s : CallStand} {k : IdLock Asked} {code : ℕ} {attempt : Maybe ℕ} {t : CallStand} → Decided s k code attempt t → Later s.view t.view
decided_later (ends_by s k code attempt t a b e) = end_later k.slot (parts k.word.0).first s.view t.view e.ended
decided_later (starves s k code attempt t a e) = end_later k.slot (parts k.word.0).first s.view t.view e.ended
decided_later (waits s k code attempt t a b e) = unlock_later k.slot s.view t.view (parts k.word.0) k.content true Open e.unlocked
decided_later (goes_on s k code attempt t u l next of a b e rest) = later_then s.view u.view t.view (unlock_later k.slot s.view u.view (parts k.word.0) k.content true (Next l next of) e.unlocked) (decided_later rest)

still_later : (s t : CallStand) → t ≡ s → Later s.view t.view
still_later s t e = later_same s.view t.view (ap (λ (y : CallStand). y.view.notes) e)

handled_later : (code : ℕ) (attempt : Maybe ℕ) (answer : Posted Asked) (s t : CallStand) → Handled code attempt answer s t → Later s.view t.view
handled_later code attempt (HasLock k) s t h = decided_later h
handled_later code attempt _ s t h = still_later s t h

-- ## What is known of a range and its call

module _ (P : ℕ → Asked → Type 0) where
  abbrev pub FitsMade : Note Asked → Type 0
  FitsMade (Made f r asked) = P r asked
  FitsMade _ = Unit {0}

  -- it is so of each id that was made
  abbrev pub AllMade : List (Noted Asked) → Type 0
  AllMade ns = AllByRecursion (λ (n : Noted Asked). FitsMade n.note) ns

  -- by the events that the seat noted
  abbrev pub SeatMade : View Asked → Type 0
  SeatMade v = AllMade (events v.notes)

  none_fits : (n : Note Asked) → is_any_made n ≡ 0 → FitsMade n
  none_fits (Made f r asked) e = absurd (omega (arith, e))
  none_fits _ e = tt

  none_fit : (ns : List (Noted Asked)) → NoneMade ns → AllMade ns
  none_fit [] h = tt
  none_fit (n ∷ ns) h = (none_fits n.note h.0, none_fit ns h.1)

  pub later_made : (v w : View Asked) → Later v w → SeatMade v → SeatMade w
  later_made v w l h = subst AllMade (sym l.more) (all_both (λ (n : Noted Asked). FitsMade n.note) l.added (events v.notes) (none_fit l.added l.none_made) h)

  -- ## A client

  module _ (xs : List Task) (own : (asked : Asked) → AsksFor xs asked → P asked.range asked) where
    sees_made : {v w : View Asked} → Sees xs v w → SeatMade v → SeatMade w
    sees_made (keeps v w place own_ word e) = later_made v w (later_same v w (ap (λ (y : View Asked). y.notes) e))
    sees_made (finds v w q) = later_made v w (quiet_later v w q)
    sees_made (makes v w slots id asked a m) = λ h. subst AllMade (sym m.did.added) (own asked a, h)
    sees_made (locks v w slots version k g) = later_made v w (got_later k.slot g.word (parts k.word.0) k.content v w g.got)
    sees_made (unlocks v w k advance answer u) = later_made v w (unlock_later k.slot v w (parts k.word.0) k.content advance answer u)

    changes_made : {s t : CallStand} → Changes xs s t → SeatMade s.view → SeatMade t.view
    changes_made (same s t e) = later_made s.view t.view (still_later s t e)
    changes_made (in_turn s u t a b) = λ h. changes_made b (changes_made a h)
    changes_made (sees s t v e) = sees_made v
    changes_made (ends s t k code e) = later_made s.view t.view (end_later k.slot (parts k.word.0).first s.view t.view e.ended)
    changes_made (decides s t k code attempt d) = later_made s.view t.view (decided_later d)
    changes_made (posts s t slots id code attempt p) = let x = p.1 in let u : CallStand = record { view = x.view; books = s.books } in
        later_made s.view t.view (later_then s.view x.view t.view (post_later slots s.view x.view id code attempt p.0 x.post) (handled_later code attempt p.0 u t x.handled))
    changes_made (wants s t e) = later_made s.view t.view (later_same s.view t.view (ap (λ (y : CallStand). y.view.notes) e))
    changes_made (shelves s t waiting e) = later_made s.view t.view (later_same s.view t.view (ap (λ (y : CallStand). y.view.notes) e))

  pub run_made : {O : Type 0} {g : Ghosts O} {state : O → OutState} {p : Plan} {q : id_plan.Plan} {short : Bool} {xs : List Task} (c d : Caller O g) → ((asked : Asked) → AsksFor xs asked → P asked.range asked) → RunBy state p q short xs c d
      → SeatMade c.calls.seat.me.0 → SeatMade d.calls.seat.me.0
  run_made {xs = xs} c d own r = changes_made xs own (run_changes c d r)

  -- ## All notes of a slot

  event_fits : (n : Note Asked) → is_event n ≡ false → FitsMade n
  event_fits (Made f r asked) e = let k : true ≡ false = e in absurd (cc)
  event_fits _ e = tt

  all_by : (n : Noted Asked) (ns : List (Noted Asked)) → (AllMade (events ns) → AllMade ns) → (b : Bool) → is_event n.note ≡ b → AllMade (cond b (n ∷ events ns) (events ns)) → AllMade (n ∷ ns)
  all_by n ns rest true e h = (h.0, rest h.1)
  all_by n ns rest false e h = (event_fits n.note e, rest h)

  pub all_made : (ns : List (Noted Asked)) → AllMade (events ns) → AllMade ns
  all_made [] h = tt
  all_made (n ∷ ns) h = all_by n ns (all_made ns) (is_event n.note) refl h

  pub events_made : (ns : List (Noted Asked)) → AllMade ns → AllMade (events ns)
  events_made [] h = tt
  events_made (n ∷ ns) h = elim (is_event n.note) as (λ b. AllMade (cond b (n ∷ events ns) (events ns))) [ true ↦ (h.0, events_made ns h.1) | false ↦ events_made ns h.1 ]

  slot_made : (slot : ℕ) (ns : List (Noted Asked)) → AllMade ns → AllByRecursion FitsMade (notes_of slot ns)
  slot_made slot [] h = tt
  slot_made slot (n ∷ ns) h = elim (eqb n.slot slot) as (λ b. AllByRecursion FitsMade (cond b (n.note ∷ notes_of slot ns) (notes_of slot ns))) [ true ↦ (h.0, slot_made slot ns h.1) | false ↦ slot_made slot ns h.1 ]

  -- of each that stands there
  pub made_fits : (slot : ℕ) (ns : List (Noted Asked)) → AllMade ns → (k f r : ℕ) (asked : Asked) → get_elem? (notes_of slot ns) k ≡ some (Made f r asked) → P r asked
  made_fits slot ns h k f r asked at = there (notes_of slot ns) k (slot_made slot ns h) at
    where
      there : (l : List (Note Asked)) (i : ℕ) → AllByRecursion FitsMade l → get_elem? l i ≡ some (Made f r asked) → P r asked
      there [] i a e = absurd (some-ne-none (Made f r asked) (sym e))
      there (x ∷ l) zero a e = subst FitsMade (some-injective x (Made f r asked) e) a.0
      there (x ∷ l) (suc i) a e = there l i a.1 e
