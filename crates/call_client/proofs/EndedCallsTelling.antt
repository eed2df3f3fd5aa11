-- What a client tells by its run of calls that ended is what it ended: of each id as often, unless memory is wanting.
use Rattle.std.proofs.Common.{◌≡◌, inl, inr, ⊎_elim, ℕ, ◌+◌, Bool, true, false, cond, eqb, List, [], ◌∷◌, ◌++◌, refl, ap, ◌∙◌, arith}
use Rattle.std.specs.Prelude.{Option as Maybe}
use Rattle.sock_io.specs.declared.link.Out.{Ghosts}
use Rattle.sock_io.specs.LinkHalves.{OutState}
use Rattle.sock_words.specs.ErrorCodes.{EINTERNAL}
use Rattle.sock_words.specs.declared.plain.Plan.{Plan}
use Rattle.seat_programs.specs.declared.task.Task.{Task}
use Rattle.corr_core.specs.IdSlotWord.{Parts, parts}
use Rattle.corr_core.specs.IdSlotLaw.{is_ended}
use Rattle.corr_core.specs.declared.marks.Note.{Note}
use Rattle.corr_core.specs.declared.marks.Note.TheVariants.{Made, Locker, Attempt}
use Rattle.corr_core.specs.declared.marks.Noted.{Noted}
use Rattle.corr_core.specs.declared.marks.Plan as id_plan
use Rattle.corr_core.specs.declared.marks.Token.{Token}
use Rattle.corr_core.specs.declared.marks.View.{View}
use Rattle.id_rule.specs.LawfulIdTable.{notes_of}
use Rattle.sock_message.specs.Asked.{Asked}
use Rattle.corr_id.specs.declared.calls.IdLock.{IdLock}
use Rattle.corr_id.specs.declared.posts.Posted.{Posted}
use Rattle.corr_id.specs.declared.posts.Posted.TheVariants.{Locked as HasLock, Queued as IsQueued, Gone, Stale, Crowded}
use Rattle.corr_id.specs.declared.unlocks.Unlocked.TheVariants.{Open, Next}
use Rattle.corr_id.specs.SeatBehindIdCalls.{Did, Quiet, is_event, events, one, advance_note}
use Rattle.corr_id.proofs.IdSeatSplits.{total_append, notes_append}
use Rattle.call_errors.specs.ClientBooks.{Books, CallStand, stand_of, starving, Tells, told, lost}
use Rattle.call_errors.specs.CallEndsWithCode.{EndedWith, failed}
use Rattle.call_errors.specs.Handling.{Decided}
use Rattle.call_errors.specs.Handling as handling
use Rattle.call_errors.specs.PostedErrors.{Handled}
use Rattle.call_errors.proofs.Accounts.{told_ends, noted_ends, quiet_note, Accounts, accounts_ended, accounts_then, decided_accounts, posted_accounts}
use Rattle.call_client.specs.declared.caller.Caller.{Caller}
use Rattle.call_client.specs.ClientRun.{RunBy}
use Rattle.call_client.proofs.ClientCallChanges.{Sees, keeps, finds, makes, locks, unlocks, Changes, same, in_turn, sees, ends, decides, posts, wants, shelves, run_changes}
use Rattle.sock_words.specs.PackedWords.{id_slot, id_first}
use Rattle.sock_words.specs.Totals.{total}

-- ## Notes that are counted

-- a count to which only events add
module _ {C : Type 0} (g : Note C → ℕ) (silent : (n : Note C) → is_event n ≡ false → g n ≡ 0) where
  of_more : (i : ℕ) (n : Noted C) (ns : List (Noted C)) → total g (notes_of i (n ∷ ns)) ≡ cond (eqb n.slot i) (g n.note) 0 + total g (notes_of i ns)
  of_more i n ns = elim (eqb n.slot i) as (λ b. total g (cond b (n.note ∷ notes_of i ns) (notes_of i ns)) ≡ cond b (g n.note) 0 + total g (notes_of i ns)) [ true ↦ refl | false ↦ omega arith ]

  none_here : (b : Bool) (x : ℕ) → x ≡ 0 → cond b x 0 ≡ 0
  none_here true x e = e
  none_here false x e = refl

  event_or_not : (i : ℕ) (n : Noted C) (ns : List (Noted C)) → total g (notes_of i (events ns)) ≡ total g (notes_of i ns) → (b : Bool) → is_event n.note ≡ b
      → total g (notes_of i (cond b (n ∷ events ns) (events ns))) ≡ total g (notes_of i (n ∷ ns))
  event_or_not i n ns r true e = let a = of_more i n ns in let c = of_more i n (events ns) in omega arith
  event_or_not i n ns r false e = let a = of_more i n ns in let c = none_here (eqb n.slot i) (g n.note) (silent n.note e) in omega arith

  pub of_events : (i : ℕ) (ns : List (Noted C)) → total g (notes_of i (events ns)) ≡ total g (notes_of i ns)
  of_events i [] = refl
  of_events i (n ∷ ns) = event_or_not i n ns (of_events i ns) (is_event n.note) refl

  pub quiet_total : (v w : View C) → Quiet v w → (i : ℕ) → total g (notes_of i w.notes) ≡ total g (notes_of i v.notes)
  quiet_total v w q i = let a = of_events i w.notes in let b = of_events i v.notes in let c = ap (λ (l : List (Noted C)). total g (notes_of i l)) q.events_same in omega arith

  pub did_total : (at : ℕ) (v w : View C) (ts : List (Token C)) (es : List (Noted C)) → Did at v w ts es → (i : ℕ) → total g (notes_of i w.notes) ≡ total g (notes_of i es) + total g (notes_of i v.notes)
  did_total at v w ts es d i =
      let a = of_events i w.notes in let b = of_events i v.notes in
      let c : total g (notes_of i (events w.notes)) ≡ total g (notes_of i es ++ notes_of i (events v.notes)) = ap (λ (l : List (Noted C)). total g (notes_of i l)) d.added ∙ ap (total g) (notes_append i es (events v.notes)) in
      let e = total_append g (notes_of i es) (notes_of i (events v.notes)) in omega arith

  -- to which this note doesn't add
  pub none_of_one : (at : ℕ) (n : Note C) → g n ≡ 0 → (i : ℕ) → total g (notes_of i (one at n)) ≡ 0
  none_of_one at n z i = let a = of_more i (record { slot = at; note = n }) [] in let c = none_here (eqb at i) (g n) z in omega arith

-- ## No call ended by what the seat noted

did_ends : (at : ℕ) (v w : View Asked) (ts : List (Token Asked)) (es : List (Noted Asked)) → Did at v w ts es → ((i f : ℕ) → total (is_ended f) (notes_of i es) ≡ 0) → (i f : ℕ) → noted_ends i f w ≡ noted_ends i f v
did_ends at v w ts es d none i f = let a = did_total (is_ended f) (quiet_note f) at v w ts es d i in let b = none i f in omega arith

advance_ends : (at : ℕ) (p q : Parts) (i f : ℕ) → total (is_ended f) (notes_of i (advance_note {C = Asked} at p q)) ≡ 0
advance_ends at p q i f = elim (eqb p.attempt q.attempt) as (λ b. total (is_ended f) (notes_of i (cond b [] (one {C = Asked} at (Attempt p.first q.attempt)))) ≡ 0)
    [ true ↦ refl | false ↦ none_of_one (is_ended f) (quiet_note f) at (Attempt p.first q.attempt) refl i ]

sees_ends : {xs : List Task} {v w : View Asked} → Sees xs v w → (i f : ℕ) → noted_ends i f w ≡ noted_ends i f v
sees_ends (keeps v w place own word e) i f = ap (λ (y : View Asked). noted_ends i f y) e
sees_ends (finds v w q) i f = quiet_total (is_ended f) (quiet_note f) v w q i
sees_ends (makes v w slots id asked own m) i f = did_ends (id_slot id) v w _ _ m.did (λ j h. none_of_one (is_ended h) (quiet_note h) (id_slot id) (Made (id_first id) asked.range asked) refl j) i f
sees_ends (locks v w slots version k g) i f = did_ends k.slot v w _ _ g.got.did (λ j h. none_of_one (is_ended h) (quiet_note h) k.slot (Locker (parts k.word.0).first k.content) refl j) i f
sees_ends (unlocks v w k advance Open u) i f = did_ends k.slot v w _ _ u.4 (advance_ends k.slot (parts k.word.0) u.1) i f
sees_ends (unlocks v w k advance (Next l code attempt) u) i f = did_ends k.slot v w _ _ u.3 (advance_ends k.slot (parts k.word.0) (parts l.word.0)) i f

-- ## Where memory was wanting, it is

ended_starved : (k : IdLock Asked) (code : ℕ) (s t : CallStand) → EndedWith k code s t → s.books.starved ≡ true → t.books.starved ≡ true
ended_starved k code s t e h = by e.tells
  where
    by : Tells (failed k code) s.books t.books → t.books.starved ≡ true
    by (told is) = ap (λ (b : Books). b.starved) is ∙ h
    by (lost is) = ap (λ (b : Books). b.starved) is

decided_starved : {s : CallStand} {k : IdLock Asked} {code : ℕ} {attempt : Maybe ℕ} {t : CallStand} → Decided s k code attempt t → s.books.starved ≡ true → t.books.starved ≡ true
decided_starved (handling.ends s k code attempt t a b e) h = ended_starved k code s t e h
decided_starved (handling.starves s k code attempt t a e) h = ended_starved k EINTERNAL (record { view = s.view; books = starving s.books }) t e refl
decided_starved (handling.waits s k code attempt t a b e) h = ap (λ (y : Books). y.starved) e.kept ∙ h
decided_starved (handling.goes_on s k code attempt t u l next of a b e rest) h = decided_starved rest (ap (λ (y : Books). y.starved) e.kept ∙ h)

handled_starved : (code : ℕ) (attempt : Maybe ℕ) (answer : Posted Asked) (s t : CallStand) → Handled code attempt answer s t → s.books.starved ≡ true → t.books.starved ≡ true
handled_starved code attempt (HasLock k) s t d h = decided_starved d h
handled_starved code attempt IsQueued s t e h = ap (λ (y : CallStand). y.books.starved) e ∙ h
handled_starved code attempt (Gone found) s t e h = ap (λ (y : CallStand). y.books.starved) e ∙ h
handled_starved code attempt (Stale current) s t e h = ap (λ (y : CallStand). y.books.starved) e ∙ h
handled_starved code attempt (Crowded first second) s t e h = ap (λ (y : CallStand). y.books.starved) e ∙ h

changes_starved : {xs : List Task} {s t : CallStand} → Changes xs s t → s.books.starved ≡ true → t.books.starved ≡ true
changes_starved (same s t e) h = ap (λ (y : CallStand). y.books.starved) e ∙ h
changes_starved (in_turn s u t a b) h = changes_starved b (changes_starved a h)
changes_starved (sees s t v e) h = ap (λ (y : Books). y.starved) e ∙ h
changes_starved (ends s t k code e) h = ended_starved k code s t e h
changes_starved (decides s t k code attempt d) h = decided_starved d h
changes_starved (posts s t slots id code attempt p) h = handled_starved code attempt p.0 (record { view = p.1.view; books = s.books }) t p.1.handled h
changes_starved (wants s t e) h = ap (λ (y : CallStand). y.books.starved) e
changes_starved (shelves s t waiting e) h = ap (λ (y : CallStand). y.books.starved) e ∙ h

-- ## What ended is told

changes_accounts : {xs : List Task} {s t : CallStand} → Changes xs s t → Accounts s t
changes_accounts (same s t e) = inr (λ i f fl. let a = ap (λ (y : CallStand). told_ends i f y.books) e in let b = ap (λ (y : CallStand). noted_ends i f y.view) e in omega arith)
changes_accounts (in_turn s u t a b) = ⊎_elim (λ x. inl (changes_starved b x)) (λ h. accounts_then s u t h (changes_accounts b)) (changes_accounts a)
changes_accounts (sees s t v e) = inr (λ i f fl. let a = ap (told_ends i f) e in let b = sees_ends v i f in omega arith)
changes_accounts (ends s t k code e) = accounts_ended k code s t e
changes_accounts (decides s t k code attempt d) = decided_accounts d
changes_accounts (posts s t slots id code attempt p) = posted_accounts slots s id code attempt t p
changes_accounts (wants s t e) = inl (ap (λ (y : CallStand). y.books.starved) e)
changes_accounts (shelves s t waiting e) = inr (λ i f fl. let a = ap (λ (y : CallStand). told_ends i f y.books) e in let b = ap (λ (y : CallStand). noted_ends i f y.view) e in omega arith)

pub run_tells : {O : Type 0} {g : Ghosts O} {state : O → OutState} {p : Plan} {q : id_plan.Plan} {short : Bool} {xs : List Task} (c d : Caller O g) → RunBy state p q short xs c d → Accounts (stand_of c.calls) (stand_of d.calls)
run_tells c d r = changes_accounts (run_changes c d r)
