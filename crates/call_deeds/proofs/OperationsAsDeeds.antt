-- An operation of a client with calls, and a retry, as deeds of its seat of the sockets.
use Rattle.std.proofs.Common.{◌≡◌, ℕ, zero, suc, ◌+◌, ◌*◌, ◌<◌, ◌≤◌, Option, Some, None, List, [], ◌∷◌, ◌++◌, slice_get, zero-le, refl, ap, ◌∙◌, subst, arith}
use mathlib.Core.Option.{some}
use lib.ListN.{get_elem?}
use Rattle.sock_io.specs.declared.link.Out.{Ghosts}
use Rattle.sock_io.specs.LinkHalves.{OutState}
use Rattle.sock_words.specs.declared.outcome.Outcome.{Outcome}
use Rattle.sock_words.specs.declared.outcome.Outcome.TheVariants as outcome
use Rattle.sock_words.specs.declared.plain.Plan.{Plan}
use Rattle.sock_model.specs.declared.view.View.{View}
use Rattle.call_places.specs.Below.SockRule.Letter.{Letter}
use Rattle.call_places.specs.Below.SockTable.LinkPass.{LinkPass}
use Rattle.sock_message.specs.Asked.{Asked, name_of}
use Rattle.seat_programs.specs.declared.task.Op.{Op}
use Rattle.seat_programs.specs.declared.task.Op.TheVariants as ops
use Rattle.seat_programs.specs.declared.task.Task.{Task}
use Rattle.seat_programs.specs.Explained.{Became}
use Rattle.corr_core.specs.declared.marks.Plan as id_plan
use Rattle.call_places.specs.Below.RpcClient.Held.{Held}
use Rattle.call_places.specs.Below.RpcClient.OpenOutcomes.{OpenedBy}
use Rattle.call_places.specs.Below.CallErrors.Retry.{Retry}
use Rattle.call_places.specs.Below.CallAttempts.ClientAtBothTables.{Both}
use Rattle.call_places.specs.Below.CallAttempts.AttemptLetters.{letter_for}
use Rattle.call_places.specs.Below.CallAttempts.CallBeginning.{BegunAs}
use Rattle.call_places.specs.Below.CallAttempts.WaitingRetries.{WentTo, stray, unopened, to_socket, RetriedBy, had_ended, overtaken, went_again}
use Rattle.call_places.specs.Below.CallClient.ClientBetweenOperations.{Stand, both_of, letter_of, Acted}
use Rattle.call_places.specs.sock_deeds.specs.Deeds.{Hand, MessageBy, Did, opens, sends, holds, drops, fails, own_number, DoneBy}
use Rattle.call_places.specs.sock_deeds.specs.SocketTableRun.{IsOperation, of_send, of_call, IsFor, number_at, listed}
use Rattle.call_places.specs.sock_deeds.proofs.StepsOfDeeds.{Steps, no_step, one_step, steps_as}
use Rattle.call_deeds.specs.RetriedCalls.{Again, asked_by}
use Rattle.call_deeds.specs.ScriptsWithCalls.{IsLater}
use Rattle.call_deeds.proofs.MessageDeeds.{send_message, attempt_message}

-- what a client has of sockets
abbrev pub hand_of : {O : Type 0} {g : Ghosts O} → Stand g → Hand
hand_of s = record { view = s.me.0; held = s.held }

-- what is told of the operation is what became of it; of a send in any case; and a call of which nothing is told at once isn't unopened
abbrev pub IsSaid : List (List Task) → List (Option Outcome) → ℕ → Op → Option Outcome → Type 0
IsSaid clients outcomes number (ops.Send n bytes) by = slice_get outcomes number ≡ Some by
IsSaid clients outcomes number (ops.Call asked) by = ((o : Outcome) → by ≡ Some o → Became clients outcomes number o) × (by ≡ None → Became clients outcomes number outcome.Unopened → ⊥)
IsSaid clients outcomes number other by = (o : Outcome) → by ≡ Some o → Became clients outcomes number o

-- the pass that an `open` spends is that of its link, and a call has the number of its operation
abbrev pub IsRight : {O : Type 0} {g : Ghosts O} → ℕ → Op → Stand g → Stand g → Type 0
IsRight {O} {g} number (ops.Open n k) s t = (pass : LinkPass O g) → s.passes ≡ t.passes ++ pass ∷ [] → pass.link ≡ k
IsRight number (ops.Call asked) s t = asked.operation ≡ number
IsRight number other s t = Unit {0}

-- deeds that are done for tasks, each of client c's own or of a call that another client began
abbrev pub StepsFor : {O : Type 0} (g : Ghosts O) (state : O → OutState) (p : Plan) (clients : List (List Task)) (outcomes : List (Option Outcome)) (c : ℕ) → List ℕ → Hand → Hand → Type 0
StepsFor g state p clients outcomes c ns s t = Steps g state p (IsFor clients outcomes c) ns s t

-- what a client has between two retries
abbrev pub socks_in : List Held → Both → Hand
socks_in held s = record { view = s.socks; held = held }

label_of : (asked : Asked) (number n : ℕ) → asked.operation ≡ number → 8 * asked.operation + n ≡ 8 * number + n
label_of asked number n e = ap (λ x. 8 * x + n) e

own_later : (name number n : ℕ) (msg : Letter) (by : Option Outcome) → 0 < n → listed (own_number (sends name number n msg by)) ≡ []
own_later name number zero msg by later = absurd (omega arith)
own_later name number (suc n) msg by later = refl

module _ {O : Type 0} (g : Ghosts O) (state : O → OutState) (p : Plan) (q : id_plan.Plan) (clients : List (List Task)) (outcomes : List (Option Outcome)) (c : ℕ) where
  abbrev StepsHere : List ℕ → Hand → Hand → Type 0
  StepsHere ns s t = StepsFor g state p clients outcomes c ns s t

  one : (did : Did) (ns : List ℕ) (s t : Hand) (b : DoneBy g state p did s t) → IsFor clients outcomes c did → listed (own_number did) ≡ ns → StepsHere ns s t
  one did ns s t b is e = steps_as (listed (own_number did)) ns s t e (one_step (record { did = did; before = s; after = t; done = b }) is)

  -- ## Operations

  call_unopened : (number : ℕ) (asked : Asked) (s t : Stand g) → asked.operation ≡ number → IsOperation clients outcomes c number (ops.Call asked) → Became clients outcomes number outcome.Unopened
      → MessageBy state p (name_of asked 0) (letter_for asked 0 0 zero-le) (Some outcome.Unopened) s.me.0 t.me.0 → t.held ≡ s.held → StepsHere (number ∷ []) (hand_of s) (hand_of t)
  call_unopened number asked s t mine is said sent held = one (sends (name_of asked 0) number 0 (letter_for asked 0 0 zero-le) (Some outcome.Unopened)) (number ∷ []) (hand_of s) (hand_of t) (sent, held)
      (of_call c asked is (λ e. refl) zero-le refl refl (λ e. (λ f. said, λ f. refl)), label_of asked number 0 mine) refl

  call_begun : (number : ℕ) (asked : Asked) (id : ℕ) (s t : Stand g) → asked.operation ≡ number → IsOperation clients outcomes c number (ops.Call asked) → (Became clients outcomes number outcome.Unopened → ⊥) → BegunAs state p q asked id (both_of s) (both_of t) → t.held ≡ s.held → StepsHere (number ∷ []) (hand_of s) (hand_of t)
  call_begun number asked id s t mine is opened b held =
      let m = attempt_message state p q b.socket (letter_for asked id 0 zero-le) (name_of asked 0) s.me.0 b.at (both_of t) b.made_for.found b.attempted in
      one (sends (name_of asked 0) number 0 (letter_for asked id 0 zero-le) m.0) (number ∷ []) (hand_of s) (hand_of t) (m.2, held)
      (of_call c asked is (λ e. refl) zero-le refl refl (λ e. (λ f. absurd (m.1 f), λ f. absurd (opened f))), label_of asked number 0 mine) refl

  pub acted_steps : (number : ℕ) (op : Op) (by : Option Outcome) (s t : Stand g) → IsOperation clients outcomes c number op → IsSaid clients outcomes number op by → IsRight number op s t → Acted state p q number op by s t → StepsHere (number_at number op) (hand_of s) (hand_of t)
  acted_steps number (ops.Open n k) (Some by) s t is said right a =
      let same = right a.0.pass a.0.next in
      one (opens n number k by) (number ∷ []) (hand_of s) (hand_of t) ((s.me.1, t.me.1, subst (λ l. OpenedBy p n number l by s.me t.me) same a.0.opened), a.1, a.0.lists) (is, said by refl) refl
  acted_steps number (ops.Send n bytes) by s t is said right a =
      one (sends n number 0 (letter_of number bytes) by) (number ∷ []) (hand_of s) (hand_of t) (send_message state p q.slots (letter_of number bytes) n by s.me.0 s.calls t.me.0 t.calls a.0, a.1.held) (of_send bytes is refl refl said, refl) refl
  acted_steps number (ops.Call asked) (Some outcome.Unopened) s t is said right a = call_unopened number asked s t right is (said.0 outcome.Unopened refl) a.0.0 a.1.held
  acted_steps number (ops.Call asked) None s t is said right a = call_begun number asked a.0 s t right is (said.1 refl) a.1 a.2.held
  acted_steps number (ops.Expire o) (Some by) s t is said right a = no_step (hand_of s) (hand_of t) (λ i. record { view = (a.1 i).0; held = a.2.held i })
  acted_steps number (ops.Join o) (Some by) s t is said right a = no_step (hand_of s) (hand_of t) (λ i. record { view = (a.1 i).0; held = a.2.held i })
  acted_steps number (ops.Hold n) (Some by) s t is said right a = one (holds n number by) (number ∷ []) (hand_of s) (hand_of t) a.0 (is, said by refl) refl
  acted_steps number (ops.Drop n) (Some by) s t is said right a = one (drops n number by) (number ∷ []) (hand_of s) (hand_of t) a.0 (is, said by refl) refl
  acted_steps number (ops.Fail n code) (Some by) s t is said right a = one (fails n number code by) (number ∷ []) (hand_of s) (hand_of t) (a.0, a.1.held) (is, said by refl) refl
  acted_steps number _ _ s t is said right a = elim a [ ]

  -- ## Retries

  -- an attempt goes out
  again_step : (held : List Held) (asked : Asked) (id n : ℕ) (low : n ≤ 6) (by : Option Outcome) (v w : View) → IsLater clients outcomes record { asked = asked; attempt = n } → MessageBy state p (name_of asked n) (letter_for asked id n low) by v w → StepsHere [] record { view = v; held = held } record { view = w; held = held }
  again_step held asked id n low by v w is sent =
      let later = is.later in
      one (sends (name_of asked n) asked.operation n (letter_for asked id n low) by) [] record { view = v; held = held } record { view = w; held = held } (sent, refl)
      (of_call is.client asked is.is (λ e. absurd (omega arith)) low refl refl (λ e. absurd (omega arith)), refl) (own_later (name_of asked n) asked.operation n (letter_for asked id n low) by later)

  same_socks : (held : List Held) (s t : Both) → t.socks ≡ s.socks → StepsHere [] (socks_in held s) (socks_in held t)
  same_socks held s t e = no_step (socks_in held s) (socks_in held t) (ap (λ (v : View). record { view = v; held = held }) e)

  went_steps : (held : List Held) (asked : Asked) (id n : ℕ) (low : n ≤ 6) (s t : Both) → IsLater clients outcomes record { asked = asked; attempt = n } → WentTo state p q (name_of asked n) (letter_for asked id n low) s t → StepsHere [] (socks_in held s) (socks_in held t)
  went_steps held asked id n low s t is (stray a same c_) = same_socks held s t same
  went_steps held asked id n low s t is (unopened found c_) = again_step held asked id n low (Some outcome.Unopened) s.socks t.socks is found
  went_steps held asked id n low s t is (to_socket socket u found e a) = let m = attempt_message state p q socket (letter_for asked id n low) (name_of asked n) s.socks u t found a in again_step held asked id n low m.0 s.socks t.socks is m.2

  pub retry_steps : (held : List Held) (r : Retry) (s t : Both) (by : RetriedBy state p q r s t) → ((i : ℕ) (again : Again) → get_elem? (asked_by state p q r s t by) i ≡ some again → IsLater clients outcomes again) → StepsHere [] (socks_in held s) (socks_in held t)
  retry_steps held r s t (had_ended h) are = same_socks held s t h.socks
  retry_steps held r s t (overtaken k u l o) are = same_socks held s t (o.socks ∙ l.socks)
  retry_steps held r s t (went_again k u l w) are =
      subst (λ (v : View). StepsHere [] record { view = v; held = held } (socks_in held t)) l.socks
      (went_steps held k.content r.id r.attempt r.low (record { socks = u.socks; calls = record { view = w.view; books = u.calls.books } }) t (are 0 record { asked = k.content; attempt = r.attempt } refl) w.went)
