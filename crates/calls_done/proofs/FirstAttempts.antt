-- What became of the first attempt of each call, by what the seats did at the table of sockets.
use Rattle.std.proofs.Common.{◌≡◌, ℕ, ◌<◌, inl, inr, List, Option, Some, None, refl, sym, ◌∙◌, subst, arith}
use Rattle.seat_programs.specs.sock_io.specs.declared.link.Out.{Ghosts}
use Rattle.seat_programs.specs.sock_io.specs.LinkHalves.{OutState}
use Rattle.sock_words.specs.declared.outcome.Outcome.{Outcome}
use Rattle.sock_words.specs.declared.outcome.Outcome.TheVariants as outcome
use Rattle.sock_words.specs.declared.plain.Plan.{Plan}
use Rattle.sock_words.specs.declared.place_word.PlaceWord.{PlaceWord}
use Rattle.sock_words.specs.declared.vref.Vref.{Vref}
use Rattle.sock_words.specs.PackedWords.{vref_version}
use Rattle.sock_message.specs.Asked.{Asked, name_of}
use Rattle.seat_programs.specs.declared.task.Op.TheVariants as ops
use Rattle.seat_programs.specs.declared.task.Task.{Task}
use Rattle.seat_programs.specs.Explained.{Became}
use Rattle.seat_programs.specs.ExplainedCalls.{IsFailing}
use Rattle.served_told.specs.failed_told.specs.Below.SockRule.ClosingWordsAndNotes.{PlacesDiffer}
use Rattle.served_told.specs.failed_told.specs.Below.SockRule.Letter.{Letter}
use Rattle.callless_fits.specs.sock_deeds.specs.Deeds.{MessageBy, Did, sends, fails, DoneBy}
use Rattle.callless_fits.specs.sock_deeds.specs.SocketTableRun.{IsOperation, DeedRun}
use Rattle.callless_fits.specs.sock_deeds.proofs.MessagesAcceptedByDeeds.{log}
use Rattle.callless_fits.specs.sock_deeds.proofs.DeedsOfAllSeats.{Act, before, after, did_of, done_of}
use Rattle.callless_fits.specs.sock_deeds.proofs.DeedCauses.{FailsNone, FoundDead, gone_cause, refused_cause}
use Rattle.callless_fits.specs.sock_deeds.proofs.WhyLivesFailed.{WhyFailed, by_name, by_link, by_reader}
use Rattle.callless_fits.specs.sock_deeds.proofs.NamesWithoutSocket.{was_full}
use Rattle.callless_fits.specs.sock_deeds.proofs.OrdersOfDeeds.{orders, accepted_stands}
use Rattle.callless_fits.specs.sock_deeds.proofs.DeedsForTasks.{fits, task_does}
use Rattle.callless_fits.specs.sock_deeds.proofs.WholeSocketDeeds.{fixed, log_accepted}
use Rattle.calls_done.specs.FirstAttempts.{FirstAttempt, Stands, BecameUnopened, FoundFailing, FoundFull}

module _ {O : Type 0} {g : Ghosts O} {state : O → OutState} {p : Plan} {clients : List (List Task)} {outcomes : List (Option Outcome)} {places : List PlaceWord} {vrefs : List Vref} {outs : List O} (run : DeedRun g state p clients outcomes places vrefs outs) (differ : PlacesDiffer (log run)) (gave : ℕ → List ℕ) where
  abbrev First : ℕ → ℕ → Type 0
  First o name = FirstAttempt p clients outcomes (fixed run differ gave) gave (orders run differ) o name

  failing_by : (k i h : ℕ) → WhyFailed run i h k → IsFailing p clients outcomes (fixed run differ gave) gave (orders run differ) k
  failing_by k i h (by_name f) = inl (f.life.number, f.listed, tt)
  failing_by k i h (by_link b) = inr (inl b)
  failing_by k i h (by_reader e) = inr (inr (inl e))

  by_dead : (a : Act run) (n o : ℕ) (P : ℕ → Type 0) → FoundDead run a n P → First o n
  by_dead a n o P d = FoundFailing d.link d.slot d.version d.made (failing_by d.link d.slot d.version d.why)

  -- by what became of its message
  by_message : (a : Act run) (n o : ℕ) (msg : Letter) (by : Option Outcome) → n < p.names → did_of run a ≡ sends n o 0 msg by → (by ≡ Some outcome.Unopened → Became clients outcomes o outcome.Unopened) → MessageBy state p n msg by (before run a) (after run a) → First o n
  by_message a n o msg None named is un b = let at = accepted_stands run differ (fixed run differ gave) gave a n o 0 msg is in Stands at.0 at.1
  by_message a n o msg (Some outcome.Unopened) named is un b = BecameUnopened (un refl)
  by_message a n o msg (Some (outcome.Gone found)) named is un b = by_dead a n o (λ version. vref_version found.0 ≡ version → ⊥) (elim b [ inl r ↦ gone_cause run a none_ n named found r | inr s ↦ refused_cause run a none_ n named found msg s ])
    where
      none_ : FailsNone run a
      none_ name number code e = let same : sends n o 0 msg (Some (outcome.Gone found)) ≡ fails name number code outcome.Failed = sym is ∙ e in cc
  by_message a n o msg (Some outcome.Full) named is un b = FoundFull (let full = was_full run a n msg b in let all = log_accepted run differ gave in omega (arith, full, all))
  by_message a n o msg (Some other) named is un b = elim b [ ]

  pub first_attempt : (c o : ℕ) (asked : Asked) → IsOperation clients outcomes c o (ops.Call asked) → First o (name_of asked 0)
  first_attempt c o asked is =
      let w = task_does run c (record { number = o; op = ops.Call asked }) is tt in let d = w.2 in
      let done : DoneBy g state p (sends (name_of asked 0) o 0 d.0 d.1) w.0.d.before w.0.d.after = subst (λ (x : Did). DoneBy g state p x w.0.d.before w.0.d.after) d.2 (done_of run w.0) in
      by_message w.0 (name_of asked 0) o d.0 d.1 ((fits run c (record { number = o; op = ops.Call asked }) is).1.names 0) d.2 d.3 done.0
