-- A seat's own list of accepted messages: one for each deed that had one accepted, in their order.
use Rattle.std.proofs.Common.{◌≡◌, ◌⊎◌, ℕ, zero, suc, ◌≤◌, Option, Some, None, inl, inr, List, [], ◌∷◌, ◌++◌, length, flat_map, append_assoc, append-nil, refl, sym, ap, ◌∙◌, subst, arith}
use mathlib.Core.Option.{some, some-injective, some-ne-none}
use lib.ListN.{get_elem?}
use Rattle.sock_io.specs.declared.link.Out.{Ghosts}
use Rattle.sock_io.specs.LinkHalves.{OutState}
use Rattle.sock_words.specs.declared.outcome.Outcome.{Outcome}
use Rattle.sock_words.specs.declared.outcome.Outcome.TheVariants as outcome
use Rattle.sock_words.specs.declared.plain.Plan.{Plan}
use Rattle.sock_model.specs.declared.chain.Entry.{Entry}
use Rattle.sock_model.specs.declared.view.View.{View}
use Rattle.sock_model.specs.ChainRows.{more}
use Rattle.sock_model.specs.ViewsOfSplitSeats.{newcomer}
use Rattle.rpc_client.specs.sock_rule.specs.declared.homes.Letter.{Letter}
use Rattle.rpc_client.specs.sock_table.specs.ReferenceAnswers.{LinkOf}
use Rattle.rpc_client.specs.sock_table.specs.NamesStoredAndFound.{NotedAs}
use Rattle.rpc_client.specs.sock_table.specs.declared.finding.Noted.{Noted}
use Rattle.rpc_client.specs.sock_table.specs.declared.finding.Noted.TheVariants as noteds
use Rattle.rpc_client.specs.declared.holding.Held.{Held}
use Rattle.rpc_client.specs.declared.reaching.Reached.{Reached}
use Rattle.rpc_client.specs.declared.reaching.Reached.TheVariants as reached
use Rattle.rpc_client.specs.FailOutcomes.{TriedTo, FailedBy}
use Rattle.rpc_client.specs.HoldAndDropOutcomes.{HeldBy, DroppedBy}
use Rattle.rpc_client.specs.ReachingByName.{ReachedBy}
use Rattle.rpc_client.proofs.SeatBehindDelivering.{came_lists}
use Rattle.rpc_client.proofs.FindingReferences.{set_others}
use Rattle.sock_deeds.specs.Deeds.{Hand, SentOver, MessageBy, Did, opens, sends, holds, drops, fails, waits, looks, takes, misses, sets, returns, DoneBy, Deed, Chain}
use Rattle.sock_deeds.specs.SocketTableRun.{Seated}
use Rattle.sock_deeds.proofs.DeedsOfAllSeats.{final_of}

pub reached_lists : (p : Plan) (n : ℕ) (r : Reached) (v w : View) → ReachedBy p n r v w → w.lists ≡ v.lists
reached_lists p n reached.Unopened v w r = ap (λ (y : View). y.lists) r.0
reached_lists p n (reached.Gone found) v w r = ap (λ (y : View). y.lists) r.3.became.others ∙ ap (λ (y : View). y.lists) r.2.1.view
reached_lists p n (reached.Here sock) v w r = ap (λ (y : View). y.lists) r.2.others ∙ ap (λ (y : View). y.lists) r.1.1.view

pub held_lists : (p : Plan) (n : ℕ) (by : Outcome) (h : List Held) (v : View) (k : List Held) (w : View) → HeldBy p n by h v k w → w.lists ≡ v.lists
held_lists p n outcome.Unopened h v k w b = reached_lists p n reached.Unopened v w b.1
held_lists p n (outcome.Gone found) h v k w b = reached_lists p n (reached.Gone found) v w b.1
held_lists p n outcome.Held h v k w b = reached_lists p n (reached.Here record { id = b.0 }) v w b.2
held_lists p n _ h v k w b = elim b [ ]

pub dropped_lists : (n : ℕ) (by : Outcome) (h : List Held) (v : View) (k : List Held) (w : View) → DroppedBy n by h v k w → w.lists ≡ v.lists
dropped_lists n outcome.NotHeld h v k w b = ap (λ (y : View). y.lists) b.2
dropped_lists n outcome.Freed h v k w b = ap (λ (y : View). y.lists) b.2.back.became.others
dropped_lists n outcome.Kept h v k w b = ap (λ (y : View). y.lists) b.2.back.became.others
dropped_lists n _ h v k w b = elim b [ ]

tried_lists : (p : Plan) (n code : ℕ) (by : Outcome) (v w : View) → TriedTo p n code by v w → w.lists ≡ v.lists
tried_lists p n code by v w t = ap (λ (y : View). y.lists) t.back.became.others ∙ (ap (λ (y : View). y.lists) (set_others t.sock.id.0 code by t.has t.set t.set_by) ∙ reached_lists p n (reached.Here t.sock) v t.has t.reached_it)

pub failed_lists : (p : Plan) (n code : ℕ) (by : Outcome) (v w : View) → FailedBy p n code by v w → w.lists ≡ v.lists
failed_lists p n code outcome.Unopened v w b = reached_lists p n reached.Unopened v w b
failed_lists p n code (outcome.Gone found) v w b = reached_lists p n (reached.Gone found) v w b
failed_lists p n code outcome.Failed v w b = tried_lists p n code outcome.Failed v w b
failed_lists p n code (outcome.Already found) v w b = tried_lists p n code (outcome.Already found) v w b
failed_lists p n code _ v w b = elim b [ ]

looked_lists : (p : Plan) (number : ℕ) (n : Noted) (v w : View) → NotedAs p number n v w → w.lists ≡ v.lists
looked_lists p number noteds.NotYet v w b = ap (λ (y : View). y.lists) b.0
looked_lists p number noteds.Nothing v w b = ap (λ (y : View). y.lists) b.view
looked_lists p number (noteds.Id id) v w b = ap (λ (y : View). y.lists) b.1.view

module _ {O : Type 0} (state : O → OutState) (p : Plan) where
  asked_lists : (id : ℕ) (v w : View) → (w ≡ v) ⊎ ((k : ℕ) × LinkOf p k id v w) → w.lists ≡ v.lists
  asked_lists id v w a = elim a [ inl same ↦ ap (λ (y : View). y.lists) same | inr l ↦ ap (λ (y : View). y.lists) l.1.became.others ]

  over_lists : (n : ℕ) (msg : Letter) (by : Option Outcome) (v w : View) (s : SentOver state p n msg by v w) → s.addressed.lists ≡ v.lists
  over_lists n msg by v w s = asked_lists s.sock.id.0 s.has s.addressed s.link_asked ∙ reached_lists p n (reached.Here s.sock) v s.has s.reached_it

  refused_lists : (n : ℕ) (msg : Letter) (by : Outcome) (v w : View) → MessageBy state p n msg (Some by) v w → w.lists ≡ v.lists
  refused_lists n msg outcome.Unopened v w s = reached_lists p n reached.Unopened v w s
  refused_lists n msg (outcome.Gone found) v w s = elim s [
    | inl r ↦ reached_lists p n (reached.Gone found) v w r
    | inr d ↦ came_lists p d.sock msg _ d.addressed w d.delivered ∙ over_lists n msg _ v w d
  ]
  refused_lists n msg outcome.Full v w s = came_lists p s.sock msg _ s.addressed w s.delivered ∙ over_lists n msg _ v w s
  refused_lists n msg _ v w s = elim s [ ]

  accepted_lists : (n : ℕ) (msg : Letter) (v w : View) (s : SentOver state p n msg None v w) → w.lists ≡ more v.lists s.delivered.accepted.entry
  accepted_lists n msg v w s = let d = s.delivered in
      ap (λ (y : View). y.lists) d.through.returned.back.became.others ∙ (ap (λ (y : View). y.lists) d.through.by.became.others ∙ (d.accepted.lists ∙ ap (λ l. more l d.accepted.entry) (over_lists n msg None v w s)))

-- ## Any deed

module _ {O : Type 0} (g : Ghosts O) (state : O → OutState) (p : Plan) where
  -- the message that was accepted
  abbrev pub entries_by : (d : Did) (s t : Hand) → DoneBy g state p d s t → List Entry
  entries_by (sends name number attempt msg None) s t b = b.0.delivered.accepted.entry ∷ []
  entries_by _ s t b = []

  same_lists : (v w : View) (l : List Entry) (ls : List (List Entry)) → w.lists ≡ v.lists → v.lists ≡ l ∷ ls → w.lists ≡ (l ++ []) ∷ ls
  same_lists v w l ls e is = e ∙ (is ∙ ap (λ x. x ∷ ls) (sym (append-nil l)))

  -- the own list grows by it
  pub done_lists : (d : Did) (s t : Hand) (b : DoneBy g state p d s t) (l : List Entry) (ls : List (List Entry)) → s.view.lists ≡ l ∷ ls → t.view.lists ≡ (l ++ entries_by d s t b) ∷ ls
  done_lists (opens name number link by) s t b l ls is = same_lists s.view t.view l ls b.2 is
  done_lists (sends name number attempt msg None) s t b l ls is = accepted_lists state p name msg s.view t.view b.0 ∙ ap (λ x. more x b.0.delivered.accepted.entry) is
  done_lists (sends name number attempt msg (Some by)) s t b l ls is = same_lists s.view t.view l ls (refused_lists state p name msg by s.view t.view b.0) is
  done_lists (holds name number by) s t b l ls is = same_lists s.view t.view l ls (held_lists p name by s.held s.view t.held t.view b) is
  done_lists (drops name number by) s t b l ls is = same_lists s.view t.view l ls (dropped_lists name by s.held s.view t.held t.view b) is
  done_lists (fails name number code by) s t b l ls is = same_lists s.view t.view l ls (failed_lists p name code by s.view t.view b.0) is
  done_lists (waits name) s t b l ls is = same_lists s.view t.view l ls (ap (λ (y : View). y.lists) b.0.1.1.view) is
  done_lists (looks number n) s t b l ls is = same_lists s.view t.view l ls (looked_lists p number n s.view t.view b.0) is
  done_lists (takes id) s t b l ls is = same_lists s.view t.view l ls (ap (λ (y : View). y.lists) b.1.others) is
  done_lists (misses id found) s t b l ls is = same_lists s.view t.view l ls (ap (λ (y : View). y.lists) b.0.became.others) is
  done_lists (sets id code by) s t b l ls is = same_lists s.view t.view l ls (ap (λ (y : View). y.lists) (set_others id code by s.view t.view b.0)) is
  done_lists (returns id) s t b l ls is = same_lists s.view t.view l ls (ap (λ (y : View). y.lists) b.0.back.became.others) is

  -- an accepted message is that of a deed that sent it
  pub record IsSent (d : Did) (s t : Hand) (e : Entry) : Type 0 where
    pub name : ℕ
    pub number : ℕ
    pub attempt : ℕ
    pub msg : Letter
    pub did_is : d ≡ sends name number attempt msg None
    pub sent : SentOver state p name msg None s.view t.view
    pub entry : sent.delivered.accepted.entry ≡ e

  pub entry_source : (d : Did) (s t : Hand) (b : DoneBy g state p d s t) (j : ℕ) (e : Entry) → get_elem? (entries_by d s t b) j ≡ some e → IsSent d s t e
  entry_source (sends name number attempt msg None) s t b zero e at = record { name = name; number = number; attempt = attempt; msg = msg; did_is = refl; sent = b.0; entry = some-injective b.0.delivered.accepted.entry e at }
  entry_source (sends name number attempt msg None) s t b (suc j) e at = absurd (some-ne-none e (sym at))
  entry_source _ s t b j e at = absurd (some-ne-none e (sym at))

  -- a message of which nothing came back was accepted
  pub entry_there : (name number attempt : ℕ) (msg : Letter) (d : Did) (s t : Hand) (b : DoneBy g state p d s t) → d ≡ sends name number attempt msg None → (e : Entry) × (get_elem? (entries_by d s t b) 0 ≡ some e)
  entry_there name number attempt msg d s t b is =
      subst (λ (x : Did). (b : DoneBy g state p x s t) → (e : Entry) × (get_elem? (entries_by x s t b) 0 ≡ some e)) (sym is) (λ b. (b.0.delivered.accepted.entry, refl)) b

  pub entries_small : (d : Did) (s t : Hand) (b : DoneBy g state p d s t) → length (entries_by d s t b) ≤ 1
  entries_small (sends name number attempt msg None) s t b = omega arith
  entries_small _ s t b = omega arith

abbrev pub entries_of : {O : Type 0} {g : Ghosts O} {state : O → OutState} {p : Plan} → Deed g state p → List Entry
entries_of {g = g} {state = state} {p = p} d = entries_by g state p d.did d.before d.after d.done

module _ {O : Type 0} {g : Ghosts O} {state : O → OutState} {p : Plan} where
  chain_lists : (ds : List (Deed g state p)) (s t : Hand) → Chain g state p ds s t → (l : List Entry) (ls : List (List Entry)) → s.view.lists ≡ l ∷ ls → t.view.lists ≡ (l ++ flat_map entries_of ds) ∷ ls
  chain_lists [] s t c l ls is = ap (λ (h : Hand). h.view.lists) c ∙ (is ∙ ap (λ x. x ∷ ls) (sym (append-nil l)))
  chain_lists (d ∷ ds) s t c l ls is = chain_lists ds d.after t c.1 (l ++ entries_of d) ls (done_lists g state p d.did d.before d.after d.done l ls (ap (λ (h : Hand). h.view.lists) c.0 ∙ is))
      ∙ ap (λ x. x ∷ ls) (append_assoc l (entries_of d) (flat_map entries_of ds))

  -- the seat has its own list and no other
  pub own_list : (y : Seated g state p) → (final_of y).lists ≡ flat_map entries_of y.deeds ∷ []
  own_list y = ap (λ (v : View). v.lists) y.left ∙ chain_lists y.deeds record { view = newcomer p [] y.spare; held = [] } y.ended y.chain [] [] refl
