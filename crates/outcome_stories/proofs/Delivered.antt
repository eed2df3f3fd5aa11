-- What the rule says of links where no seat writes one any more: their messages in order, what each link took, and how many there are.
use Rattle.std.proofs.Common.{◌≡◌, ◌≢◌, ℕ, zero, suc, ◌<◌, ◌≤◌, List, [], ◌∷◌, length, filter, map, eqb, length-append, refl, sym, ap, ◌∙◌, arith}
use Rattle.std.proofs.lemmas.List.{length-map}
use Rattle.std.specs.Prelude.{Some, slice_get, slice_index}
use mathlib.Core.Logic.{dite}
use mathlib.Core.Option.{some}
use native.Mathlib.Decide.{ℕ_discrete}
use lib.ListN.{get_elem?}
use Rattle.sock_words.specs.declared.plain.Plan.{Plan}
use Rattle.sock_model.specs.declared.chain.Claim.{Claim}
use Rattle.sock_model.specs.declared.chain.Entry.{Entry}
use Rattle.sock_model.specs.declared.chain.Right.{Right}
use Rattle.sock_model.specs.declared.view.View.{View}
use Rattle.sock_model.specs.ChainMemory.{Memory}
use Rattle.sock_model.specs.ChainTokens.{Tokens}
use Rattle.sock_model.specs.Chains.{Chains}
use Rattle.sock_model.specs.SocketTableLayout.{request_index}
use Rattle.sock_model.specs.Entries.{on, uses, count_up}
use Rattle.sock_model.specs.ChainLawReads.{tokens, rights_on, claims_of}
use Rattle.sock_model.specs.RequestStates.{free_phase, claimed_phase, used_phase, retired_phase}
use Rattle.sock_model.specs.LawfulSockets.{Lawful}
use Rattle.sock_model.specs.LinksInSlots.{Failed}
use Rattle.program_walks.specs.chain_steps.proofs.UntouchedByChainSteps.{no_token}
use Rattle.program_walks.specs.chain_steps.proofs.Settles.{all_placed}
use Rattle.program_walks.specs.chain_steps.proofs.LogTotals.{log_full}
use Rattle.program_walks.specs.sock_steps.proofs.Maps.{gather_nil}
use Rattle.seat_programs.specs.Cores.{Core}
use Rattle.seat_programs.specs.ExplainedCalls.{Accepted, Order, all_accepted}
use Rattle.program_walks.specs.program_steps.specs.WhatSeatHas.{IsQuiet}
use Rattle.program_walks.specs.program_steps.specs.SoundSeats.{state}
use Rattle.outcome_stories.proofs.Accepted as accepted

-- ## Messages as a link accepted them

abbrev pub accepted_of : Entry → Accepted
accepted_of e = record { operation = e.heading.label.operation; attempt = e.heading.label.attempt; bytes = e.bytes }

pub accepted_at : (es : List Entry) (i : ℕ) (a : Accepted) → slice_get (map accepted_of es) i ≡ Some a → (e : Entry) × (get_elem? es i ≡ some e) × (accepted_of e ≡ a)
accepted_at = accepted.accepted_at (λ e. e.heading.label.operation) (λ e. e.heading.label.attempt)

pub accepted_there : (es : List Entry) (i : ℕ) (e : Entry) → get_elem? es i ≡ some e → slice_get (map accepted_of es) i ≡ Some (accepted_of e)
accepted_there = accepted.accepted_there (λ e. e.heading.label.operation) (λ e. e.heading.label.attempt)

count_up_length : (n : ℕ) → length (count_up n) ≡ n
count_up_length zero = refl
count_up_length (suc n) = omega (arith, length-append (count_up n) (n ∷ []), count_up_length n)

module _ {links requests : ℕ} {m : Memory} {t : Tokens} {log : List Entry} {freed places : ℕ → ℕ} (s : Chains links requests m t log freed places) where
  -- a request whose word isn't 0 and that nobody claims was used
  pub used_once : (q : ℕ) → q < requests → m.request q ≢ 0 → t.claims q ≡ [] → 1 ≤ length (uses q log)
  used_once q ql some_ none_ = let u = s.in_use q ql in
      let long : length (uses q log) ≡ u.times = sym (length-map (uses q log) (λ (e : Entry). e.generation)) ∙ (ap length u.each_once ∙ count_up_length u.times) in
      elim u.phase [
        | free_phase f ↦ (let a = f.word in let b = f.used in dite (ℕ_discrete u.generation 0) (λ z. absurd (some_ (a ∙ omega arith))) (λ n. omega arith))
        | claimed_phase x ↦ absurd (no_token (t.claims q) x.claim x.claimed none_)
        | used_phase e ↦ (let a = e.used in omega arith)
        | retired_phase e ↦ (let a = e.used in omega arith)
      ]

-- ## Where no seat writes a link

-- the orders of the links
abbrev pub orders_of : (p : Plan) (c : Core) (views : List View) → Lawful (λ home. home) p (state c views) → ℕ → Order
orders_of p c views o k = record { accepted = map accepted_of (on k o.log); placed = o.kept k }

-- no view has a right, a claim or a loose entry
abbrev pub AreQuiet : List View → Type 0
AreQuiet views = (i : ℕ) (v : View) → get_elem? views i ≡ some v → IsQuiet v

module _ (p : Plan) (c : Core) (views : List View) (o : Lawful (λ home. home) p (state c views)) (quiet : AreQuiet views) where
  pub no_rights : (k : ℕ) → (tokens views).rights k ≡ []
  no_rights k = gather_nil (rights_on k) views (λ i v g. ap (λ l. filter (λ (x : Right). eqb x.link k) l) (quiet i v g).rights)

  no_claims : (q : ℕ) → (tokens views).claims q ≡ []
  no_claims q = gather_nil (claims_of q) views (λ i v g. ap (λ l. filter (λ (x : Claim). eqb x.request q) l) (quiet i v g).claims)

  -- every entry has its place
  pub places_all : (k : ℕ) → k < p.links → o.places k ≡ length (on k o.log)
  places_all k kl = let a = all_placed o.chains o.delivered k kl (no_rights k) in a.1 ∙ a.0

  -- where a link dropped a message, its life was failed
  pub dropped_failed : (k : ℕ) → k < p.links → o.kept k < length (on k o.log) → Failed p (state c views) k
  dropped_failed k kl few = o.delivered.failed k kl (omega (arith, places_all k kl))

  -- as many messages as there are requests, once each request was used
  pub requests_used : ((q : ℕ) → q < p.requests → slice_index c.words (request_index p q) ≢ 0) → p.requests ≤ all_accepted p.links (orders_of p c views o)
  requests_used some_ = omega (arith, log_full p.requests o.log (λ q ql. used_once o.chains q ql (some_ q ql) (no_claims q)), accepted.sizes_all (λ e. e.heading.label.operation) (λ e. e.heading.label.attempt) p.links o.log (λ i e g. (o.chains.sized i e g).0))
