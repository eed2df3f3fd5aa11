-- Of each right, claim and loose entry there is at most one.
use Rattle.std.proofs.Common.{◌≡◌, ℕ, ◌<◌, ◌≤◌, List, length, ap, subst, ⊎_elim, lt_of_not-le, arith}
use mathlib.Core.Logic.{dite}
use mathlib.Core.Option.{some}
use native.Mathlib.Decide.{dec_le}
use lib.ListN.{get_elem?}
use Rattle.sock_model.specs.declared.chain.Entry.{Entry}
use Rattle.sock_model.specs.declared.chain.Loose.{Loose}
use Rattle.sock_model.specs.Entries.{on}
use Rattle.sock_model.specs.ChainTokens.{Tokens}
use Rattle.sock_model.specs.ChainMemory.{Memory}
use Rattle.sock_model.specs.LinkWritingState.{Counts, Connected, Waits, Points, absent, idle, busy}
use Rattle.sock_model.specs.Chains.{Chains}
use Rattle.sock_model.specs.RequestStates.{free_phase, claimed_phase, used_phase, retired_phase}
use Rattle.chain_steps.proofs.TicketLists.{at_length}
use Rattle.chain_steps.proofs.UntouchedByChainSteps.{in_size}
use Rattle.chain_steps.proofs.Claims.{used_word}

waits_few : (e : Entry) (x : ℕ) (l : List Loose) → Waits e x l → length l ≤ 1
waits_few e x l w = ⊎_elim (λ (u : Connected e x l). let z : length l ≡ 0 = ap length u.1 in omega arith) (λ u. let z : length l ≡ 1 = ap length u.1 in omega arith) w

points_few : (c : List Entry) (n : Counts) (i : ℕ) (e : Entry) (x : ℕ) (l : List Loose) → Points c n i e x l → length l ≤ 1
points_few c n i e x l h = dite (dec_le n.top i) (λ k. waits_few e x l (h.newer k))
    (λ a. dite (dec_le n.left i) (λ k. let z : length l ≡ 0 = ap length (h.turned k (lt_of_not-le a)).0 in omega arith)
    (λ b. dite (dec_le n.noted i) (λ k. waits_few e x l (h.unturned k (lt_of_not-le b)))
    (λ d. let z : length l ≡ 0 = ap length (h.written (lt_of_not-le d)).0 in omega arith)))

module _ {links requests : ℕ} {m : Memory} {t : Tokens} {log : List Entry} {freed places : ℕ → ℕ} (s : Chains links requests m t log freed places) where
  pub few_rights : (k : ℕ) → k < links → length (t.rights k) ≤ 1
  few_rights k kl = elim (s.standing k kl) [
    | absent h r f p ↦ (let z : length (t.rights k) ≡ 0 = ap length r in omega arith)
    | idle h r f p ↦ (let z : length (t.rights k) ≡ 0 = ap length r in omega arith)
    | busy r h q held ↦ (let z : length (t.rights k) ≡ 1 = ap length q in omega arith)
  ]

  pub few_claims : (r : ℕ) → r < requests → length (t.claims r) ≤ 1
  few_claims r rl = let h = s.in_use r rl in elim h.phase [
    | free_phase u ↦ (let z : length (t.claims r) ≡ 0 = ap length u.unclaimed in omega arith)
    | claimed_phase u ↦ (let z : length (t.claims r) ≡ 1 = ap length u.claimed in omega arith)
    | used_phase u ↦ (let z : length (t.claims r) ≡ 0 = ap length (used_word s r h.generation h.times u).1 in omega arith)
    | retired_phase u ↦ (let z : length (t.claims r) ≡ 0 = ap length u.unclaimed in omega arith)
  ]

  entry_few : (k i : ℕ) (e : Entry) → freed k ≤ i → get_elem? (on k log) i ≡ some e → length (t.loose e.request) ≤ 1
  entry_few k i e late g = let b = at_length (on k log) i e g in elim (s.standing k (in_size s k i e g).0) [
    | absent h r f p ↦ absurd (omega arith)
    | idle h r f p ↦ absurd (omega arith)
    | busy r h q held ↦ points_few (on k log) held.counts i e (m.next e.request) (t.loose e.request) (held.points i e late g)
  ]

  pub few_loose : (r : ℕ) → r < requests → length (t.loose r) ≤ 1
  few_loose r rl = let h = s.in_use r rl in elim h.phase [
    | free_phase u ↦ (let z : length (t.loose r) ≡ 0 = ap length u.still in omega arith)
    | claimed_phase u ↦ (let z : length (t.loose r) ≡ 0 = ap length u.still in omega arith)
    | used_phase u ↦ subst (λ y. length (t.loose y) ≤ 1) u.request_is (entry_few u.link u.place u.entry u.late u.here)
    | retired_phase u ↦ (let z : length (t.loose r) ≡ 0 = ap length u.still in omega arith)
  ]
