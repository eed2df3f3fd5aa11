-- A request is claimed, and its next word is marked as not connected.
use Rattle.std.proofs.Common.{◌≡◌, ◌≢◌, ℕ, ◌+◌, ◌*◌, ◌<◌, ◌≤◌, true, false, List, [], ◌∷◌, sym, refl, ap, ◌∙◌, subst, arith}
use mathlib.Core.Logic.{dite}
use native.Mathlib.Decide.{ℕ_discrete}
use mathlib.Core.Option.{some}
use lib.ListN.{get_elem?}
use Rattle.sock_model.specs.declared.chain.Entry.{Entry}
use Rattle.sock_model.specs.Entries.{on}
use Rattle.sock_model.specs.declared.chain.Claim.{Claim}
use Rattle.sock_model.specs.ChainTokens.{Tokens}
use Rattle.sock_model.specs.ChainMemory.{Memory}
use Rattle.sock_model.specs.RequestStates.{FreeRequest, ClaimedRequest, UsedRequest, free_phase, claimed_phase, used_phase, retired_phase, InUse}
use Rattle.sock_model.specs.Chains.{Chains}
use Rattle.chain_steps.proofs.UntouchedByChainSteps.{Same, Changed, one_token, no_token, in_size, standing_frame, in_use_frame}
use Rattle.sock_model.specs.sock_words.specs.PackedWords.{UNCONNECTED}

module _ {links requests : ℕ} {m : Memory} {t : Tokens} {log : List Entry} {freed places : ℕ → ℕ} (s : Chains links requests m t log freed places) where
  -- a request that an entry uses is taken
  pub used_word : (r g n : ℕ) (u : UsedRequest m t log freed r g n) → (m.request r ≡ 2 * u.entry.generation + 1) × (t.claims r ≡ [])
  used_word r g n u = let w = s.live u.link u.place u.entry u.late u.here in (ap m.request (sym u.request_is) ∙ w.0, ap t.claims (sym u.request_is) ∙ w.1)

  pub free_of : (r g : ℕ) (h : InUse m t log freed r) → m.request r ≡ 2 * g → FreeRequest m t r h.generation h.times
  free_of r g h w = elim h.phase [
    | free_phase u ↦ u
    | claimed_phase u ↦ (let x = u.word in absurd (omega arith))
    | used_phase u ↦ (let x = used_word r h.generation h.times u in absurd (omega (arith, x.0)))
    | retired_phase u ↦ (let x = u.word in absurd (omega arith))
  ]

  pub claim_of : (r : ℕ) (c : Claim) (h : InUse m t log freed r) → t.claims r ≡ c ∷ [] → ClaimedRequest m t r h.generation h.times
  claim_of r c h k = elim h.phase [
    | free_phase u ↦ absurd (no_token (t.claims r) c k u.unclaimed)
    | claimed_phase u ↦ u
    | used_phase u ↦ absurd (no_token (t.claims r) c k (used_word r h.generation h.times u).1)
    | retired_phase u ↦ absurd (no_token (t.claims r) c k u.unclaimed)
  ]

  -- no entry that has a request taken has one that is claimed
  pub claim_other : (r : ℕ) (c : Claim) → t.claims r ≡ c ∷ [] → (k i : ℕ) (e : Entry) → freed k ≤ i → get_elem? (on k log) i ≡ some e → e.request ≢ r
  claim_other r c h k i e late g q = no_token (t.claims r) c h (ap t.claims (sym q) ∙ (s.live k i e late g).1)

module _ {links requests : ℕ} {m m' : Memory} {t t' : Tokens} {log : List Entry} {freed places : ℕ → ℕ} (s : Chains links requests m t log freed places) where
  -- a request that no entry uses takes another claim
  takes : (r : ℕ) (c : Claim) → ((k i : ℕ) (e : Entry) → freed k ≤ i → get_elem? (on k log) i ≡ some e → e.request ≢ r)
      → Same links m.head m'.head → ((q : ℕ) → q < requests → q ≢ r → m'.next q ≡ m.next q) → ((q : ℕ) → q < requests → q ≢ r → m'.request q ≡ m.request q)
      → Same links t.rights t'.rights → Changed requests t.claims t'.claims r (c ∷ []) → Same requests t.loose t'.loose → InUse m' t' log freed r
      → Chains links requests m' t' log freed places
  takes r c other hd nexts words rt cl lo taken = record {
    chained = s.chained;
    differ = s.differ;
    sized = s.sized;
    standing = λ k kl. standing_frame m m' t t' k (on k log) (freed k) (places k) (hd k kl) (rt k kl)
        (λ i e late at. let z = in_size s k i e at in (nexts e.request z.1 (other k i e late at), lo e.request z.1)) (s.standing k kl);
    live = λ k i e late at. let z = in_size s k i e at in let w = s.live k i e late at in (words e.request z.1 (other k i e late at) ∙ w.0, cl.else e.request z.1 (other k i e late at) ∙ w.1);
    in_use = λ q ql. dite (ℕ_discrete q r) (λ same. subst (λ x. InUse m' t' log freed x) (sym same) taken)
        (λ ne. in_use_frame m m' t t' log log freed freed q (λ y z. nexts q ql ne) (words q ql ne) (cl.else q ql ne) (λ z. lo q ql ∙ z) refl (λ k i e late at is. (late, at)) (s.in_use q ql));
  }

  -- C1, where the word was even
  pub claims : (r g : ℕ) (c : Claim) → r < requests → m.request r ≡ 2 * g → c.generation ≡ g → c.ready ≡ false
      → Same links m.head m'.head → Same requests m.next m'.next → Changed requests m.request m'.request r (2 * g + 1)
      → Same links t.rights t'.rights → Changed requests t.claims t'.claims r (c ∷ []) → Same requests t.loose t'.loose
      → Chains links requests m' t' log freed places
  claims r g c rl word cg unready hd nx rq rt cl lo =
      let h = s.in_use r rl in let u = free_of s r g h word in
      takes r c (λ k i e late at q. let x = ap m.request q in omega (arith, x, (s.live k i e late at).0)) hd (λ q ql ne. nx q ql) rq.else rt cl lo record {
        generation = h.generation;
        times = h.times;
        small = h.small;
        each_once = h.each_once;
        phase = claimed_phase (record {
          claim = c;
          word = let a = rq.here in let b = u.word in omega arith;
          used = u.used;
          claimed = cl.here;
          generation_is = let b = u.word in omega arith;
          is_ready = λ y. let z : true ≡ false = sym y ∙ unready in cc;
          still = lo r rl ∙ u.still;
        });
      }

  -- a claim is changed, and of its request no more than the next word
  again : (r : ℕ) (c c' : Claim) → r < requests → t.claims r ≡ c ∷ [] → c'.generation ≡ c.generation
      → Same links m.head m'.head → ((q : ℕ) → q < requests → q ≢ r → m'.next q ≡ m.next q) → Same requests m.request m'.request
      → Same links t.rights t'.rights → Changed requests t.claims t'.claims r (c' ∷ []) → Same requests t.loose t'.loose → (c'.ready ≡ true → m'.next r ≡ UNCONNECTED)
      → Chains links requests m' t' log freed places
  again r c c' rl was cg hd nexts rq rt cl lo ready =
      let h = s.in_use r rl in let u = claim_of s r c h was in
      takes r c' (claim_other s r c was) hd nexts (λ q ql ne. rq q ql) rt cl lo record {
        generation = h.generation;
        times = h.times;
        small = h.small;
        each_once = h.each_once;
        phase = claimed_phase (record {
          claim = c';
          word = rq r rl ∙ u.word;
          used = u.used;
          claimed = cl.here;
          generation_is = cg ∙ (ap (λ (x : Claim). x.generation) (one_token (t.claims r) c u.claim was u.claimed) ∙ u.generation_is);
          is_ready = ready;
          still = lo r rl ∙ u.still;
        });
      }

  -- C7
  pub readies : (r : ℕ) (c c' : Claim) → r < requests → t.claims r ≡ c ∷ [] → c'.generation ≡ c.generation
      → Same links m.head m'.head → Changed requests m.next m'.next r UNCONNECTED → Same requests m.request m'.request
      → Same links t.rights t'.rights → Changed requests t.claims t'.claims r (c' ∷ []) → Same requests t.loose t'.loose
      → Chains links requests m' t' log freed places
  readies r c c' rl was cg hd nx rq rt cl lo = again r c c' rl was cg hd nx.else rq rt cl lo (λ y. nx.here)

  -- M1, and any other change of what a claim says of its message
  pub reclaims : (r : ℕ) (c c' : Claim) → r < requests → t.claims r ≡ c ∷ [] → c'.generation ≡ c.generation → (c'.ready ≡ true → c.ready ≡ true)
      → Same links m.head m'.head → Same requests m.next m'.next → Same requests m.request m'.request
      → Same links t.rights t'.rights → Changed requests t.claims t'.claims r (c' ∷ []) → Same requests t.loose t'.loose
      → Chains links requests m' t' log freed places
  reclaims r c c' rl was cg rd hd nx rq rt cl lo = let u = claim_of s r c (s.in_use r rl) was in again r c c' rl was cg hd (λ q ql ne. nx q ql) rq rt cl lo
      (λ y. nx r rl ∙ u.is_ready (ap (λ (z : Claim). z.ready) (one_token (t.claims r) u.claim c u.claimed was) ∙ rd y))
