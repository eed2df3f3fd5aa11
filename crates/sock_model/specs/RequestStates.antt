-- How a request stands: free, claimed by one seat, used by one entry, or retired.
use Rattle.std.specs.Prelude.{◌≡◌, ℕ, suc, ◌+◌, ◌*◌, ◌<◌, ◌≤◌, true, List, [], ◌∷◌, map}
use mathlib.Core.Option.{some}
use lib.ListN.{get_elem?}
use Rattle.sock_model.specs.declared.chain.Entry.{Entry}
use Rattle.sock_model.specs.declared.chain.Claim.{Claim}
use Rattle.sock_model.specs.Entries.{on, uses, count_up}
use Rattle.sock_model.specs.ChainTokens.{Tokens}
use Rattle.sock_model.specs.ChainMemory.{Memory}
use Rattle.sock_words.specs.PackedWords.{UNCONNECTED}

module _ (m : Memory) (t : Tokens) where
  pub record FreeRequest (r g n : ℕ) : Type 0 where
    -- the word is the generation, not taken
    pub word : m.request r ≡ 2 * g
    -- each lower generation had an entry
    pub used : n ≡ g
    -- nobody claims it
    pub unclaimed : t.claims r ≡ []
    -- and no entry of it is loose
    pub still : t.loose r ≡ []

  pub record ClaimedRequest (r g n : ℕ) : Type 0 where
    -- the one claim
    pub claim : Claim
    -- the word is its generation, taken
    pub word : m.request r ≡ 2 * g + 1
    -- each lower generation had an entry
    pub used : n ≡ g
    -- one seat has the claim
    pub claimed : t.claims r ≡ claim ∷ []
    -- of this generation
    pub generation_is : claim.generation ≡ g
    -- whose next word is marked once it is ready
    pub is_ready : claim.ready ≡ true → m.next r ≡ UNCONNECTED
    -- no entry of it is loose
    pub still : t.loose r ≡ []

  -- entry `place` of the chain of `link`, whose request isn't given back yet
  pub record UsedRequest (log : List Entry) (freed : ℕ → ℕ) (r g n : ℕ) : Type 0 where
    -- the link that accepted the entry
    pub link : ℕ
    -- its place in the chain
    pub place : ℕ
    -- and the entry
    pub entry : Entry
    -- which did not give its request back
    pub late : freed link ≤ place
    -- stands there
    pub here : get_elem? (on link log) place ≡ some entry
    -- each generation up to its own had an entry
    pub used : n ≡ suc g
    -- is of this request
    pub request_is : entry.request ≡ r
    -- and of this generation
    pub generation_is : entry.generation ≡ g

  -- at the last generation a request isn't given back
  pub record RetiredRequest (r g n : ℕ) : Type 0 where
    -- the word stays taken
    pub word : m.request r ≡ 2 * g + 1
    -- each generation had an entry
    pub used : n ≡ suc g
    -- nobody claims it
    pub unclaimed : t.claims r ≡ []
    -- no entry of it is loose
    pub still : t.loose r ≡ []
    -- the generation is the last one
    pub last : g ≡ 140737488355327

  pub data Phase (log : List Entry) (freed : ℕ → ℕ) (r g n : ℕ) : Type 0 where
    free_phase : FreeRequest r g n → Phase log freed r g n
    claimed_phase : ClaimedRequest r g n → Phase log freed r g n
    used_phase : UsedRequest log freed r g n → Phase log freed r g n
    retired_phase : RetiredRequest r g n → Phase log freed r g n

  -- a request is free, claimed by one view, used by one entry, or retired; each generation below its word's had one entry
  pub record InUse (log : List Entry) (freed : ℕ → ℕ) (r : ℕ) : Type 0 where
    -- that of its word
    pub generation : ℕ
    -- how often it was used
    pub times : ℕ
    -- generations are bounded
    pub small : generation < 140737488355328
    -- each generation below had one entry
    pub each_once : map (λ (e : Entry). e.generation) (uses r log) ≡ count_up times
    -- what it is now
    pub phase : Phase log freed r generation times
