-- What a word of the chains leaves, when it changes.
use Rattle.std.proofs.Common.{◌≡◌, ◌≢◌, ℕ, suc, ◌+◌, ◌*◌, ◌<◌, List, length, get_or, set, length-set, get_or-set_same, get_or-set_other, refl, ap, ◌∙◌, arith}
use mathlib.Core.Option.{Option, none, some}
use Rattle.sock_model.specs.sock_words.specs.declared.plain.Plan.{Plan}
use Rattle.sock_model.specs.SocketTableLayout.{tag_index, ref_index, link_index, head_index, code_index, name_index, open_index, request_index, next_index, place_index, all_words}
use Rattle.sock_model.specs.ChainLawReads.{head_at, memory}
use Rattle.chain_steps.proofs.UntouchedByChainSteps.{Same, Changed}

-- what the law of the slots reads, and the heads of slots that no link is in
pub record Beside (p : Plan) (slot : ℕ → Option ℕ) (ws vs : List ℕ) : Type 0 where
  pub long : length vs ≡ length ws
  pub tags : (i : ℕ) → i < p.slots → get_or vs (tag_index i) 0 ≡ get_or ws (tag_index i) 0
  pub refs : (i : ℕ) → i < p.slots → get_or vs (ref_index i) 0 ≡ get_or ws (ref_index i) 0
  pub links : (i : ℕ) → i < p.slots → get_or vs (link_index i) 0 ≡ get_or ws (link_index i) 0
  pub codes : (i : ℕ) → i < p.slots → get_or vs (code_index i) 0 ≡ get_or ws (code_index i) 0
  pub names : (n : ℕ) → n < p.names → get_or vs (name_index p n) 0 ≡ get_or ws (name_index p n) 0
  pub opens : (n : ℕ) → n < p.operations → get_or vs (open_index p n) 0 ≡ get_or ws (open_index p n) 0
  pub heads : (j : ℕ) → j < p.slots → ((k : ℕ) → slot k ≢ some j) → get_or vs (head_index j) 0 ≡ get_or ws (head_index j) 0

-- nothing changed
pub beside_all : (p : Plan) (slot : ℕ → Option ℕ) (ws : List ℕ) → Beside p slot ws ws
beside_all p slot ws = record { long = refl; tags = λ i l. refl; refs = λ i l. refl; links = λ i l. refl; codes = λ i l. refl; names = λ i l. refl; opens = λ i l. refl; heads = λ j l n. refl }

head_else : (ws : List ℕ) (x n : ℕ) (o : Option ℕ) → ((j : ℕ) → o ≡ some j → head_index j ≢ x) → head_at (set ws x n) o ≡ head_at ws o
head_else ws x n none ne = refl
head_else ws x n (some j) ne = ap (λ (y : ℕ). some y) (get_or-set_other ws x (head_index j) n 0 (λ q. ne j refl q))

module _ (p : Plan) (slot : ℕ → Option ℕ) (ws : List ℕ) (n : ℕ) (wide : length ws ≡ all_words p) (in_slots : (k j : ℕ) → slot k ≡ some j → j < p.slots) where
  -- a word behind those of the slots and of names
  module _ (x : ℕ) (high : 6 * p.slots + p.names + p.operations < suc x) where
    pub high_beside : Beside p slot ws (set ws x n)
    high_beside = record {
      long = length-set ws x n;
      tags = λ i l. get_or-set_other ws x (tag_index i) n 0 (λ q. omega arith);
      refs = λ i l. get_or-set_other ws x (ref_index i) n 0 (λ q. omega arith);
      links = λ i l. get_or-set_other ws x (link_index i) n 0 (λ q. omega arith);
      codes = λ i l. get_or-set_other ws x (code_index i) n 0 (λ q. omega arith);
      names = λ i l. get_or-set_other ws x (name_index p i) n 0 (λ q. omega arith);
      opens = λ i l. get_or-set_other ws x (open_index p i) n 0 (λ q. omega arith);
      heads = λ j l ne. get_or-set_other ws x (head_index j) n 0 (λ q. omega arith);
    }

    pub high_head : Same p.links (memory p slot ws).head (memory p slot (set ws x n)).head
    high_head k kl = head_else ws x n (slot k) (λ j e q. let z = in_slots k j e in omega arith)

  module _ (r : ℕ) (rl : r < p.requests) where
    pub next_beside : Beside p slot ws (set ws (next_index p r) n)
    next_beside = high_beside (next_index p r) (omega arith)

    pub request_beside : Beside p slot ws (set ws (request_index p r) n)
    request_beside = high_beside (request_index p r) (omega arith)

    pub next_head : Same p.links (memory p slot ws).head (memory p slot (set ws (next_index p r) n)).head
    next_head = high_head (next_index p r) (omega arith)

    pub request_head : Same p.links (memory p slot ws).head (memory p slot (set ws (request_index p r) n)).head
    request_head = high_head (request_index p r) (omega arith)

    pub next_changed : Changed p.requests (memory p slot ws).next (memory p slot (set ws (next_index p r) n)).next r n
    next_changed = record { here = get_or-set_same ws (next_index p r) n 0 (omega arith); else = λ j jl ne. get_or-set_other ws (next_index p r) (next_index p j) n 0 (λ q. ne (omega arith)) }

    pub request_changed : Changed p.requests (memory p slot ws).request (memory p slot (set ws (request_index p r) n)).request r n
    request_changed = record { here = get_or-set_same ws (request_index p r) n 0 (omega arith); else = λ j jl ne. get_or-set_other ws (request_index p r) (request_index p j) n 0 (λ q. ne (omega arith)) }

    pub next_request : Same p.requests (memory p slot ws).request (memory p slot (set ws (next_index p r) n)).request
    next_request j jl = get_or-set_other ws (next_index p r) (request_index p j) n 0 (λ q. omega arith)

    pub request_next : Same p.requests (memory p slot ws).next (memory p slot (set ws (request_index p r) n)).next
    request_next j jl = get_or-set_other ws (request_index p r) (next_index p j) n 0 (λ q. omega arith)

    pub next_place : Same (8 * p.operations) (λ l. get_or ws (place_index p l) 0) (λ l. get_or (set ws (next_index p r) n) (place_index p l) 0)
    next_place l ll = get_or-set_other ws (next_index p r) (place_index p l) n 0 (λ q. omega arith)

    pub request_place : Same (8 * p.operations) (λ l. get_or ws (place_index p l) 0) (λ l. get_or (set ws (request_index p r) n) (place_index p l) 0)
    request_place l ll = get_or-set_other ws (request_index p r) (place_index p l) n 0 (λ q. omega arith)

  module _ (l : ℕ) (ll : l < 8 * p.operations) where
    pub place_beside : Beside p slot ws (set ws (place_index p l) n)
    place_beside = high_beside (place_index p l) (omega arith)

    pub place_head : Same p.links (memory p slot ws).head (memory p slot (set ws (place_index p l) n)).head
    place_head = high_head (place_index p l) (omega arith)

    pub place_changed : Changed (8 * p.operations) (λ l. get_or ws (place_index p l) 0) (λ j. get_or (set ws (place_index p l) n) (place_index p j) 0) l n
    place_changed = record { here = get_or-set_same ws (place_index p l) n 0 (omega arith); else = λ j jl ne. get_or-set_other ws (place_index p l) (place_index p j) n 0 (λ q. ne (omega arith)) }

    pub place_next : Same p.requests (memory p slot ws).next (memory p slot (set ws (place_index p l) n)).next
    place_next j jl = get_or-set_other ws (place_index p l) (next_index p j) n 0 (λ q. omega arith)

    pub place_request : Same p.requests (memory p slot ws).request (memory p slot (set ws (place_index p l) n)).request
    place_request j jl = get_or-set_other ws (place_index p l) (request_index p j) n 0 (λ q. omega arith)

  -- the head of the slot that link k is in
  module _ (k i : ℕ) (at : slot k ≡ some i) (one_link : (k l j : ℕ) → slot k ≡ some j → slot l ≡ some j → k ≡ l) where
    pub head_beside : Beside p slot ws (set ws (head_index i) n)
    head_beside = let z : i < p.slots = in_slots k i at in record {
      long = length-set ws (head_index i) n;
      tags = λ j l. get_or-set_other ws (head_index i) (tag_index j) n 0 (λ q. omega arith);
      refs = λ j l. get_or-set_other ws (head_index i) (ref_index j) n 0 (λ q. omega arith);
      links = λ j l. get_or-set_other ws (head_index i) (link_index j) n 0 (λ q. omega arith);
      codes = λ j l. get_or-set_other ws (head_index i) (code_index j) n 0 (λ q. omega arith);
      names = λ j l. get_or-set_other ws (head_index i) (name_index p j) n 0 (λ q. omega arith);
      opens = λ j l. get_or-set_other ws (head_index i) (open_index p j) n 0 (λ q. omega arith);
      heads = λ j l ne. get_or-set_other ws (head_index i) (head_index j) n 0 (λ q. let same : i ≡ j = omega arith in ne k (at ∙ ap (λ (y : ℕ). some y) same));
    }

    pub head_changed : Changed p.links (memory p slot ws).head (memory p slot (set ws (head_index i) n)).head k (some n)
    head_changed = record {
      here = ap (head_at (set ws (head_index i) n)) at ∙ ap (λ (y : ℕ). some y) (let z : i < p.slots = in_slots k i at in get_or-set_same ws (head_index i) n 0 (omega arith));
      else = λ j jl ne. head_else ws (head_index i) n (slot j) (λ a e q. let same : a ≡ i = omega arith in ne (one_link j k i (e ∙ ap (λ (y : ℕ). some y) same) at));
    }

    pub next_same : Same p.requests (memory p slot ws).next (memory p slot (set ws (head_index i) n)).next
    next_same r rl = get_or-set_other ws (head_index i) (next_index p r) n 0 (λ q. let z : i < p.slots = in_slots k i at in omega arith)

    pub place_same : Same (8 * p.operations) (λ l. get_or ws (place_index p l) 0) (λ l. get_or (set ws (head_index i) n) (place_index p l) 0)
    place_same l ll = get_or-set_other ws (head_index i) (place_index p l) n 0 (λ q. let z : i < p.slots = in_slots k i at in omega arith)

    pub request_same : Same p.requests (memory p slot ws).request (memory p slot (set ws (head_index i) n)).request
    request_same r rl = get_or-set_other ws (head_index i) (request_index p r) n 0 (λ q. let z : i < p.slots = in_slots k i at in omega arith)
