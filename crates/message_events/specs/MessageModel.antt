-- The plain model of messages: which of them each link accepted and in what order, how many of these have places, what the link took, and which requests are taken; and what may happen to them.
use Rattle.std.specs.Prelude.{◌≡◌, ◌≢◌, ℕ, suc, ◌+◌, ◌*◌, ◌%◌, ◌<◌, ◌≤◌, ◌⊎◌, List, [], ◌∷◌, ◌++◌, length}
use mathlib.Core.Option.{some}
use lib.ListN.{get_elem?}
use Rattle.sock_words.specs.declared.plain.Plan.{Plan}
use Rattle.sock_model.specs.declared.chain.Entry.{Entry}
use Rattle.sock_model.specs.Entries.{nth}
use Rattle.sock_model.specs.Deliveries.{whole, Taken}

-- ## Messages

pub record Messages : Type 0 where
  -- those that links accepted
  pub accepted : List Entry
  -- of each link, how many have places, and what it took
  pub placed : ℕ → ℕ
  pub took : ℕ → List ℕ
  -- of each request twice how often it was given back, and one more where it is taken
  pub request : ℕ → ℕ

abbrev pub Has : List Entry → Entry → Type 0
Has es e = (n : ℕ) × (get_elem? es n ≡ some e)

-- the order of link k: each message stands behind that whose ticket it found in the head, and the first one found none
pub record IsOrder (q : Messages) (k : ℕ) (es : List Entry) : Type 0 where
  pub each : (i : ℕ) (e : Entry) → get_elem? es i ≡ some e → Has q.accepted e × (e.link ≡ k) × (e.before ≡ nth es i)
  pub all : (e : Entry) → Has q.accepted e → e.link ≡ k → (i : ℕ) × (get_elem? es i ≡ some e)

-- ## What may happen

pub data Event : Type 0 where
  Nothing : Event
  -- a request is taken
  Claim : ℕ → Event
  -- a link accepts a message
  Accept : Entry → Event
  -- it takes these bytes
  Take : ℕ → List ℕ → Event
  -- its first message without a place gets it, taken whole or dropped
  Place : ℕ → Event
  Dropped : ℕ → Event
  -- a request is given back
  Free : ℕ → Event

-- when each may happen
abbrev pub MayCome : Messages → Event → Type 0
MayCome q Nothing = Unit {0}
MayCome q (Claim r) = q.request r % 2 ≡ 0
-- the message found the last one of its link in the head
MayCome q (Accept e) = (es : List Entry) × IsOrder q e.link es × (e.before ≡ nth es (length es)) × (q.request e.request ≡ 2 * e.generation + 1)
-- all that have places were taken whole, and the bytes go on where the link stands in the next one
MayCome q (Take k bytes) = (es : List Entry) × (e : Entry) × (part : List ℕ) × (rest : List ℕ) × IsOrder q k es × (get_elem? es (q.placed k) ≡ some e) × (q.took k ≡ whole es (q.placed k) ++ part) × (e.bytes ≡ part ++ bytes ++ rest) × (bytes ≢ [])
MayCome q (Place k) = (es : List Entry) × IsOrder q k es × (q.placed k < length es) × (q.took k ≡ whole es (suc (q.placed k)))
-- the link took so many of them whole, and of the next one a part at most
MayCome q (Dropped k) = (es : List Entry) × (kept : ℕ) × IsOrder q k es × (q.placed k < length es) × (kept ≤ q.placed k) × Taken es kept (q.took k)
-- its message has a place
MayCome q (Free r) = (es : List Entry) × (e : Entry) × (i : ℕ) × IsOrder q e.link es × (get_elem? es i ≡ some e) × (i < q.placed e.link) × (e.request ≡ r) × (q.request r ≡ 2 * e.generation + 1)

-- ## What each changes

abbrev pub IsIn : Messages → Event → Entry → Type 0
IsIn q (Accept e) d = Has q.accepted d ⊎ (d ≡ e)
IsIn q other d = Has q.accepted d

abbrev pub placed_after : Messages → Event → ℕ → ℕ → Type 0
placed_after q (Place k) j n = ((j ≡ k) × (n ≡ suc (q.placed k))) ⊎ ((j ≢ k) × (n ≡ q.placed j))
placed_after q (Dropped k) j n = ((j ≡ k) × (n ≡ suc (q.placed k))) ⊎ ((j ≢ k) × (n ≡ q.placed j))
placed_after q other j n = n ≡ q.placed j

abbrev pub took_after : Messages → Event → ℕ → List ℕ → Type 0
took_after q (Take k bytes) j t = ((j ≡ k) × (t ≡ q.took k ++ bytes)) ⊎ ((j ≢ k) × (t ≡ q.took j))
took_after q other j t = t ≡ q.took j

abbrev pub request_after : Messages → Event → ℕ → ℕ → Type 0
request_after q (Claim r) s n = ((s ≡ r) × (n ≡ suc (q.request r))) ⊎ ((s ≢ r) × (n ≡ q.request s))
request_after q (Free r) s n = ((s ≡ r) × (n ≡ suc (q.request r))) ⊎ ((s ≢ r) × (n ≡ q.request s))
request_after q other s n = n ≡ q.request s

-- the event happens, and leads from one state of these links and requests to the next
pub record Becomes (p : Plan) (before : Messages) (event : Event) (after : Messages) : Type 0 where
  pub may : MayCome before event
  pub accepted : (d : Entry) → (IsIn before event d → Has after.accepted d) × (Has after.accepted d → IsIn before event d)
  pub placed : (k : ℕ) → k < p.links → placed_after before event k (after.placed k)
  pub took : (k : ℕ) → k < p.links → took_after before event k (after.took k)
  pub request : (r : ℕ) → r < p.requests → request_after before event r (after.request r)

-- these events happen one after another
abbrev pub Leads : Plan → Messages → List Event → Messages → Type 0
Leads p before [] after = after ≡ before
Leads p before (event ∷ events) after = (next : Messages) × Becomes p before event next × Leads p next events after
