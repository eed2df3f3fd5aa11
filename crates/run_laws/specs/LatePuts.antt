-- Behind the step after which a link or its socket is failed, at most one put goes into the link, and its look came before that step.
use Rattle.std.specs.Prelude.{ℕ, ◌≡◌, ◌≢◌, ◌<◌, ◌%◌, ◌⊎◌, List, take, Contains, slice_index}
use mathlib.Core.Option.{none, some}
use lib.ListN.{get_elem?}
use Rattle.sock_words.specs.declared.plain.Plan.{Plan}
use Rattle.sock_words.specs.PackedWords.{socket_id_version, socket_id_slot, vref_version}
use Rattle.sock_model.specs.SocketTableLayout.{ref_index, link_index}
use Rattle.seat_programs.specs.TableSteps.{OnSlot, SetOdd, LookWord}
use Rattle.seat_programs.specs.Programs.{Program, Do, Rest, PutBytes}
use Rattle.seat_programs.specs.Cores.{Core}
use Rattle.seat_programs.specs.Ticks.{Moment, run, broken_at}
use Rattle.seat_programs.specs.LoopRounds.{first_step}

-- ## Steps of a tick

-- the step that the seat of a tick makes, where it has one left
abbrev pub next_at : Core → Moment → Program
next_at c m = elim (get_elem? c.seats m.seat) as (λ o. Program) [ none ↦ Rest | some seat ↦ first_step seat.program ]

-- a put into link k, whatever it is answered
abbrev pub PutsInto : ℕ → Program → Type 0
PutsInto k (PutBytes l asked bytes next) = l ≡ k
PutsInto k other = ⊥

-- a look that finds the life of the id live, which has link k
abbrev pub LooksLive : List ℕ → ℕ → Program → Type 0
LooksLive ws k (Do (OnSlot (LookWord id)) next) = (vref_version (slice_index ws (ref_index (socket_id_slot id))) ≡ socket_id_version id) × (socket_id_version id % 2 ≡ 0) × (slice_index ws (link_index (socket_id_slot id)) ≡ k)
LooksLive ws k other = ⊥

-- the version of the socket with link k becomes odd
abbrev pub FailsSocket : List ℕ → ℕ → Program → Type 0
FailsSocket ws k (Do (OnSlot (SetOdd i)) next) = (vref_version (slice_index ws (ref_index i)) % 2 ≡ 0) × (slice_index ws (link_index i) ≡ k)
FailsSocket ws k other = ⊥

abbrev pub Puts : Core → Moment → ℕ → Type 0
Puts c m k = PutsInto k (next_at c m)

abbrev pub Looks : Core → Moment → ℕ → Type 0
Looks c m k = LooksLive c.words k (next_at c m)

-- behind this tick link k or its socket is failed: its version was made odd, or the link answered that it failed
abbrev pub Fails : Core → Moment → ℕ → Type 0
Fails c m k = FailsSocket c.words k (next_at c m) ⊎ Contains (broken_at c m) k

-- ## A run

module _ (p : Plan) (c : Core) (moments : List Moment) where
  -- all seats before the n-th tick
  abbrev pub before : ℕ → Core
  before n = run p c (take n moments)

  -- the n-th tick is this one, and it is a put into link k
  abbrev pub PutAt : ℕ → ℕ → Moment → Type 0
  PutAt k n m = (get_elem? moments n ≡ some m) × Puts (before n) m k

  abbrev pub FailAt : ℕ → ℕ → Moment → Type 0
  FailAt k n m = (get_elem? moments n ≡ some m) × Fails (before n) m k

  -- the last tick of this seat before the n-th one is a look that found the socket of link k live
  pub record LookBefore (k n seat : ℕ) : Type 0 where
    pub place : ℕ
    pub moment : Moment
    pub there : get_elem? moments place ≡ some moment
    pub earlier : place < n
    pub own : moment.seat ≡ seat
    pub live : Looks (before place) moment k
    pub last : (i : ℕ) (m : Moment) → place < i → i < n → get_elem? moments i ≡ some m → m.seat ≢ seat

  pub record PutsInTime : Type 0 where
    -- each put comes directly behind a look of its own seat, which found the socket live
    pub looked : (k n : ℕ) (m : Moment) → PutAt k n m → LookBefore k n m.seat
    -- behind a failure that look came before it,
    pub early : (k f n : ℕ) (a m : Moment) → FailAt k f a → PutAt k n m → f < n → LookBefore k f m.seat
    -- at most one put goes out,
    pub one : (k f n j : ℕ) (a m d : Moment) → FailAt k f a → PutAt k n m → PutAt k j d → f < n → f < j → n ≡ j
    -- and none once the link itself answered that it failed
    pub none_ : (k f n : ℕ) (a m : Moment) → get_elem? moments f ≡ some a → Contains (broken_at (before f) a) k → PutAt k n m → f < n → ⊥
