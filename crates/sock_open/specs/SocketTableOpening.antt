-- A new table: its words, its homes, and what it may be made of.
use Rattle.std.specs.Prelude.{◌≡◌, ℕ, ◌+◌, ◌%◌, ◌<◌, ◌≤◌, false, List, [], length, slice_index, Vec, vec_len}
use Rattle.std.specs.Vec.{vec_capacity}
use Rattle.std.specs.Option.{ForSome}
use mathlib.Core.Option.{some}
use lib.ListN.{get_elem?}
use Rattle.sock_io.specs.declared.link.Out.{Ghosts}
use Rattle.sock_io.specs.LinkHalves.{OutState}
use Rattle.sock_words.specs.declared.plain.Plan.{Plan}
use Rattle.sock_words.specs.PackedWords.{vref_unused}
use Rattle.sock_model.specs.declared.home.Home.TheVariants as home
use Rattle.sock_model.specs.SocketTableLayout.{ref_index, all_words}
use Rattle.sock_rule.specs.declared.homes.SockHome.{SockHome}
use Rattle.sock_rule.specs.Shows.{shows_in}

-- the word of each slot stands at its first version, and all others are 0
pub record AreNewWords (p : Plan) (ws : List ℕ) : Type 0 where
  pub sized : length ws ≡ all_words p
  pub refs : (i : ℕ) → i < p.slots → slice_index ws (ref_index i) ≡ vref_unused p.first
  pub zeros : (x : ℕ) → ((i : ℕ) → i < p.slots → ¬ (x ≡ ref_index i)) → slice_index ws x ≡ 0

-- one writing half for each link, in order, which took nothing and isn't finished
pub record AreFresh {O : Type 0} (state : O → OutState) (p : Plan) (outs : List O) : Type 0 where
  pub count : length outs ≡ p.links
  pub each : (k : ℕ) (o : O) → get_elem? outs k ≡ some o → ((state o).link ≡ k) × ((state o).finished ≡ false) × ForSome (state o).took (λ bytes. bytes ≡ [])

-- each request's home, and then that of each link with its half, whose bytes go the way of the link
pub record AreNewHomes {O : Type 0} {g : Ghosts O} (p : Plan) (ways : List (List ℕ)) (xs : List (SockHome O g)) : Type 0 where
  pub count : length xs ≡ p.requests + p.links
  pub links : (k : ℕ) → k < p.links → (y : SockHome O g) × (get_elem? xs (p.requests + k) ≡ some y) × (shows_in p ways y ≡ home.Link k [] 0 false)

-- an empty list with room for n values
abbrev pub IsRoom : {T A : Type 0} → ℕ → Vec T A → Type 0
IsRoom n v = (v.items ≡ []) × (vec_len v ≡ 0) × (vec_capacity v ≡ n)

-- the library's limits, as far as they matter here
pub record MayBegin (p : Plan) : Type 0 where
  pub some_slots : 0 < p.slots
  pub some_seats : 1 ≤ p.seats
  pub few_seats : p.seats ≤ 64
  pub few_links : p.links ≤ 256
  pub even : p.first % 2 ≡ 0
  pub low : p.first ≤ 4294967292
