-- What a home shows of the value that it holds.
use Rattle.std.specs.Prelude.{ℕ, ◌≡◌, cond, List, [], get_or, bytes_eq}
use mathlib.Core.Option.{Option, some, none}
use Rattle.sock_words.specs.declared.plain.Plan.{Plan}
use Rattle.sock_io.specs.LinkHalves.{OutState}
use Rattle.sock_io.specs.declared.link.Out.{Ghosts}
use Rattle.message_parts.specs.Parcels.{parcel_of}
use Rattle.sock_model.specs.declared.home.Home.{Home}
use Rattle.sock_model.specs.declared.home.Home.TheVariants as home
use Rattle.sock_rule.specs.declared.homes.SockHome.{SockHome}
use Rattle.sock_rule.specs.declared.homes.Letter.{Letter}
use Rattle.sock_rule.specs.declared.homes.SockHome.TheVariants.{Empty, Link, Message, Ways}
use Rattle.sock_model.specs.declared.chain.Heading.{Heading}

abbrev pub heading_of : Letter → Heading
heading_of m = record { label = m.label; owner = m.owner; parts = (parcel_of m.bytes).parts }

abbrev pub shows : {O : Type 0} {g : Ghosts O} → SockHome O g → Home
shows Empty = home.Empty
shows {O} {g} (Link h) = home.Link (g.state h.out).link h.took.list h.next (g.state h.out).finished
shows (Message m) = home.Message (heading_of m) (parcel_of m.bytes).bytes
shows (Ways w) = home.Empty

-- ## Which way the bytes of each link go

abbrev pub way_at : List (List ℕ) → ℕ → List ℕ
way_at ways k = get_or ways k []

-- a half shows the number of its link, where its bytes go the way of that link, and else a number that is no link's
abbrev pub number_in : Plan → List (List ℕ) → OutState → ℕ
number_in p ways o = cond (bytes_eq (way_at ways o.link) o.way) o.link p.links

abbrev pub shows_in : {O : Type 0} {g : Ghosts O} → Plan → List (List ℕ) → SockHome O g → Home
shows_in p ways Empty = home.Empty
shows_in {O} {g} p ways (Link h) = home.Link (number_in p ways (g.state h.out)) h.took.list h.next (g.state h.out).finished
shows_in p ways (Message m) = home.Message (heading_of m) (parcel_of m.bytes).bytes
shows_in p ways (Ways w) = home.Empty

-- these ways are said
abbrev pub SaysWays : {O : Type 0} {g : Ghosts O} → List (List ℕ) → SockHome O g → Type 0
SaysWays ways (Ways w) = w.list ≡ ways
SaysWays ways other = ⊥

abbrev pub SaidWays : {O : Type 0} {g : Ghosts O} → List (List ℕ) → Option (SockHome O g) → Type 0
SaidWays ways (some y) = SaysWays ways y
SaidWays ways none = ⊥

-- how many faults the half has that lies there
abbrev pub rose : {O : Type 0} {g : Ghosts O} → SockHome O g → ℕ
rose Empty = 0
rose {O} {g} (Link h) = (g.state h.out).faults
rose (Message m) = 0
rose (Ways w) = 0
