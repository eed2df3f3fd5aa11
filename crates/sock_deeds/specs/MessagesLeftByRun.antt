-- What a run leaves of messages: those of each link in their order, and how many of them it took whole.
use Rattle.std.specs.Prelude.{ℕ, ◌/◌, ◌%◌, false, List, ◌++◌, map, replicate}
use mathlib.Core.Option as core
use Rattle.sock_words.specs.declared.plain.Plan.{Plan}
use Rattle.sock_model.specs.declared.chain.Entry.{Entry}
use Rattle.sock_model.specs.declared.home.Home.{Home}
use Rattle.sock_model.specs.declared.home.Home.TheVariants.{Link}
use Rattle.sock_model.specs.Entries.{on}
use Rattle.seat_programs.specs.ScheduledRuns.{from_to}
use Rattle.seat_programs.specs.ExplainedCalls.{Accepted, Order}

-- each link lies at home with what it took
abbrev pub homes_of : Plan → (ℕ → List ℕ) → List (core.Option Home)
homes_of p took = replicate p.requests core.none ++ map (λ k. core.some (Link k (took k) 0 false)) (from_to 0 p.links)

-- an entry's place index is eight times its operation's number among all, plus the attempt
abbrev pub accepted_of : Entry → Accepted
accepted_of e = record { operation = e.heading.label.place / 8; attempt = e.heading.label.place % 8; bytes = e.bytes }

-- the messages of each link, of which it took so many whole
abbrev pub orders_of : List Entry → (ℕ → ℕ) → ℕ → Order
orders_of log kept k = record { accepted = map accepted_of (on k log); placed = kept k }
