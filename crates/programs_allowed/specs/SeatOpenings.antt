-- What each seat has as a run begins: a client the passes of the links that it opens, seat 0 besides those that nobody opens, and a reader none.
use Rattle.std.specs.Prelude.{ℕ, ◌-◌, List, [], ◌∷◌, ◌++◌, length, map, replicate}
use Rattle.sock_words.specs.declared.plain.Plan.{Plan}
use Rattle.sock_model.specs.declared.view.View.{View}
use Rattle.sock_model.specs.Marks.{without_pass}
use Rattle.sock_model.specs.ViewsOfSplitSeats.{newcomer, below}
use Rattle.seat_programs.specs.declared.task.Op.{Op}
use Rattle.seat_programs.specs.declared.task.Op.TheVariants as ops
use Rattle.seat_programs.specs.declared.task.Task.{Task}

-- the link of an `open`
abbrev pub link_of : Op → List ℕ
link_of (ops.Open name k) = k ∷ []
link_of other = []

-- the links that these tasks open
abbrev pub links_of : List Task → List ℕ
links_of [] = []
links_of (t ∷ ts) = link_of t.op ++ links_of ts

abbrev pub links_of_all : List (List Task) → List ℕ
links_of_all [] = []
links_of_all (ts ∷ clients) = links_of ts ++ links_of_all clients

-- passes without those of these links
abbrev pub without_passes : List ℕ → List ℕ → List ℕ
without_passes [] passes = passes
without_passes (k ∷ ks) passes = without_passes ks (without_pass k passes)

-- the view of a client with these tasks
abbrev pub client_view : Plan → List Task → View
client_view p ts = newcomer p (links_of ts) 0

-- the views of all seats, whose tasks these are
abbrev pub opening_views : Plan → List (List Task) → List View
opening_views p [] = []
opening_views p (ts ∷ clients) = newcomer p (without_passes (links_of_all clients) (below p.links)) (511 - length clients) ∷ map (client_view p) clients

-- behind the seats of the clients stand those of so many readers, from seat 32 on, which have no tasks
abbrev pub all_seats : List (List Task) → ℕ → List (List Task)
all_seats clients readers = clients ++ (replicate (32 - length clients) [] ++ replicate readers [])
