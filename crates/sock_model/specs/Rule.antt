-- The whole rule: what is lawful, and what the views keep beside it.
use Rattle.std.specs.Prelude.{◌≡◌, ◌≢◌, ℕ, ◌<◌, ◌≤◌, ◌⊎◌, List, ◌∷◌, length, slice_index}
use mathlib.Core.Option.{some}
use lib.ListN.{get_elem?}
use Rattle.atomic_table.specs.Table.{State}
use Rattle.sock_words.specs.declared.plain.Plan.{Plan}
use Rattle.sock_model.specs.declared.chain.Entry.{Entry}
use Rattle.sock_model.specs.declared.home.Home.{Home}
use Rattle.sock_model.specs.declared.view.View.{View}
use Rattle.sock_model.specs.SocketTableLayout.{name_index, open_index, request_index}
use Rattle.sock_model.specs.ViewsOfSplitSeats.{spent}
use Rattle.sock_model.specs.LawfulSockets.{Lawful}
use Rattle.sock_words.specs.Totals.{total}

-- ## Words that were found

-- the place of a word that is never 0 again once it isn't: of a name, of an `open`, or of a request
pub data Lasting (p : Plan) (x : ℕ) : Type 0 where
  of_name : (n : ℕ) → n < p.names → x ≡ name_index p n → Lasting p x
  of_open : (o : ℕ) → o < p.operations → x ≡ open_index p o → Lasting p x
  of_request : (q : ℕ) → q < p.requests → x ≡ request_index p q → Lasting p x

-- where a seat found or left such a word other than 0, it isn't 0: the name or the `open` has its id, and the request is taken or was given back
abbrev pub FoundWords : Plan → List ℕ → View → Type 0
FoundWords p ws v = (n x : ℕ) → get_elem? v.found n ≡ some x → Lasting p x × (slice_index ws x ≢ 0)

-- the seat notes that it found such a word
abbrev pub noting : ℕ → View → View
noting x v = record v { found = x ∷ v.found }

-- ## Places of messages in the order of their link

-- how many messages one seat may have accepted
abbrev pub MOST_ACCEPTED : ℕ
MOST_ACCEPTED = 33554432

abbrev pub AreShort : View → Type 0
AreShort v = (n : ℕ) (l : List Entry) → get_elem? v.lists n ≡ some l → length l ≤ MOST_ACCEPTED

abbrev pub lists_of : View → ℕ
lists_of v = length v.lists

-- all links together accept so few messages that each place fits into 32 bits
pub record FewMessages (p : Plan) (views : List View) : Type 0 where
  -- a table has so many seats at most
  pub few_seats : p.seats ≤ 64
  -- each keeps one list of the messages that it had accepted, also in the view of whoever took it in
  pub few_lists : total lists_of views ≤ p.seats
  -- none of which is longer than it may be
  pub short : (id : ℕ) (v : View) → get_elem? views id ≡ some v → AreShort v

-- ## The rule

module _ {S : Type 0} (shows : S → Home) where
  pub record Rule (p : Plan) (s : State S View) : Type 0 where
    pub lawful : Lawful shows p s
    -- each view is of this table, or it was taken in by another
    pub plans : (id : ℕ) (v : View) → get_elem? s.views id ≡ some v → (v.plan ≡ p) ⊎ (v ≡ spent)
    -- what seats found other than 0 stays so
    pub found_words : (id : ℕ) (v : View) → get_elem? s.views id ≡ some v → FoundWords p s.words v
    pub few_messages : FewMessages p s.views
