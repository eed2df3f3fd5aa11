-- The rule of a table that threads share: the rule of the sockets, and what the views keep beside it.
use Rattle.std.specs.Prelude.{◌≡◌, ℕ, ◌+◌, ◌*◌, ◌%◌, true, ◌<◌, ◌≤◌, List, [], ◌++◌, length, slice_index}
use mathlib.Core.Option.{Option, some}
use lib.ListN.{get_elem?}
use Rattle.atomic_table.specs.Table.{State}
use Rattle.sock_words.specs.declared.plain.Plan.{Plan}
use Rattle.sock_model.specs.declared.home.Home.{Home}
use Rattle.sock_model.specs.declared.chain.Claim.{Claim}
use Rattle.sock_model.specs.declared.chain.Entry.{Entry}
use Rattle.sock_model.specs.declared.chain.Heading.{Heading}
use Rattle.sock_model.specs.declared.view.View.{View}
use Rattle.sock_model.specs.declared.view.StoredWord.{StoredWord}
use Rattle.sock_model.specs.MarkWeights.{only, pair}
use Rattle.sock_model.specs.Marks.{latest}
use Rattle.sock_model.specs.SocketTableLayout.{code_index, request_index, place_index}
use Rattle.sock_model.specs.ViewsOfSplitSeats.{first_view}
use Rattle.sock_model.specs.Rule.{lists_of, Rule}
use Rattle.sock_rule.specs.LinkFaultNotes.{LinkFaults}
use Rattle.sock_words.specs.PackedWords.{DROPPED}
use Rattle.sock_words.specs.Totals.{total}

abbrev pub share_of : View → ℕ
share_of v = v.share

-- how often this word was stored at this place
abbrev pub is_put : ℕ → ℕ → StoredWord → ℕ
is_put x w n = pair x w n.place n.word

abbrev pub put_in : ℕ → ℕ → View → ℕ
put_in x w v = total (total (is_put x w)) v.stores

-- a seat that stands for none has at most passes
pub record IsIdle (v : View) : Type 0 where
  pub marks : v.marks ≡ []
  pub lists : v.lists ≡ []
  pub finds : v.finds ≡ []
  pub stores : (x w : ℕ) → put_in x w v ≡ 0
  pub claims : v.claims ≡ []
  pub loose : v.loose ≡ []
  pub rights : v.rights ≡ []
  pub hands : v.hands ≡ []

-- what each seat found at a name or an operation was stored there by one of the seats
abbrev pub FindsWere : List View → View → Type 0
FindsWere views v = (n : ℕ) (x : StoredWord) → get_elem? v.finds n ≡ some x → 0 < total (put_in x.place x.word) views

-- what was stored later stands before what was stored earlier
abbrev pub Follows : List StoredWord → List StoredWord → Type 0
Follows all before = (more : List StoredWord) × (all ≡ more ++ before)

-- how many of the messages that a view's lists have are of the label with this place index
abbrev pub is_labelled : ℕ → Entry → ℕ
is_labelled l e = only l e.heading.label.place

abbrev pub labelled_in : ℕ → View → ℕ
labelled_in l v = total (total (is_labelled l)) v.lists

-- 1 where what stands with the accepted message is of this place index, attempt and owner
abbrev pub is_headed : Heading → Entry → ℕ
is_headed h e = only h.label.place e.heading.label.place * pair h.label.attempt h.owner e.heading.label.attempt e.heading.owner

abbrev pub headed_in : Heading → View → ℕ
headed_in h v = total (total (is_headed h)) v.lists

-- each message that a seat dropped had been accepted
abbrev pub DropsWere : List View → View → Type 0
DropsWere views v = (n : ℕ) (h : Heading) → get_elem? v.drops n ≡ some h → 0 < total (headed_in h) views

-- of the word of the place index l: a seat noted that it stored it, where it has the dropped bit, and what a seat noted so is the word still, unless two accepted messages have this index
pub record IsDropKept (p : Plan) (views : List View) (l word : ℕ) : Type 0 where
  pub told : DROPPED ≤ word → 0 < total (put_in (place_index p l) word) views
  pub stays : total (labelled_in l) views ≤ 1 → (n : ℕ) → 0 < total (put_in (place_index p l) n) views → (word ≡ n) × (DROPPED ≤ n)

-- each code is below 4096, and a request that isn't taken has its home there: a seat that claims one takes its home with it, gives it back with the message in it, takes it
-- with the message, and gives it back where it frees the request
pub record Settled {S : Type 0} (p : Plan) (stored : List StoredWord) (placed : ℕ → ℕ) (ws : List ℕ) (hs : List (Option S)) : Type 0 where
  -- the word of a name or of an operation is what was stored there last
  pub names : (x : ℕ) → 6 * p.slots ≤ x → x < 6 * p.slots + p.names + p.operations → slice_index ws x ≡ latest x stored
  -- the word of each place index is the one that is looked at beside what was noted of it
  pub places : (l : ℕ) → l < 8 * p.operations → slice_index ws (place_index p l) ≡ placed l
  pub codes : (i : ℕ) → i < p.slots → slice_index ws (code_index i) < 4096
  pub present : (r : ℕ) → r < p.requests → slice_index ws (request_index p r) % 2 ≡ 0 → (y : S) × (get_elem? hs r ≡ some (some y))

-- the label of each message that a seat had accepted, or that its claim has, is of a place word of the table
pub record LabelledIn (p : Plan) (lists : List (List Entry)) (claims : List Claim) : Type 0 where
  pub entries : (n : ℕ) (l : List Entry) → get_elem? lists n ≡ some l → (i : ℕ) (e : Entry) → get_elem? l i ≡ some e → e.heading.label.place < 8 * p.operations
  pub claimed : (i : ℕ) (c : Claim) → get_elem? claims i ≡ some c → c.filled ≡ true → c.heading.label.place < 8 * p.operations

abbrev pub Labelled : Plan → View → Type 0
Labelled p v = LabelledIn p v.lists v.claims

-- `shows` tells what a value at home is, and `rose` how many faults it has where it is a link's half
module _ {S : Type 0} (shows : S → Home) (rose : S → ℕ) where
  pub record OnTable (p : Plan) (s : State S View) : Type 0 where
    -- the rule of the sockets
    pub rule : Rule shows p s
    -- each request has a home, and then each link
    pub housed : length s.homes ≡ p.requests + p.links
    -- all views together stand for the seats of the table
    pub shares : total share_of s.views ≡ p.seats
    -- each view keeps a list of accepted messages for each seat at most for which it stands
    pub listed : (id : ℕ) (v : View) → get_elem? s.views id ≡ some v → lists_of v ≤ v.share
    -- one that stands for none has nothing but passes
    pub idle : (id : ℕ) (v : View) → get_elem? s.views id ≡ some v → v.share ≡ 0 → IsIdle v
    -- codes and the homes of requests
    -- all that was stored at names and operations, the latest first: what the seats stored, and nothing else
    pub stored : List StoredWord
    pub put : (x w : ℕ) → total (is_put x w) stored ≡ total (put_in x w) s.views
    -- the words of the place indexes, and what the seats noted of drops
    pub placed : ℕ → ℕ
    pub drops : (l : ℕ) → l < 8 * p.operations → IsDropKept p s.views l (placed l)
    pub settled : Settled p stored placed s.words s.homes
    -- which goes on behind what each seat met
    pub met : (id : ℕ) (v : View) → get_elem? s.views id ≡ some v → (n : ℕ) (h : List StoredWord) → get_elem? v.histories n ≡ some h → Follows stored h
    -- labels
    pub labelled : (id : ℕ) (v : View) → get_elem? s.views id ≡ some v → Labelled p v
    -- faults and ends of links
    pub faults : (k : ℕ) → k < p.links → LinkFaults shows rose p s k
    -- what was found was stored
    pub found_was : (id : ℕ) (v : View) → get_elem? s.views id ≡ some v → FindsWere s.views v
    -- and what was dropped was accepted
    pub dropped_was : (id : ℕ) (v : View) → get_elem? s.views id ≡ some v → DropsWere s.views v

-- the first seat stands for all, and has all passes
abbrev pub opener : Plan → View
opener p = record (first_view p) { share = p.seats }
