-- What each step on the chains, each with its kind's name (`Kind` of sock_words), does to the view of the seat that makes it.
use Rattle.std.specs.Prelude.{ℕ, suc, ◌+◌, ◌-◌, ◌/◌, ◌==◌, true, false, cond, not, List, [], ◌∷◌, ◌++◌}
use Rattle.std.specs.List.{filter}
use Rattle.sock_model.specs.declared.chain.Heading.{Heading}
use Rattle.sock_model.specs.declared.chain.Entry.{Entry}
use Rattle.sock_model.specs.declared.chain.Right.{Right}
use Rattle.sock_model.specs.declared.chain.Claim.{Claim}
use Rattle.sock_model.specs.declared.chain.Loose.{Loose}
use Rattle.sock_model.specs.declared.chain.Stage.{Stage}
use Rattle.sock_model.specs.declared.chain.Stage.TheVariants.{Writes, Placed, Passes, Empties, Reversing, ReversesNext}
use Rattle.sock_model.specs.declared.view.View.{View}
use Rattle.sock_model.specs.declared.view.Hand.{Hand}
use Rattle.sock_model.specs.Marks.{without_pass}
use Rattle.sock_model.specs.Entries.{ticket}
use Rattle.sock_model.specs.LinkWritingState.{loose_of}
use Rattle.sock_words.specs.PackedWords.{IDLE}

-- the claim c is the seat's one
abbrev pub with_claim : View → Claim → View
with_claim v c = record v { claims = c ∷ [] }

-- C1: the claim of request r for a message to link k, which found this word: nothing is at home yet
abbrev pub fresh_claim : (k r found : ℕ) → Heading → List ℕ → Claim
fresh_claim k r found heading bytes = record { link = k; request = r; generation = found / 2; filled = false; ready = false; heading = heading; bytes = bytes }

-- M1: the message is at home
abbrev pub filled_claim : Claim → Heading → List ℕ → Claim
filled_claim c heading bytes = record c { filled = true; heading = heading; bytes = bytes }

-- C7: its next word is marked as not connected
abbrev pub ready_claim : Claim → Claim
ready_claim c = record c { ready = true }

-- the entry that the claim becomes
abbrev pub entry_of : Claim → ℕ → Entry
entry_of c before = record { link = c.link; request = c.request; generation = c.generation; before = before; heading = c.heading; bytes = c.bytes }

-- an entry more in the own list
abbrev pub more : List (List Entry) → Entry → List (List Entry)
more [] e = []
more (l ∷ ls) e = (l ++ e ∷ []) ∷ ls

-- C2: the exchange found a busy head
abbrev pub queued : View → Claim → ℕ → View
queued v c found = record v { claims = []; loose = loose_of (entry_of c found) ∷ v.loose; lists = more v.lists (entry_of c found) }

-- C2: the right of whoever found an idle head
abbrev pub new_right : Claim → ℕ → List ℕ → ℕ → Right
new_right c found sent places = let e = entry_of c (found - IDLE) in
    record { link = c.link; last = ticket e; stage = Writes (ticket e); clean = false; at_home = true; taken = false; places = places; sent = sent; heading = c.heading; bytes = []; put = 0; turned = 0; noted = suc places }

abbrev pub righted : View → Claim → ℕ → List ℕ → ℕ → View
righted v c found sent places = record v { claims = []; rights = new_right c found sent places ∷ v.rights; lists = more v.lists (entry_of c (found - IDLE)) }

-- C3: the request is connected
abbrev pub without_loose : View → ℕ → View
without_loose v r = record v { loose = filter (λ (x : Loose). not (x.request == r)) v.loose }

-- the right to write r.link is now r
abbrev pub with_right : View → Right → View
with_right v r = record v { rights = r ∷ filter (λ (x : Right). not (x.link == r.link)) v.rights }

-- C4, where the head has no newer ticket
abbrev pub without_right : View → ℕ → View
without_right v k = record v { rights = filter (λ (x : Right). not (x.link == k)) v.rights }

-- C4: the head had this newer ticket, from which the walk begins
abbrev pub walking_right : Right → ℕ → Right
walking_right r top = record r { stage = Reversing top top 0 }

-- C5: the next word of `now`, which has its place, was read
abbrev pub passing_right : Right → (now next : ℕ) → Right
passing_right r now next = record r { stage = Passes now next }

-- C5: the next word at which the walk stands was read
abbrev pub reading_right : Right → (top at after before : ℕ) → Right
reading_right r top at after before = record r { stage = ReversesNext top at after before }

-- what comes once the entry that has its place gave its request back: the next one, or the head
abbrev pub freed_stage : Stage → Stage
freed_stage (Passes now next) = Writes next
freed_stage other = Empties

-- C8: the request was given back
abbrev pub freed_right : Right → Right
freed_right r = record r { stage = freed_stage r.stage }

-- C6: the walk turned the next word of `at`
abbrev pub turned_right : Right → ℕ → ℕ → ℕ → Right
turned_right r top at before = cond (before == r.last) (record r { last = top; stage = Writes at; turned = 0; noted = r.noted + suc r.turned }) (record r { stage = Reversing top before at; turned = suc r.turned })

-- P1: the message in hand got its place, whole or dropped; `sent` is what the link took of it
abbrev pub placed_right : Right → ℕ → Right
placed_right r now = record r { stage = Placed now; taken = false; places = suc r.places; sent = r.sent ++ r.bytes; put = 0 }

abbrev pub dropped_right : Right → ℕ → List ℕ → Right
dropped_right r now sent = record r { stage = Placed now; taken = false; clean = false; places = suc r.places; sent = sent; put = 0 }

-- M2: the message of the first entry without a place is in hand
abbrev pub taken_right : Right → Heading → List ℕ → Right
taken_right r label bytes = record r { taken = true; heading = label; bytes = bytes; put = 0 }

-- W1: the link took so many bytes more of the message in hand
abbrev pub put_right : Right → ℕ → Right
put_right r n = record r { put = r.put + n }

-- L1 and L2: a link comes into a hand that belongs to no right, and goes home again
abbrev pub with_hand : View → Hand → View
with_hand v h = record v { hands = h ∷ v.hands }

abbrev pub without_hand : View → ℕ → View
without_hand v k = record v { hands = filter (λ (x : Hand). not (x.link == k)) v.hands }

-- L1, where the link's pass is spent for it
abbrev pub spent_hand : View → Hand → View
spent_hand v h = record v { passes = without_pass h.link v.passes; hands = h ∷ v.hands }
