-- Faults of links, as seats note them. On a table that threads share no seat adds to a word of waiting bytes, so the mark of that is free for this note: it counts for no law of the slots.
use Rattle.std.specs.Prelude.{◌≡◌, ℕ, zero, suc, ◌+◌, ◌<◌, ◌==◌, cond, List, [], ◌∷◌}
use mathlib.Core.Option.{Option, some}
use lib.ListN.{get_elem?}
use Rattle.atomic_table.specs.Table.{State}
use Rattle.sock_words.specs.declared.plain.Plan.{Plan}
use Rattle.sock_model.specs.declared.chain.Right.{Right}
use Rattle.sock_model.specs.declared.home.Home.{Home}
use Rattle.sock_model.specs.declared.home.Home.TheVariants.{Link}
use Rattle.sock_model.specs.declared.marks.Mark.{Mark}
use Rattle.sock_model.specs.declared.marks.Mark.TheVariants.{Handed}
use Rattle.sock_model.specs.declared.marks.SlotMark.{SlotMark}
use Rattle.sock_model.specs.declared.view.View.{View}
use Rattle.sock_model.specs.MarkWeights.{only}
use Rattle.sock_model.specs.Marks.{at}
use Rattle.sock_model.specs.ChainLawReads.{hands_of}
use Rattle.sock_io.specs.LinkHalves.{OutState}
use Rattle.sock_rule.specs.Shows.{way_at}
use Rattle.sock_words.specs.Totals.{total}

-- the note that the half of link k has a fault
abbrev pub fault : ℕ → Mark
fault k = Handed 0 k

abbrev pub is_fault : ℕ → Mark → ℕ
is_fault k (Handed _ l) = only k l
is_fault k _ = 0

abbrev pub faults_link : ℕ → SlotMark → ℕ
faults_link k e = is_fault k e.mark

-- how often the seat noted it
abbrev pub faults_of : ℕ → View → ℕ
faults_of k v = total (faults_link k) v.marks

abbrev pub noting_fault : ℕ → ℕ → View → View
noting_fault i k v = record v { marks = at i (fault k) ∷ v.marks }

-- a seat that takes a link in hand notes it where the half has n faults, and there are some
abbrev pub fault_found : ℕ → ℕ → ℕ → View → View
fault_found zero i k v = v
fault_found (suc n) i k v = noting_fault i k v

-- and without the last such note, where it was for that time alone
abbrev pub without_fault : ℕ → List SlotMark → List SlotMark
without_fault k [] = []
without_fault k (e ∷ es) = cond (faults_link k e == 0) (e ∷ without_fault k es) es

abbrev pub fault_left : ℕ → ℕ → View → View
fault_left zero k v = v
fault_left (suc n) k v = record v { marks = without_fault k v.marks }

-- the half that came out of the home of link k has that number and goes the way of that link, and has faults where the seat noted one
pub record CameOut (p : Plan) (ways : List (List ℕ)) (k : ℕ) (v : View) (o : OutState) : Type 0 where
  pub link_is : o.link ≡ k
  pub link_in : k < p.links
  pub way_is : o.way ≡ way_at ways k
  pub known : 0 < faults_of k v → 0 < o.faults

-- ## Ends of links

-- the same note with a number behind those of the links: the half of link k went home finished
abbrev pub end_note : Plan → ℕ → Mark
end_note p k = fault (p.links + k)

-- how often the seat noted that
abbrev pub ends_of : Plan → ℕ → View → ℕ
ends_of p k v = faults_of (p.links + k) v

-- a seat that puts it back notes it at slot i
abbrev pub noting_end : Plan → ℕ → ℕ → View → View
noting_end p i k v = noting_fault i (p.links + k) v

-- 1 where it is a link's finished half
abbrev pub is_over : Home → ℕ
is_over (Link k took next done) = cond done 1 0
is_over _ = 0

-- ## Where a link is

-- the link of this right is k, and in hand
abbrev pub away : ℕ → Right → ℕ
away k r = cond r.at_home 0 (only k r.link)

-- how often the seat has link k in hand
abbrev pub out_of : ℕ → View → ℕ
out_of k v = total (away k) v.rights + hands_of k v

-- the notes of a seat that has it in hand
abbrev pub noted_out : ℕ → View → ℕ
noted_out k v = cond (out_of k v == 0) 0 (faults_of k v)

module _ {S : Type 0} where
  abbrev pub present : Option (Option S) → ℕ
  present (some (some y)) = 1
  present _ = 0

  -- the faults of what is at home
  abbrev pub rose_at : (S → ℕ) → Option (Option S) → ℕ
  rose_at rose (some (some y)) = rose y
  rose_at rose _ = 0

  -- 1 where a finished half is at home
  abbrev pub over_at : (S → Home) → Option (Option S) → ℕ
  over_at shows (some (some y)) = is_over (shows y)
  over_at shows _ = 0

-- of link k: it is at home or in one hand, and where a seat noted a fault of it, the half at home has one, or a seat noted one that has it in hand
pub record LinkFaults {S : Type 0} (shows : S → Home) (rose : S → ℕ) (p : Plan) (s : State S View) (k : ℕ) : Type 0 where
  pub once : total (out_of k) s.views + present (get_elem? s.homes (p.requests + k)) ≡ 1
  pub faulty : 0 < total (faults_of k) s.views → 0 < rose_at rose (get_elem? s.homes (p.requests + k)) + total (noted_out k) s.views
  -- where a seat noted that the half went home finished, it is at home so, or in a hand without a right
  pub over : 0 < total (ends_of p k) s.views → 0 < over_at shows (get_elem? s.homes (p.requests + k)) + total (hands_of k) s.views
