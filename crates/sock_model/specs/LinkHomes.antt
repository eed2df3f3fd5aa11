-- Where each link is: at home, in hand of whoever writes it, or in another hand.
use Rattle.std.specs.Prelude.{◌≡◌, ℕ, ◌-◌, ◌<◌, ◌⊎◌, Bool, false, cond, List, [], ◌∷◌}
use mathlib.Core.Option.{Option, none, some}
use lib.ListN.{get_elem?}
use Rattle.atomic_table.specs.Table.{State}
use Rattle.sock_words.specs.declared.plain.Plan.{Plan}
use Rattle.sock_model.specs.declared.chain.Right.{Right}
use Rattle.sock_model.specs.declared.home.Home.{Home}
use Rattle.sock_model.specs.declared.home.Home.TheVariants.{Link}
use Rattle.sock_model.specs.declared.view.View.{View}
use Rattle.sock_model.specs.MarkWeights.{is_recycled}
use Rattle.sock_model.specs.SlotRows.{marks_of}
use Rattle.sock_model.specs.ChainLawReads.{tokens, link_at, link_home, waits_of, hands_of}
use Rattle.sock_model.specs.LinksInSlots.{Given}
use Rattle.sock_words.specs.Totals.{total}

-- the home of link k has the writing half that was handed in for it, unfinished while it is in a slot
pub record IsOwn (slot : ℕ → Option ℕ) (k : ℕ) (x : Home) : Type 0 where
  -- what it took
  pub took : List ℕ
  -- its next place
  pub next : ℕ
  -- whether it is finished
  pub done : Bool
  -- it is the one that was handed in for this link
  pub is : x ≡ Link k took next done
  -- unfinished while the link is in a slot
  pub «open» : (j : ℕ) → slot k ≡ some j → done ≡ false

module _ {S : Type 0} (shows : S → Home) (p : Plan) (s : State S View) where
  -- the link k was given to no life
  abbrev pub Unborn : ℕ → Type 0
  Unborn k = (j h : ℕ) → ¬ Given p s j h k

  -- the seat recycled the slot of the link's life, and hasn't freed it
  pub record Recycles (v : View) (k : ℕ) : Type 0 where
    -- the slot
    pub slot : ℕ
    -- the version to which it recycled it
    pub version : ℕ
    -- it hasn't freed it yet
    pub recycling : 0 < marks_of (is_recycled version) slot v
    -- the life that ended was the link's
    pub life : Given p s slot (version - 2) k

  pub record LinkHomes (slot : ℕ → Option ℕ) : Type 0 where
    -- a link at home is the one that was handed in for it
    pub own : (k : ℕ) (x : Home) → k < p.links → link_at shows p s.homes k ≡ some x → IsOwn slot k x
    -- a link in a slot that nobody writes is at home
    pub idle : (k j : ℕ) → k < p.links → slot k ≡ some j → (tokens s.views).rights k ≡ [] → (took : List ℕ) × (next : ℕ) × (link_home shows p s.homes k ≡ some (took, next))
    -- one that a seat writes is at home as the right says, else in that seat's hand
    pub busy : (k : ℕ) (r : Right) → k < p.links → (tokens s.views).rights k ≡ r ∷ [] → link_home shows p s.homes k ≡ cond r.at_home (some (r.sent, r.places)) none
    -- before its life comes a link is at home, untouched, as long as its pass isn't spent or a claim has it
    pub waiting : (k : ℕ) → 0 < total (waits_of k) s.views → (k < p.links) × (link_at shows p s.homes k ≡ some (Link k [] 0 false))
    -- a link in no slot is at home, or in a hand without a right
    pub outside : (k : ℕ) → k < p.links → slot k ≡ none → ((x : Home) × (link_at shows p s.homes k ≡ some x)) ⊎ (0 < total (hands_of k) s.views)
    -- what is in such a hand is in no slot, and doesn't wait for one
    pub hands : (k : ℕ) → 0 < total (hands_of k) s.views → (slot k ≡ none) × (total (waits_of k) s.views ≡ 0)
    -- the hand is that of the seat that spent its pass for it, or that recycled its slot
    pub hand_of : (id k : ℕ) (v : View) → get_elem? s.views id ≡ some v → 0 < hands_of k v → Unborn k ⊎ Recycles v k
