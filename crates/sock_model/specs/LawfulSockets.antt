-- The rule of the sockets: what holds of the words, the homes and the views between any two steps.
use Rattle.std.specs.Prelude.{◌≡◌, ℕ, ◌*◌, ◌%◌, ◌≤◌, List, slice_index}
use mathlib.Core.Option.{Option, some}
use lib.ListN.{get_elem?}
use Rattle.atomic_table.specs.Table.{State}
use Rattle.sock_words.specs.declared.plain.Plan.{Plan}
use Rattle.sock_model.specs.declared.chain.Entry.{Entry}
use Rattle.sock_model.specs.declared.home.Home.{Home}
use Rattle.sock_model.specs.declared.view.View.{View}
use Rattle.sock_model.specs.declared.view.Hand.{Hand}
use Rattle.sock_model.specs.SocketTableLayout.{place_index}
use Rattle.sock_model.specs.References.{References}
use Rattle.sock_model.specs.Entries.{on}
use Rattle.sock_model.specs.Chains.{Chains}
use Rattle.sock_model.specs.Authors.{Authored}
use Rattle.sock_model.specs.UnplacedMessages.{Messages}
use Rattle.sock_model.specs.Deliveries.{HasTaken, Delivered}
use Rattle.sock_model.specs.ChainLawReads.{memory, tokens, message, link_home}
use Rattle.sock_model.specs.LinksInSlots.{HoldsRights, Failed, InSlots}
use Rattle.sock_model.specs.LinkHomes.{LinkHomes}

-- what the sizes of a table are
pub record PlanFits (p : Plan) : Type 0 where
  -- a request's number fits a ticket
  pub narrow : p.requests ≤ 65535
  -- lives have even versions
  pub even : p.first % 2 ≡ 0

module _ {S : Type 0} (shows : S → Home) where
  pub record Lawful (p : Plan) (s : State S View) : Type 0 where
    -- the slot that each link is in
    pub slot : ℕ → Option ℕ
    -- all entries of all links, in the order of their exchanges
    pub log : List Entry
    -- of each link, how many entries gave their requests back, have places, and were placed and not dropped
    pub freed : ℕ → ℕ
    pub places : ℕ → ℕ
    pub kept : ℕ → ℕ
    pub fits : PlanFits p
    -- tags, reference words, links, codes and names
    pub references : References p s
    -- which slot each link is in, and that whoever writes it holds its life
    pub in_slots : InSlots p s slot log
    pub held : (id : ℕ) (v : View) → get_elem? s.views id ≡ some v → HoldsRights p v
    -- heads, next words and request words
    pub chains : Chains p.links p.requests (memory p slot s.words) (tokens s.views) log freed places
    -- whose entries the log has
    pub authors : Authored (λ (v : View). v.lists) s.views log
    -- where messages without a place lie
    pub messages : Messages p.links p.requests (message shows s.homes) (tokens s.views) log places
    -- place words, and what each link took
    pub delivered : Delivered p.links (8 * p.operations) (λ l. slice_index s.words (place_index p l)) (link_home shows p s.homes) (Failed p s) (tokens s.views) log places kept
    -- and what those took that are in hand without a right
    pub carried : (id n : ℕ) (v : View) (h : Hand) → get_elem? s.views id ≡ some v → get_elem? v.hands n ≡ some h → HasTaken (on h.link log) (places h.link) (kept h.link) h.took h.next
    -- where each link is
    pub homes : LinkHomes shows p s slot
