-- How the laws of the chains read the words, the homes and the views of a table.
use Rattle.std.specs.Prelude.{ℕ, ◌+◌, List, slice_index, ◌==◌}
use Rattle.std.specs.List.{filter, flat_map}
use mathlib.Core.Option.{Option, none, some}
use lib.ListN.{get_elem?}
use Rattle.sock_words.specs.declared.plain.Plan.{Plan}
use Rattle.sock_model.specs.declared.chain.Right.{Right}
use Rattle.sock_model.specs.declared.chain.Claim.{Claim}
use Rattle.sock_model.specs.declared.chain.Loose.{Loose}
use Rattle.sock_model.specs.declared.home.Home.{Home}
use Rattle.sock_model.specs.declared.home.Home.TheVariants.{Link, Message}
use Rattle.sock_model.specs.declared.marks.SlotMark.{SlotMark}
use Rattle.sock_model.specs.declared.view.View.{View}
use Rattle.sock_model.specs.declared.view.Hand.{Hand}
use Rattle.sock_model.specs.MarkWeights.{only, is_waiting}
use Rattle.sock_model.specs.SocketTableLayout.{head_index, request_index, next_index}
use Rattle.sock_model.specs.ChainTokens.{Tokens}
use Rattle.sock_model.specs.ChainMemory.{Memory}
use Rattle.sock_model.specs.UnplacedMessages.{HeadedBytes}
use Rattle.sock_words.specs.Totals.{total}

abbrev pub head_at : List ℕ → Option ℕ → Option ℕ
head_at ws none = none
head_at ws (some j) = some (slice_index ws (head_index j))

-- the words of the chains, where link k is in the slot `slot k`
abbrev pub memory : Plan → (ℕ → Option ℕ) → List ℕ → Memory
memory p slot ws = record { head = λ k. head_at ws (slot k); next = λ r. slice_index ws (next_index p r); request = λ r. slice_index ws (request_index p r) }

abbrev pub rights_on : ℕ → View → List Right
rights_on k v = filter (λ (x : Right). x.link == k) v.rights

abbrev pub claims_of : ℕ → View → List Claim
claims_of r v = filter (λ (x : Claim). x.request == r) v.claims

abbrev pub loose_at : ℕ → View → List Loose
loose_at r v = filter (λ (x : Loose). x.request == r) v.loose

-- what all views together have
abbrev pub tokens : List View → Tokens
tokens views = record { rights = λ k. flat_map (rights_on k) views; claims = λ r. flat_map (claims_of r) views; loose = λ r. flat_map (loose_at r) views }

-- what a message's home or a link's home holds
abbrev pub letter_of : Option Home → Option HeadedBytes
letter_of (some (Message l bytes)) = some (l, bytes)
letter_of _ = none

abbrev pub took_of : Option Home → Option (List ℕ × ℕ)
took_of (some (Link k took next done)) = some (took, next)
took_of _ = none

-- what isn't a link counts as none
abbrev pub as_link : Option Home → Option Home
as_link (some (Link k took next done)) = some (Link k took next done)
as_link _ = none

-- a table keeps values of some type, and `shows` tells what each of them is
module _ {S : Type 0} (shows : S → Home) where
  abbrev pub shown : Option (Option S) → Option Home
  shown (some (some x)) = some (shows x)
  shown _ = none

  abbrev pub home_at : List (Option S) → ℕ → Option Home
  home_at hs i = shown (get_elem? hs i)

  abbrev pub message : List (Option S) → ℕ → Option HeadedBytes
  message hs r = letter_of (home_at hs r)

  -- the links' homes stand behind those of the requests
  abbrev pub link_at : Plan → List (Option S) → ℕ → Option Home
  link_at p hs k = as_link (home_at hs (p.requests + k))

  abbrev pub link_home : Plan → List (Option S) → ℕ → Option (List ℕ × ℕ)
  link_home p hs k = took_of (link_at p hs k)

abbrev pub waits_link : ℕ → SlotMark → ℕ
waits_link k e = is_waiting k e.mark

-- how often the link k has an unspent pass, or a claim, of this seat
abbrev pub waits_of : ℕ → View → ℕ
waits_of k v = total (only k) v.passes + total (waits_link k) v.marks

abbrev pub carries : ℕ → Hand → ℕ
carries k h = only k h.link

-- how often the seat has the link k in hand without a right to write it
abbrev pub hands_of : ℕ → View → ℕ
hands_of k v = total (carries k) v.hands
