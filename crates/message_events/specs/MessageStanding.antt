-- How the words, the homes and the views are read as the plain model of messages.
use Rattle.std.specs.Prelude.{ℕ, ◌==◌, cond, List, [], ◌∷◌, ◌++◌, take, slice_index}
use Rattle.std.specs.List.{filter, flat_map}
use mathlib.Core.Option.{Option, none, some}
use Rattle.sock_words.specs.declared.plain.Plan.{Plan}
use Rattle.sock_model.specs.declared.chain.Entry.{Entry}
use Rattle.sock_model.specs.declared.chain.Right.{Right}
use Rattle.sock_model.specs.declared.view.View.{View}
use Rattle.sock_model.specs.declared.view.Hand.{Hand}
use Rattle.sock_model.specs.SocketTableLayout.{request_index}
use Rattle.sock_model.specs.ChainLawReads.{tokens, link_home}
use Rattle.seat_programs.specs.Cores.{Core}
use Rattle.message_events.specs.MessageModel.{Messages}

abbrev pub accepted_by : View → List Entry
accepted_by v = flat_map (λ (es : List Entry). es) v.lists

-- how many messages of a link have places, and what it took
pub record Stand : Type 0 where
  pub placed : ℕ
  pub took : List ℕ

-- a right tells both; of the message in hand the link took a part
abbrev pub taken_of : Right → List ℕ
taken_of r = cond r.taken (r.sent ++ take r.put r.bytes) r.sent

abbrev pub of_right : Right → Stand
of_right r = record { placed = r.places; took = taken_of r }

abbrev pub hands_on : ℕ → View → List Hand
hands_on k v = filter (λ (h : Hand). h.link == k) v.hands

-- else the hand that has the link does, or its home
abbrev pub of_hand : Hand → Stand
of_hand h = record { placed = h.next; took = h.took }

abbrev pub by_home : Option (List ℕ × ℕ) → List Hand → Stand
by_home home (h ∷ hs) = of_hand h
by_home none [] = record { placed = 0; took = [] }
by_home (some home) [] = record { placed = home.1; took = home.0 }

abbrev pub by_rights : List Right → Option (List ℕ × ℕ) → List Hand → Stand
by_rights [] home hs = by_home home hs
by_rights (r ∷ rs) home hs = of_right r

abbrev pub stand : Plan → Core → List View → ℕ → Stand
stand p c views k = by_rights ((tokens views).rights k) (link_home (λ home. home) p c.homes k) (flat_map (hands_on k) views)

abbrev pub messages : Plan → Core → List View → Messages
messages p c views = record {
  accepted = flat_map accepted_by views;
  placed = λ k. (stand p c views k).placed;
  took = λ k. (stand p c views k).took;
  request = λ r. slice_index c.words (request_index p r);
}
