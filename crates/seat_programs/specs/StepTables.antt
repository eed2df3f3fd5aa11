-- What each step of the table of the sockets is, by its family: the steps of a family stand together in one file (StepsOfSlots and so on), where each
-- has its kind, its word, what it stores, what the view of the seat says before it, what it may find, and the view behind it.
use Rattle.std.specs.Prelude.{ℕ, List}
use mathlib.Core.Option.{Option, none}
use Rattle.sock_model.specs.sock_words.specs.declared.kind.Kind.{Kind}
use Rattle.sock_model.specs.sock_words.specs.declared.plain.Plan.{Plan}
use Rattle.sock_model.specs.declared.home.Home.{Home}
use Rattle.sock_model.specs.declared.view.View.{View}
use Rattle.sock_model.specs.declared.view.Hand.{Hand}
use Rattle.seat_programs.specs.TableWords.{TableWord, index_of}
use Rattle.seat_programs.specs.TableSteps.{TableStep, OnSlot, OnName, OnChain, OnPlace, OnLink, OnMessage}
use Rattle.seat_programs.specs.StepsOfSlots.{slot_kind, word_of_slot, slot_after, SlotMay, SlotFinds, slot_row}
use Rattle.seat_programs.specs.StepsOfNames.{name_kind, word_of_name, name_after, NameMay, NameFinds, name_row}
use Rattle.seat_programs.specs.StepsOfChain.{chain_kind, word_of_chain, chain_after, ChainMay, chain_hand, ChainFinds, chain_row}
use Rattle.seat_programs.specs.StepsOfPlaces.{place_kind, word_of_place, place_after, PlaceMay, place_row}
use Rattle.seat_programs.specs.StepsOfLinks.{link_kind, as_hand, LinkMay, link_hand, LinkFinds, link_row}
use Rattle.seat_programs.specs.StepsOfMessages.{message_kind, MessageMay, message_row}

-- the kind of a step, as the schedule of a script names it
abbrev pub kind_of : TableStep → Kind
kind_of (OnSlot step) = slot_kind step
kind_of (OnName step) = name_kind step
kind_of (OnChain step) = chain_kind step
kind_of (OnPlace step) = place_kind step
kind_of (OnLink step) = link_kind step
kind_of (OnMessage step) = message_kind step

-- the word that a step reads or changes; a move has none
abbrev pub table_word : TableStep → Option TableWord
table_word (OnSlot step) = word_of_slot step
table_word (OnName step) = word_of_name step
table_word (OnChain step) = word_of_chain step
table_word (OnPlace step) = word_of_place step
table_word other = none

-- its index in the list of words
abbrev pub word_of : Plan → TableStep → Option ℕ
word_of p call = index_of p (table_word call)

-- the word after a step that found this word
abbrev pub word_after : TableStep → ℕ → ℕ
word_after (OnSlot step) found = slot_after step found
word_after (OnName step) found = name_after step found
word_after (OnChain step) found = chain_after step found
word_after (OnPlace step) found = place_after step found
word_after other found = found

-- what the view of a seat says before a step, so that the rule allows it
abbrev pub May : Plan → View → TableStep → Type 0
May p v (OnSlot step) = SlotMay p v step
May p v (OnName step) = NameMay p v step
May p v (OnChain step) = ChainMay p v step
May p v (OnPlace step) = PlaceMay p v step
May p v (OnLink step) = LinkMay p v step
May p v (OnMessage step) = MessageMay p v step

-- the link that a step takes out of its home, or that is to take the message for which a request is claimed or the head is exchanged
abbrev pub hand_at : Plan → List ℕ → List (Option Home) → TableStep → Hand
hand_at p ws hs (OnChain step) = chain_hand p ws hs step
hand_at p ws hs (OnLink step) = link_hand p ws hs step
hand_at p ws hs other = as_hand 0 none

-- what a step may find: a word counts the seat's own references, a seat claims or recycles a slot once, and the pass of a link that is in a slot was
-- spent
abbrev pub Finds : Plan → View → TableStep → ℕ → Hand → Type 0
Finds p v (OnSlot step) found hand = SlotFinds p v step found hand
Finds p v (OnName step) found hand = NameFinds p v step found hand
Finds p v (OnChain step) found hand = ChainFinds p v step found hand
Finds p v (OnLink step) found hand = LinkFinds p v step found hand
Finds p v other found hand = Unit {0}

-- the view after a step that found this word, and this link at home
abbrev pub row : Plan → TableStep → ℕ → Hand → View → View
row p (OnSlot step) found hand v = slot_row p step found hand v
row p (OnName step) found hand v = name_row p step found hand v
row p (OnChain step) found hand v = chain_row p step found hand v
row p (OnPlace step) found hand v = place_row p step found hand v
row p (OnLink step) found hand v = link_row p step found hand v
row p (OnMessage step) found hand v = message_row p step found hand v
