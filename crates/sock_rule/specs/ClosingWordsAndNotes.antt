-- What the words and the notes of all seats say once the table is closed.
use Rattle.std.specs.Prelude.{◌≡◌, ℕ, ◌%◌, ◌<◌, ◌≤◌, Bool, List, [], map, length, slice_index}
use mathlib.Core.Option.{some}
use lib.ListN.{get_elem?}
use Rattle.sock_words.specs.declared.plain.Plan.{Plan}
use Rattle.sock_model.specs.declared.view.View.{View}
use Rattle.sock_model.specs.declared.chain.Entry.{Entry}
use Rattle.sock_model.specs.declared.chain.Heading.{Heading}
use Rattle.sock_model.specs.Authors.{pick}
use Rattle.sock_model.specs.Entries.{on}
use Rattle.sock_model.specs.Fifo.{IsFifo}
use Rattle.sock_model.specs.declared.view.StoredWord.{StoredWord}
use Rattle.sock_model.specs.MarkWeights.{is_claimed, is_any_coding, is_zero, is_tried, is_known, is_born, is_saw, is_failer, is_freer, is_coded, is_stored, is_told, is_linked, is_met}
use Rattle.sock_model.specs.SocketTableLayout.{ref_index, request_index, place_index}
use Rattle.sock_model.specs.SlotRows.{marks_of}
use Rattle.sock_rule.specs.OnTable.{is_put, put_in, Follows}
use Rattle.sock_words.specs.PackedWords.{place_word, vref_version, vref_nref, DROPPED}
use Rattle.sock_words.specs.Totals.{total}

-- between two calls a seat has nothing but references, rights and notes
pub record IsAtRest (p : Plan) (v : View) : Type 0 where
  pub unclaimed : (i : ℕ) → i < p.slots → marks_of is_claimed i v ≡ 0
  pub uncoding : (i : ℕ) → i < p.slots → marks_of is_any_coding i v ≡ 0
  pub no_zero : (i w : ℕ) → i < p.slots → marks_of (is_zero w) i v ≡ 0
  pub no_passes : v.passes ≡ []

-- of the last words, and of the view of the seat that took in all others
pub record Closing (p : Plan) (v : View) (words : List ℕ) : Type 0 where
  -- what was found at a name or an operation was stored there
  pub found_was : (n : ℕ) (x : StoredWord) → get_elem? v.finds n ≡ some x → 0 < put_in x.place x.word v
  -- all that was stored there has one order, which goes on behind what was met at each find and each store
  pub stored : List StoredWord
  pub put : (x w : ℕ) → total (is_put x w) stored ≡ put_in x w v
  pub met : (n : ℕ) (h : List StoredWord) → get_elem? v.histories n ≡ some h → Follows stored h
  -- each word of a slot has an even version, and one reference where it is live, else none
  pub even : (i : ℕ) → i < p.slots → vref_version (slice_index words (ref_index i)) % 2 ≡ 0
  pub one_or_none : (i : ℕ) → i < p.slots → vref_nref (slice_index words (ref_index i)) ≤ 1
  -- and that is so where the word has the version of a life that was made
  pub one_where_live : (i : ℕ) → i < p.slots → vref_nref (slice_index words (ref_index i)) ≡ marks_of (is_born (vref_version (slice_index words (ref_index i)))) i v
  -- a life was made once
  pub born_once : (i h : ℕ) → i < p.slots → marks_of (is_born h) i v ≤ 1
  -- and has an even version, no less than the first one
  pub born_life : (i h : ℕ) → i < p.slots → 0 < marks_of (is_born h) i v → (p.first ≤ h) × (h % 2 ≡ 0)
  -- and then it was failed once, by a seat that stored its code, where the slot has a later version, and else not
  pub failed_once : (i h : ℕ) → i < p.slots → 0 < marks_of (is_born h) i v → h < vref_version (slice_index words (ref_index i)) → marks_of (is_failer h) i v ≡ 1
  pub not_failed : (i h : ℕ) → i < p.slots → vref_version (slice_index words (ref_index i)) ≤ h → marks_of (is_failer h) i v ≡ 0
  pub coded : (i h : ℕ) → i < p.slots → marks_of (is_failer h) i v ≡ marks_of (is_coded h) i v
  -- and ended once
  pub ended_once : (i h : ℕ) → i < p.slots → 0 < marks_of (is_born h) i v → h < vref_version (slice_index words (ref_index i)) → marks_of (is_freer h) i v ≡ 1
  pub not_ended : (i h : ℕ) → i < p.slots → vref_version (slice_index words (ref_index i)) ≤ h → marks_of (is_freer h) i v ≡ 0
  -- a life that is known, and behind a version that was seen, was failed
  pub dead_failed : (i h w : ℕ) → i < p.slots → 0 < marks_of (is_known h) i v → 0 < marks_of (is_saw w) i v → h < w → marks_of (is_failer h) i v ≡ 1
  -- a code that was found was stored, by the seat that failed the life
  pub told_stored : (i h c : ℕ) → i < p.slots → 0 < marks_of (is_told h c) i v → 0 < marks_of (is_stored h c) i v
  -- a link that was found is that of the pass with which the life was made
  pub met_linked : (i h k : ℕ) → i < p.slots → 0 < marks_of (is_met h k) i v → 0 < marks_of (is_linked h k) i v
  -- a slot that was found taken had a life
  pub full : (i : ℕ) → i < p.slots → 0 < marks_of is_tried i v → 0 < marks_of (is_born p.first) i v

-- the places of the labels differ
abbrev pub PlacesDiffer : List Entry → Type 0
PlacesDiffer log = (i j : ℕ) (a b : Entry) → get_elem? log i ≡ some a → get_elem? log j ≡ some b → a.heading.label.place ≡ b.heading.label.place → i ≡ j

-- a life that was given link k was failed
pub record LifeFailed (p : Plan) (v : View) (k : ℕ) : Type 0 where
  pub slot : ℕ
  pub version : ℕ
  pub inside : slot < p.slots
  pub given : 0 < marks_of (is_linked version k) slot v
  pub failed : 0 < marks_of (is_failer version) slot v

-- what link k took, where the places of all labels differ: the messages of its order, as their place words say
pub record LinkTook (p : Plan) (v : View) (log : List Entry) (words : List ℕ) (k : ℕ) (took : List ℕ) : Type 0 where
  -- how many messages were placed, and not dropped
  pub kept : ℕ
  pub fifo : PlacesDiffer log → IsFifo (λ l. slice_index words (place_index p l)) k (on k log) kept took
  -- not all of them only where its life was failed
  pub failed : kept < length (on k log) → LifeFailed p v k

-- a message that a link accepted has the place index l, and the word there is its place, with the dropped bit or without
pub record PlaceOf (p : Plan) (log : List Entry) (words : List ℕ) (l : ℕ) : Type 0 where
  pub link : ℕ
  pub position : ℕ
  pub entry : Entry
  pub dropped : Bool
  pub inside : link < p.links
  pub there : get_elem? (on link log) position ≡ some entry
  pub own : entry.heading.label.place ≡ l
  pub word : slice_index words (place_index p l) ≡ place_word dropped link position

-- of the place index l: a seat noted that it dropped the message there, with the word that stands there, where that has the dropped bit; and where the places of all labels differ, what a seat noted there is the word
pub record IsDropTold (p : Plan) (log : List Entry) (v : View) (words : List ℕ) (l : ℕ) : Type 0 where
  pub told : DROPPED ≤ slice_index words (place_index p l) → 0 < put_in (place_index p l) (slice_index words (place_index p l)) v
  pub stays : PlacesDiffer log → (n : ℕ) → 0 < put_in (place_index p l) n v → (slice_index words (place_index p l) ≡ n) × (DROPPED ≤ n)

-- what stands with a message: an accepted message has this place index, attempt and owner
pub record IsLogged (log : List Entry) (h : Heading) : Type 0 where
  pub position : ℕ
  pub entry : Entry
  pub there : get_elem? log position ≡ some entry
  pub place_is : entry.heading.label.place ≡ h.label.place
  pub attempt_is : entry.heading.label.attempt ≡ h.label.attempt
  pub owner_is : entry.heading.owner ≡ h.owner

-- the messages that all seats had accepted stand in one order, and each list that the last view keeps is what one of the seats had accepted, in its own order
pub record Ordered (p : Plan) (found : List ℕ) (lists : List (List Entry)) : Type 0 where
  pub log : List Entry
  -- the author of each
  pub by : List ℕ
  pub long : length by ≡ length log
  -- the authors whose lists these are
  pub names : List ℕ
  pub lists_are : lists ≡ map (λ a. pick a by log) names
  -- each author's list is there once
  pub apart : (i k a : ℕ) → get_elem? names i ≡ some a → get_elem? names k ≡ some a → i ≡ k
  -- and each author has one
  pub named : (q a : ℕ) → get_elem? by q ≡ some a → (i : ℕ) × (get_elem? names i ≡ some a)
  -- where each request was found taken, there are as many as requests at least
  pub full : ((q : ℕ) → q < p.requests → (n : ℕ) × (get_elem? found n ≡ some (request_index p q))) → p.requests ≤ length log
