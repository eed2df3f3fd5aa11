-- What of the chains is written: the place words, and what each link took.
use Rattle.std.specs.Prelude.{◌≡◌, ◌≢◌, ℕ, zero, suc, ◌+◌, ◌<◌, ◌≤◌, ◌⊎◌, true, nat_le, List, [], ◌∷◌, ◌++◌}
use mathlib.Core.Option.{Option, some}
use lib.ListN.{get_elem?}
use Rattle.sock_model.specs.declared.chain.Entry.{Entry}
use Rattle.sock_model.specs.declared.chain.Right.{Right}
use Rattle.sock_model.specs.Entries.{on}
use Rattle.sock_model.specs.ChainTokens.{Tokens}
use Rattle.sock_words.specs.PackedWords.{place_word}

-- the messages of the first n entries, one after another
abbrev pub whole : List Entry → ℕ → List ℕ
whole [] n = []
whole (e ∷ es) zero = []
whole (e ∷ es) (suc n) = e.bytes ++ whole es n

-- the messages of the first n entries, and then a proper prefix of the next one's
pub record Taken (c : List Entry) (n : ℕ) (took : List ℕ) : Type 0 where
  -- what it took of the next message
  pub part : List ℕ
  -- behind the whole ones
  pub took_is : took ≡ whole c n ++ part
  -- is a proper prefix
  pub of_next : (part ≡ []) ⊎ ((e : Entry) × (rest : List ℕ) × (get_elem? c n ≡ some e) × (e.bytes ≡ part ++ rest) × (rest ≢ []))

-- a link took this of the chain c, of which so many entries have places, and so many of these aren't dropped; and its next place
abbrev pub HasTaken : List Entry → ℕ → ℕ → List ℕ → ℕ → Type 0
HasTaken c places kept took next = Taken c kept took × (kept ≡ places → took ≡ whole c kept) × (next ≡ places)

-- of the entries of link k, places k have places, of which those behind the first kept k are dropped
pub data ShownAt (links : ℕ) (place : ℕ → ℕ) (log : List Entry) (places kept : ℕ → ℕ) (p : ℕ) : Type 0 where
  no_place : place p ≡ 0 → ((k i : ℕ) (e : Entry) → k < links → i < places k → get_elem? (on k log) i ≡ some e → e.heading.label.place ≢ p) → ShownAt links place log places kept p
  one_place : (k i : ℕ) (e : Entry) → k < links → i < places k → get_elem? (on k log) i ≡ some e → e.heading.label.place ≡ p → place p ≡ place_word (nat_le (kept k) i) k i → ShownAt links place log places kept p

-- home has of a link that is at home what it took and its count of places, and Failed says of a link that its life isn't live
pub record Delivered (links labels : ℕ) (place : ℕ → ℕ) (home : ℕ → Option (List ℕ × ℕ)) (Failed : ℕ → Type 0) (t : Tokens) (log : List Entry) (places kept : ℕ → ℕ) : Type 0 where
  -- placed ones stand before dropped ones
  pub kept_fits : (k : ℕ) → k < links → kept k ≤ places k
  -- each place word shows the entry whose label has it, once that has a place
  pub shown : (p : ℕ) → p < labels → ShownAt links place log places kept p
  -- an entry is dropped only where the link's life was failed
  pub failed : (k : ℕ) → k < links → kept k < places k → Failed k
  -- a clean right dropped nothing
  pub clean : (k : ℕ) (r : Right) → k < links → t.rights k ≡ r ∷ [] → r.clean ≡ true → kept k ≡ places k
  -- a right knows what the link had taken when an entry last got its place
  pub sent : (k : ℕ) (r : Right) → k < links → t.rights k ≡ r ∷ [] → Taken (on k log) (kept k) r.sent
  -- which is whole messages, until one is dropped
  pub sent_whole : (k : ℕ) (r : Right) → k < links → t.rights k ≡ r ∷ [] → kept k ≡ places k → r.sent ≡ whole (on k log) (kept k)
  -- and how many entries have places
  pub counted : (k : ℕ) (r : Right) → k < links → t.rights k ≡ r ∷ [] → r.places ≡ places k
  -- a link at home took the placed messages and a part of the next one at most, and its next place is their number
  pub at_home : (k : ℕ) (took : List ℕ) (next : ℕ) → k < links → home k ≡ some (took, next) → Taken (on k log) (kept k) took × (kept k ≡ places k → took ≡ whole (on k log) (kept k)) × (next ≡ places k)
