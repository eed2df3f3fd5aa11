-- What a run leaves of a link, once nobody writes it.
use Rattle.std.specs.Prelude.{◌≡◌, ℕ, ◌<◌, ◌≤◌, true, false, List, length}
use mathlib.Core.Option.{some}
use lib.ListN.{get_elem?}
use Rattle.sock_model.specs.declared.chain.Entry.{Entry}
use Rattle.sock_model.specs.Deliveries.{Taken}
use Rattle.sock_words.specs.PackedWords.{place_word}

-- the first n messages have places by their order, the later ones are dropped; the link took the first n one after another, and a proper prefix of the next
pub record IsFifo (place : ℕ → ℕ) (k : ℕ) (order : List Entry) (n : ℕ) (took : List ℕ) : Type 0 where
  pub count : n ≤ length order
  pub placed : (i : ℕ) (e : Entry) → get_elem? order i ≡ some e → i < n → place e.heading.label.place ≡ place_word false k i
  pub dropped : (i : ℕ) (e : Entry) → get_elem? order i ≡ some e → n ≤ i → place e.heading.label.place ≡ place_word true k i
  pub took_is : Taken order n took
