-- A place word that tells a position is that of a message which a link accepted.
use Rattle.std.proofs.Common.{◌≡◌, ℕ, ◌+◌, ◌*◌, ◌<◌, inl, inr, List, map, slice_get, unwrap_or, option_map, Option, Some, ap, ◌∙◌, subst, arith}
use Rattle.std.specs.Prelude.{slice_index}
use Rattle.sock_words.specs.declared.plain.Plan.{Plan}
use Rattle.sock_words.specs.declared.place_word.PlaceWord.{PlaceWord}
use Rattle.sock_words.specs.PackedWords.{no_place, HasPosition}
use Rattle.brpc_model.specs.PlaceWords.{word_at}
use Rattle.sock_model.specs.SocketTableLayout.{place_index}
use Rattle.seat_programs.specs.Cores.{Core}
use Rattle.seat_programs.specs.ScheduledRuns.{from_to}
use Rattle.seat_programs.specs.ScriptSetupToEnding.{place_words}
use Rattle.seat_programs.specs.ExplainedCalls.{Accepted, Order, AreOrders, StandsAt, label}
use Rattle.sock_deeds.specs.script_facts.proofs.Flat.{map_at, from_to_at}

word_there : (p : Plan) (ws : List ℕ) (n : ℕ) → n < 8 * p.operations → word_at (place_words p ws) n ≡ slice_index ws (place_index p n)
word_there p ws n low =
    let f : ℕ → PlaceWord = λ l. record { 0 = slice_index ws (place_index p l) } in
    let same : 0 + n ≡ n = omega arith in
    let at : slice_get (map f (from_to 0 (8 * p.operations))) n ≡ Some (f n) = map_at f (from_to 0 (8 * p.operations)) n n (from_to_at 0 (8 * p.operations) n low ∙ ap Some same) in
    ap (λ (o : Option PlaceWord). unwrap_or (option_map (λ (word : PlaceWord). word.0) o) no_place) at

-- the message of the place word of this number
abbrev pub HasMessage : Plan → (ℕ → Order) → ℕ → Type 0
HasMessage p orders n = (k i : ℕ) × (a : Accepted) × (k < p.links) × StandsAt orders k i a × (n ≡ label a)

pub accepted_at : (p : Plan) (c : Core) (orders : ℕ → Order) → AreOrders p c orders → (n : ℕ) → n < 8 * p.operations → HasPosition (word_at (place_words p c.words) n) → HasMessage p orders n
accepted_at p c orders are n low has = elim (are.alone n low) [
  | inl none_ ↦ (
      let P : ℕ → Type 0 = λ w. HasPosition w in
      let no : HasPosition 0 = subst P (word_there p c.words n low ∙ none_) has in absurd (omega (arith, no))
      )
  | inr w ↦ w
]
