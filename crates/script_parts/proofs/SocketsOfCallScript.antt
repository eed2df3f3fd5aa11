-- What is told of sockets in a run of a script with calls, over the links that were given back.
use Rattle.std.proofs.Common.{◌≡◌, ℕ, zero, suc, ◌+◌, ◌<◌, List, [], ◌∷◌, length, map, Option, Some, None, Contains, refl, ap, ◌∙◌, arith}
use Rattle.std.specs.Prelude.{IfSome}
use Rattle.std.specs.Option.{ForSome}
use mathlib.Core.Option.{some, some-injective}
use lib.ListN.{get_elem?}
use Rattle.sock_words.specs.declared.outcome.Outcome.{Outcome}
use Rattle.sock_words.specs.declared.plain.Plan.{Plan}
use Rattle.sock_words.specs.declared.place_word.PlaceWord.{PlaceWord}
use Rattle.corr_core.specs.declared.marks.Plan.{Plan as IdPlan}
use Rattle.seat_programs.specs.Cores.{Core}
use Rattle.seat_programs.specs.ScheduledRuns.{from_to}
use Rattle.seat_programs.specs.ScriptSetupToEnding.{opening_calls}
use Rattle.callless_fits.specs.sock_deeds.specs.script_facts.proofs.FilteredLists.{has_from, has_none}
use Rattle.callless_fits.specs.sock_deeds.specs.MessagesLeftByRun.{homes_of}
use Rattle.callless_fits.specs.sock_deeds.proofs.OrdersOfDeeds.{took}

-- ## What is left, as a core

abbrev no_ids : IdPlan
no_ids = record { slots = 0; operations = 0; seats = 0 }

-- no seat has anything to do, and there are no calls
abbrev pub core_of : Plan → List ℕ → (ℕ → List ℕ) → List (Option Outcome) → Core
core_of p words took outcomes = record { words = words; homes = homes_of p took; seats = []; outcomes = outcomes; calls = opening_calls no_ids p.links }

-- ## Place words

pub words_map : (w : ℕ → ℕ) (n a : ℕ) (xs : List PlaceWord) → length xs ≡ n → ((i : ℕ) → i < n → (x : PlaceWord) × (get_elem? xs i ≡ some x) × (x.0 ≡ w (a + i))) → xs ≡ map (λ l. record { 0 = w l }) (from_to a n)
words_map w zero a [] long each = refl
words_map w zero a (x ∷ xs) long each = absurd (omega arith)
words_map w (suc n) a [] long each = absurd (omega arith)
words_map w (suc n) a (x ∷ xs) long each =
    let h = each zero (omega arith) in
    let q : a + 0 ≡ a = omega arith in
    let here : x.0 ≡ w a = ap (λ (y : PlaceWord). y.0) (some-injective x h.0 h.1) ∙ (h.2 ∙ ap w q) in
    let rest = words_map w n (a + 1) xs (omega arith) (λ i low. (let r = each (suc i) (omega arith) in let s : a + suc i ≡ a + 1 + i = omega arith in (r.0, r.1, r.2 ∙ ap w s))) in
    λ i. (record { 0 = here i }) ∷ rest i

-- ## Links

pub map_twice : {A B C : Type 0} (f : A → B) (h : B → C) (xs : List A) → map (λ x. h (f x)) xs ≡ map h (map f xs)
map_twice f h [] = refl
map_twice f h (x ∷ xs) = ap (λ l. h (f x) ∷ l) (map_twice f h xs)

pub if_told : (o : Option (List ℕ)) (a b : List ℕ) → ForSome o (λ bytes. bytes ≡ a) → a ≡ b → IfSome o (λ bytes. bytes ≡ b)
if_told None a b h e = tt
if_told (Some x) a b h e = h x refl ∙ e

pub nothing_there : (x : ℕ) → Contains [] x → ⊥
nothing_there x h = has_none x (has_from [] x h)
