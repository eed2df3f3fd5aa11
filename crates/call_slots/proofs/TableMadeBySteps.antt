-- What a step makes of the table is what the programs say of it.
use Rattle.std.proofs.Common.{◌≡◌, ℕ, zero, suc, ◌<◌, Bool, List, [], ◌∷◌, map, Option, Some, None, get_or, set, refl, ap, sym, ◌∙◌, arith}
use mathlib.Core.Option as core
use lib.ListN.{get_elem?}
use Rattle.std.proofs.lemmas.List.{set-get_or}
use Rattle.corr_core.specs.declared.marks.Plan.{Plan}
use Rattle.corr_core.specs.IdTableLayout.{tag_index, all_words}
use Rattle.sock_message.specs.Asked.{Asked}
use Rattle.seat_programs.specs.Asides as asides
use Rattle.seat_programs.specs.FoundAndChangedAside.{call_at}
use Rattle.seat_programs.specs.LoopHeads.{Retry}
use Rattle.call_points.specs.declared.aside.Aside as code
use Rattle.call_points.specs.declared.aside.Aside.TheVariants.{PutCall, LoadCall, LoadAt, LoadIdWord, TakeCall, TakeBytes}
use Rattle.call_points.specs.AsideCodeSteps.{step_of}
use Rattle.call_slots.specs.CallSlotState.{SlotState, calls_with, as_found}
use Rattle.call_slots.specs.WordOfStep.{index_of, next_of, IsWithin}
use Rattle.call_slots.specs.CallSlotSteps.{word_found, calls_behind, Makes}

module _ (s : SlotState) where
  -- the word that a step finds, and the table behind it
  abbrev pub found_of : code.Aside → ℕ
  found_of step = get_or s.words (index_of s.plan step) 0

  abbrev pub stepped : code.Aside → SlotState
  stepped step = record { plan = s.plan; words = set s.words (index_of s.plan step) (next_of step (found_of step)); homes = s.homes }

  abbrev With : List ℕ → SlotState
  With words = record { plan = s.plan; words = words; homes = s.homes }

  -- a word that is stored as it was found
  loads : (x : ℕ) → set s.words x (get_or s.words x 0) ≡ s.words
  loads x = set-get_or s.words x 0

  pub makes : (asked : Asked) (step : code.Aside) → IsWithin s.plan step → Makes s (step_of asked step) (word_found (step_of asked step) (found_of step)) (stepped step)
  makes asked (PutCall i) h = absurd h
  makes asked (LoadCall o) h = record { finds = λ w g e t. refl; changes = λ w g e. ap (λ ws. calls_with (With ws) w g e) (loads (index_of s.plan (LoadCall o))) }
  makes asked (LoadAt o) h = record { finds = λ w g e t. refl; changes = λ w g e. ap (λ ws. calls_with (With ws) w g e) (loads (index_of s.plan (LoadAt o))) }
  makes asked (LoadIdWord i) h = record { finds = λ w g e t. refl; changes = λ w g e. ap (λ ws. calls_with (With ws) w g e) (loads (index_of s.plan (LoadIdWord i))) }
  makes asked (TakeCall i) h = absurd h
  makes asked (TakeBytes k room) h = absurd h
  makes asked _ h = record { finds = λ w g e t. refl; changes = λ w g e. refl }

-- the word of a step is one of the table
pub is_inside : (p : Plan) (step : code.Aside) → IsWithin p step → index_of p step < all_words p
is_inside p (PutCall i) h = absurd h
is_inside p (TakeCall i) h = absurd h
is_inside p (TakeBytes k room) h = absurd h
is_inside p _ h = omega (arith, h)

-- ## Homes

-- a table of these words and homes
abbrev pub slots_of : Plan → List ℕ → List (Option Asked) → SlotState
slots_of p ws hs = record { plan = p; words = ws; homes = map core.some hs }

map_set : {A B : Type 0} (f : A → B) (xs : List A) (i : ℕ) (x : A) → map f (set xs i x) ≡ set (map f xs) i (f x)
map_set f [] i x = refl
map_set f (y ∷ xs) zero x = refl
map_set f (y ∷ xs) (suc i) x = ap (λ (l : List _). f y ∷ l) (map_set f xs i x)

pub found_at : (hs : List (Option Asked)) (i : ℕ) → call_at (get_elem? (map core.some hs) i) ≡ as_found (get_or hs i None)
found_at [] i = refl
found_at (None ∷ hs) zero = refl
found_at (Some asked ∷ hs) zero = refl
found_at (h ∷ hs) (suc i) = found_at hs i

module _ (p : Plan) (ws : List ℕ) (hs : List (Option Asked)) (i : ℕ) where
  abbrev AtHome : List (core.Option (Option Asked)) → SlotState
  AtHome homes = record { plan = p; words = ws; homes = homes }

  pub puts : (asked : Asked) → Makes (slots_of p ws hs) (asides.PutCall i asked) (core.some (get_or ws (tag_index i) 0)) (slots_of p ws (set hs i (Some asked)))
  puts asked = record {
    finds = λ w g e t. refl;
    changes = λ w g e. ap (λ homes. calls_with (AtHome homes) w g e) (map_set core.some hs i (Some asked));
  }

  pub takes : Makes (slots_of p ws hs) (asides.TakeCall i) (as_found (get_or hs i None)) (slots_of p ws (set hs i None))
  takes = record {
    finds = λ w g e t. found_at hs i;
    changes = λ w g e. by w g e (get_or hs i None) refl;
  }
    where
      by : (w : List (List Retry)) (g : List (List ℕ)) (e : Bool) (o : Option Asked) → get_or hs i None ≡ o → calls_with (slots_of p ws (set hs i None)) w g e ≡ calls_behind (asides.TakeCall i) (as_found o) (calls_with (slots_of p ws hs) w g e)
      by w g e (Some asked) is = ap (λ homes. calls_with (AtHome homes) w g e) (map_set core.some hs i None)
      by w g e None is = ap (λ l. calls_with (slots_of p ws l) w g e) (ap (set hs i) (sym is) ∙ set-get_or hs i None)
