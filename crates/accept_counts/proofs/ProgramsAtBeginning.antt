-- What holds of no program left, of readers and of the programs of clients holds of each program as a run begins.
use Rattle.std.proofs.Common.{◌≡◌, ℕ, zero, suc, ◌+◌, ◌-◌, List, [], ◌∷◌, ◌++◌, length, replicate, ⊎_elim, sym, subst}
use mathlib.Core.Option.{some, some-injective, some-ne-none}
use lib.ListN.{get_elem?}
use Rattle.seat_programs.specs.Programs.{Program, Rest}
use Rattle.seat_programs.specs.ReaderProgram.{reader}
use Rattle.seat_programs.specs.ScriptSetupToEnding.{readers_from, all_programs}
use Rattle.outcome_causes.specs.program_walks.proofs.OpenedLivesRecorded.{appended}

module _ (G : Program → Type 0) (rests : G Rest) (calls : List ℕ) (reads : (k o : ℕ) → G (reader calls k o)) where
  readers_begin : (os : List ℕ) (k i : ℕ) (x : Program) → get_elem? (readers_from calls k os) i ≡ some x → G x
  readers_begin [] k i x at = absurd (some-ne-none x (sym at))
  readers_begin (o ∷ os) k zero x at = subst G (some-injective (reader calls k o) x at) (reads k o)
  readers_begin (o ∷ os) k (suc i) x at = readers_begin os (k + 1) i x at

  pub others_begin : (n : ℕ) (os : List ℕ) (i : ℕ) (x : Program) → get_elem? (replicate n Rest ++ readers_from calls 0 os) i ≡ some x → G x
  others_begin zero os i x at = readers_begin os 0 i x at
  others_begin (suc n) os zero x at = subst G (some-injective Rest x at) rests
  others_begin (suc n) os (suc i) x at = others_begin n os i x at

  pub all_begin : (ps : List Program) (os : List ℕ) (i : ℕ) (x : Program) → (get_elem? ps i ≡ some x → G x) → get_elem? (all_programs ps (readers_from calls 0 os)) i ≡ some x → G x
  all_begin ps os i x client at = ⊎_elim client (λ b. others_begin (32 - length ps) os b.0 x b.1) (appended ps (replicate (32 - length ps) Rest ++ readers_from calls 0 os) i x at)
