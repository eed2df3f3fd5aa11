-- What is owed as the ending begins, and once the run is ending.
use Rattle.std.proofs.Common.{◌≡◌, ℕ, List, [], ◌∷◌, Option, refl, sym, subst, arith}
use Rattle.std.specs.List.{AllByRecursion}
use mathlib.Core.Option.{some}
use lib.ListN.{get_elem?}
use Rattle.atomic_table.proofs.Lists.{set_again}
use Rattle.corr_core.specs.declared.marks.Plan.{Plan as IdPlan}
use Rattle.seat_programs.specs.LoopHeads.{Retry}
use Rattle.seat_programs.specs.Programs.{Rest}
use Rattle.seat_programs.specs.ClientProgram.{ending_of}
use Rattle.seat_programs.specs.Cores.{Core, SeatState, with_seat}
use Rattle.seat_programs.specs.ScriptSetupToEnding.{is_ending}
use Rattle.call_owing.specs.Owing.{Duty, Looking, Owing}
use Rattle.call_owing.specs.Owes.{OwesOn}
use Rattle.call_owing.specs.SoundOwing.{Owed, by_seat, by_retry, by_reader, Stored, OwingLaw, SoundOwing}
use Rattle.owing_ticks.proofs.SeatRetriesBehindStep.{Few}
use Rattle.owing_ticks.proofs.TicksKeepOwing.{follows}
use Rattle.call_owing.proofs.ClientsOwing.{ending_goes}

module _ (q : IdPlan) (life : ℕ → Option ℕ) (calls : List ℕ) (c : Core) (us : List Owing) (sound : SoundOwing q life calls c us) where
  -- seat 0, which is at rest and no reader's, begins the ending
  pub owing_ending : (os : List ℕ) (seat : SeatState) (u : Owing) (at_seat : get_elem? c.seats 0 ≡ some seat) (at : get_elem? us 0 ≡ some u) → seat.program ≡ Rest → (us' : List Owing) × SoundOwing q life calls (with_seat 0 (ending_of os) [] c.words c.homes c) us'
  owing_ending os seat u at_seat at rest = let g : OwesOn life u Rest = subst (OwesOn life u) rest (sound.seats 0 seat u at_seat at) in
      follows q life calls c us sound 0 seat u at_seat at (ending_of os) [] c.words c.homes c.calls u (subst (OwingLaw q life calls c) (sym (set_again us 0 u at)) sound.law)
      (ending_goes life os u (g.0, g.1, unlinked u.link refl) g.2) (subst (λ (w : List Retry). AllByRecursion Few w) (sym (sound.law.kept 0 u at g.2)) tt)
    where
      unlinked : (l : List ℕ) → u.link ≡ l → u.link ≡ []
      unlinked [] e = e
      unlinked (k ∷ ks) e = let z = sound.law.tied 0 k ks u at e in absurd (let w : ⊥ = omega (arith, z) in w)

  -- the run is ending, which nobody's marks see
  owed_on : (id n : ℕ) → Owed q life c us id n → Owed q life (is_ending c) us id n
  owed_on id n (by_seat j u at d) = by_seat j u at d
  owed_on id n (by_retry j u at a) = by_retry j u at a
  owed_on id n (by_reader o k s j u low lives word at link left) = by_reader o k s j u low lives word at link left

  stored_on : (d : Duty) → Stored q calls c us d → Stored q calls (is_ending c) us d
  stored_on (Looking id n k o) x = x
  stored_on _ x = tt

  pub owing_on : SoundOwing q life calls (is_ending c) us
  owing_on = record {
    each = sound.each;
    law = record {
      room = sound.law.room;
      owed = λ id n inside is. owed_on id n (sound.law.owed id n inside is);
      current = sound.law.current;
      coming = sound.law.coming;
      single = sound.law.single;
      distinct = sound.law.distinct;
      past = sound.law.past;
      errors = sound.law.errors;
      letters = sound.law.letters;
      ats = sound.law.ats;
      readers = sound.law.readers;
      dead = sound.law.dead;
      stored = λ j u at. stored_on u.duty (sound.law.stored j u at);
      tied = sound.law.tied;
      kept = sound.law.kept;
    };
    seats = sound.seats;
  }
