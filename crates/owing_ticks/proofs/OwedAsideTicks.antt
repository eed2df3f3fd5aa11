-- A tick in which a seat looks at an id word, locks, posts, gives a lock back, makes or ends an id, stores an at word or loads one keeps what is owed.
use Rattle.std.proofs.Common.{◌≡◌, ℕ, ◌+◌, ◌<◌, ◌≤◌, ◌⊎◌, Bool, List, Option, length, get_or, set, refl, sym, subst, arith}
use Rattle.std.specs.List.{AllByRecursion}
use mathlib.Core.Option.{some}
use lib.ListN.{get_elem?}
use Rattle.corr_core.specs.IdSlotWord.{parts, made_word, free_word}
use Rattle.corr_core.specs.declared.marks.Plan.{Plan as IdPlan}
use Rattle.seat_programs.specs.id_rule.specs.LawfulIdTable as ids
use Rattle.call_owing.specs.Below.id_runs.proofs.AsidesKeepingIdRule.{parts_packed}
use Rattle.seat_programs.specs.Asides.{Step, Found, MakeId, LoadIdWord, LockId, PostId, UnlockId, EndId}
use Rattle.seat_programs.specs.Programs.{Program, Aside}
use Rattle.seat_programs.specs.PostPrograms.{packed}
use Rattle.seat_programs.specs.Cores.{Core, SeatState, waiting_at, with_seat}
use Rattle.seat_programs.specs.FoundAndChangedAside.{calls_after}
use Rattle.call_owing.specs.Owing.{Owing, FindsUnlock}
use Rattle.call_owing.specs.Owes.{OwesOn}
use Rattle.call_owing.specs.SoundOwing.{OwingLaw, SoundOwing}
use Rattle.owing_ticks.proofs.OwedBehindIdSteps.{look_keeps, lock_keeps, post_keeps, unlock_keeps}
use Rattle.owing_ticks.proofs.IdTurnsKeepOwing.{makes_keep, ends_keep}
use Rattle.owing_ticks.proofs.SeatRetriesBehindStep.{Few}
use Rattle.owing_ticks.proofs.TicksKeepOwing.{After, follows}

module _ (q : IdPlan) (narrow : q.slots ≤ 65536) (life : ℕ → Option ℕ) (calls : List ℕ) (c : Core) (us : List Owing) (sound : SoundOwing q life calls c us) (i : ℕ) (seat : SeatState) (u : Owing) (at_seat : get_elem? c.seats i ≡ some seat) (at : get_elem? us i ≡ some u)
    (sized : length c.calls.words ≡ ids.all_words q) (few : AllByRecursion Few (waiting_at c.calls.waiting i)) (s : ℕ) (inside : s < q.slots) where
  -- the word of the slot
  abbrev pub Word : ℕ
  Word = get_or c.calls.words (ids.id_index s) 0

  abbrev pub Goes : (step : Step) → Found step → (Found step → Program) → Type 0
  Goes step found next = After q life calls c us sound i seat u at_seat at (with_seat i (next found) seat.hand c.words c.homes (record c { calls = calls_after step found c.calls }))

  pub look_ticks : (next : ℕ → Program) → OwesOn life u (Aside (LoadIdWord s) next) → Goes (LoadIdWord s) Word next
  look_ticks next g = let r = g.1 Word tt in follows q life calls c us sound i seat u at_seat at (next Word) seat.hand c.words c.homes c.calls r.0
      (look_keeps q narrow life calls c us i u sound.law at sized c.seats c.outcomes s inside Word refl r.0 r.1) r.2 few

  pub lock_ticks : (from : ℕ) (next : ℕ → Program) → OwesOn life u (Aside (LockId s from) next) → (parts from).state ≡ 1 → Rattle.call_owing.specs.Owing.FindsOwe u (LockId s from) Word → Goes (LockId s from) Word next
  lock_ticks from next g one f = let r = g.1 Word f in follows q life calls c us sound i seat u at_seat at (next Word) seat.hand c.words c.homes (calls_after (LockId s from) Word c.calls) r.0
      (lock_keeps q narrow life calls c us i u sound.law at sized c.seats c.outcomes s inside Word refl from r.0 one r.1) r.2 few

  pub post_ticks : (from e : ℕ) (next : ℕ → Program) → OwesOn life u (Aside (PostId s from e) next) → e < 32768 → ((parts from).state ≡ 1) ⊎ ((parts from).state ≡ 2) → Goes (PostId s from e) Word next
  post_ticks from e next g small states = let r = g.1 Word tt in follows q life calls c us sound i seat u at_seat at (next Word) seat.hand c.words c.homes (calls_after (PostId s from e) Word c.calls) r.0
      (post_keeps q narrow life calls c us i u sound.law at sized c.seats c.outcomes s inside Word refl from e r.0 small states g.0 r.1) r.2 few

  pub unlock_ticks : (from : ℕ) (advance : Bool) (next : ℕ → Program) → OwesOn life u (Aside (UnlockId s from advance) next) → FindsUnlock from advance Word → (parts from).state ≡ 2 → Goes (UnlockId s from advance) Word next
  unlock_ticks from advance next g f two = let r = g.1 Word f in follows q life calls c us sound i seat u at_seat at (next Word) seat.hand c.words c.homes (calls_after (UnlockId s from advance) Word c.calls) r.0
      (subst (λ x. OwingLaw q life calls (record { words = c.words; homes = c.homes; seats = c.seats; outcomes = c.outcomes; calls = calls_after (UnlockId s from advance) Word c.calls }) (set us i x)) (sym r.1)
      (unlock_keeps q narrow life calls c us i u sound.law at sized c.seats c.outcomes s inside Word refl from advance f.0 f.1 two g.0)) r.2 few

  pub end_ticks : (next : ℕ → Program) → OwesOn life u (Aside (EndId s) next) → Goes (EndId s) Word next
  end_ticks next g = let r = g.1 Word tt in follows q life calls c us sound i seat u at_seat at (next Word) seat.hand c.words c.homes (calls_after (EndId s) Word c.calls) r.0
      (ends_keep q narrow life calls c us i u sound.law at sized c.seats c.outcomes s inside (packed (free_word ((parts Word).first + (parts Word).range))) Word r.0
      (parts_packed (free_word ((parts Word).first + (parts Word).range)) (omega arith) (omega arith) (omega arith) (omega arith) (omega arith) (omega arith)) (omega arith) r.1) r.2 few

  pub make_ticks : (range : ℕ) (next : ℕ → Program) → OwesOn life u (Aside (MakeId s range) next) → (parts Word).state ≡ 0 → (parts Word).first < 4294967296 → 2 ≤ range → range ≤ 8 → Goes (MakeId s range) Word next
  make_ticks range next g none_ low some_ most = let r = g.1 Word tt in follows q life calls c us sound i seat u at_seat at (next Word) seat.hand c.words c.homes (calls_after (MakeId s range) Word c.calls) r.0
      (subst (λ x. OwingLaw q life calls (record { words = c.words; homes = c.homes; seats = c.seats; outcomes = c.outcomes; calls = calls_after (MakeId s range) Word c.calls }) (set us i x)) (sym r.1)
      (makes_keep q narrow life calls c us i u sound.law at sized c.seats c.outcomes s inside (packed (made_word (parts Word).first range)) range low none_
      (parts_packed (made_word (parts Word).first range) (omega arith) (omega (arith, some_)) most (omega arith) (omega arith) (omega arith)) g.0)) r.2 few
