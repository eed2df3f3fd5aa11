-- A tick in which an at word is stored, or loaded by a reader, or that changes no id word and no at word, keeps what is owed.
use Rattle.std.proofs.Common.{◌≡◌, ◌≢◌, ℕ, ◌<◌, ◌≤◌, List, Option, Some, length, set, sym, subst}
use Rattle.std.specs.List.{AllByRecursion}
use mathlib.Core.Option.{some}
use lib.ListN.{get_elem?}
use Rattle.sock_words.specs.PackedWords.{at_word_first, at_word_slot, call_id, id_slot}
use Rattle.corr_core.specs.declared.marks.Plan.{Plan as IdPlan}
use Rattle.seat_programs.specs.id_rule.specs.LawfulIdTable as ids
use Rattle.seat_programs.specs.Asides.{Step, Found, StoreAt, LoadAt}
use Rattle.seat_programs.specs.Programs.{Program, Aside}
use Rattle.seat_programs.specs.Cores.{Core, SeatState, waiting_at, with_seat}
use Rattle.seat_programs.specs.FoundAndChangedAside.{calls_after}
use Rattle.call_owing.specs.Owing.{Owing, InList, Linked}
use Rattle.call_owing.specs.Owes.{OwesOn}
use Rattle.call_owing.specs.SoundOwing.{id_word_of, at_of, OwingLaw, SoundOwing}
use Rattle.owing_ticks.proofs.OwedBehindIdSteps.{Behind, still_keeps}
use Rattle.owing_ticks.proofs.AtWordStores.{stores_keep, loads_keep}
use Rattle.owing_ticks.proofs.SeatRetriesBehindStep.{Few}
use Rattle.owing_ticks.proofs.TicksKeepOwing.{After, follows}

module _ (q : IdPlan) (narrow : q.slots ≤ 65536) (life : ℕ → Option ℕ) (low_links : (k s : ℕ) → life k ≡ Some s → k < 65535) (calls : List ℕ) (c : Core) (us : List Owing) (sound : SoundOwing q life calls c us) (i : ℕ) (seat : SeatState) (u : Owing) (at_seat : get_elem? c.seats i ≡ some seat) (at : get_elem? us i ≡ some u)
    (plan : c.calls.plan ≡ q) (sized : length c.calls.words ≡ ids.all_words q) (few : AllByRecursion Few (waiting_at c.calls.waiting i)) where
  abbrev pub Goes : (step : Step) → Found step → (Found step → Program) → Type 0
  Goes step found next = After q life calls c us sound i seat u at_seat at (with_seat i (next found) seat.hand c.words c.homes (record c { calls = calls_after step found c.calls }))

  -- T1 of an at word: the word was 0, or of the same id
  pub store_ticks : (o w found : ℕ) (next : ℕ → Program) → OwesOn life u (Aside (StoreAt o w) next) → o < q.operations → InList o calls
      → ((id n k : ℕ) → u.duty ≡ Linked id n k → (id_slot id < q.slots) × (at_of q c o ≢ 0 → call_id (at_word_slot (at_of q c o)) (at_word_first (at_of q c o)) ≡ id)) → Goes (StoreAt o w) found next
  store_ticks o w found next g low known names = let r = g.1 found tt in let m = r.1 in let f = names m.0 m.1 m.2 m.3 in
      follows q life calls c us sound i seat u at_seat at (next found) seat.hand c.words c.homes (calls_after (StoreAt o w) found c.calls) r.0
      (subst (λ x. OwingLaw q life calls (record { words = c.words; homes = c.homes; seats = c.seats; outcomes = c.outcomes; calls = calls_after (StoreAt o w) found c.calls }) (set us i x)) (sym m.7)
      (subst (λ (p : IdPlan). OwingLaw q life calls (record { words = c.words; homes = c.homes; seats = c.seats; outcomes = c.outcomes; calls = record c.calls { words = set c.calls.words (ids.at_index p o) w } }) (set us i (Rattle.call_owing.specs.Owing.with_known m.0 m.1 (Rattle.call_owing.specs.Owing.with_duty (Rattle.call_owing.specs.Owing.Looking m.0 m.1 m.2 o) u)))) (sym plan)
      (subst (λ x. OwingLaw q life calls (record { words = c.words; homes = c.homes; seats = c.seats; outcomes = c.outcomes; calls = record c.calls { words = set c.calls.words (ids.at_index q o) x } }) (set us i (Rattle.call_owing.specs.Owing.with_known m.0 m.1 (Rattle.call_owing.specs.Owing.with_duty (Rattle.call_owing.specs.Owing.Looking m.0 m.1 m.2 o) u)))) (sym m.4)
      (stores_keep q narrow life low_links calls c us i u sound.law at c.seats c.outcomes sized o m.0 m.1 m.2 low known m.3 m.5 m.6 f.1 f.0)))) r.2 few

  -- T2 of a reader
  pub load_ticks : (o : ℕ) (next : ℕ → Program) → OwesOn life u (Aside (LoadAt o) next) → o < q.operations → Goes (LoadAt o) (at_of q c o) next
  load_ticks o next g low = let r = g.1 (at_of q c o) tt in let m = r.1 in
      follows q life calls c us sound i seat u at_seat at (next (at_of q c o)) seat.hand c.words c.homes c.calls r.0
      (subst (λ x. OwingLaw q life calls (record { words = c.words; homes = c.homes; seats = c.seats; outcomes = c.outcomes; calls = c.calls }) (set us i x)) (sym m.4)
      (loads_keep q narrow life low_links calls c us i u sound.law at c.seats c.outcomes m.0 o m.1 m.2 m.3 g.0.0 g.0.1 low)) r.2 few

  -- a step that changes no id word and no at word
  pub other_ticks : (step : Step) (found : Found step) (next : Found step → Program) → OwesOn life u (next found) → (calls_after step found c.calls).waiting ≡ c.calls.waiting
      → ((j : ℕ) → j < q.slots → id_word_of (Behind q narrow life calls c us i u sound.law at sized c.seats c.outcomes (calls_after step found c.calls)) j ≡ id_word_of c j)
      → ((o : ℕ) → o < q.operations → at_of q (Behind q narrow life calls c us i u sound.law at sized c.seats c.outcomes (calls_after step found c.calls)) o ≡ at_of q c o) → Goes step found next
  other_ticks step found next g waits words ats = follows q life calls c us sound i seat u at_seat at (next found) seat.hand c.words c.homes (calls_after step found c.calls) u
      (still_keeps q narrow life calls c us i u sound.law at sized c.seats c.outcomes (calls_after step found c.calls) waits words ats) g (subst (λ (x : List (List Rattle.seat_programs.specs.LoopHeads.Retry)). AllByRecursion Few (waiting_at x i)) (sym waits) few)
