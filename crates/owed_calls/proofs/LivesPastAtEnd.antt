-- Where a run with calls has ended no seat has a step left, and the life of each link is past.
use Rattle.std.proofs.Common.{◌≡◌, ◌≢◌, ℕ, zero, suc, ◌+◌, ◌-◌, ◌<◌, ◌⊎◌, inl, inr, ⊎_elim, Bool, true, false, cond, ne_eqb, List, [], ◌∷◌, length, get_or, Option, Some, None, refl, sym, ap, ◌∙◌, subst, arith}
use Rattle.std.specs.Prelude.{Option as Maybe}
use mathlib.Core.Option.{none, some}
use lib.ListN.{get_elem?}
use Rattle.sock_words.specs.declared.kind.Kind.{Kind}
use Rattle.sock_words.specs.declared.plain.Plan.{Plan}
use Rattle.sock_model.specs.declared.view.View.{View}
use Rattle.sock_model.specs.SocketTableLayout.{open_index}
use Rattle.corr_core.specs.declared.marks.Plan.{Plan as IdPlan}
use Rattle.corr_core.proofs.NoteSums.{at_length}
use Rattle.seat_programs.specs.LoopHeads.{Opens}
use Rattle.seat_programs.specs.Programs.{Round}
use Rattle.seat_programs.specs.Cores.{Core}
use Rattle.seat_programs.specs.Ticks.{Moment, IsAlwaysReady, waits, waits_at}
use Rattle.seat_programs.specs.ScheduledRuns.{kind_in, IsSettled}
use Rattle.seat_programs.specs.ScheduledRuns as runs
use Rattle.owned_ids.specs.Below.programs_allowed.specs.program_steps.specs.SoundSeats.{Sound, IsAhead}
use Rattle.owned_ids.specs.Below.programs_allowed.specs.program_steps.proofs.TickCases.{elem_there}
use Rattle.owned_ids.specs.Below.programs_allowed.specs.sock_runs.proofs.SoundAlongRuns.{seat_rests}
use Rattle.owned_ids.specs.Below.programs_allowed.specs.sock_runs.proofs.TicksOfWaitingSeats.{StandsAside, still_settles}
use Rattle.owned_ids.specs.Below.programs_allowed.specs.program_walks.proofs.Rested.{IsPast}
use Rattle.owned_ids.specs.Below.programs_allowed.specs.program_walks.proofs.ReaderSeats.{AtReader, waits_own}
use Rattle.owned_ids.specs.Below.id_runs.specs.HeldIdTokens.{IdView}
use Rattle.owned_ids.specs.Below.id_runs.specs.Goes.{SoundIds}
use Rattle.owned_ids.specs.call_owing.specs.Owing.{Owing}
use Rattle.owned_ids.specs.call_owing.specs.Owes.{OwesOn}
use Rattle.owned_ids.specs.call_owing.specs.SoundOwing.{id_word_of, SoundOwing, AllRest}
use Rattle.owned_ids.specs.call_owing.specs.SettledSeats.{IsAtRest, WaitsAside, WaitsForOpen, OpensKnown}
use Rattle.owned_ids.specs.call_owing.specs.LivesOfLinks.{id_of, life_of}
use Rattle.owing_ticks.proofs.AllSettled.{ranges_ended, waits_for_opens, lives_failed}
use Rattle.owing_ticks.proofs.OwingRuns.{id_is, id_by}
use Rattle.sock_words.specs.PackedWords.{NO_SOCKET}

pub at_some : {A : Type 0} (l : List A) (k : ℕ) → k < length l → (a : A) × (get_elem? l k ≡ some a)
at_some [] k low = absurd (let z : ⊥ = omega (arith, low) in z)
at_some (x ∷ xs) zero low = (x, refl)
at_some (x ∷ xs) (suc k) low = at_some xs k (omega (arith, low))

module _ (p : Plan) (q : IdPlan) (calls os : List ℕ) (in_os : (k o : ℕ) → get_elem? os k ≡ some o → o < p.operations) (c : Core) (vs : List View) (sound : Sound p c vs) (ahead : IsAhead c) (ending : c.calls.ending ≡ true)
    (each : (i : ℕ) → i < length c.seats → runs.IsAtRest c i ⊎ ((m : Moment) × (m.seat ≡ i) × IsAlwaysReady m × (waits p c m ≡ true)))
    (us : List Owing) (owing : SoundOwing q (life_of p os c.words) calls c us) (ws : List IdView) (known : SoundIds p q c ws)
    (readers : (n o : ℕ) → get_elem? os n ≡ some o → AtReader p calls (32 + n) n o c) (many : length c.seats ≡ 32 + length os) where
  abbrev life : ℕ → Option ℕ
  life = life_of p os c.words

  life_is : (k o : ℕ) → get_elem? os k ≡ some o → life k ≡ id_of (get_or c.words (open_index p o) 0)
  life_is k o at = ap (λ x. elim x as (λ x. Option ℕ) [ none ↦ None | some o ↦ id_of (get_or c.words (open_index p o) 0) ]) at

  -- each seat is at rest, or waits aside of the sockets
  still : (i : ℕ) → i < length c.seats → IsAtRest c i ⊎ WaitsAside p c i
  still i inside = ⊎_elim (λ rest. inl (λ seat at. seat_rests c ahead i rest seat at)) (λ w. by_aside w (still_settles p c vs sound ahead each i inside)) (each i inside)
    where
      by_aside : (m : Moment) × (m.seat ≡ i) × IsAlwaysReady m × (waits p c m ≡ true) → runs.IsAtRest c i ⊎ StandsAside c i → IsAtRest c i ⊎ WaitsAside p c i
      by_aside w (inl rest) = inl (λ seat at. seat_rests c ahead i rest seat at)
      by_aside w (inr s) = let m : Moment = w.0 in let is : waits_at p c w.0.answer s.0.program ≡ true = sym (ap (λ o. elim o as (λ o. Bool) [ none ↦ false | some seat ↦ waits_at p c w.0.answer seat.program ]) (ap (get_elem? c.seats) w.1 ∙ s.1)) ∙ w.3 in
          inr (s.0, s.1, s.2.0, s.2.1, w.0.answer, s.2.2, sym (ap (waits_at p c w.0.answer) s.2.2) ∙ is)

  opens_known : OpensKnown p life c us
  opens_known j u k s seat o next at at_seat linked lives is = let place = owing.law.tied j k [] u at linked in let x = at_some os k (omega (arith, place, many, at_length c.seats j seat at_seat)) in
      let own : o ≡ x.0 = waits_own p calls j k x.0 (in_os k x.0 x.1) c seat at_seat (subst (λ y. AtReader p calls y k x.0 c) (sym place) (readers k x.0 x.1)) o next is in
      let named = id_is (get_or c.words (open_index p x.0) 0) s (sym (life_is k x.0 x.1) ∙ lives) in
      λ z. let y : get_or c.words (open_index p x.0) 0 ≡ 0 = ap (λ n. get_or c.words (open_index p n) 0) (sym own) ∙ z in let w = named.0 in omega (arith, y, w)

  -- who waits for an `open` is the reader of its link
  pub reader_waits : (i : ℕ) → WaitsForOpen p c i → (n : ℕ) × (o : ℕ) × (i ≡ 32 + n) × (get_elem? os n ≡ some o) × (get_or c.words (open_index p o) 0 ≡ 0)
  reader_waits i w = let u = elem_there c.seats us i w.0 owing.each w.3 in let g : OwesOn life u.0 (Round (Opens w.1) w.2) = subst (OwesOn life u.0) w.4 (owing.seats i w.0 u.0 w.3 u.1) in
      let k : ℕ = g.0.0.0 in let place = owing.law.tied i g.0.0.0 [] u.0 u.1 g.0.0.1 in let x = at_some os g.0.0.0 (omega (arith, place, many, at_length c.seats i w.0 w.3)) in
      let own : w.1 ≡ x.0 = waits_own p calls i g.0.0.0 x.0 (in_os g.0.0.0 x.0 x.1) c w.0 w.3 (subst (λ y. AtReader p calls y g.0.0.0 x.0 c) (sym place) (readers g.0.0.0 x.0 x.1)) w.1 w.2 w.4 in
      (g.0.0.0, x.0, place, x.1, ap (λ n. get_or c.words (open_index p n) 0) (sym own) ∙ w.5)

  -- each range has ended
  pub all_ranges_ended : (i : ℕ) → i < q.slots → (id_word_of c i).state ≡ 0
  all_ranges_ended = ranges_ended p q life calls c us ws owing known ending still opens_known

  -- a client is at rest
  pub clients_rest : (i : ℕ) → i < 32 → i < length c.seats → IsAtRest c i
  clients_rest i low inside = ⊎_elim (λ rest. rest) (λ w. absurd (let r = reader_waits i w in let place = r.2 in let z : ⊥ = omega (arith, place, low) in z)) (waits_for_opens p q life calls c us ws owing known ending still opens_known i inside)

  -- where each client at rest has stored the words of its `open`s, all is at rest
  module _ (stored : (n o : ℕ) → get_elem? os n ≡ some o → ((i : ℕ) → i < 32 → i < length c.seats → IsAtRest c i) → get_or c.words (open_index p o) 0 ≢ 0) where
    pub all_rest : AllRest c
    all_rest j seat at = ⊎_elim (λ rest. rest seat at) (λ w. absurd (let r = reader_waits j w in stored r.0 r.1 r.3 clients_rest r.4)) (waits_for_opens p q life calls c us ws owing known ending still opens_known j (at_length c.seats j seat at))

    -- no seat has a step left
    pub is_settled : IsSettled c
    is_settled i inside = let seat = at_some c.seats i inside in ap (λ o. elim o as (λ o. Maybe Kind) [ none ↦ None | some s ↦ kind_in s.program ]) seat.1 ∙ ap kind_in (all_rest i seat.0 seat.1)

    -- and the life of each link is past
    pub lives_past : (o n : ℕ) → get_elem? os n ≡ some o → IsPast p c o
    lives_past o n at = λ s is socket same. let some_ : get_or c.words (open_index p o) 0 ≢ 0 = (λ z. omega (arith, is, z)) in
        let lives : life n ≡ Some s = life_is n o at ∙ (id_by (get_or c.words (open_index p o) 0) some_ ∙ (ap (λ b. cond b None (Some (get_or c.words (open_index p o) 0 - 1))) (ne_eqb (get_or c.words (open_index p o) 0) NO_SOCKET (λ z. socket (sym is ∙ z)))
        ∙ ap Some (let z : get_or c.words (open_index p o) 0 - 1 ≡ s = omega (arith, is) in z))) in
        let past = lives_failed q life calls c us owing all_rest n s lives s lives in omega (arith, past, same)
