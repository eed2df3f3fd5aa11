-- Over a whole run, of setup, schedule and rounds, ending, and rounds again, what is owed is kept, and each life has the link of its `open`.
use Rattle.std.proofs.Common.{◌≡◌, ◌≢◌, ℕ, ◌+◌, ◌-◌, ◌*◌, ◌<◌, ◌≤◌, ◌⊎◌, inl, inr, ⊎_elim, cond, ne_eqb, List, [], ◌∷◌, length, length-set, get_or, Option, Some, None, refl, sym, ap, ◌∙◌, subst, arith}
use mathlib.Core.Logic.{dite}
use native.Mathlib.Decide.{ℕ_discrete}
use mathlib.Core.Option.{none, some, some-ne-none}
use lib.ListN.{get_elem?}
use Rattle.atomic_table.proofs.Lists.{at_set, set_else}
use Rattle.sock_words.specs.PackedWords.{socket_id, socket_id_slot, NO_SOCKET}
use Rattle.sock_words.specs.declared.plain.Plan.{Plan}
use Rattle.sock_model.specs.declared.view.View.{View}
use Rattle.sock_model.specs.SocketTableLayout.{open_index}
use Rattle.corr_core.specs.declared.marks.Plan.{Plan as IdPlan}
use Rattle.seat_programs.specs.Programs.{Rest}
use Rattle.seat_programs.specs.ClientProgram.{ending_of}
use Rattle.seat_programs.specs.Cores.{Core, SeatState, resolved, next_step, waiting_at, with_seat}
use Rattle.seat_programs.specs.Ticks.{Moment, run, AreAnswered}
use Rattle.seat_programs.specs.ScriptSetupToEnding.{is_ending}
use Rattle.owned_ids.specs.Below.programs_allowed.specs.program_steps.specs.SoundSeats.{state, Sound, AreFitting, views_along}
use Rattle.owned_ids.specs.Below.programs_allowed.specs.program_steps.proofs.SlotWordBounds.{law, lives_le}
use Rattle.owned_ids.specs.Below.programs_allowed.specs.program_walks.proofs.Records.{next_stores}
use Rattle.owned_ids.specs.Below.programs_allowed.specs.sock_runs.proofs.LinkTicks.{RetriesGo}
use Rattle.owned_ids.specs.Below.programs_allowed.specs.sock_runs.proofs.Quiets.{run_seats}
use Rattle.owned_ids.specs.Below.programs_allowed.specs.program_walks.proofs.Through.{through_any_failed}
use Rattle.owned_ids.specs.Below.programs_allowed.specs.program_walks.proofs.ThroughSends.{through_ending}
use Rattle.owned_ids.specs.Below.programs_allowed.specs.program_walks.proofs.ThroughCalls.{through_next}
use Rattle.owned_ids.specs.Below.programs_allowed.specs.program_walks.proofs.Recorded.{Recorded}
use Rattle.owned_ids.specs.Below.programs_allowed.specs.program_walks.proofs.LinksRecorded.{Gives, gives_passes, gives_opens, gives_follow, Stored, Stores, Linked, run_linked}
use Rattle.owned_ids.specs.Below.programs_allowed.specs.program_walks.proofs.LinksOpening.{OpensLink}
use Rattle.owned_ids.specs.Below.programs_allowed.specs.sock_runs.proofs.LinksStay.{IsGiven}
use Rattle.owned_ids.specs.Below.programs_allowed.specs.program_walks.proofs.ReaderSeats.{AtReader, run_reader}
use Rattle.owned_ids.specs.call_owing.specs.Owing.{Owing}
use Rattle.owned_ids.specs.call_owing.specs.SoundOwing.{SoundOwing}
use Rattle.owned_ids.specs.call_owing.specs.LivesOfLinks.{id_of, life_of, AreSaying}
use Rattle.owing_ticks.proofs.OwingRuns.{Reaches, id_by, reach_back, run_owing}
use Rattle.owing_ticks.proofs.OwingEnding.{owing_ending, owing_on}

-- ## The ending

gives_ending : (own : ℕ → ℕ → Type 0) (os : List ℕ) → Gives own (ending_of os)
gives_ending own os = through_ending (Gives own) (gives_passes own).sends.plain.words (through_any_failed (Gives own) (gives_passes own) 1014) (gives_opens own) tt os

-- a seat that is at rest begins it
pub linked_ending : (p : Plan) (own : ℕ → ℕ → Type 0) (os : List ℕ) (c : Core) (vs : List View) → Linked p own c vs → ((seat : SeatState) → get_elem? c.seats 0 ≡ some seat → seat.program ≡ Rest) → Linked p own (with_seat 0 (ending_of os) [] c.words c.homes c) vs
linked_ending p own os c vs l rests = record {
  programs = λ j s at. ⊎_elim
      (λ a. subst (λ (x : SeatState). Gives own x.program) a.1 (through_next (Gives own) (gives_passes own) (gives_follow own) (waiting_at c.calls.waiting 0) (ending_of os) (gives_ending own os)))
      (λ a. l.programs j s a.1) (at_set c.seats 0 j seat s at);
  linked = λ i h k inside given. stays k (socket_id h i) (l.linked i h k inside given);
}
  where
    seat : SeatState
    seat = record { program = next_step (resolved (waiting_at c.calls.waiting 0) (ending_of os)); hand = [] }

    stays : (k id : ℕ) → Stored p own c k id ⊎ Stores own c k id → Stored p own (with_seat 0 (ending_of os) [] c.words c.homes c) k id ⊎ Stores own (with_seat 0 (ending_of os) [] c.words c.homes c) k id
    stays k id (inl x) = inl record { operation = x.operation; mine = x.mine; inside = x.inside; word = x.word }
    stays k id (inr x) = dite (ℕ_discrete x.place 0)
        (λ e. absurd (some-ne-none (x.operation, id + 1) (sym x.next ∙ ap next_stores (rests x.seat (ap (get_elem? c.seats) (sym e) ∙ x.there)))))
        (λ far. inr record { place = x.place; seat = x.seat; there = set_else c.seats 0 x.place seat far ∙ x.there; operation = x.operation; mine = x.mine; next = x.next })

pub linked_on : (p : Plan) (own : ℕ → ℕ → Type 0) (c : Core) (vs : List View) → Linked p own c vs → Linked p own (is_ending c) vs
linked_on p own c vs l = record { programs = l.programs; linked = λ i h k inside given. stays k (socket_id h i) (l.linked i h k inside given) }
  where
    stays : (k id : ℕ) → Stored p own c k id ⊎ Stores own c k id → Stored p own (is_ending c) k id ⊎ Stores own (is_ending c) k id
    stays k id (inl x) = inl record { operation = x.operation; mine = x.mine; inside = x.inside; word = x.word }
    stays k id (inr x) = inr record { place = x.place; seat = x.seat; there = x.there; operation = x.operation; mine = x.mine; next = x.next }

-- where no seat stores anything next, each life that was given a link stands in the word of the link's `open`
pub links_stand : (p : Plan) (os : List ℕ) (c : Core) (vs : List View) → Sound p c vs → Linked p (OpensLink os) c vs → ((j : ℕ) (seat : SeatState) → get_elem? c.seats j ≡ some seat → next_stores seat.program ≡ none)
    → (i h k : ℕ) → i < p.slots → IsGiven c vs i h k → life_of p os c.words k ≡ Some (socket_id h i)
links_stand p os c vs sound l still i h k inside given = ⊎_elim stored (λ x. absurd (some-ne-none (x.operation, socket_id h i + 1) (sym x.next ∙ still x.place x.seat x.there))) (l.linked i h k inside given)
  where
    low : socket_id h i + 1 ≢ NO_SOCKET
    low e = let w = law p (state c vs) sound.lawful.references i inside in let t = w.link_low h k given in let le = lives_le p (state c vs) sound.lawful.references i inside in
        let e' : h * 4294967296 + i + 1 ≡ 18446744073709551615 = e in omega (arith, t, w.top, le, sound.limits.slots, e')

    stored : Stored p (OpensLink os) c k (socket_id h i) → life_of p os c.words k ≡ Some (socket_id h i)
    stored x = ap (λ y. elim y as (λ y. Option ℕ) [ none ↦ None | some o ↦ id_of (get_or c.words (open_index p o) 0) ]) x.mine ∙ ap id_of x.word
        ∙ id_by (socket_id h i + 1) (let z : 0 < socket_id h i + 1 = omega arith in λ e. omega (arith, z, e))
        ∙ ap (λ b. cond b None (Some (socket_id h i + 1 - 1))) (ne_eqb (socket_id h i + 1) NO_SOCKET low) ∙ ap Some (let z : socket_id h i + 1 - 1 ≡ socket_id h i = omega arith in z)

-- ## A whole run

module _ (p : Plan) (q : IdPlan) (narrow : q.slots ≤ 65536) (same : q.operations ≡ p.operations) (calls os : List ℕ) (in_os : (k o : ℕ) → get_elem? os k ≡ some o → o < p.operations) (go : RetriesGo p) (Q : ℕ → ℕ → Type 0)
    (c₀ : Core) (v₀ : List View) (m₁ m₂ m₃ m₄ : List Moment) where
  abbrev pub c₁ : Core
  c₁ = run p c₀ m₁

  abbrev pub c₂ : Core
  c₂ = run p (run p c₀ m₁) m₂

  abbrev pub c₃ : Core
  c₃ = with_seat 0 (ending_of os) [] c₂.words c₂.homes c₂

  abbrev pub c₅ : Core
  c₅ = is_ending (run p c₃ m₃)

  abbrev pub c₆ : Core
  c₆ = run p c₅ m₄

  abbrev pub v₁ : List View
  v₁ = views_along p c₀ v₀ m₁

  abbrev pub v₂ : List View
  v₂ = views_along p c₁ v₁ m₂

  abbrev pub v₅ : List View
  v₅ = views_along p c₃ v₂ m₃

  abbrev pub v₆ : List View
  v₆ = views_along p c₅ v₅ m₄

  -- a part, from sound seats with what is recorded of them
  pub record Part (c : Core) (vs : List View) (ms : List Moment) : Type 0 where
    pub sound : Sound p c vs
    pub answered : AreAnswered p c ms
    pub fits : AreFitting p c ms
    pub recorded : Recorded p Q c vs

  -- the four parts
  pub record Parts : Type 0 where
    pub first : Part c₀ v₀ m₁
    pub second : Part c₁ v₁ m₂
    pub third : Part c₃ v₂ m₃
    pub last : Part c₅ v₅ m₄
    pub readers : (n o : ℕ) → get_elem? os n ≡ some o → AtReader p calls (32 + n) n o c₀
    pub many : length c₀.seats ≡ 32 + length os

  module _ (parts : Parts) where
    -- the readers at each part
    pub readers₁ : (n o : ℕ) → get_elem? os n ≡ some o → AtReader p calls (32 + n) n o c₁
    readers₁ n o at = run_reader p calls (32 + n) n o (in_os n o at) go c₀ v₀ m₁ parts.first.sound parts.first.answered parts.first.fits (parts.readers n o at)

    pub readers₂ : (n o : ℕ) → get_elem? os n ≡ some o → AtReader p calls (32 + n) n o c₂
    readers₂ n o at = run_reader p calls (32 + n) n o (in_os n o at) go c₁ v₁ m₂ parts.second.sound parts.second.answered parts.second.fits (readers₁ n o at)

    pub readers₃ : (n o : ℕ) → get_elem? os n ≡ some o → AtReader p calls (32 + n) n o c₃
    readers₃ n o at seat there = ⊎_elim (λ a. absurd (let place = a.0 in let z : ⊥ = omega (arith, place) in z)) (λ a. readers₂ n o at seat a.1)
        (at_set c₂.seats 0 (32 + n) (record { program = next_step (resolved (waiting_at c₂.calls.waiting 0) (ending_of os)); hand = [] }) seat there)

    pub readers₅ : (n o : ℕ) → get_elem? os n ≡ some o → AtReader p calls (32 + n) n o c₅
    readers₅ n o at = run_reader p calls (32 + n) n o (in_os n o at) go c₃ v₂ m₃ parts.third.sound parts.third.answered parts.third.fits (readers₃ n o at)

    pub readers₆ : (n o : ℕ) → get_elem? os n ≡ some o → AtReader p calls (32 + n) n o c₆
    readers₆ n o at = run_reader p calls (32 + n) n o (in_os n o at) go c₅ v₅ m₄ parts.last.sound parts.last.answered parts.last.fits (readers₅ n o at)

    pub many₁ : length c₁.seats ≡ 32 + length os
    many₁ = run_seats p c₀ m₁ ∙ parts.many

    pub many₂ : length c₂.seats ≡ 32 + length os
    many₂ = run_seats p c₁ m₂ ∙ many₁

    pub many₃ : length c₃.seats ≡ 32 + length os
    many₃ = length-set c₂.seats 0 (record { program = next_step (resolved (waiting_at c₂.calls.waiting 0) (ending_of os)); hand = [] }) ∙ many₂

    pub many₅ : length c₅.seats ≡ 32 + length os
    many₅ = run_seats p c₃ m₃ ∙ many₃

    pub many₆ : length c₆.seats ≡ 32 + length os
    many₆ = run_seats p c₅ m₄ ∙ many₅

    -- each life that was given a link stands in the word of its `open`, or is stored there next
    pub linked_at_end : Linked p (OpensLink os) c₀ v₀ → ((seat : SeatState) → get_elem? c₂.seats 0 ≡ some seat → seat.program ≡ Rest) → Linked p (OpensLink os) c₆ v₆
    linked_at_end l rests = run_linked p go (OpensLink os) Q c₅ v₅ m₄ parts.last.sound parts.last.answered parts.last.fits parts.last.recorded (linked_on p (OpensLink os) (run p c₃ m₃) v₅ (run_linked p go (OpensLink os) Q c₃ v₂ m₃ parts.third.sound parts.third.answered parts.third.fits parts.third.recorded
        (linked_ending p (OpensLink os) os c₂ v₂ (run_linked p go (OpensLink os) Q c₁ v₁ m₂ parts.second.sound parts.second.answered parts.second.fits parts.second.recorded (run_linked p go (OpensLink os) Q c₀ v₀ m₁ parts.first.sound parts.first.answered parts.first.fits parts.first.recorded l)) rests)))

    module _ (slots : (k s : ℕ) → life_of p os c₆.words k ≡ Some s → socket_id_slot s < p.slots) (links : (k s : ℕ) → life_of p os c₆.words k ≡ Some s → k < 65535) where
      abbrev pub Reach : Core → List View → Type 0
      Reach c vs = Reaches p q narrow same calls os c₆.words in_os slots links c vs

      module _ (reach : Reaches p q narrow same calls os c₆.words in_os slots links c₆ v₆) where
        pub reach₅ : Reach c₅ v₅
        reach₅ = reach_back p q narrow same calls os c₆.words in_os slots links go Q c₅ v₅ m₄ parts.last.sound parts.last.answered parts.last.fits parts.last.recorded reach

        pub reach₄ : Reach (run p c₃ m₃) v₅
        reach₄ = record { stays = reach₅.stays; given = reach₅.given }

        pub reach₃ : Reach c₃ v₂
        reach₃ = reach_back p q narrow same calls os c₆.words in_os slots links go Q c₃ v₂ m₃ parts.third.sound parts.third.answered parts.third.fits parts.third.recorded reach₄

        pub reach₂ : Reach c₂ v₂
        reach₂ = record { stays = reach₃.stays; given = reach₃.given }

        pub reach₁ : Reach c₁ v₁
        reach₁ = reach_back p q narrow same calls os c₆.words in_os slots links go Q c₁ v₁ m₂ parts.second.sound parts.second.answered parts.second.fits parts.second.recorded reach₂

        -- what is owed at the end
        pub owed_at_end : AreSaying p q (life_of p os c₆.words) calls c₀ m₁ → AreSaying p q (life_of p os c₆.words) calls c₁ m₂ → AreSaying p q (life_of p os c₆.words) calls c₃ m₃ → AreSaying p q (life_of p os c₆.words) calls c₅ m₄
            → (seat : SeatState) → get_elem? c₂.seats 0 ≡ some seat → seat.program ≡ Rest → (us : List Owing) → SoundOwing q (life_of p os c₆.words) calls c₀ us → (us' : List Owing) × SoundOwing q (life_of p os c₆.words) calls c₆ us'
        owed_at_end says₁ says₂ says₃ says₄ seat at_seat rest us owing =
            let o₁ = run_owing p q narrow same calls os c₆.words in_os slots links go Q c₀ v₀ m₁ parts.first.sound parts.first.answered parts.first.fits parts.first.recorded parts.readers parts.many says₁ reach₁ us owing in
            let o₂ = run_owing p q narrow same calls os c₆.words in_os slots links go Q c₁ v₁ m₂ parts.second.sound parts.second.answered parts.second.fits parts.second.recorded readers₁ many₁ says₂ reach₂ o₁.0 o₁.1 in
            let u = mark c₂.seats o₂.0 o₂.1.each seat at_seat in
            let o₃ = owing_ending q (life_of p os c₆.words) calls c₂ o₂.0 o₂.1 os seat u.0 at_seat u.1 rest in
            let o₄ = run_owing p q narrow same calls os c₆.words in_os slots links go Q c₃ v₂ m₃ parts.third.sound parts.third.answered parts.third.fits parts.third.recorded readers₃ many₃ says₃ reach₄ o₃.0 o₃.1 in
            run_owing p q narrow same calls os c₆.words in_os slots links go Q c₅ v₅ m₄ parts.last.sound parts.last.answered parts.last.fits parts.last.recorded readers₅ many₅ says₄ reach o₄.0 (owing_on q (life_of p os c₆.words) calls (run p c₃ m₃) o₄.0 o₄.1)
          where
            mark : (seats : List SeatState) (us : List Owing) → length us ≡ length seats → (seat : SeatState) → get_elem? seats 0 ≡ some seat → (u : Owing) × (get_elem? us 0 ≡ some u)
            mark [] us e seat at = absurd (some-ne-none seat (sym at))
            mark (s ∷ ss) [] e seat at = absurd (let z : ⊥ = omega (arith, e) in z)
            mark (s ∷ ss) (u ∷ us) e seat at = (u, refl)
