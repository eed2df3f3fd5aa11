-- Each life that was made stands in the word of an operation up to the end, also behind the ending; where all is at rest and none of these words is of a live life, every life was failed.
use Rattle.std.proofs.Common.{◌≡◌, ◌≢◌, ℕ, ◌+◌, ◌*◌, ◌<◌, List, [], get_or, sym, ap, ◌∙◌, subst, inl, inr, ⊎_elim, arith}
use Rattle.std.proofs.lemmas.Bool.{true≢false}
use mathlib.Core.Logic.{dite}
use mathlib.Core.Option.{some, some-ne-none}
use native.Mathlib.Decide.{ℕ_discrete}
use lib.ListN.{get_elem?}
use Rattle.atomic_table.proofs.Lists.{at_set, set_else}
use Rattle.sock_words.specs.PackedWords.{socket_id, socket_id_version, socket_id_slot, vref_version, NO_SOCKET}
use Rattle.sock_words.specs.declared.plain.Plan.{Plan}
use Rattle.sock_model.specs.declared.view.View.{View}
use Rattle.sock_model.specs.SocketTableLayout.{ref_index, open_index}
use Rattle.sock_model.specs.MarkWeights.{is_failer}
use Rattle.sock_model.specs.SocketSlotLaw.{count, live}
use Rattle.sock_model.specs.References.{slot_facts}
use Rattle.sock_steps.specs.slot_steps.proofs.RuleNumbers.{life_is, life-in}
use Rattle.seat_programs.specs.Programs.{Rest}
use Rattle.seat_programs.specs.ClientProgram.{ending_of}
use Rattle.seat_programs.specs.Cores.{Core, SeatState, resolved, next_step, waiting_at, with_seat}
use Rattle.seat_programs.specs.ScriptSetupToEnding.{is_ending}
use Rattle.sock_runs.specs.program_steps.specs.SoundSeats.{state, Sound, AllRest, AllFailed}
use Rattle.sock_runs.specs.program_steps.proofs.SlotWordBounds.{law, lives_le}
use Rattle.program_walks.proofs.Records.{next_stores, Records}
use Rattle.program_walks.proofs.Recorded.{Recorded, Stands, nothing, records_more}
use Rattle.program_walks.proofs.Through.{records_passes, records_follow}
use Rattle.program_walks.proofs.ThroughCalls.{through_next}
use Rattle.program_walks.proofs.LivesFailedByEnding.{records_ending}

-- the life in the word of an operation isn't live
abbrev pub IsPast : Plan → Core → ℕ → Type 0
IsPast p c o = (s : ℕ) → get_or c.words (open_index p o) 0 ≡ s + 1 → s + 1 ≢ NO_SOCKET → vref_version (get_or c.words (ref_index (socket_id_slot s)) 0) ≢ socket_id_version s

-- a seat that is at rest begins the ending
pub recorded_ending : (p : Plan) (os : List ℕ) (Q : ℕ → ℕ → Type 0) (c : Core) (vs : List View) → Recorded p Q c vs → ((seat : SeatState) → get_elem? c.seats 0 ≡ some seat → seat.program ≡ Rest) → Recorded p Q (with_seat 0 (ending_of os) [] c.words c.homes c) vs
recorded_ending p os Q c vs r rests = record {
  left = r.left;
  among = r.among;
  apart = r.apart;
  records = λ j s at. ⊎_elim
      (λ a. subst (λ (x : SeatState). Records (r.left j) x.program) a.1 (through_next (Records (r.left j)) (records_passes (r.left j)) (records_follow (r.left j)) (waiting_at c.calls.waiting 0) (ending_of os)
      (records_more (ending_of os) nothing (r.left j) (λ o e. absurd (true≢false (sym e))) (records_ending os))))
      (λ a. r.records j s a.1) (at_set c.seats 0 j seat s at);
  once = λ o inside some_ j. r.once o inside some_ j;
  lives = λ i h inside born. stays (socket_id h i) (r.lives i h inside born);
}
  where
    seat : SeatState
    seat = record { program = next_step (resolved (waiting_at c.calls.waiting 0) (ending_of os)); hand = [] }

    stays : (id : ℕ) → Stands p Q c r.left id → Stands p Q (with_seat 0 (ending_of os) [] c.words c.homes c) r.left id
    stays id (inl (j, o, q, x)) = inl (j, o, q, record { inside = x.inside; word = x.word; spent = x.spent })
    stays id (inr x) = dite (ℕ_discrete x.place 0)
        (λ e. absurd (some-ne-none (x.operation, id + 1) (sym x.next ∙ ap next_stores (rests x.seat (ap (get_elem? c.seats) (sym e) ∙ x.there)))))
        (λ far. inr record { place = x.place; seat = x.seat; there = set_else c.seats 0 x.place seat far ∙ x.there; operation = x.operation; next = x.next })

-- the run is ending, which changes nothing of it
pub recorded_on : (p : Plan) (Q : ℕ → ℕ → Type 0) (c : Core) (vs : List View) → Recorded p Q c vs → Recorded p Q (is_ending c) vs
recorded_on p Q c vs r = record { left = r.left; among = r.among; apart = r.apart; records = r.records; once = λ o inside some_ j. r.once o inside some_ j; lives = λ i h inside born. stays (socket_id h i) (r.lives i h inside born) }
  where
    stays : (id : ℕ) → Stands p Q c r.left id → Stands p Q (is_ending c) r.left id
    stays id (inl (j, o, q, x)) = inl (j, o, q, record { inside = x.inside; word = x.word; spent = x.spent })
    stays id (inr x) = inr record { place = x.place; seat = x.seat; there = x.there; operation = x.operation; next = x.next }

-- where all is at rest, and no word of an operation is of a live life, every life was failed
pub rested_failed : (p : Plan) (Q : ℕ → ℕ → Type 0) (c : Core) (vs : List View) → Sound p c vs → Recorded p Q c vs → AllRest c → ((j o : ℕ) → Q j o → IsPast p c o) → AllFailed p c vs
rested_failed p Q c vs sound r rests past i h inside born = ⊎_elim
    (λ x. let far = past x.0 x.1 x.2 (socket_id h i) x.3.word low in gone_on (λ e. far (ap (λ z. vref_version (get_or c.words (ref_index z) 0)) slot_is ∙ (e ∙ sym version_is))))
    (λ x. absurd (some-ne-none (x.operation, socket_id h i + 1) (sym x.next ∙ ap next_stores (rests x.place x.seat x.there))))
    (r.lives i h inside born)
  where
    few : i < 4294967296
    few = let l = sound.limits.slots in omega (arith, inside, l)

    slot_is : socket_id_slot (socket_id h i) ≡ i
    slot_is = omega (arith, few)

    version_is : socket_id_version (socket_id h i) ≡ h
    version_is = omega (arith, few)

    low : socket_id h i + 1 ≢ NO_SOCKET
    low e = let l = law p (state c vs) sound.lawful.references i inside in let t = life_is p.first h ((slot_facts (state c vs) i).version + live (slot_facts (state c vs) i)) (omega (arith, born, l.born h)) in
        let t₁ = t.1 in let e' : h * 4294967296 + i + 1 ≡ 18446744073709551615 = e in omega (arith, t₁, l.top, lives_le p (state c vs) sound.lawful.references i inside, sound.limits.slots, e')

    -- a life whose version has gone on was failed
    gone_on : (slot_facts (state c vs) i).version ≢ h → 0 < count (is_failer h) (slot_facts (state c vs) i)
    gone_on far = let l = law p (state c vs) sound.lawful.references i inside in let t = life_is p.first h ((slot_facts (state c vs) i).version + live (slot_facts (state c vs) i)) (omega (arith, born, l.born h)) in
        let t₀ = t.0 in let t₁ = t.1 in let t₂ = t.2 in let le = lives_le p (state c vs) sound.lawful.references i inside in
        omega (arith, l.failed h, life-in p.first h (slot_facts (state c vs) i).version t₀ (omega arith) t₂)
