-- Each whole frame that a link takes of what it accepted is the request of an attempt of a call, of a version below the end of its range.
use Rattle.std.proofs.Common.{◌≡◌, ◌≢◌, ℕ, zero, suc, ◌+◌, ◌<◌, ◌≤◌, cond, ne_eqb, List, [], ◌∷◌, ◌++◌, length, take, flat_map, slice_get, Some, ⊎_elim, refl, sym, ap, ◌∙◌, subst, arith}
use Rattle.std.specs.List.{AllByRecursion}
use mathlib.Core.Option.{some}
use lib.ListN.{get_elem?}
use Rattle.chain_steps.proofs.UntouchedByChainSteps.{in_log}
use Rattle.slot_steps.proofs.SlotWeightSums.{term_le}
use Rattle.sock_words.specs.declared.plain.Plan.{Plan}
use Rattle.sock_model.specs.declared.chain.Entry.{Entry}
use Rattle.sock_model.specs.declared.chain.Heading.{Heading}
use Rattle.sock_model.specs.declared.view.View.{View}
use Rattle.sock_model.specs.Deliveries.{whole}
use Rattle.sock_model.specs.Entries.{on}
use Rattle.brpc_model.specs.Frame.{Frame, IsFrame}
use Rattle.brpc_model.specs.FrameStream.{stream, stream_from}
use Rattle.served_fits.specs.Below.script_facts.proofs.FilteredLists.{all_at, all_from}
use Rattle.corr_core.specs.declared.marks.Plan.{Plan as IdPlan}
use Rattle.sock_message.specs.Asked.{Asked, request_of, frame_of}
use Rattle.seat_programs.specs.Cores.{Core}
use Rattle.served_fits.specs.Below.programs_allowed.specs.program_steps.specs.SoundSeats.{Sound}
use Rattle.id_runs.specs.HeldIdTokens.{IdView}
use Rattle.id_runs.specs.Goes.{SoundIds}
use Rattle.served_fits.specs.Below.label_runs.specs.AttemptLabelsLeft.{Trial}
use Rattle.served_fits.specs.Below.call_owing.specs.SoundOwing.{id_word_of}
use Rattle.served_fits.specs.Below.call_owing.proofs.EndsStill as still
use Rattle.served_fits.specs.Below.call_causes.proofs.HandledResponses.{bound}
use Rattle.served_fits.specs.Below.call_stories.proofs.StreamFramesStay.{frames_stay}
use Rattle.served_fits.specs.Below.accept_counts.specs.AttemptCounts.{pair_of, of_heading, of_entry, of_view, times_of, IsOfCall, EntryFits, LabelLaw}
use Rattle.served_fits.specs.served_runs.proofs.WholeFrameStreams.{IsPiece, piece_frames, IsSmall, request_is}
use Rattle.calls_over.proofs.SoonLists.{Stood, log_stood}
use Rattle.calls_over.proofs.SoonWords.{bound_low}
use Rattle.served_fits.specs.Below.own_decisions.proofs.OwnDecisionsTicks.{pair_self}
use Rattle.sock_words.specs.PackedWords.{id_slot, id_first}
use Rattle.sock_words.specs.Totals.{total}

-- ## Requests of ranges that have begun

-- the frame is the request of an attempt of a call, below the end of the range that its id slot has, or had last
pub record IsLow (q : IdPlan) (c : Core) (f : Frame) : Type 0 where
  pub asked : Asked
  pub id : ℕ
  pub attempt : ℕ
  pub small : IsSmall asked id attempt
  pub frame : f ≡ request_of asked id attempt
  pub inside : id_slot id < q.slots
  pub fits : id_first id + attempt + 1 < 4294967296
  pub below : id_first id + attempt + 1 < bound (id_word_of c (id_slot id))

-- so it stays while no range ends lower
pub low_on : (q : IdPlan) (c d : Core) → ((i : ℕ) → i < q.slots → bound (id_word_of c i) ≤ bound (id_word_of d i)) → (f : Frame) → IsLow q c f → IsLow q d f
low_on q c d up f l = record { asked = l.asked; id = l.id; attempt = l.attempt; small = l.small; frame = l.frame; inside = l.inside; fits = l.fits; below = (let a = l.below in let b = up (id_slot l.id) l.inside in omega (arith, a, b)) }

-- no message of link k is that of a `send`
abbrev pub NonePlain : ℕ → List View → Type 0
NonePlain k vs = (e : Entry) → Stood vs e → e.link ≡ k → e.heading.owner ≡ 0 → ⊥

-- ## Chains of pieces

module _ (p : Plan) (q : IdPlan) (narrow : q.slots ≤ 65536) (is_call : Asked → Type 0) (short : (asked : Asked) → is_call asked → (id n : ℕ) → length (frame_of asked id n) ≤ 131072) (ids : ℕ → ℕ) (c : Core) (vs : List View) (ts : List Trial)
    (law : LabelLaw is_call ids p q c vs ts) (standing : (id n : ℕ) → 0 < times_of id n c vs ts → id_first id + n + 1 < bound (id_word_of c (id_slot id))) (us : List IdView) (real : SoundIds p q c us) (k : ℕ) (none_plain : NonePlain k vs) where
  own_heading : (w : Heading) → w.owner ≢ 0 → of_heading w.owner w.label.attempt w ≡ 1
  own_heading w some_ = ap (λ z. cond z 0 (pair_of w.owner w.label.attempt w.owner w.label.attempt)) (ne_eqb w.owner 0 some_) ∙ pair_self w.owner w.label.attempt

  -- the attempt of a message that was accepted stands there
  counted : (e : Entry) → Stood vs e → e.heading.owner ≢ 0 → 0 < times_of e.heading.owner e.heading.label.attempt c vs ts
  counted e s some_ = let one : of_entry e.heading.owner e.heading.label.attempt e ≡ 1 = own_heading e.heading some_ in
      let here = term_le (of_entry e.heading.owner e.heading.label.attempt) s.made s.place e s.stands in
      let listed = term_le (total (of_entry e.heading.owner e.heading.label.attempt)) s.view.lists s.list s.made s.lists in
      let view = term_le (of_view e.heading.owner e.heading.label.attempt) vs s.seat s.view s.here in omega (arith, one, here, listed, view)

  -- so its bytes are those of such a request
  entry_piece : (e : Entry) → Stood vs e → e.link ≡ k → IsPiece (IsLow q c) e.bytes
  entry_piece e s own = by (still.all_at (EntryFits is_call ids p) s.made s.place e (still.all_at (AllByRecursion (EntryFits is_call ids p)) s.view.lists s.list s.made (law.views s.seat s.view s.here).1 s.lists) s.stands)
    where
      of_call : IsOfCall is_call ids e.heading e.bytes → IsPiece (IsLow q c) e.bytes
      of_call f = record {
        frame = request_of f.4.0 e.heading.owner e.heading.label.attempt;
        is = subst (λ b. IsFrame b (request_of f.4.0 e.heading.owner e.heading.label.attempt)) (sym f.4.3) (request_is f.4.0 e.heading.owner e.heading.label.attempt small);
        holds = record { asked = f.4.0; id = e.heading.owner; attempt = e.heading.label.attempt; small = small; frame = refl; inside = inside; fits = (let b = bound_low p q c us real (id_slot e.heading.owner) inside in omega (arith, b, below)); below = below };
      }
        where
          there : 0 < times_of e.heading.owner e.heading.label.attempt c vs ts
          there = counted e s f.0

          inside : id_slot e.heading.owner < q.slots
          inside = (law.made e.heading.owner e.heading.label.attempt there).0

          below : id_first e.heading.owner + e.heading.label.attempt + 1 < bound (id_word_of c (id_slot e.heading.owner))
          below = standing e.heading.owner e.heading.label.attempt there

          small : IsSmall f.4.0 e.heading.owner e.heading.label.attempt
          small = record { short = short f.4.0 f.4.1 e.heading.owner e.heading.label.attempt; low = (let i = inside in let few = f.3 in omega (arith, i, narrow, few)) }

      by : EntryFits is_call ids p e → IsPiece (IsLow q c) e.bytes
      by (head, body) = ⊎_elim (λ plain. absurd (none_plain e s own plain.0)) of_call head

  module _ (sound : Sound p c vs) where
    abbrev chain : List Entry
    chain = on k sound.lawful.log

    chain_piece : (i : ℕ) (e : Entry) → get_elem? (on k sound.lawful.log) i ≡ some e → IsPiece (IsLow q c) e.bytes
    chain_piece i e at = let l = in_log sound.lawful.chains k i e at in entry_piece e (log_stood p c vs sound.lawful l.0 e l.1) l.2

    -- the frames in the front of the chain are such requests
    pub front_low : (took : List ℕ) (n : ℕ) (more : List ℕ) → took ++ more ≡ whole (on k sound.lawful.log) n → AllByRecursion (IsLow q c) (stream took).frames
    front_low took n more is = all_from (IsLow q c) (stream took).frames (λ f h. all_at (IsLow q c) (stream_from 0 (whole (on k sound.lawful.log) n)).frames f (whole_low (on k sound.lawful.log) n chain_piece)
        (h.0, subst (λ l. slice_get (stream_from 0 l).frames h.0 ≡ Some f) is (frames_stay (suc (length took)) 0 took more h.0 f (omega arith) h.1)))
      where
        whole_flat : (es : List Entry) (n : ℕ) → whole es n ≡ flat_map (λ (e : Entry). e.bytes) (take n es)
        whole_flat [] zero = refl
        whole_flat [] (suc n) = refl
        whole_flat (e ∷ es) zero = refl
        whole_flat (e ∷ es) (suc n) = ap (λ l. e.bytes ++ l) (whole_flat es n)

        pieces : (es : List Entry) (n : ℕ) → ((i : ℕ) (e : Entry) → get_elem? es i ≡ some e → IsPiece (IsLow q c) e.bytes) → AllByRecursion (λ (e : Entry). IsPiece (IsLow q c) e.bytes) (take n es)
        pieces [] zero each = tt
        pieces [] (suc n) each = tt
        pieces (e ∷ es) zero each = tt
        pieces (e ∷ es) (suc n) each = (each 0 e refl, pieces es n (λ i x at. each (suc i) x at))

        whole_low : (es : List Entry) (n : ℕ) → ((i : ℕ) (e : Entry) → get_elem? es i ≡ some e → IsPiece (IsLow q c) e.bytes) → AllByRecursion (IsLow q c) (stream_from 0 (whole es n)).frames
        whole_low es n each = subst (λ l. AllByRecursion (IsLow q c) (stream_from 0 l).frames) (sym (whole_flat es n)) (piece_frames (λ (e : Entry). e.bytes) (IsLow q c) (take n es) (pieces es n each) 0)
