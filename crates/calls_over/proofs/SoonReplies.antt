-- A reply to a request of a range that has begun didn't come before its call began.
use Rattle.std.proofs.Common.{◌≡◌, ℕ, zero, suc, ◌+◌, ◌≤◌, ◌&&◌, nat_lt, leb-true, ⊎_elim, inl, inr, Bool, true, false, cond, List, [], ◌∷◌, ◌++◌, length, take, drop, flat_map, slice_get, Option, Some, None, refl, sym, ap, ◌∙◌, subst, arith}
use Rattle.std.specs.List.{AllByRecursion}
use Rattle.std.specs.Prelude.{slice_index}
use Rattle.brpc_model.specs.Frame.{Frame, frame_bytes}
use Rattle.brpc_model.specs.Reply.{reply, reply_frames}
use Rattle.brpc_model.specs.ServedForTakenBytes.{first_of}
use Rattle.brpc_model.specs.FrameStream.{stream, stream_from}
use Rattle.served_fits.specs.Below.script_facts.proofs.FilteredLists.{Has, has_later, all_at, all_from, filter_map_has}
use Rattle.corr_core.specs.IdSlotWord.{parts}
use Rattle.corr_core.specs.declared.marks.Plan.{Plan as IdPlan}
use Rattle.corr_core.specs.IdRangeVersions.{is_early}
use Rattle.id_rule.specs.LawfulIdTable.{id_index}
use Rattle.seat_programs.specs.Cores.{Core}
use Rattle.seat_programs.specs.ReaderProgram.{has_response, slot_in, version_in}
use Rattle.served_fits.specs.Below.call_owing.specs.SoundOwing.{id_word_of}
use Rattle.served_fits.specs.Below.call_stories.specs.LinkReadingLists.{Take, gave_in, is_soon, soon_from, soon_by}
use Rattle.served_fits.specs.Below.call_causes.proofs.HandledResponses.{bound, early_is}
use Rattle.served_fits.specs.Below.call_stories.proofs.StreamFramesStay.{frames_stay}
use Rattle.served_fits.specs.served_runs.proofs.WholeFrameStreams.{IsPiece, piece_frames, reply_is}
use Rattle.calls_over.proofs.SoonPieces.{IsLow}
use Rattle.served_fits.specs.Below.call_causes.proofs.RunOfCallStory.{in_either}
use Rattle.served_fits.specs.Below.call_stories.proofs.PostLoopCauses.{and_right}
use Rattle.served_fits.specs.Below.outcome_stories.specs.OperationStories.{In}
use Rattle.sock_words.specs.PackedWords.{id_slot, id_first}

-- ## One reply

module _ (q : IdPlan) (c : Core) where
  -- where it is as a reader finds a response, it is of an id that ends higher
  pub reply_late : (f g : Frame) → IsLow q c f → reply f ≡ Some g → is_soon c g ≡ true → ⊥
  reply_late f g l is soon = let slot = slot_is in let first = first_is in let z = ends slot in let b = l.below in omega (arith, z, first, b)
    where
      same : g.meta.correlation_id ≡ l.id + l.attempt + 1
      same = (reply_is l.asked l.id l.attempt g l.small (sym (ap reply l.frame) ∙ is)).1

      slot_is : slot_in g ≡ id_slot l.id
      slot_is = ap id_slot same ∙ (let fits = l.fits in let z : id_slot (l.id + l.attempt + 1) ≡ id_slot l.id = omega (arith, fits) in z)

      first_is : version_in g ≡ id_first l.id + l.attempt + 1
      first_is = ap id_first same ∙ (let fits = l.fits in let z : id_first (l.id + l.attempt + 1) ≡ id_first l.id + l.attempt + 1 = omega (arith, fits) in z)

      early : is_early (version_in g) (parts (slice_index c.calls.words (id_index (slot_in g)))) ≡ true
      early = and_right (nat_lt (slot_in g) c.calls.plan.slots) (is_early (version_in g) (parts (slice_index c.calls.words (id_index (slot_in g)))))
          (and_right (has_response g.meta.response) (nat_lt (slot_in g) c.calls.plan.slots && is_early (version_in g) (parts (slice_index c.calls.words (id_index (slot_in g))))) soon)

      ends : slot_in g ≡ id_slot l.id → bound (id_word_of c (id_slot l.id)) ≤ version_in g
      ends slot = subst (λ j. bound (id_word_of c j) ≤ version_in g) slot (leb-true (bound (parts (slice_index c.calls.words (id_index (slot_in g))))) (version_in g) (sym (early_is (version_in g) (slice_index c.calls.words (id_index (slot_in g)))) ∙ early))

  -- ## What a link gave

  abbrev IsReplied : Frame → Type 0
  IsReplied g = (f : Frame) × IsLow q c f × (reply f ≡ Some g)

  first_all : (end : Option ℕ) (gs : List Frame) → AllByRecursion IsReplied gs → AllByRecursion IsReplied (first_of end gs)
  first_all None gs all = all
  first_all (Some n) gs all = by n gs all
    where
      by : (n : ℕ) (gs : List Frame) → AllByRecursion IsReplied gs → AllByRecursion IsReplied (take n gs)
      by zero [] all = tt
      by zero (g ∷ gs) all = tt
      by (suc n) [] all = tt
      by (suc n) (g ∷ gs) all = (all.0, by n gs all.1)

  -- a link that gave the front of the replies gave none before its call began
  pub given_late : (end : Option ℕ) (took gave more : List ℕ) → AllByRecursion (IsLow q c) (stream took).frames → gave ++ more ≡ flat_map frame_bytes (first_of end (reply_frames took)) → (g : Frame) → Has (stream gave).frames g → is_soon c g ≡ true → ⊥
  given_late end took gave more low is g there soon = let r = all_at IsReplied (stream_from 0 (flat_map frame_bytes gs)).frames g (piece_frames frame_bytes IsReplied gs pieces 0)
      (there.0, subst (λ l. slice_get (stream_from 0 l).frames there.0 ≡ Some g) is (frames_stay (suc (length gave)) 0 gave more there.0 g (omega arith) there.1)) in reply_late r.0 g r.1 r.2 soon
    where
      gs : List Frame
      gs = first_of end (reply_frames took)

      replied : AllByRecursion IsReplied (reply_frames took)
      replied = all_from IsReplied (reply_frames took) (λ g h. let w = filter_map_has reply (stream took).frames g h in (w.0, all_at (IsLow q c) (stream took).frames w.0 low w.1, w.2))

      pieces : AllByRecursion (λ g. IsPiece IsReplied (frame_bytes g)) gs
      pieces = all_from (λ g. IsPiece IsReplied (frame_bytes g)) gs (λ g h. let r = all_at IsReplied gs g (first_all end (reply_frames took) replied) h in let l = r.1 in
          record { frame = g; is = (reply_is l.asked l.id l.attempt g l.small (sym (ap reply l.frame) ∙ r.2)).0; holds = r })

-- ## Soon frames

has_drop : {A : Type 0} (n : ℕ) (xs : List A) (x : A) → Has (drop n xs) x → Has xs x
has_drop zero [] x h = h
has_drop zero (y ∷ xs) x h = h
has_drop (suc n) [] x h = h
has_drop (suc n) (y ∷ xs) x h = has_later y xs x (has_drop n xs x h)

-- a soon frame is one of the link's, and is soon
abbrev pub IsSoonOf : Core → ℕ → List Frame → Type 0
IsSoonOf d k fs = (f : Frame) × Has fs f × (is_soon d f ≡ true)

soon_in : (d : Core) (l n : ℕ) (fs : List Frame) (x : ℕ × ℕ) → In x (soon_from d l n fs) → (x.0 ≡ l) × IsSoonOf d l fs
soon_in d l n [] x there = absurd there
soon_in d l n (f ∷ fs) x there = by (is_soon d f) refl (soon_in d l (n + 1) fs x) there
  where
    more : (x.0 ≡ l) × IsSoonOf d l fs → (x.0 ≡ l) × IsSoonOf d l (f ∷ fs)
    more (same, (g, has, is)) = (same, (g, has_later f fs g has, is))

    by : (b : Bool) → is_soon d f ≡ b → (In x (soon_from d l (n + 1) fs) → (x.0 ≡ l) × IsSoonOf d l fs) → In x (cond b ((l, n) ∷ soon_from d l (n + 1) fs) (soon_from d l (n + 1) fs)) → (x.0 ≡ l) × IsSoonOf d l (f ∷ fs)
    by true is later (inl same) = (ap (λ (y : ℕ × ℕ). y.0) same, (f, (zero, refl), is))
    by true is later (inr rest) = more (later rest)
    by false is later rest = more (later rest)

-- so of all takes of a tick
pub soon_of : (c d : Core) (takes : List Take) (k j : ℕ) → In (k, j) (flat_map (soon_by c d) takes) → IsSoonOf d k (stream (gave_in d k)).frames
soon_of c d [] k j there = absurd there
soon_of c d (t ∷ takes) k j there = ⊎_elim
    (λ here. let before = length (stream (gave_in c t.link)).frames in let s = soon_in d t.link before (drop before (stream (gave_in d t.link)).frames) (k, j) here in
    subst (λ l. IsSoonOf d l (stream (gave_in d l)).frames) (sym s.0) (s.1.0, has_drop before (stream (gave_in d t.link)).frames s.1.0 s.1.1, s.1.2))
    (λ later. soon_of c d takes k j later) (in_either (k, j) (soon_by c d t) (flat_map (soon_by c d) takes) there)
