-- A reader that posts, or sets its socket failed, has handled all frames that its link gives: each response that its id might have stands among the soon ones.
use Rattle.std.proofs.Common.{◌≡◌, ℕ, ◌+◌, ◌<◌, ◌≤◌, ◌==◌, ◌&&◌, inl, inr, ⊎_elim, Bool, true, false, cond, eqb-true, eq-eqb, nat_lt, lt-ltb, List, [], ◌∷◌, length, slice_get, Some, refl, sym, ap, ◌∙◌, subst, arith}
use Rattle.std.specs.Prelude.{slice_index}
use Rattle.std.proofs.lemmas.Bool.{true≢false}
use mathlib.Core.Option.{Option, none, some, some-injective}
use lib.ListN.{get_elem?}
use Rattle.sock_words.specs.declared.plain.Plan.{Plan}
use Rattle.seat_programs.specs.brpc_model.specs.Frame.{Frame}
use Rattle.corr_core.specs.IdSlotWord.{Parts, parts}
use Rattle.seat_programs.specs.id_rule.specs.LawfulIdTable.{id_index}
use Rattle.corr_core.specs.declared.marks.Plan.{Plan as IdPlan}
use Rattle.seat_programs.specs.TableSteps.{OnName, LoadOpen}
use Rattle.seat_programs.specs.Asides.{Step, Found, PostId, Taking}
use Rattle.seat_programs.specs.LoopHeads.{Retry, Decides, Locks}
use Rattle.seat_programs.specs.Programs.{Program, Do, Aside, Round}
use Rattle.seat_programs.specs.FoundAndChangedAside.{found_in}
use Rattle.seat_programs.specs.ReaderProgram.{slot_in, version_in, kept_for}
use Rattle.seat_programs.specs.Cores.{Core, SeatState}
use Rattle.seat_programs.specs.Ticks.{Moment, taken}
use Rattle.story_ticks.specs.Below.owing_ticks.proofs.OwingRuns.{same_first}
use Rattle.story_ticks.specs.call_stories.specs.PostsOfRun.{Post, posts_by, posted_with, posted_at}
use Rattle.call_causes.proofs.HandledResponses.{Sit, word_of, frames_in, IsResp, Done, Later, Over, Frozen, all_at, over_on, frozen_on}
use Rattle.call_causes.proofs.HandledStates.{after_first, after_map}
use Rattle.call_causes.proofs.HandledSteps.{IsOver, over_onward, Onward, State, waiting, reading, seeking, taking, ending_, freeing, over, state_on, onward}
use Rattle.call_causes.proofs.HandledTicks.{sit, Known, HasReader}
use Rattle.seat_programs.specs.LoopRounds.{first_step}
use Rattle.story_ticks.specs.Below.outcome_stories.specs.OperationStories.{In}
use Rattle.sock_words.specs.PackedWords.{call_id, id_slot, id_first}

-- ## A reader behind the end of its reading

module _ (k ids : ℕ) where
  -- each response of a version behind this first one, in this id slot, is soon
  abbrev pub Claim : ℕ → ℕ → Sit → Type 0
  Claim i first s = (n : ℕ) (f : Frame) → slice_get (frames_in s.bytes) n ≡ Some f → IsResp k ids f → slot_in f ≡ i → first < version_in f → In (k, n) s.soon

  -- link k gave no response of so many versions behind this first one, in this id slot
  abbrev pub Silent : ℕ → ℕ → ℕ → Sit → Type 0
  Silent i first range s = (n : ℕ) (f : Frame) → slice_get (frames_in s.bytes) n ≡ Some f → IsResp k ids f → slot_in f ≡ i → first < version_in f → version_in f < first + range → ⊥

  -- where the slot has this range
  claim_here : (s : Sit) (kept : List Frame) (i : ℕ) → Over k ids s kept → Claim i (word_of s i).first s
  claim_here s kept i ov n f there resp slot behind = ⊎_elim
      (λ gone. absurd (let low = subst (λ j. version_in f ≤ (word_of s j).first) slot gone in omega (arith, behind, low)))
      (λ x. subst (λ j. In (k, j) s.soon) (let z : 0 + n ≡ n = omega arith in z) x.0)
      (all_at (Done k ids s kept) 0 (frames_in s.bytes) ov n f there resp)

  claim_on : (i first : ℕ) (s t : Sit) → frames_in t.bytes ≡ frames_in s.bytes → ((x : ℕ × ℕ) → In x s.soon → In x t.soon) → Claim i first s → Claim i first t
  claim_on i first s t same soon claim n f there resp slot low = soon (k, n) (claim n f (subst (λ fs. slice_get fs n ≡ Some f) same there) resp slot low)

  silent_on : (i first range : ℕ) (s t : Sit) → frames_in t.bytes ≡ frames_in s.bytes → ((x : ℕ × ℕ) → In x s.soon → In x t.soon) → Silent i first range s → Silent i first range t
  silent_on i first range s t same soon claim n f there resp slot low high = claim n f (subst (λ fs. slice_get fs n ≡ Some f) same there) resp slot low high

  -- what is kept for an id
  none_kept : (id range : ℕ) (f : Frame) → slot_in f ≡ id_slot id → id_first id < version_in f → version_in f < id_first id + range → (kept : List Frame) → kept_for id range kept ≡ [] → In f kept → ⊥
  none_kept id range f slot low high [] none_ there = there
  none_kept id range f slot low high (g ∷ gs) none_ there = by_test ((slot_in g == id_slot id) && (nat_lt id g.meta.correlation_id && nat_lt g.meta.correlation_id (id + range))) refl none_ (none_kept id range f slot low high gs)
    where
      fits : (slot_in f == id_slot id) && (nat_lt id f.meta.correlation_id && nat_lt f.meta.correlation_id (id + range)) ≡ true
      fits = three (slot_in f == id_slot id) (nat_lt id f.meta.correlation_id) (nat_lt f.meta.correlation_id (id + range)) (eq-eqb (slot_in f) (id_slot id) slot)
          (lt-ltb id f.meta.correlation_id (omega (arith, slot, low))) (lt-ltb f.meta.correlation_id (id + range) (omega (arith, slot, high)))
        where
          three : (a b c : Bool) → a ≡ true → b ≡ true → c ≡ true → (a && (b && c)) ≡ true
          three true true true x y z = refl
          three false b c x y z = x
          three true false c x y z = y
          three true true false x y z = z

      by_test : (b : Bool) → (slot_in g == id_slot id) && (nat_lt id g.meta.correlation_id && nat_lt g.meta.correlation_id (id + range)) ≡ b → cond b (g ∷ kept_for id range gs) (kept_for id range gs) ≡ [] → (kept_for id range gs ≡ [] → In f gs → ⊥) → ⊥
      by_test true is none_ rest = cc
      by_test false is none_ rest = ⊎_elim
          (λ same. true≢false (sym (subst (λ h. (slot_in h == id_slot id) && (nat_lt id h.meta.correlation_id && nat_lt h.meta.correlation_id (id + range)) ≡ true) same fits) ∙ is))
          (λ later. rest none_ later) there

  pub silent_here : (s : Sit) (kept : List Frame) (id range : ℕ) → Over k ids s kept → (word_of s (id_slot id)).first ≡ id_first id → kept_for id range kept ≡ [] → Silent (id_slot id) (id_first id) range s
  silent_here s kept id range ov here none_ n f there resp slot low high = ⊎_elim
      (λ gone. let z = subst (λ j. version_in f ≤ (word_of s j).first) slot gone in omega (arith, low, z, here))
      (λ x. none_kept id range f slot low high kept none_ x.1)
      (all_at (Done k ids s kept) 0 (frames_in s.bytes) ov n f there resp)

  -- ## What such a reader claims lasts

  module _ (C : Sit → Type 0) (c_on : (s t : Sit) → frames_in t.bytes ≡ frames_in s.bytes → ((x : ℕ × ℕ) → In x s.soon → In x t.soon) → C s → C t) where
    abbrev pub With : Sit → Program → Type 0
    With s x = IsOver k ids s x × C s

    pub with_on : (s t : Sit) → Later k ids s t → (x : Program) → With s x → With t x
    with_on s t l x c = (
      (c.0.0, over_on k ids s t l c.0.0 c.0.1, after_map (Frozen k ids s) (Frozen k ids t) c.0.0 (frozen_on k ids s t l) x c.0.2),
      c_on s t (ap frames_in l.bytes) l.soon c.1,
    )

    pub with_onward : (s t : Sit) (ws : List Retry) (x : Program) → With s x → Onward k ids With s t ws (first_step x)
    with_onward s t ws x c = over_onward k ids s t ws c.0.0 c.0.1 With (λ same soon y still. (still, c_on s t same soon c.1)) (first_step x) (after_first (Frozen k ids s) c.0.0 x c.0.2)

  abbrev pub Claims : ℕ → ℕ → Sit → Program → Type 0
  Claims i first s x = IsOver k ids s x × Claim i first s

  pub claims_on : (i first : ℕ) (s t : Sit) → Later k ids s t → (x : Program) → Claims i first s x → Claims i first t x
  claims_on i first s t l x c = with_on (Claim i first) (claim_on i first) s t l x c

  pub claims_onward : (i first : ℕ) (s t : Sit) (ws : List Retry) (x : Program) → Claims i first s x → Onward k ids (Claims i first) s t ws (first_step x)
  claims_onward i first s t ws x c = with_onward (Claim i first) (claim_on i first) s t ws x c

  abbrev pub Silence : ℕ → ℕ → ℕ → Sit → Program → Type 0
  Silence i first range s x = IsOver k ids s x × Silent i first range s

  pub silence_on : (i first range : ℕ) (s t : Sit) → Later k ids s t → (x : Program) → Silence i first range s x → Silence i first range t x
  silence_on i first range s t l x c = with_on (Silent i first range) (silent_on i first range) s t l x c

  pub silence_onward : (i first range : ℕ) (s t : Sit) (ws : List Retry) (x : Program) → Silence i first range s x → Onward k ids (Silence i first range) s t ws (first_step x)
  silence_onward i first range s t ws x c = with_onward (Silent i first range) (silent_on i first range) s t ws x c

  -- ## Who posts

  module _ (calls : List ℕ) (o : ℕ) (many : length calls ≡ ids) where
    -- a step that only a reader behind the end of its reading makes
    abbrev pub IsLate : Program → Type 0
    IsLate (Do (OnName (LoadOpen n)) next) = ⊥
    IsLate (Do call next) = Unit {0}
    IsLate (Aside (PostId i from e) next) = Unit {0}
    IsLate other = ⊥

    -- a decision
    abbrev pub IsDecision : Program → Type 0
    IsDecision (Round (Decides id asked word e) next) = Unit {0}
    IsDecision other = ⊥

    pub deciding_over : (s : Sit) (x : Program) → State k ids calls o many s x → IsDecision x → IsOver k ids s x
    deciding_over s x (waiting is none_) d = absurd (subst IsDecision is d)
    deciding_over s x (reading r is at) d = absurd (subst IsDecision is d)
    deciding_over s x (seeking r bytes before f fs kept w is resp sought m) d = absurd (subst IsDecision is d)
    deciding_over s x (taking r bytes before f fs kept first is resp b m) d = absurd (subst IsDecision is d)
    deciding_over s x (ending_ r bytes before f fs kept n outcome is resp b m) d = absurd (subst IsDecision is d)
    deciding_over s x (freeing r bytes before fs kept i n outcome is m) d = absurd (subst IsDecision is d)
    deciding_over s x (over kept ov a) d = (kept, ov, a)

    -- whoever makes one is
    pub late_over : (s : Sit) (x : Program) → State k ids calls o many s x → IsLate (first_step x) → IsOver k ids s x
    late_over s x (waiting is none_) late = absurd (subst (λ y. IsLate (first_step y)) is late)
    late_over s x (reading r is at) late = absurd (subst (λ y. IsLate (first_step y)) is late)
    late_over s x (seeking r bytes before f fs kept w is resp sought m) late = absurd (by_word w (subst (λ y. IsLate (first_step y)) is late))
      where
        by_word : (w : Rattle.std.specs.Prelude.Option ℕ) → IsLate (first_step (Round (Locks (slot_in f) (Rattle.seat_programs.specs.LoopHeads.Version (version_in f)) w) (Rattle.seat_programs.specs.ReaderProgram.answered f kept (λ kept'. Rattle.seat_programs.specs.ReaderProgram.responses r.ids fs kept' (Rattle.call_causes.proofs.HandledSteps.behind k ids calls o many r bytes))))) → ⊥
        by_word Rattle.std.specs.Prelude.None x = x
        by_word (Some from) x = x
    late_over s x (taking r bytes before f fs kept first is resp b m) late = absurd (subst (λ y. IsLate (first_step y)) is late)
    late_over s x (ending_ r bytes before f fs kept n outcome is resp b m) late = absurd (subst (λ y. IsLate (first_step y)) is late)
    late_over s x (freeing r bytes before fs kept i n outcome is m) late = absurd (subst (λ y. IsLate (first_step y)) is late)
    late_over s x (over kept ov a) late = (kept, ov, a)

-- ## A tick in which an id takes an error

pub record PostedBy (q : IdPlan) (t : Option Taking) (c : Core) (program : Program) (x : Post) : Type 0 where
  pub slot : ℕ
  pub from : ℕ
  pub error : ℕ
  pub next : ℕ → Program
  pub first : program ≡ Aside (PostId slot from error) next
  pub found : found_in (PostId slot from error) c.calls t ≡ some from
  pub id_is : x.id ≡ call_id slot (parts from).first
  pub error_is : x.error ≡ error

posted_step : (q : IdPlan) (t : Option Taking) (c : Core) (step : Step) (next : Found step → Program) (found : Found step) → found_in step c.calls t ≡ some found → (x : Post) → In x (posts_by step found) → PostedBy q t c (Aside step next) x
posted_step q t c (PostId i from e) next found is x there = by_hit (found == from) refl there
  where
    by_hit : (b : Bool) → (found == from) ≡ b → In x (cond b ((record { id = call_id i (parts from).first; error = e }) ∷ []) []) → PostedBy q t c (Aside (PostId i from e) next) x
    by_hit true hit (inl same) = record { slot = i; from = from; error = e; next = next; first = refl; found = is ∙ ap some (eqb-true found from hit); id_is = ap (λ (y : Post). y.id) same; error_is = ap (λ (y : Post). y.error) same }
    by_hit true hit (inr z) = absurd z
    by_hit false hit z = absurd z
posted_step q t c step next found is x there = absurd there

pub posted_is : (q : IdPlan) (t : Option Taking) (c : Core) (program : Program) (x : Post) → In x (posted_with c.calls t program) → PostedBy q t c program x
posted_is q t c (Aside step next) x there = by_found (found_in step c.calls t) refl there
  where
    by_found : (y : Option (Found step)) → found_in step c.calls t ≡ y → In x (elim y as (λ o. List Post) [ none ↦ [] | some found ↦ posts_by step found ]) → PostedBy q t c (Aside step next) x
    by_found none is z = absurd z
    by_found (some found) is z = posted_step q t c step next found is x z
posted_is q t c other x there = absurd there

module _ (p : Plan) (q : IdPlan) (k : ℕ) where
  abbrev pub HasOver : List (ℕ × ℕ) → Core → Type 0
  HasOver soon c = (seat : SeatState) → get_elem? c.seats (32 + k) ≡ some seat → IsOver k q.slots (sit k c soon) seat.program

  abbrev pub HasClaims : Post → List (ℕ × ℕ) → Core → Type 0
  HasClaims x soon c = (seat : SeatState) → get_elem? c.seats (32 + k) ≡ some seat → Claims k q.slots (id_slot x.id) (id_first x.id) (sit k c soon) seat.program

  module _ (c : Core) (m : Moment) (known : Known q c m) (x : Post) (there : In x (posted_at c m)) where
    -- by whom
    by_whom : (seat : SeatState) × (get_elem? c.seats m.seat ≡ some seat) × PostedBy q (taken m.answer) c (first_step seat.program) x
    by_whom = by_seat (get_elem? c.seats m.seat) refl there
      where
        by_seat : (y : Option SeatState) → get_elem? c.seats m.seat ≡ y → In x (elim y as (λ o. List Post) [ none ↦ [] | some seat ↦ posted_with c.calls (taken m.answer) (Rattle.seat_programs.specs.LoopRounds.first_step seat.program) ])
            → (seat : SeatState) × (get_elem? c.seats m.seat ≡ some seat) × PostedBy q (taken m.answer) c (first_step seat.program) x
        by_seat none e z = absurd z
        by_seat (some seat) e z = (seat, e, posted_is q (taken m.answer) c (first_step seat.program) x (subst (λ y. In x (posted_with c.calls (taken m.answer) y)) (same_first seat.program) z))

    -- the id's range is the one in its slot
    range_there : (id_first x.id ≡ (parts (slice_index c.calls.words (id_index (id_slot x.id)))).first)
    range_there =
        let b = by_whom.2 in let f = (known.facts by_whom.0 by_whom.1 (PostId b.slot b.from b.error) b.next (taken m.answer) b.from b.first b.found).finds in
        let low : (parts b.from).first ≤ 67108856 = (let e = ap (λ (y : Parts). y.first) f.0 in let z = f.1 in omega (arith, e, z)) in
        let slot : id_slot x.id ≡ b.slot = ap id_slot b.id_is ∙ (let z : id_slot (call_id b.slot (parts b.from).first) ≡ b.slot = omega (arith, low) in z) in
        let first : id_first x.id ≡ (parts b.from).first = ap id_first b.id_is ∙ (let z : id_first (call_id b.slot (parts b.from).first) ≡ (parts b.from).first = omega (arith, low) in z) in
        first ∙ (ap (λ (y : Parts). y.first) f.0 ∙ ap (λ i. (parts (slice_index c.calls.words (id_index i))).first) (sym slot))

    -- where the reader of the link is behind the end of its reading, all that is to be said of its responses is so
    pub claims_at : (soon : List (ℕ × ℕ)) → HasOver soon c → HasClaims x soon c
    claims_at soon ov seat at = let z = ov seat at in (z, subst (λ n. Claim k q.slots (id_slot x.id) n (sit k c soon)) (sym range_there) (claim_here k q.slots (sit k c soon) z.0 (id_slot x.id) z.1))

    -- and there it is where it posts
    pub over_at : (calls : List ℕ) (o : ℕ) (many : length calls ≡ q.slots) (soon : List (ℕ × ℕ)) → HasReader p q k (State k q.slots calls o many) (state_on k q.slots calls o many) (onward k q.slots calls o many) soon c → m.seat ≡ 32 + k → HasOver soon c
    over_at calls o many soon has own seat at = late_over k q.slots calls o many (sit k c soon) seat.program (has seat at)
        (subst (λ y. IsLate k q.slots calls o many y) (sym (ap (λ (y : SeatState). first_step y.program) (some-injective seat by_whom.0 (sym at ∙ (ap (get_elem? c.seats) (sym own) ∙ by_whom.1))) ∙ by_whom.2.first)) tt)
